-- After the last pass no host with a cable has anything to send.
use Rattle.std.proofs.Common.{◌≡◌, ◌<◌, ℕ, Bool, true, false, not, ◌&&◌, ◌||◌, List, [], ◌∷◌, map, nat_eq, Option, Some, None, is_some, refl, sym, ap, ◌∙◌, subst, arith, true≢false}
use Rattle.std.specs.List.{AllByRecursion}
use Rattle.std.proofs.lemmas.Bool.Decides.{nat_tests}
use Rattle.std.specs.Option.{option_map_or}
use Rattle.std.proofs.lemmas.Option.{same_Some}
use Rattle.world_defs.specs.Crossed.{is_new}
use Rattle.world_defs.specs.declared.replayed.Replayed.{Replayed}
use Rattle.world_defs.specs.declared.replayed.Replayed.TheVariants.{Back, Busy, Unknown}
use Rattle.world_defs.specs.Links.{LinkState, is_idle}
use Rattle.world_defs.specs.Fault.{replay}
use Rattle.world_defs.specs.declared.event.Event.TheVariants.{Inject, Replay, GiveUp}
use Rattle.world_defs.specs.declared.effect.Effect.{Effect}
use Rattle.world_defs.specs.declared.effect.Effect.TheVariants.{Idle}
use Rattle.world_defs.specs.Node.{Outgoing, is_message, to_send}
use Rattle.world_defs.specs.Logs.{clear, replays, round_pass, is_last_pass}
use Rattle.world_defs.specs.World.{WorldState, host_count, last_count, node_at, addresses, may_send, has_to_send}
use Rattle.world_defs.specs.Step.{of_replay, replayed, step, steps, after_all}
use Rattle.world_defs.specs.Drain.{changed, changes}
use Rattle.world_defs.specs.Settle.{serials, is_quiet}
use Rattle.world_laws.specs.Idle.{CannotInject}
use Rattle.world_laws.proofs.Idling.{step-idle}
use Rattle.world_laws.proofs.Draining.{changes-push, range-all}
use Rattle.world_laws.proofs.Resting.{idle-clear}
use Rattle.world_laws.proofs.Meanings.{quiet-test}
use Rattle.settle_laws.proofs.Views.{InjectOf, inject-is}
use Rattle.settle_laws.proofs.Staged.{given_up-links}
use Rattle.settle_laws.proofs.Plain.{idle-empty}
use Rattle.settle_laws.proofs.Whole.{IsCabled}

-- injections that change nothing
record AreIdle (w : WorldState) (hs : List ℕ) : Type 0 where
  same : (steps w (map Inject hs)).1 ≡ w
  each : AllByRecursion (λ h. (step w (Inject h)).0 ≡ Idle) hs

inject-idle : (w : WorldState) (h : ℕ) (r : Effect × WorldState) → InjectOf w h r → changed r.0 ≡ false → (r.0 ≡ Idle) × (r.1 ≡ w)
inject-idle w h r (InjectOf.idle e s) c = (e, s)
inject-idle w h r (InjectOf.sends d out chan e none allowed x s) c = absurd (true≢false (sym (ap changed x) ∙ c))

injects-idle : (w : WorldState) (hs : List ℕ) → changes (steps w (map Inject hs)).0 ≡ 0 → AreIdle w hs
injects-idle w [] e = record { same = refl; each = tt }
injects-idle w (h ∷ hs) e = by (changed (step w (Inject h)).0) refl (injects-idle w hs)
  where
    next : WorldState
    next = (step w (Inject h)).1

    by : (t : Bool) → changed (step w (Inject h)).0 ≡ t → (changes (steps w (map Inject hs)).0 ≡ 0 → AreIdle w hs) → AreIdle w (h ∷ hs)
    by true c rest = let a = changes-push (step w (Inject h)).0 (steps next (map Inject hs)).0 true c in absurd (omega (arith, a, e))
    by false c rest =
        let a = changes-push (step w (Inject h)).0 (steps next (map Inject hs)).0 false c in
        let here = inject-idle w h (step w (Inject h)) (inject-is w h) c in
        let none : changes (steps next (map Inject hs)).0 ≡ 0 = omega (arith, a, e) in
        let more = rest (sym (ap (λ v. changes (steps v (map Inject hs)).0) here.1) ∙ none) in
        record { same = ap (λ v. (steps v (map Inject hs)).1) here.1 ∙ more.same; each = (here.0, more.each) }

-- replays that change nothing
of_replay-still : (w : WorldState) (o : Replayed × LinkState) → changed (of_replay w o).0 ≡ false → (of_replay w o).1 ≡ w
of_replay-still w (Back c, l) e = absurd (true≢false e)
of_replay-still w (Busy c, l) e = refl
of_replay-still w (Unknown, l) e = refl

replay-still : (w : WorldState) (s : ℕ) → changed (step w (Replay s)).0 ≡ false → (step w (Replay s)).1 ≡ w
unfolding replayed
replay-still w s e = of_replay-still w (replay w.links s) e

replays-idle : (ss : List ℕ) (w : WorldState) → is_idle w.links ≡ true → (replays ss w).value.moves ≡ 0 → (replays ss w).world ≡ w
replays-idle [] w idle e = refl
replays-idle (s ∷ ss) w idle e = by (changed (step w (Replay s)).0) refl (replays-idle ss w idle)
  where
    u : WorldState
    u = (step w (Replay s)).1

    by : (t : Bool) → changed (step w (Replay s)).0 ≡ t → ((replays ss w).value.moves ≡ 0 → (replays ss w).world ≡ w) → (replays ss (clear u).world).world ≡ w
    by true c rest = let a = changes-push (step w (Replay s)).0 [] true c in absurd (omega (arith, a, e))
    by false c rest =
        let a = changes-push (step w (Replay s)).0 [] false c in
        let none : (replays ss (clear u).world).value.moves ≡ 0 = omega (arith, a, e) in
        let same : (clear u).world ≡ w = ap (λ v. (clear v).world) (replay-still w s c) ∙ (idle-clear w idle).1 in
        ap (λ v. (replays ss v).world) same ∙ rest (sym (ap (λ v. (replays ss v).value.moves) same) ∙ none)

-- a pass that injects and replays nothing
record PassIdle (w z : WorldState) : Type 0 where
  given : WorldState
  links : given.links ≡ w.links
  same : z ≡ given
  each : AllByRecursion (λ h. (step given (Inject h)).0 ≡ Idle) (addresses w)

idle-pass : (w : WorldState) → is_idle w.links ≡ true → (round_pass w).value.moves ≡ 0 → PassIdle w (round_pass w).world
unfolding round_pass
idle-pass w idle e =
    let t : WorldState = after_all w (map GiveUp (addresses w)) in
    let u : WorldState = (steps t (map Inject (addresses w))).1 in
    let v : WorldState = (clear u).world in
    let links : t.links ≡ w.links = given_up-links w (addresses w) in
    let still : is_idle t.links ≡ true = ap is_idle links ∙ idle in
    let first = injects-idle t (addresses w) (omega (arith, e)) in
    let cleared : v ≡ t = ap (λ x. (clear x).world) first.same ∙ (idle-clear t still).1 in
    let rest = replays-idle (serials v) v (ap (λ x. is_idle x.links) cleared ∙ still) (omega (arith, e)) in
    record { given = t; links = links; same = rest ∙ cleared; each = first.each }

-- a host with a cable that isn't new, over idle links, while injections are left
cannot-inject : (w : WorldState) (h : ℕ) → is_idle w.links ≡ true → IsCabled w.links.cables h → w.injected < last_count → CannotInject w h → to_send h (node_at w h) ≡ None
cannot-inject w h idle cable left (CannotInject.no_cable e) = absurd (true≢false (sym (ap is_some cable.out) ∙ ap is_some e))
cannot-inject w h idle cable left (CannotInject.nothing_to_send e) = e
cannot-inject w h idle cable left (CannotInject.channel_full c e full) = absurd (true≢false (sym full ∙ ap is_some (idle-empty w.links.channels idle c)))
cannot-inject w h idle cable left (CannotInject.used_up e) = absurd (omega (arith, left, e))
cannot-inject w h idle cable left (CannotInject.new_cable c out e new item message) =
    let same : cable.channel ≡ c = same_Some cable.channel c (sym cable.out ∙ e) in
    absurd (true≢false (sym new ∙ sym (ap (is_new w.links.cables) same) ∙ cable.old))

-- nor has it anything to send in a quiet world
quiet-none : (w : WorldState) (h : ℕ) → IsCabled w.links.cables h → has_to_send w h ≡ false → to_send h (node_at w h) ≡ None
quiet-none w h cable e = by (to_send h (node_at w h)) (sym (ap (λ o. option_map_or (λ c. may_send w c (to_send h (node_at w h))) o false) cable.out) ∙ e)
  where
    by : (o : Option Outgoing) → may_send w cable.channel o ≡ false → o ≡ None
    by None d = refl
    by (Some out) d = absurd (true≢false (sym (ap (λ b. not (b && is_message out)) cable.old) ∙ d))

last-of : (a b : Bool) → (a || b) ≡ true → a ≡ false → b ≡ true
last-of true b e f = absurd (true≢false f)
last-of false b e f = e

-- the last pass
pub nothing-left : (w : WorldState) (h : ℕ) → is_idle w.links ≡ true → is_last_pass w (round_pass w) ≡ true → h < host_count w → h < host_count (round_pass w).world
    → IsCabled w.links.cables h → IsCabled (round_pass w).world.links.cables h → (round_pass w).world.injected < last_count → to_send h (node_at (round_pass w).world h) ≡ None
nothing-left w h idle e low below cable after left = by (is_quiet z) refl
  where
    z : WorldState
    z = (round_pass w).world

    stopped : PassIdle w z → to_send h (node_at z h) ≡ None
    stopped p =
        let here : (step p.given (Inject h)).0 ≡ Idle = range-all (λ j. (step p.given (Inject j)).0 ≡ Idle) (host_count w) p.each h low in
        let still : is_idle p.given.links ≡ true = ap is_idle p.links ∙ idle in
        let there : IsCabled p.given.links.cables h = subst (λ l. IsCabled l.cables h) (sym p.links) cable in
        ap (λ v. to_send h (node_at v h)) p.same ∙ cannot-inject p.given h still there (subst (λ v. v.injected < last_count) p.same left) ((step-idle p.given (Inject h)).from here)

    by : (t : Bool) → is_quiet z ≡ t → to_send h (node_at z h) ≡ None
    by true q = quiet-none z h after (((quiet-test z).0 q).nothing_to_send h below)
    by false q =
        let m : nat_eq (round_pass w).value.moves 0 ≡ true = last-of (is_quiet z) (nat_eq (round_pass w).value.moves 0) e q in
        stopped (idle-pass w idle (grind (arith, nat_tests)))
