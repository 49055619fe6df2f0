-- The passes of a round end: each injection uses up a number and adds at most one packet to limbo, and each replay takes one out.
use Rattle.std.proofs.Common.{◌≡◌, ◌≢◌, ◌<◌, ◌≤◌, ◌+◌, ◌-◌, ◌*◌, ℕ, Bool, true, false, ◌||◌, List, [], ◌∷◌, map, length, nat_eq, nat_le, Option, Some, None, is_some, cond, refl, ◌∙◌, ap, arith, true≢false, if◌then◌else◌}
use Rattle.std.specs.Map.{lookup, remove_entry}
use Rattle.std.proofs.lemmas.Bool.Decides.{nat_tests}
use Rattle.net_defs.specs.Route.{host_port}
use Rattle.world_defs.specs.Crossed.{leaving}
use Rattle.world_defs.specs.declared.replayed.Replayed.{Replayed}
use Rattle.world_defs.specs.declared.replayed.Replayed.TheVariants.{Back, Busy}
use Rattle.world_defs.specs.Links.{Caught, LinkState, packet_in, with_packet}
use Rattle.world_defs.specs.Fault.{caught_as, released, replay_of}
use Rattle.world_defs.specs.declared.event.Event.{Event}
use Rattle.world_defs.specs.declared.event.Event.TheVariants.{Inject, Advance, Replay, Reset, Expire, GiveUp}
use Rattle.world_defs.specs.declared.effect.Effect.{Effect}
use Rattle.world_defs.specs.declared.effect.Effect.TheVariants.{Idle, Injected}
use Rattle.world_defs.specs.Node.{Outgoing, to_send, packet_for}
use Rattle.world_defs.specs.World.{WorldState, last_count, node_at, addresses, keeps_out}
use Rattle.world_defs.specs.Step.{of_replay, replayed, planned_strikes, sent_out, inject_one, inject_into, injected, step, steps, after_all}
use Rattle.world_defs.specs.Drain.{changed, changes}
use Rattle.world_defs.specs.Settle.{serials, is_quiet, pass_bound, expiries}
use Rattle.world_defs.specs.Log.{Log, for_each}
use Rattle.world_defs.specs.Logs.{Moved, clear, cleared, moved_both, unmoved, round_pass, is_last_pass}
use Rattle.world_laws.specs.Settling.{RoundEnds}
use Rattle.world_laws.proofs.Repeating.{Chains, each-chain, up_to-repeats}
use Rattle.world_laws.proofs.Strikes.{planned_strikes-kept}
use Rattle.world_laws.proofs.Draining.{one_if, changes-push}
use Rattle.world_defs.proofs.LogRows.{Clears, clear-row, expiries-row, given_up-row}
use Rattle.world_laws.proofs.Along.{Along, row-along}
use Rattle.world_defs.specs.LinkStep.{Step, stepped}
use Rattle.world_defs.proofs.Views.{LinksChange, Change, view}

-- an event that neither injects nor changes limbo
record Calm (w v : WorldState) : Type 0 where
  injected : v.injected ≡ w.injected
  limbo : v.links.limbo ≡ w.links.limbo
  plan : v.plan ≡ w.plan

abbrev IsCalm : Event → Type 0
IsCalm (Advance c) = Unit {0}
IsCalm (Reset c) = Unit {0}
IsCalm (Expire h peer) = Unit {0}
IsCalm (GiveUp h) = Unit {0}
IsCalm _ = ⊥

calm_same : (w : WorldState) → Calm w w
calm_same w = record { injected = refl; limbo = refl; plan = refl }

links-calm : {w : WorldState} {e : Event} {x : Effect} {s : Step} → LinksChange w e x s → IsCalm e → (stepped w.links s).limbo ≡ w.links.limbo
links-calm (LinksChange.moves packet next d e f g) q = ap (λ l. l.limbo) g
links-calm (LinksChange.loses k) q = refl
links-calm (LinksChange.resets k) q = refl
links-calm (LinksChange.repeats k) q = absurd q
links-calm (LinksChange.holds k) q = absurd q
links-calm (LinksChange.flips k) q = absurd q
links-calm (LinksChange.replays k) q = absurd q
links-calm (LinksChange.pulls k) q = absurd q
links-calm (LinksChange.plugs k) q = absurd q

change-calm : {w : WorldState} {e : Event} {r : Effect × WorldState} → Change w e r → IsCalm e → Calm w r.1
change-calm {w = w} Change.idle q = calm_same w
change-calm {w = w} (Change.blocked packet next d e) q = calm_same w
change-calm (Change.links k) q = record { injected = refl; limbo = links-calm k q; plan = refl }
change-calm (Change.drops packet why d e f) q = record { injected = refl; limbo = ap (λ l. l.limbo) f; plan = refl }
change-calm (Change.arrives packet h d e f k) q = record { injected = refl; limbo = ap (λ l. l.limbo) f; plan = refl }
change-calm (Change.host k) q = record { injected = refl; limbo = refl; plan = refl }
change-calm (Change.injects c out d e f g o) q = absurd q
change-calm (Change.calls k) q = record { injected = refl; limbo = refl; plan = refl }

event-calm : (w : WorldState) (e : Event) → IsCalm e → Calm w (step w e).1
event-calm w e q = change-calm (view w e) q

along-calm : Along Calm IsCalm
along-calm = record {
  same = calm_same;
  both = λ u v w k l. record { injected = l.injected ∙ k.injected; limbo = l.limbo ∙ k.limbo; plan = l.plan ∙ k.plan };
  event = event-calm;
}

clears-calm : Clears IsCalm
clears-calm = record { advance = λ c. tt; reset = λ c. tt }

pub clear-plan : (w : WorldState) → (clear w).world.plan ≡ w.plan
clear-plan w = (row-along along-calm (clear-row clears-calm w)).plan

pub clear-limbo : (w : WorldState) → (clear w).world.links.limbo ≡ w.links.limbo
clear-limbo w = (row-along along-calm (clear-row clears-calm w)).limbo

-- what the passes of a round use up: the injections that are left, and what each may add to limbo
abbrev pub measure : WorldState → ℕ
measure w = 2 * (last_count - w.injected) + length w.links.limbo

calm-measure : (w v : WorldState) → Calm w v → measure v ≡ measure w
calm-measure w v k = let a = k.injected in let b : length v.links.limbo ≡ length w.links.limbo = ap length k.limbo in omega (arith, a, b)

pub clear-measure : (w : WorldState) → measure (clear w).world ≡ measure w
clear-measure w = calm-measure w (clear w).world (row-along along-calm (clear-row clears-calm w))

-- an injection
put-limbo : (s : LinkState) (c : ℕ) (wire : List ℕ) (b : Bool) → (if b then (let r : Bool × LinkState = (false, s) in r) else (true, with_packet s c (Some (record { wire = wire; marked = false; born = s.epoch })))).1.limbo ≡ s.limbo
put-limbo s c wire true = refl
put-limbo s c wire false = refl

sent_out-counts : (w : WorldState) (h c : ℕ) (out : Outgoing) → ((sent_out w h c out).injected ≡ w.injected + 1) × ((sent_out w h c out).links.limbo ≡ w.links.limbo)
unfolding sent_out
sent_out-counts w h c out = (refl, put-limbo w.links c (packet_for h (w.injected + 1) out) (is_some (packet_in w.links c)))

injected-cost : (w : WorldState) (h c : ℕ) (out : Outgoing) → w.injected < last_count → 1 + measure (planned_strikes (sent_out w h c out) c) ≤ measure w
injected-cost w h c out low =
    let u : WorldState = sent_out w h c out in
    let v : WorldState = planned_strikes u c in
    let s = sent_out-counts w h c out in
    let t = planned_strikes-kept u c in
    let a : v.injected ≡ w.injected + 1 = t.injected ∙ s.0 in
    let b : length u.links.limbo ≡ length w.links.limbo = ap length s.1 in
    let d = t.links.limbo in
    omega (arith, low, a, b, d)

inject_one-cost : (w : WorldState) (h c : ℕ) (o : Option Outgoing) → one_if (changed (inject_one w h c o).0) + measure (inject_one w h c o).1 ≤ measure w
inject_one-cost w h c None = omega arith
inject_one-cost w h c (Some out) = by (is_some (packet_in w.links c)) (nat_le last_count w.injected) (keeps_out w c out) refl
  where
    new : WorldState
    new = planned_strikes (sent_out w h c out) c

    by : (a b k : Bool) → nat_le last_count w.injected ≡ b → one_if (changed (if a || b || k then (let r : Effect × WorldState = (Idle, w) in r) else (Injected (w.injected + 1), planned_strikes (sent_out w h c out) c)).0) + measure (if a || b || k then (let r : Effect × WorldState = (Idle, w) in r) else (Injected (w.injected + 1), planned_strikes (sent_out w h c out) c)).1 ≤ measure w
    by true b k g = omega arith
    by false true k g = omega arith
    by false false true g = omega arith
    by false false false g = injected-cost w h c out (grind (arith, nat_tests))

inject_into-cost : (w : WorldState) (h : ℕ) (o : Option ℕ) → one_if (changed (inject_into w h o).0) + measure (inject_into w h o).1 ≤ measure w
inject_into-cost w h None = omega arith
inject_into-cost w h (Some c) = inject_one-cost w h c (to_send h (node_at w h))

pub inject-cost : (w : WorldState) (h : ℕ) → one_if (changed (step w (Inject h)).0) + measure (step w (Inject h)).1 ≤ measure w
unfolding injected
inject-cost w h = inject_into-cost w h (leaving w.links.cables (host_port h))

pub injects-cost : (w : WorldState) (hs : List ℕ) → changes (steps w (map Inject hs)).0 + measure (steps w (map Inject hs)).1 ≤ measure w
injects-cost w [] = omega arith
injects-cost w (h ∷ hs) =
    let next : WorldState = (step w (Inject h)).1 in
    let here = inject-cost w h in
    let rest = injects-cost next hs in
    let a = changes-push (step w (Inject h)).0 (steps next (map Inject hs)).0 (changed (step w (Inject h)).0) refl in
    omega (arith, here, rest, a)

-- a replay
taken_out : (es : List (ℕ × Caught)) (serial : ℕ) (x : Caught) → lookup (nat_eq serial) es ≡ Some x → length (remove_entry (nat_eq serial) es) + 1 ≡ length es
taken_out [] serial x e = cc
taken_out (d ∷ es) serial x e = by (nat_eq serial d.0) e (taken_out es serial x)
  where
    by : (t : Bool) → cond t (Some d.1) (lookup (nat_eq serial) es) ≡ Some x → (lookup (nat_eq serial) es ≡ Some x → length (remove_entry (nat_eq serial) es) + 1 ≡ length es) → length (cond t es (d ∷ remove_entry (nat_eq serial) es)) + 1 ≡ length (d ∷ es)
    by true f ih = omega arith
    by false f ih = let h = ih f in omega (arith, h)

replay_of-cost : (w : WorldState) (serial : ℕ) (o : Option Caught) → caught_as w.links serial ≡ o → one_if (changed (of_replay w (replay_of w.links serial o)).0) + measure (of_replay w (replay_of w.links serial o)).1 ≤ measure w
replay_of-cost w serial None e = omega arith
replay_of-cost w serial (Some caught) e = by (is_some (packet_in w.links caught.channel))
  where
    by : (t : Bool) → one_if (changed (of_replay w (if t then (let r : Replayed × LinkState = (Busy caught.channel, w.links) in r) else (Back caught.channel, released w.links serial caught))).0) + measure (of_replay w (if t then (let r : Replayed × LinkState = (Busy caught.channel, w.links) in r) else (Back caught.channel, released w.links serial caught))).1 ≤ measure w
    by true = omega arith
    by false = let h = taken_out w.links.limbo serial caught e in omega (arith, h)

pub replay-cost : (w : WorldState) (serial : ℕ) → one_if (changed (step w (Replay serial)).0) + measure (step w (Replay serial)).1 ≤ measure w
unfolding replayed
replay-cost w serial = replay_of-cost w serial (caught_as w.links serial) refl

abbrev Costs : WorldState → Log Moved → Type 0
Costs w l = l.value.moves + measure l.world ≤ measure w

chain-costs : Chains moved_both unmoved Costs
chain-costs = record { same = λ w. omega arith; both = λ w l m p q. omega (arith, p, q) }

replayed-cost : (s : ℕ) (w : WorldState) → Costs w (cleared (Replay s ∷ []) w)
replayed-cost s w =
    let here = replay-cost w s in
    let a = changes-push (step w (Replay s)).0 [] (changed (step w (Replay s)).0) refl in
    let b = clear-measure (step w (Replay s)).1 in
    omega (arith, here, a, b)

-- a pass
pub pass-cost : (w : WorldState) → Costs w (round_pass w)
unfolding round_pass
pass-cost w =
    let t : WorldState = (after_all w (map GiveUp (addresses w))) in
    let u : WorldState = (steps t (map Inject (addresses w))).1 in
    let v : WorldState = (clear u).world in
    let a = calm-measure w t (row-along along-calm (given_up-row {Q = IsCalm} (λ h. tt) w)) in
    let b = injects-cost t (addresses w) in
    let c = clear-measure u in
    let d : Costs v (for_each moved_both unmoved (λ s. cleared (Replay s ∷ [])) (serials v) v) = each-chain moved_both unmoved Costs chain-costs (λ s. cleared (Replay s ∷ [])) replayed-cost (serials v) v in
    omega (arith, a, b, c, d)

-- a pass that isn't the last moves something
some_moves : (quiet still : Bool) (n : ℕ) → nat_eq n 0 ≡ still → (quiet || still) ≡ false → n ≢ 0
some_moves true still n e f = absurd (true≢false f)
some_moves false true n e f = absurd (true≢false f)
some_moves false false n e f = grind (arith, nat_tests)

pub pass-less : (w : WorldState) → Unit {0} → is_last_pass w (round_pass w) ≡ false → Unit {0} × (measure (round_pass w).world < measure w)
pass-less w i e =
    let some = some_moves (is_quiet (round_pass w).world) (nat_eq (round_pass w).value.moves 0) (round_pass w).value.moves refl e in
    let cost = pass-cost w in
    (tt, omega (arith, some, cost))

pub round-ends : RoundEnds
round-ends w =
    let u : WorldState = (after_all w (expiries w)) in
    let a = calm-measure w u (row-along along-calm (expiries-row {Q = IsCalm} (λ h peer. tt) w)) in
    up_to-repeats moved_both unmoved is_last_pass round_pass (λ v. Unit {0}) measure pass-less (pass_bound w) u tt (omega (arith, a))
