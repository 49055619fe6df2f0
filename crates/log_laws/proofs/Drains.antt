-- A drain is its first pass and the drain after it, whatever bounds the passes; and what is part of the way along a drain or a clear.
use Rattle.std.proofs.Common.{◌≡◌, ◌≢◌, ◌<◌, ◌+◌, ℕ, suc, Bool, true, false, List, [], ◌∷◌, ◌++◌, map, nat_eq, refl, sym, ◌∙◌, ap, subst, arith, true≢false, if◌then◌else◌}
use Rattle.std.proofs.lemmas.Bool.Decides.{nat_tests}
use Rattle.world_defs.specs.Hops.{total_hops, changes as moves}
use Rattle.world_defs.specs.Advance.{advance}
use Rattle.world_defs.specs.declared.event.Event.{Event}
use Rattle.world_defs.specs.declared.event.Event.TheVariants.{Advance}
use Rattle.world_defs.specs.declared.effect.Effect.{Effect}
use Rattle.world_defs.specs.EightBits.{IsByteEvent}
use Rattle.world_defs.specs.World.{WorldState}
use Rattle.world_defs.specs.Step.{step, steps, after_all}
use Rattle.world_defs.specs.Drain.{changes, channels_of, resets_of}
use Rattle.world_laws.proofs.Draining.{changes-push, advance-changed, advance-world, pass-cost}
use Rattle.world_defs.specs.Log.{Log, still}
use Rattle.world_defs.specs.Logs as log
use Rattle.world_defs.specs.Row.{IsPartWay}
use Rattle.world_defs.proofs.LogRows.{steps-after, drain-row, byte_clears}
use Rattle.log_laws.specs.Drains.{DrainRests, DrainGoesOn}
use Rattle.log_laws.proofs.PartWay.{way-behind, way-front, way-as, way-still}
use Rattle.log_laws.proofs.UpTo.{Lowers, onto, up_to-on, up_to-enough}

abbrev joined : List Effect → List Effect → List Effect
joined xs ys = xs ++ ys

abbrev is_last : WorldState → Log (List Effect) → Bool
is_last before p = log.is_still p.value

-- a pass that changes something is one of the drain
goes : (w : WorldState) → log.is_still (log.pass w).value ≡ false → log.drain_pass w ≡ log.pass w
goes w e = ap (λ b. if b then still [] w else log.pass w) e

lowers : Lowers is_last log.drain_pass (λ w. Unit {0}) (λ w. total_hops w.links)
lowers = record { keeps = λ w q e. tt; less = λ w q e. by w (log.is_still (log.pass w).value) refl e }
  where
    by : (w : WorldState) (b : Bool) → log.is_still (log.pass w).value ≡ b → log.is_still (if b then still [] w else log.pass w).value ≡ false
        → total_hops (if b then still [] w else log.pass w).world.links < total_hops w.links
    by w true is e = absurd (true≢false e)
    by w false is e =
        let some : changes (log.pass w).value ≢ 0 = λ none. grind (arith, nat_tests) in
        let cost = pass-cost w in
        omega (arith, some, cost)

pub drain-rests : DrainRests
unfolding log.drain
drain-rests w e =
    let more : total_hops w.links + 1 ≡ suc (total_hops w.links) = omega arith in
    ap (λ k. log.passes k w) more ∙ by (log.is_still (log.pass w).value) e
  where
    on : Log (List Effect) → Log (List Effect)
    on p = if log.is_still p.value then p else onto joined p (log.passes (total_hops w.links) p.world)

    by : (b : Bool) → b ≡ true → on (if b then still [] w else log.pass w) ≡ still [] w
    by true is = refl
    by false is = absurd (true≢false (sym is))

pub drain-goes_on : DrainGoesOn
unfolding log.drain
drain-goes_on w e =
    let more : total_hops w.links + 1 ≡ suc (total_hops w.links) = omega arith in
    let some : changes (log.pass w).value ≢ 0 = λ none. grind (arith, nat_tests) in
    let cost = pass-cost w in
    let next : WorldState = (log.pass w).world in
    ap (λ k. log.passes k w) more
    ∙ up_to-on joined [] is_last log.drain_pass (total_hops w.links) w (ap (λ p. log.is_still p.value) (goes w e) ∙ e)
    ∙ ap (λ p. onto joined p (log.passes (total_hops w.links) p.world)) (goes w e)
    ∙ ap (onto joined (log.pass w)) (up_to-enough joined [] is_last log.drain_pass (λ v. Unit {0}) (λ v. total_hops v.links) lowers (total_hops w.links) (total_hops next.links + 1) next tt (omega (arith, cost, some)) (omega arith))

-- the events of a drain whose first pass changes something
pub drain-events : (w : WorldState) → changes (log.pass w).value ≢ 0 → (log.drain w).events ≡ map Advance (channels_of w) ++ (log.drain (log.pass w).world).events
drain-events w some = let differs : log.is_still (log.pass w).value ≡ false = grind (arith, nat_tests) in ap (λ l. l.events) (drain-goes_on w differs)

-- and of one whose first pass changes nothing
pub drain-none : (w : WorldState) → changes (log.pass w).value ≡ 0 → (log.drain w).events ≡ []
drain-none w none = let same : log.is_still (log.pass w).value ≡ true = grind (arith, nat_tests) in ap (λ l. l.events) (drain-rests w same)

after-pass : (w : WorldState) → (log.pass w).world ≡ after_all w (map Advance (channels_of w))
after-pass w = steps-after w (map Advance (channels_of w))

-- part of the way along a drain, after a first pass that changed something
pub drain-on : (w next v : WorldState) → changes (log.pass w).value ≢ 0 → next ≡ (log.pass w).world → IsPartWay next (log.drain next).events v → IsPartWay w (log.drain w).events v
drain-on w next v some is p =
    way-as w v (log.drain w).events (map Advance (channels_of w) ++ (log.drain (log.pass w).world).events) (drain-events w some)
    (way-behind w (log.pass w).world v (map Advance (channels_of w)) (log.drain (log.pass w).world).events (after-pass w) (subst (λ u. IsPartWay u (log.drain u).events v) is p))

-- the first of advances of which none changed anything
first-still : (w : WorldState) (c : ℕ) (cs : List ℕ) → changes (steps w (map Advance (c ∷ cs))).0 ≡ 0 → ((step w (Advance c)).1 ≡ w) × (changes (steps w (map Advance cs)).0 ≡ 0)
first-still w c cs e = by (moves (advance w.links c).0) refl
  where
    next : WorldState
    next = (step w (Advance c)).1

    by : (t : Bool) → moves (advance w.links c).0 ≡ t → (next ≡ w) × (changes (steps w (map Advance cs)).0 ≡ 0)
    by true m =
        let a = changes-push (step w (Advance c)).0 (steps next (map Advance cs)).0 true (advance-changed w c ∙ m) in absurd (omega (arith, a, e))
    by false m =
        let a = changes-push (step w (Advance c)).0 (steps next (map Advance cs)).0 false (advance-changed w c ∙ m) in
        let same : next ≡ w = advance-world w c m in
        let none : changes (steps next (map Advance cs)).0 ≡ 0 = omega (arith, a, e) in
        (same, subst (λ v. changes (steps v (map Advance cs)).0 ≡ 0) same none)

heads : (d e : Event) (ds es : List Event) → d ∷ ds ≡ e ∷ es → d ≡ e
heads d e ds es is = cc

tails : (d e : Event) (ds es : List Event) → d ∷ ds ≡ e ∷ es → ds ≡ es
tails d e ds es is = cc

-- part of the way along advances that change nothing
advances-still : (w : WorldState) (cs : List ℕ) → changes (steps w (map Advance cs)).0 ≡ 0 → (done rest : List Event) → map Advance cs ≡ done ++ rest → after_all w done ≡ w
advances-still w cs none [] rest is = refl
advances-still w [] none (d ∷ ds) rest is = cc
advances-still w (c ∷ cs) none (d ∷ ds) rest is =
    let first = first-still w c cs none in
    ap (λ e. after_all (step w e).1 ds) (sym (heads (Advance c) d (map Advance cs) (ds ++ rest) is))
    ∙ ap (λ v. after_all v ds) first.0
    ∙ advances-still w cs first.1 ds rest (tails (Advance c) d (map Advance cs) (ds ++ rest) is)

pass-still : (w v : WorldState) → changes (log.pass w).value ≡ 0 → IsPartWay w (map Advance (channels_of w)) v → v ≡ w
pass-still w v none p = p.there ∙ advances-still w (channels_of w) none p.done p.front.rest p.front.both

-- part of the way along the first pass of a drain
pub drain-within : (w v : WorldState) → IsPartWay w (map Advance (channels_of w)) v → IsPartWay w (log.drain w).events v
drain-within w v p = by (nat_eq (changes (log.pass w).value) 0) refl
  where
    by : (b : Bool) → nat_eq (changes (log.pass w).value) 0 ≡ b → IsPartWay w (log.drain w).events v
    by true is =
        let none : changes (log.pass w).value ≡ 0 = grind (arith, nat_tests) in
        way-still w v (log.drain w).events (pass-still w v none p)
    by false is =
        let some : changes (log.pass w).value ≢ 0 = λ none. grind (arith, nat_tests) in
        way-as w v (log.drain w).events (map Advance (channels_of w) ++ (log.drain (log.pass w).world).events) (drain-events w some)
        (way-front w v (map Advance (channels_of w)) (log.drain (log.pass w).world).events p)

-- part of the way along the drain of a clear
pub clear-within : (w v : WorldState) → IsPartWay w (log.drain w).events v → IsPartWay w (log.clear w).events v
unfolding log.clear
clear-within w v p = way-front w v (log.drain w).events (resets_of (log.drain w).world) p

-- and along the resets after it
pub clear-behind : (w u v : WorldState) → u ≡ (log.drain w).world → IsPartWay u (resets_of u) v → IsPartWay w (log.clear w).events v
unfolding log.clear
clear-behind w u v is p =
    way-behind w (log.drain w).world v (log.drain w).events (resets_of (log.drain w).world) (drain-row {Q = IsByteEvent} byte_clears.advance w).there (subst (λ x. IsPartWay x (resets_of x) v) is p)
