-- A settle whose clears begin with lawful traffic has no resets.
use Rattle.std.proofs.Common.{◌≡◌, ◌+◌, ℕ, zero, suc, Bool, true, false, List, [], ◌∷◌, ◌++◌, map, length, ◌⊎◌, inl, inr, ⊎_elim, Option, refl, sym, ◌∙◌, subst, arith, if◌then◌else◌}
use Rattle.std.specs.List.{AllByRecursion, range_with_len}
use Rattle.net_defs.specs.Network.{Network}
use Rattle.world_defs.specs.Links.{Held}
use Rattle.world_defs.specs.declared.event.Event.{Event}
use Rattle.world_defs.specs.declared.event.Event.TheVariants.{Inject, Advance, Replay, Reset, GiveUp}
use Rattle.world_defs.specs.EightBits.{IsByteEvent}
use Rattle.world_defs.specs.World.{WorldState, addresses}
use Rattle.world_defs.specs.Step.{step, steps, after_all}
use Rattle.world_defs.specs.Drain.{resets_of}
use Rattle.world_defs.specs.Settle.{serials, expiries, pass_bound, is_last_round, round_bound}
use Rattle.world_defs.specs.Traffic.{IsLawfulTraffic}
use Rattle.world_laws.specs.Draining.{full_count}
use Rattle.world_laws.specs.Reached.{IsOfClear}
use Rattle.world_laws.proofs.Along.{after_all-along}
use Rattle.world_laws.proofs.Clearing.{clear-resets}
use Rattle.world_defs.specs.Log.{Log, told, and_do, up_to}
use Rattle.world_defs.specs.Logs.{Moved, Rounds, drain, clear, unmoved, moved_both, cleared, replays, is_last_pass, round_pass, round_passes, round, rounds_both, one_round, settle}
use Rattle.world_defs.specs.Row.{IsRow}
use Rattle.world_defs.proofs.LogRows.{steps-after, all-map, row-none, row-both, clear-row, round-row, byte_clears, byte_settles}
use Rattle.world_defs.specs.Acts.{IsReached}
use Rattle.lawful_laws.specs.Resets.{BeginsLawful, OnlyUnlawfulIsReset}
use Rattle.lawful_laws.proofs.Flowing.{advance-lawful, reset-lawful, event-reached, lawful-clears}

-- events lead from reached worlds to reached worlds
abbrev Reaches : Network → WorldState → WorldState → Type 0
Reaches n w v = IsReached n w → IsReached n v

row-reaches : (n : Network) {w v : WorldState} {es : List Event} → IsRow IsByteEvent w es v → Reaches n w v
row-reaches n {w = w} {es = es} r i =
    subst (IsReached n) (sym r.there) (after_all-along (Reaches n) IsByteEvent (record { same = λ u j. j; both = λ t u v f g j. g (f j); event = λ u e low j. event-reached n u e low j }) w es r.kinds i)

-- the traffic is lawful before each advance and each reset of these
abbrev AreLawful : WorldState → List Event → Type 0
AreLawful w [] = Unit {0}
AreLawful w (e ∷ es) = (IsOfClear e → IsLawfulTraffic w) × AreLawful (step w e).1 es

of_clear : (e : Event) → IsOfClear e ⊎ (IsOfClear e → ⊥)
of_clear (Advance c) = inl tt
of_clear (Reset c) = inl tt
of_clear e = inr (λ is. is)

lawful-on : (n : Network) (w : WorldState) (e : Event) → IsReached n w → (IsOfClear e → IsLawfulTraffic w) → IsOfClear e → IsLawfulTraffic (step w e).1
lawful-on n w (Advance c) r here is = advance-lawful n w c r (here tt)
lawful-on n w (Reset c) r here is = reset-lawful n w c r (here tt)
lawful-on n w e r here is = absurd is

-- it is so where it is lawful as each clear begins, since an advance and a reset leave it lawful
at-each : (n : Network) (came : Type 0) (w : WorldState) (es : List Event) → AllByRecursion IsByteEvent es → IsReached n w → came ⊎ (came → ⊥) → (came → IsLawfulTraffic w) → BeginsLawful came w es → AreLawful w es
at-each n came w [] low r d now all = tt
at-each n came w (e ∷ es) low r d now all =
    let here : IsOfClear e → IsLawfulTraffic w = λ is. ⊎_elim (λ (x : came). now x) (λ (no : came → ⊥). all.0 is no) d in
    (here, at-each n (IsOfClear e) (step w e).1 es low.1 (event-reached n w e low.0 r) (of_clear e) (lawful-on n w e r here) all.1)

-- what holds at each of some events holds at those in front, and at those behind
front : (w : WorldState) (es ds : List Event) → AreLawful w (es ++ ds) → AreLawful w es
front w [] ds all = tt
front w (e ∷ es) ds all = (all.0, front (step w e).1 es ds all.1)

behind : (w : WorldState) (es ds : List Event) → AreLawful w (es ++ ds) → AreLawful (after_all w es) ds
behind w [] ds all = all
behind w (e ∷ es) ds all = behind (step w e).1 es ds all.1

all-front : (es ds : List Event) → AllByRecursion IsByteEvent (es ++ ds) → AllByRecursion IsByteEvent es
all-front [] ds all = tt
all-front (e ∷ es) ds all = (all.0, all-front es ds all.1)

-- Events from one world to another, with so many resets: none where the traffic is lawful.
record Flows (n : Network) (w : WorldState) (es : List Event) (resets : ℕ) (v : WorldState) : Type 0 where
  row : IsRow IsByteEvent w es v
  unreset : IsReached n w → AreLawful w es → resets ≡ 0

flows-both : {n : Network} {u v w : WorldState} {es ds : List Event} {a b c : ℕ} → c ≡ a + b → Flows n u es a v → Flows n v ds b w → Flows n u (es ++ ds) c w
flows-both {n = n} {u = u} {es = es} {ds = ds} {a = a} {b = b} sum p q = record {
  row = row-both p.row q.row;
  unreset = λ r all.
      let x : a ≡ 0 = p.unreset r (front u es ds all) in
      let y : b ≡ 0 = q.unreset (row-reaches n p.row r) (subst (λ t. AreLawful t ds) (sym p.row.there) (behind u es ds all)) in
      omega (arith, sum, x, y);
}

flows-after : {n : Network} {u v w : WorldState} {es ds : List Event} {b : ℕ} → IsRow IsByteEvent u es v → Flows n v ds b w → Flows n u (es ++ ds) b w
flows-after {b = b} p q = flows-both {a = 0} {b = b} (omega arith) (record { row = p; unreset = λ r all. refl }) q

-- a clear: where an event of it happens, its drain or its resets begin with lawful traffic
begins : (w : WorldState) (ds rs : List Event) → AllByRecursion IsOfClear (ds ++ rs) → AreLawful w (ds ++ rs) → IsLawfulTraffic w ⊎ (rs ≡ [])
begins w [] [] q all = inr refl
begins w [] (r ∷ rs) q all = inl (all.0 q.0)
begins w (d ∷ ds) rs q all = inl (all.0 q.0)

no_channels : (ps : List (Option Held)) → map Reset (range_with_len 0 (length ps)) ≡ [] → full_count ps ≡ 0
no_channels [] e = refl
no_channels (p ∷ ps) e = cc

clear-unreset : (n : Network) (w : WorldState) → IsReached n w → AreLawful w (clear w).events → (clear w).value ≡ 0
unfolding clear
clear-unreset n w r all =
    let v : WorldState = (drain w).world in
    ⊎_elim (lawful-clears n w r) (λ none. clear-resets w ∙ no_channels v.links.channels none)
    (begins w (drain w).events (resets_of v) (clear-row {Q = IsOfClear} (record { advance = λ c. tt; reset = λ c. tt }) w).kinds all)

clear-flows : (n : Network) (w : WorldState) → Flows n w (clear w).events (clear w).value (clear w).world
clear-flows n w = record { row = clear-row byte_clears w; unreset = clear-unreset n w }

-- what a log counts as resets
abbrev Flowing : {A : Type 0} → Network → (A → ℕ) → WorldState → Log A → Type 0
Flowing n count w l = Flows n w l.events (count l.value) l.world

abbrev Moving : Network → WorldState → Log Moved → Type 0
Moving n w l = Flows n w l.events l.value.resets l.world

up_to-flows : {A : Type 0} (n : Network) (count : A → ℕ) (join : A → A → A) (none : A) (is_last : WorldState → Log A → Bool) (one : WorldState → Log A) → count none ≡ 0 → ((a b : A) → count (join a b) ≡ count a + count b)
    → ((v : WorldState) → Flowing n count v (one v)) → (k : ℕ) (w : WorldState) → Flowing n count w (up_to join none is_last one k w)
up_to-flows n count join none is_last one empty sum all zero w = record { row = row-none; unreset = λ r steps. empty }
up_to-flows {A = A} n count join none is_last one empty sum all (suc k) w = by (is_last w (one w)) (up_to-flows n count join none is_last one empty sum all k (one w).world)
  where
    rest : WorldState → Log A
    rest = up_to join none is_last one k

    by : (b : Bool) → Flowing n count (one w).world (rest (one w).world) → Flowing n count w (if b then one w else and_do (one w) (λ a v. told (join a) (rest v)))
    by true more = all w
    by false more = flows-both (sum (one w).value (rest (one w).world).value) (all w) more

cleared-flows : (n : Network) (es : List Event) → AllByRecursion IsByteEvent es → (w : WorldState) → Moving n w (cleared es w)
cleared-flows n es q w =
    let r : IsRow IsByteEvent w es (steps w es).1 = record { kinds = q; there = steps-after w es } in
    flows-after r (clear-flows n (steps w es).1)

replays-flow : (n : Network) (ss : List ℕ) (w : WorldState) → Moving n w (replays ss w)
replays-flow n [] w = record { row = row-none; unreset = λ r all. refl }
replays-flow n (s ∷ ss) w = flows-both refl (cleared-flows n (Replay s ∷ []) (tt, tt) w) (replays-flow n ss (cleared (Replay s ∷ []) w).world)

round_pass-flows : (n : Network) (w : WorldState) → Moving n w (round_pass w)
unfolding round_pass
round_pass-flows n w =
    let v : WorldState = after_all w (map GiveUp (addresses w)) in
    let u : WorldState = (cleared (map Inject (addresses w)) v).world in
    let r : IsRow IsByteEvent w (map GiveUp (addresses w)) v = record { kinds = all-map IsByteEvent GiveUp byte_settles.give_up (addresses w); there = refl } in
    flows-after r
    (flows-both refl (cleared-flows n (map Inject (addresses w)) (all-map IsByteEvent Inject byte_settles.inject (addresses w)) v) (replays-flow n (serials u) u))

round-flows : (n : Network) (w : WorldState) → Moving n w (round w)
unfolding round
round-flows n w =
    let v : WorldState = after_all w (expiries w) in
    let all : AllByRecursion IsByteEvent (expiries w) = all-front (expiries w) (round_passes (pass_bound w) v).events (round-row {Q = IsByteEvent} byte_settles w).kinds in
    let r : IsRow IsByteEvent w (expiries w) v = record { kinds = all; there = refl } in
    flows-after r
    (up_to-flows {A = Moved} n (λ m. m.resets) moved_both unmoved is_last_pass round_pass refl (λ a b. refl) (round_pass-flows n) (pass_bound w) v)

settle-all : (n : Network) (w : WorldState) → Flows n w (settle w).events (settle w).value.resets (settle w).world
unfolding settle
settle-all n w =
    let v : WorldState = (clear w).world in
    flows-both refl (clear-flows n w)
    (up_to-flows {A = Rounds} n (λ r. r.resets) rounds_both (record { rounds = 0; resets = 0 }) (λ before r. is_last_round before r.world) one_round refl (λ a b. refl) (round-flows n) (round_bound v) v)

pub settle-flows : OnlyUnlawfulIsReset
settle-flows n w r all =
    let f = settle-all n w in
    f.unreset r (at-each n ⊥ w (settle w).events f.row.kinds r (inr (λ no. no)) (λ no. absurd no) all)
