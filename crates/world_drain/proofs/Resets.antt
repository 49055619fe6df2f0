-- Resets of full channels alone come to what resets of all channels do.
use Rattle.std.proofs.Common.{◌≡◌, ◌<◌, ◌≤◌, ℕ, zero, suc, ◌+◌, ◌-◌, Bool, true, false, List, ◌∷◌, map, length, Option, None, is_some, refl, sym, ◌∙◌, ap, subst, arith}
use Rattle.std.specs.Prelude.{Result, Ok, Err, IfOk, OnOk}
use Rattle.std.specs.List.{range_with_len}
use Rattle.std.proofs.Math.ListN.{length-set}
use Rattle.world_defs.specs.Links.{Held, packet_in, emptied, is_idle}
use Rattle.world_defs.specs.declared.event.Event.TheVariants.{Reset}
use Rattle.world_defs.specs.declared.effect.Effect.{Effect}
use Rattle.world_defs.specs.declared.effect.Effect.TheVariants.{Idle, Reset as WasReset}
use Rattle.world_defs.specs.World.{WorldState}
use Rattle.world_defs.specs.Step.{of_links, was_reset, step, steps, followed_by}
use Rattle.world_defs.specs.Drain.{changes, resets_of, reset_count}
use Rattle.world_laws.proofs.Draining.{changes-push}
use Rattle.world_laws.proofs.Clearing.{reset-changed, clear-idle}
use Rattle.world_defs.specs.Logs as log
use Rattle.world_defs.specs.Row.{IsPartWay}
use Rattle.log_laws.proofs.PartWay.{way-first, way-next}

-- a reset of an empty channel is idle
reset-idle : (w : WorldState) (c : ℕ) → packet_in w.links c ≡ None → step w (Reset c) ≡ (Idle, w)
unfolding was_reset
reset-idle w c e = ap (λ o. of_links w WasReset (is_some o, emptied w.links c)) e

-- and a reset leaves as many channels
pub reset-channels : (w : WorldState) (c : ℕ) → length (step w (Reset c)).1.links.channels ≡ length w.links.channels
unfolding was_reset
reset-channels w c = by (is_some (packet_in w.links c))
  where
    by : (t : Bool) → length (of_links w WasReset (t, emptied w.links c)).1.links.channels ≡ length w.links.channels
    by true = length-set {A = Option Held} w.links.channels c None
    by false = refl

-- resets of so many channels from one on count and do what those of others do
abbrev AreSame : WorldState → (from all next rest : ℕ) → Type 0
AreSame w from all next rest =
    (changes (steps w (map Reset (range_with_len from all))).0 ≡ changes (steps w (map Reset (range_with_len next rest))).0)
    × ((steps w (map Reset (range_with_len from all))).1 ≡ (steps w (map Reset (range_with_len next rest))).1)

front-idle : (w : WorldState) (c : ℕ) (cs : List ℕ) → packet_in w.links c ≡ None
    → (changes (steps w (map Reset (c ∷ cs))).0 ≡ changes (steps w (map Reset cs)).0) × ((steps w (map Reset (c ∷ cs))).1 ≡ (steps w (map Reset cs)).1)
front-idle w c cs e =
    let first : steps w (map Reset (c ∷ cs)) ≡ followed_by (Idle, w) (λ next. steps next (map Reset cs)) =
    ap (λ r. followed_by r (λ next. steps next (map Reset cs))) (reset-idle w c e) in
    (ap (λ r. changes r.0) first, ap (λ r. r.1) first)

-- empty channels may be passed over
skip-empty : (w : WorldState) (gap from all next rest : ℕ) → all ≡ gap + rest → next ≡ from + gap
    → ((c : ℕ) → from ≤ c → c < next → packet_in w.links c ≡ None) → AreSame w from all next rest
skip-empty w zero from all next rest a n empty =
    let one : all ≡ rest = omega (arith, a) in
    let two : next ≡ from = omega (arith, n) in
    subst (λ k. AreSame w from k next rest) (sym one) (subst (λ k. AreSame w from rest k rest) (sym two) (refl, refl))
skip-empty w (suc gap) from all next rest a n empty =
    let more : suc (gap + rest) ≡ all = omega (arith, a) in
    let here = front-idle w from (range_with_len (from + 1) (gap + rest)) (empty from (omega arith) (omega (arith, n))) in
    let further = skip-empty w gap (from + 1) (gap + rest) next rest refl (omega (arith, n)) (λ c low high. empty c (omega (arith, low)) high) in
    subst (λ k. AreSame w from k next rest) more (here.0 ∙ further.0, here.1 ∙ further.1)

-- the resets of the channels from one on
abbrev resets_from : WorldState → (from count : ℕ) → List Effect × WorldState
resets_from w from count = steps w (map Reset (range_with_len from (count - from)))

-- So many resets led here, and those of the channels from one on are left.
pub record Resetting (first now : WorldState) (from resets : ℕ) : Type 0 where
  pub within : from ≤ length now.links.channels
  pub few : resets ≤ from
  pub counted : resets + changes (resets_from now from (length now.links.channels)).0 ≡ changes (steps first (resets_of first)).0
  pub after : (resets_from now from (length now.links.channels)).1 ≡ (steps first (resets_of first)).1
  pub way : (v : WorldState) → IsPartWay now (map Reset (range_with_len from (length first.links.channels - from))) v → IsPartWay first (resets_of first) v
  pub channels : length now.links.channels ≡ length first.links.channels

pub resetting-none : (w : WorldState) → Resetting w w 0 0
resetting-none w =
    let e : length w.links.channels - 0 ≡ length w.links.channels = omega arith in
    let whole : resets_from w 0 (length w.links.channels) ≡ steps w (resets_of w) = ap (λ n. steps w (map Reset (range_with_len 0 n))) e in
    let counted : changes (resets_from w 0 (length w.links.channels)).0 ≡ changes (steps w (resets_of w)).0 = ap (λ r. changes r.0) whole in
    record {
      within = omega arith;
      few = omega arith;
      counted = omega (arith, counted);
      after = ap (λ r. r.1) whole;
      way = λ v p. way-first Reset w v (length w.links.channels) p;
      channels = refl;
    }

pub resetting-on : (first now next : WorldState) (from c resets : ℕ) → Resetting first now from resets
    → from ≤ c → c < length now.links.channels → is_some (packet_in now.links c) ≡ true → ((k : ℕ) → from ≤ k → k < c → packet_in now.links k ≡ None)
    → next ≡ (step now (Reset c)).1 → length next.links.channels ≡ length now.links.channels → Resetting first next (c + 1) (resets + 1)
resetting-on first now next from c resets r low high full empty is channels =
    let count = length now.links.channels in
    let behind : WorldState = (step now (Reset c)).1 in
    let skipped = skip-empty now (c - from) from (count - from) c (suc (count - (c + 1))) (omega (arith, low, high)) (omega (arith, low)) empty in
    let first_counts = changes-push (step now (Reset c)).0 (resets_from behind (c + 1) count).0 true (reset-changed now c ∙ full) in
    let same : resets_from next (c + 1) (length next.links.channels) ≡ resets_from behind (c + 1) count =
    ap (λ n. resets_from next (c + 1) n) channels ∙ ap (λ w. resets_from w (c + 1) count) is in
    let rest : changes (resets_from next (c + 1) (length next.links.channels)).0 ≡ changes (resets_from behind (c + 1) count).0 = ap (λ p. changes p.0) same in
    let gone = skipped.0 in
    let before = r.counted in
    let few = r.few in
    let as_many = r.channels in
    record {
      within = omega (arith, high, channels);
      few = omega (arith, few, low);
      counted = omega (arith, first_counts, rest, gone, before);
      after = ap (λ p. p.1) same ∙ sym skipped.1 ∙ r.after;
      way = λ v p. r.way v (way-next Reset now next v from (length first.links.channels) c low (omega (arith, high, as_many)) (λ k a b. sym (ap (λ s. s.1) (reset-idle now k (empty k a b)))) is p);
      channels = channels ∙ r.channels;
    }

-- at the end all channels from here on are empty
pub resetting-all : (first now : WorldState) (from resets : ℕ) → Resetting first now from resets
    → ((k : ℕ) → from ≤ k → packet_in now.links k ≡ None) → reset_count (steps first (resets_of first)) ≡ (resets, now)
resetting-all first now from resets r empty =
    let count = length now.links.channels in
    let end = skip-empty now (count - from) from (count - from) (from + (count - from)) 0 (omega arith) refl (λ c low high. empty c low) in
    let none = end.0 in
    let before = r.counted in
    let all : changes (steps first (resets_of first)).0 ≡ resets = omega (arith, none, before) in
    let here : (steps first (resets_of first)).1 ≡ now = sym r.after ∙ end.1 in
    λ i. (all i, here i)

-- resets after a drain are a clear
pub is-clear : {E : Type 0} (w u v : WorldState) (r : Result ℕ E) → u ≡ (log.drain w).world
    → IfOk r (λ n. reset_count (steps u (resets_of u)) ≡ (n, v)) → IfOk r (λ n. n ≡ (log.clear w).value) × OnOk r (v ≡ (log.clear w).world)
unfolding log.clear
is-clear w u v (Ok n) drained is =
    let all : (n, v) ≡ reset_count (steps (log.drain w).world (resets_of (log.drain w).world)) = sym is ∙ ap (λ x. reset_count (steps x (resets_of x))) drained in
    (ap (λ p. p.0) all, ap (λ p. p.1) all)
is-clear w u v (Err e) drained is = (tt, tt)

pub is-idle : {E : Type 0} (w v : WorldState) (r : Result ℕ E) → OnOk r (v ≡ (log.clear w).world) → OnOk r (is_idle v.links ≡ true)
is-idle w v (Ok n) is = ap (λ (x : WorldState). is_idle x.links) is ∙ clear-idle w
is-idle w v (Err e) is = tt
