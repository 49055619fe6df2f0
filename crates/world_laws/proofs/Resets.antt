-- Resets come only where links are stuck: where something keeps them from that throughout, a settle has none.
use Rattle.std.proofs.Common.{◌≡◌, ◌↔◌, ◌+◌, ℕ, true, false, List, [], ◌∷◌, ◌++◌, map, length, ◌⊎◌, inl, inr, ⊎_elim, Option, Some, None, is_none, refl, sym, ◌∙◌, subst, arith, true≢false}
use Rattle.std.specs.List.{AllByRecursion, list_all, range_with_len}
use Rattle.world_defs.specs.Links.{Held, is_idle}
use Rattle.world_defs.specs.Hops.{is_stuck}
use Rattle.world_defs.specs.declared.event.Event.{Event}
use Rattle.world_defs.specs.declared.event.Event.TheVariants.{Inject, Replay, Reset, GiveUp}
use Rattle.world_defs.specs.World.{WorldState, addresses}
use Rattle.world_defs.specs.Step.{step, steps, after_all}
use Rattle.world_defs.specs.Drain.{resets_of}
use Rattle.world_defs.specs.Settle.{serials, expiries, pass_bound, is_last_round, round_bound}
use Rattle.world_defs.specs.Log.{Log}
use Rattle.world_defs.specs.Logs.{Moved, Rounds, drain, clear, cleared, moved_both, unmoved, round_pass, is_last_pass, round, rounds_both, one_round, settle}
use Rattle.world_laws.proofs.Repeating.{no_rounds}
use Rattle.world_laws.specs.Draining.{full_count}
use Rattle.world_defs.specs.Row.{IsRow}
use Rattle.world_laws.specs.Reached.{IsOfSettle, EachStep, NeverStuckHasNoResets}
use Rattle.world_defs.proofs.LogRows.{all-map, row-none, row-both, row-of, clear-row, expiries-row, given_up-row}
use Rattle.world_laws.proofs.Along.{Along, row-along}
use Rattle.world_laws.proofs.Draining.{drain-still}
use Rattle.world_laws.proofs.Clearing.{clear-resets, empty-count}
use Rattle.world_laws.proofs.Reached.{settles-of, drain-is_row}
use Rattle.world_laws.proofs.Repeating.{Chains, each-chain, up_to-chain}

count-empty : (ps : List (Option Held)) → full_count ps ≡ 0 → list_all is_none ps ≡ true
count-empty [] e = refl
count-empty (None ∷ ps) e = count-empty ps e
count-empty (Some held ∷ ps) e = absurd (omega (arith, e))

-- a clear has no resets exactly where the drain left the links idle
pub no_resets-idle : (w : WorldState) → (clear w).value ≡ 0 ↔ is_idle (drain w).world.links ≡ true
no_resets-idle w = ((λ e. count-empty (drain w).world.links.channels (sym (clear-resets w) ∙ e)), (λ e. clear-resets w ∙ empty-count (drain w).world.links.channels e))

-- what holds at each step of events holds at each of those in front, and at each of those behind
pub front-steps : (P : WorldState → Event → Type 0) (w : WorldState) (es ds : List Event) → EachStep P w (es ++ ds) → EachStep P w es
front-steps P w [] ds all = tt
front-steps P w (e ∷ es) ds all = (all.0, front-steps P (step w e).1 es ds all.1)

behind : (P : WorldState → Event → Type 0) (w : WorldState) (es ds : List Event) → EachStep P w (es ++ ds) → EachStep P (after_all w es) ds
behind P w [] ds all = all
behind P w (e ∷ es) ds all = behind P (step w e).1 es ds all.1

pub behind-steps : {Q : Event → Type 0} (P : WorldState → Event → Type 0) {w v : WorldState} {es : List Event} → IsRow Q w es v → (ds : List Event) → EachStep P w (es ++ ds) → EachStep P v ds
behind-steps P {w = w} {es = es} r ds all = subst (λ v. EachStep P v ds) (sym r.there) (behind P w es ds all)

-- What each event of a settle keeps, and what holds at each step of a clear without resets.
pub record Unreset (I : WorldState → Type 0) (P : WorldState → Event → Type 0) : Type 0 where
  pub event : (w : WorldState) (e : Event) → IsOfSettle e → I w → I (step w e).1
  pub clears : (w : WorldState) → I w → EachStep P w (clear w).events → (clear w).value ≡ 0

abbrev kept : {I : WorldState → Type 0} {P : WorldState → Event → Type 0} → Unreset I P → Along (λ w v. I w → I v) IsOfSettle
kept k = record { same = λ w i. i; both = λ u v w f g i. g (f i); event = k.event }

-- events of a settle with so many resets, of which there are none where that holds
pub record Quiet (I : WorldState → Type 0) (P : WorldState → Event → Type 0) (w : WorldState) (es : List Event) (resets : ℕ) (v : WorldState) : Type 0 where
  pub row : IsRow IsOfSettle w es v
  pub unreset : I w → EachStep P w es → resets ≡ 0

quiet-both : {I : WorldState → Type 0} {P : WorldState → Event → Type 0} {u v w : WorldState} {es ds : List Event} {a b : ℕ} → Unreset I P → Quiet I P u es a v → Quiet I P v ds b w → Quiet I P u (es ++ ds) (a + b) w
quiet-both {P = P} {u = u} {es = es} {ds = ds} {a = a} {b = b} k q r = record {
  row = row-both q.row r.row;
  unreset = λ i all.
      let x : a ≡ 0 = q.unreset i (front-steps P u es ds all) in
      let y : b ≡ 0 = r.unreset (row-along (kept k) q.row i) (behind-steps P q.row ds all) in
      omega (arith, x, y);
}

quiet-front : {I : WorldState → Type 0} {P : WorldState → Event → Type 0} {u v w : WorldState} {es ds : List Event} {b : ℕ} → Unreset I P → IsRow IsOfSettle u es v → Quiet I P v ds b w → Quiet I P u (es ++ ds) b w
quiet-front {P = P} {ds = ds} k q r = record { row = row-both q r.row; unreset = λ i all. r.unreset (row-along (kept k) q i) (behind-steps P q ds all) }

clear-quiet : {I : WorldState → Type 0} {P : WorldState → Event → Type 0} → Unreset I P → (w : WorldState) → Quiet I P w (clear w).events (clear w).value (clear w).world
clear-quiet k w = record { row = clear-row settles-of.clears w; unreset = k.clears w }

abbrev QuietMoves : (WorldState → Type 0) → (WorldState → Event → Type 0) → WorldState → Log Moved → Type 0
QuietMoves I P w l = Quiet I P w l.events l.value.resets l.world

abbrev QuietRounds : (WorldState → Type 0) → (WorldState → Event → Type 0) → WorldState → Log Rounds → Type 0
QuietRounds I P w l = Quiet I P w l.events l.value.resets l.world

chain-moves : {I : WorldState → Type 0} {P : WorldState → Event → Type 0} → Unreset I P → Chains moved_both unmoved (QuietMoves I P)
chain-moves k = record { same = λ w. record { row = row-none; unreset = λ i all. refl }; both = λ w l m q r. quiet-both k q r }

chain-rounds : {I : WorldState → Type 0} {P : WorldState → Event → Type 0} → Unreset I P → Chains rounds_both no_rounds (QuietRounds I P)
chain-rounds k = record { same = λ w. record { row = row-none; unreset = λ i all. refl }; both = λ w l m q r. quiet-both k q r }

cleared-quiet : {I : WorldState → Type 0} {P : WorldState → Event → Type 0} → Unreset I P → (es : List Event) → AllByRecursion IsOfSettle es → (w : WorldState) → QuietMoves I P w (cleared es w)
cleared-quiet k es q w = quiet-front k (row-of w es q) (clear-quiet k (steps w es).1)

round_pass-quiet : {I : WorldState → Type 0} {P : WorldState → Event → Type 0} → Unreset I P → (w : WorldState) → QuietMoves I P w (round_pass w)
unfolding round_pass
round_pass-quiet {I = I} {P = P} k w =
    let v : WorldState = (after_all w (map GiveUp (addresses w))) in
    let u : WorldState = (cleared (map Inject (addresses w)) v).world in
    quiet-front k (given_up-row settles-of.give_up w) (quiet-both k (cleared-quiet k (map Inject (addresses w)) (all-map IsOfSettle Inject settles-of.inject (addresses w)) v)
    (each-chain moved_both unmoved (QuietMoves I P) (chain-moves k) (λ s. cleared (Replay s ∷ [])) (λ s. cleared-quiet k (Replay s ∷ []) (tt, tt)) (serials u) u))

round-quiet : {I : WorldState → Type 0} {P : WorldState → Event → Type 0} → Unreset I P → (w : WorldState) → QuietMoves I P w (round w)
unfolding round
round-quiet {I = I} {P = P} k w = quiet-front k (expiries-row settles-of.expire w) (up_to-chain moved_both unmoved (QuietMoves I P) (chain-moves k) is_last_pass round_pass (round_pass-quiet k) (pass_bound w) (after_all w (expiries w)))

settle-quiet : {I : WorldState → Type 0} {P : WorldState → Event → Type 0} → Unreset I P → (w : WorldState) → QuietRounds I P w (settle w)
unfolding settle
settle-quiet {I = I} {P = P} k w =
    let v : WorldState = (clear w).world in
    quiet-both k (clear-quiet k w) (up_to-chain rounds_both no_rounds (QuietRounds I P) (chain-rounds k) (λ before p. is_last_round before p.world) one_round (λ u. let q = round-quiet k u in record { row = q.row; unreset = q.unreset }) (round_bound v) v)

pub settle-unreset : {I : WorldState → Type 0} {P : WorldState → Event → Type 0} → Unreset I P → (w : WorldState) → I w → EachStep P w (settle w).events → (settle w).value.resets ≡ 0
settle-unreset k w i all = (settle-quiet k w).unreset i all

-- where no world along the way is stuck
abbrev NotStuck : WorldState → Event → Type 0
NotStuck v e = is_stuck v.links ≡ false

at-resets : (v : WorldState) (ps : List (Option Held)) → EachStep NotStuck v (map Reset (range_with_len 0 (length ps))) → (is_stuck v.links ≡ false) ⊎ (full_count ps ≡ 0)
at-resets v [] all = inr refl
at-resets v (p ∷ ps) all = inl all.0

clear-never_stuck : (w : WorldState) → EachStep NotStuck w (clear w).events → (clear w).value ≡ 0
unfolding clear
clear-never_stuck w all =
    let v : WorldState = (drain w).world in
    ⊎_elim (λ flows. (no_resets-idle w).1 (⊎_elim (λ e. e) (λ e. absurd (true≢false (sym e ∙ flows))) (drain-still w))) (λ none. clear-resets w ∙ none) (at-resets v v.links.channels (behind-steps NotStuck (drain-is_row w) (resets_of v) all))

pub never_stuck-resets : NeverStuckHasNoResets
never_stuck-resets w all = settle-unreset {I = λ v. Unit {0}} {P = NotStuck} (record { event = λ v e q i. tt; clears = λ v i steps. clear-never_stuck v steps }) w tt all
