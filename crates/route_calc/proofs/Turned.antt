-- The turns by first ports are the best ones, over as many channels as distances say.
use Rattle.std.proofs.Common.{◌≡◌, ◌<◌, ◌≤◌, ℕ, zero, suc, Bool, true, false, List, ◌∷◌, length, nat_lt, if◌then◌else◌, Some, None, refl, ap, ◌∙◌, arith, w8, SFits}
use Rattle.std.specs.Prelude.{ℤ, ◌-ℤ◌}
use Rattle.std.proofs.lemmas.Bool.Decides.{nat_tests}
use Rattle.std.proofs.lemmas.Int.{ints}
use Rattle.std.specs.List.{list_all}
use Rattle.net_defs.specs.Turn.{IsTurn, is_turn, walk_refusal}
use Rattle.net_defs.specs.declared.walk.WalkFault.TheVariants.{TooLong, TurnRange}
use Rattle.map_defs.specs.NetMap.{NetMap, IsMap}
use Rattle.route_calc.specs.declared.entered.Entered.{Entered}
use Rattle.route_calc.specs.declared.entered.Exit.{Exit}
use Rattle.route_calc.specs.Reaching.{reaches}
use Rattle.route_calc.specs.Ways.{best_turn, best_turns, then_turns}
use Rattle.route_calc.specs.Far.{AreDistances}
use Rattle.route_calc.specs.Exits.{all_exits, exits_at}
use Rattle.route_calc.specs.Turning.{first_exit, turn_by, turns_on}
use Rattle.route_calc.proofs.Listed.{within, exits-any, first-turn}

-- the turn to the first port, and those from there
pub turns-step : (exits : List (List Exit)) (far : List ℕ) (left k : ℕ) (e : Entered) (x : Exit) → left ≡ suc k → first_exit far k e.down (exits_at exits e.v) ≡ Some x → turns_on exits far left e ≡ (x.port -ℤ e.port) ∷ turns_on exits far k x.next
turns-step exits far left k e x more is = ap (λ i. turns_on exits far i e) more ∙ ap (λ o. then_turns (turn_by e o) (turns_on exits far k)) is

pub turn-fits : (p : ℤ) → IsTurn p → SFits w8 p
turn-fits p s = grind (arith, ints, nat_tests)

pub difference-fits : (p q : ℤ) → IsTurn p → IsTurn q → SFits w8 (p -ℤ q)
difference-fits p q s t = grind (arith, ints, nat_tests)

-- turns that are a walk are in range
pub walk-range : (ts : List ℤ) → walk_refusal ts ≡ None → list_all is_turn ts ≡ true
walk-range ts e = by (nat_lt 64 (length ts)) (list_all is_turn ts) refl e
  where
    by : (a b : Bool) → list_all is_turn ts ≡ b → (if a then Some TooLong else if b then None else Some TurnRange) ≡ None → list_all is_turn ts ≡ true
    by a true p q = p
    by true false p q = cc
    by false false p q = cc

-- what is within so many channels by its distance is so
pub within-reaches : (m : NetMap) (order : List ℕ) (to : ℕ) (far : List ℕ) (k : ℕ) → AreDistances m order to far → k < 255 → within far k ≡ reaches m order to k
within-reaches m order to far k d l = λ i v down. d.each k v down l i

pub turns-best : (m : NetMap) (order : List ℕ) (to : ℕ) (far : List ℕ) (k : ℕ) (e : Entered) → IsMap m → AreDistances m order to far → k ≤ 255 → turns_on (all_exits m order) far k e ≡ best_turns m order to k e
turns-best m order to far zero e r d l = refl
turns-best m order to far (suc k) e r d l =
    ap (λ xs. then_turns (turn_by e (first_exit far k e.down xs)) (turns_on (all_exits m order) far k)) (exits-any m order e.v r)
    ∙ ap (λ o. then_turns o (turns_on (all_exits m order) far k)) (first-turn m order far k e)
    ∙ ap (λ (g : ℕ → Bool → Bool). then_turns (best_turn m order g e) (turns_on (all_exits m order) far k)) (within-reaches m order to far k d (omega arith))
    ∙ ap (then_turns (best_turn m order (reaches m order to k) e)) (λ i x. turns-best m order to far k x r d (omega arith) i)
