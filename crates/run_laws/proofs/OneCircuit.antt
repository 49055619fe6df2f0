-- What is reported of the circuit links of a fabric is one, since each has one tree to a depth, and that one map.
use Rattle.std.proofs.Common.{◌≡◌, ℕ, List, [], ◌∷◌, length, sym, ◌∙◌, subst, inl, inr, arith}
use Rattle.net_defs.specs.Network.{Network}
use Rattle.journal_defs.specs.declared.entry.Entry.{Entry}
use Rattle.journal_defs.specs.Growth.{IsEndedAtLimit}
use Rattle.circ_defs.specs.Asking.{IsTreeEnded}
use Rattle.circ_defs.specs.CircuitMap.{IsCircuitMap}
use Rattle.circ_laws.proofs.OneTree.{tree_is_one}
use Rattle.circ_laws.proofs.OneCircuit.{circuit_map_is_one}
use Rattle.run_defs.specs.declared.line.Line.TheVariants.{Circuit, CircuitNodes}
use Rattle.run_defs.specs.Circuit.{IsCircuitTold}
use Rattle.run_defs.specs.Circuit.IsCircuitTold.{whole, too_many_nodes}
use Rattle.run_defs.specs.Output.{Piece, OneLine, MapLines}

-- a tree that keeps the limit didn't pass it
kept-passed : (depth : ℕ) (j l : List Entry) → IsTreeEnded depth j → IsEndedAtLimit l → j ≡ l → ⊥
kept-passed depth j l ended passed e =
    let here : IsTreeEnded depth l = subst (IsTreeEnded depth) e ended in
    let few = here.kept in
    let many = passed.passed in
    omega arith

pub told-one : (n : Network) (host depth : ℕ) (out other : List Piece) → IsCircuitTold n host depth out → IsCircuitTold n host depth other → out ≡ other
told-one n host depth out other (whole j m growing ended is printed) (whole l k again stops others reprinted) =
    let one : j ≡ l = tree_is_one n host depth j l growing again (inl ended) (inl stops) in
    let same : m ≡ k = circuit_map_is_one n host depth l m k (subst (λ i. IsCircuitMap n host depth i m) one is) others in
    printed ∙ (λ i. OneLine (Circuit host depth (length (one i))) ∷ MapLines (same i) ∷ []) ∙ sym reprinted
told-one n host depth out other (whole j m growing ended is printed) (too_many_nodes l again passed reprinted) =
    absurd (kept-passed depth j l ended passed (tree_is_one n host depth j l growing again (inl ended) (inr passed)))
told-one n host depth out other (too_many_nodes j growing passed printed) (whole l k again ended others reprinted) =
    absurd (kept-passed depth l j ended passed (tree_is_one n host depth l j again growing (inl ended) (inr passed)))
told-one n host depth out other (too_many_nodes j growing passed printed) (too_many_nodes l again beyond reprinted) =
    let one : j ≡ l = tree_is_one n host depth j l growing again (inr passed) (inr beyond) in
    printed ∙ (λ i. OneLine (CircuitNodes host (length (one i))) ∷ []) ∙ sym reprinted
