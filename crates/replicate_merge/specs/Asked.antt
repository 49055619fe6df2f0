-- How many turns of a node are asked, and which walks were asked ahead of the nodes in front of them.
use Rattle.std.specs.Prelude.{◌≡◌, ◌⊎◌, ℕ, ◌+◌, ℤ, Bool, true, false, List, [], ◌∷◌, ◌++◌, length, slice_get, Some}
use Rattle.std.specs.Prelude.{if◌then◌else◌}
use Rattle.net_defs.specs.declared.place.Answer.TheVariants.{Nothing}
use Rattle.journal_defs.specs.declared.entry.Entry.{Entry}
use Rattle.journal_defs.specs.Walks.{onward_turns}
use Rattle.journal_defs.specs.Tree.{Node, IsNode, answered, is_asked}
use Rattle.journal_defs.specs.Tree.Node.{Reached}
use Rattle.probe.specs.Keeping.{has_walk}

-- how many of these turns of a walk are asked
abbrev pub asked_among : List Entry → List ℤ → List ℤ → ℕ
asked_among j w [] = 0
asked_among j w (t ∷ ts) = (if is_asked j (w ++ t ∷ []) then 1 else 0) + asked_among j w ts

-- how many of the 30 turns of a walk are asked
abbrev pub asked_turns : List Entry → List ℤ → ℕ
asked_turns j w = asked_among j w onward_turns

-- How many turns of each node are asked: of the mapper's host none are counted.
pub record CountsAsked (j : List Entry) (ns : List Node) (asked : List ℕ) : Type 0 where
  pub same : length asked ≡ length ns
  pub each : (n : ℕ) (w : List ℤ) → slice_get ns n ≡ Some (Reached w) → slice_get asked n ≡ Some (asked_turns j w)

-- The walks that found nothing, and of which no node was in front.
pub record HasOrphans (j : List Entry) (orphans : List (List ℤ)) (ahead : Bool) : Type 0 where
  pub only : (w : List ℤ) → has_walk orphans w ≡ true → answered j w ≡ Some Nothing
  pub each : (w : List ℤ) (t : ℤ) → answered j (w ++ t ∷ []) ≡ Some Nothing
      → IsNode j (Reached w) ⊎ (has_walk orphans (w ++ t ∷ []) ≡ true)
  pub none : ahead ≡ false → (w : List ℤ) (t : ℤ) → is_asked j (w ++ t ∷ []) ≡ true → IsNode j (Reached w)
