-- Nodes in memory: the walks that found something, in the journal's order.
use Rattle.std.specs.Prelude.{ℤ, List, ◌∷◌, map}
use Rattle.journal_defs.specs.Tree.{Node}
use Rattle.journal_defs.specs.Tree.Node.{Mapper, Reached}

-- the mapper's host, and what these walks reached
abbrev pub nodes_of : List (List ℤ) → List Node
nodes_of walks = Mapper ∷ map Reached walks
