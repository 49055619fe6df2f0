-- The text of the adopted routes that a pull broke.
use Rattle.std.specs.Prelude.{ℕ, List, flat_map}
use Rattle.net_defs.specs.Network.{Network}
use Rattle.world_defs.specs.World.{WorldState}
use Rattle.run_defs.specs.LineText.{line_text}
use Rattle.run_defs.specs.declared.line.Line.TheVariants.{Broken}
use Rattle.fab_world.specs.Events.{IsHostOf}

-- both hosts of a pair are of a world
abbrev pub AreHostsOf : WorldState → ℕ × ℕ → Type 0
AreHostsOf w p = IsHostOf w p.0 × IsHostOf w p.1

-- the line of a pair
abbrev pub pair_text : Network → ℕ × ℕ → List ℕ
pair_text n p = line_text n (Broken p.0 p.1)

-- the lines of pairs, in their order
abbrev pub pairs_text : Network → List (ℕ × ℕ) → List ℕ
pairs_text n pairs = flat_map (pair_text n) pairs
