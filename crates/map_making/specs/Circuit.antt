-- What is printed of circuit links.
use Rattle.std.specs.Prelude.{◌≡◌, ℕ, List, [], ◌∷◌}
use Rattle.net_defs.specs.Network.{Network}
use Rattle.map_defs.specs.NetMap.{NetMap}
use Rattle.circ_map.specs.declared.mapping.CircEnd.{CircEnd}
use Rattle.circ_map.specs.declared.mapping.CircEnd.TheVariants.{Whole, Nodes}
use Rattle.run_defs.specs.declared.line.Line.TheVariants.{Circuit, CircuitNodes}
use Rattle.run_defs.specs.Circuit.{IsCircuitTold}
use Rattle.run_defs.specs.Output.{Piece, OneLine, MapLines}
use Rattle.fab_report.specs.Printed.{PrintedState, printed_of}

-- the pieces of a map of circuit links that ended so: its line and its map, or the line of too many nodes
abbrev pub circuit_pieces : ℕ → ℕ → NetMap → ℕ → CircEnd → List Piece
circuit_pieces host depth m asks Whole = OneLine (Circuit host depth asks) ∷ MapLines m ∷ []
circuit_pieces host depth m asks Nodes = OneLine (CircuitNodes host asks) ∷ []

-- This is the text of what is reported of the circuit links of a fabric, from a host to a depth.
pub record IsCircuitPrinted (n : Network) (host depth : ℕ) (told : PrintedState) : Type 0 where
  pub output : List Piece
  pub is_told : IsCircuitTold n host depth output
  pub printed : told ≡ printed_of n output
