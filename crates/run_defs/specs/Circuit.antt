-- What the command `circuit` prints: the map of the whole tree of circuit answers.
use Rattle.std.specs.Prelude.{◌≡◌, ℕ, List, [], ◌∷◌, length}
use Rattle.net_defs.specs.Network.{Network}
use Rattle.journal_defs.specs.declared.entry.Entry.{Entry}
use Rattle.journal_defs.specs.Growth.{IsEndedAtLimit}
use Rattle.map_defs.specs.NetMap.{NetMap}
use Rattle.circ_defs.specs.Asking.{IsTreeGrowing, IsTreeEnded}
use Rattle.circ_defs.specs.CircuitMap.{IsCircuitMap}
use Rattle.run_defs.specs.declared.line.Line.TheVariants.{Circuit, CircuitNodes}
use Rattle.run_defs.specs.Output.{Piece, OneLine, MapLines}

-- `circuit` from a host to a depth prints the number of its asks and the circuit map, where the whole tree stays
-- within the limit of nodes; else it prints only how many asks there were until that was passed.
pub data IsCircuitTold (n : Network) (host depth : ℕ) (out : List Piece) : Type 0 where
  whole : (j : List Entry) (m : NetMap) → IsTreeGrowing n host depth j → IsTreeEnded depth j
      → IsCircuitMap n host depth j m → out ≡ OneLine (Circuit host depth (length j)) ∷ MapLines m ∷ []
      → IsCircuitTold n host depth out
  too_many_nodes : (j : List Entry) → IsTreeGrowing n host depth j → IsEndedAtLimit j
      → out ≡ OneLine (CircuitNodes host (length j)) ∷ [] → IsCircuitTold n host depth out
