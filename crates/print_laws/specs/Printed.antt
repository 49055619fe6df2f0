-- Every map that a run prints is read back from its lines.
use Rattle.std.specs.Prelude.{◌≡◌, ℕ, ◌+◌, ◌*◌, ◌<◌, ◌≤◌, List, ◌∷◌, ◌++◌, length, Ok}
use Rattle.std.specs.List.{AllByRecursion}
use Rattle.net_defs.specs.Network.{Network, IsFabric}
use Rattle.journal_defs.specs.declared.entry.Entry.{Entry}
use Rattle.journal_defs.specs.Growth.{node_limit}
use Rattle.map_defs.specs.NetMap.{NetMap, IsMap}
use Rattle.circ_defs.specs.Asking.{IsTreeEnded}
use Rattle.circ_defs.specs.CircuitMap.{IsCircuitMap}
use Rattle.world_defs.specs.World.{WorldState, fabric_of}
use Rattle.run_defs.specs.declared.command.Command.{Command}
use Rattle.run_defs.specs.declared.line.MapWords.{MapWords}
use Rattle.run_defs.specs.LineText.{map_text}
use Rattle.run_defs.specs.Mapped.{IsMapped}
use Rattle.run_defs.specs.Output.{Piece, MapLines}
use Rattle.run_defs.specs.Session.{SessionState}
use Rattle.run_defs.specs.Run.{IsRun}
use Rattle.run_defs.specs.Headline.{FitsFabric, HasPrinted}
use Rattle.fabric_file.specs.Reading.{AreNamed}
use Rattle.map_canon.specs.Printing.{AreOfFabric}
use Rattle.map_canon.specs.Reading.{map_reading}
use Rattle.mapping_laws.specs.Circuits.{HasPrintedCircuit}
use Rattle.mapping_laws.specs.Laws.{CanMap}

-- What a map has that can be printed and read: the rules of maps, hosts of the fabric, no more vertices than nodes of
-- a journal, and at most 31 cabled ports a vertex.
pub record IsPrintable (n : Network) (m : NetMap) : Type 0 where
  pub rules : IsMap m
  pub hosts : AreOfFabric n m
  pub few_vertices : length m.vertices ≤ node_limit + 1
  pub few_cables : 2 * length m.cables ≤ 31 * length m.vertices

-- The lines of a map are read as the map, and are as short as a text must be that is read.
pub record IsReadAgain (n : Network) (m : NetMap) : Type 0 where
  pub read : map_reading n (map_text n m) ≡ Ok m
  pub short : length (map_text n m) ≤ 4294967290

-- Every map that is made can be printed, whatever it is called.
abbrev pub MadeMapIsPrintable : Type 0
MadeMapIsPrintable =
    (host depth tries : ℕ) (before after : WorldState) (j : List Entry) (m : NetMap) (words : MapWords)
    → CanMap host depth before → IsMapped host depth tries before after j m words → IsPrintable (fabric_of before) m

-- So can every circuit map of a tree that keeps the limit of nodes.
abbrev pub CircuitMapIsPrintable : Type 0
CircuitMapIsPrintable = (n : Network) (host depth : ℕ) (j : List Entry) (m : NetMap) → IsFabric n
    → host < length n.hosts → IsTreeEnded depth j → IsCircuitMap n host depth j m → IsPrintable n m

-- Over a fabric whose names have the form of the text, such a map is read again.
abbrev pub PrintableIsReadAgain : Type 0
PrintableIsReadAgain = (n : Network) (m : NetMap) → IsFabric n → AreNamed n → IsPrintable n m → IsReadAgain n m

-- Over such a fabric every map that a run prints is read again, wherever it stands and whatever it is called.
abbrev pub MapsOfRunsReadBack : Type 0
MapsOfRunsReadBack =
    (n : Network) (commands : List Command) (out : List Piece) (last : SessionState) (before behind : List Piece)
    (m : NetMap)
    → IsFabric n → AreNamed n → AllByRecursion (FitsFabric n) commands → IsRun n commands out last
    → out ≡ before ++ MapLines m ∷ behind → IsReadAgain n m

-- So is each that it prints under the word complete.
abbrev pub CompleteMapsReadBack : Type 0
CompleteMapsReadBack =
    (n : Network) (commands : List Command) (out : List Piece) (last : SessionState) (mapper : ℕ) (m : NetMap)
    → IsFabric n → AreNamed n → AllByRecursion (FitsFabric n) commands → IsRun n commands out last
    → HasPrinted out mapper m → IsReadAgain n m

-- So is each that it prints of circuit links.
abbrev pub CircuitMapsReadBack : Type 0
CircuitMapsReadBack =
    (n : Network) (commands : List Command) (out : List Piece) (last : SessionState) (host depth asks : ℕ) (m : NetMap)
    → IsFabric n → AreNamed n → AllByRecursion (FitsFabric n) commands → IsRun n commands out last
    → HasPrintedCircuit out host depth asks m → IsReadAgain n m
