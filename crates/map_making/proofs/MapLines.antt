-- The lines of a map after its own line.
use Rattle.std.proofs.Common.{◌≡◌, ◌++◌, [], ◌∷◌, sym, append-nil, refl}
use Rattle.net_defs.specs.Network.{Network}
use Rattle.map_defs.specs.NetMap.{NetMap}
use Rattle.run_defs.specs.declared.line.Line.{Line}
use Rattle.run_defs.specs.Output.{OneLine, MapLines}
use Rattle.run_defs.specs.LineText.{map_text}
use Rattle.fab_report.specs.Printed.{PrintedState, printed_of}
use Rattle.fab_report.proofs.Printing.{followed}

-- the line of the map, and the map's lines after it
pub map_followed : (n : Network) (l : Line) (m : NetMap) (before now : PrintedState) → before ≡ printed_of n (OneLine l ∷ []) → now ≡ record { text = before.text ++ map_text n m; figures = before.figures }
    → now ≡ printed_of n (OneLine l ∷ MapLines m ∷ [])
map_followed n l m before now e f = followed n (OneLine l ∷ []) (MapLines m ∷ []) before now (map_text n m) e (sym (append-nil (map_text n m))) refl f
