-- What the promise of a run says of no command at all.
use Rattle.std.proofs.Common.{◌≡◌, ℕ, List, [], ◌∷◌, ◌++◌, refl, sym, ◌∙◌}
use Rattle.net_defs.specs.Network.{Network}
use Rattle.map_defs.specs.NetMap.{NetMap}
use Rattle.run_defs.specs.declared.line.Line.TheVariants.{Map as MapLine}
use Rattle.run_defs.specs.declared.line.MapWords.TheVariants.{Complete}
use Rattle.run_defs.specs.Output.{Piece, OneLine, MapLines}
use Rattle.run_defs.specs.Session.{SessionState}
use Rattle.run_defs.specs.Run.{Runs}
use Rattle.run_defs.specs.Run.Runs.{ended}
use Rattle.run_defs.specs.Headline.{HasPrinted, CompleteIsTrue}

-- a run of no command prints nothing
only_ended : {s last : SessionState} {out : List Piece} → Runs s [] out last → out ≡ []
only_ended ended = refl

none_printed : (out : List Piece) (mapper : ℕ) (m : NetMap) → out ≡ [] → HasPrinted out mapper m → ⊥
none_printed out mapper m e p = by p.before (sym e ∙ p.there)
  where
    by : (before : List Piece) → [] ≡ before ++ OneLine (MapLine mapper Complete p.asks p.packets) ∷ MapLines m ∷ p.behind → ⊥
    by [] d = cc
    by (x ∷ before) d = cc

pub no_command_is_right : (n : Network) → CompleteIsTrue n []
no_command_is_right n fabric fair out last mapper m r p = absurd (none_printed out mapper m (only_ended r) p)
