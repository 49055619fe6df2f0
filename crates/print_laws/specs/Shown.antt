-- Maps that runs print: whatever they show was there, and complete ones of one host over one fabric are one.
use Rattle.std.specs.Prelude.{◌≡◌, ℕ, List, [], ◌∷◌}
use Rattle.std.specs.List.{AllByRecursion}
use Rattle.net_defs.specs.Network.{Network, IsFabric}
use Rattle.map_defs.specs.NetMap.{NetMap}
use Rattle.world_defs.specs.World.{fabric_of}
use Rattle.run_defs.specs.declared.command.Command.{Command}
use Rattle.run_defs.specs.declared.command.Command.TheVariants.{Map}
use Rattle.run_defs.specs.declared.line.Line.TheVariants.{Map as MapLine}
use Rattle.run_defs.specs.declared.line.MapWords.{MapWords}
use Rattle.run_defs.specs.declared.line.MapWords.TheVariants.{Complete}
use Rattle.run_defs.specs.Output.{Piece, OneLine, MapLines}
use Rattle.run_defs.specs.Session.{SessionState}
use Rattle.run_defs.specs.Run.{Does, IsRun}
use Rattle.run_defs.specs.Headline.{FitsFabric}
use Rattle.print_laws.specs.Alike.{StandAlike}
use Rattle.print_laws.specs.Standing.{StandsOver}

-- A command `map` prints its line with these words, and a map.
pub record PrintsMap (s next : SessionState) (host depth tries : ℕ) (words : MapWords) (m : NetMap) : Type 0 where
  pub asks : ℕ
  pub packets : ℕ
  pub does : Does s (Map host depth tries) (OneLine (MapLine host words asks packets) ∷ MapLines m ∷ []) next

-- After a run of commands a command `map` of a host prints so.
pub record IsPrintedAfter (n : Network) (commands : List Command) (host : ℕ) (words : MapWords)
    (m : NetMap) : Type 0 where
  pub over : AllByRecursion (FitsFabric n) commands
  pub out : List Piece
  pub session : SessionState
  pub run : IsRun n commands out session
  pub depth : ℕ
  pub tries : ℕ
  pub of_fabric : FitsFabric n (Map host depth tries)
  pub next : SessionState
  pub prints : PrintsMap session next host depth tries words m

-- each map that is printed, under whatever words, stands over the fabric as it stood before its command
abbrev pub PrintedMapsStand : Type 0
PrintedMapsStand = (n : Network) (commands : List Command) (host : ℕ) (words : MapWords) (m : NetMap) → IsFabric n
    → (printed : IsPrintedAfter n commands host words m) → StandsOver (fabric_of printed.session.world) host m

-- two complete maps of one host are one map if the fabric was the same before both, whatever runs led to them
abbrev pub CompleteMapsAreOne : Type 0
CompleteMapsAreOne =
    (n : Network) (first second : List Command) (host : ℕ) (m k : NetMap) → IsFabric n
    → (a : IsPrintedAfter n first host Complete m) → (b : IsPrintedAfter n second host Complete k)
    → StandAlike (fabric_of a.session.world) (fabric_of b.session.world) → m ≡ k
