-- What holds along every run over a fabric: its world began with the fabric, and each map that it prints under the word
-- complete was right.
use Rattle.std.specs.Prelude.{◌≡◌, List}
use Rattle.std.specs.List.{AllByRecursion}
use Rattle.net_defs.specs.Network.{Network, IsFabric}
use Rattle.world_defs.specs.History.{IsHistory, fabric_at}
use Rattle.world_defs.specs.EightBits.{HasByteFaults}
use Rattle.world_laws.specs.Shape.{IsWorld}
use Rattle.run_defs.specs.declared.command.Command.{Command}
use Rattle.run_defs.specs.Output.{Piece}
use Rattle.run_defs.specs.Session.{SessionState}
use Rattle.run_defs.specs.Run.{IsRun}
use Rattle.run_defs.specs.Headline.{FitsFabric, CompleteIsTrue, DeepIsComplete}

-- A session over a fabric: the cables of its world are a history that begins with the fabric, and each planned flip has
-- a pattern of eight bits.
pub record IsSessionOf (n : Network) (s : SessionState) : Type 0 where
  pub history : IsHistory s.world.links.cables
  pub first : fabric_at s.world.links.cables 0 ≡ n
  pub world : IsWorld s.world
  pub byte_flips : HasByteFaults s.world

-- a run of such commands ends in such a session
abbrev pub RunKeepsWorld : Type 0
RunKeepsWorld = (n : Network) (commands : List Command) (out : List Piece) (last : SessionState) → IsFabric n
    → AllByRecursion (FitsFabric n) commands → IsRun n commands out last → IsSessionOf n last

-- every map that it prints under the word complete was the mapper's part of the fabric before its command
abbrev pub CompleteMapsAreTrue : Type 0
CompleteMapsAreTrue = (n : Network) (commands : List Command) → CompleteIsTrue n commands

-- and after it, on a quiet fabric, a map to the depth that suffices, with 1 to 8 tries an ask, says complete
abbrev pub DeepMapsAreComplete : Type 0
DeepMapsAreComplete = (n : Network) (commands : List Command) → DeepIsComplete n commands
