-- The promise of a run, for every fabric and all commands.
use Rattle.std.specs.Prelude.{List}
use Rattle.net_defs.specs.Network.{Network, IsFabric}
use Rattle.run_defs.specs.declared.command.Command.{Command}
use Rattle.world_defs.specs.Acts.{AlwaysSound}
use Rattle.run_defs.specs.Headline.{IsHeadline}

-- every moment of a fabric's world is sound, whatever happens before it
abbrev pub MomentsAreSound : Type 0
MomentsAreSound = (n : Network) → IsFabric n → AlwaysSound n

-- every run over a fabric keeps its promise
abbrev pub RunsArePromised : Type 0
RunsArePromised = (n : Network) (commands : List Command) → IsFabric n → IsHeadline n commands
