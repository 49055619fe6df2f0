-- What every script promises that is read over a fabric without a fault.
use Rattle.std.specs.Prelude.{◌≡◌, ℕ, ◌<◌, ◌≤◌, List, length, Ok}
use Rattle.net_defs.specs.Network.{Network, IsFabric}
use Rattle.journal_defs.specs.declared.entry.Entry.{Entry}
use Rattle.journal_defs.specs.Depth.{enough_depth}
use Rattle.map_defs.specs.NetMap.{NetMap}
use Rattle.net_defs.specs.Dependencies.{IsBefore, HasNoCycle}
use Rattle.world_defs.specs.World.{WorldState, fabric_of}
use Rattle.world_defs.specs.Sound.{installed_channels}
use Rattle.world_defs.specs.Acts.{IsReached}
use Rattle.run_defs.specs.declared.command.Command.{Command}
use Rattle.run_defs.specs.declared.line.MapWords.{MapWords}
use Rattle.run_defs.specs.declared.line.MapWords.TheVariants.{Complete}
use Rattle.run_defs.specs.Mapped.{IsMapped}
use Rattle.run_defs.specs.Output.{Piece}
use Rattle.run_defs.specs.Script.{script_reading}
use Rattle.run_defs.specs.Session.{SessionState}
use Rattle.run_defs.specs.Run.{IsRun}
use Rattle.run_defs.specs.Headline.{HasPrinted, WasTrue, IsQuiet}

-- Every map that its run prints under the word complete was the mapper's part of the fabric before its command.
abbrev pub ScriptMapsAreTrue : Type 0
ScriptMapsAreTrue =
    (n : Network) (line : ℕ) (text : List ℕ) (commands : List Command) (out : List Piece) (last : SessionState)
    (mapper : ℕ) (m : NetMap)
    → IsFabric n → script_reading n line text ≡ Ok commands → IsRun n commands out last
    → (printed : HasPrinted out mapper m) → WasTrue n commands printed.before mapper m

-- After its run, on a quiet fabric, a map from a host of the fabric to the depth that suffices, of at most 65
-- cables, with 1 to 8 tries an ask, says complete.
abbrev pub DeepMapsOfScriptsAreComplete : Type 0
DeepMapsOfScriptsAreComplete =
    (n : Network) (line : ℕ) (text : List ℕ) (commands : List Command) (out : List Piece) (s : SessionState)
    (host depth tries : ℕ) (after : WorldState) (j : List Entry) (m : NetMap) (words : MapWords)
    → IsFabric n → script_reading n line text ≡ Ok commands → IsRun n commands out s
    → host < length n.hosts → depth ≤ 65 → IsMapped host depth tries s.world after j m words
    → IsQuiet host s.world after
    → 1 ≤ tries → tries ≤ 8 → enough_depth (fabric_of s.world) host ≤ depth → words ≡ Complete

-- Acts that may happen lead to the world after its run.
abbrev pub ScriptIsReached : Type 0
ScriptIsReached =
    (n : Network) (line : ℕ) (text : List ℕ) (commands : List Command) (out : List Piece) (last : SessionState)
    → IsFabric n → script_reading n line text ≡ Ok commands → IsRun n commands out last → IsReached n last.world

-- So the channels of the routes that it installed wait in no cycle.
abbrev pub ScriptHasNoCycle : Type 0
ScriptHasNoCycle =
    (n : Network) (line : ℕ) (text : List ℕ) (commands : List Command) (out : List Piece) (last : SessionState)
    → IsFabric n → script_reading n line text ≡ Ok commands → IsRun n commands out last
    → HasNoCycle (IsBefore (installed_channels last.world))
