-- What a run promises: a map that says complete is the mapper's part of the fabric as it stood before; on a quiet
-- fabric, probed deeply enough, it says so; every moment is sound.
use Rattle.std.specs.Prelude.{◌≡◌, ◌⊎◌, ℕ, ◌<◌, ◌≤◌, ◌^◌, true, List, ◌∷◌, ◌++◌, length}
use Rattle.std.specs.List.{AllByRecursion}
use Rattle.net_defs.specs.Network.{Network, IsFabric}
use Rattle.world_defs.specs.Links.{is_idle}
use Rattle.journal_defs.specs.declared.entry.Entry.{Entry}
use Rattle.journal_defs.specs.Depth.{IsSmallEnough, enough_depth}
use Rattle.map_defs.specs.NetMap.{NetMap}
use Rattle.map_defs.specs.Sameness.{IsMapOfPart}
use Rattle.world_defs.specs.World.{WorldState, fabric_of}
use Rattle.world_defs.specs.EightBits.{IsByteFault}
use Rattle.world_defs.specs.Acts.{AlwaysSound}
use Rattle.run_defs.specs.declared.command.Command.{Command}
use Rattle.run_defs.specs.declared.command.Command.TheVariants.{Map, Circuit, Plan}
use Rattle.run_defs.specs.declared.line.MapWords.{MapWords}
use Rattle.run_defs.specs.declared.line.MapWords.TheVariants.{Complete}
use Rattle.run_defs.specs.declared.line.Line.TheVariants.{Map as MapLine}
use Rattle.run_defs.specs.Mapped.{IsMapped}
use Rattle.run_defs.specs.Outcome.{fault_of}
use Rattle.run_defs.specs.Output.{Piece, OneLine, MapLines}
use Rattle.run_defs.specs.Session.{SessionState}
use Rattle.run_defs.specs.Run.{IsRun}

-- a run printed a map under the word complete
pub record HasPrinted (out : List Piece) (mapper : ℕ) (m : NetMap) : Type 0 where
  pub before : List Piece
  pub behind : List Piece
  pub asks : ℕ
  pub packets : ℕ
  pub there : out ≡ before ++ OneLine (MapLine mapper Complete asks packets) ∷ MapLines m ∷ behind

-- A command of a run, before which the run had printed these pieces: the commands before it had led to this session.
pub record IsDoneAfter (n : Network) (commands : List Command) (before : List Piece) (c : Command) : Type 0 where
  pub front : List Command
  pub rest : List Command
  pub split : commands ≡ front ++ c ∷ rest
  pub session : SessionState
  pub ran : IsRun n front before session

-- A map was the mapper's part of the fabric as it stood before the command that printed it, the ports of each switch
-- counted from elsewhere.
pub record WasTrue (n : Network) (commands : List Command) (before : List Piece) (mapper : ℕ) (m : NetMap)
    : Type 0 where
  pub depth : ℕ
  pub tries : ℕ
  pub done : IsDoneAfter n commands before (Map mapper depth tries)
  pub right : IsMapOfPart (fabric_of done.session.world) mapper m

-- a command over a fabric: it maps from a host of the fabric to at most 65 cables, maps its circuit links from a host
-- of it, and plans flips of eight bits
abbrev pub FitsFabric : Network → Command → Type 0
FitsFabric n (Map host depth tries) = (host < length n.hosts) × (depth ≤ 65)
FitsFabric n (Circuit host depth) = host < length n.hosts
FitsFabric n (Plan ahead kind) = IsByteFault (fault_of kind)
FitsFabric n _ = Unit {0}

-- every map that says complete was the mapper's part of the fabric before the command that printed it
abbrev pub CompleteIsTrue : Network → List Command → Type 0
CompleteIsTrue n commands =
    IsFabric n → AllByRecursion (FitsFabric n) commands
    → (out : List Piece) (last : SessionState) (mapper : ℕ) (m : NetMap) → IsRun n commands out last
    → (printed : HasPrinted out mapper m) → WasTrue n commands printed.before mapper m

-- Mapping meets a quiet fabric: no packet is on its way, no planned fault names an injection of it, injections are
-- left in plenty, and the tree stays small.
pub record IsQuiet (host : ℕ) (before after : WorldState) : Type 0 where
  pub idle : is_idle before.links ≡ true
  pub unplanned : AllByRecursion (λ f. (f.0 ≤ before.injected) ⊎ (after.injected < f.0)) before.plan
  pub injections_left : before.injected < 2 ^ 63
  pub small : IsSmallEnough (fabric_of before) host

-- on a quiet fabric a map to the depth that suffices, with 1 to 8 tries an ask, says complete
abbrev pub DeepIsComplete : Network → List Command → Type 0
DeepIsComplete n commands =
    (out : List Piece) (s : SessionState) (host depth tries : ℕ) (after : WorldState) (j : List Entry) (m : NetMap)
    (words : MapWords)
    → IsFabric n → AllByRecursion (FitsFabric n) commands → IsRun n commands out s
    → FitsFabric n (Map host depth tries) → IsMapped host depth tries s.world after j m words
    → IsQuiet host s.world after
    → 1 ≤ tries → tries ≤ 8 → enough_depth (fabric_of s.world) host ≤ depth → words ≡ Complete

-- The promise of a run.
pub record IsHeadline (n : Network) (commands : List Command) : Type 0 where
  pub complete : CompleteIsTrue n commands
  pub deep : DeepIsComplete n commands
  pub sound : AlwaysSound n
