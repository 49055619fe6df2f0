-- The tables by which classes go on from entry to entry.
use Rattle.std.specs.Prelude.{◌≡◌, ◌<◌, ℕ, ℤ, Bool, List, [], Option, length}
use Rattle.journal_defs.specs.declared.entry.Entry.{Entry}
use Rattle.journal_defs.specs.Tree.{Node}
use Rattle.port_align.specs.declared.frame.ClassFrame.{ClassFrame}
use Rattle.replicate_merge.specs.declared.heads.Head.{Head}
use Rattle.replicate_merge.specs.declared.meeting.HostNode.{HostNode}
use Rattle.port_align.specs.declared.end.NodePort.{NodePort}
use Rattle.replicate_merge.specs.declared.way.Way.{Way}
use Rattle.replicate_merge.specs.Ways.{AreWays, frame_at}
use Rattle.replicate_merge.specs.Rounds.{IsSettling}
use Rattle.replicate_merge.specs.Asked.{CountsAsked, HasOrphans}

-- Frames by the nodes that name classes, far ends, heads, and how many turns of each node are asked.
pub record Kept : Type 0 where
  pub frames : List ClassFrame
  pub ends : List (Option NodePort)
  pub hosts : List HostNode
  pub heads : List Head
  pub names : List ℕ
  pub asked : List ℕ
  pub orphans : List (List ℤ)
  pub ahead : Bool

-- The tables are those of a journal, and no pair is open.
pub record IsKept (host : ℕ) (j : List Entry) (ns : List Node) (k : Kept) (marks : List Bool) : Type 0 where
  pub ways : List Way
  pub are : AreWays host j ns ways
  pub settled : IsSettling host j j ns ways k.frames k.ends k.hosts [] k.heads k.names marks
  pub asked : CountsAsked j ns k.asked
  pub orphans : HasOrphans j k.orphans k.ahead

-- There is a head and a count for each frame, and each class is named by one of the nodes.
pub record IsShaped (k : Kept) : Type 0 where
  pub headed : length k.heads ≡ length k.frames
  pub counted : length k.asked ≡ length k.frames
  pub placed : (n : ℕ) → n < length k.frames → (frame_at k.frames n).class < length k.frames
