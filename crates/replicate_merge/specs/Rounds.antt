-- Classes while a work list is done: what holds between two pairs.
use Rattle.std.specs.Prelude.{◌≡◌, ◌≢◌, ℕ, ◌*◌, ◌≤◌, ℤ, ◌+ℤ◌, ◌-ℤ◌, neg_ℤ, Bool, List, length, Option}
use Rattle.journal_defs.specs.declared.entry.Entry.{Entry}
use Rattle.journal_defs.specs.Tree.{Node}
use Rattle.port_align.specs.declared.frame.ClassFrame.{ClassFrame}
use Rattle.replicate_merge.specs.declared.heads.Head.{Head}
use Rattle.replicate_merge.specs.declared.meeting.HostNode.{HostNode}
use Rattle.replicate_merge.specs.declared.meeting.Meeting.{Meeting}
use Rattle.port_align.specs.declared.end.NodePort.{NodePort}
use Rattle.replicate_merge.specs.declared.way.Way.{Way}
use Rattle.replicate_merge.specs.declared.settling.Joined.{Joined}
use Rattle.replicate_merge.specs.Truth.{IsTrueOfOne}
use Rattle.replicate_merge.specs.Ways.{frame_at}
use Rattle.replicate_merge.specs.Work.{Knows, class_at}
use Rattle.replicate_merge.specs.Adding.{known_at}
use Rattle.replicate_merge.specs.Heads.{HasHeads, MarksNames}

-- how far the ports of the second port's class lie from those of the first's
abbrev pub pair_offset : List ClassFrame → Meeting → ℤ
pair_offset fs m = (m.first.port +ℤ (frame_at fs m.first.node).offset) -ℤ
    (m.second.port +ℤ (frame_at fs m.second.node).offset)

-- Which of a pair's two classes is joined to the other.
pub data Orients (fs : List ClassFrame) (m : Meeting) (from to : ℕ) (by : ℤ) : Type 0 where
  to_first : from ≡ class_at fs m.second → to ≡ class_at fs m.first → by ≡ pair_offset fs m → Orients fs m from to by
  to_second : from ≡ class_at fs m.first → to ≡ class_at fs m.second → by ≡ neg_ℤ (pair_offset fs m)
      → Orients fs m from to by

-- Two classes of a pair are to be joined.
pub record IsOriented (fs : List ClassFrame) (m : Meeting) (from to : ℕ) (by : ℤ) : Type 0 where
  pub orients : Orients fs m from to by
  pub two : from ≢ to

-- The tables of a journal's classes, and the pairs that are still open. Marks say which nodes are expanded by the
-- asks of a journal that may be an entry behind.
pub record IsSettling (host : ℕ) (j asks : List Entry) (ns : List Node) (ws : List Way) (fs : List ClassFrame)
    (ends : List (Option NodePort)) (hosts : List HostNode) (todo : List Meeting) (hs : List Head) (names : List ℕ)
    (marks : List Bool) : Type 0 where
  pub truth : IsTrueOfOne host j
  pub knows : Knows host j ns ws fs (known_at hosts ends) todo
  pub heads : HasHeads ns fs hs names
  pub headed : length hs ≡ length ns
  pub table : 31 * length ns ≤ length ends
  pub counted : length marks ≡ length names
  pub marked : MarksNames asks ns fs hs marks

-- The tables as they stand, with these pairs open, are those of a journal.
abbrev pub IsSettlingIn : ℕ → List Entry → List Entry → List Node → List Way → Joined → List Meeting → Type 0
IsSettlingIn host j asks ns ws t todo =
    IsSettling host j asks ns ws t.frames.items t.ends.items t.hosts.items todo t.heads.heads.items t.heads.names.items
    t.heads.marks.items

-- The tables are those of some journal.
pub record IsSettlingSome (ns : List Node) (t : Joined) (todo : List Meeting) : Type 0 where
  pub host : ℕ
  pub journal : List Entry
  pub asks : List Entry
  pub ways : List Way
  pub is : IsSettlingIn host journal asks ns ways t todo

-- The tables are still those of each journal whose they were.
abbrev pub KeepsSettling : List Node → Joined → List Meeting → Joined → List Meeting → Type 0
KeepsSettling ns old before new after = (host : ℕ) (j asks : List Entry) (ws : List Way)
    → IsSettlingIn host j asks ns ws old before → IsSettlingIn host j asks ns ws new after
