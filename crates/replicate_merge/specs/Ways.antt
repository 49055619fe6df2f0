-- What shows that nodes are replicates: two ways that begin at one spot end at one spot.
use Rattle.std.specs.Prelude.{◌≡◌, ℕ, ◌<◌, ◌≤◌, ℤ, pos, ◌+ℤ◌, nat_eq, if◌then◌else◌, List, length, slice_get}
use Rattle.std.specs.Prelude.{slice_index_or, Some}
use Rattle.journal_defs.specs.declared.entry.Entry.{Entry}
use Rattle.journal_defs.specs.Tree.{Node, host_of, Leads}
use Rattle.journal_defs.specs.Tree.Node.{Mapper}
use Rattle.journal_defs.specs.Replicates.{Replicates}
use Rattle.port_align.specs.declared.frame.ClassFrame.{ClassFrame}
use Rattle.replicate_merge.specs.declared.way.Spot.{Spot}
use Rattle.replicate_merge.specs.declared.way.Spot.TheVariants.{Address, Port}
use Rattle.replicate_merge.specs.declared.way.Way.{Way}
use Rattle.replicate_merge.specs.declared.way.Way.TheVariants.{Host, Cable}

-- the node of a number below their count, and its frame
abbrev pub node_at : List Node → ℕ → Node
node_at ns n = slice_index_or ns n Mapper

-- the frame of a node that is a class of its own
abbrev pub own_frame : ℕ → ClassFrame
own_frame n = record { class = n; offset = pos 0 }

-- the frame of a node
abbrev pub frame_at : List ClassFrame → ℕ → ClassFrame
frame_at fs n = slice_index_or fs n (own_frame 0)

-- a port of a node as one of its class
abbrev pub class_port : List ClassFrame → ℕ → ℤ → ℕ × ℤ
class_port fs n p = ((frame_at fs n).class, p +ℤ (frame_at fs n).offset)

-- where a way begins: at a host, or at a port of a class
abbrev pub begins_at : List ClassFrame → Way → Spot
begins_at fs (Host address n) = Address address
begins_at fs (Cable m p n i) = Port (class_port fs m p).0 (class_port fs m p).1

-- the port of a class at which it ends
abbrev pub ends_at : List ClassFrame → Way → ℕ × ℤ
ends_at fs (Host address n) = class_port fs n (pos 0)
ends_at fs (Cable m p n i) = class_port fs n i

-- the nodes of a way are among so many
abbrev pub IsInside : ℕ → Way → Type 0
IsInside count (Host address n) = n < count
IsInside count (Cable m p n i) = (m < count) × (n < count)

-- a way stands among ways
pub record Has (ws : List Way) (w : Way) : Type 0 where
  pub place : ℕ
  pub there : slice_get ws place ≡ Some w

-- A way is one of the journal's: of a host, or of a port that leads to a port.
abbrev pub IsWay : ℕ → List Entry → List Node → Way → Type 0
IsWay host j ns (Host address n) = (n < length ns) × (host_of host j (node_at ns n) ≡ Some address)
IsWay host j ns (Cable m p n i) = (m < length ns) × (n < length ns) × Leads j (node_at ns m) p (node_at ns n) i

-- These are all ways of a journal, over its nodes by number.
pub record AreWays (host : ℕ) (j : List Entry) (ns : List Node) (ws : List Way) : Type 0 where
  pub each : (w : Way) → Has ws w → IsWay host j ns w
  pub hosts : (n address : ℕ) → n < length ns → host_of host j (node_at ns n) ≡ Some address → Has ws (Host address n)
  pub cables : (m n : ℕ) (p i : ℤ) → m < length ns → n < length ns → Leads j (node_at ns m) p (node_at ns n) i
      → Has ws (Cable m p n i)

-- Frames that join replicates alone: a class is named by the number of one of its nodes.
pub record AreSound (host : ℕ) (j : List Entry) (ns : List Node) (fs : List ClassFrame) : Type 0 where
  pub framed : length fs ≡ length ns
  pub placed : (n : ℕ) → n < length ns → (frame_at fs n).class < length ns
  pub rooted : (n : ℕ) → n < length ns → frame_at fs (frame_at fs n).class ≡ own_frame (frame_at fs n).class
  pub replicates : (n : ℕ) → n < length ns → Replicates host j (node_at ns n) (node_at ns (frame_at fs n).class)
      (frame_at fs n).offset

-- No two ways that begin at one spot end in two classes.
abbrev pub AreClosed : List Way → List ClassFrame → Type 0
AreClosed ws fs = (v w : Way) → Has ws v → Has ws w → begins_at fs v ≡ begins_at fs w
    → (ends_at fs v).0 ≡ (ends_at fs w).0

-- a frame once one class is joined to another, whose ports lie so far from its own
abbrev pub moved : ℕ → ℕ → ℤ → ClassFrame → ClassFrame
moved from to by f = if nat_eq f.class from then record { class = to; offset = f.offset +ℤ by } else f

-- Frames after one class was joined to another.
pub record AreJoined (from to : ℕ) (by : ℤ) (old new : List ClassFrame) : Type 0 where
  pub same : length new ≡ length old
  pub each : (n : ℕ) → n < length old → frame_at new n ≡ moved from to by (frame_at old n)

-- The frames below a bound after they were moved one after another, and the others.
pub record AreMovedBelow (from to : ℕ) (by : ℤ) (old : List ClassFrame) (bound : ℕ)
    (new : List ClassFrame) : Type 0 where
  pub same : length new ≡ length old
  pub done : (n : ℕ) → n < bound → frame_at new n ≡ moved from to by (frame_at old n)
  pub left : (n : ℕ) → bound ≤ n → frame_at new n ≡ frame_at old n
