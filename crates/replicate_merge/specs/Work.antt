-- Classes joined pair by pair: what is known of the ways of a journal while a work list of pairs is open.
use Rattle.std.specs.Prelude.{◌≡◌, ◌≢◌, ◌⊎◌, ℕ, ◌<◌, ℤ, pos, ◌+ℤ◌, ◌-ℤ◌, List, length, slice_get, Option, Some, None}
use Rattle.journal_defs.specs.declared.entry.Entry.{Entry}
use Rattle.journal_defs.specs.Tree.{Node}
use Rattle.journal_defs.specs.Replicates.{Replicates}
use Rattle.port_align.specs.declared.frame.ClassFrame.{ClassFrame}
use Rattle.port_align.specs.declared.end.NodePort.{NodePort}
use Rattle.replicate_merge.specs.declared.meeting.Meeting.{Meeting}
use Rattle.replicate_merge.specs.declared.way.Spot.{Spot}
use Rattle.replicate_merge.specs.declared.way.Spot.TheVariants.{Port}
use Rattle.replicate_merge.specs.declared.way.Way.{Way}
use Rattle.replicate_merge.specs.declared.way.Way.TheVariants.{Host, Cable}
use Rattle.replicate_merge.specs.Ways.{AreSound, Has, IsWay, begins_at, frame_at, node_at}

-- An item of a list.
pub record Among {X : Type 0} (xs : List X) (x : X) : Type 0 where
  pub place : ℕ
  pub there : slice_get xs place ≡ Some x

-- the class of the node of a port
abbrev pub class_at : List ClassFrame → NodePort → ℕ
class_at fs e = (frame_at fs e.node).class

-- the port of a node at which a way ends
abbrev pub far_end : Way → NodePort
far_end (Host address n) = record { node = n; port = pos 0 }
far_end (Cable m p n i) = record { node = n; port = i }

-- Labels of classes agree with a work list: the two classes of each pair have one label.
abbrev pub Agrees : (ℕ → ℕ) → List ClassFrame → List Meeting → Type 0
Agrees g fs todo = (m : Meeting) → Among todo m → g (class_at fs m.first) ≡ g (class_at fs m.second)

-- An end is known where a way begins, whose class has the label of the class at which the way ends.
pub record IsSeen (g : ℕ → ℕ) (fs : List ClassFrame) (known : Option NodePort) (w : Way) : Type 0 where
  pub end : NodePort
  pub is : known ≡ Some end
  pub one : g (class_at fs end) ≡ g (class_at fs (far_end w))

-- A way that begins at a spot and ends at a port of a node.
pub record HasEnd (ws : List Way) (fs : List ClassFrame) (s : Spot) (e : NodePort) : Type 0 where
  pub way : Way
  pub there : Has ws way
  pub begin : begins_at fs way ≡ s
  pub end : far_end way ≡ e

-- Two ports of nodes are one port of one switch.
pub record IsMeeting (host : ℕ) (j : List Entry) (ns : List Node) (m : Meeting) : Type 0 where
  pub first : m.first.node < length ns
  pub second : m.second.node < length ns
  pub one : Replicates host j (node_at ns m.first.node) (node_at ns m.second.node) (m.second.port -ℤ m.first.port)

-- Sound frames, and ends of ways that are known by where they begin. The class of an end that is known is that of
-- each way that begins there, once the pairs of the work list are joined: each labelling of the classes that agrees
-- with the list gives the two one label.
pub record Knows (host : ℕ) (j : List Entry) (ns : List Node) (ws : List Way) (fs : List ClassFrame) (known : Spot
    → Option NodePort) (todo : List Meeting) : Type 0 where
  pub ways : (w : Way) → Has ws w → IsWay host j ns w
  pub sound : AreSound host j ns fs
  pub told : (s : Spot) (e : NodePort) → known s ≡ Some e → HasEnd ws fs s e
  pub meet : (m : Meeting) → Among todo m → IsMeeting host j ns m
  pub seen : (g : ℕ → ℕ) → Agrees g fs todo → (w : Way) → Has ws w → IsSeen g fs (known (begins_at fs w)) w

-- One way more was added.
pub record HasOneMore (old : List Way) (w : Way) (new : List Way) : Type 0 where
  pub kept : (v : Way) → Has old v → Has new v
  pub there : Has new w
  pub only : (v : Way) → Has new v → Has old v ⊎ (v ≡ w)

-- What is known once the end of a spot was learnt of which nothing was known.
pub record LearnsEnd (old new : Spot → Option NodePort) (begin : Spot) (end : NodePort) : Type 0 where
  pub fresh : old begin ≡ None
  pub here : new begin ≡ Some end
  pub other : (s : Spot) → begin ≢ s → new s ≡ old s

-- Of two ends that are known of one port, one was kept, and the pair is on the work list.
pub record Clashes (new : Option NodePort) (todo : List Meeting) (end : NodePort) : Type 0 where
  pub kept : NodePort
  pub is : new ≡ Some kept
  pub listed : Among todo (record { first = kept; second = end })

-- Ends that are known of one class, moved to another class whose ports lie so far from its own.
pub record MovesEnds (from to : ℕ) (by : ℤ) (old new : Spot
    → Option NodePort) (before after : List Meeting) : Type 0 where
  pub other : (s : Spot) → ((p : ℤ) → s ≢ Port from p) → ((p : ℤ) → s ≢ Port to p) → new s ≡ old s
  pub gone : (p : ℤ) → new (Port from p) ≡ None
  pub kept : (p : ℤ) (e : NodePort) → old (Port to p) ≡ Some e → new (Port to p) ≡ Some e
  pub moved : (p : ℤ) (e : NodePort) → old (Port from p) ≡ Some e
      → (new (Port to (p +ℤ by)) ≡ Some e) ⊎ Clashes (new (Port to (p +ℤ by))) after e
  pub told : (p : ℤ) (e : NodePort) → new (Port to p) ≡ Some e
      → (old (Port to p) ≡ Some e) ⊎ (old (Port from (p -ℤ by)) ≡ Some e)
  pub stays : (m : Meeting) → Among before m → Among after m
  pub only : (m : Meeting) → Among after m → Among before m
      ⊎ ((p : ℤ) × (old (Port to (p +ℤ by)) ≡ Some m.first) × (old (Port from p) ≡ Some m.second))
