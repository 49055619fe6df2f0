-- The nodes of each class in a ring: each is followed by another of its class, and all stand behind the node that
-- names the class.
use Rattle.std.specs.Prelude.{◌≡◌, ◌⊎◌, ℕ, ◌+◌, ◌<◌, ℤ, nat_eq, if◌then◌else◌, List, [], ◌∷◌, length, set}
use Rattle.std.specs.Prelude.{slice_index_or}
use Rattle.port_align.specs.declared.frame.ClassFrame.{ClassFrame}
use Rattle.replicate_merge.specs.Ways.{frame_at, moved}

-- The frames of nodes, and for how many of them there is room, also in their rings.
pub record FrameTable : Type 0 where
  pub items : List ClassFrame
  pub frame_room : ℕ
  pub ring_room : ℕ

-- There is room for one node more.
abbrev pub HasFrameRoom : FrameTable → Type 0
HasFrameRoom t = (length t.items < t.frame_room) × (length t.items < t.ring_room)

-- the node that follows another in its ring
abbrev pub next_at : List ℕ → ℕ → ℕ
next_at next n = slice_index_or next n 0

-- a node of a class
abbrev pub InClass : List ClassFrame → ℕ → ℕ → Type 0
InClass fs class n = (n < length fs) × ((frame_at fs n).class ≡ class)

-- From one node to another, each time to the one that follows, over nodes of a kind.
pub data Along (next : List ℕ) (Kind : ℕ → Type 0) : ℕ → ℕ → Type 0 where
  here : (n : ℕ) → Along next Kind n n
  on : (m n : ℕ) → Kind m → Along next Kind (next_at next m) n → Along next Kind m n

-- The rings of classes: from the node that names a class each of its nodes is reached within the class, and at last
-- the first one again.
pub record AreRings (fs : List ClassFrame) (next : List ℕ) : Type 0 where
  pub same : length next ≡ length fs
  pub inside : (n : ℕ) → n < length fs → next_at next n < length fs
  pub each : (n : ℕ) → n < length fs → Along next (InClass fs (frame_at fs n).class) (frame_at fs n).class n
  pub closed : (n : ℕ) → n < length fs → (frame_at fs n).class ≡ n → Along next (InClass fs n) (next_at next n) n

-- how many nodes have a class
abbrev pub class_size : ℕ → List ClassFrame → ℕ
class_size class [] = 0
class_size class (f ∷ fs) = (if nat_eq f.class class then 1 else 0) + class_size class fs

-- Frames of which some were moved from one class to another: the others of the class are still reached from a node.
pub record IsMoving (from to : ℕ) (by : ℤ) (next : List ℕ) (old now : List ClassFrame) (node : ℕ) : Type 0 where
  pub same : length now ≡ length old
  pub inside : node < length old
  pub each : (n : ℕ) → n < length old → (frame_at now n ≡ frame_at old n)
      ⊎ (frame_at now n ≡ moved from to by (frame_at old n))
  pub left : (n : ℕ) → n < length old → (frame_at now n).class ≡ from → Along next (InClass now from) node n

-- two rings made one, each given by one of its nodes
abbrev pub spliced : ℕ → ℕ → List ℕ → List ℕ
spliced from to next = set (set next from (next_at next to)) to (next_at next from)
