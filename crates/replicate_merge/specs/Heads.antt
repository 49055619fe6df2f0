-- Classes that are named by one of their nodes, as callers see them: by numbers without gaps, with ports from those
-- of their least nodes.
use Rattle.std.specs.Prelude.{◌≡◌, ◌↔◌, ℕ, ◌<◌, ℤ, pos, ◌-ℤ◌, true, false, Bool, List, length, slice_get}
use Rattle.std.specs.Prelude.{slice_index_or, Some}
use Rattle.net_defs.specs.Turn.{IsTurn}
use Rattle.journal_defs.specs.declared.entry.Entry.{Entry}
use Rattle.journal_defs.specs.Tree.{Node, node_below}
use Rattle.journal_defs.specs.Tree.Node.{Reached}
use Rattle.journal_defs.specs.Growth.{IsExpanded}
use Rattle.port_align.specs.declared.frame.ClassFrame.{ClassFrame}
use Rattle.replicate_merge.specs.declared.heads.Head.{Head}
use Rattle.replicate_merge.specs.Ways.{frame_at, node_at}

-- the head at a node
abbrev pub head_at : List Head → ℕ → Head
head_at hs n = slice_index_or hs n (record { number = 0; least = 0; base = pos 0; count = 0 })

-- the head of a node that is a class of its own
abbrev pub own_head : ℕ → ℕ → Head
own_head number n = record { number = number; least = n; base = pos 0; count = 1 }

-- what callers see of a frame: the number of its class, and its ports from those of the class's least node
abbrev pub seen_frame : List Head → ClassFrame → ClassFrame
seen_frame hs f = record { class = (head_at hs f.class).number; offset = f.offset -ℤ (head_at hs f.class).base }

-- Each frame's class is named by a node that has a head, and what callers see of the frame has a port for an offset.
pub record AreSeen (hs : List Head) (fs : List ClassFrame) : Type 0 where
  pub named : (n : ℕ) → n < length fs → (frame_at fs n).class < length hs
  pub turns : (n : ℕ) → n < length fs → IsTurn (seen_frame hs (frame_at fs n)).offset

-- Classes are numbered without gaps, and each has its least node.
pub record HasHeads (ns : List Node) (fs : List ClassFrame) (hs : List Head) (names : List ℕ) : Type 0 where
  pub named : (n : ℕ) → n < length ns → slice_get names (head_at hs (frame_at fs n).class).number
      ≡ Some (frame_at fs n).class
  pub name : (class n : ℕ) → slice_get names class ≡ Some n
      → (n < length ns) × ((frame_at fs n).class ≡ n) × ((head_at hs n).number ≡ class)
  pub inside : (n : ℕ) → n < length ns → (head_at hs (frame_at fs n).class).least < length ns
  pub based : (n : ℕ) → n < length ns → frame_at fs (head_at hs (frame_at fs n).class).least
      ≡ record { class = (frame_at fs n).class; offset = (head_at hs (frame_at fs n).class).base }
  pub least : (n : ℕ) → n < length ns → node_below (node_at ns n)
      (node_at ns (head_at hs (frame_at fs n).class).least) ≡ false

-- A class has an expanded node.
pub record HasExpandedNode (j : List Entry) (ns : List Node) (fs : List ClassFrame) (name : ℕ) : Type 0 where
  pub number : ℕ
  pub below : number < length ns
  pub walk : List ℤ
  pub node : node_at ns number ≡ Reached walk
  pub in_class : (frame_at fs number).class ≡ name
  pub expanded : IsExpanded j walk

-- The marks by number are those of the classes with an expanded node.
abbrev pub MarksNames : List Entry → List Node → List ClassFrame → List Head → List Bool → Type 0
MarksNames j ns fs hs marks = (n : ℕ) → n < length ns
    → (slice_get marks (head_at hs (frame_at fs n).class).number ≡ Some true) ↔ HasExpandedNode j ns fs
    (frame_at fs n).class
