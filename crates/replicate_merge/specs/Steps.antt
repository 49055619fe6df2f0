-- What one step changes of the tables of joined classes: a node, ways or a mark more.
use Rattle.std.specs.Prelude.{◌≡◌, ℕ, ◌<◌, Bool, true, List, [], ◌∷◌, ◌++◌, length, set, vec_len}
use Rattle.std.specs.Prelude.{vec_capacity}
use Rattle.journal_defs.specs.declared.entry.Entry.{Entry}
use Rattle.journal_defs.specs.Tree.{Node}
use Rattle.replicate_merge.specs.declared.settling.Joined.{Joined}
use Rattle.replicate_merge.specs.declared.way.Way.{Way}
use Rattle.replicate_merge.specs.Ways.{Has, IsWay, frame_at, own_frame}
use Rattle.replicate_merge.specs.Heads.{head_at, own_head}
use Rattle.replicate_merge.specs.Rings.{HasFrameRoom}
use Rattle.port_align.specs.Ends.{AddsPlaces, HasRoomForNumber}
use Rattle.replicate_merge.specs.Rounds.{IsSettlingIn}

-- There is room for one node more.
pub record HasRoomForNode (t : Joined) : Type 0 where
  pub frames : HasFrameRoom t.frames
  pub ends : HasRoomForNumber t.ends
  pub heads : vec_len t.heads.heads < vec_capacity t.heads.heads
  pub names : vec_len t.heads.names < vec_capacity t.heads.names
  pub marks : vec_len t.heads.marks < vec_capacity t.heads.marks

-- The tables with a node more, which is a class of its own.
pub record AddsNode (marked : Bool) (old new : Joined) : Type 0 where
  pub frames : new.frames.items ≡ old.frames.items ++ own_frame (length old.frames.items) ∷ []
  pub ends : AddsPlaces old.ends.items new.ends.items
  pub heads : new.heads.heads.items ≡ old.heads.heads.items
      ++ own_head (length old.heads.names.items) (length old.heads.heads.items) ∷ []
  pub names : new.heads.names.items ≡ old.heads.names.items ++ length old.heads.heads.items ∷ []
  pub marks : new.heads.marks.items ≡ old.heads.marks.items ++ marked ∷ []
  pub hosts : new.hosts ≡ old.hosts
  pub todo : new.todo ≡ old.todo

-- The tables are those of some journal, whose ways these are.
pub record MayAddWays (ns : List Node) (t : Joined) (more : List Way) : Type 0 where
  pub host : ℕ
  pub journal : List Entry
  pub asks : List Entry
  pub ways : List Way
  pub is : IsSettlingIn host journal asks ns ways t t.todo.items
  pub each : (w : Way) → Has more w → IsWay host journal ns w

-- The tables with ways more, for each journal whose ways they are.
abbrev pub AddsWays : List Node → List Way → Joined → Joined → Type 0
AddsWays ns more old new = (host : ℕ) (j asks : List Entry) (ways : List Way)
    → IsSettlingIn host j asks ns ways old old.todo.items → ((w : Way) → Has more w → IsWay host j ns w)
    → IsSettlingIn host j asks ns (ways ++ more) new new.todo.items

-- The class of a node is marked.
pub record MarksNode (node : ℕ) (old new : Joined) : Type 0 where
  pub marks : new.heads.marks.items ≡ set old.heads.marks.items
      (head_at old.heads.heads.items (frame_at old.frames.items node).class).number true
  pub heads : new.heads.heads ≡ old.heads.heads
  pub names : new.heads.names ≡ old.heads.names
  pub frames : new.frames ≡ old.frames
  pub ends : new.ends ≡ old.ends
  pub hosts : new.hosts ≡ old.hosts
  pub todo : new.todo ≡ old.todo

-- Two tables have the same items, and perhaps other room.
pub record SameItems (old new : Joined) : Type 0 where
  pub frames : new.frames.items ≡ old.frames.items
  pub ends : new.ends.items ≡ old.ends.items
  pub hosts : new.hosts.items ≡ old.hosts.items
  pub todo : new.todo.items ≡ old.todo.items
  pub heads : new.heads.heads.items ≡ old.heads.heads.items
  pub names : new.heads.names.items ≡ old.heads.names.items
  pub marks : new.heads.marks.items ≡ old.heads.marks.items

-- The tables have no nodes.
pub record HasNoNodes (t : Joined) : Type 0 where
  pub frames : t.frames.items ≡ []
  pub ends : t.ends.items ≡ []
  pub hosts : t.hosts.items ≡ []
  pub todo : t.todo.items ≡ []
  pub heads : t.heads.heads.items ≡ []
  pub names : t.heads.names.items ≡ []
  pub marks : t.heads.marks.items ≡ []
