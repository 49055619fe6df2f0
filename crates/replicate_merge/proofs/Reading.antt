-- A node read by its number, and by its walk.
use Rattle.std.proofs.Common.{◌≡◌, ◌≢◌, ◌<◌, ℕ, zero, suc, ◌+◌, List, [], ◌∷◌, Bool, true, false, length, map, set, Option, Some, None, ap, sym, ◌∙◌, subst, arith}
use Rattle.std.specs.Prelude.{ℤ, slice_get, Result, Ok, Err, OnErr}
use Rattle.std.proofs.Math.ListN.{length-set}
use Rattle.std.proofs.lemmas.Option.{slice_get-map, slice_get-get_or}
use Rattle.net_defs.specs.Turn.{IsTurn}
use Rattle.journal_defs.specs.Tree.{Node}
use Rattle.journal_defs.specs.Tree.Node.{Reached}
use Rattle.probe.specs.Keeping.{has_walk}
use Rattle.port_align.specs.declared.frame.ClassFrame.{ClassFrame}
use Rattle.replicate_merge.specs.Between.{number_of}
use Rattle.replicate_merge.specs.Heads.{head_at, seen_frame}
use Rattle.replicate_merge.specs.Kept.{IsShaped, Kept}
use Rattle.replicate_merge.specs.Steps.{MarksNode, SameItems}
use Rattle.replicate_merge.specs.Table.{ClassTable, IsTable}
use Rattle.replicate_merge.specs.declared.settling.Joined.{Joined}
use Rattle.replicate_merge.specs.Ways.{frame_at, own_frame}
use Rattle.replicate_merge.specs.Seen.{class_table, kept_of}
use Rattle.replicate_merge.specs.Nodes.{nodes_of}
use Rattle.replicate_merge.proofs.Naming.{map-count, map-get}
use Rattle.replicate_merge.proofs.Telling.{no-walk}

-- the node of a walk at a place
pub node-there : (walks : List (List ℤ)) (at : ℕ) (w : List ℤ) → slice_get walks at ≡ Some w → slice_get (nodes_of walks) (at + 1) ≡ Some (Reached w)
node-there walks at w e = ap (slice_get (nodes_of walks)) (let s : at + 1 ≡ suc at = omega arith in s) ∙ slice_get-map Reached walks at ∙ (λ i. one (e i))
  where
    one : Option (List ℤ) → Option Node
    one None = None
    one (Some v) = Some (Reached v)

-- a walk that isn't there has no node
pub node-missing : (walks : List (List ℤ)) (w : List ℤ) → has_walk walks w ≡ false → (n : ℕ) → slice_get (nodes_of walks) n ≢ Some (Reached w)
node-missing walks w e zero p = cc
node-missing walks w e (suc n) p = no-walk walks w e n (below walks n p)
  where
    below : (vs : List (List ℤ)) (k : ℕ) → slice_get (map Reached vs) k ≡ Some (Reached w) → slice_get vs k ≡ Some w
    below [] k q = cc
    below (v ∷ vs) zero q = let one : v ≡ w = cc in ap Some one
    below (v ∷ vs) (suc k) q = below vs k q

-- what is read of a node
pub record ReadsNode (c : ClassTable) (n : ℕ) : Type 0 where
  pub there : n < length c.kept.frames
  pub named : (frame_at c.kept.frames n).class < length c.kept.heads
  pub framed : slice_get c.frames n ≡ Some (seen_frame c.kept.heads (frame_at c.kept.frames n))
  pub number : number_of c n < length c.expanded
  pub turn : IsTurn (seen_frame c.kept.heads (frame_at c.kept.frames n)).offset
  pub counted : n < length c.kept.asked

pub reads-node : (c : ClassTable) (n : ℕ) → c.frames ≡ map (seen_frame c.kept.heads) c.kept.frames → IsTable c → IsShaped c.kept → n < length c.nodes → ReadsNode c n
reads-node c n seen t s l =
    let count : length c.frames ≡ length (map (seen_frame c.kept.heads) c.kept.frames) = ap length seen in
    let same = map-count c.kept.heads c.kept.frames in
    let framed = t.framed in
    let there : n < length c.kept.frames = omega arith in
    let frame : slice_get c.frames n ≡ Some (seen_frame c.kept.heads (frame_at c.kept.frames n)) = ap (λ (fs : List ClassFrame). slice_get fs n) seen ∙ map-get c.kept.heads c.kept.frames n (frame_at c.kept.frames n) (slice_get-get_or c.kept.frames n (own_frame 0) there) in
    let placed = t.placed n (seen_frame c.kept.heads (frame_at c.kept.frames n)) frame in
    record {
      there = there;
      named = (let p = s.placed n there in let h = s.headed in omega arith);
      framed = frame;
      number = placed.0;
      turn = placed.1;
      counted = (let k = s.counted in omega arith);
    }

-- tables with other marks, and with another count of asked turns
pub table-marked : (c : ClassTable) (marks : List Bool) (kept : Kept) → length marks ≡ length c.expanded → IsTable c → IsTable (record c { expanded = marks; kept = kept })
table-marked c marks kept same t = record {
  framed = t.framed;
  few = t.few;
  counted = (let a = t.counted in omega arith);
  placed = λ n f e. ((let a = (t.placed n f e).0 in omega arith), (t.placed n f e).1);
}

pub shape-counted : (k : Kept) (asked : List ℕ) → length asked ≡ length k.asked → IsShaped k → IsShaped (record k { asked = asked })
shape-counted k asked same s = record { headed = s.headed; counted = same ∙ s.counted; placed = s.placed }

-- the tables once a class was marked
pub marked-table : (walks : List (List ℤ)) (t new : Joined) (node : ℕ) (asked : List ℕ) (orphans : List (List ℤ)) (ahead : Bool) → MarksNode node t new → class_table walks (kept_of new asked orphans ahead) new.heads.marks.items ≡ record (class_table walks (kept_of t asked orphans ahead) t.heads.marks.items) { expanded = set t.heads.marks.items (head_at t.heads.heads.items (frame_at t.frames.items node).class).number true }
marked-table walks t new node asked orphans ahead m = λ i. record {
  nodes = nodes_of walks;
  frames = map (seen_frame (m.heads i).items) (m.frames i).items;
  expanded = m.marks i;
  kept = record { frames = (m.frames i).items; ends = (m.ends i).items; hosts = (m.hosts i).items; heads = (m.heads i).items; names = (m.names i).items; asked = asked; orphans = orphans; ahead = ahead };
}

-- the tables with other room
pub same-table : (walks : List (List ℤ)) (t new : Joined) (asked : List ℕ) (orphans : List (List ℤ)) (ahead : Bool) → SameItems t new → class_table walks (kept_of new asked orphans ahead) new.heads.marks.items ≡ class_table walks (kept_of t asked orphans ahead) t.heads.marks.items
same-table walks t new asked orphans ahead m = λ i. record {
  nodes = nodes_of walks;
  frames = map (seen_frame (m.heads i)) (m.frames i);
  expanded = m.marks i;
  kept = record { frames = m.frames i; ends = m.ends i; hosts = m.hosts i; heads = m.heads i; names = m.names i; asked = asked; orphans = orphans; ahead = ahead };
}

pub room-view : (walks later : List (List ℤ)) (t new : Joined) (asked counted : List ℕ) (orphans : List (List ℤ)) (ahead : Bool) → later ≡ walks → SameItems t new → counted ≡ asked → class_table later (kept_of new counted orphans ahead) new.heads.marks.items ≡ class_table walks (kept_of t asked orphans ahead) t.heads.marks.items
room-view walks later t new asked counted orphans ahead e same c = (λ i. class_table (e i) (kept_of new (c i) orphans ahead) new.heads.marks.items) ∙ same-table walks t new asked orphans ahead same

-- what holds anyway holds where memory runs out
pub on-err : {X E P : Type 0} (r : Result X E) → P → OnErr r P
on-err (Ok x) p = tt
on-err (Err e) p = p

-- what is kept of every table
abbrev pub IsWhole : List (List ℤ) → Joined → List ℕ → List (List ℤ) → Bool → Type 0
IsWhole walks t asked orphans ahead = IsTable (class_table walks (kept_of t asked orphans ahead) t.heads.marks.items) × IsShaped (kept_of t asked orphans ahead) × (t.todo.items ≡ [])

pub room-whole : (walks later : List (List ℤ)) (t new : Joined) (asked counted : List ℕ) (orphans : List (List ℤ)) (ahead : Bool) → later ≡ walks → SameItems t new → counted ≡ asked → IsWhole walks t asked orphans ahead → IsWhole later new counted orphans ahead
room-whole walks later t new asked counted orphans ahead e same c i =
    let p = room-view walks later t new asked counted orphans ahead e same c in
    (subst (λ (x : ClassTable). IsTable x) (sym p) i.0, subst (λ (x : ClassTable). IsShaped x.kept) (sym p) i.1, same.todo ∙ i.2)

pub marked-whole : (walks : List (List ℤ)) (t new : Joined) (node : ℕ) (asked counted : List ℕ) (orphans : List (List ℤ)) (ahead : Bool) → MarksNode node t new → length counted ≡ length asked → IsWhole walks t asked orphans ahead → IsWhole walks new counted orphans ahead
marked-whole walks t new node asked counted orphans ahead m count i =
    let number = (head_at t.heads.heads.items (frame_at t.frames.items node).class).number in
    let p = marked-table walks t new node counted orphans ahead m in
    let table = table-marked (class_table walks (kept_of t asked orphans ahead) t.heads.marks.items) (set t.heads.marks.items number true) (kept_of t counted orphans ahead) (length-set t.heads.marks.items number true) i.0 in
    (subst (λ (x : ClassTable). IsTable x) (sym p) table, subst (λ (x : ClassTable). IsShaped x.kept) (sym p) (shape-counted (kept_of t asked orphans ahead) counted count i.1), ap (λ v. v.items) m.todo ∙ i.2)
