-- Classes without the tables by which they go on.
use Rattle.std.proofs.Common.{◌≡◌, ◌<◌, ℕ, List, length, map, Some, ap, sym, ◌∙◌, subst, arith}
use Rattle.std.specs.Prelude.{slice_get, slice_index_or}
use Rattle.std.proofs.lemmas.Option.{slice_get-get_or}
use Rattle.journal_defs.specs.declared.entry.Entry.{Entry}
use Rattle.journal_defs.specs.Tree.{Node}
use Rattle.port_align.specs.declared.frame.ClassFrame.{ClassFrame}
use Rattle.replicate_merge.specs.Heads.{AreSeen, seen_frame}
use Rattle.replicate_merge.specs.Kept.{IsShaped}
use Rattle.replicate_merge.specs.Table.{ClassTable, HasLeast, IsFramed, IsTable, StandsFor}
use Rattle.replicate_merge.proofs.Naming.{map-count}
use Rattle.replicate_merge.specs.Merged.{AreClassesOf, without_tables}
use Rattle.replicate_merge.proofs.Reading.{ReadsNode, reads-node}

-- a node has the same frame there
with-tables : (c : ClassTable) (n : ℕ) (u : Node) (f : ClassFrame) → IsFramed (without_tables c) n u f → IsFramed c n u f
with-tables c n u f a = record { node = a.node; frame = a.frame }

least-kept : (c : ClassTable) (class : ℕ) → HasLeast c class → HasLeast (without_tables c) class
least-kept c class h = record {
  number = h.number;
  node = h.node;
  framed = record { node = h.framed.node; frame = h.framed.frame };
  least = λ n v g a. h.least n v g (with-tables c n v g a);
}

-- classes that stand for a journal are those of its nodes
pub stands-classes : (host : ℕ) (j : List Entry) (c m : ClassTable) → StandsFor host j c → m ≡ without_tables c → AreClassesOf host j m
stands-classes host j c m s is = subst (λ (x : ClassTable). AreClassesOf host j x) (sym is) (record {
  numbered = s.numbered;
  together = λ p n u v f g k a b r. s.together p n u v f g k (with-tables c p u f a) (with-tables c n v g b) r;
  only = λ p n u v f g k a b r. s.only p n u v f g k (with-tables c p u f a) (with-tables c n v g b) r;
  least = λ class l. least-kept c class (s.least class l);
})

pub table-kept : (c : ClassTable) → IsTable c → IsTable (without_tables c)
table-kept c t = record { framed = t.framed; few = t.few; counted = t.counted; placed = t.placed }

-- each frame is seen by a head
pub all-seen : (c : ClassTable) → c.frames ≡ map (seen_frame c.kept.heads) c.kept.frames → IsTable c → IsShaped c.kept → AreSeen c.kept.heads c.kept.frames
all-seen c seen t s = record {
  named = λ n l. (reads n l).named;
  turns = λ n l. (reads n l).turn;
}
  where
    reads : (n : ℕ) → n < length c.kept.frames → ReadsNode c n
    reads n l = reads-node c n seen t s (let count : length c.frames ≡ length (map (seen_frame c.kept.heads) c.kept.frames) = ap length seen in let same = map-count c.kept.heads c.kept.frames in let framed = t.framed in omega arith)

-- the frame of a node
pub frames-below : (table c : ClassTable) (n : ℕ) → table ≡ c → IsTable table → n < length c.nodes → n < length table.frames
frames-below table c n is t l =
    let below : n < length table.nodes = subst (λ (x : ClassTable). n < length x.nodes) (sym is) l in
    let framed = t.framed in
    omega arith

pub frame-there : (fs : List ClassFrame) (n : ℕ) (f : ClassFrame) → n < length fs → f ≡ slice_index_or fs n f → slice_get fs n ≡ Some f
frame-there fs n f l is = slice_get-get_or fs n f l ∙ ap (λ (x : ClassFrame). Some x) (sym is)
