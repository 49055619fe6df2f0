-- From closed frames under any of their nodes, with heads, to classes that stand for a journal.
use Rattle.std.proofs.Common.{◌≡◌, ◌<◌, ℕ, zero, suc, List, [], ◌∷◌, Bool, true, false, length, map, nat_eq, Some, None, get_or, refl, ap, sym, ◌∙◌, subst, arith, if◌then◌else◌}
use Rattle.std.specs.Prelude.{ℤ, pos, ◌-ℤ◌, slice_get}
use Rattle.std.proofs.lemmas.Int.{ints}
use Rattle.std.proofs.lemmas.Bool.Decides.{Decides-eqb}
use Rattle.std.proofs.lemmas.Option.{slice_get_within, get_or_from_slice_get, slice_get-get_or}
use Rattle.journal_defs.specs.declared.entry.Entry.{Entry}
use Rattle.journal_defs.specs.Tree.{Node, IsJournal, IsNode, nodes, node_below}
use Rattle.journal_defs.specs.Tree.Node.{Mapper, Reached}
use Rattle.journal_defs.specs.Replicates.{Replicates}
use Rattle.journal_defs.specs.Growth.{HasExpanded}
use Rattle.journal_defs.proofs.Standing.{offset_is_unique, replicates-nodes}
use Rattle.port_align.specs.declared.frame.ClassFrame.{ClassFrame}
use Rattle.port_align.specs.Offset.{apart}
use Rattle.replicate_merge.specs.declared.heads.Head.{Head}
use Rattle.replicate_merge.specs.declared.way.Way.{Way}
use Rattle.replicate_merge.specs.Table.{ClassTable, IsFramed, HasReplicatesTogether, HasOnlyReplicatesTogether, HasLeastNodes, MarksExpanded, StandsFor}
use Rattle.replicate_merge.specs.Truth.{IsTrueOfOne}
use Rattle.replicate_merge.specs.Ways.{node_at, frame_at, own_frame, AreWays, AreSound, AreClosed}
use Rattle.replicate_merge.specs.Heads.{HasHeads, MarksNames, head_at, seen_frame}
use Rattle.replicate_merge.specs.Kept.{Kept, IsKept}
use Rattle.replicate_merge.proofs.Nodes.{IsAt, node-at}
use Rattle.replicate_merge.proofs.Together.{by_offset, in_one_class, together}

pub map-get : (hs : List Head) (fs : List ClassFrame) (n : ℕ) (x : ClassFrame) → slice_get fs n ≡ Some x → slice_get (map (seen_frame hs) fs) n ≡ Some (seen_frame hs x)
map-get hs [] n x e = cc
map-get hs (y ∷ ys) zero x e = let one : y ≡ x = cc in ap (λ z. Some (seen_frame hs z)) one
map-get hs (y ∷ ys) (suc n) x e = map-get hs ys n x e

pub map-count : (hs : List Head) (fs : List ClassFrame) → length (map (seen_frame hs) fs) ≡ length fs
map-count hs [] = refl
map-count hs (f ∷ fs) = ap (λ n. suc n) (map-count hs fs)

apart-class : (f g : ClassFrame) → f.class ≡ g.class → apart f g ≡ Some (f.offset -ℤ g.offset)
apart-class f g e = ap (λ t. if t then Some (f.offset -ℤ g.offset) else None) ((Decides-eqb f.class g.class).1 e)

class-apart : (f g : ClassFrame) (k : ℤ) → apart f g ≡ Some k → (f.class ≡ g.class) × (k ≡ f.offset -ℤ g.offset)
class-apart f g k e = by (nat_eq f.class g.class) refl e
  where
    by : (t : Bool) → nat_eq f.class g.class ≡ t → (if t then Some (f.offset -ℤ g.offset) else None) ≡ Some k → (f.class ≡ g.class) × (k ≡ f.offset -ℤ g.offset)
    by true p q = ((Decides-eqb f.class g.class).0 p, let one : f.offset -ℤ g.offset ≡ k = cc in sym one)
    by false p q = cc

based-offsets : (a b c d x : ℤ) → a ≡ c -ℤ x → b ≡ d -ℤ x → c -ℤ d ≡ a -ℤ b
based-offsets a b c d x e f = omega (arith, ints)

module _ (host : ℕ) (j : List Entry) (ns : List Node) (ws : List Way) (fs : List ClassFrame) (hs : List Head) (names : List ℕ) (marks : List Bool) (numbered : ns ≡ nodes j) (once : IsJournal j) (truth : IsTrueOfOne host j) (ways : AreWays host j ns ws) (sound : AreSound host j ns fs) (closed : AreClosed ws fs) (heads : HasHeads ns fs hs names) (counted : length marks ≡ length names) (marked : MarksNames j ns fs hs marks) (kept : Kept) (is_kept : IsKept host j ns kept marks) where
  abbrev table : ClassTable
  table = record { nodes = ns; frames = map (seen_frame hs) fs; expanded = marks; kept = kept }

  -- a node of the table by its number
  record At (n : ℕ) (u : Node) (f : ClassFrame) : Type 0 where
    pub below : n < length ns
    pub node : node_at ns n ≡ u
    pub class : f.class ≡ (head_at hs (frame_at fs n).class).number
    pub offset : f.offset ≡ (frame_at fs n).offset -ℤ (head_at hs (frame_at fs n).class).base

  frame-there : (n : ℕ) → n < length ns → slice_get (map (seen_frame hs) fs) n ≡ Some (seen_frame hs (frame_at fs n))
  frame-there n l = let f = sound.framed in map-get hs fs n (frame_at fs n) (slice_get-get_or fs n (own_frame 0) (omega arith))

  at : (n : ℕ) (u : Node) (f : ClassFrame) → IsFramed table n u f → At n u f
  at n u f framed =
      let below = slice_get_within ns n u framed.node in
      let both : Some f ≡ Some (seen_frame hs (frame_at fs n)) = sym framed.frame ∙ frame-there n below in
      let one : f ≡ seen_frame hs (frame_at fs n) = cc in
      record {
        below = below;
        node = get_or_from_slice_get ns n u Mapper framed.node;
        class = ap (λ (x : ClassFrame). x.class) one;
        offset = ap (λ (x : ClassFrame). x.offset) one;
      }

  framed : (n : ℕ) → n < length ns → IsFramed table n (node_at ns n) (seen_frame hs (frame_at fs n))
  framed n l = record { node = slice_get-get_or ns n Mapper l; frame = frame-there n l }

  -- numbers are one exactly where names are
  name-from-number : (m n : ℕ) → m < length ns → n < length ns → (head_at hs (frame_at fs m).class).number ≡ (head_at hs (frame_at fs n).class).number → (frame_at fs m).class ≡ (frame_at fs n).class
  name-from-number m n k l e =
      let two : Some (frame_at fs m).class ≡ Some (frame_at fs n).class = sym (heads.named m k) ∙ ap (slice_get names) e ∙ heads.named n l in
      let one : (frame_at fs m).class ≡ (frame_at fs n).class = cc in
      one

  -- nodes of one class are replicates
  only : HasOnlyReplicatesTogether host j table
  only m n u v f g k p q e =
      let x = at m u f p in
      let y = at n v g q in
      let parts = class-apart f g k e in
      let name = name-from-number m n x.below y.below (sym x.class ∙ parts.0 ∙ y.class) in
      let pair = in_one_class host j ns fs sound m n x.below y.below name in
      let second : g.offset ≡ (frame_at fs n).offset -ℤ (head_at hs (frame_at fs m).class).base = y.offset ∙ ap (λ c. (frame_at fs n).offset -ℤ (head_at hs c).base) (sym name) in
      let offset : (frame_at fs m).offset -ℤ (frame_at fs n).offset ≡ k = based-offsets f.offset g.offset (frame_at fs m).offset (frame_at fs n).offset (head_at hs (frame_at fs m).class).base x.offset second ∙ sym parts.1 in
      subst (λ w. Replicates host j u w k) y.node (subst (λ w. Replicates host j w (node_at ns n) k) x.node (by_offset host j (node_at ns m) (node_at ns n) ((frame_at fs m).offset -ℤ (frame_at fs n).offset) k offset pair))

  all-together : (u v : Node) (k : ℤ) → Replicates host j u v k → (m n : ℕ) → m < length ns → n < length ns → node_at ns m ≡ u → node_at ns n ≡ v → (frame_at fs m).class ≡ (frame_at fs n).class
  all-together u v k r =
      subst (λ (ms : List Node). (m n : ℕ) → m < length ms → n < length ms → node_at ms m ≡ u → node_at ms n ≡ v → (frame_at fs m).class ≡ (frame_at fs n).class) (sym numbered)
      (together host j fs ws truth once (subst (λ (ms : List Node). AreWays host j ms ws) numbered ways) (subst (λ (ms : List Node). AreSound host j ms fs) numbered sound) closed u v k r)

  -- replicates have one class
  one-class : HasReplicatesTogether host j table
  one-class m n u v f g k p q r =
      let x = at m u f p in
      let y = at n v g q in
      let name = all-together u v k r m n x.below y.below x.node y.node in
      let class : f.class ≡ g.class = x.class ∙ ap (λ c. (head_at hs c).number) name ∙ sym y.class in
      let all = apart-class f g class in
      let other = only m n u v f g (f.offset -ℤ g.offset) p q all in
      let offset : f.offset -ℤ g.offset ≡ k = offset_is_unique truth.fabric host j u v (f.offset -ℤ g.offset) k truth.is_fabric truth.told other r in
      all ∙ ap Some offset

  -- each class has a least node, whose ports are those of the class
  least-nodes : HasLeastNodes table
  least-nodes class l =
      let inside : class < length names = (let e = counted in omega arith) in
      let listed : slice_get names class ≡ Some (get_or names class 0) = slice_get-get_or names class 0 inside in
      let facts = heads.name class (get_or names class 0) listed in
      record {
        number = (head_at hs (get_or names class 0)).least;
        node = node_at ns (head_at hs (get_or names class 0)).least;
        framed = at_least (get_or names class 0) facts.0 facts.1 facts.2;
        least = λ n v g p e. lower n v g p e (get_or names class 0) listed;
      }
    where
      at_least : (n : ℕ) → n < length ns → (frame_at fs n).class ≡ n → (head_at hs n).number ≡ class → IsFramed table (head_at hs n).least (node_at ns (head_at hs n).least) (record { class = class; offset = pos 0 })
      at_least n below own number =
          let inside : (head_at hs n).least < length ns = subst (λ c. (head_at hs c).least < length ns) own (heads.inside n below) in
          let based : frame_at fs (head_at hs n).least ≡ record { class = n; offset = (head_at hs n).base } = subst (λ c. frame_at fs (head_at hs c).least ≡ record { class = c; offset = (head_at hs c).base }) own (heads.based n below) in
          let zero_base : (head_at hs n).base -ℤ (head_at hs n).base ≡ pos 0 = omega (arith, ints) in
          let frame : seen_frame hs (frame_at fs (head_at hs n).least) ≡ record { class = class; offset = pos 0 } = ap (seen_frame hs) based ∙ (λ i. record { class = number i; offset = zero_base i }) in
          subst (λ (f : ClassFrame). IsFramed table (head_at hs n).least (node_at ns (head_at hs n).least) f) frame (framed (head_at hs n).least inside)

      lower : (n : ℕ) (v : Node) (g : ClassFrame) → IsFramed table n v g → g.class ≡ class → (name : ℕ) → slice_get names class ≡ Some name → node_below v (node_at ns (head_at hs name).least) ≡ false
      lower n v g p e name listed =
          let y = at n v g p in
          let two : Some (frame_at fs n).class ≡ Some name = sym (heads.named n y.below) ∙ ap (slice_get names) (sym y.class ∙ e) ∙ listed in
          let one : (frame_at fs n).class ≡ name = cc in
          subst (λ c. node_below v (node_at ns (head_at hs c).least) ≡ false) one (subst (λ w. node_below w (node_at ns (head_at hs (frame_at fs n).class).least) ≡ false) y.node (heads.least n y.below))

  walked : (w : List ℤ) → IsNode j (Reached w) → IsAt ns (Reached w)
  walked w node = subst (λ (ms : List Node). IsAt ms (Reached w)) (sym numbered) (node-at j (Reached w) node)

  -- a class is marked exactly where it has an expanded member
  marks-expanded : MarksExpanded host j table
  marks-expanded n u f p = (there, back)
    where
      x : At n u f
      x = at n u f p

      there : slice_get marks f.class ≡ Some true → HasExpanded host j u
      there e =
          let m = (marked n x.below).0 (ap (slice_get marks) (sym x.class) ∙ e) in
          let pair = in_one_class host j ns fs sound n m.number x.below m.below (sym m.in_class) in
          record {
            member = m.walk;
            offset = (frame_at fs n).offset -ℤ (frame_at fs m.number).offset;
            one_class = subst (λ w. Replicates host j u w ((frame_at fs n).offset -ℤ (frame_at fs m.number).offset)) m.node (subst (λ w. Replicates host j w (node_at ns m.number) ((frame_at fs n).offset -ℤ (frame_at fs m.number).offset)) x.node pair);
            expanded = m.expanded;
          }

      back : HasExpanded host j u → slice_get marks f.class ≡ Some true
      back h =
          let is_at = walked h.member (replicates-nodes host j u (Reached h.member) h.offset h.one_class).1 in
          let name = all-together u (Reached h.member) h.offset h.one_class n is_at.number x.below is_at.below x.node is_at.is in
          ap (slice_get marks) x.class ∙ (marked n x.below).1 (record { number = is_at.number; below = is_at.below; walk = h.member; node = is_at.is; in_class = sym name; expanded = h.expanded })

  -- the classes stand for the journal
  pub stands-named : StandsFor host j table
  stands-named = record { numbered = numbered; together = one-class; only = only; least = least-nodes; expanded = marks-expanded; kept = is_kept }
