-- A node added as a class of its own: the tables stay those of the journal, now with the node.
use Rattle.std.proofs.Common.{◌≡◌, ◌≢◌, ◌<◌, ◌⊎◌, inl, inr, ℕ, zero, suc, ◌+◌, List, [], ◌∷◌, ◌++◌, Bool, true, false, length, Option, Some, None, refl, ap, sym, ◌∙◌, subst, arith, length-append, if◌then◌else◌}
use Rattle.std.specs.Prelude.{ℤ, ◌↔◌, slice_get}
use Rattle.std.proofs.lemmas.Bool.{cases_eq}
use Rattle.std.proofs.lemmas.Option.{slice_get_within}
use Rattle.net_defs.specs.Turn.{is_turn}
use Rattle.journal_defs.specs.declared.entry.Entry.{Entry}
use Rattle.journal_defs.specs.Tree.{Node, IsNode, node_below}
use Rattle.journal_defs.specs.Tree.Node.{Reached}
use Rattle.journal_defs.specs.Growth.{IsExpanded}
use Rattle.port_align.specs.declared.frame.ClassFrame.{ClassFrame}
use Rattle.map_laws.proofs.Keeping.{Keeps}
use Rattle.replicate_merge.specs.declared.heads.Head.{Head}
use Rattle.replicate_merge.specs.declared.meeting.HostNode.{HostNode}
use Rattle.port_align.specs.declared.end.NodePort.{NodePort}
use Rattle.replicate_merge.specs.declared.way.Spot.{Spot}
use Rattle.replicate_merge.specs.declared.way.Spot.TheVariants.{Address, Port}
use Rattle.replicate_merge.specs.declared.way.Way.{Way}
use Rattle.replicate_merge.specs.Truth.{IsTrueOfOne}
use Rattle.replicate_merge.specs.Ways.{begins_at, frame_at, node_at, own_frame}
use Rattle.replicate_merge.specs.Work.{Knows}
use Rattle.replicate_merge.specs.Ends.{place_of}
use Rattle.replicate_merge.specs.Adding.{known_at}
use Rattle.replicate_merge.specs.Heads.{HasExpandedNode, HasHeads, MarksNames, head_at, own_head}
use Rattle.port_align.specs.Ends.{AddsPlaces}
use Rattle.replicate_merge.specs.Rounds.{IsSettling}
use Rattle.replicate_merge.proofs.Lists.{get-last, get-left, item-last, item-left}
use Rattle.replicate_merge.proofs.Longer.{add-node, frame-last, frame-left, node-last, node-left}
use Rattle.replicate_merge.proofs.Nodes.{node_below-irrefl}
use Rattle.replicate_merge.proofs.Numbers.{no_head}

-- an item of a list with one more is one of the list, or the last
pub item-place : {X : Type 0} (xs : List X) (x y : X) (k : ℕ) → slice_get (xs ++ x ∷ []) k ≡ Some y → (slice_get xs k ≡ Some y) ⊎ ((k ≡ length xs) × (x ≡ y))
item-place [] x y zero e = inr (refl, (let one : x ≡ y = cc in one))
item-place [] x y (suc k) e = cc
item-place (z ∷ xs) x y zero e = inl e
item-place (z ∷ xs) x y (suc k) e = by (item-place xs x y k e)
  where
    by : (slice_get xs k ≡ Some y) ⊎ ((k ≡ length xs) × (x ≡ y)) → (slice_get xs k ≡ Some y) ⊎ ((suc k ≡ suc (length xs)) × (x ≡ y))
    by (inl a) = inl a
    by (inr b) = inr (ap (λ n. suc n) b.0, b.1)

-- what is known of spots doesn't change with places of which nothing is known
pub known-placed : (hosts : List HostNode) (old new : List (Option NodePort)) → AddsPlaces old new → (s : Spot) → known_at hosts new s ≡ known_at hosts old s
known-placed hosts old new a (Address h) = refl
known-placed hosts old new a (Port c p) = ap (λ o. if is_turn p then o else None) (a.same (place_of c p))

module _ (ns : List Node) (u : Node) (fs : List ClassFrame) (hs : List Head) (names : List ℕ) (framed : length fs ≡ length ns) (headed : length hs ≡ length ns) (placed : (m : ℕ) → m < length ns → (frame_at fs m).class < length ns) (h : HasHeads ns fs hs names) where
  abbrev n : ℕ
  n = length ns

  abbrev more : List ClassFrame
  more = fs ++ own_frame (length ns) ∷ []

  abbrev heads : List Head
  heads = hs ++ own_head (length names) (length ns) ∷ []

  old-frame : (m : ℕ) → m < length ns → frame_at (fs ++ own_frame (length ns) ∷ []) m ≡ frame_at fs m
  old-frame m l = frame-left fs (own_frame (length ns)) m (omega arith)

  new-frame : frame_at (fs ++ own_frame (length ns) ∷ []) (length ns) ≡ own_frame (length ns)
  new-frame = frame-last fs (own_frame (length ns)) (length ns) (sym framed)

  old-head : (m : ℕ) → m < length ns → head_at (hs ++ own_head (length names) (length ns) ∷ []) m ≡ head_at hs m
  old-head m l = get-left hs (own_head (length names) (length ns)) no_head m (omega arith)

  new-head : head_at (hs ++ own_head (length names) (length ns) ∷ []) (length ns) ≡ own_head (length names) (length ns)
  new-head = get-last hs (own_head (length names) (length ns)) no_head (length ns) (sym headed)

  count : length (ns ++ u ∷ []) ≡ length ns + 1
  count = length-append ns (u ∷ [])

  -- what holds of the class of a node
  record IsNamed (m c : ℕ) : Type 0 where
    pub named : slice_get (names ++ length ns ∷ []) (head_at (hs ++ own_head (length names) (length ns) ∷ []) c).number ≡ Some c
    pub inside : (head_at (hs ++ own_head (length names) (length ns) ∷ []) c).least < length (ns ++ u ∷ [])
    pub based : frame_at (fs ++ own_frame (length ns) ∷ []) (head_at (hs ++ own_head (length names) (length ns) ∷ []) c).least ≡ record { class = c; offset = (head_at (hs ++ own_head (length names) (length ns) ∷ []) c).base }
    pub least : node_below (node_at (ns ++ u ∷ []) m) (node_at (ns ++ u ∷ []) (head_at (hs ++ own_head (length names) (length ns) ∷ []) c).least) ≡ false

  old-named : (m : ℕ) → m < length ns → IsNamed m (frame_at fs m).class
  old-named m l =
      let c = placed m l in
      let is = old-head (frame_at fs m).class c in
      let inside = h.inside m l in
      record {
        named = ap (λ (x : Head). slice_get (names ++ length ns ∷ []) x.number) is ∙ item-left names (length ns) (frame_at fs m).class (head_at hs (frame_at fs m).class).number (h.named m l);
        inside = subst (λ (x : Head). x.least < length (ns ++ u ∷ [])) (sym is) (let k = count in omega arith);
        based = subst (λ (x : Head). frame_at (fs ++ own_frame (length ns) ∷ []) x.least ≡ record { class = (frame_at fs m).class; offset = x.base }) (sym is) (old-frame (head_at hs (frame_at fs m).class).least inside ∙ h.based m l);
        least = subst (λ (x : Head). node_below (node_at (ns ++ u ∷ []) m) (node_at (ns ++ u ∷ []) x.least) ≡ false) (sym is)
            (subst (λ v. node_below v (node_at (ns ++ u ∷ []) (head_at hs (frame_at fs m).class).least) ≡ false) (sym (node-left ns u m l)) (subst (λ v. node_below (node_at ns m) v ≡ false) (sym (node-left ns u (head_at hs (frame_at fs m).class).least inside)) (h.least m l)));
      }

  new-named : IsNamed (length ns) (length ns)
  new-named = record {
    named = ap (λ (x : Head). slice_get (names ++ length ns ∷ []) x.number) new-head ∙ item-last names (length ns);
    inside = subst (λ (x : Head). x.least < length (ns ++ u ∷ [])) (sym new-head) (let k = count in omega arith);
    based = subst (λ (x : Head). frame_at (fs ++ own_frame (length ns) ∷ []) x.least ≡ record { class = length ns; offset = x.base }) (sym new-head) new-frame;
    least = subst (λ (x : Head). node_below (node_at (ns ++ u ∷ []) (length ns)) (node_at (ns ++ u ∷ []) x.least) ≡ false) (sym new-head) (node_below-irrefl (node_at (ns ++ u ∷ []) (length ns)));
  }

  -- a node of the longer list is one of the shorter, or the last
  which : (m : ℕ) → m < length (ns ++ u ∷ []) → (m < length ns) ⊎ (m ≡ length ns)
  which m l = by_cases (cases_eq m (length ns))
    where
      by_cases : (m ≡ length ns) ⊎ (m ≢ length ns) → (m < length ns) ⊎ (m ≡ length ns)
      by_cases (inl e) = inr e
      by_cases (inr d) = inl (let k = count in omega arith)

  named : (m : ℕ) → m < length (ns ++ u ∷ []) → IsNamed m (frame_at (fs ++ own_frame (length ns) ∷ []) m).class
  named m l = by_cases (which m l)
    where
      by_cases : (m < length ns) ⊎ (m ≡ length ns) → IsNamed m (frame_at (fs ++ own_frame (length ns) ∷ []) m).class
      by_cases (inl b) = subst (λ (f : ClassFrame). IsNamed m f.class) (sym (old-frame m b)) (old-named m b)
      by_cases (inr e) = subst (λ k. IsNamed k (frame_at (fs ++ own_frame (length ns) ∷ []) k).class) (sym e) (subst (λ (f : ClassFrame). IsNamed (length ns) f.class) (sym new-frame) new-named)

  name-new : (class m : ℕ) → slice_get (names ++ length ns ∷ []) class ≡ Some m → (m < length (ns ++ u ∷ [])) × ((frame_at (fs ++ own_frame (length ns) ∷ []) m).class ≡ m) × ((head_at (hs ++ own_head (length names) (length ns) ∷ []) m).number ≡ class)
  name-new class m e = by_cases (item-place names (length ns) m class e)
    where
      by_cases : (slice_get names class ≡ Some m) ⊎ ((class ≡ length names) × (length ns ≡ m)) → (m < length (ns ++ u ∷ [])) × ((frame_at (fs ++ own_frame (length ns) ∷ []) m).class ≡ m) × ((head_at (hs ++ own_head (length names) (length ns) ∷ []) m).number ≡ class)
      by_cases (inl o) =
          let x = h.name class m o in
          ((let k = count in let l = x.0 in omega arith), ap (λ (f : ClassFrame). f.class) (old-frame m x.0) ∙ x.1, ap (λ (y : Head). y.number) (old-head m x.0) ∙ x.2)
      by_cases (inr s) = (
        (let k = count in let l = s.1 in omega arith),
        ap (λ k. (frame_at (fs ++ own_frame (length ns) ∷ []) k).class) (sym s.1) ∙ ap (λ (f : ClassFrame). f.class) new-frame ∙ s.1,
        ap (λ k. (head_at (hs ++ own_head (length names) (length ns) ∷ []) k).number) (sym s.1) ∙ ap (λ (y : Head). y.number) new-head ∙ sym s.0,
      )

  pub heads-added : HasHeads (ns ++ u ∷ []) (fs ++ own_frame (length ns) ∷ []) (hs ++ own_head (length names) (length ns) ∷ []) (names ++ length ns ∷ [])
  heads-added = record {
    named = λ m l. (named m l).named;
    name = name-new;
    inside = λ m l. (named m l).inside;
    based = λ m l. (named m l).based;
    least = λ m l. (named m l).least;
  }

  module _ (asks : List Entry) (marks : List Bool) (b : Bool) (w : List ℤ) (is_walk : u ≡ Reached w) (counted : length marks ≡ length names) (is_marks : MarksNames asks ns fs hs marks) (is_own : (b ≡ true) ↔ IsExpanded asks w) where
    -- an expanded node of an older class
    expanded-more : (c : ℕ) → HasExpandedNode asks ns fs c → HasExpandedNode asks (ns ++ u ∷ []) (fs ++ own_frame (length ns) ∷ []) c
    expanded-more c x = record {
      number = x.number;
      below = (let k = count in let l = x.below in omega arith);
      walk = x.walk;
      node = node-left ns u x.number x.below ∙ x.node;
      in_class = ap (λ (f : ClassFrame). f.class) (old-frame x.number x.below) ∙ x.in_class;
      expanded = x.expanded;
    }

    expanded-less : (c : ℕ) → c < length ns → HasExpandedNode asks (ns ++ u ∷ []) (fs ++ own_frame (length ns) ∷ []) c → HasExpandedNode asks ns fs c
    expanded-less c l x = by_cases (which x.number x.below)
      where
        by_cases : (x.number < length ns) ⊎ (x.number ≡ length ns) → HasExpandedNode asks ns fs c
        by_cases (inl o) = record {
          number = x.number;
          below = o;
          walk = x.walk;
          node = sym (node-left ns u x.number o) ∙ x.node;
          in_class = sym (ap (λ (f : ClassFrame). f.class) (old-frame x.number o)) ∙ x.in_class;
          expanded = x.expanded;
        }
        by_cases (inr e) =
            let own : c ≡ length ns = sym x.in_class ∙ ap (λ k. (frame_at (fs ++ own_frame (length ns) ∷ []) k).class) e ∙ ap (λ (f : ClassFrame). f.class) new-frame in
            absurd (omega arith)

    old-mark : (k : ℕ) → k < length names → (slice_get (marks ++ b ∷ []) k ≡ Some true) ↔ (slice_get marks k ≡ Some true)
    old-mark k l = (there, λ e. item-left marks b true k e)
      where
        there : slice_get (marks ++ b ∷ []) k ≡ Some true → slice_get marks k ≡ Some true
        there e = by_cases (item-place marks b true k e)
          where
            by_cases : (slice_get marks k ≡ Some true) ⊎ ((k ≡ length marks) × (b ≡ true)) → slice_get marks k ≡ Some true
            by_cases (inl o) = o
            by_cases (inr s) = absurd (let q = s.0 in omega arith)

    marks-old : (m : ℕ) → m < length ns → (slice_get (marks ++ b ∷ []) (head_at (hs ++ own_head (length names) (length ns) ∷ []) (frame_at fs m).class).number ≡ Some true) ↔ HasExpandedNode asks (ns ++ u ∷ []) (fs ++ own_frame (length ns) ∷ []) (frame_at fs m).class
    marks-old m l =
        let c = placed m l in
        let number = slice_get_within names (head_at hs (frame_at fs m).class).number (frame_at fs m).class (h.named m l) in
        let two = old-mark (head_at hs (frame_at fs m).class).number number in
        subst (λ (x : Head). (slice_get (marks ++ b ∷ []) x.number ≡ Some true) ↔ HasExpandedNode asks (ns ++ u ∷ []) (fs ++ own_frame (length ns) ∷ []) (frame_at fs m).class) (sym (old-head (frame_at fs m).class c))
        ((λ e. expanded-more (frame_at fs m).class ((is_marks m l).0 (two.0 e))), (λ x. two.1 ((is_marks m l).1 (expanded-less (frame_at fs m).class c x))))

    marks-new : (slice_get (marks ++ b ∷ []) (head_at (hs ++ own_head (length names) (length ns) ∷ []) (length ns)).number ≡ Some true) ↔ HasExpandedNode asks (ns ++ u ∷ []) (fs ++ own_frame (length ns) ∷ []) (length ns)
    marks-new = subst (λ (x : Head). (slice_get (marks ++ b ∷ []) x.number ≡ Some true) ↔ HasExpandedNode asks (ns ++ u ∷ []) (fs ++ own_frame (length ns) ∷ []) (length ns)) (sym new-head) (there, back)
      where
        last : slice_get (marks ++ b ∷ []) (length names) ≡ Some b
        last = ap (slice_get (marks ++ b ∷ [])) (sym counted) ∙ item-last marks b

        there : slice_get (marks ++ b ∷ []) (length names) ≡ Some true → HasExpandedNode asks (ns ++ u ∷ []) (fs ++ own_frame (length ns) ∷ []) (length ns)
        there e =
            let both : Some b ≡ Some true = sym last ∙ e in
            let one : b ≡ true = cc in
            record {
              number = length ns;
              below = (let k = count in omega arith);
              walk = w;
              node = node-last ns u ∙ is_walk;
              in_class = ap (λ (f : ClassFrame). f.class) new-frame;
              expanded = is_own.0 one;
            }

        back : HasExpandedNode asks (ns ++ u ∷ []) (fs ++ own_frame (length ns) ∷ []) (length ns) → slice_get (marks ++ b ∷ []) (length names) ≡ Some true
        back x = last ∙ ap Some (by_cases (which x.number x.below))
          where
            by_cases : (x.number < length ns) ⊎ (x.number ≡ length ns) → b ≡ true
            by_cases (inl o) =
                let own : (frame_at fs x.number).class ≡ length ns = sym (ap (λ (f : ClassFrame). f.class) (old-frame x.number o)) ∙ x.in_class in
                let c = placed x.number o in
                absurd (omega arith)
            by_cases (inr e) =
                let same : Reached x.walk ≡ Reached w = sym x.node ∙ ap (node_at (ns ++ u ∷ [])) e ∙ node-last ns u ∙ is_walk in
                let one : x.walk ≡ w = cc in
                is_own.1 (subst (λ v. IsExpanded asks v) one x.expanded)

    pub marks-added : MarksNames asks (ns ++ u ∷ []) (fs ++ own_frame (length ns) ∷ []) (hs ++ own_head (length names) (length ns) ∷ []) (marks ++ b ∷ [])
    marks-added m l = by_cases (which m l)
      where
        by_cases : (m < length ns) ⊎ (m ≡ length ns) → (slice_get (marks ++ b ∷ []) (head_at (hs ++ own_head (length names) (length ns) ∷ []) (frame_at (fs ++ own_frame (length ns) ∷ []) m).class).number ≡ Some true) ↔ HasExpandedNode asks (ns ++ u ∷ []) (fs ++ own_frame (length ns) ∷ []) (frame_at (fs ++ own_frame (length ns) ∷ []) m).class
        by_cases (inl o) = subst (λ (f : ClassFrame). (slice_get (marks ++ b ∷ []) (head_at (hs ++ own_head (length names) (length ns) ∷ []) f.class).number ≡ Some true) ↔ HasExpandedNode asks (ns ++ u ∷ []) (fs ++ own_frame (length ns) ∷ []) f.class) (sym (old-frame m o)) (marks-old m o)
        by_cases (inr e) = subst (λ (f : ClassFrame). (slice_get (marks ++ b ∷ []) (head_at (hs ++ own_head (length names) (length ns) ∷ []) f.class).number ≡ Some true) ↔ HasExpandedNode asks (ns ++ u ∷ []) (fs ++ own_frame (length ns) ∷ []) f.class) (sym (ap (frame_at (fs ++ own_frame (length ns) ∷ [])) e ∙ new-frame)) marks-new

-- the tables with the node, before its ways are added
pub settling-added : (host : ℕ) (j l asks : List Entry) (ns : List Node) (u : Node) (w : List ℤ) (ws : List Way) (fs : List ClassFrame) (ends places : List (Option NodePort)) (hosts : List HostNode) (hs : List Head) (names : List ℕ) (marks : List Bool) (b : Bool)
    → Keeps j l → IsTrueOfOne host l → IsNode l u → u ≡ Reached w → AddsPlaces ends places → ((b ≡ true) ↔ IsExpanded asks w)
    → IsSettling host j asks ns ws fs ends hosts [] hs names marks
    → IsSettling host l asks (ns ++ u ∷ []) ws (fs ++ own_frame (length ns) ∷ []) places hosts [] (hs ++ own_head (length names) (length ns) ∷ []) (names ++ length ns ∷ []) (marks ++ b ∷ [])
settling-added host j l asks ns u w ws fs ends places hosts hs names marks b keeps truth node walk adds own s =
    let sound = s.knows.sound in
    let count = length-append ns (u ∷ []) in
    let heads_count = length-append hs (own_head (length names) (length ns) ∷ []) in
    let names_count = length-append names (length ns ∷ []) in
    let marks_count = length-append marks (b ∷ []) in
    record {
      truth = truth;
      knows = add-node host j l keeps ns u ws fs (known_at hosts places) [] node (know-placed s.knows);
      heads = heads-added ns u fs hs names sound.framed s.headed sound.placed s.heads;
      headed = (let e = s.headed in omega arith);
      table = (let t = s.table in let m = adds.more in omega arith);
      counted = (let e = s.counted in omega arith);
      marked = marks-added ns u fs hs names sound.framed s.headed sound.placed s.heads asks marks b w walk s.counted s.marked own;
    }
  where
    know-placed : Knows host j ns ws fs (known_at hosts ends) [] → Knows host j ns ws fs (known_at hosts places) []
    know-placed k = record {
      ways = k.ways;
      sound = k.sound;
      told = λ s e t. k.told s e (sym (known-placed hosts ends places adds s) ∙ t);
      meet = k.meet;
      seen = λ g agrees w h. let x = k.seen g agrees w h in record { end = x.end; is = known-placed hosts ends places adds (begins_at fs w) ∙ x.is; one = x.one };
    }
