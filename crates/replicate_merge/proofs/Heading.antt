-- Heads stay those of the classes as one class is joined to another.
use Rattle.std.proofs.Common.{◌≡◌, ◌≢◌, ◌<◌, ◌⊎◌, inl, inr, ℕ, ◌-◌, List, Bool, true, false, length, set, Some, refl, ap, sym, ◌∙◌, subst, arith}
use Rattle.std.specs.Prelude.{ℤ, ◌+ℤ◌, ◌↔◌, slice_get}
use Rattle.std.proofs.Math.ListN.{length-set}
use Rattle.std.proofs.lemmas.Bool.{cases_eq}
use Rattle.std.proofs.lemmas.Option.{slice_get_within}
use Rattle.journal_defs.specs.declared.entry.Entry.{Entry}
use Rattle.journal_defs.specs.Tree.{Node, node_below}
use Rattle.port_align.specs.declared.frame.ClassFrame.{ClassFrame}
use Rattle.replicate_merge.specs.declared.heads.Head.{Head}
use Rattle.replicate_merge.specs.Ways.{AreSound, AreJoined, frame_at, node_at}
use Rattle.replicate_merge.specs.Heads.{HasExpandedNode, HasHeads, MarksNames, head_at}
use Rattle.replicate_merge.specs.HeadSteps.{IsJoinedByMarks, JoinsHead, JoinsHeads, MarksBoth}
use Rattle.replicate_merge.specs.HeadSteps.MarksBoth.{is_marked, is_plain}
use Rattle.replicate_merge.specs.HeadSteps.JoinsHead.{under_old, under_kept}
use Rattle.replicate_merge.proofs.Nodes.{not_below, not_below-trans}
use Rattle.replicate_merge.proofs.Numbers.{get-other, get-set, get-take}
use Rattle.replicate_merge.proofs.Together.{moved-class, moved-other}

module _ (host : ℕ) (j asks : List Entry) (ns : List Node) (fs next : List ClassFrame) (hs new : List Head) (names after : List ℕ) (from to : ℕ) (by : ℤ) (last : ℕ) (sound : AreSound host j ns fs) (join : AreJoined from to by fs next) (h : HasHeads ns fs hs names) (x : JoinsHeads ns from to by hs new names after last) (two : from ≢ to) (is_from : from < length ns) (is_to : to < length ns) (from_root : (frame_at fs from).class ≡ from) (to_root : (frame_at fs to).class ≡ to) where
  frame-from : (n : ℕ) → n < length ns → (frame_at fs n).class ≡ from → frame_at next n ≡ record { class = to; offset = (frame_at fs n).offset +ℤ by }
  frame-from n l e = let f = sound.framed in join.each n (let i : n < length fs = omega arith in i) ∙ moved-class from to by (frame_at fs n) e

  frame-other : (n : ℕ) → n < length ns → (frame_at fs n).class ≢ from → frame_at next n ≡ frame_at fs n
  frame-other n l d = let f = sound.framed in join.each n (let i : n < length fs = omega arith in i) ∙ moved-other from to by (frame_at fs n) d

  -- what holds of the class of a node, by its name
  named-at : (m c : ℕ) → m < length ns → (frame_at fs m).class ≡ c → slice_get names (head_at hs c).number ≡ Some c
  named-at m c l e = subst (λ n. slice_get names (head_at hs n).number ≡ Some n) e (h.named m l)

  inside-at : (m c : ℕ) → m < length ns → (frame_at fs m).class ≡ c → (head_at hs c).least < length ns
  inside-at m c l e = subst (λ n. (head_at hs n).least < length ns) e (h.inside m l)

  based-at : (m c : ℕ) → m < length ns → (frame_at fs m).class ≡ c → frame_at fs (head_at hs c).least ≡ record { class = c; offset = (head_at hs c).base }
  based-at m c l e = subst (λ n. frame_at fs (head_at hs n).least ≡ record { class = n; offset = (head_at hs n).base }) e (h.based m l)

  least-at : (m c : ℕ) → m < length ns → (frame_at fs m).class ≡ c → node_below (node_at ns m) (node_at ns (head_at hs c).least) ≡ false
  least-at m c l e = subst (λ n. node_below (node_at ns m) (node_at ns (head_at hs n).least) ≡ false) e (h.least m l)

  one-name : (k c d : ℕ) → slice_get names k ≡ Some c → slice_get names k ≡ Some d → c ≡ d
  one-name k c d p q = let both : Some c ≡ Some d = sym p ∙ q in cc

  last_facts : (last < length ns) × ((frame_at fs last).class ≡ last) × ((head_at hs last).number ≡ length after)
  last_facts = h.name (length after) last x.last_is

  from_named : slice_get names (head_at hs from).number ≡ Some from
  from_named = named-at from from is_from from_root

  -- a class that stays has its name at its new number
  named-new : (m c : ℕ) → m < length ns → (frame_at fs m).class ≡ c → c ≢ from → slice_get after (head_at new c).number ≡ Some c
  named-new m c l e d = by_cases (cases_eq c last)
    where
      named : slice_get names (head_at hs c).number ≡ Some c
      named = named-at m c l e

      by_cases : (c ≡ last) ⊎ (c ≢ last) → slice_get after (head_at new c).number ≡ Some c
      by_cases (inl s) =
          let apart : (head_at hs from).number ≢ length after = λ q. d (s ∙ one-name (length after) last from x.last_is (ap (slice_get names) (sym q) ∙ from_named)) in
          let inside = slice_get_within names (head_at hs from).number from from_named in
          let below : (head_at hs from).number < length after = (let k = x.count in omega arith) in
          ap (λ n. slice_get after (head_at new n).number) s ∙ ap (slice_get after) x.renumbered ∙ x.taken below ∙ ap (λ n. Some n) (sym s)
      by_cases (inr s) =
          let apart : (head_at hs c).number ≢ length after = λ q. s (one-name (length after) c last (ap (slice_get names) (sym q) ∙ named) x.last_is) in
          let inside = slice_get_within names (head_at hs c).number c named in
          let below : (head_at hs c).number < length after = (let k = x.count in omega arith) in
          let other : (head_at hs c).number ≢ (head_at hs from).number = λ q. d (one-name (head_at hs from).number c from (ap (slice_get names) (sym q) ∙ named) from_named) in
          ap (slice_get after) (x.number c s) ∙ x.stays (head_at hs c).number below other ∙ named

  name-new : (class n : ℕ) → slice_get after class ≡ Some n → (n < length ns) × ((frame_at next n).class ≡ n) × ((head_at new n).number ≡ class)
  name-new class n e = by_cases (cases_eq class (head_at hs from).number)
    where
      below : class < length after
      below = slice_get_within after class n e

      by_cases : (class ≡ (head_at hs from).number) ⊎ (class ≢ (head_at hs from).number) → (n < length ns) × ((frame_at next n).class ≡ n) × ((head_at new n).number ≡ class)
      by_cases (inl s) =
          let both : Some n ≡ Some last = sym e ∙ ap (slice_get after) s ∙ x.taken (subst (λ k. k < length after) s below) in
          let one : n ≡ last = cc in
          let apart : last ≢ from = λ q. absurd (let a : (head_at hs from).number ≡ length after = ap (λ k. (head_at hs k).number) (sym q) ∙ last_facts.2 in let b = below in let t = s in omega arith) in
          let class_other : (frame_at fs last).class ≢ from = λ q. apart (sym last_facts.1 ∙ q) in (
            subst (λ k. k < length ns) (sym one) last_facts.0,
            subst (λ k. (frame_at next k).class ≡ k) (sym one) (ap (λ (f : ClassFrame). f.class) (frame-other last last_facts.0 class_other) ∙ last_facts.1),
            ap (λ k. (head_at new k).number) one ∙ x.renumbered ∙ sym s,
          )
      by_cases (inr s) =
          let facts = h.name class n (sym (x.stays class below s) ∙ e) in
          let apart : n ≢ from = λ q. s (sym facts.2 ∙ ap (λ k. (head_at hs k).number) q) in
          let not_last : n ≢ last = λ q. absurd (let a : class ≡ length after = sym facts.2 ∙ ap (λ k. (head_at hs k).number) q ∙ last_facts.2 in let b = below in omega arith) in
          let class_other : (frame_at fs n).class ≢ from = λ q. apart (sym facts.1 ∙ q) in
          (facts.0, ap (λ (f : ClassFrame). f.class) (frame-other n facts.0 class_other) ∙ facts.1, x.number n not_last ∙ facts.2)

  -- the class that the other was joined to
  at_to : JoinsHead ns (head_at hs from) (head_at hs to) (record (head_at new to) { number = (head_at hs to).number }) by → ((head_at new to).least < length ns) × (frame_at next (head_at new to).least ≡ record { class = to; offset = (head_at new to).base }) × ((m : ℕ) → m < length ns → (((frame_at fs m).class ≡ from) ⊎ ((frame_at fs m).class ≡ to)) → node_below (node_at ns m) (node_at ns (head_at new to).least) ≡ false)
  at_to (under_old below number least base) =
      let inside = inside-at from from is_from from_root in
      let based = based-at from from is_from from_root in (
        subst (λ k. k < length ns) (sym least) inside,
        subst (λ k. frame_at next k ≡ record { class = to; offset = (head_at new to).base }) (sym least) (frame-from (head_at hs from).least inside (ap (λ (f : ClassFrame). f.class) based) ∙ ap (λ k. record { class = to; offset = k }) (ap (λ (f : ClassFrame). f.offset +ℤ by) based ∙ sym base)),
        λ m l c. subst (λ k. node_below (node_at ns m) (node_at ns k) ≡ false) (sym least) (lower m l c),
      )
    where
      lower : (m : ℕ) → m < length ns → ((frame_at fs m).class ≡ from) ⊎ ((frame_at fs m).class ≡ to) → node_below (node_at ns m) (node_at ns (head_at hs from).least) ≡ false
      lower m l (inl e) = least-at m from l e
      lower m l (inr e) = not_below-trans (node_at ns m) (node_at ns (head_at hs to).least) (node_at ns (head_at hs from).least) (least-at m to l e) (not_below (node_at ns (head_at hs from).least) (node_at ns (head_at hs to).least) below)
  at_to (under_kept above number least base) =
      let inside = inside-at to to is_to to_root in
      let based = based-at to to is_to to_root in
      let other : (frame_at fs (head_at hs to).least).class ≢ from = λ q. two (sym q ∙ ap (λ (f : ClassFrame). f.class) based) in (
        subst (λ k. k < length ns) (sym least) inside,
        subst (λ k. frame_at next k ≡ record { class = to; offset = (head_at new to).base }) (sym least) (frame-other (head_at hs to).least inside other ∙ based ∙ ap (λ k. record { class = to; offset = k }) (sym base)),
        λ m l c. subst (λ k. node_below (node_at ns m) (node_at ns k) ≡ false) (sym least) (lower m l c),
      )
    where
      lower : (m : ℕ) → m < length ns → ((frame_at fs m).class ≡ from) ⊎ ((frame_at fs m).class ≡ to) → node_below (node_at ns m) (node_at ns (head_at hs to).least) ≡ false
      lower m l (inl e) = not_below-trans (node_at ns m) (node_at ns (head_at hs from).least) (node_at ns (head_at hs to).least) (least-at m from l e) above
      lower m l (inr e) = least-at m to l e

  -- what holds of the class of each node
  record IsHeaded (m c : ℕ) : Type 0 where
    pub named : slice_get after (head_at new c).number ≡ Some c
    pub inside : (head_at new c).least < length ns
    pub based : frame_at next (head_at new c).least ≡ record { class = c; offset = (head_at new c).base }
    pub least : node_below (node_at ns m) (node_at ns (head_at new c).least) ≡ false

  headed-to : (m : ℕ) → m < length ns → ((frame_at fs m).class ≡ from) ⊎ ((frame_at fs m).class ≡ to) → IsHeaded m to
  headed-to m l c = let t = at_to x.joined in record { named = named-new to to is_to to_root (λ e. two (sym e)); inside = t.0; based = t.1; least = t.2 m l c }

  headed-other : (m : ℕ) → m < length ns → (frame_at fs m).class ≢ from → (frame_at fs m).class ≢ to → IsHeaded m (frame_at fs m).class
  headed-other m l d e =
      let least = x.other (frame_at fs m).class e in
      let base = x.other_base (frame_at fs m).class e in
      let inside = h.inside m l in
      let class : (frame_at fs (head_at hs (frame_at fs m).class).least).class ≡ (frame_at fs m).class = ap (λ (f : ClassFrame). f.class) (h.based m l) in
      record {
        named = named-new m (frame_at fs m).class l refl d;
        inside = subst (λ k. k < length ns) (sym least) inside;
        based = subst (λ k. frame_at next k ≡ record { class = (frame_at fs m).class; offset = (head_at new (frame_at fs m).class).base }) (sym least) (frame-other (head_at hs (frame_at fs m).class).least inside (λ q. d (sym class ∙ q)) ∙ h.based m l ∙ ap (λ k. record { class = (frame_at fs m).class; offset = k }) (sym base));
        least = subst (λ k. node_below (node_at ns m) (node_at ns k) ≡ false) (sym least) (h.least m l);
      }

  headed : (m : ℕ) → m < length ns → IsHeaded m (frame_at next m).class
  headed m l = by_cases (cases_eq (frame_at fs m).class from) (cases_eq (frame_at fs m).class to)
    where
      by_cases : ((frame_at fs m).class ≡ from) ⊎ ((frame_at fs m).class ≢ from) → ((frame_at fs m).class ≡ to) ⊎ ((frame_at fs m).class ≢ to) → IsHeaded m (frame_at next m).class
      by_cases (inl e) d = subst (λ (f : ClassFrame). IsHeaded m f.class) (sym (frame-from m l e)) (headed-to m l (inl e))
      by_cases (inr d) (inl e) = subst (λ (f : ClassFrame). IsHeaded m f.class) (sym (frame-other m l d)) (subst (λ c. IsHeaded m c) (sym e) (headed-to m l (inr e)))
      by_cases (inr d) (inr e) = subst (λ (f : ClassFrame). IsHeaded m f.class) (sym (frame-other m l d)) (headed-other m l d e)

  pub heads-joined : HasHeads ns next new after
  heads-joined = record {
    named = λ m l. (headed m l).named;
    name = name-new;
    inside = λ m l. (headed m l).inside;
    based = λ m l. (headed m l).based;
    least = λ m l. (headed m l).least;
  }

  -- the class of a node after the join
  class-to : (n : ℕ) → n < length ns → ((frame_at fs n).class ≡ from) ⊎ ((frame_at fs n).class ≡ to) → (frame_at next n).class ≡ to
  class-to n l (inl e) = ap (λ (f : ClassFrame). f.class) (frame-from n l e)
  class-to n l (inr e) = ap (λ (f : ClassFrame). f.class) (frame-other n l (λ q. two (sym q ∙ e))) ∙ e

  class-kept : (n : ℕ) → n < length ns → (frame_at fs n).class ≢ from → (frame_at next n).class ≡ (frame_at fs n).class
  class-kept n l d = ap (λ (f : ClassFrame). f.class) (frame-other n l d)

  -- a class that has an expanded node has it after the join
  expanded-to : (c : ℕ) → (c ≡ from) ⊎ (c ≡ to) → HasExpandedNode asks ns fs c → HasExpandedNode asks ns next to
  expanded-to c is x = record { number = x.number; below = x.below; walk = x.walk; node = x.node; in_class = class-to x.number x.below (which is); expanded = x.expanded }
    where
      which : (c ≡ from) ⊎ (c ≡ to) → ((frame_at fs x.number).class ≡ from) ⊎ ((frame_at fs x.number).class ≡ to)
      which (inl e) = inl (x.in_class ∙ e)
      which (inr e) = inr (x.in_class ∙ e)

  expanded-kept : (c : ℕ) → c ≢ from → HasExpandedNode asks ns fs c → HasExpandedNode asks ns next c
  expanded-kept c d x = record { number = x.number; below = x.below; walk = x.walk; node = x.node; in_class = class-kept x.number x.below (λ q. d (sym x.in_class ∙ q)) ∙ x.in_class; expanded = x.expanded }

  -- and had it before: the class of a node that is in the joined class now was one of the two
  expanded-of : (x : HasExpandedNode asks ns next to) → HasExpandedNode asks ns fs from ⊎ HasExpandedNode asks ns fs to
  expanded-of x = which (cases_eq (frame_at fs x.number).class from)
    where
      which : ((frame_at fs x.number).class ≡ from) ⊎ ((frame_at fs x.number).class ≢ from) → HasExpandedNode asks ns fs from ⊎ HasExpandedNode asks ns fs to
      which (inl e) = inl (record { number = x.number; below = x.below; walk = x.walk; node = x.node; in_class = e; expanded = x.expanded })
      which (inr d) = inr (record { number = x.number; below = x.below; walk = x.walk; node = x.node; in_class = sym (class-kept x.number x.below d) ∙ x.in_class; expanded = x.expanded })

  expanded-before : (c : ℕ) → c ≢ to → HasExpandedNode asks ns next c → HasExpandedNode asks ns fs c
  expanded-before c d x = which (cases_eq (frame_at fs x.number).class from)
    where
      which : ((frame_at fs x.number).class ≡ from) ⊎ ((frame_at fs x.number).class ≢ from) → HasExpandedNode asks ns fs c
      which (inl e) = absurd (d (sym x.in_class ∙ class-to x.number x.below (inl e)))
      which (inr o) = record { number = x.number; below = x.below; walk = x.walk; node = x.node; in_class = sym (class-kept x.number x.below o) ∙ x.in_class; expanded = x.expanded }

  module _ (marks marked : List Bool) (counted : length marks ≡ length names) (k : IsJoinedByMarks (head_at hs from).number (head_at hs to).number names marks marked) (is_marks : MarksNames asks ns fs hs marks) where
    from_inside : (head_at hs from).number < length names
    from_inside = slice_get_within names (head_at hs from).number from from_named

    to_named : slice_get names (head_at hs to).number ≡ Some to
    to_named = named-at to to is_to to_root

    to_inside : (head_at hs to).number < length names
    to_inside = slice_get_within names (head_at hs to).number to to_named

    count-between : MarksBoth (head_at hs from).number (head_at hs to).number marks k.between → length k.between ≡ length names
    count-between (is_marked e s) = ap length s ∙ length-set marks (head_at hs to).number true ∙ counted
    count-between (is_plain e s) = ap length s ∙ counted

    last_place : length names - 1 ≡ length after
    last_place = let c = x.count in omega arith

    -- the mark at the new number of a class that stays is the one that it had between
    mark-new : (m c : ℕ) → m < length ns → (frame_at fs m).class ≡ c → c ≢ from → slice_get marked (head_at new c).number ≡ slice_get k.between (head_at hs c).number
    mark-new m c l e d = by_cases (cases_eq c last)
      where
        named : slice_get names (head_at hs c).number ≡ Some c
        named = named-at m c l e

        between : length k.between ≡ length names
        between = count-between k.both

        by_cases : (c ≡ last) ⊎ (c ≢ last) → slice_get marked (head_at new c).number ≡ slice_get k.between (head_at hs c).number
        by_cases (inl s) =
            let apart : (head_at hs from).number ≢ length after = λ q. d (s ∙ one-name (length after) last from x.last_is (ap (slice_get names) (sym q) ∙ from_named)) in
            let inside = from_inside in
            let below : (head_at hs from).number < length names - 1 = (let n = x.count in omega arith) in
            let there : (head_at hs from).number < length k.between = (let n = between in omega arith) in
            let place : length names - 1 ≡ (head_at hs c).number = last_place ∙ sym last_facts.2 ∙ ap (λ n. (head_at hs n).number) (sym s) in
            ap (λ n. slice_get marked (head_at new n).number) s ∙ ap (slice_get marked) x.renumbered ∙ ap (λ ms. slice_get ms (head_at hs from).number) k.moved
            ∙ get-take (set k.between (head_at hs from).number k.mark) (length names - 1) (head_at hs from).number below
            ∙ get-set k.between (head_at hs from).number k.mark there ∙ sym k.mark_is ∙ ap (slice_get k.between) place
        by_cases (inr s) =
            let apart : (head_at hs c).number ≢ length after = λ q. s (one-name (length after) c last (ap (slice_get names) (sym q) ∙ named) x.last_is) in
            let inside = slice_get_within names (head_at hs c).number c named in
            let below : (head_at hs c).number < length names - 1 = (let n = x.count in omega arith) in
            let other : (head_at hs c).number ≢ (head_at hs from).number = λ q. d (one-name (head_at hs from).number c from (ap (slice_get names) (sym q) ∙ named) from_named) in
            ap (slice_get marked) (x.number c s) ∙ ap (λ ms. slice_get ms (head_at hs c).number) k.moved
            ∙ get-take (set k.between (head_at hs from).number k.mark) (length names - 1) (head_at hs c).number below
            ∙ get-other k.between (head_at hs from).number (head_at hs c).number k.mark other

    -- the marks of the two classes, before the join
    from_marks : (slice_get marks (head_at hs from).number ≡ Some true) ↔ HasExpandedNode asks ns fs from
    from_marks = subst (λ c. (slice_get marks (head_at hs c).number ≡ Some true) ↔ HasExpandedNode asks ns fs c) from_root (is_marks from is_from)

    to_marks : (slice_get marks (head_at hs to).number ≡ Some true) ↔ HasExpandedNode asks ns fs to
    to_marks = subst (λ c. (slice_get marks (head_at hs c).number ≡ Some true) ↔ HasExpandedNode asks ns fs c) to_root (is_marks to is_to)

    -- between, the class that stays is marked where one of the two was
    both-there : MarksBoth (head_at hs from).number (head_at hs to).number marks k.between → slice_get k.between (head_at hs to).number ≡ Some true → HasExpandedNode asks ns next to
    both-there (is_marked e s) t = expanded-to from (inl refl) (from_marks.0 e)
    both-there (is_plain e s) t = expanded-to to (inr refl) (to_marks.0 (ap (λ ms. slice_get ms (head_at hs to).number) (sym s) ∙ t))

    both-back : MarksBoth (head_at hs from).number (head_at hs to).number marks k.between → HasExpandedNode asks ns fs from ⊎ HasExpandedNode asks ns fs to → slice_get k.between (head_at hs to).number ≡ Some true
    both-back (is_marked e s) o = ap (λ ms. slice_get ms (head_at hs to).number) s ∙ get-set marks (head_at hs to).number true (let n = to_inside in let c = counted in omega arith)
    both-back (is_plain e s) (inl h) = let both : Some false ≡ Some true = sym e ∙ from_marks.1 h in cc
    both-back (is_plain e s) (inr h) = ap (λ ms. slice_get ms (head_at hs to).number) s ∙ to_marks.1 h

    -- no other mark changes between
    both-other : MarksBoth (head_at hs from).number (head_at hs to).number marks k.between → (n : ℕ) → n ≢ (head_at hs to).number → slice_get k.between n ≡ slice_get marks n
    both-other (is_marked e s) n d = ap (λ ms. slice_get ms n) s ∙ get-other marks (head_at hs to).number n true d
    both-other (is_plain e s) n d = ap (λ ms. slice_get ms n) s

    marks-to : (slice_get marked (head_at new to).number ≡ Some true) ↔ HasExpandedNode asks ns next to
    marks-to = ((λ e. both-there k.both (sym (mark-new to to is_to to_root (λ q. two (sym q))) ∙ e)), (λ h. mark-new to to is_to to_root (λ q. two (sym q)) ∙ both-back k.both (expanded-of h)))

    marks-other : (m c : ℕ) → m < length ns → (frame_at fs m).class ≡ c → c ≢ from → c ≢ to → (slice_get marked (head_at new c).number ≡ Some true) ↔ HasExpandedNode asks ns next c
    marks-other m c l e d o = ((λ t. expanded-kept c d (old.0 (sym same ∙ t))), (λ h. same ∙ old.1 (expanded-before c o h)))
      where
        named : slice_get names (head_at hs c).number ≡ Some c
        named = named-at m c l e

        apart : (head_at hs c).number ≢ (head_at hs to).number
        apart q = o (one-name (head_at hs to).number c to (ap (slice_get names) (sym q) ∙ named) to_named)

        same : slice_get marked (head_at new c).number ≡ slice_get marks (head_at hs c).number
        same = mark-new m c l e d ∙ both-other k.both (head_at hs c).number apart

        old : (slice_get marks (head_at hs c).number ≡ Some true) ↔ HasExpandedNode asks ns fs c
        old = subst (λ n. (slice_get marks (head_at hs n).number ≡ Some true) ↔ HasExpandedNode asks ns fs n) e (is_marks m l)

    pub marks-joined : MarksNames asks ns next new marked
    marks-joined m l = by_cases (cases_eq (frame_at fs m).class from) (cases_eq (frame_at fs m).class to)
      where
        by_cases : ((frame_at fs m).class ≡ from) ⊎ ((frame_at fs m).class ≢ from) → ((frame_at fs m).class ≡ to) ⊎ ((frame_at fs m).class ≢ to) → (slice_get marked (head_at new (frame_at next m).class).number ≡ Some true) ↔ HasExpandedNode asks ns next (frame_at next m).class
        by_cases (inl e) d = subst (λ c. (slice_get marked (head_at new c).number ≡ Some true) ↔ HasExpandedNode asks ns next c) (sym (class-to m l (inl e))) marks-to
        by_cases (inr d) (inl e) = subst (λ c. (slice_get marked (head_at new c).number ≡ Some true) ↔ HasExpandedNode asks ns next c) (sym (class-to m l (inr e))) marks-to
        by_cases (inr d) (inr o) = subst (λ c. (slice_get marked (head_at new c).number ≡ Some true) ↔ HasExpandedNode asks ns next c) (sym (class-kept m l d)) (marks-other m (frame_at fs m).class l refl d o)
