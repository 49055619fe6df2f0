-- The marks of classes as one more turn of a node is asked.
use Rattle.std.proofs.Common.{◌≡◌, ◌≢◌, ◌<◌, ◌⊎◌, inl, inr, ℕ, List, Bool, true, false, length, set, Some, refl, ap, sym, ◌∙◌, true≢false, arith}
use Rattle.std.specs.Prelude.{ℤ, ◌↔◌, slice_get}
use Rattle.std.proofs.lemmas.Bool.{cases_eq}
use Rattle.std.proofs.lemmas.Option.{slice_get_within}
use Rattle.net_defs.specs.Turn.{same_turns}
use Rattle.net_defs.proofs.Turns.{same_turns-refl, same_turns-true}
use Rattle.journal_defs.specs.declared.entry.Entry.{Entry}
use Rattle.journal_defs.specs.Tree.{Node}
use Rattle.journal_defs.specs.Tree.Node.{Reached}
use Rattle.journal_defs.specs.Growth.{IsExpanded}
use Rattle.port_align.specs.declared.frame.ClassFrame.{ClassFrame}
use Rattle.replicate_merge.specs.declared.heads.Head.{Head}
use Rattle.replicate_merge.specs.Ways.{frame_at, node_at}
use Rattle.replicate_merge.specs.Heads.{HasExpandedNode, HasHeads, MarksNames, head_at}
use Rattle.replicate_merge.proofs.Numbers.{get-other, get-set}

-- the marks stay where the same nodes are expanded
pub marks-same : (asks later : List Entry) (ns : List Node) (fs : List ClassFrame) (hs : List Head) (marks : List Bool) → ((n : ℕ) (w : List ℤ) → n < length ns → node_at ns n ≡ Reached w → IsExpanded asks w → IsExpanded later w) → ((n : ℕ) (w : List ℤ) → n < length ns → node_at ns n ≡ Reached w → IsExpanded later w → IsExpanded asks w) → MarksNames asks ns fs hs marks → MarksNames later ns fs hs marks
marks-same asks later ns fs hs marks up down is m l = (
  λ e. let x = (is m l).0 e in record { number = x.number; below = x.below; walk = x.walk; node = x.node; in_class = x.in_class; expanded = up x.number x.walk x.below x.node x.expanded },
  λ x. (is m l).1 (record { number = x.number; below = x.below; walk = x.walk; node = x.node; in_class = x.in_class; expanded = down x.number x.walk x.below x.node x.expanded }),
)

-- walks are one or differ
pub walk-cases : (v w : List ℤ) → (v ≡ w) ⊎ (v ≢ w)
walk-cases v w = by (same_turns v w) refl
  where
    by : (b : Bool) → same_turns v w ≡ b → (v ≡ w) ⊎ (v ≢ w)
    by true e = inl (same_turns-true v w e)
    by false e = inr (λ q. true≢false (sym (same_turns-refl v) ∙ ap (same_turns v) q ∙ e))

-- the class of a node that is expanded now
module _ (asks later : List Entry) (ns : List Node) (fs : List ClassFrame) (hs : List Head) (names : List ℕ) (marks : List Bool) (h : HasHeads ns fs hs names) (counted : length marks ≡ length names) (once : (m n : ℕ) → m < length ns → n < length ns → node_at ns m ≡ node_at ns n → m ≡ n) (number : ℕ) (walk : List ℤ) (below : number < length ns) (node : node_at ns number ≡ Reached walk) (expanded : IsExpanded later walk)
    (up : (w : List ℤ) → IsExpanded asks w → IsExpanded later w) (down : (w : List ℤ) → w ≢ walk → IsExpanded later w → IsExpanded asks w) (is : MarksNames asks ns fs hs marks) where
  abbrev place : ℕ → ℕ
  place m = (head_at hs (frame_at fs m).class).number

  one-class : (m : ℕ) → m < length ns → place m ≡ place number → (frame_at fs m).class ≡ (frame_at fs number).class
  one-class m l e =
      let two : Some (frame_at fs m).class ≡ Some (frame_at fs number).class = sym (h.named m l) ∙ ap (slice_get names) e ∙ h.named number below in
      let one : (frame_at fs m).class ≡ (frame_at fs number).class = cc in
      one

  inside : place number < length marks
  inside = let i = slice_get_within names (place number) (frame_at fs number).class (h.named number below) in let c = counted in omega arith

  pub marks-set : MarksNames later ns fs hs (set marks (head_at hs (frame_at fs number).class).number true)
  marks-set m l = by_cases (cases_eq (place m) (place number))
    where
      by_cases : (place m ≡ place number) ⊎ (place m ≢ place number) → (slice_get (set marks (place number) true) (place m) ≡ Some true) ↔ HasExpandedNode later ns fs (frame_at fs m).class
      by_cases (inl e) = (
        λ q. record { number = number; below = below; walk = walk; node = node; in_class = sym (one-class m l e); expanded = expanded },
        λ x. ap (slice_get (set marks (place number) true)) e ∙ get-set marks (place number) true inside,
      )
      by_cases (inr d) = (
        λ q. let x = (is m l).0 (sym (get-other marks (place number) (place m) true d) ∙ q) in record { number = x.number; below = x.below; walk = x.walk; node = x.node; in_class = x.in_class; expanded = up x.walk x.expanded },
        λ x. get-other marks (place number) (place m) true d ∙ (is m l).1 (record { number = x.number; below = x.below; walk = x.walk; node = x.node; in_class = x.in_class; expanded = down x.walk (other x) x.expanded }),
      )
        where
          other : (x : HasExpandedNode later ns fs (frame_at fs m).class) → x.walk ≢ walk
          other x q =
              let same : x.number ≡ number = once x.number number x.below below (x.node ∙ ap Reached q ∙ sym node) in
              d (ap (λ c. (head_at hs c).number) (sym x.in_class ∙ ap (λ k. (frame_at fs k).class) same))
