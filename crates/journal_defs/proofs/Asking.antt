-- A journal has one next ask at most.
use Rattle.std.proofs.Common.{◌≡◌, List, [], ◌∷◌, ◌++◌, Bool, true, false, sym, ◌∙◌, subst, ap, true≢false, refl, arith}
use Rattle.std.specs.Prelude.{ℤ, negsuc, ◌<ℤ◌}
use Rattle.std.specs.Ordering.{int_eq}
use Rattle.std.proofs.lemmas.Bool.{false≢true}
use Rattle.std.proofs.lemmas.Bool.Decides.{Decides-int_eq}
use Rattle.std.proofs.lemmas.Int.{ints}
use Rattle.journal_defs.specs.declared.entry.Entry.{Entry}
use Rattle.net_defs.specs.Turn.{same_turns}
use Rattle.journal_defs.specs.Walks.{walk_below}
use Rattle.journal_defs.specs.Tree.{IsNode, IsSwitchNode, is_asked}
use Rattle.journal_defs.specs.Tree.Node.{Reached}
use Rattle.journal_defs.specs.Growth.{IsBegun, IsExpanded, IsLeastUnasked}
use Rattle.journal_defs.specs.Growth.NextAsk.{first, goes_on, begins}
use Rattle.journal_defs.specs.Laws.{NextAskIsUnique, NoAskAtTheEnd}
use Rattle.net_defs.proofs.Turns.{same_turns-true, same_turns-refl}
use Rattle.journal_defs.proofs.Order.{below-total}

-- two walks of which neither stands before the other are one
pub not_apart : (v w : List ℤ) → ¬ (walk_below v w ≡ true) → ¬ (walk_below w v ≡ true) → v ≡ w
not_apart v w a b = by (same_turns v w) (walk_below v w) refl refl
  where
    by : (s t : Bool) → same_turns v w ≡ s → walk_below v w ≡ t → v ≡ w
    by true t p q = same_turns-true v w p
    by false true p q = absurd (a q)
    by false false p q = absurd (b (below-total v w (λ e. true≢false (sym (same_turns-refl v) ∙ ap (same_turns v) e ∙ p)) q))

not_apart-turns : (s t : ℤ) → ¬ (s <ℤ t) → ¬ (t <ℤ s) → s ≡ t
not_apart-turns s t a b = by (int_eq s t) refl
  where
    by : (e : Bool) → int_eq s t ≡ e → s ≡ t
    by true p = (Decides-int_eq s t).0 p
    by false p = absurd (grind (arith, ints))

empty-begun : (j : List Entry) (w : List ℤ) → j ≡ [] → ¬ IsBegun j w
empty-begun j w e b = let p : IsNode [] (Reached w) = subst (λ i. IsNode i (Reached w)) e b.node in false≢true p

empty-switch : (j : List Entry) (w : List ℤ) → j ≡ [] → ¬ IsSwitchNode j w
empty-switch j w e s = let p : IsSwitchNode [] w = subst (λ i. IsSwitchNode i w) e s in cc

-- a node with a turn that isn't asked is not expanded
pub unasked-open : (j : List Entry) (w : List ℤ) (t : ℤ) → IsLeastUnasked j w t → ¬ IsExpanded j w
unasked-open j w t l x = true≢false (sym (x.asked t l.onward) ∙ l.unasked)

one-node : (j : List Entry) (v w : List ℤ) (s t : ℤ) → IsBegun j v → IsLeastUnasked j v s → IsLeastUnasked j w t → ((u : List ℤ) → IsBegun j u → walk_below u w ≡ true → IsExpanded j u) → ¬ (walk_below v w ≡ true)
one-node j v w s t b l m least e = unasked-open j v s l (least v b e)

one-turn : (j : List Entry) (w : List ℤ) (s t : ℤ) → IsLeastUnasked j w s → IsLeastUnasked j w t → ¬ (s <ℤ t)
one-turn j w s t l m e = true≢false (sym (m.lesser s l.onward e) ∙ l.unasked)

pub next_ask_is_unique : NextAskIsUnique
next_ask_is_unique host depth j x y (first a b) (first c d) = b ∙ sym d
next_ask_is_unique host depth j x y (first a b) (goes_on w t c l m d) = absurd (empty-begun j w a c)
next_ask_is_unique host depth j x y (first a b) (begins w r c d) = absurd (empty-switch j w a c.switch)
next_ask_is_unique host depth j x y (goes_on w t c l m d) (first a b) = absurd (empty-begun j w a c)
next_ask_is_unique host depth j x y (goes_on w t c l m d) (goes_on v s b k n e) =
    let node : w ≡ v = not_apart w v (one-node j w v t s c l k n) (one-node j v w s t b k l m) in
    let other : IsLeastUnasked j w s = subst (λ u. IsLeastUnasked j u s) (sym node) k in
    let turn : t ≡ s = not_apart-turns t s (one-turn j w t s l other) (one-turn j w s t other l) in
    d ∙ ap (λ u. u ++ t ∷ []) node ∙ ap (λ r. v ++ r ∷ []) turn ∙ sym e
next_ask_is_unique host depth j x y (goes_on w t c l m d) (begins v r b e) = absurd (unasked-open j w t l (r.expanded w c))
next_ask_is_unique host depth j x y (begins w r c d) (first a b) = absurd (empty-switch j w a c.switch)
next_ask_is_unique host depth j x y (begins w r c d) (goes_on v s b k n e) = absurd (unasked-open j v s k (r.expanded v b))
next_ask_is_unique host depth j x y (begins w r c d) (begins v q b e) =
    let node : w ≡ v = not_apart w v (λ p. c.fresh (b.lesser w c.switch p)) (λ p. b.fresh (c.lesser v b.switch p)) in
    d ∙ ap (λ u. u ++ negsuc 14 ∷ []) node ∙ sym e

pub no_ask_at_the_end : NoAskAtTheEnd
no_ask_at_the_end host depth j x (first a b) e = let p : is_asked [] [] ≡ true = subst (λ i. is_asked i [] ≡ true) a e.started in false≢true p
no_ask_at_the_end host depth j x (goes_on w t c l m d) e = unasked-open j w t l (e.at_rest.expanded w c)
no_ask_at_the_end host depth j x (begins w r c d) e = c.fresh (e.expanded w c.switch c.near)
