-- The walks of a growing journal stand in their order.
use Rattle.std.proofs.Common.{◌≡◌, ◌≢◌, ◌<◌, ℕ, zero, suc, List, [], ◌∷◌, ◌++◌, length, Bool, true, false, Some, sym, ◌∙◌, subst, ap, true≢false, refl, arith, ◌⊎◌, inl, inr}
use Rattle.std.specs.Prelude.{ℤ, negsuc, ◌<ℤ◌, int_lt, slice_get}
use Rattle.std.proofs.lemmas.Bool.{false≢true}
use Rattle.std.proofs.lemmas.Int.{ints}
use Rattle.journal_defs.specs.declared.entry.Entry.{Entry}
use Rattle.journal_defs.specs.Walks.{IsOnward, walk_below}
use Rattle.journal_defs.specs.Tree.{IsSwitchNode, is_asked}
use Rattle.journal_defs.specs.Tree.Node.{Reached}
use Rattle.journal_defs.specs.Growth.{IsGrowing, IsBegun, IsExpanded, IsLeastUnasked, IsAtRest, IsChosen, HasExpanded, NextAsk}
use Rattle.journal_defs.specs.Growth.IsGrowing.{nothing, more}
use Rattle.journal_defs.specs.Growth.NextAsk.{first, goes_on, begins}
use Rattle.journal_defs.proofs.Members.{IsMember}
use Rattle.journal_defs.proofs.Order.{below-trans, below-total}
use Rattle.journal_defs.proofs.Asking.{unasked-open}
use Rattle.map_laws.proofs.Keeping.{Keeps, keeps-append, asked-push, asked-kept, expanded-kept, has_expanded-kept, begun-kept}
use Rattle.map_laws.proofs.Asks.{HasTree, growing-tree, push-parts, switch-node, expanded-has, first-unbegun, ByLast, by_last}
use Rattle.map_laws.proofs.Asks.ByLast.{empty, pushed}
use Rattle.map_laws.proofs.Phases.{begun-push, below-push, same_or_not, chosen-begun}
use Rattle.map_laws.proofs.Few.{member-asked}
use Rattle.mapper.proofs.Orders.{below-onward, below-last, below-empty}

-- The highest node that is begun: lesser ones are expanded, its turns were asked in rising order, and lesser switches have expanded classes.
record IsHighest (host : ℕ) (j : List Entry) (c : List ℤ) : Type 0 where
  begun : IsBegun j c
  others : (m : List ℤ) → IsBegun j m → m ≢ c → IsExpanded j m × (walk_below m c ≡ true)
  in_order : (s t : ℤ) → IsOnward s → is_asked j (c ++ t ∷ []) ≡ true → s <ℤ t → is_asked j (c ++ s ∷ []) ≡ true
  lesser : (v : List ℤ) → IsSwitchNode j v → walk_below v c ≡ true → HasExpanded host j (Reached v)

data Highest (host : ℕ) (j : List Entry) : Type 0 where
  none_begun : ((m : List ℤ) → ¬ IsBegun j m) → Highest host j
  highest : (c : List ℤ) → IsHighest host j c → Highest host j

-- a node that goes on is the highest
goes-from : (host : ℕ) (j : List Entry) (c w : List ℤ) (t : ℤ) → IsHighest host j c → IsBegun j w → IsLeastUnasked j w t → w ≡ c
goes-from host j c w t h b l = by (same_or_not w c)
  where
    by : (w ≡ c) ⊎ (w ≢ c) → w ≡ c
    by (inl e) = e
    by (inr d) = absurd (unasked-open j w t l (h.others w b d).0)

-- a node that is begun stands below one that is chosen
begun-below : (host depth : ℕ) (j : List Entry) (w m : List ℤ) → Highest host j → IsAtRest j → IsChosen host depth j w → IsBegun j m → walk_below m w ≡ true
begun-below host depth j w m (none_begun none) rest c b = absurd (none m b)
begun-below host depth j w m (highest x h) rest c b = by (same_or_not m x)
  where
    opened : HasExpanded host j (Reached w) → ⊥
    opened = c.fresh

    differs : (w ≡ x) ⊎ (w ≢ x) → w ≢ x
    differs (inl e) = absurd (opened (expanded-has host j w (switch-node j w c.switch) (rest.expanded w (subst (IsBegun j) (sym e) h.begun))))
    differs (inr d) = d

    not_below : (b : Bool) → walk_below w x ≡ b → walk_below w x ≡ false
    not_below true e = absurd (opened (h.lesser w c.switch e))
    not_below false e = e

    top : walk_below x w ≡ true
    top = below-total w x (differs (same_or_not w x)) (not_below (walk_below w x) refl)

    by : (m ≡ x) ⊎ (m ≢ x) → walk_below m w ≡ true
    by (inl e) = rw e top
    by (inr d) = below-trans m x w (h.others m b d).1 top

-- a turn of the chosen node wasn't asked
chosen-unasked : (host depth : ℕ) (j : List Entry) (w : List ℤ) (t : ℤ) → IsAtRest j → IsChosen host depth j w → IsOnward t → is_asked j (w ++ t ∷ []) ≡ true → ⊥
chosen-unasked host depth j w t rest c on a =
    let begun : IsBegun j w = record { node = switch-node j w c.switch; turn = t; onward = on; asked = a } in
    c.fresh (expanded-has host j w (switch-node j w c.switch) (rest.expanded w begun))

highest-goes : (host : ℕ) (j : List Entry) (e : Entry) (c : List ℤ) (t : ℤ) → HasTree j → IsHighest host j c → IsLeastUnasked j c t → e.walk ≡ c ++ t ∷ [] → IsHighest host (j ++ e ∷ []) c
highest-goes host j e c t tree h l is = record {
  begun = begun-kept j after keeps c h.begun;
  others = λ m b d. let o = h.others m (back m d (begun-push j e c m t tree is b)) d in (expanded-kept j after keeps m o.0, o.1);
  in_order = λ s u on a b. asked-kept j after keeps (c ++ s ∷ []) (order s u on b (asked-push j e (c ++ u ∷ []) a));
  lesser = λ v s b. has_expanded-kept j after keeps host (Reached v) (h.lesser v (below-push j e c v t is s b) b);
}
  where
    after : List Entry
    after = j ++ e ∷ []

    keeps : Keeps j after
    keeps = keeps-append j (e ∷ [])

    back : (m : List ℤ) → m ≢ c → IsBegun j m ⊎ (m ≡ c) → IsBegun j m
    back m d (inl b) = b
    back m d (inr p) = absurd (d p)

    order : (s u : ℤ) → IsOnward s → s <ℤ u → (is_asked j (c ++ u ∷ []) ≡ true) ⊎ (e.walk ≡ c ++ u ∷ []) → is_asked j (c ++ s ∷ []) ≡ true
    order s u on b (inl a) = h.in_order s u on a b
    order s u on b (inr p) = let same = (push-parts c c t u (sym is ∙ p)).1 in l.lesser s on (subst (λ x. s <ℤ x) (sym same) b)

highest-begins : (host depth : ℕ) (j : List Entry) (e : Entry) (w : List ℤ) → HasTree j → Highest host j → IsAtRest j → IsChosen host depth j w → e.walk ≡ w ++ negsuc 14 ∷ [] → IsHighest host (j ++ e ∷ []) w
highest-begins host depth j e w tree h rest c is = record {
  begun = chosen-begun host depth j e w c is;
  others = λ m b d. other m d (begun-push j e w m (negsuc 14) tree is b);
  in_order = λ s u on a b. absurd (order s u on b (asked-push j e (w ++ u ∷ []) a));
  lesser = λ v s b. has_expanded-kept j after keeps host (Reached v) (c.lesser v (below-push j e w v (negsuc 14) is s b) b);
}
  where
    after : List Entry
    after = j ++ e ∷ []

    keeps : Keeps j after
    keeps = keeps-append j (e ∷ [])

    other : (m : List ℤ) → m ≢ w → IsBegun j m ⊎ (m ≡ w) → IsExpanded after m × (walk_below m w ≡ true)
    other m d (inl b) = (expanded-kept j after keeps m (rest.expanded m b), begun-below host depth j w m h rest c b)
    other m d (inr p) = absurd (d p)

    order : (s u : ℤ) → IsOnward s → s <ℤ u → (is_asked j (w ++ u ∷ []) ≡ true) ⊎ (e.walk ≡ w ++ u ∷ []) → ⊥
    order s u on b (inl a) = chosen-unasked host depth j w u rest c (tree.parent w u a).onward a
    order s u on b (inr p) = let same : negsuc 14 ≡ u = (push-parts w w (negsuc 14) u (sym is ∙ p)).1 in let low : s <ℤ negsuc 14 = subst (λ x. s <ℤ x) (sym same) b in let turn = on.0 in absurd (grind (arith, ints))

highest-push : (host depth : ℕ) (j : List Entry) (e : Entry) → HasTree j → Highest host j → NextAsk host depth j e.walk → Highest host (j ++ e ∷ [])
highest-push host depth j e tree h (first a b) = none_begun (λ m g. first-unbegun j e m a b g)
highest-push host depth j e tree (none_begun none) (goes_on w t b l least is) = absurd (none w b)
highest-push host depth j e tree (highest c h) (goes_on w t b l least is) =
    let one = goes-from host j c w t h b l in
    highest c (highest-goes host j e c t tree h (subst (λ x. IsLeastUnasked j x t) one l) (subst (λ x. e.walk ≡ x ++ t ∷ []) one is))
highest-push host depth j e tree h (begins w rest c is) = highest w (highest-begins host depth j e w tree h rest c is)

highest-of : (host depth : ℕ) (j : List Entry) → IsGrowing host depth j → Highest host j
highest-of host depth j (nothing) = none_begun (λ m b. false≢true b.asked)
highest-of host depth j (more before e g ask is) = subst (Highest host) (sym is) (highest-push host depth before e (growing-tree host depth before g) (highest-of host depth before g) ask)

-- of two turns one is less, or they are one
data Compared (s t : ℤ) : Type 0 where
  less : s <ℤ t → Compared s t
  equal : s ≡ t → Compared s t
  greater : t <ℤ s → Compared s t

compared : (s t : ℤ) → Compared s t
compared s t = by (int_lt s t) (int_lt t s) refl refl
  where
    by : (a b : Bool) → int_lt s t ≡ a → int_lt t s ≡ b → Compared s t
    by true b e f = less (grind (arith, ints))
    by false true e f = greater (grind (arith, ints))
    by false false e f = equal (grind (arith, ints))

-- an asked turn of a node is less than its least turn that isn't asked
less-turn : (host : ℕ) (j : List Entry) (w : List ℤ) (s t : ℤ) → IsHighest host j w → IsLeastUnasked j w t → is_asked j (w ++ s ∷ []) ≡ true → s <ℤ t
less-turn host j w s t h l a = by (compared s t)
  where
    by : Compared s t → s <ℤ t
    by (less b) = b
    by (equal b) = absurd (true≢false (sym (subst (λ u. is_asked j (w ++ u ∷ []) ≡ true) b a) ∙ l.unasked))
    by (greater b) = absurd (true≢false (sym (h.in_order t s l.onward a b) ∙ l.unasked))

below-goes : (host : ℕ) (j : List Entry) (c v : List ℤ) (t : ℤ) → HasTree j → IsHighest host j c → IsLeastUnasked j c t → is_asked j v ≡ true → walk_below v (c ++ t ∷ []) ≡ true
below-goes host j c v t tree h l asked = by (by_last v)
  where
    onward : (m : List ℤ) (s : ℤ) → is_asked j (m ++ s ∷ []) ≡ true → (m ≡ c) ⊎ (m ≢ c) → walk_below (m ++ s ∷ []) (c ++ t ∷ []) ≡ true
    onward m s there (inl e) = rw e (below-last c s t (less-turn host j c s t h l (subst (λ u. is_asked j (u ++ s ∷ []) ≡ true) e there)))
    onward m s there (inr d) =
        let parent = tree.parent m s there in
        let begun : IsBegun j m = record { node = switch-node j m parent.switch; turn = s; onward = parent.onward; asked = there } in
        below-onward m c s t (h.others m begun d).1

    by : ByLast v → walk_below v (c ++ t ∷ []) ≡ true
    by (empty p) = rw p (below-empty c t)
    by (pushed m s p) = rw p (onward m s (subst (λ u. is_asked j u ≡ true) p asked) (same_or_not m c))

below-begins : (host depth : ℕ) (j : List Entry) (w v : List ℤ) (t : ℤ) → HasTree j → Highest host j → IsAtRest j → IsChosen host depth j w → is_asked j v ≡ true → walk_below v (w ++ t ∷ []) ≡ true
below-begins host depth j w v t tree h rest c asked = by (by_last v)
  where
    by : ByLast v → walk_below v (w ++ t ∷ []) ≡ true
    by (empty p) = rw p (below-empty w t)
    by (pushed m s p) =
        let there : is_asked j (m ++ s ∷ []) ≡ true = subst (λ u. is_asked j u ≡ true) p asked in
        let parent = tree.parent m s there in
        let begun : IsBegun j m = record { node = switch-node j m parent.switch; turn = s; onward = parent.onward; asked = there } in
        rw p (below-onward m w s t (begun-below host depth j w m h rest c begun))

-- what was asked before stands below the next ask
below-next : (host depth : ℕ) (j : List Entry) (x v : List ℤ) → HasTree j → Highest host j → NextAsk host depth j x → is_asked j v ≡ true → walk_below v x ≡ true
below-next host depth j x v tree h (first a b) asked = absurd (false≢true (subst (λ i. is_asked i v ≡ true) a asked))
below-next host depth j x v tree (none_begun none) (goes_on w t b l least is) asked = absurd (none w b)
below-next host depth j x v tree (highest c h) (goes_on w t b l least is) asked =
    let one = goes-from host j c w t h b l in
    rw (is, one) (below-goes host j c v t tree h (subst (λ y. IsLeastUnasked j y t) one l) asked)
below-next host depth j x v tree h (begins w t c is) asked = rw is (below-begins host depth j w v (negsuc 14) tree h t c asked)

-- each walk of a journal stands below the later ones
pub record IsRising (j : List Entry) : Type 0 where
  pub rising : (i k : ℕ) (d e : Entry) → slice_get j i ≡ Some d → slice_get j k ≡ Some e → i < k → walk_below d.walk e.walk ≡ true

slice-within : (j : List Entry) (i : ℕ) (d : Entry) → slice_get j i ≡ Some d → i < length j
slice-within [] i d e = cc
slice-within (x ∷ j) zero d e = omega arith
slice-within (x ∷ j) (suc i) d e = let l = slice-within j i d e in omega arith

slice-member : (j : List Entry) (i : ℕ) (d : Entry) → slice_get j i ≡ Some d → IsMember d j
slice-member [] i d e = cc
slice-member (x ∷ j) zero d e = inl (let one : d ≡ x = cc in one)
slice-member (x ∷ j) (suc i) d e = inr (slice-member j i d e)

-- an entry of a journal with one more is the last, or was there before
pub slice-push : (j : List Entry) (e d : Entry) (i : ℕ) → slice_get (j ++ e ∷ []) i ≡ Some d → (slice_get j i ≡ Some d) ⊎ ((i ≡ length j) × (d ≡ e))
slice-push [] e d zero f = inr (refl, (let one : d ≡ e = cc in one))
slice-push [] e d (suc i) f = cc
slice-push (x ∷ j) e d zero f = inl f
slice-push (x ∷ j) e d (suc i) f = by (slice-push j e d i f)
  where
    by : (slice_get j i ≡ Some d) ⊎ ((i ≡ length j) × (d ≡ e)) → (slice_get j i ≡ Some d) ⊎ ((suc i ≡ suc (length j)) × (d ≡ e))
    by (inl p) = inl p
    by (inr p) = inr (ap suc p.0, p.1)

pub slice-asked : (j : List Entry) (i : ℕ) (d : Entry) → slice_get j i ≡ Some d → is_asked j d.walk ≡ true
slice-asked j i d e = member-asked j d (slice-member j i d e)

rising-push : (j : List Entry) (e : Entry) → IsRising j → ((v : List ℤ) → is_asked j v ≡ true → walk_below v e.walk ≡ true) → IsRising (j ++ e ∷ [])
rising-push j e r low = record { rising = λ i k d f a b l. by i k d f l (slice-push j e d i a) (slice-push j e f k b) }
  where
    by : (i k : ℕ) (d f : Entry) → i < k → (slice_get j i ≡ Some d) ⊎ ((i ≡ length j) × (d ≡ e)) → (slice_get j k ≡ Some f) ⊎ ((k ≡ length j) × (f ≡ e)) → walk_below d.walk f.walk ≡ true
    by i k d f l (inl a) (inl b) = r.rising i k d f a b l
    by i k d f l (inl a) (inr b) = rw b.1 (low d.walk (slice-asked j i d a))
    by i k d f l (inr a) (inl b) = let w = slice-within j k f b in let q = a.0 in absurd (omega arith)
    by i k d f l (inr a) (inr b) = let p = a.0 in let q = b.0 in absurd (omega arith)

pub rising : (host depth : ℕ) (j : List Entry) → IsGrowing host depth j → IsRising j
rising host depth j (nothing) = record { rising = λ i k d e a b l. absurd (let w = slice-within [] i d a in omega arith) }
rising host depth j (more before e g ask is) = subst IsRising (sym is) (rising-push before e (rising host depth before g) (λ v a. below-next host depth before e.walk v (growing-tree host depth before g) (highest-of host depth before g) ask a))
