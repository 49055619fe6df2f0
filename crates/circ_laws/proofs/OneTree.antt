-- The whole tree is asked in one way: two journals that were asked in order, each until its end, are one.
use Rattle.std.proofs.Common.{◌≡◌, ◌≢◌, ℕ, List, [], ◌∷◌, ◌++◌, length, Bool, true, false, true≢false, sym, ◌∙◌, subst, ap, refl, arith, append_assoc, append-nil, inl, inr}
use Rattle.std.specs.Prelude.{ℤ}
use Rattle.net_defs.specs.Network.{Network}
use Rattle.net_defs.specs.Turn.{same_turns}
use Rattle.net_defs.proofs.Turns.{same_turns-true, same_turns-refl}
use Rattle.journal_defs.specs.declared.entry.Entry.{Entry}
use Rattle.journal_defs.specs.Tree.{reached}
use Rattle.journal_defs.specs.Growth.{IsEndedAtLimit}
use Rattle.journal_defs.proofs.Order.{below-total}
use Rattle.map_laws.proofs.Asks.{ByLast, by_last, push-parts}
use Rattle.map_laws.proofs.Asks.ByLast.{empty, pushed}
use Rattle.map_laws.proofs.OneJournal.{reached-more}
use Rattle.circ_defs.specs.Circuit.{circuit_answer}
use Rattle.circ_defs.specs.Asking.{IsNextOfTree, IsTreeGrowing}
use Rattle.circ_defs.specs.Asking.IsTreeGrowing.{nothing, more}
use Rattle.circ_laws.specs.Laws.{IsTreeStopped, TreeIsOne}

-- the next walk of a tree is one
next-one : (depth : ℕ) (j : List Entry) (x y : List ℤ) → IsNextOfTree depth j x → IsNextOfTree depth j y → x ≡ y
next-one depth j x y a b = by (same_turns x y) refl
  where
    by : (s : Bool) → same_turns x y ≡ s → x ≡ y
    by true p = same_turns-true x y p
    by false p =
        let differ : y ≢ x = λ e. true≢false (sym (same_turns-refl x) ∙ ap (same_turns x) (sym e) ∙ p) in
        absurd (true≢false (sym (below-total y x differ (a.least y b.of_tree b.unasked)) ∙ b.least x a.of_tree a.unasked))

-- an entry was the next ask after those before it, with its circuit answer
record WasNext (n : Network) (host depth : ℕ) (j : List Entry) (e : Entry) : Type 0 where
  ask : IsNextOfTree depth j e.walk
  told : e.answer ≡ circuit_answer n host e.walk

next-entry : (n : Network) (host depth : ℕ) (j : List Entry) (d e : Entry) → WasNext n host depth j d → WasNext n host depth j e → d ≡ e
next-entry n host depth j d e a b =
    let walk : d.walk ≡ e.walk = next-one depth j d.walk e.walk a.ask b.ask in
    let answer : d.answer ≡ e.answer = a.told ∙ ap (circuit_answer n host) walk ∙ sym b.told in
    λ i. record { walk = walk i; answer = answer i }

-- so was each entry of a tree
ask-at : (n : Network) (host depth : ℕ) (l j : List Entry) (e : Entry) (rest : List Entry) → IsTreeGrowing n host depth l → l ≡ j ++ e ∷ rest → WasNext n host depth j e
ask-at n host depth l j e rest (nothing) is = absurd (none j (sym is))
  where
    none : (i : List Entry) → i ++ e ∷ rest ≡ [] → ⊥
    none [] p = cc
    none (x ∷ i) p = cc
ask-at n host depth l j e rest (more before f g ask told whole) is = by (by_last rest) (λ r. ask-at n host depth before j e r g)
  where
    by : ByLast rest → ((r : List Entry) → before ≡ j ++ e ∷ r → WasNext n host depth j e) → WasNext n host depth j e
    by (empty p) again =
        let parts = push-parts before j f e (sym whole ∙ is ∙ ap (λ r. j ++ e ∷ r) p) in
        subst (WasNext n host depth j) parts.1 (subst (λ i. WasNext n host depth i f) parts.0 (record { ask = ask; told = told }))
    by (pushed r x p) again =
        let split : before ++ f ∷ [] ≡ (j ++ e ∷ r) ++ x ∷ [] = sym whole ∙ is ∙ ap (λ q. j ++ e ∷ q) p ∙ sym (append_assoc j (e ∷ r) (x ∷ [])) in
        again r (push-parts before (j ++ e ∷ r) f x split).0

-- of two journals one begins with the other
data Begins (j l : List Entry) : Type 0 where
  goes_further : (rest : List Entry) → l ≡ j ++ rest → Begins j l
  stops_before : (rest : List Entry) → j ≡ l ++ rest → Begins j l

begins : (n : Network) (host depth : ℕ) (j l : List Entry) → IsTreeGrowing n host depth j → IsTreeGrowing n host depth l → Begins j l
begins n host depth j l (nothing) h = goes_further l refl
begins n host depth j l (more before e g ask told is) h = by (begins n host depth before l g h)
  where
    next : (rest : List Entry) → l ≡ before ++ rest → Begins j l
    next [] p = stops_before (e ∷ []) (is ∙ ap (λ i. i ++ e ∷ []) (sym (p ∙ append-nil before)))
    next (f ∷ rest) p =
        let one : e ≡ f = next-entry n host depth before e f (record { ask = ask; told = told }) (ask-at n host depth l before f rest h p) in
        goes_further rest (p ∙ ap (λ x. before ++ x ∷ rest) (sym one) ∙ sym (append_assoc before (e ∷ []) rest) ∙ ap (λ i. i ++ rest) (sym is))

    by : Begins before l → Begins j l
    by (goes_further rest p) = next rest p
    by (stops_before rest p) = stops_before (rest ++ e ∷ []) (is ∙ ap (λ i. i ++ e ∷ []) p ∙ append_assoc l rest (e ∷ []))

-- a tree that stopped doesn't go on
stops : (n : Network) (host depth : ℕ) (j : List Entry) (e : Entry) (rest : List Entry) → IsTreeStopped depth j → IsTreeGrowing n host depth (j ++ e ∷ rest) → IsTreeStopped depth (j ++ e ∷ rest) → ⊥
stops n host depth j e rest a g b = by a b
  where
    next : IsNextOfTree depth j e.walk
    next = (ask-at n host depth (j ++ e ∷ rest) j e rest g refl).ask

    limit : IsEndedAtLimit j → IsTreeStopped depth (j ++ e ∷ rest) → ⊥
    limit p (inl q) = let s = p.passed in let k = q.kept in let m = reached-more j (e ∷ rest) in omega arith
    limit p (inr q) = last (by_last (e ∷ rest))
      where
        last : ByLast (e ∷ rest) → ⊥
        last (empty none) = cc
        last (pushed r x s) =
            let split : q.before ++ q.last ∷ [] ≡ (j ++ r) ++ x ∷ [] = sym q.whole ∙ ap (λ i. j ++ i) s ∙ sym (append_assoc j r (x ∷ [])) in
            let before : q.before ≡ j ++ r = (push-parts q.before (j ++ r) q.last x split).0 in
            let a = p.passed in
            let b : length (reached q.before) ≡ length (reached (j ++ r)) = ap (λ i. length (reached i)) before in
            let c = q.kept in
            let d = reached-more j r in
            omega arith

    by : IsTreeStopped depth j → IsTreeStopped depth (j ++ e ∷ rest) → ⊥
    by (inl p) q = true≢false (sym (p.asked e.walk next.of_tree) ∙ next.unasked)
    by (inr p) q = limit p q

pub tree_is_one : TreeIsOne
tree_is_one n host depth j l g h a b = by (begins n host depth j l g h)
  where
    further : (i k : List Entry) (rest : List Entry) → IsTreeStopped depth i → IsTreeGrowing n host depth k → IsTreeStopped depth k → k ≡ i ++ rest → i ≡ k
    further i k [] s t u e = sym (e ∙ append-nil i)
    further i k (x ∷ rest) s t u e = absurd (stops n host depth i x rest s (subst (IsTreeGrowing n host depth) e t) (subst (IsTreeStopped depth) e u))

    by : Begins j l → j ≡ l
    by (goes_further rest e) = further j l rest a h b e
    by (stops_before rest e) = sym (further l j rest b g a e)
