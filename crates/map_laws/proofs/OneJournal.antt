-- Two journals that are answered alike and have grown to one depth are one.
use Rattle.std.proofs.Common.{◌≡◌, ◌≤◌, ℕ, List, [], ◌∷◌, ◌++◌, length, Bool, true, false, sym, ◌∙◌, subst, ap, refl, arith, append_assoc, append-nil, if◌then◌else◌, ◌⊎◌, inl, inr}
use Rattle.std.specs.Prelude.{ℤ}
use Rattle.std.specs.List.{AllByRecursion}
use Rattle.net_defs.specs.declared.place.Answer.{Answer}
use Rattle.net_defs.specs.Network.{Network}
use Rattle.net_defs.specs.Route.{answer}
use Rattle.journal_defs.specs.declared.entry.Entry.{Entry}
use Rattle.journal_defs.specs.Tree.{reached, is_found}
use Rattle.journal_defs.specs.Tree.Node.{Reached}
use Rattle.journal_defs.specs.Truth.{IsTrueJournal}
use Rattle.journal_defs.specs.Growth.{IsGrowing, IsGrown, IsEndedByDepth, IsEndedAtLimit, NextAsk}
use Rattle.journal_defs.specs.Growth.IsGrowing.{nothing, more}
use Rattle.journal_defs.proofs.Asking.{next_ask_is_unique, no_ask_at_the_end}
use Rattle.map_laws.proofs.Asks.{ByLast, by_last, push-parts}
use Rattle.map_laws.proofs.Asks.ByLast.{empty, pushed}
use Rattle.map_laws.specs.Laws.{IsTold, ToldJournalIsOne, GrownJournalIsOne}

-- what holds of all entries holds of those before and after
pub all-parts : {X : Type 0} (P : X → Type 0) (xs ys : List X) → AllByRecursion P (xs ++ ys) → AllByRecursion P xs × AllByRecursion P ys
all-parts P [] ys all = (tt, all)
all-parts P (x ∷ xs) ys all = let rest = all-parts P xs ys all.1 in ((all.0, rest.0), rest.1)

pub true-parts : (n : Network) (host : ℕ) (j l : List Entry) → IsTrueJournal n host (j ++ l) → IsTrueJournal n host j × IsTrueJournal n host l
true-parts n host j l all = all-parts (λ e. e.answer ≡ answer n host e.walk) j l all

-- each entry of a growing journal was the next ask after those before it
ask-at : (host depth : ℕ) (l j : List Entry) (e : Entry) (rest : List Entry) → IsGrowing host depth l → l ≡ j ++ e ∷ rest → NextAsk host depth j e.walk
ask-at host depth l j e rest (nothing) is = absurd (none j (sym is))
  where
    none : (i : List Entry) → i ++ e ∷ rest ≡ [] → ⊥
    none [] p = cc
    none (x ∷ i) p = cc
ask-at host depth l j e rest (more before f g ask whole) is = by (by_last rest) (λ r. ask-at host depth before j e r g)
  where
    by : ByLast rest → ((r : List Entry) → before ≡ j ++ e ∷ r → NextAsk host depth j e.walk) → NextAsk host depth j e.walk
    by (empty p) again =
        let parts = push-parts before j f e (sym whole ∙ is ∙ ap (λ r. j ++ e ∷ r) p) in
        subst (λ (x : Entry). NextAsk host depth j x.walk) parts.1 (subst (λ i. NextAsk host depth i f.walk) parts.0 ask)
    by (pushed r x p) again =
        let split : before ++ f ∷ [] ≡ (j ++ e ∷ r) ++ x ∷ [] = sym whole ∙ is ∙ ap (λ q. j ++ e ∷ q) p ∙ sym (append_assoc j (e ∷ r) (x ∷ [])) in
        again r (push-parts before (j ++ e ∷ r) f x split).0

-- of two journals one begins with the other
data Begins (j l : List Entry) : Type 0 where
  goes_further : (rest : List Entry) → l ≡ j ++ rest → Begins j l
  stops_before : (rest : List Entry) → j ≡ l ++ rest → Begins j l

-- what was answered to a journal was answered to its beginnings
told-part : (tell : List Entry → List ℤ → Answer) (j l rest : List Entry) → IsTold tell l → l ≡ j ++ rest → IsTold tell j
told-part tell j l rest t is = record { told = λ before e r p. t.told before e (r ++ rest) (is ∙ ap (λ i. i ++ rest) p ∙ append_assoc before (e ∷ r) rest) }

pub told-push : (tell : List Entry → List ℤ → Answer) (j : List Entry) (e : Entry) → IsTold tell j → e.answer ≡ tell j e.walk → IsTold tell (j ++ e ∷ [])
told-push tell j e t a = record { told = λ before f r p. by before f r p (by_last r) }
  where
    by : (before : List Entry) (f : Entry) (r : List Entry) → j ++ e ∷ [] ≡ before ++ f ∷ r → ByLast r → f.answer ≡ tell before f.walk
    by before f r p (empty q) =
        let parts = push-parts j before e f (p ∙ ap (λ x. before ++ f ∷ x) q) in
        subst (λ (x : Entry). x.answer ≡ tell before x.walk) parts.1 (subst (λ i. e.answer ≡ tell i e.walk) parts.0 a)
    by before f r p (pushed ys y q) =
        let split : j ++ e ∷ [] ≡ (before ++ f ∷ ys) ++ y ∷ [] = p ∙ ap (λ x. before ++ f ∷ x) q ∙ sym (append_assoc before (f ∷ ys) (y ∷ [])) in
        t.told before f ys (push-parts j (before ++ f ∷ ys) e y split).0

-- true answers are given by the fabric, whatever was asked before
pub true-told : (n : Network) (host : ℕ) (j : List Entry) → IsTrueJournal n host j → IsTold (λ i w. answer n host w) j
true-told n host j all = record { told = λ before e rest p. (true-parts n host before (e ∷ rest) (subst (IsTrueJournal n host) p all)).1.0 }

pub told-true : (n : Network) (host : ℕ) (j : List Entry) → IsTold (λ i w. answer n host w) j → IsTrueJournal n host j
told-true n host j t = by [] j refl
  where
    by : (before rest : List Entry) → j ≡ before ++ rest → IsTrueJournal n host rest
    by before [] p = tt
    by before (e ∷ rest) p = (t.told before e rest p, by (before ++ e ∷ []) rest (p ∙ sym (append_assoc before (e ∷ []) rest)))

one-entry : (tell : List Entry → List ℤ → Answer) (j : List Entry) (d e : Entry) → d.walk ≡ e.walk → d.answer ≡ tell j d.walk → e.answer ≡ tell j e.walk → d ≡ e
one-entry tell j d e p q r =
    let a : d.answer ≡ e.answer = q ∙ ap (tell j) p ∙ sym r in
    λ i. record { walk = p i; answer = a i }

begins : (tell : List Entry → List ℤ → Answer) (host depth : ℕ) (j l : List Entry) → IsTold tell j → IsTold tell l → IsGrowing host depth j → IsGrowing host depth l → Begins j l
begins tell host depth j l told_j told_l (nothing) h = goes_further l refl
begins tell host depth j l told_j told_l (more before e g ask is) h = by (begins tell host depth before l (told-part tell before j (e ∷ []) told_j is) told_l g h)
  where
    next : (rest : List Entry) → l ≡ before ++ rest → Begins j l
    next [] p = stops_before (e ∷ []) (is ∙ ap (λ i. i ++ e ∷ []) (sym (p ∙ append-nil before)))
    next (f ∷ rest) p =
        let walk : e.walk ≡ f.walk = next_ask_is_unique host depth before e.walk f.walk ask (ask-at host depth l before f rest h p) in
        let one : e ≡ f = one-entry tell before e f walk (told_j.told before e [] is) (told_l.told before f rest p) in
        goes_further rest (p ∙ ap (λ x. before ++ x ∷ rest) (sym one) ∙ sym (append_assoc before (e ∷ []) rest) ∙ ap (λ i. i ++ rest) (sym is))

    by : Begins before l → Begins j l
    by (goes_further rest p) = next rest p
    by (stops_before rest p) = stops_before (rest ++ e ∷ []) (is ∙ ap (λ i. i ++ e ∷ []) p ∙ append_assoc l rest (e ∷ []))

-- a longer journal has no fewer nodes
pub reached-more : (j l : List Entry) → length (reached j) ≤ length (reached (j ++ l))
reached-more [] l = omega arith
reached-more (e ∷ j) l = by (is_found e.answer) (reached-more j l)
  where
    by : (b : Bool) → length (reached j) ≤ length (reached (j ++ l)) → length (if b then Reached e.walk ∷ reached j else reached j) ≤ length (if b then Reached e.walk ∷ reached (j ++ l) else reached (j ++ l))
    by true r = omega arith
    by false r = r

-- a journal that has grown doesn't grow further
stops : (host depth : ℕ) (j : List Entry) (e : Entry) (rest : List Entry) → IsGrown host depth j → IsGrown host depth (j ++ e ∷ rest) → ⊥
stops host depth j e rest g h = by g.ended h.ended
  where
    ask : NextAsk host depth j e.walk
    ask = ask-at host depth (j ++ e ∷ rest) j e rest h.growing refl

    limit : IsEndedAtLimit j → IsEndedByDepth host depth (j ++ e ∷ rest) ⊎ IsEndedAtLimit (j ++ e ∷ rest) → ⊥
    limit p (inl q) = let a = p.passed in let b = q.kept in let c = reached-more j (e ∷ rest) in omega arith
    limit p (inr q) = last (by_last (e ∷ rest))
      where
        last : ByLast (e ∷ rest) → ⊥
        last (empty none) = cc
        last (pushed r x s) =
            let split : q.before ++ q.last ∷ [] ≡ (j ++ r) ++ x ∷ [] = sym q.whole ∙ ap (λ i. j ++ i) s ∙ sym (append_assoc j r (x ∷ [])) in
            let before : q.before ≡ j ++ r = (push-parts q.before (j ++ r) q.last x split).0 in
            let a = p.passed in
            let b : length (reached q.before) ≡ length (reached (j ++ r)) = ap (λ i. length (reached i)) before in
            let c = q.kept in
            let d = reached-more j r in
            omega arith

    by : IsEndedByDepth host depth j ⊎ IsEndedAtLimit j → IsEndedByDepth host depth (j ++ e ∷ rest) ⊎ IsEndedAtLimit (j ++ e ∷ rest) → ⊥
    by (inl p) q = no_ask_at_the_end host depth j e.walk ask p
    by (inr p) q = limit p q

pub told_journal_is_one : ToldJournalIsOne
told_journal_is_one tell host depth j l told_j told_l g h = by (begins tell host depth j l told_j told_l g.growing h.growing)
  where
    further : (i k : List Entry) (rest : List Entry) → IsGrown host depth i → IsGrown host depth k → k ≡ i ++ rest → i ≡ k
    further i k [] a b e = sym (e ∙ append-nil i)
    further i k (x ∷ rest) a b e = absurd (stops host depth i x rest a (subst (IsGrown host depth) e b))

    by : Begins j l → j ≡ l
    by (goes_further rest e) = further j l rest g h e
    by (stops_before rest e) = sym (further l j rest h g e)

pub grown_journal_is_one : GrownJournalIsOne
grown_journal_is_one n host depth j l all_j all_l g h = told_journal_is_one (λ i w. answer n host w) host depth j l (true-told n host j all_j) (true-told n host l all_l) g h
