-- What a journal found, and where it stands.
use Rattle.std.proofs.Common.{◌≡◌, ◌≢◌, ℕ, zero, suc, List, [], ◌∷◌, ◌++◌, length, Bool, true, false, Some, sym, ◌∙◌, subst, ap, refl, true≢false, if◌then◌else◌, is_some}
use Rattle.std.specs.Prelude.{ℤ, slice_get}
use Rattle.std.specs.List.{AllByRecursion}
use Rattle.net_defs.specs.declared.place.Answer.{Answer}
use Rattle.net_defs.specs.Turn.{same_turns}
use Rattle.net_defs.proofs.Turns.{same_turns-true, same_turns-refl, same_turns-false}
use Rattle.journal_defs.specs.declared.entry.Entry.{Entry}
use Rattle.journal_defs.specs.Tree.{IsJournal, answered, is_asked, is_found, nodes, reached}
use Rattle.journal_defs.specs.Tree.Node.{Reached}
use Rattle.map_laws.proofs.Asks.{walks}
use Rattle.circ_defs.specs.Asking.{found_of}

-- an element of a list that got one more
pub get-old : {X : Type 0} (xs : List X) (y x : X) (k : ℕ) → slice_get xs k ≡ Some x → slice_get (xs ++ y ∷ []) k ≡ Some x
get-old [] y x k e = cc
get-old (z ∷ xs) y x zero e = e
get-old (z ∷ xs) y x (suc k) e = get-old xs y x k e

pub data IsOldOrLast {X : Type 0} (xs : List X) (y x : X) (k : ℕ) : Type 0 where
  old : slice_get xs k ≡ Some x → IsOldOrLast xs y x k
  last : k ≡ length xs → y ≡ x → IsOldOrLast xs y x k

pub get-push : {X : Type 0} (xs : List X) (y x : X) (k : ℕ) → slice_get (xs ++ y ∷ []) k ≡ Some x → IsOldOrLast xs y x k
get-push [] y x zero e = last refl (let one : y ≡ x = cc in one)
get-push [] y x (suc k) e = cc
get-push (z ∷ xs) y x zero e = old e
get-push (z ∷ xs) y x (suc k) e = by (get-push xs y x k e)
  where
    by : IsOldOrLast xs y x k → IsOldOrLast (z ∷ xs) y x (suc k)
    by (old p) = old p
    by (last p q) = last (ap suc p) q

-- where a walk that found something stands
pub record FoundAt (j : List Entry) (w : List ℤ) (a : Answer) : Type 0 where
  pub place : ℕ
  pub entry : Entry
  pub there : slice_get (found_of j) place ≡ Some entry
  pub walk : entry.walk ≡ w
  pub answer : entry.answer ≡ a

pub found-at : (j : List Entry) (w : List ℤ) (a : Answer) → answered j w ≡ Some a → is_found a ≡ true → FoundAt j w a
found-at [] w a e f = cc
found-at (x ∷ j) w a e f = by (same_turns x.walk w) refl (is_found x.answer) refl e (λ g. found-at j w a g f)
  where
    later : FoundAt j w a → (b : Bool) → is_found x.answer ≡ b → FoundAt (x ∷ j) w a
    later r true q = record { place = suc r.place; entry = r.entry; there = rw q r.there; walk = r.walk; answer = r.answer }
    later r false q = record { place = r.place; entry = r.entry; there = rw q r.there; walk = r.walk; answer = r.answer }

    by : (s : Bool) → same_turns x.walk w ≡ s → (b : Bool) → is_found x.answer ≡ b → (if s then Some x.answer else answered j w) ≡ Some a → (answered j w ≡ Some a → FoundAt j w a) → FoundAt (x ∷ j) w a
    by true p true q g rest = record { place = 0; entry = x; there = rw q refl; walk = same_turns-true x.walk w p; answer = (let one : x.answer ≡ a = cc in one) }
    by true p false q g rest = let one : x.answer ≡ a = cc in absurd (true≢false (sym f ∙ ap is_found (sym one) ∙ q))
    by false p b q g rest = later (rest g) b q

-- a walk that isn't among a journal's isn't asked
apart-unasked : (j : List Entry) (x : List ℤ) → AllByRecursion (λ y. x ≢ y) (walks j) → is_asked j x ≡ false
apart-unasked [] x apart = refl
apart-unasked (y ∷ j) x apart = rw (same_turns-false y.walk x (λ p. apart.0 (sym p))) (apart-unasked j x apart.1)

-- what stands among what was found was answered so
pub answered-found : (j : List Entry) (k : ℕ) (e : Entry) → IsJournal j → slice_get (found_of j) k ≡ Some e → answered j e.walk ≡ Some e.answer
answered-found [] k e once p = cc
answered-found (x ∷ j) k e once p = by (is_found x.answer) refl k p (λ i. answered-found j i e once.1)
  where
    later : answered j e.walk ≡ Some e.answer → answered (x ∷ j) e.walk ≡ Some e.answer
    later r = rw (same_turns-false x.walk e.walk (λ s. true≢false (sym (ap is_some r) ∙ subst (λ v. is_asked j v ≡ false) s (apart-unasked j x.walk once.0)))) r

    by : (b : Bool) → is_found x.answer ≡ b → (k : ℕ) → slice_get (if b then x ∷ found_of j else found_of j) k ≡ Some e → ((i : ℕ) → slice_get (found_of j) i ≡ Some e → answered j e.walk ≡ Some e.answer) → answered (x ∷ j) e.walk ≡ Some e.answer
    by true q zero g rest = let one : x ≡ e = cc in subst (λ y. answered (x ∷ j) y.walk ≡ Some y.answer) one (rw (same_turns-refl x.walk) refl)
    by true q (suc i) g rest = later (rest i g)
    by false q k g rest = later (rest k g)

-- what is found with one more entry
pub found_of-push : (j : List Entry) (e : Entry) → found_of (j ++ e ∷ []) ≡ (if is_found e.answer then found_of j ++ e ∷ [] else found_of j)
found_of-push [] e = refl
found_of-push (x ∷ j) e = by (is_found x.answer) (is_found e.answer) (found_of-push j e)
  where
    by : (b c : Bool) → found_of (j ++ e ∷ []) ≡ (if c then found_of j ++ e ∷ [] else found_of j) → (if b then x ∷ found_of (j ++ e ∷ []) else found_of (j ++ e ∷ [])) ≡ (if c then (if b then x ∷ found_of j else found_of j) ++ e ∷ [] else (if b then x ∷ found_of j else found_of j))
    by true true r = ap (λ l. x ∷ l) r
    by true false r = ap (λ l. x ∷ l) r
    by false true r = r
    by false false r = r

reached-length : (j : List Entry) → length (reached j) ≡ length (found_of j)
reached-length [] = refl
reached-length (x ∷ j) = by (is_found x.answer) (reached-length j)
  where
    by : (b : Bool) → length (reached j) ≡ length (found_of j) → length (if b then Reached x.walk ∷ reached j else reached j) ≡ length (if b then x ∷ found_of j else found_of j)
    by true r = ap suc r
    by false r = r

-- the nodes are the mapper's host and what was found
pub nodes-length : (j : List Entry) → length (nodes j) ≡ suc (length (found_of j))
nodes-length j = ap suc (reached-length j)
