-- What is never refused: a walk with a turn more, and an entry of a journal whose walks are apart.
use Rattle.std.proofs.Common.{◌≡◌, ◌≢◌, ◌<◌, ◌+◌, ℕ, zero, suc, List, [], ◌∷◌, ◌++◌, Bool, true, false, length, take, map, if◌then◌else◌, nat_lt, Some, None, refl, ap, sym, ◌∙◌, arith}
use Rattle.std.specs.Prelude.{ℤ, All, slice_get}
use Rattle.std.specs.List.{AllByRecursion, list_all}
use Rattle.std.proofs.lemmas.Bool.Decides.{nat_tests}
use Rattle.std.proofs.lemmas.List.{length-append}
use Rattle.std.proofs.lemmas.List.Folds.{list_all-append}
use Rattle.std.proofs.lemmas.List.Sums.{list_all-from_AllPass}
use Rattle.net_defs.specs.Turn.{is_turn, IsTurn, walk_refusal}
use Rattle.net_defs.specs.declared.walk.WalkFault.TheVariants.{TooLong, TurnRange}
use Rattle.net_defs.proofs.Turns.{same_turns-false}
use Rattle.journal_defs.specs.declared.entry.Entry.{Entry}
use Rattle.journal_defs.specs.Tree.{IsJournal, is_asked, is_found}
use Rattle.probe.specs.Keeping.{JournalState, with_entry}
use Rattle.circ_defs.specs.Asking.{found_of}

-- turns of which there are few, with one more
pub onward-fits : (w x : List ℤ) (t : ℤ) → length w < 64 → All IsTurn w → IsTurn t → x ≡ w ++ t ∷ [] → walk_refusal x ≡ None
onward-fits w x t few all turn e =
    let more : length x ≡ length w + 1 = ap length e ∙ length-append w (t ∷ []) in
    let short : nat_lt 64 (length x) ≡ false = grind (arith, nat_tests) in
    let front : list_all is_turn w ≡ true = list_all-from_AllPass is_turn w all in
    let ok : list_all is_turn x ≡ true = ap (list_all is_turn) e ∙ list_all-append is_turn w (t ∷ []) ∙ rw (front, turn) refl in
    λ i. if short i then Some TooLong else if ok i then None else Some TurnRange

-- an entry's walk isn't among those before it
pub unasked-next : (j : List Entry) (i : ℕ) (e : Entry) → IsJournal j → slice_get j i ≡ Some e → is_asked (take i j) e.walk ≡ false
unasked-next [] i e once p = cc
unasked-next (x ∷ j) zero e once p = refl
unasked-next (x ∷ j) (suc i) e once p = rw (same_turns-false x.walk e.walk (differs j i once.0 p)) (unasked-next j i e once.1 p)
  where
    differs : (l : List Entry) (k : ℕ) → AllByRecursion (λ y. x.walk ≢ y) (map (λ (z : Entry). z.walk) l) → slice_get l k ≡ Some e → x.walk ≢ e.walk
    differs [] k all q = cc
    differs (y ∷ l) zero all q = let one : y ≡ e = cc in λ same. all.0 (same ∙ ap (λ (z : Entry). z.walk) (sym one))
    differs (y ∷ l) (suc k) all q = differs l k all.1 q

-- what a journal found is a journal
pub found-once : (j : List Entry) → IsJournal j → IsJournal (found_of j)
found-once [] once = tt
found-once (x ∷ j) once = by (is_found x.answer) (found-once j once.1)
  where
    apart : (l : List Entry) → AllByRecursion (λ y. x.walk ≢ y) (map (λ (z : Entry). z.walk) l) → AllByRecursion (λ y. x.walk ≢ y) (map (λ (z : Entry). z.walk) (found_of l))
    apart [] all = tt
    apart (y ∷ l) all = which (is_found y.answer) (apart l all.1)
      where
        which : (b : Bool) → AllByRecursion (λ z. x.walk ≢ z) (map (λ (z : Entry). z.walk) (found_of l)) → AllByRecursion (λ z. x.walk ≢ z) (map (λ (z : Entry). z.walk) (if b then y ∷ found_of l else found_of l))
        which true r = (all.0, r)
        which false r = r

    by : (b : Bool) → IsJournal (found_of j) → IsJournal (if b then x ∷ found_of j else found_of j)
    by true r = (apart j once.0, r)
    by false r = r

take-next : (j : List Entry) (i : ℕ) (e : Entry) → slice_get j i ≡ Some e → take (suc i) j ≡ take i j ++ e ∷ []
take-next [] i e p = cc
take-next (x ∷ j) zero e p = let one : x ≡ e = cc in ap (λ y. y ∷ []) one
take-next (x ∷ j) (suc i) e p = ap (λ l. x ∷ l) (take-next j i e p)

-- a journal of the first entries, with one more
pub journal-next : (host : ℕ) (found : List Entry) (i : ℕ) (e : Entry) (now next : JournalState) → slice_get found i ≡ Some e → now ≡ record { host = host; entries = take i found } → next ≡ with_entry now e → next ≡ record { host = host; entries = take (i + 1) found }
journal-next host found i e now next p f g =
    let one : suc i ≡ i + 1 = omega arith in
    let more : take i found ++ e ∷ [] ≡ take (i + 1) found = sym (take-next found i e p) ∙ ap (λ k. take k found) one in
    let put : next ≡ with_entry (record { host = host; entries = take i found }) e = g ∙ ap (λ j. with_entry j e) f in
    put ∙ ap (λ l. record { host = host; entries = l }) more

pub journal-new : (host : ℕ) (found : List Entry) (i : ℕ) (e : Entry) (now : JournalState) → IsJournal found → slice_get found i ≡ Some e → now ≡ record { host = host; entries = take i found } → is_asked now.entries e.walk ≡ false
journal-new host found i e now once p f = ap (λ (j : JournalState). is_asked j.entries e.walk) f ∙ unasked-next found i e once p
