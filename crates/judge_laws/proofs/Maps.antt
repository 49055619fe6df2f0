-- The lines of a printed map are read as that map also where other lines follow them, whatever their numbers.
use Rattle.std.proofs.Common.{◌≡◌, ◌+◌, ◌++◌, ℕ, List, [], ◌∷◌, Bool, true, false, not, cond, ◌&&◌, Result, Ok, Err, refl, ap, sym, subst, ◌∙◌, append_assoc, if◌then◌else◌}
use Rattle.std.specs.Prelude.{codes, flat_map}
use Rattle.net_defs.specs.Network.{Network}
use Rattle.map_defs.specs.NetMap.{NetMap}
use Rattle.fab_text.specs.declared.fault.FaultKind.{FaultKind}
use Rattle.fab_text.specs.Line.{TextLine, lines_from, line_count, saying, says_nothing, is_line_end, is_return, begins_with_end, onto_first_line, words_of}
use Rattle.fab_text.specs.Fault.{FirstFault, at_line, and_then}
use Rattle.fabric_map.specs.Growing.{empty_map}
use Rattle.run_defs.specs.LineText.{map_text, map_lines, map_line_text}
use Rattle.map_canon.specs.Declaring.{declared}
use Rattle.map_canon.specs.Reading.{is_end, ended, map_until, part_of, map_from, map_part, map_reading}
use Rattle.judge_laws.specs.Answers.{lines_at}

-- lines with the same bytes
abbrev AreAlike : List TextLine → List TextLine → Type 0
AreAlike [] [] = Unit {0}
AreAlike [] (y ∷ ys) = ⊥
AreAlike (x ∷ xs) [] = ⊥
AreAlike (x ∷ xs) (y ∷ ys) = (x.bytes ≡ y.bytes) × AreAlike xs ys

onto-alike : (j b : ℕ) (x : TextLine) (xs ls : List TextLine) → AreAlike (x ∷ xs) ls → AreAlike (record x { bytes = b ∷ x.bytes } ∷ xs) (onto_first_line j b ls)
onto-alike j b x xs [] same = absurd same
onto-alike j b x xs (l ∷ ls) same = (ap (λ bs. b ∷ bs) same.0, same.1)

-- The lines of bytes up to an LF are there also where others follow.
record IsCut (j k : ℕ) (bytes rest : List ℕ) : Type 0 where
  pub first : TextLine
  pub more : List TextLine
  pub next : ℕ
  pub whole : lines_from k (bytes ++ 10 ∷ rest) ≡ (first ∷ more) ++ lines_from next rest
  pub same : AreAlike (first ∷ more) (lines_from j (bytes ++ 10 ∷ []))

pub begins-same : (bs rest : List ℕ) → begins_with_end (bs ++ 10 ∷ rest) ≡ begins_with_end (bs ++ 10 ∷ [])
begins-same [] rest = refl
begins-same (b ∷ bs) rest = refl

-- the first byte ends a line, or is a CR before an LF, or begins the first line
cut-by : (b : ℕ) (bs : List ℕ) (j k : ℕ) (rest : List ℕ) (e r : Bool) → is_line_end b ≡ e → (is_return b && begins_with_end (bs ++ 10 ∷ rest)) ≡ r → IsCut (j + 1) (k + 1) bs rest → IsCut j k bs rest → IsCut j k (b ∷ bs) rest
cut-by b bs j k rest true r p q c same =
    let long = bs ++ 10 ∷ rest in
    let short = bs ++ 10 ∷ [] in
    let x : TextLine = record { number = k; bytes = []; after = long } in
    let y : TextLine = record { number = j; bytes = []; after = short } in
    record {
      first = x;
      more = c.first ∷ c.more;
      next = c.next;
      whole = (λ i. if p i then x ∷ lines_from (k + 1) long else if is_return b && begins_with_end long then lines_from k long else onto_first_line k b (lines_from k long)) ∙ ap (λ ls. x ∷ ls) c.whole;
      same = subst (AreAlike (x ∷ c.first ∷ c.more))
          (λ i. if sym p i then y ∷ lines_from (j + 1) short else if is_return b && begins_with_end short then lines_from j short else onto_first_line j b (lines_from j short))
          (refl, c.same);
    }
cut-by b bs j k rest false true p q d c =
    let long = bs ++ 10 ∷ rest in
    let short = bs ++ 10 ∷ [] in
    let x : TextLine = record { number = k; bytes = []; after = long } in
    let y : TextLine = record { number = j; bytes = []; after = short } in
    let other : (is_return b && begins_with_end short) ≡ true = ap (λ t. is_return b && t) (sym (begins-same bs rest)) ∙ q in
    record {
      first = c.first;
      more = c.more;
      next = c.next;
      whole = (λ i. if p i then x ∷ lines_from (k + 1) long else if q i then lines_from k long else onto_first_line k b (lines_from k long)) ∙ c.whole;
      same = subst (AreAlike (c.first ∷ c.more))
          (λ i. if sym p i then y ∷ lines_from (j + 1) short else if sym other i then lines_from j short else onto_first_line j b (lines_from j short))
          c.same;
    }
cut-by b bs j k rest false false p q d c =
    let long = bs ++ 10 ∷ rest in
    let short = bs ++ 10 ∷ [] in
    let x : TextLine = record { number = k; bytes = []; after = long } in
    let y : TextLine = record { number = j; bytes = []; after = short } in
    let other : (is_return b && begins_with_end short) ≡ false = ap (λ t. is_return b && t) (sym (begins-same bs rest)) ∙ q in
    record {
      first = record c.first { bytes = b ∷ c.first.bytes };
      more = c.more;
      next = c.next;
      whole = (λ i. if p i then x ∷ lines_from (k + 1) long else if q i then lines_from k long else onto_first_line k b (lines_from k long)) ∙ ap (onto_first_line k b) c.whole;
      same = subst (AreAlike (record c.first { bytes = b ∷ c.first.bytes } ∷ c.more))
          (λ i. if sym p i then y ∷ lines_from (j + 1) short else if sym other i then lines_from j short else onto_first_line j b (lines_from j short))
          (onto-alike j b c.first c.more (lines_from j short) c.same);
    }

cut : (bytes : List ℕ) (j k : ℕ) (rest : List ℕ) → IsCut j k bytes rest
cut [] j k rest = record { first = record { number = k; bytes = []; after = rest }; more = []; next = k + 1; whole = refl; same = (refl, tt) }
cut (b ∷ bs) j k rest = cut-by b bs j k rest (is_line_end b) (is_return b && begins_with_end (bs ++ 10 ∷ rest)) refl refl (cut bs (j + 1) (k + 1) rest) (cut bs j k rest)

-- blank lines and comments fall out of both alike
saying-alike : (xs ys : List TextLine) → AreAlike xs ys → AreAlike (saying xs) (saying ys)
saying-alike [] [] same = tt
saying-alike [] (y ∷ ys) same = absurd same
saying-alike (x ∷ xs) [] same = absurd same
saying-alike (x ∷ xs) (y ∷ ys) same = by (says_nothing (words_of x.bytes)) refl (saying-alike xs ys same.1)
  where
    both-as : (t : Bool) → AreAlike (saying xs) (saying ys) → AreAlike (cond (not t) (x ∷ saying xs) (saying xs)) (cond (not t) (y ∷ saying ys) (saying ys))
    both-as true rest = rest
    both-as false rest = (same.0, rest)

    by : (t : Bool) → says_nothing (words_of x.bytes) ≡ t → AreAlike (saying xs) (saying ys) → AreAlike (saying (x ∷ xs)) (saying (y ∷ ys))
    by t p rest =
        let q : says_nothing (words_of y.bytes) ≡ t = ap (λ bs. says_nothing (words_of bs)) (sym same.0) ∙ p in
        subst (λ s. AreAlike (cond (not s) (x ∷ saying xs) (saying xs)) (saying (y ∷ ys))) (sym p) (subst (λ s. AreAlike (cond (not t) (x ∷ saying xs) (saying xs)) (cond (not s) (y ∷ saying ys) (saying ys))) (sym q) (both-as t rest))

pub saying-more : (xs ys : List TextLine) → saying (xs ++ ys) ≡ saying xs ++ saying ys
saying-more [] ys = refl
saying-more (x ∷ xs) ys = by (not (says_nothing (words_of x.bytes))) (saying-more xs ys)
  where
    by : (t : Bool) → saying (xs ++ ys) ≡ saying xs ++ saying ys → cond t (x ∷ saying (xs ++ ys)) (saying (xs ++ ys)) ≡ cond t (x ∷ saying xs) (saying xs) ++ saying ys
    by true e = ap (λ l. x ∷ l) e
    by false e = e

-- what lines say of a map by the words of the first
abbrev from_words : {X : Type 0} → (NetMap → List TextLine → Result X FirstFault) → ℕ → Network → NetMap → ℕ → List TextLine → Bool → Result NetMap FaultKind → Result X FirstFault
from_words end past f m number ls b d = if b then end m ls else and_then (at_line number d) (λ k. map_until end past f k ls)

at-end : (m k : NetMap) (xs ys back : List TextLine) → AreAlike xs ys → ended m ys ≡ Ok k → part_of m (xs ++ back) ≡ Ok (record { made = k; after = back })
at-end m k [] [] back same e = let one : m ≡ k = cc in λ i. Ok (record { made = one i; after = back })
at-end m k [] (y ∷ ys) back same e = absurd same
at-end m k (x ∷ xs) [] back same e = absurd same
at-end m k (x ∷ xs) (y ∷ ys) back same e = cc

-- the first line ends the map, declares something, or has a fault
first-before : (past other : ℕ) (f : Network) (m k : NetMap) (number place : ℕ) (xs ys back : List TextLine) (b : Bool) (d : Result NetMap FaultKind) → AreAlike xs ys
    → ((l : NetMap) → map_from past f l ys ≡ Ok k → map_until part_of other f l (xs ++ back) ≡ Ok (record { made = k; after = back }))
    → from_words ended past f m place ys b d ≡ Ok k → from_words part_of other f m number (xs ++ back) b d ≡ Ok (record { made = k; after = back })
first-before past other f m k number place xs ys back true d same later e = at-end m k xs ys back same e
first-before past other f m k number place xs ys back false (Ok l) same later e = later l e
first-before past other f m k number place xs ys back false (Err kind) same later e = cc

-- a map that is read of lines alone is read of such lines before others
map-before : (past other : ℕ) (f : Network) (m k : NetMap) (xs ys back : List TextLine) → AreAlike xs ys → map_from past f m ys ≡ Ok k → map_until part_of other f m (xs ++ back) ≡ Ok (record { made = k; after = back })
map-before past other f m k [] [] back same e = cc
map-before past other f m k [] (y ∷ ys) back same e = absurd same
map-before past other f m k (x ∷ xs) [] back same e = absurd same
map-before past other f m k (x ∷ xs) (y ∷ ys) back same e =
    (λ i. from_words part_of other f m x.number (xs ++ back) (is_end (words_of (same.0 i))) (declared f m (words_of (same.0 i))))
    ∙ first-before past other f m k x.number y.number xs ys back (is_end (words_of y.bytes)) (declared f m (words_of y.bytes)) same.1 (λ l. map-before past other f l k xs ys back same.1) e

-- The first lines of a text, which ends with LF, are a map; those of the rest are left.
pub record IsMapFirst (n : Network) (m : NetMap) (past number : ℕ) (text rest : List ℕ) : Type 0 where
  pub next : ℕ
  pub read : map_part past n (lines_at number text) ≡ Ok (record { made = m; after = lines_at next rest })

ended-first : (n : Network) (m : NetMap) (past number : ℕ) (bytes rest : List ℕ) → map_reading n (bytes ++ 10 ∷ []) ≡ Ok m → IsMapFirst n m past number (bytes ++ 10 ∷ rest) rest
ended-first n m past number bytes rest e =
    let c = cut bytes 1 number rest in
    let front = saying (c.first ∷ c.more) in
    let alike = saying-alike (c.first ∷ c.more) (lines_from 1 (bytes ++ 10 ∷ [])) c.same in
    let parts : lines_at number (bytes ++ 10 ∷ rest) ≡ front ++ lines_at c.next rest = ap saying c.whole ∙ saying-more (c.first ∷ c.more) (lines_from c.next rest) in
    record {
      next = c.next;
      read = ap (map_part past n) parts ∙ map-before (line_count (bytes ++ 10 ∷ []) + 1) past n empty_map m front (saying (lines_from 1 (bytes ++ 10 ∷ []))) (lines_at c.next rest) alike e;
    }

-- the lines of a printed map are read so
pub map-first : (n : Network) (m : NetMap) (past number : ℕ) (rest : List ℕ) → map_reading n (map_text n m) ≡ Ok m → IsMapFirst n m past number (map_text n m ++ rest) rest
map-first n m past number rest e =
    let front = flat_map (map_line_text n) (map_lines m) in
    let bytes = front ++ codes "endmap" in
    let ends : map_text n m ≡ bytes ++ 10 ∷ [] = sym (append_assoc front (codes "endmap") (10 ∷ [])) in
    let more : map_text n m ++ rest ≡ bytes ++ 10 ∷ rest = ap (λ t. t ++ rest) ends ∙ append_assoc bytes (10 ∷ []) rest in
    subst (λ t. IsMapFirst n m past number t rest) (sym more) (ended-first n m past number bytes rest (ap (map_reading n) (sym ends) ∙ e))
