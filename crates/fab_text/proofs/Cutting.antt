-- A text after its first line, and a line after its first word.
use Rattle.std.proofs.Common.{◌≡◌, ◌<◌, ◌≤◌, ℕ, suc, ◌+◌, ◌-◌, List, [], ◌∷◌, Bool, true, false, not, cond, ◌&&◌, length, take, drop, nat_eq, nat_lt, slice_index, Some, None, unwrap_or, true≢false, refl, ap, sym, ◌∙◌, arith, if◌then◌else◌}
use Rattle.std.specs.Prelude.{position}
use Rattle.std.specs.List.{position_or_len, onto_first}
use Rattle.std.proofs.lemmas.Bool.Decides.{nat_tests}
use Rattle.std.proofs.lemmas.List.Sums.{prefix_len-le-length}
use Rattle.fab_text.specs.Line.{TextLine, lines_from, is_line_end, is_return, is_blank, begins_with_end, onto_first_line, words_of, ends_word, says_nothing, saying, lines_left}
use Rattle.fab_text.specs.Split.{without_return, line_front, line_back}

pub take-step : (n : ℕ) (b : ℕ) (bs : List ℕ) → take (1 + n) (b ∷ bs) ≡ b ∷ take n bs
take-step n b bs = let e : 1 + n ≡ suc n = omega arith in rw e refl

pub drop-step : (n : ℕ) (b : ℕ) (bs : List ℕ) → drop (1 + n) (b ∷ bs) ≡ drop n bs
drop-step n b bs = let e : 1 + n ≡ suc n = omega arith in rw e refl

-- the first place that passes, or the length
place-or : (n l : ℕ) → n ≤ l → unwrap_or (cond (nat_lt n l) (Some n) None) l ≡ n
place-or n l h = by (nat_lt n l) refl
  where
    by : (b : Bool) → nat_lt n l ≡ b → unwrap_or (cond b (Some n) None) l ≡ n
    by true e = refl
    by false e = grind (arith, nat_tests)

pub unwrap_or-position : {X : Type 0} (p : X → Bool) (xs : List X) → unwrap_or (position p xs) (length xs) ≡ position_or_len p xs
unwrap_or-position p xs = place-or (position_or_len p xs) (length xs) (prefix_len-le-length (λ x. not (p x)) xs)

pub below-step : (n : ℕ) (b : ℕ) (bs : List ℕ) → nat_lt (1 + n) (length (b ∷ bs)) ≡ nat_lt n (length bs)
below-step n b bs = grind (arith, nat_tests)

pub some-below : (b : ℕ) (bs : List ℕ) → nat_lt 0 (length (b ∷ bs)) ≡ true
some-below b bs = grind (arith, nat_tests)

-- a line
abbrev line : ℕ → List ℕ → List ℕ → TextLine
line number bytes after = record { number = number; bytes = bytes; after = after }

-- the bytes of the first line
abbrev first_bytes : List ℕ → List ℕ
first_bytes [] = []
first_bytes (b ∷ bs) = if is_line_end b then [] else if is_return b && begins_with_end bs then first_bytes bs else b ∷ first_bytes bs

-- what follows its end
abbrev rest_of : List ℕ → List ℕ
rest_of [] = []
rest_of (b ∷ bs) = if is_line_end b then bs else rest_of bs

lines-rest : (k b : ℕ) (bs : List ℕ) → lines_from k (b ∷ bs) ≡ line k (first_bytes (b ∷ bs)) (rest_of (b ∷ bs)) ∷ lines_from (k + 1) (rest_of (b ∷ bs))
lines-rest k b [] = by (is_line_end b) (is_return b)
  where
    by : (t u : Bool) → (if t then line k [] [] ∷ [] else if u && false then [] else line k (b ∷ []) [] ∷ [])
        ≡ line k (if t then [] else if u && false then [] else b ∷ []) (if t then [] else []) ∷ lines_from (k + 1) (if t then [] else [])
    by true u = refl
    by false true = refl
    by false false = refl
lines-rest k b (c ∷ cs) = by (is_line_end b) (is_return b) (is_line_end c) (lines-rest k c cs)
  where
    by : (t u v : Bool) → lines_from k (c ∷ cs) ≡ line k (first_bytes (c ∷ cs)) (rest_of (c ∷ cs)) ∷ lines_from (k + 1) (rest_of (c ∷ cs))
        → (if t then line k [] (c ∷ cs) ∷ lines_from (k + 1) (c ∷ cs) else if u && v then lines_from k (c ∷ cs) else onto_first_line k b (lines_from k (c ∷ cs)))
        ≡ line k (if t then [] else if u && v then first_bytes (c ∷ cs) else b ∷ first_bytes (c ∷ cs)) (if t then c ∷ cs else rest_of (c ∷ cs)) ∷ lines_from (k + 1) (if t then c ∷ cs else rest_of (c ∷ cs))
    by true u v rest = refl
    by false true true rest = rest
    by false true false rest = ap (onto_first_line k b) rest
    by false false v rest = ap (onto_first_line k b) rest

-- how many bytes stand before the first LF
abbrev before : List ℕ → ℕ
before text = position_or_len is_line_end text

rest-back : (text : List ℕ) → rest_of text ≡ line_back text
rest-back [] = refl
rest-back (b ∷ bs) = by (is_line_end b) (rest-back bs)
  where
    by : (t : Bool) → rest_of bs ≡ drop 1 (drop (before bs) bs) → (if t then bs else rest_of bs) ≡ drop 1 (drop (cond (not t) (1 + before bs) 0) (b ∷ bs))
    by true rest = refl
    by false rest = rest ∙ ap (drop 1) (sym (drop-step (before bs) b bs))

-- a line without a CR at its end, by recursion
abbrev strip : List ℕ → List ℕ
strip [] = []
strip (b ∷ []) = if is_return b then [] else b ∷ []
strip (b ∷ c ∷ bs) = b ∷ strip (c ∷ bs)

without-cons : (b c : ℕ) (bs : List ℕ) → without_return (b ∷ c ∷ bs) ≡ b ∷ without_return (c ∷ bs)
without-cons b c bs =
    let e : length (c ∷ bs) - 1 ≡ length bs = omega arith in
    let f : length (b ∷ c ∷ bs) - 1 ≡ suc (length bs) = omega arith in
    (λ i. if some-below b (c ∷ bs) i && is_return (slice_index (b ∷ c ∷ bs) (f i)) then take (f i) (b ∷ c ∷ bs) else b ∷ c ∷ bs)
    ∙ by (is_return (slice_index (c ∷ bs) (length bs)))
    ∙ sym (ap (λ l. b ∷ l) (λ i. if some-below c bs i && is_return (slice_index (c ∷ bs) (e i)) then take (e i) (c ∷ bs) else c ∷ bs))
  where
    by : (t : Bool) → (if true && t then b ∷ take (length bs) (c ∷ bs) else b ∷ c ∷ bs) ≡ b ∷ (if true && t then take (length bs) (c ∷ bs) else c ∷ bs)
    by true = refl
    by false = refl

strip-without : (l : List ℕ) → strip l ≡ without_return l
strip-without [] = refl
strip-without (b ∷ []) = refl
strip-without (b ∷ c ∷ bs) = ap (λ l. b ∷ l) (strip-without (c ∷ bs)) ∙ sym (without-cons b c bs)

-- the first line, cut at a place
abbrev cut_at : ℕ → List ℕ → List ℕ
cut_at n text = if nat_lt n (length text) then strip (take n text) else text

first-cut : (text : List ℕ) → first_bytes text ≡ cut_at (before text) text
first-cut [] = refl
first-cut (b ∷ []) = by (is_line_end b) (is_return b)
  where
    by : (t u : Bool) → (if t then [] else if u && false then [] else b ∷ []) ≡ cut_at (cond (not t) (1 + 0) 0) (b ∷ [])
    by true u = refl
    by false true = refl
    by false false = refl
first-cut (b ∷ c ∷ cs) = by (is_line_end b) (is_return b) (is_line_end c) refl (if is_return c && begins_with_end cs then first_bytes cs else c ∷ first_bytes cs) (first-cut (c ∷ cs))
  where
    one-below : nat_lt 1 (length (b ∷ c ∷ cs)) ≡ true
    one-below = grind (arith, nat_tests)

    more : (n : ℕ) → (first : List ℕ) → first ≡ cut_at (1 + n) (c ∷ cs) → b ∷ first ≡ cut_at (1 + (1 + n)) (b ∷ c ∷ cs)
    more n first e = ap (λ l. b ∷ l) e ∙ choose (nat_lt (1 + n) (length (c ∷ cs)))
        ∙ sym (λ i. if below-step (1 + n) b (c ∷ cs) i then strip (take-step (1 + n) b (c ∷ cs) i) else b ∷ c ∷ cs)
      where
        choose : (t : Bool) → b ∷ (if t then strip (take (1 + n) (c ∷ cs)) else c ∷ cs) ≡ (if t then strip (b ∷ take (1 + n) (c ∷ cs)) else b ∷ c ∷ cs)
        choose true = ap (λ l. b ∷ strip l) (take-step n c cs) ∙ sym (ap (λ l. strip (b ∷ l)) (take-step n c cs))
        choose false = refl

    by : (t u v : Bool) → is_return b ≡ u → (other : List ℕ) → (if v then [] else other) ≡ cut_at (cond (not v) (1 + before cs) 0) (c ∷ cs)
        → (if t then [] else if u && v then (if v then [] else other) else b ∷ (if v then [] else other)) ≡ cut_at (cond (not t) (1 + cond (not v) (1 + before cs) 0) 0) (b ∷ c ∷ cs)
    by true u v e other rest = sym (λ i. if some-below b (c ∷ cs) i then [] else b ∷ c ∷ cs)
    by false true true e other rest = sym (λ i. if one-below i then (if e i then [] else b ∷ []) else b ∷ c ∷ cs)
    by false false true e other rest = sym (λ i. if one-below i then (if e i then [] else b ∷ []) else b ∷ c ∷ cs)
    by false true false e other rest = more (before cs) other rest
    by false false false e other rest = more (before cs) other rest

first-front : (text : List ℕ) → first_bytes text ≡ line_front text
first-front text = first-cut text ∙ ap (λ l. if nat_lt (before text) (length text) then l else text) (strip-without (take (before text) text))

-- a text that isn't empty has a first line
pub lines_from-cut : (k : ℕ) (text : List ℕ) → 0 < length text → lines_from k text ≡ line k (line_front text) (line_back text) ∷ lines_from (k + 1) (line_back text)
lines_from-cut k [] h = absurd (omega arith)
lines_from-cut k (b ∷ bs) h = lines-rest k b bs ∙ (λ i. line k (first-front (b ∷ bs) i) (rest-back (b ∷ bs) i) ∷ lines_from (k + 1) (rest-back (b ∷ bs) i))

-- a word at the begin of a line
words_of-first : (b : ℕ) (bs : List ℕ) → is_blank b ≡ false → words_of (b ∷ bs) ≡ take (1 + position_or_len is_blank bs) (b ∷ bs) ∷ words_of (drop (1 + position_or_len is_blank bs) (b ∷ bs))
words_of-first b [] e = by (is_blank b) e
  where
    by : (t : Bool) → t ≡ false → (if t then [] else (b ∷ []) ∷ []) ≡ (b ∷ []) ∷ []
    by true e = cc
    by false e = refl
words_of-first b (c ∷ cs) e = by (is_blank b) (is_blank c) e (words_of-first c cs)
  where
    by : (t u : Bool) → t ≡ false → (u ≡ false → words_of (c ∷ cs) ≡ take (1 + position_or_len is_blank cs) (c ∷ cs) ∷ words_of (drop (1 + position_or_len is_blank cs) (c ∷ cs)))
        → (if t then words_of (c ∷ cs) else if u then (b ∷ []) ∷ words_of (c ∷ cs) else onto_first b (words_of (c ∷ cs)))
        ≡ take (1 + cond (not u) (1 + position_or_len is_blank cs) 0) (b ∷ c ∷ cs) ∷ words_of (drop (1 + cond (not u) (1 + position_or_len is_blank cs) 0) (b ∷ c ∷ cs))
    by true u e rest = cc
    by false true e rest = refl
    by false false e rest =
        ap (onto_first b) (rest refl)
        ∙ sym (λ i. take-step (1 + position_or_len is_blank cs) b (c ∷ cs) i ∷ words_of (drop-step (1 + position_or_len is_blank cs) b (c ∷ cs) i))

-- where the first byte of a word is, if there is one
abbrev start : List ℕ → ℕ
start text = position_or_len (λ b. not (is_blank b)) text

-- the first word of a line, found at a place
abbrev word_at : ℕ → List ℕ → List (List ℕ)
word_at n text = take (position_or_len is_blank (drop n text)) (drop n text) ∷ words_of (drop (position_or_len is_blank (drop n text)) (drop n text))

words_of-at : (text : List ℕ) → (nat_lt (start text) (length text) ≡ false → words_of text ≡ []) × (nat_lt (start text) (length text) ≡ true → words_of text ≡ word_at (start text) text)
words_of-at [] = ((λ e. refl), (λ e. absurd (true≢false (sym e))))
words_of-at (b ∷ bs) = by (is_blank b) refl (words_of-at bs)
  where
    by : (t : Bool) → is_blank b ≡ t → (nat_lt (start bs) (length bs) ≡ false → words_of bs ≡ []) × (nat_lt (start bs) (length bs) ≡ true → words_of bs ≡ word_at (start bs) bs)
        → (nat_lt (cond (not (not t)) (1 + start bs) 0) (length (b ∷ bs)) ≡ false → words_of (b ∷ bs) ≡ [])
        × (nat_lt (cond (not (not t)) (1 + start bs) 0) (length (b ∷ bs)) ≡ true → words_of (b ∷ bs) ≡ word_at (cond (not (not t)) (1 + start bs) 0) (b ∷ bs))
    by true e rest =
        let skipped : words_of (b ∷ bs) ≡ words_of bs = λ i. if e i then words_of bs else if ends_word bs then (b ∷ []) ∷ words_of bs else onto_first b (words_of bs) in (
          (λ p. skipped ∙ rest.0 (sym (below-step (start bs) b bs) ∙ p)),
          (λ p. skipped ∙ rest.1 (sym (below-step (start bs) b bs) ∙ p)
              ∙ ap (λ l. take (position_or_len is_blank l) l ∷ words_of (drop (position_or_len is_blank l) l)) (sym (drop-step (start bs) b bs))),
        )
    by false e rest = (
      (λ p. absurd (true≢false (sym (some-below b bs) ∙ p))),
      (λ p. words_of-first b bs e
          ∙ sym (λ i. take (cond (not (e i)) (1 + position_or_len is_blank bs) 0) (b ∷ bs) ∷ words_of (drop (cond (not (e i)) (1 + position_or_len is_blank bs) 0) (b ∷ bs)))),
    )

-- the place of a word that was found
pub word-found : (text : List ℕ) (s : ℕ) → Some s ≡ position (λ b. not (is_blank b)) text → (s ≤ length text) × (words_of text ≡ word_at s text)
word-found text s h = by (nat_lt (start text) (length text)) refl h
  where
    by : (t : Bool) → nat_lt (start text) (length text) ≡ t → Some s ≡ cond t (Some (start text)) None → (s ≤ length text) × (words_of text ≡ word_at s text)
    by true e h =
        let same : s ≡ start text = cc in
        let below : s < length text = grind (arith, nat_tests) in
        (omega arith, (words_of-at text).1 e ∙ ap (λ n. word_at n text) (sym same))
    by false e h = cc

-- a line without a word
pub word-none : (text : List ℕ) → None ≡ position (λ b. not (is_blank b)) text → words_of text ≡ []
word-none text h = by (nat_lt (start text) (length text)) refl h
  where
    by : (t : Bool) → nat_lt (start text) (length text) ≡ t → None ≡ cond t (Some (start text)) None → words_of text ≡ []
    by true e h = cc
    by false e h = (words_of-at text).0 e

-- whether a line says something, by the byte at which its first word begins
says-at : (text : List ℕ) → nat_lt (start text) (length text) ≡ true → says_nothing (words_of text) ≡ nat_eq (slice_index text (start text)) 35
says-at [] e = absurd (true≢false (sym e))
says-at (b ∷ bs) e = by (is_blank b) refl (says-at bs) e
  where
    by : (t : Bool) → is_blank b ≡ t → (nat_lt (start bs) (length bs) ≡ true → says_nothing (words_of bs) ≡ nat_eq (slice_index bs (start bs)) 35)
        → nat_lt (cond (not (not t)) (1 + start bs) 0) (length (b ∷ bs)) ≡ true
        → says_nothing (words_of (b ∷ bs)) ≡ nat_eq (slice_index (b ∷ bs) (cond (not (not t)) (1 + start bs) 0)) 35
    by true e rest p =
        let skipped : words_of (b ∷ bs) ≡ words_of bs = λ i. if e i then words_of bs else if ends_word bs then (b ∷ []) ∷ words_of bs else onto_first b (words_of bs) in
        let one_on : 1 + start bs ≡ suc (start bs) = omega arith in
        let there : slice_index (b ∷ bs) (1 + start bs) ≡ slice_index bs (start bs) = rw one_on refl in
        ap says_nothing skipped ∙ rest (sym (below-step (start bs) b bs) ∙ p) ∙ ap (λ x. nat_eq x 35) (sym there)
    by false e rest p =
        let others = words_of (drop (1 + position_or_len is_blank bs) (b ∷ bs)) in
        ap says_nothing (words_of-first b bs e ∙ ap (λ w. w ∷ others) (take-step (position_or_len is_blank bs) b bs))

-- the byte at which a word begins that was found
pub word-begins : (text : List ℕ) (s : ℕ) → Some s ≡ position (λ b. not (is_blank b)) text → (s < length text) × (says_nothing (words_of text) ≡ nat_eq (slice_index text s) 35)
word-begins text s h = by (nat_lt (start text) (length text)) refl h
  where
    by : (t : Bool) → nat_lt (start text) (length text) ≡ t → Some s ≡ cond t (Some (start text)) None → (s < length text) × (says_nothing (words_of text) ≡ nat_eq (slice_index text s) 35)
    by true e h =
        let same : s ≡ start text = cc in
        let below : s < length text = grind (arith, nat_tests) in
        (below, says-at text e ∙ ap (λ n. nat_eq (slice_index text n) 35) (sym same))
    by false e h = cc

-- what is left of a text, from its first line on
left-cut : (k : ℕ) (text bytes after : List ℕ) → 0 < length text → bytes ≡ line_front text → after ≡ line_back text
    → lines_left (record { number = k; text = text }) ≡ saying (line k bytes after ∷ lines_from (k + 1) after)
left-cut k text bytes after h e f = ap saying (lines_from-cut k text h ∙ sym (λ i. line k (e i) (f i) ∷ lines_from (k + 1) (f i)))

-- a line that says nothing is passed over
pub left-passed : (k : ℕ) (text bytes after : List ℕ) → 0 < length text → bytes ≡ line_front text → after ≡ line_back text → true ≡ says_nothing (words_of bytes)
    → lines_left (record { number = k; text = text }) ≡ lines_left (record { number = k + 1; text = after })
left-passed k text bytes after h e f nothing =
    left-cut k text bytes after h e f
    ∙ sym (λ i. cond (not (nothing i)) (line k bytes after ∷ saying (lines_from (k + 1) after)) (saying (lines_from (k + 1) after)))

-- a line that says something comes
pub left-line : (k : ℕ) (text bytes after : List ℕ) → 0 < length text → bytes ≡ line_front text → after ≡ line_back text → false ≡ says_nothing (words_of bytes)
    → lines_left (record { number = k; text = text }) ≡ line k bytes after ∷ lines_left (record { number = k + 1; text = after })
left-line k text bytes after h e f something =
    left-cut k text bytes after h e f
    ∙ sym (λ i. cond (not (something i)) (line k bytes after ∷ saying (lines_from (k + 1) after)) (saying (lines_from (k + 1) after)))
