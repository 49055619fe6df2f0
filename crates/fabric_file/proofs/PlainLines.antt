-- A printed line of words without a blank in them is the first line of its text, and its words are read again.
use Rattle.std.proofs.Common.{◌≡◌, ℕ, ◌+◌, List, [], ◌∷◌, ◌++◌, Bool, true, false, not, cond, ◌&&◌, nat_lt, refl, ap, sym, ◌∙◌, append_assoc, true≢false, arith, if◌then◌else◌}
use Rattle.std.specs.List.{AllByRecursion, list_all, onto_first}
use Rattle.std.proofs.lemmas.Bool.Decides.{nat_tests}
use Rattle.net_defs.proofs.Ends.{both}
use Rattle.fab_text.specs.Line.{TextLine, lines_from, lines_left, saying, says_nothing, is_line_end, is_return, is_blank, begins_with_end, onto_first_line, words_of}
use Rattle.fab_text.specs.Written.{spaced, line_text}
use Rattle.fabric_file.specs.Plain.{is_plain_byte, is_plain, ArePlain}

-- a byte that ends no line
abbrev is_inner : ℕ → Bool
is_inner b = nat_lt 31 b

plain-blank : (b : ℕ) → is_plain_byte b ≡ true → is_blank b ≡ false
plain-blank b e = grind (arith, nat_tests)

plain-inner : (b : ℕ) → is_plain_byte b ≡ true → is_inner b ≡ true
plain-inner b e = grind (arith, nat_tests)

inner-end : (b : ℕ) → is_inner b ≡ true → is_line_end b ≡ false
inner-end b e = grind (arith, nat_tests)

inner-return : (b : ℕ) → is_inner b ≡ true → is_return b ≡ false
inner-return b e = grind (arith, nat_tests)

-- a word that ends its line
word-alone : (b : ℕ) (bs : List ℕ) → list_all is_plain_byte (b ∷ bs) ≡ true → words_of (b ∷ bs) ≡ (b ∷ bs) ∷ []
word-alone b [] e = let p = plain-blank b (both _ _ e).0 in λ i. if p i then [] else (b ∷ []) ∷ []
word-alone b (c ∷ cs) e =
    let two = both (is_plain_byte b) (list_all is_plain_byte (c ∷ cs)) e in
    let p = plain-blank b two.0 in
    let q = plain-blank c (both (is_plain_byte c) (list_all is_plain_byte cs) two.1).0 in
    (λ i. if p i then words_of (c ∷ cs) else if q i then (b ∷ []) ∷ words_of (c ∷ cs) else onto_first b (words_of (c ∷ cs)))
    ∙ ap (onto_first b) (word-alone c cs two.1)

-- a word before a space
word-first : (b : ℕ) (bs line : List ℕ) → list_all is_plain_byte (b ∷ bs) ≡ true → words_of ((b ∷ bs) ++ 32 ∷ line) ≡ (b ∷ bs) ∷ words_of line
word-first b [] line e = let p = plain-blank b (both _ _ e).0 in λ i. if p i then words_of line else (b ∷ []) ∷ words_of line
word-first b (c ∷ cs) line e =
    let two = both (is_plain_byte b) (list_all is_plain_byte (c ∷ cs)) e in
    let p = plain-blank b two.0 in
    let q = plain-blank c (both (is_plain_byte c) (list_all is_plain_byte cs) two.1).0 in
    let more = (c ∷ cs) ++ 32 ∷ line in
    (λ i. if p i then words_of more else if q i then (b ∷ []) ∷ words_of more else onto_first b (words_of more))
    ∙ ap (onto_first b) (word-first c cs line two.1)

-- words with a space between them are read again
pub words-spaced : (ws : List (List ℕ)) → ArePlain ws → words_of (spaced ws) ≡ ws
words-spaced [] all = refl
words-spaced ([] ∷ []) all = absurd (true≢false (sym all.0))
words-spaced ((b ∷ bs) ∷ []) all = word-alone b bs all.0
words-spaced ([] ∷ v ∷ ws) all = absurd (true≢false (sym all.0))
words-spaced ((b ∷ bs) ∷ v ∷ ws) all = word-first b bs (spaced (v ∷ ws)) all.0 ∙ ap (λ l. (b ∷ bs) ∷ l) (words-spaced (v ∷ ws) all.1)

-- a word before bytes that end no line
inner-more : (w more : List ℕ) → list_all is_plain_byte w ≡ true → list_all is_inner more ≡ true → list_all is_inner (w ++ more) ≡ true
inner-more [] more e f = f
inner-more (b ∷ bs) more e f =
    let two = both (is_plain_byte b) (list_all is_plain_byte bs) e in
    λ i. plain-inner b two.0 i && inner-more bs more two.1 f i

inner-alone : (w : List ℕ) → list_all is_plain_byte w ≡ true → list_all is_inner w ≡ true
inner-alone [] e = refl
inner-alone (b ∷ bs) e =
    let two = both (is_plain_byte b) (list_all is_plain_byte bs) e in
    λ i. plain-inner b two.0 i && inner-alone bs two.1 i

plain-bytes : (w : List ℕ) → is_plain w ≡ true → list_all is_plain_byte w ≡ true
plain-bytes [] e = refl
plain-bytes (b ∷ bs) e = e

-- words with a space between them end no line
spaced-inner : (ws : List (List ℕ)) → ArePlain ws → list_all is_inner (spaced ws) ≡ true
spaced-inner [] all = refl
spaced-inner (w ∷ []) all = inner-alone w (plain-bytes w all.0)
spaced-inner (w ∷ v ∷ ws) all = inner-more w (32 ∷ spaced (v ∷ ws)) (plain-bytes w all.0) (spaced-inner (v ∷ ws) all.1)

-- a line
abbrev pub line : ℕ → List ℕ → List ℕ → TextLine
line number bytes after = record { number = number; bytes = bytes; after = after }

-- bytes before LF are a line
line-first : (k : ℕ) (bytes rest : List ℕ) → list_all is_inner bytes ≡ true → lines_from k (bytes ++ 10 ∷ rest) ≡ line k bytes rest ∷ lines_from (k + 1) rest
line-first k [] rest e = refl
line-first k (b ∷ bs) rest e =
    let two = both (is_inner b) (list_all is_inner bs) e in
    let p = inner-end b two.0 in
    let q = inner-return b two.0 in
    let more = bs ++ 10 ∷ rest in
    (λ i. if p i then line k [] more ∷ lines_from (k + 1) more else if q i && begins_with_end more then lines_from k more else onto_first_line k b (lines_from k more))
    ∙ ap (onto_first_line k b) (line-first k bs rest two.1)

-- a printed line that says something is the first line of its text
pub left-printed : (k : ℕ) (w : List ℕ) (ws : List (List ℕ)) (rest : List ℕ) → ArePlain (w ∷ ws) → says_nothing (w ∷ ws) ≡ false
    → lines_left (record { number = k; text = line_text (w ∷ ws) ++ rest }) ≡ line k (spaced (w ∷ ws)) rest ∷ lines_left (record { number = k + 1; text = rest })
left-printed k w ws rest all s =
    let says : says_nothing (words_of (spaced (w ∷ ws))) ≡ false = ap says_nothing (words-spaced (w ∷ ws) all) ∙ s in
    ap (λ t. saying (lines_from k t)) (append_assoc (spaced (w ∷ ws)) (10 ∷ []) rest)
    ∙ ap saying (line-first k (spaced (w ∷ ws)) rest (spaced-inner (w ∷ ws) all))
    ∙ (λ i. cond (not (says i)) (line k (spaced (w ∷ ws)) rest ∷ saying (lines_from (k + 1) rest)) (saying (lines_from (k + 1) rest)))
