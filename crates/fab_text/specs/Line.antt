-- The lines of a text and the words of a line.
use Rattle.std.specs.Prelude.{ℕ, ◌+◌, ◌-◌, Bool, true, false, ◌&&◌, ◌||◌, not, List, [], ◌∷◌, map, filter, length}
use Rattle.std.specs.Prelude.{nat_eq, nat_lt, slice_index, count_by, if◌then◌else◌, Option, Some, None, option_map}
use Rattle.std.specs.List.{onto_first}

-- LF
abbrev pub is_line_end : ℕ → Bool
is_line_end b = nat_eq b 10

-- CR
abbrev pub is_return : ℕ → Bool
is_return b = nat_eq b 13

-- a space or a tab
abbrev pub is_blank : ℕ → Bool
is_blank b = nat_eq b 32 || nat_eq b 9

-- A line has its number, its bytes without their end, and the text that follows it.
pub record TextLine : Type 0 where
  pub number : ℕ
  pub bytes : List ℕ
  pub after : List ℕ

-- LF comes first
abbrev pub begins_with_end : List ℕ → Bool
begins_with_end [] = false
begins_with_end (b ∷ bs) = is_line_end b

-- a byte before the first of these lines, or a last line of this byte alone
abbrev pub onto_first_line : ℕ → ℕ → List TextLine → List TextLine
onto_first_line number b [] = record { number = number; bytes = b ∷ []; after = [] } ∷ []
onto_first_line number b (l ∷ ls) = record l { bytes = b ∷ l.bytes } ∷ ls

-- The lines of a text are numbered from a first number on. LF ends a line, the last one may lack it, and a CR directly
-- before an LF is no byte of its line.
abbrev pub lines_from : ℕ → List ℕ → List TextLine
lines_from number [] = []
lines_from number (b ∷ bs) =
    if is_line_end b then record { number = number; bytes = []; after = bs } ∷ lines_from (number + 1) bs
    else if is_return b && begins_with_end bs then lines_from number bs
    else onto_first_line number b (lines_from number bs)

-- a word ends before these bytes
abbrev pub ends_word : List ℕ → Bool
ends_word [] = true
ends_word (b ∷ bs) = is_blank b

-- The words of a line are its longest pieces without a blank.
abbrev pub words_of : List ℕ → List (List ℕ)
words_of [] = []
words_of (b ∷ bs) =
    if is_blank b then words_of bs
    else if ends_word bs then (b ∷ []) ∷ words_of bs
    else onto_first b (words_of bs)

-- the words, where there is exactly one
abbrev pub one_of : List (List ℕ) → Option (List ℕ)
one_of [] = None
one_of (w ∷ []) = Some w
one_of (w ∷ v ∷ ws) = None

-- the words, where there are exactly two
abbrev pub two_of : List (List ℕ) → Option (List ℕ × List ℕ)
two_of [] = None
two_of (w ∷ ws) = option_map (λ v. (w, v)) (one_of ws)

-- the words, where there are exactly four
abbrev pub four_of : List (List ℕ) → Option ((List ℕ × List ℕ) × (List ℕ × List ℕ))
four_of [] = None
four_of (w ∷ []) = None
four_of (w ∷ v ∷ ws) = option_map (λ p. ((w, v), p)) (two_of ws)

-- the first byte is `#`
abbrev pub begins_comment : List ℕ → Bool
begins_comment [] = false
begins_comment (b ∷ bs) = nat_eq b 35

-- a line of these words says nothing: it is blank or a comment
abbrev pub says_nothing : List (List ℕ) → Bool
says_nothing [] = true
says_nothing (w ∷ ws) = begins_comment w

-- the lines without blank lines and comments
abbrev pub saying : List TextLine → List TextLine
saying ls = filter (λ l. not (says_nothing (words_of l.bytes))) ls

-- bytes follow the last LF
abbrev pub is_unended : List ℕ → Bool
is_unended text = nat_lt 0 (length text) && not (is_line_end (slice_index text (length text - 1)))

-- The number of lines: of the LF bytes, and one where bytes follow the last.
abbrev pub line_count : List ℕ → ℕ
line_count text = count_by is_line_end text + (if is_unended text then 1 else 0)

-- What is left of a text: the number of its next line, and its bytes.
pub record LinesLeft : Type 0 where
  pub number : ℕ
  pub text : List ℕ

-- the lines that say something
abbrev pub lines_left : LinesLeft → List TextLine
lines_left l = saying (lines_from l.number l.text)

-- the same as pairs of a number and the bytes
abbrev pub numbered_lines : LinesLeft → List (ℕ × List ℕ)
numbered_lines l = map (λ k. (k.number, k.bytes)) (lines_left l)
