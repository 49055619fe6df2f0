-- A text cut after its first line, and a line cut after its first word.
use Rattle.std.specs.Prelude.{ℕ, ◌-◌, ◌&&◌, List, length, take, drop, nat_lt, slice_index, if◌then◌else◌}
use Rattle.std.specs.List.{position_or_len}
use Rattle.fab_text.specs.Line.{is_line_end, is_return}

-- a line that LF ends, without a CR at its end
abbrev pub without_return : List ℕ → List ℕ
without_return line = if nat_lt 0 (length line) && is_return (slice_index line (length line - 1))
    then take (length line - 1) line else line

-- what stands before the first LF, or all
abbrev pub line_before : List ℕ → List ℕ
line_before text = take (position_or_len is_line_end text) text

-- the first line
abbrev pub line_front : List ℕ → List ℕ
line_front text = if nat_lt (position_or_len is_line_end text) (length text) then without_return (line_before text)
    else text

-- what follows it
abbrev pub line_back : List ℕ → List ℕ
line_back text = drop 1 (drop (position_or_len is_line_end text) text)
