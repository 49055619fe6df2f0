-- The lines of a script before its first fault.
use Rattle.std.specs.Prelude.{ℕ, ◌+◌, List, [], ◌∷◌, if◌then◌else◌, Result, Ok, Err}
use Rattle.fab_text.specs.Line.{TextLine, lines_left, words_of}
use Rattle.net_defs.specs.Network.{Network}
use Rattle.run_defs.specs.Script.{command_of, ended, is_end}

-- lines, where what is said of their first has no fault
abbrev pub where_sound : {X E : Type 0} → Result X E → List TextLine → List TextLine
where_sound (Ok x) ls = ls
where_sound (Err e) ls = []

-- those of some lines that stand before the first fault, up to `end`
abbrev pub sound_from : Network → List TextLine → List TextLine
sound_from n [] = []
sound_from n (l ∷ ls) =
    if is_end (words_of l.bytes) then where_sound (ended ls) (l ∷ [])
    else where_sound (command_of n (words_of l.bytes)) (l ∷ sound_from n ls)

-- The sound lines of a script, after so many: those before its first fault, up to `end`, which counts where nothing
-- that says something follows it.
abbrev pub sound_lines : Network → ℕ → List ℕ → List TextLine
sound_lines n line text = sound_from n (lines_left (record { number = line + 1; text = text }))
