-- An answer as it is read.
use Rattle.std.specs.Prelude.{◌≡◌, ℕ, ◌+◌, List, length, Result, Ok, Err}
use Rattle.fab_text.specs.Line.{TextLine}
use Rattle.answer_defs.specs.Answer.{Alone, WithMap, WithRoutes, WithTables, WithBroken}
use Rattle.answer_defs.specs.Answer.{Answer as SaidAnswer}
use Rattle.judge_defs.specs.Form.{Reads}
use Rattle.fab_judge.specs.declared.answer.Answer.{Answer}
use Rattle.fab_judge.specs.declared.answer.Answer.TheVariants.{Alone as AloneRead, WithMap as MapRead}
use Rattle.fab_judge.specs.declared.answer.Answer.TheVariants.{WithRoutes as RoutesRead, WithTables as TablesRead}
use Rattle.fab_judge.specs.declared.answer.Answer.TheVariants.{WithBroken as BrokenRead}
use Rattle.fab_judge.specs.declared.stop.Unread.{Unread}
use Rattle.fab_judge.specs.declared.stop.Unread.TheVariants.{At, NoMemory}

-- An answer in code is this answer. The hosts of tables and the pairs of broken routes aren't kept.
abbrev pub IsAs : Answer → SaidAnswer → Type 0
IsAs (AloneRead l) a = a ≡ Alone l
IsAs (MapRead l m) a = a ≡ WithMap l m
IsAs (RoutesRead found ranks) a = a ≡ WithRoutes found ranks
IsAs TablesRead a = (hosts : List ℕ) × (a ≡ WithTables hosts)
IsAs BrokenRead a = (pairs : List (ℕ × ℕ)) × (a ≡ WithBroken pairs)

-- The answer is exactly what is read of the lines, and these lines are left. Running out of memory may stand in the
-- place of any answer.
abbrev pub GivesAnswer : Reads SaidAnswer → List TextLine → Result Answer Unread → Type 0
GivesAnswer said left (Ok r) = (a : SaidAnswer) × (said ≡ Ok (a, left)) × IsAs r a
GivesAnswer said left (Err (At line)) = said ≡ Err line
GivesAnswer said left (Err NoMemory) = Unit {0}

-- how many lines after the first may fail
abbrev pub more_lines : Answer → ℕ
more_lines (RoutesRead found ranks) = length found + (length ranks + 1)
more_lines a = 0
