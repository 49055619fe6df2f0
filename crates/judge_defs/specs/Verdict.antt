-- Which reports are judged yes, and which line of the others is the first that fails.
use Rattle.std.specs.Prelude.{◌≡◌, ℕ, List, [], ◌∷◌, Some, Ok, Err, slice_get}
use Rattle.net_defs.specs.Network.{Network}
use Rattle.fab_text.specs.Line.{TextLine}
use Rattle.run_defs.specs.declared.command.Command.{Command}
use Rattle.answer_defs.specs.declared.why.Why.{Why}
use Rattle.answer_defs.specs.declared.why.Why.TheVariants.{Form}
use Rattle.answer_defs.specs.Answer.{Answer, Answered, answered}
use Rattle.answer_defs.specs.Right.{IsRight}
use Rattle.answer_defs.specs.Failing.{Fails}
use Rattle.judge_defs.specs.Form.{known_by, answer_from}

-- Lines are judged yes after other answers: they are an answer for each command, in order, and nothing more, and each
-- is right by those before it. `past` is the number of a line that is missing.
pub data AreJudgedYes (n : Network) (past : ℕ) : List Answered → List Command → List TextLine → Type 0 where
  ended : {before : List Answered} → AreJudgedYes n past before [] []
  goes_on : {before : List Answered} {c : Command} {cs : List Command} {ls : List TextLine} (a : Answer)
      (rest : List TextLine)
      → answer_from c (known_by n before) past n ls ≡ Ok (a, rest) → IsRight n before (answered c a)
      → AreJudgedYes n past (answered c a ∷ before) cs rest → AreJudgedYes n past before (c ∷ cs) ls

-- The first line that fails after other answers, with what fails there: one that is out of form or missing, one of the
-- first answer that isn't right, or the first line after the last answer.
pub data FailsFirst (n : Network) (past : ℕ)
    : List Answered → List Command → List TextLine → (line : ℕ) → Why → Type 0 where
  more : {before : List Answered} {l : TextLine} {ls : List TextLine}
      → FailsFirst n past before [] (l ∷ ls) l.number Form
  unread : {before : List Answered} {c : Command} {cs : List Command} {ls : List TextLine} {line : ℕ}
      → answer_from c (known_by n before) past n ls ≡ Err line → FailsFirst n past before (c ∷ cs) ls line Form
  here : {before : List Answered} {c : Command} {cs : List Command} {ls : List TextLine} {why : Why} (a : Answer)
      (rest : List TextLine) (place : ℕ) (l : TextLine)
      → answer_from c (known_by n before) past n ls ≡ Ok (a, rest) → Fails n before c a place why
      → slice_get ls place ≡ Some l → FailsFirst n past before (c ∷ cs) ls l.number why
  later : {before : List Answered} {c : Command} {cs : List Command} {ls : List TextLine} {line : ℕ} {why : Why}
      (a : Answer) (rest : List TextLine)
      → answer_from c (known_by n before) past n ls ≡ Ok (a, rest) → IsRight n before (answered c a)
      → FailsFirst n past (answered c a ∷ before) cs rest line why → FailsFirst n past before (c ∷ cs) ls line why
