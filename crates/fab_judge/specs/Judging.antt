-- What the code makes of an answer, by those before it.
use Rattle.std.specs.Prelude.{◌≡◌, ℕ, ◌<◌, ◌+◌, ◌∷◌, List, [], Option, Some, None, Result, Ok, Err, slice_get}
use Rattle.net_defs.specs.Network.{Network}
use Rattle.fab_text.specs.Line.{TextLine}
use Rattle.run_defs.specs.declared.command.Command.{Command}
use Rattle.answer_defs.specs.declared.why.Why.{Why}
use Rattle.answer_defs.specs.Answer.{Answer, Answered, answered}
use Rattle.net_defs.specs.declared.route.Route.{Route}
use Rattle.map_defs.specs.declared.rank.RankEntry.{RankEntry}
use Rattle.map_defs.specs.NetMap.{NetMap}
use Rattle.answer_defs.specs.Right.{HoldOn, IsRight}
use Rattle.answer_defs.specs.Failing.{Fails, RoutesFail}
use Rattle.judge_defs.specs.Form.{known_by, answer_from}
use Rattle.judge_defs.specs.Verdict.{AreJudgedYes, FailsFirst}
use Rattle.answer_defs.specs.declared.why.Why.TheVariants.{Form}
use Rattle.fab_judge.specs.declared.stop.Unread.{Unread}
use Rattle.fab_judge.specs.declared.stop.Unread.TheVariants.{At as Unreadable, NoMemory as NoRoom}
use Rattle.fab_judge.specs.declared.stop.Stop.{Stop}
use Rattle.fab_judge.specs.declared.stop.Stop.TheVariants.{Fails as FailsAt, NoMemory}
use Rattle.fab_text.specs.declared.fault.TextFault.{TextFault}
use Rattle.fab_text.specs.declared.fault.TextFault.TheVariants.{NoMemory as OutOfMemory}
use Rattle.fab_judge.specs.declared.verdict.Verdict.{Verdict}
use Rattle.fab_judge.specs.declared.verdict.Verdict.TheVariants.{Yes, No}
use Rattle.fab_judge.specs.Past.{IsPastOf}
use Rattle.fab_judge.specs.declared.past.Past.{Past as PastState}
use Rattle.fab_judge.specs.Reading.{ReaderState}

-- An answer is right, and what is kept is told of it; or it fails at this place among its lines.
abbrev pub Judges : Network → List Answered → Answered → Option (ℕ × Why) → PastState → Type 0
Judges n before t None now = IsRight n before t × IsPastOf n (t ∷ before) now
Judges n before t (Some p) now = Fails n before t.command t.answer p.0 p.1

-- Routes hold on the last map, or fail first at this place.
abbrev pub FindsFaultOn : Option NetMap → List Route → List RankEntry → Option (ℕ × Why) → Type 0
FindsFaultOn m found ranks None = HoldOn m found ranks
FindsFaultOn m found ranks (Some p) = RoutesFail m found ranks p.0 p.1

-- a place, if one is told, is among so many lines after the first
abbrev pub IsWithin : Option (ℕ × Why) → ℕ → Type 0
IsWithin None count = Unit {0}
IsWithin (Some p) count = p.0 < count + 1

-- An answer is right, and what is kept is told of it; or the line of this number fails, which is one of its lines.
abbrev pub JudgesAnswer : Network → List Answered → Answered → ReaderState → PastState → Result (Unit {0}) Stop → Type 0
JudgesAnswer n before t s now (Ok done) = IsRight n before t × IsPastOf n (t ∷ before) now
JudgesAnswer n before t s now (Err (FailsAt line why)) =
    (place : ℕ) × Fails n before t.command t.answer place why × (slice_get s.numbers place ≡ Some line)
JudgesAnswer n before t s now (Err NoMemory) = Unit {0}

-- why a report isn't judged yes whose lines are no answer
abbrev pub stop_of : Unread → Stop
stop_of (Unreadable line) = FailsAt line Form
stop_of NoRoom = NoMemory

-- The next answer is right, and what is kept is told of it; or a line of it is the first that fails.
abbrev pub JudgesNext : Network → List Answered → Command → ReaderState → ReaderState → PastState
    → Result (Unit {0}) Stop → Type 0
JudgesNext n before c r s now (Ok done) =
    (a : Answer) × (answer_from c (known_by n before) r.past n r.left ≡ Ok (a, s.left))
    × IsRight n before (answered c a) × IsPastOf n (answered c a ∷ before) now × (s.past ≡ r.past)
JudgesNext n before c r s now (Err (FailsAt line why)) =
    (cs : List Command) → FailsFirst n r.past before (c ∷ cs) r.left line why
JudgesNext n before c r s now (Err NoMemory) = Unit {0}

-- Answers are judged yes, or this line is the first that fails.
abbrev pub Decides : Network → ℕ → List Command → List TextLine → Result (Unit {0}) Stop → Type 0
Decides n past cs ls (Ok done) = AreJudgedYes n past [] cs ls
Decides n past cs ls (Err (FailsAt line why)) = FailsFirst n past [] cs ls line why
Decides n past cs ls (Err NoMemory) = Unit {0}

-- what the end of a reading comes to
abbrev pub verdict_of : Result (Unit {0}) Stop → Result Verdict TextFault
verdict_of (Ok done) = Ok Yes
verdict_of (Err (FailsAt line why)) = Ok (No line why)
verdict_of (Err NoMemory) = Err OutOfMemory
