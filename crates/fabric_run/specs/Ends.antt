-- How a run may end: what was read, what was written, and which session is handed back, by its answer.
use Rattle.std.specs.Prelude.{◌≡◌, ◌⊎◌, ℕ, ◌≤◌, List, length, nat_lt, if◌then◌else◌}
use Rattle.std.specs.Prelude.{Option, Some, None, Result, Ok, Err}
use Rattle.std.specs.Io.KnownBytes.{Appends}
use Rattle.net_defs.specs.Network.{Network}
use Rattle.fab_outer.specs.Whole.{IsWhole, IsLonger, TakesPrefix, TakesProperPrefix}
use Rattle.fab_text.specs.Fault.{FirstFault}
use Rattle.run_defs.specs.declared.command.Command.{Command}
use Rattle.run_defs.specs.Output.{Piece}
use Rattle.run_defs.specs.Session.{SessionState}
use Rattle.run_defs.specs.Run.{Does, IsRun}
use Rattle.run_defs.specs.LineText.{output_text}
use Rattle.promise_laws.specs.CutShort.{IsCutShort}
use Rattle.promise_laws.specs.Duos.{IsDuoLeft}
use Rattle.promise_laws.specs.Existence.{HasRun}
use Rattle.fabric_run.specs.declared.status.Status.{Status}
use Rattle.fabric_run.specs.declared.status.Status.TheVariants.{Done, Usage, Refused, ReadFault, WriteFault, NoMemory}
use Rattle.fabric_run.specs.declared.status.Status.TheVariants.{TooLong}
use Rattle.input_texts.specs.declared.form.Form.{Form}
use Rattle.input_texts.specs.declared.form.Form.TheVariants.{Run, Judge, Gen}
use Rattle.input_texts.specs.Reading.{AcceptedText, reading, input_limit, refusal_text}
use Rattle.judge_defs.specs.Text.{JudgedText, judged_text}
use Rattle.fab_judge.specs.declared.verdict.Verdict.{Verdict}
use Rattle.fabric_run.specs.Generated.{GenEnds}
use Rattle.fabric_run.specs.Judged.{IsRightVerdict, verdict_text}
use Rattle.fabric_run.specs.Steps.{IsNext}

-- a session has the hosts and the switches of a fabric: of its cables some may have gone, or be others
abbrev pub HasVerticesOf : Network → SessionState → Type 0
HasVerticesOf n s = (s.world.links.cables.hosts ≡ n.hosts) × (s.world.links.cables.switches ≡ n.switches)

-- A text came whole: nothing of it is left, and it is within the limit.
abbrev pub Came : Option (List ℕ) → Option (List ℕ) → List ℕ → Type 0
Came before now text = IsWhole before now text × (length text ≤ input_limit)

-- the answer to what was read where nothing fails
abbrev pub answer_to : Result AcceptedText FirstFault → Status
answer_to (Ok a) = Done
answer_to (Err f) = Refused f.line f.kind

-- The answer for a text where nothing fails: it is too long, it is accepted, or it is refused.
abbrev pub own_answer : List ℕ → Status
own_answer text = if nat_lt input_limit (length text) then TooLong else answer_to (reading text)

-- Commands ran over a fabric, one after another from its first world on, and led to this session; the sink took
-- exactly what they printed.
pub record HaveRun (n : Network) (commands : List Command) (taken now : Option (List ℕ))
    (last : SessionState) : Type 0 where
  pub output : List Piece
  pub run : IsRun n commands output last
  pub took : Appends taken now (output_text n output)

-- A write failed after a command, which led to this session: the sink took all that the commands before it printed, and
-- then a prefix of what it printed, but not all of that.
pub record IsHalfWritten (a : AcceptedText) (taken now : Option (List ℕ)) (last : SessionState) : Type 0 where
  pub command : Command
  pub session : SessionState
  pub before : IsNext a session command
  pub output : List Piece
  pub does : Does session command output last
  pub middle : Option (List ℕ)
  pub took_before : Appends taken middle (output_text a.network before.printed)
  pub took : TakesProperPrefix middle now (output_text a.network output)

-- Memory ran out for a command, and the session is left so: a prefix of the command's acts leads to its world, and the
-- last map and the last routes are as they were; the two hosts that restart are so too, or new, where the command is
-- their first event, or as it leaves them. The sink took exactly what the commands before it printed.
pub record IsInterrupted (a : AcceptedText) (taken now : Option (List ℕ)) (left : SessionState) : Type 0 where
  pub command : Command
  pub session : SessionState
  pub before : IsNext a session command
  pub took : Appends taken now (output_text a.network before.printed)
  pub cut : IsCutShort session command left.world
  pub map_stays : left.last_map ≡ session.last_map
  pub routes_stay : left.last_routes ≡ session.last_routes
  pub duo_left : IsDuoLeft session command left.duo

-- How the work on what a text says may end. All commands of an accepted text ran, or a write failed after one of them,
-- or memory ran out for one; of a refused text the line that reports its first fault was taken, or a prefix of it, but
-- not all, before a failed write. Where memory ran out before the first command or for that line, nothing was written.
abbrev pub SaidEnds : Result AcceptedText FirstFault → Type 0 → Option (List ℕ) → Option (List ℕ) → Status
    → Option SessionState → Type 0
SaidEnds (Ok a) unwritten taken now Done (Some last) = HaveRun a.network a.commands taken now last
SaidEnds (Ok a) unwritten taken now WriteFault (Some last) = IsHalfWritten a taken now last
SaidEnds (Ok a) unwritten taken now NoMemory (Some left) = IsInterrupted a taken now left
SaidEnds (Ok a) unwritten taken now NoMemory None = unwritten
SaidEnds (Ok a) unwritten taken now _ _ = ⊥
SaidEnds (Err f) unwritten taken now (Refused line kind) None =
    (line ≡ f.line) × (kind ≡ f.kind) × Appends taken now (refusal_text f)
SaidEnds (Err f) unwritten taken now WriteFault None = TakesProperPrefix taken now (refusal_text f)
SaidEnds (Err f) unwritten taken now NoMemory None = unwritten
SaidEnds (Err f) unwritten taken now _ _ = ⊥

-- what the source has left and what the sink took, where they show it
pub record Moment : Type 0 where
  pub left : Option (List ℕ)
  pub taken : Option (List ℕ)

-- How the work on a text with its report may end. Of one whose part up to `end` is accepted the line of the right
-- verdict was taken, or a prefix of it, but not all, before a failed write; of another the line that reports the first
-- fault of that part. Where memory ran out nothing was written.
abbrev pub JudgedEnds : List ℕ → Result JudgedText FirstFault → Type 0 → Option (List ℕ) → Option (List ℕ) → Status
    → Option SessionState → Type 0
JudgedEnds text (Ok j) unwritten taken now Done None =
    (v : Verdict) × IsRightVerdict text v × Appends taken now (verdict_text v)
JudgedEnds text (Ok j) unwritten taken now WriteFault None =
    (v : Verdict) × IsRightVerdict text v × TakesProperPrefix taken now (verdict_text v)
JudgedEnds text (Ok j) unwritten taken now NoMemory None = unwritten
JudgedEnds text (Ok j) unwritten taken now _ _ = ⊥
JudgedEnds text (Err f) unwritten taken now status held = SaidEnds (Err f) unwritten taken now status held

-- how the work on a text that came may end, by its answer and the session that is handed back
abbrev pub Work : Type 1
Work = List ℕ → Status → Option SessionState → Type 0

-- a text came whole between two moments, and the work on it ended so
abbrev pub SomeTextEnds : Work → Moment → Moment → Status → Option SessionState → Type 0
SomeTextEnds Ends before now status held = (text : List ℕ) × Came before.left now.left text × Ends text status held

-- How a run of the form `run` or `judge` may end. A read failed, or more bytes came than an input may have; or memory
-- ran out before a byte was read, and the input is as it was: nothing was written then. Else a text came whole, and the
-- work on it ended.
abbrev pub InputEnds : Work → Type 0 → Type 0 → Moment → Moment → Status → Option SessionState → Type 0
InputEnds Ends unread unwritten before now Usage held = ⊥
InputEnds Ends unread unwritten before now ReadFault held = unwritten × (held ≡ None)
InputEnds Ends unread unwritten before now TooLong held = IsLonger before.left input_limit × unwritten × (held ≡ None)
InputEnds Ends unread unwritten before now NoMemory held =
    (unread × unwritten × (held ≡ None)) ⊎ SomeTextEnds Ends before now NoMemory held
InputEnds Ends unread unwritten before now Done held = SomeTextEnds Ends before now Done held
InputEnds Ends unread unwritten before now WriteFault held = SomeTextEnds Ends before now WriteFault held
InputEnds Ends unread unwritten before now (Refused line kind) held =
    SomeTextEnds Ends before now (Refused line kind) held

-- How a run may end, by what its words ask for: where they are none of the forms nothing is done, and under
-- `gen N SEED` nothing is read.
abbrev pub RunEnds : Option Form → Type 0 → Type 0 → Moment → Moment → Status → Option SessionState → Type 0
RunEnds None unread unwritten before now status held = (status ≡ Usage) × unread × unwritten × (held ≡ None)
RunEnds (Some Run) unread unwritten before now status held =
    InputEnds (λ text. SaidEnds (reading text) unwritten before.taken now.taken) unread unwritten before now status held
RunEnds (Some Judge) unread unwritten before now status held =
    InputEnds (λ text. JudgedEnds text (judged_text text) unwritten before.taken now.taken)
    unread unwritten before now status held
RunEnds (Some (Gen n seed)) unread unwritten before now status held =
    unread × GenEnds n seed unwritten before.taken now.taken status held

-- What the sink took is a prefix of the report: of what the run of all commands of the text prints, which is one.
abbrev pub IsPartOfReport : AcceptedText → Option (List ℕ) → Option (List ℕ) → Type 0
IsPartOfReport a taken now = (r : HasRun a.network a.commands) × TakesPrefix taken now (output_text a.network r.out)

-- the exit status of the program
abbrev pub status_number : Status → ℕ
status_number Done = 0
status_number Usage = 2
status_number (Refused line kind) = 3
status_number ReadFault = 4
status_number WriteFault = 5
status_number NoMemory = 6
status_number TooLong = 7
