-- What every accepted text promises of the two hosts that restart.
use Rattle.std.specs.Prelude.{◌≡◌, ℕ, List, take, Option, Some}
use Rattle.duo_defs.specs.Duo.{DuoState}
use Rattle.duo_defs.specs.Theorem.{GotIsPrefixOfSent, TokensHaveOneOwner, PollsAreRight}
use Rattle.run_defs.specs.declared.command.Command.{Command}
use Rattle.run_defs.specs.Output.{Piece}
use Rattle.run_defs.specs.Run.{IsRun}
use Rattle.run_defs.specs.Session.{SessionState}
use Rattle.promise_laws.specs.Duos.{IsReachedFromNew, IsDuoLeft}
use Rattle.promise_laws.specs.Duos.{DuoLinesDependOnTheDuo, DuoLinesKeepTheRest, OthersKeepTheDuo}
use Rattle.promise_laws.specs.DuoPolls.{AreReceivedAsGot}
use Rattle.input_texts.specs.Reading.{AcceptedText}
use Rattle.fabric_run.specs.Steps.{IsNext}

-- after the first commands of a text the two hosts, once they have begun, are reached from new ones of incarnation 1
abbrev pub DuosAreReached : AcceptedText → Type 0
DuosAreReached a = (count : ℕ) (out : List Piece) (last : SessionState) (d : DuoState)
    → IsRun a.network (take count a.commands) out last → last.duo ≡ Some d → IsReachedFromNew d

-- and so they are where memory ran out for the next command
abbrev pub LeftDuosAreReached : AcceptedText → Type 0
LeftDuosAreReached a = (s : SessionState) (c : Command) (left : Option DuoState) (d : DuoState) → IsNext a s c
    → IsDuoLeft s c left → left ≡ Some d → IsReachedFromNew d

-- after the first commands of a text, for each host and each of its incarnations, the messages that the lines
-- `duo received` show, then those that its restart took unread, then those that wait still, are exactly what it got
abbrev pub DuoLinesAreOfMessages : AcceptedText → Type 0
DuoLinesAreOfMessages a = (count : ℕ) (out : List Piece) (last : SessionState)
    → IsRun a.network (take count a.commands) out last → AreReceivedAsGot (take count a.commands) out last.duo

-- The two hosts that restart keep their promise: after the first commands of a text, and where memory ran out for the
-- next one, they are reached from new ones. Their lines depend on them alone and change nothing else, and other
-- commands pass them by. After every list of events, from two new hosts of whichever incarnation, what each incarnation
-- got is a prefix of what it was sent, each token has one owner, and polls that answer sent, or unsure, are right. What
-- the lines `duo received` show, and what waits, is what was got. The premise: an incarnation's number survives its
-- host's restart (`restarting` of `duo_defs`).
pub record IsDuoPromised (a : AcceptedText) : Type 0 where
  pub reached : DuosAreReached a
  pub left : LeftDuosAreReached a
  pub lines : DuoLinesDependOnTheDuo
  pub rest : DuoLinesKeepTheRest
  pub others : OthersKeepTheDuo
  pub in_order : GotIsPrefixOfSent
  pub owned : TokensHaveOneOwner
  pub polls : PollsAreRight
  pub received : DuoLinesAreOfMessages a
