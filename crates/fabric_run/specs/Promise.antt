-- What every accepted text promises: of each of its commands, and of each world that its run comes to.
use Rattle.std.specs.Prelude.{◌≡◌, ℕ, List, take}
use Rattle.map_defs.specs.NetMap.{NetMap}
use Rattle.world_defs.specs.World.{WorldState, fabric_of}
use Rattle.world_defs.specs.Acts.{IsReached}
use Rattle.run_defs.specs.declared.command.Command.{Command}
use Rattle.run_defs.specs.declared.command.Command.TheVariants.{Map}
use Rattle.run_defs.specs.declared.line.MapWords.TheVariants.{Complete}
use Rattle.run_defs.specs.Deed.{session_after}
use Rattle.run_defs.specs.Output.{Piece}
use Rattle.run_defs.specs.Session.{SessionState}
use Rattle.run_defs.specs.Run.{IsRun}
use Rattle.print_laws.specs.Alike.{StandAlike}
use Rattle.print_laws.specs.Shown.{PrintsMap}
use Rattle.client_laws.specs.Seen.{PolledIsFrontOfAccepted}
use Rattle.client_laws.specs.Noted.{SentEventsAreOfTokens, PolledTokensAreOfMessages}
use Rattle.promise_laws.specs.CommandActs.{AreSingleActs, acts_of, IsReachedBy}
use Rattle.promise_laws.specs.Existence.{HasDone, HasRun}
use Rattle.promise_laws.specs.Moments.{IsWorldRight}
use Rattle.promise_laws.specs.ReceivedLines.{AreReceivedAsSent}
use Rattle.input_texts.specs.Reading.{AcceptedText}
use Rattle.fabric_run.specs.Duos.{IsDuoPromised}
use Rattle.fabric_run.specs.Lines.{AreLinesTrue}
use Rattle.fabric_run.specs.Steps.{IsNext}

-- What is promised of a command in the session before it: it is one deed, whose acts may happen, each of them one
-- action of one host, of one channel or of one cable, and what its lines say is true.
pub record IsStepRight (a : AcceptedText) (s : SessionState) (c : Command) : Type 0 where
  pub done : HasDone s c
  pub acts : AreSingleActs s.world done.deed.acts
  pub lines : AreLinesTrue a.network s c done.deed.output (session_after s done.deed)

-- so it is of each command of the text
abbrev pub StepsAreRight : AcceptedText → Type 0
StepsAreRight a = (s : SessionState) (c : Command) → IsNext a s c → IsStepRight a s c

-- A run of the text comes to a session where the next command is a map of a host, and prints this one as complete.
pub record IsComplete (a : AcceptedText) (s : SessionState) (host : ℕ) (m : NetMap) : Type 0 where
  pub depth : ℕ
  pub tries : ℕ
  pub is_next : IsNext a s (Map host depth tries)
  pub next : SessionState
  pub prints : PrintsMap s next host depth tries Complete m

-- two complete maps of one host are one map if the fabric was the same before both
abbrev pub CompleteMapsAreOne : AcceptedText → Type 0
CompleteMapsAreOne a =
    (s t : SessionState) (host : ℕ) (m k : NetMap) → IsComplete a s host m → IsComplete a t host k
    → StandAlike (fabric_of s.world) (fabric_of t.world) → m ≡ k

-- after the first commands of a text the world is reached: the acts of these commands, one command's after the other's,
-- may happen and lead to it from the first world
abbrev pub WorldsAreReached : AcceptedText → Type 0
WorldsAreReached a = (count : ℕ) (out : List Piece) (last : SessionState)
    → (run : IsRun a.network (take count a.commands) out last) → IsReachedBy a.network last.world (acts_of run)

-- each world that is reached, whatever happens before it, is right: sound, with tables, packets, windows, queues and
-- buffers as they should be
abbrev pub WorldsAreRight : AcceptedText → Type 0
WorldsAreRight a = (w : WorldState) → IsReached a.network w → IsWorldRight w

-- after the first commands of a text, for each receiver, port, sender and priority, the messages that the lines
-- `received` show are, in order, the first of those that the `send` lines with a token handed in
abbrev pub ReceivedLinesAreOfSends : AcceptedText → Type 0
ReceivedLinesAreOfSends a = (count : ℕ) (out : List Piece) (last : SessionState)
    → IsRun a.network (take count a.commands) out last
    → AreReceivedAsSent a.network (take count a.commands) out last.world

-- The promise of an accepted text. Its commands have a run, and one, whose text is the report. Each command is one
-- deed, of acts that may happen, and what its lines say is true; complete maps of one host are one if the fabric was
-- the same before both. Each world after first commands is reached by their acts, and so is each one after a prefix of
-- the acts of the next command; each world that is reached is right. What polls handed out is a prefix of what sends
-- were accepted with, and what the lines `received` show, of what the `send` lines with a token handed in; a sent event
-- that waits has the bytes of the message that was last sent with its token, and a send token that a poll answers is of
-- that message, which is acknowledged. The two hosts that restart keep their own promise.
pub record IsPromised (a : AcceptedText) : Type 0 where
  pub report : HasRun a.network a.commands
  pub steps : StepsAreRight a
  pub one_map : CompleteMapsAreOne a
  pub reached : WorldsAreReached a
  pub worlds : WorldsAreRight a
  pub received : ReceivedLinesAreOfSends a
  pub polled : PolledIsFrontOfAccepted
  pub returned : SentEventsAreOfTokens
  pub tokens : PolledTokensAreOfMessages
  pub duo : IsDuoPromised a
