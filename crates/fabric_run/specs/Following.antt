-- What follows from the promise of a text.
use Rattle.std.specs.Prelude.{◌≡◌, ℕ, List, [], ◌∷◌, ◌++◌, take, Some}
use Rattle.map_defs.specs.NetMap.{NetMap}
use Rattle.net_defs.specs.Dependencies.{IsBefore, HasNoCycle}
use Rattle.world_defs.specs.World.{WorldState, adopted_by}
use Rattle.world_defs.specs.Asking.{all_given_up}
use Rattle.world_defs.specs.Sound.{installed_channels}
use Rattle.world_defs.specs.Settled.{IsSettled}
use Rattle.world_defs.specs.Acts.{Act, acted_all}
use Rattle.duo_defs.specs.Duo.{DuoState}
use Rattle.install_laws.specs.Cause.{EachMissedWasHarmed}
use Rattle.message_laws.specs.Got.{IsAllGot}
use Rattle.client_laws.specs.Seen.{PollsAreFrontOfSends}
use Rattle.client_laws.specs.Noted.{SentEventsAreOf, PolledTokensAreOf}
use Rattle.delivery_laws.specs.Delivery.{HasEnough, HasPaths}
use Rattle.run_defs.specs.declared.command.Command.{Command}
use Rattle.run_defs.specs.declared.command.Command.TheVariants.{Map, Install, Settle}
use Rattle.run_defs.specs.declared.line.Line.TheVariants.{Map as MapLine, Installed, Settle as SettleLine}
use Rattle.run_defs.specs.declared.line.MapWords.TheVariants.{Doubtful}
use Rattle.run_defs.specs.Output.{Piece, OneLine, MapLines}
use Rattle.run_defs.specs.Session.{SessionState, LastRoutes}
use Rattle.run_defs.specs.Outcome.{set_of}
use Rattle.run_defs.specs.Deed.{Deed}
use Rattle.run_defs.specs.Run.{IsDeed, Does, IsRun}
use Rattle.promise_laws.specs.CommandActs.{acts_of, IsReachedBy}
use Rattle.promise_laws.specs.CutShort.{IsCutShort}
use Rattle.promise_laws.specs.Duos.{IsDuoSound}
use Rattle.promise_laws.specs.Moments.{IsWorldRight}
use Rattle.input_texts.specs.Reading.{AcceptedText}
use Rattle.fabric_run.specs.Lines.{WasStruck}
use Rattle.fabric_run.specs.Steps.{IsNext}

-- after the first commands of a text the world is right
abbrev pub FirstCommandsLeaveRight : AcceptedText → Type 0
FirstCommandsLeaveRight a = (count : ℕ) (out : List Piece) (last : SessionState)
    → IsRun a.network (take count a.commands) out last → IsWorldRight last.world

-- so the channels of the installed routes wait in no cycle
abbrev pub RoutesHaveNoCycle : AcceptedText → Type 0
RoutesHaveNoCycle a = (count : ℕ) (out : List Piece) (last : SessionState)
    → IsRun a.network (take count a.commands) out last → HasNoCycle (IsBefore (installed_channels last.world))

-- and where memory ran out in the midst of the next command, the world is right too
abbrev pub CutCommandsLeaveRight : AcceptedText → Type 0
CutCommandsLeaveRight a =
    (s : SessionState) (c : Command) (v : WorldState) → IsNext a s c → IsCutShort s c v → IsWorldRight v

-- what each incarnation of the two hosts that restart got is a prefix of what it was sent, and each token has one owner
abbrev pub DuosAreSound : AcceptedText → Type 0
DuosAreSound a = (count : ℕ) (out : List Piece) (last : SessionState) (d : DuoState)
    → IsRun a.network (take count a.commands) out last → last.duo ≡ Some d → IsDuoSound d

-- What the promise of a text says of the moments of its run.
pub record HasSoundMoments (a : AcceptedText) : Type 0 where
  pub right : FirstCommandsLeaveRight a
  pub no_cycle : RoutesHaveNoCycle a
  pub cut : CutCommandsLeaveRight a
  pub duos : DuosAreSound a

-- These acts lead to a world of a text's run. What polls among them handed out is a prefix of what sends among them
-- were accepted with; each sent event that waits then, and each token that a poll answers as sent, is of the message
-- that its token was last sent with.
pub record AreActsTo (a : AcceptedText) (w : WorldState) (acts : List Act) : Type 0 where
  pub reached : IsReachedBy a.network w acts
  pub polled : PollsAreFrontOfSends a.network acts
  pub returned : SentEventsAreOf a.network w acts
  pub tokens : PolledTokensAreOf a.network w acts

-- so do the acts of the first commands of a text, one command's after the other's
abbrev pub CommandsActTo : AcceptedText → Type 0
CommandsActTo a = (count : ℕ) (out : List Piece) (last : SessionState)
    → (run : IsRun a.network (take count a.commands) out last) → AreActsTo a last.world (acts_of run)

-- and followed by the first acts of the next command they lead to the world there
abbrev pub FirstActsActTo : AcceptedText → Type 0
FirstActsActTo a =
    (s : SessionState) (c : Command) (d : Deed) (done rest : List Act) → (is : IsNext a s c) → IsDeed s c d
    → d.acts ≡ done ++ rest → AreActsTo a (acted_all s.world done) (acts_of is.run ++ done)

-- the first commands of a text have one list of acts
abbrev pub ActsAreOne : AcceptedText → Type 0
ActsAreOne a =
    (count : ℕ) (out printed : List Piece) (last end : SessionState)
    → (run : IsRun a.network (take count a.commands) out last)
    → (again : IsRun a.network (take count a.commands) printed end) → acts_of again ≡ acts_of run

-- What the promise of a text says of the acts of its run: those of its commands are one list, which leads to each world
-- after first commands and part of the way along the next one; and what clients send and are handed follows from it.
pub record HasActs (a : AcceptedText) : Type 0 where
  pub one : ActsAreOne a
  pub commands : CommandsActTo a
  pub part : FirstActsActTo a

-- a map that prints `doubtful` met a planned fault that lost, held or flipped a packet of it, or a cable went
abbrev pub DoubtfulMapsMetFaults : AcceptedText → Type 0
DoubtfulMapsMetFaults a =
    (s next : SessionState) (host depth tries drowned asks packets : ℕ) (m : NetMap)
    → IsNext a s (Map host depth tries)
    → Does s (Map host depth tries) (OneLine (MapLine host (Doubtful drowned) asks packets) ∷ MapLines m ∷ []) next
    → WasStruck s.world next.world

-- An installation counts all hosts of the last routes but those that have a part each of whose tries met such a fault
-- or ended with a cable of the routes to and fro pulled, and all where none struck and no cable went.
pub record HasMissed (s next : SessionState) (tries acked total : ℕ) : Type 0 where
  pub last : LastRoutes
  pub are : s.last_routes ≡ Some last
  pub cause : EachMissedWasHarmed (set_of s.world last) tries last.hosts
      (all_given_up (adopted_by s.world last.mapper last.routes))
  pub unharmed : next.world.harmed ≡ s.world.harmed
      → next.world.links.cables.changes ≡ s.world.links.cables.changes → acked ≡ total

-- so does each installation of the text
abbrev pub MissedHostsMetFaults : AcceptedText → Type 0
MissedHostsMetFaults a =
    (s next : SessionState) (tries acked total : ℕ) (rest : List Piece) → IsNext a s (Install tries)
    → Does s (Install tries) (OneLine (Installed acked total) ∷ rest) next → HasMissed s next tries acked total

-- a settle ends settled; and where there were tokens enough before it and none of the routes that are wanted is broken
-- after it, all that was sent is got
abbrev pub SettlesEndSettled : AcceptedText → Type 0
SettlesEndSettled a =
    (s next : SessionState) (rounds resets unacked : ℕ) (rest : List Piece) → IsNext a s Settle
    → Does s Settle (OneLine (SettleLine rounds resets unacked) ∷ rest) next
    → IsSettled next.world × (HasEnough s.world → HasPaths s.world next.world → (unacked ≡ 0) × IsAllGot next.world)

-- What it says where injections are left to the text's end: doubtful maps and missed hosts have met faults or lost
-- cables, and settles end settled.
pub record HasMetFaults (a : AcceptedText) : Type 0 where
  pub doubtful : DoubtfulMapsMetFaults a
  pub missed : MissedHostsMetFaults a
  pub settled : SettlesEndSettled a
