-- What a run's lines `duo received` show, against what each incarnation of the two hosts got.
use Rattle.std.specs.Prelude.{◌≡◌, ℕ, ◌<◌, List, [], ◌∷◌, ◌++◌, Option}
use Rattle.std.specs.List.{AllByRecursion}
use Rattle.net_defs.specs.Network.{Network}
use Rattle.duo_defs.specs.declared.event.DuoEvent.{DuoEvent}
use Rattle.duo_defs.specs.declared.effect.DuoEffect.{DuoEffect}
use Rattle.duo_defs.specs.Duo.{DuoState, new_duo}
use Rattle.duo_defs.specs.Step.{after_all}
use Rattle.duo_laws.specs.Polled.{effects_of, handed_in, lost_in, IsAllGot}
use Rattle.run_defs.specs.declared.command.Command.{Command}
use Rattle.run_defs.specs.declared.command.Command.TheVariants.{Duo}
use Rattle.run_defs.specs.declared.line.Line.{Line}
use Rattle.run_defs.specs.declared.line.Line.TheVariants.{Duo as DuoLine}
use Rattle.run_defs.specs.Duos.{begun}
use Rattle.run_defs.specs.Output.{Piece, OneLine, MapLines}
use Rattle.run_defs.specs.Session.{SessionState}
use Rattle.run_defs.specs.Run.{IsRun}
use Rattle.fab_script.specs.Ranges.{IsCommandOf}

-- the event of a command, where it is one of the two hosts
abbrev pub duo_event : Command → List DuoEvent
duo_event (Duo e) = e ∷ []
duo_event _ = []

-- the events of commands, in order
abbrev pub duo_events : List Command → List DuoEvent
duo_events [] = []
duo_events (c ∷ cs) = duo_event c ++ duo_events cs

-- what a line says that such an event did
abbrev pub duo_effect : Line → List DuoEffect
duo_effect (DuoLine effect) = effect ∷ []
duo_effect _ = []

-- what lines say, in order
abbrev pub duo_effects : List Piece → List DuoEffect
duo_effects [] = []
duo_effects (OneLine l ∷ out) = duo_effect l ++ duo_effects out
duo_effects (MapLines m ∷ out) = duo_effects out

-- the messages that the lines `duo received` show of a host as incarnation j, in order
abbrev pub shown_to : ℕ → ℕ → List Command → List Piece → List (List ℕ)
shown_to x j commands out = handed_in x j 1 (duo_events commands) (duo_effects out)

-- the messages that a restart took from it, unread
abbrev pub taken_from : ℕ → ℕ → List Command → List (List ℕ)
taken_from x j commands = lost_in x j (new_duo 1) (duo_events commands)

-- What a run's lines say of the two hosts: each of their commands has one line, which says what its event did, and
-- these events lead to the two hosts as they are then. For each host and each of its incarnations, the messages that
-- the lines `duo received` show, then those that its restart took unread, then those that wait still, are exactly what
-- it got.
pub record AreReceivedAsGot (commands : List Command) (out : List Piece) (last : Option DuoState) : Type 0 where
  pub effects : duo_effects out ≡ effects_of (new_duo 1) (duo_events commands)
  pub leads : begun last ≡ after_all (new_duo 1) (duo_events commands)
  pub messages : (x j : ℕ) → x < 2
      → IsAllGot (begun last) x j (shown_to x j commands out) (taken_from x j commands)

-- so it is after every run
abbrev pub DuoLinesShowWhatIsGot : Type 0
DuoLinesShowWhatIsGot =
    (n : Network) (commands : List Command) (out : List Piece) (last : SessionState)
    → AllByRecursion (IsCommandOf n) commands → IsRun n commands out last → AreReceivedAsGot commands out last.duo
