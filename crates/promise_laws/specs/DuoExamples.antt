-- What lines `duo received` show of two incarnations, worked out.
use Rattle.std.specs.Prelude.{◌≡◌, List, [], ◌∷◌}
use Rattle.duo_defs.specs.declared.event.DuoEvent.TheVariants.{Send, Provide, Emit, Deliver, Poll, Restart}
use Rattle.duo_defs.specs.declared.effect.DuoEffect.TheVariants.{Token, Emitted, Hello, Message, Received, Nothing}
use Rattle.duo_defs.specs.declared.effect.DuoEffect.TheVariants.{Restarted}
use Rattle.duo_defs.specs.Duo.{plain_message, new_duo}
use Rattle.duo_defs.specs.Step.{after_all}
use Rattle.duo_laws.specs.Polled.{effects_of, all_got}
use Rattle.run_defs.specs.declared.command.Command.{Command}
use Rattle.run_defs.specs.declared.command.Command.TheVariants.{Duo, Finish}
use Rattle.run_defs.specs.declared.line.Line.TheVariants.{Duo as DuoLine, Finish as FinishLine}
use Rattle.run_defs.specs.Output.{Piece, lines}
use Rattle.promise_laws.specs.DuoPolls.{duo_events, duo_effects, shown_to, taken_from}

-- host 0 sends host 1 one byte, which polls it, restarts, and polls again; a command of the fabric stands between
abbrev pub duo_commands : List Command
duo_commands =
    Duo (Provide 1 4) ∷ Duo (Send 0 1 65) ∷ Duo (Emit 0) ∷ Duo (Deliver 0) ∷ Duo (Emit 1) ∷ Duo (Deliver 1)
    ∷ Duo (Emit 0)
    ∷ Duo (Deliver 2)
    ∷ Finish
    ∷ Duo (Poll 1)
    ∷ Duo (Restart 1)
    ∷ Duo (Poll 1)
    ∷ []

-- what they print
abbrev pub duo_output : List Piece
duo_output = lines
    (DuoLine (Token 0) ∷ DuoLine (Token 0) ∷ DuoLine (Emitted 0) ∷ DuoLine Hello ∷ DuoLine (Emitted 1) ∷ DuoLine Hello
    ∷ DuoLine (Emitted 2)
    ∷ DuoLine Message
    ∷ FinishLine 0 0
    ∷ DuoLine (Received 0 (65 ∷ []))
    ∷ DuoLine (Restarted 2)
    ∷ DuoLine Nothing
    ∷ [])

-- the lines say what the events do; host 1 is shown its message as incarnation 1 alone, which got it; the restart took
-- nothing
abbrev pub DuoMessageIsInLines : Type 0
DuoMessageIsInLines =
    (duo_effects duo_output ≡ effects_of (new_duo 1) (duo_events duo_commands))
    × (shown_to 1 1 duo_commands duo_output ≡ (65 ∷ []) ∷ [])
    × (shown_to 1 2 duo_commands duo_output ≡ [])
    × (shown_to 0 1 duo_commands duo_output ≡ [])
    × (taken_from 1 1 duo_commands ≡ [])
    × (all_got (after_all (new_duo 1) (duo_events duo_commands)) 1 1 ≡ plain_message (65 ∷ []) ∷ [])
