-- The commands and events that one form of words says, by the word in front of it.
use Rattle.std.specs.Prelude.{ℕ}
use Rattle.net_defs.specs.declared.vertex.End.{End}
use Rattle.duo_defs.specs.declared.event.DuoEvent.{DuoEvent}
use Rattle.run_defs.specs.declared.command.Command.{Command}
use Rattle.run_defs.specs.declared.command.StepLine.{StepLine}
use Rattle.fab_script.specs.declared.port_lines.PortCall.{PortCall}
use Rattle.fab_script.specs.declared.port_lines.PortCall.TheVariants.{Close, Poll, Tokens}
use Rattle.fab_script.specs.declared.duo_lines.AtEnd.{AtEnd}
use Rattle.fab_script.specs.declared.duo_lines.AtEnd.TheVariants.{Emit, Expire, Poll as PollEnd, Restart}
use Rattle.fab_script.specs.declared.step_lines.HostStep.{HostStep}
use Rattle.fab_script.specs.declared.step_lines.HostStep.TheVariants.{Inject, GiveUp}
use Rattle.fab_script.specs.declared.step_lines.EndStep.{EndStep}
use Rattle.fab_script.specs.declared.step_lines.EndStep.TheVariants.{Advance, Lose, Repeat, Hold, Reset}

-- what is asked of a host's port
abbrev pub port_command : PortCall → ℕ → ℕ → Command
port_command Close = λ h p. Command.Close h p
port_command Poll = λ h p. Command.Poll h p
port_command Tokens = λ h p. Command.Tokens h p

-- an event at a host
abbrev pub host_step : HostStep → ℕ → StepLine
host_step Inject = λ h. StepLine.Inject h
host_step GiveUp = λ h. StepLine.GiveUp h

-- an event on the channel that leaves by an end
abbrev pub end_step : EndStep → End → StepLine
end_step Advance = λ e. StepLine.Advance e
end_step Lose = λ e. StepLine.Lose e
end_step Repeat = λ e. StepLine.Repeat e
end_step Hold = λ e. StepLine.Hold e
end_step Reset = λ e. StepLine.Reset e

-- an event at one of the two hosts that restart
abbrev pub duo_event : AtEnd → ℕ → DuoEvent
duo_event Emit = λ x. DuoEvent.Emit x
duo_event Expire = λ x. DuoEvent.Expire x
duo_event PollEnd = λ x. DuoEvent.Poll x
duo_event Restart = λ x. DuoEvent.Restart x
