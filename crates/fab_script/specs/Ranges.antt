-- Commands over a fabric: they name hosts and ends that it has, and their numbers are in the ranges of the grammar.
use Rattle.std.specs.Prelude.{◌≡◌, ℕ, ◌≤◌, true, None}
use Rattle.net_defs.specs.declared.vertex.Vertex.TheVariants.{Host}
use Rattle.net_defs.specs.declared.vertex.End.{End}
use Rattle.net_defs.specs.Network.{Network, has_vertex, has_port}
use Rattle.net_defs.specs.Turn.{walk_refusal}
use Rattle.duo_defs.specs.declared.event.DuoEvent.{DuoEvent}
use Rattle.duo_defs.specs.declared.event.DuoEvent.TheVariants.{Send as DuoSend, Provide as DuoProvide, Emit, Deliver}
use Rattle.duo_defs.specs.declared.event.DuoEvent.TheVariants.{Expire as DuoExpire, Poll as DuoPoll, Restart}
use Rattle.run_defs.specs.declared.command.Command.{Command}
use Rattle.run_defs.specs.declared.command.Command.TheVariants.{Walk, Map, Circuit, Routes, Install, Begin, Close}
use Rattle.run_defs.specs.declared.command.Command.TheVariants.{Poll, Tokens, Provide, Send, Plan, Step, Settle, Finish}
use Rattle.run_defs.specs.declared.command.Command.TheVariants.{Duo, Pull, Plug, Revoke, Broken}
use Rattle.run_defs.specs.declared.command.PlanKind.{PlanKind}
use Rattle.run_defs.specs.declared.command.PlanKind.TheVariants.{Lose as PlanLose, Repeat as PlanRepeat}
use Rattle.run_defs.specs.declared.command.PlanKind.TheVariants.{Hold as PlanHold, Flip as PlanFlip, Pull as PlanPull}
use Rattle.run_defs.specs.declared.command.StepLine.{StepLine}
use Rattle.run_defs.specs.declared.command.StepLine.TheVariants.{Inject, GiveUp, Advance, Lose, Repeat, Hold, Reset}
use Rattle.run_defs.specs.declared.command.StepLine.TheVariants.{Flip, Expire, Replay}

-- the fabric has the host
abbrev pub IsHost : Network → ℕ → Type 0
IsHost n h = has_vertex n (Host h) ≡ true

-- the fabric has the end
abbrev pub IsEnd : Network → End → Type 0
IsEnd n e = has_port n e ≡ true

-- a number is in a range
abbrev pub IsWithin : ℕ → ℕ → ℕ → Type 0
IsWithin least most v = (least ≤ v) × (v ≤ most)

-- a flip has a first bit and a pattern in their ranges
abbrev pub IsFlip : ℕ → ℕ → Type 0
IsFlip bit pattern = IsWithin 0 10000 bit × IsWithin 1 255 pattern

-- the numbers, or the end, of a planned fault
abbrev pub IsPlanned : Network → PlanKind → Type 0
IsPlanned n PlanLose = Unit {0}
IsPlanned n PlanRepeat = Unit {0}
IsPlanned n PlanHold = Unit {0}
IsPlanned n (PlanFlip bit pattern) = IsFlip bit pattern
IsPlanned n (PlanPull at) = IsEnd n at

-- the hosts, ends and numbers of a single event
abbrev pub IsStepOf : Network → StepLine → Type 0
IsStepOf n (Inject h) = IsHost n h
IsStepOf n (GiveUp h) = IsHost n h
IsStepOf n (Advance e) = IsEnd n e
IsStepOf n (Lose e) = IsEnd n e
IsStepOf n (Repeat e) = IsEnd n e
IsStepOf n (Hold e) = IsEnd n e
IsStepOf n (Reset e) = IsEnd n e
IsStepOf n (Flip e bit pattern) = IsEnd n e × IsFlip bit pattern
IsStepOf n (Expire h peer) = IsHost n h × IsHost n peer
IsStepOf n (Replay serial) = IsWithin 0 4294967295 serial

-- the numbers of an event of the two hosts that restart
abbrev pub IsDuoOf : DuoEvent → Type 0
IsDuoOf (DuoSend x len seed) = IsWithin 0 1 x × IsWithin 0 1000000 len × IsWithin 0 255 seed
IsDuoOf (DuoProvide x size) = IsWithin 0 1 x × IsWithin 0 31 size
IsDuoOf (Emit x) = IsWithin 0 1 x
IsDuoOf (Deliver place) = IsWithin 0 4294967295 place
IsDuoOf (DuoExpire x) = IsWithin 0 1 x
IsDuoOf (DuoPoll x) = IsWithin 0 1 x
IsDuoOf (Restart x) = IsWithin 0 1 x

-- A command over a fabric: its hosts and ends are there, and its numbers are in their ranges.
abbrev pub IsCommandOf : Network → Command → Type 0
IsCommandOf n (Walk h turns) = IsHost n h × (walk_refusal turns ≡ None)
IsCommandOf n (Map h depth tries) = IsHost n h × IsWithin 1 32 depth × IsWithin 1 8 tries
IsCommandOf n (Circuit h depth) = IsHost n h × IsWithin 1 32 depth
IsCommandOf n Routes = Unit {0}
IsCommandOf n (Install tries) = IsWithin 1 8 tries
IsCommandOf n (Begin h port sends recvs) = IsHost n h × IsWithin 0 7 port × IsWithin 0 64 sends × IsWithin 0 64 recvs
IsCommandOf n (Close h port) = IsHost n h × IsWithin 0 7 port
IsCommandOf n (Poll h port) = IsHost n h × IsWithin 0 7 port
IsCommandOf n (Tokens h port) = IsHost n h × IsWithin 0 7 port
IsCommandOf n (Provide h port size prio) = IsHost n h × IsWithin 0 7 port × IsWithin 0 31 size × IsWithin 0 1 prio
IsCommandOf n (Send h port dest dport prio len seed) =
    IsHost n h × IsHost n dest × IsWithin 0 7 port × IsWithin 0 7 dport × IsWithin 0 1 prio × IsWithin 0 1000000 len
    × IsWithin 0 255 seed
IsCommandOf n (Plan ahead kind) = IsWithin 1 1000000000 ahead × IsPlanned n kind
IsCommandOf n (Step line) = IsStepOf n line
IsCommandOf n Settle = Unit {0}
IsCommandOf n Finish = Unit {0}
IsCommandOf n (Duo e) = IsDuoOf e
IsCommandOf n (Pull at) = IsEnd n at
IsCommandOf n (Plug a b) = IsEnd n a × IsEnd n b
IsCommandOf n Revoke = Unit {0}
IsCommandOf n Broken = Unit {0}
