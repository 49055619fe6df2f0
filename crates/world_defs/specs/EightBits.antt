-- Flips of eight bits: a pattern is a byte. With more bits a flip could leave a packet's CRC right.
use Rattle.std.specs.Prelude.{◌<◌}
use Rattle.std.specs.List.{AllByRecursion}
use Rattle.world_defs.specs.declared.event.Event.{Event}
use Rattle.world_defs.specs.declared.event.Event.TheVariants.{Flip}
use Rattle.world_defs.specs.declared.fault.Fault.{Fault}
use Rattle.world_defs.specs.declared.fault.Fault.TheVariants.{Flip as FlipFault}
use Rattle.world_defs.specs.World.{WorldState}

-- a fault is no flip, or its pattern has eight bits
abbrev pub IsByteFault : Fault → Type 0
IsByteFault (FlipFault bit pattern) = pattern < 256
IsByteFault _ = Unit {0}

-- an event is no flip, or its pattern has eight bits
abbrev pub IsByteEvent : Event → Type 0
IsByteEvent (Flip c bit pattern) = pattern < 256
IsByteEvent _ = Unit {0}

-- each planned flip has a pattern of eight bits
abbrev pub HasByteFaults : WorldState → Type 0
HasByteFaults w = AllByRecursion (λ f. IsByteFault f.1) w.plan
