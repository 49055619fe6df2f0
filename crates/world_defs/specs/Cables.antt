-- Which events may change the cables.
use Rattle.std.specs.Prelude.{Bool, true, false}
use Rattle.world_defs.specs.declared.event.Event.{Event}
use Rattle.world_defs.specs.declared.event.Event.TheVariants.{Inject, Pull, Plug}

-- an event joins two ports
abbrev pub is_plug : Event → Bool
is_plug (Plug a b) = true
is_plug _ = false

-- an event may change the cables: it pulls or plugs one, or it is an injection, at which a planned pull may strike
abbrev pub is_of_cables : Event → Bool
is_of_cables (Inject h) = true
is_of_cables (Pull at) = true
is_of_cables (Plug a b) = true
is_of_cables _ = false
