-- The fabric of a world, after the planned pull of an injection, and after a plug that the links may not take.
use Rattle.std.specs.Prelude.{Option, Some, Result, Ok}
use Rattle.net_defs.specs.declared.vertex.End.{End}
use Rattle.net_defs.specs.Network.{Network}
use Rattle.port_graph.specs.Removing.{without_cable}
use Rattle.world_defs.specs.declared.effect.Effect.{Effect}
use Rattle.world_defs.specs.declared.effect.Effect.TheVariants.{Injected, Said}

-- the cable of a pull that was planned for an injection is gone where that came about
abbrev pub struck_fabric : Network → Option End → Effect → Network
struck_fabric n (Some at) (Injected number) = without_cable n at
struck_fabric n _ _ = n

-- the cable at a port stays where the links took it, and else is gone
abbrev pub kept_fabric : {E : Type 0} → Network → End → Result Effect E → Network
kept_fabric n at (Ok (Said said)) = n
kept_fabric n at _ = without_cable n at
