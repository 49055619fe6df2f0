use Rattle.std.proofs.Common.{◌≡◌, drop}
use Rattle.net_defs.specs.Network.{far}
use Rattle.net_defs.specs.Route.{host_port, entered_after}
use Rattle.world_defs.specs.History.{fabric_left}
use Rattle.fab_remap.proofs.broken_routes.end_of.Given as goal

abbrev pub invariant-loop-turn : goal.invariant-loop-turn
invariant-loop-turn l =
    entered_after (fabric_left l.w.links.cables) l.entered (drop l.turn-index l.turns)
    ≡ entered_after (fabric_left l.w.links.cables) (far (fabric_left l.w.links.cables) (host_port l.host)) l.turns
