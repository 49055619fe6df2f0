use Rattle.std.proofs.Common.{◌≡◌, drop}
use Rattle.net_defs.specs.declared.vertex.Vertex.TheVariants.{Host}
use Rattle.net_defs.specs.Network.{far}
use Rattle.net_defs.specs.Route.{entered_after, IsEntered}
use Rattle.port_graph.proofs.fabric.Fabric.walk.Given as goal

abbrev pub invariant-loop-turn : goal.invariant-loop-turn
invariant-loop-turn l = record {
  same : entered_after l.self l.entered (drop l.turn-index l.turns) ≡ entered_after l.self (far l.self (record { v = Host l.host; p = 0 })) l.turns;
  there : IsEntered l.self l.entered;
}
