use Rattle.net_defs.specs.Route.{host_port}
use Rattle.circ_ears.specs.Taking.{HasNoCableBelow}
use Rattle.circ_ears.proofs.path_list.own_step.Given as goal

abbrev pub invariant-loop-k : goal.invariant-loop-k
invariant-loop-k l = HasNoCableBelow l.f (host_port l.host) l.k
