use Rattle.std.proofs.Common.{◌∙◌, sym, ap}
use Rattle.host_ports.specs.Held.{state_at}
use Rattle.host_ports.proofs.Places.{slot-is}
use Rattle.host_ports.proofs.ports.Ports.at.Goals as goal

pub returns-in-Some-clause-open : goal.returns-in-Some-clause-open
returns-in-Some-clause-open c =
    sym (slot-is c.args.self.now c.self.inside.host c.self.inside.ports.items c.args.port c.from.result c.index.result.now c.self.view_is c.self.invariant c.requires c.from.ensures c.index.ensures)
    ∙ ap state_at c.in-Some.is

pub returns-in-None-clause-closed : goal.returns-in-None-clause-closed
returns-in-None-clause-closed c =
    sym (slot-is c.args.self.now c.self.inside.host c.self.inside.ports.items c.args.port c.from.result c.index.result.now c.self.view_is c.self.invariant c.requires c.from.ensures c.index.ensures)
    ∙ ap state_at c.in-None.is
