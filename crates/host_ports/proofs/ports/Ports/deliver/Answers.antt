use Rattle.gm_defs.specs.Port.{delivered}
use Rattle.host_ports.proofs.Places.{open-changed, kept-open}
use Rattle.host_ports.proofs.ports.Ports.deliver.Goals as goal

pub invariant_of-self : goal.invariant_of-self
invariant_of-self c =
    kept-open c.self.inside.host c.self.inside.ports.items c.args.h.now.dport c.from.result c.index_mut.result.now c.in-Some.open c.deliver.new.self (λ s. delivered s c.args.h.now c.args.part.now)
    c.self.invariant c.requires.port c.from.ensures c.index_mut.ensures.value c.in-Some.is c.deliver.ensures.delivered

pub returns : goal.returns
returns c =
    open-changed c.args.self.now c.self.inside.host c.self.inside.ports.items c.args.h.now.dport c.from.result c.index_mut.result.now c.in-Some.open c.deliver.new.self
    (λ s. delivered s c.args.h.now c.args.part.now) c.self.view_is c.self.invariant c.requires.port c.from.ensures c.index_mut.ensures.value c.in-Some.is c.deliver.ensures.delivered
