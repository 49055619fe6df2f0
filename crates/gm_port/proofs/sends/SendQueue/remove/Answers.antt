use Rattle.gm_port.proofs.Queue.{held-at, remove-keeps, remove-seen, taken-seen}
use Rattle.gm_port.proofs.sends.SendQueue.remove.Goals as goal

pub take-requires : goal.take-requires
take-requires c =
    held-at _ _ c.self.inside.places c.self.inside.listed c.self.invariant c.args.self.now c.self.view_is c.args.ticket c.requires

pub invariant_of-self : goal.invariant_of-self
invariant_of-self c =
    remove-keeps _ _ c.self.inside.places c.self.inside.listed c.self.invariant c.args.self.now c.self.view_is c.args.ticket c.take.result c.take.ensures.taken _ c.take.ensures.rest

pub returns-clause-sends : goal.returns-clause-sends
returns-clause-sends c =
    remove-seen _ _ c.self.inside.places c.self.inside.listed c.self.invariant c.args.self.now c.self.view_is c.args.ticket c.take.result c.take.ensures.taken _ c.take.ensures.rest

pub returns-clause-taken : goal.returns-clause-taken
returns-clause-taken c =
    taken-seen _ _ c.self.inside.places c.self.inside.listed c.self.invariant c.args.self.now c.self.view_is c.args.ticket c.take.result c.take.ensures.taken
