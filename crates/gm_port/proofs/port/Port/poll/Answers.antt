use Rattle.gm_port.specs.Opened.{IsPort}
use Rattle.gm_port.proofs.Ports.{poll-port}
use Rattle.gm_port.proofs.port.Port.poll.Goals as goal

pub invariant_of-self : goal.invariant_of-self
invariant_of-self c =
    poll-port c.self.inside.sends c.self.inside.buffers c.self.inside.events c.self.invariant c.pop.new.self c.pop.ensures.rest

pub returns-clause-one_owner : goal.returns-clause-one_owner
returns-clause-one_owner c =
    let kept : IsPort c.self.inside.sends c.self.inside.buffers c.pop.new.self = poll-port c.self.inside.sends c.self.inside.buffers c.self.inside.events c.self.invariant c.pop.new.self c.pop.ensures.rest in
    kept.one_owner
