use Rattle.gm_port.specs.Opened.{IsPort}
use Rattle.gm_port.proofs.Ports.{finish-room, finish-port, finish-seen}
use Rattle.gm_port.proofs.port.Port.finish.Goals as goal

pub push-requires-clause-room : goal.push-requires-clause-room
push-requires-clause-room c =
    finish-room c.self.inside.sends c.self.inside.buffers c.self.inside.events c.self.invariant c.args.ticket c.remove-token.result c.remove-token.ensures.taken

pub invariant_of-self : goal.invariant_of-self
invariant_of-self c =
    finish-port c.self.inside.sends c.self.inside.buffers c.self.inside.events c.self.invariant c.args.ticket c.remove-token.result c.remove-token.ensures.taken c.remove-token.new.self c.push.new.self c.remove-token.ensures.sends c.push.ensures

pub returns-clause-finished : goal.returns-clause-finished
returns-clause-finished c =
    finish-seen c.self.inside.sends c.self.inside.buffers c.self.inside.events c.self.invariant c.args.ticket c.remove-token.result c.remove-token.ensures.taken c.remove-token.new.self c.push.new.self c.remove-token.ensures.sends c.push.ensures c.args.self.now c.self.view_is

pub returns-clause-one_owner : goal.returns-clause-one_owner
returns-clause-one_owner c =
    let kept : IsPort c.remove-token.new.self c.self.inside.buffers c.push.new.self =
    finish-port c.self.inside.sends c.self.inside.buffers c.self.inside.events c.self.invariant c.args.ticket c.remove-token.result c.remove-token.ensures.taken c.remove-token.new.self c.push.new.self c.remove-token.ensures.sends c.push.ensures in
    kept.one_owner
