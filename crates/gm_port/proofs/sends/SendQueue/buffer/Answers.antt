use Rattle.std.proofs.Common.{sym, ◌∙◌}
use Rattle.gm_port.proofs.Queue.{held-at, buffer-seen}
use Rattle.gm_port.proofs.sends.SendQueue.buffer.Goals as goal

pub buffer-requires : goal.buffer-requires
buffer-requires c = held-at _ _ c.self.inside.places c.self.inside.listed c.self.invariant c.args.self.now c.self.view_is c.args.ticket c.requires

pub returns : goal.returns
returns c =
    sym (buffer-seen _ _ c.self.inside.places c.self.inside.listed c.self.invariant c.args.self.now c.self.view_is c.args.ticket c.requires) ∙ c.buffer.ensures
