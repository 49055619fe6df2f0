use Rattle.std.proofs.Common.{◌∙◌}
use Rattle.gm_port.proofs.Queue.{count-seen}
use Rattle.gm_port.proofs.sends.SendQueue.len.Goals as goal

pub returns : goal.returns
returns c = c.len.ensures ∙ count-seen _ _ c.self.inside.places c.self.inside.listed c.self.invariant c.args.self.now c.self.view_is
