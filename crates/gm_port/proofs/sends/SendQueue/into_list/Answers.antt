use Rattle.std.proofs.Common.{◌∙◌}
use Rattle.gm_port.proofs.Queue.{list-seen}
use Rattle.gm_port.proofs.sends.SendQueue.into_list.Goals as goal

pub returns : goal.returns
returns c =
    c.into_list.ensures ∙ list-seen _ _ c.self.inside.places c.self.inside.listed c.self.invariant c.args.self c.self.view_is
