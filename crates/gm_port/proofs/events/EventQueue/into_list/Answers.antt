use Rattle.std.proofs.Common.{◌≡◌, map, subst, ◌∙◌}
use Rattle.gm_port.specs.Held.{Events, event_at}
use Rattle.gm_port.proofs.Listed.{own-events}
use Rattle.gm_port.proofs.events.EventQueue.into_list.Goals as goal

pub returns : goal.returns
returns c =
    subst (λ (q : Events). c.into_vec.result.items ≡ map (event_at q.host q.port) q.events) c.self.view_is (c.into_vec.ensures.items ∙ own-events c.self.inside.host c.self.inside.port c.self.inside.events.items c.self.invariant.own)
