use Rattle.std.proofs.Common.{map, subst, ◌≡◌, ◌∙◌}
use Rattle.gm_port.specs.Held.{Buffers, receive_at}
use Rattle.gm_port.proofs.Listed.{own-list}
use Rattle.gm_port.proofs.buffers.BufferList.into_list.Goals as goal

pub returns : goal.returns
returns c =
    subst (λ (b : Buffers). c.list_provided.result.items ≡ map (receive_at b.host b.port) b.provided) c.self.view_is (c.list_provided.ensures ∙ own-list c.self.inside.host c.self.inside.port c.self.inside.provided.items c.self.invariant.0.own)
