use Rattle.std.proofs.Common.{◌≡◌, true, not, ◌&&◌, is_some, ap, sym, ◌∙◌}
use Rattle.world_defs.specs.Crossed.{is_new}
use Rattle.world_defs.specs.Node.{to_send, has_staged}
use Rattle.world_defs.specs.World.{node_at}
use Rattle.fab_world.proofs.First.{may-first}
use Rattle.fab_world.proofs.machine.Machine.may_send.Goals as goal

pub returns-then-has_to_send : goal.returns-then-has_to_send
returns-then-has_to_send c =
    let some : is_some (to_send c.args.host (node_at c.args.self.now c.args.host)) ≡ true =
    ap (λ n. is_some (to_send c.args.host n)) (sym c.at.ensures.state) ∙ ap (λ h. is_some (to_send h c.at.result.now.state)) (sym c.at.ensures.host) ∙ sym c.has_to_send.ensures ∙ c.if-has_to_send.true in
    ap not c.is_kept_out.ensures ∙ ap (λ b. b && not (is_new c.args.self.now.links.cables c.args.c && not (has_staged (node_at c.args.self.now c.args.host)))) (sym some)
    ∙ sym (may-first c.args.self.now c.args.host c.args.c)
