use Rattle.std.proofs.Common.{◌≡◌, true, is_some, ap, sym, subst, ◌∙◌}
use Rattle.world_defs.specs.Node.{to_send}
use Rattle.world_defs.specs.World.{node_at}
use Rattle.nic_node.specs.Sending.{chosen}
use Rattle.fab_world.proofs.First.{kept-idle, free-goes}
use Rattle.fab_world.proofs.machine.Machine.inject_into.Goals as goal

pub returns-then-is_kept_out-clause-ok : goal.returns-then-is_kept_out-clause-ok
returns-then-is_kept_out-clause-ok c = kept-idle c.args.self.now c.args.host c.args.c (sym c.is_kept_out.ensures ∙ c.if-is_kept_out.true)

pub send-requires-clause-first : goal.send-requires-clause-first
send-requires-clause-first c =
    subst (λ n. chosen c.args.host n c.in-Some.next ≡ to_send c.args.host n) c.at.ensures.state
    (subst (λ h. chosen h c.at.result.now.state c.in-Some.next ≡ to_send h c.at.result.now.state) c.at.ensures.host c.in-Some.ensures.first)

pub send-requires-clause-some : goal.send-requires-clause-some
send-requires-clause-some c =
    subst (λ n. is_some (chosen c.args.host n c.in-Some.next) ≡ true) c.at.ensures.state
    (subst (λ h. is_some (chosen h c.at.result.now.state c.in-Some.next) ≡ true) c.at.ensures.host c.in-Some.ensures.there)

pub send-requires-clause-may : goal.send-requires-clause-may
send-requires-clause-may c =
    let some : is_some (to_send c.args.host (node_at c.args.self.now c.args.host)) ≡ true =
    subst (λ n. is_some (to_send c.args.host n) ≡ true) c.at.ensures.state
    (subst (λ h. is_some (to_send h c.at.result.now.state) ≡ true) c.at.ensures.host (sym (ap is_some c.in-Some.ensures.first) ∙ c.in-Some.ensures.there)) in
    free-goes c.args.self.now c.args.host c.args.c (sym c.is_kept_out.ensures ∙ c.if-is_kept_out.false) some
