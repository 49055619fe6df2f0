use Rattle.std.proofs.Common.{◌≡◌, ap, sym, subst, ◌∙◌}
use Rattle.std.specs.Prelude.{Some, IfSome}
use Rattle.world_defs.specs.World.{host_count}
use Rattle.adopted_routes.specs.declared.routes.PartToSend.{PartToSend}
use Rattle.adopted_routes.specs.Adopting.{IsSetOfHosts, part_to_send}
use Rattle.fab_world.proofs.HostEvents.{part-sent, sender-there}
use Rattle.fab_world.proofs.machine.Machine.part.Goals as goal

pub stage_part-requires-clause-there : goal.stage_part-requires-clause-there
stage_part-requires-clause-there c =
    let sent : PartToSend = c.in-Some.sent in
    let sends : Some sent ≡ part_to_send c.self.inside.adopted c.args.dst c.args.part = sym c.in-Some.is ∙ c.in_ok-sent.ensures.value in
    sender-there (host_count c.args.self.now) c.args.dst c.args.part c.self.inside.adopted sent
    (subst (λ a. IfSome a (IsSetOfHosts (host_count c.args.self.now))) (sym (ap (λ v. v.adopted) c.self.view_is)) c.requires) sends

pub returns-in-Some-clause-ok : goal.returns-in-Some-clause-ok
returns-in-Some-clause-ok c =
    let sent : PartToSend = c.in-Some.sent in
    let sends : Some sent ≡ part_to_send c.self.inside.adopted c.args.dst c.args.part = sym c.in-Some.is ∙ c.in_ok-sent.ensures.value in
    part-sent c.args.self.now c.args.dst c.args.part c.self.inside.adopted sent _ (sym (ap (λ v. v.adopted) c.self.view_is)) sends c.stage_part.ensures
