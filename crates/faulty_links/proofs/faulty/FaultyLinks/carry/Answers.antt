use Rattle.std.proofs.Common.{subst}
use Rattle.link_model.specs.Carried.{IsCarried}
use Rattle.faulty_links.specs.Held.{LinksAndPlan}
use Rattle.faulty_links.proofs.faulty.FaultyLinks.carry.Goals as goal

pub returns : goal.returns
returns c =
    subst (λ (p : LinksAndPlan). IsCarried p.links c.args.c c.args.packet.now c.carry.result.hops c.carry.result.end c.carry.new.packet) c.self.view_is c.carry.ensures
