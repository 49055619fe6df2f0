use Rattle.std.proofs.Common.{ap, sym, subst, ◌∙◌, ◌<◌, length}
use Rattle.port_graph.specs.Routes.{HandsBack}
use Rattle.world_defs.specs.World.{WorldState, fabric_of, host_count, standing_of}
use Rattle.adopted_routes.specs.Adopting.{IsAdoptable, adopt_refusal}
use Rattle.adopted_routes.specs.declared.routes.AdoptRefusal.{AdoptRefusal}
use Rattle.fab_world.proofs.Reaching.{adopt-reached}
use Rattle.fab_world.proofs.Moments.{IsAdopting, adopt-leaves}
use Rattle.fab_world.proofs.world.World.adopt.Goals as goal

may : (c : goal.After-adopt) → IsAdoptable (fabric_of c.self.inside.machine) c.args.mapper c.args.set
may c = subst (λ v. IsAdoptable (fabric_of v) c.args.mapper c.args.set) (sym c.self.view_is) c.requires.adoptable

-- what the adoption leaves
left : (c : goal.After-adopt) → IsAdopting c.self.inside.machine c.adopt.new.self
left c =
    adopt-leaves c.self.inside.machine c.adopt.new.self c.args.mapper c.args.set c.adopt.result c.self.invariant.0
    (subst (λ v. c.args.mapper < host_count v) (sym c.self.view_is) c.requires.there) c.list-rising.ensures.rising c.list-rising.ensures.short (may c) c.adopt.ensures.adopted c.adopt.ensures.unchanged

pub invariant_of-self : goal.invariant_of-self
invariant_of-self c = (
  (left c).moment,
  c.self.invariant.1 ∙ sym (left c).fabric,
  adopt-reached c.self.inside.machine c.adopt.new.self c.args.mapper c.args.set c.adopt.result c.self.invariant.2 (may c) c.adopt.ensures.refused c.adopt.ensures.adopted c.adopt.ensures.unchanged,
)

pub returns-clause-refused : goal.returns-clause-refused
returns-clause-refused c =
    subst (λ (w : WorldState). HandsBack (adopt_refusal (standing_of w) c.args.set w.adopted) AdoptRefusal.NoMemory c.args.set c.adopt.result) c.self.view_is c.adopt.ensures.refused

pub returns-clause-fabric : goal.returns-clause-fabric
returns-clause-fabric c = (left c).fabric ∙ ap fabric_of c.self.view_is

pub returns-clause-hosts : goal.returns-clause-hosts
returns-clause-hosts c = (left c).hosts ∙ ap host_count c.self.view_is

pub returns-clause-channels : goal.returns-clause-channels
returns-clause-channels c = (left c).channels ∙ ap (λ (v : WorldState). length v.links.channels) c.self.view_is
