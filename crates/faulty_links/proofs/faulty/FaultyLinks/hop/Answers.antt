use Rattle.std.proofs.Common.{refl}
use Rattle.faulty_links.specs.Held.{LinksAndPlan, part_of}
use Rattle.faulty_links.proofs.Parts.{hops}
use Rattle.faulty_links.proofs.faulty.FaultyLinks.hop.Goals as goal

pub returns : goal.returns
returns c =
    let p : LinksAndPlan = part_of c.self.inside.links c.self.inside.plan c.self.inside.counts in
    hops c.args.self.now p _ c.args.c c.hop.result c.hop.new.self c.self.view_is c.hop.ensures refl
