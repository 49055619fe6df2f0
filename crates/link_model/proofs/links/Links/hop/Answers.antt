use Rattle.std.proofs.Common.{refl, sym}
use Rattle.world_defs.specs.Links.{packet_in}
use Rattle.link_model.proofs.Turning.{goes-into, goes-nowhere}
use Rattle.link_model.proofs.links.Links.hop.Goals as goal

pub pass-requires-clause-course : goal.pass-requires-clause-course
pass-requires-clause-course c = goes-into c.args.self.now c.args.c c.in-Some.next (packet_in c.args.self.now c.args.c) (sym c.in-Some.ensures)

pub returns-in-None : goal.returns-in-None
returns-in-None c = (refl, goes-nowhere c.args.self.now c.args.c (packet_in c.args.self.now c.args.c) (sym c.in-None.ensures))
