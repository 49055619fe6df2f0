use Rattle.std.proofs.Common.{sym}
use Rattle.net_defs.specs.declared.vertex.Vertex.TheVariants.{Switch}
use Rattle.world_defs.proofs.ForLife.{leaving_has_its_end}
use Rattle.link_model.proofs.course.course_out.Goals as goal

pub course_by_channel-requires : goal.course_by_channel-requires
course_by_channel-requires c =
    (leaving_has_its_end c.args.wiring.now (record { v = Switch c.args.s; p = c.in-Out.p }) c.in-Some.next (sym c.in-Some.ensures)).there
