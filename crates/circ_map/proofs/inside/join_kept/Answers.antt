use Rattle.std.proofs.Common.{◌∙◌}
use Rattle.circ_map.proofs.Fitting.{joins-fit}
use Rattle.circ_map.proofs.Keeping.{cables-next}
use Rattle.circ_map.proofs.inside.join_kept.Goals as goal

pub loop-k-preserved : goal.loop-k-preserved
loop-k-preserved c = record {
  vertices = c.in_ok-join.ensures.vertices ∙ c.loop-k.invariant.vertices;
  cables = cables-next c.args.kept.now c.args.m.now.cables c.loop-k.map.cables c.join.new.map.cables c.loop-k.k c.cable_at-c.result c.number_in.result c.number_in-in-loop-k.result c.cable_at-c.ensures c.loop-k.invariant.cables c.number_in.ensures c.number_in-in-loop-k.ensures c.in_ok-join.ensures.cables;
  core = c.in_ok-join.ensures.core ∙ c.loop-k.invariant.core;
}

pub join-requires : goal.join-requires
join-requires c =
    joins-fit c.args.m.now c.args.kept.now c.loop-k.k c.cable_at-c.result c.cables-k-end.ensures.is_map c.cable_at-c.ensures c.number_in.result c.number_in-in-loop-k.result c.loop-k.map
    c.number_in.ensures c.number_in-in-loop-k.ensures c.loop-k.invariant.vertices c.loop-k.invariant.cables
