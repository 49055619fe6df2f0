use Rattle.std.proofs.Common.{refl, ◌≡◌, arith, ◌∙◌, sym, subst}
use Rattle.world_defs.specs.Node.{lane_count}
use Rattle.gm_conn.specs.Sets.{AreBare}
use Rattle.gm_conn.proofs.Places.{AreFirst, first-none}
use Rattle.gm_conn.proofs.Noted.{first-told}
use Rattle.gm_conn.proofs.lanes.Lanes.new.Goals as goal

pub loop-lane-init : goal.loop-lane-init
loop-lane-init c = record {
  first = subst (AreFirst c.args.host 0) (sym c.in_ok-lanes.ensures.items) (first-none c.args.host);
  len = c.in_ok-lanes.ensures.len;
  room = c.in_ok-lanes.ensures.exact ∙ refl;
}

pub invariant_of-result : goal.invariant_of-result
invariant_of-result c =
    let end = c.loop-lane.auto.lane-end in
    let past = c.loop-lane-test.false in
    let count = c.lane_count-count.ensures.number in
    let all : c.loop-lane.lane ≡ lane_count c.args.hosts = omega (arith, end, past, count) in
    first-told c.args.host c.args.hosts c.loop-lane.lane c.loop-lane.lanes.items c.in_ok-sets.sets all c.loop-lane.invariant.first
    (subst (AreBare c.in_ok-sets.sets) (count ∙ sym all) c.in_ok-sets.ensures)
