use Rattle.std.proofs.Common.{◌<◌, sym, ◌∙◌, arith}
use Rattle.gm_conn.specs.Halves.{finished}
use Rattle.gm_conn.proofs.OneLane.{same-at-first, same-without, oldest-there}
use Rattle.gm_conn.proofs.used_lane.drop_finished.Goals as goal

pub loop-init : goal.loop-init
loop-init c = same-at-first _

pub unreachable-requires : goal.unreachable-requires
unreachable-requires c =
    let left = c.loop.invariant.left in
    let more : c.loop.counter < c.args.count = omega arith in
    let all = c.requires in
    let up : 0 < finished c.loop.sender = omega (arith, left, more, all) in
    oldest-there c.loop.sender up (sym c.take_finished.ensures.oldest ∙ c.in-None.is)

pub loop-preserved : goal.loop-preserved
loop-preserved c =
    let more : c.loop.counter < c.args.count = omega arith in
    same-without c.loop.counter c.args.count _ _ _ c.loop.invariant c.in_order.ensures more c.requires c.take_finished.ensures.new
