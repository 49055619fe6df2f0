use Rattle.std.proofs.Common.{◌∙◌, ap}
use Rattle.world_defs.specs.History.{fabric_at}
use Rattle.fab_remap.specs.Remap.{broken_pairs, stuck_pairs}
use Rattle.fab_remap.proofs.Crossing.{pairs-some, pairs-none, pairs-told}
use Rattle.fab_remap.proofs.broken_routes.broken.Goals as goal

pub returns-in-Some : goal.returns-in-Some
returns-in-Some c =
    let w = c.args.w.now in
    let same = pairs-some (fabric_at w.links.cables 0) w c.in-Some.set.now c.reached.ensures c.list.ensures.rising c.in-Some.ensures in
    pairs-told c.stuck_pairs.result (stuck_pairs w c.list.result.now) (broken_pairs w) (ap (stuck_pairs w) c.list.ensures.value ∙ same) c.stuck_pairs.ensures

pub returns-in-None : goal.returns-in-None
returns-in-None c = c.new-in-None.ensures ∙ c.new.ensures.items ∙ pairs-none c.args.w.now c.in-None.ensures
