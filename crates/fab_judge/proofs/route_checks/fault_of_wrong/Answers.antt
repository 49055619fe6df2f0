use Rattle.std.proofs.Common.{◌+◌, refl, ap, ◌∙◌}
use Rattle.fab_judge.specs.Checks.{astray_from}
use Rattle.fab_judge.proofs.Astray.{strays, all-lead, falls}
use Rattle.fab_judge.proofs.route_checks.fault_of_wrong.Goals as goal

pub returns-in-Some-clause-fault : goal.returns-in-Some-clause-fault
returns-in-Some-clause-fault c =
    strays c.args.map.now c.args.routes.now c.args.ranks.now c.in-Some.place (c.in-Some.place + 1) c.requires.whole (c.in-Some.ensures.first ∙ ap (astray_from c.args.map.now 0) c.list.ensures.value) refl

pub returns-in-None-clause-fault : goal.returns-in-None-clause-fault
returns-in-None-clause-fault c =
    falls c.args.map.now c.args.routes.now c.args.ranks.now c.last_place.result c.requires.whole
    (all-lead c.args.map.now 0 c.args.routes.now (c.in-None.ensures.first ∙ ap (astray_from c.args.map.now 0) c.list.ensures.value)) c.requires.wrong c.last_place.ensures
