use Rattle.std.proofs.Common.{ap, ◌∙◌}
use Rattle.route_install.specs.declared.installer.Work.{Work}
use Rattle.route_install.specs.Installing.{Installation, is_done, changed}
use Rattle.route_install.proofs.Works.{ack-after}
use Rattle.route_install.proofs.installer.Installer.on_ack.Goals as goal

pub returns-then-work-a-2-clause-after : goal.returns-then-work-a-2-clause-after
returns-then-work-a-2-clause-after c =
    let i : Installation = c.args.self.now in
    c.put.ensures
    ∙ ap (λ (v : Work). record i { works = changed (is_done i.tries) (λ w. v) i.works }) c.acknowledged.ensures
    ∙ ack-after i c.in-Some.work c.args.a.host c.args.a.part c.in-Some.ensures.value c.if-work-a.true c.if-work-a-2.true
