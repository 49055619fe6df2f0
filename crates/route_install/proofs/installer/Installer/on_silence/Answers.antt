use Rattle.std.proofs.Common.{ap, ◌∙◌}
use Rattle.route_install.specs.declared.installer.Work.{Work}
use Rattle.route_install.specs.Installing.{Installation, is_done, changed}
use Rattle.route_install.proofs.Works.{silence-after}
use Rattle.route_install.proofs.installer.Installer.on_silence.Goals as goal

pub returns-in-Some : goal.returns-in-Some
returns-in-Some c =
    let i : Installation = c.args.self.now in
    c.put.ensures
    ∙ ap (λ (v : Work). record i { works = changed (is_done i.tries) (λ w. v) i.works }) c.silent.ensures
    ∙ silence-after i c.in-Some.work c.in-Some.ensures.value
