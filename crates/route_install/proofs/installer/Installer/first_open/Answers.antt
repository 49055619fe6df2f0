use Rattle.std.proofs.Common.{List, ap, sym, ◌∙◌}
use Rattle.std.specs.Prelude.{slice_get}
use Rattle.route_install.specs.declared.installer.Work.{Work}
use Rattle.route_install.specs.Installing.{Installation, is_done, first_open}
use Rattle.route_install.proofs.Works.{first-at, open-room}
use Rattle.route_install.proofs.installer.Installer.first_open.Goals as goal

pub returns-clause-value : goal.returns-clause-value
returns-clause-value c =
    let ws : List Work = c.self.inside.works.items in
    let i : Installation = record { tries = c.self.inside.tries; works = ws } in
    c.work_at.ensures
    ∙ ap (λ (l : List Work). slice_get l c.self.inside.at) c.deref.ensures.value
    ∙ sym (first-at (is_done i.tries) c.self.inside.at ws c.self.invariant.is_at)
    ∙ ap first_open c.self.view_is

pub returns-clause-room : goal.returns-clause-room
returns-clause-room c =
    let ws : List Work = c.self.inside.works.items in
    let i : Installation = record { tries = c.self.inside.tries; works = ws } in
    let value = c.work_at.ensures ∙ ap (λ (l : List Work). slice_get l c.self.inside.at) c.deref.ensures.value ∙ sym (first-at (is_done i.tries) c.self.inside.at ws c.self.invariant.is_at) in
    open-room i c.work_at.result value c.self.invariant.few_tries
