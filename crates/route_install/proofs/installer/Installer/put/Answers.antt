use Rattle.std.proofs.Common.{◌≤◌, List, length, IsSome, ap, sym, subst, ◌∙◌, arith}
use Rattle.route_install.specs.declared.installer.Work.{Work}
use Rattle.route_install.specs.Installing.{Installation, is_done, first_open, changed}
use Rattle.route_install.proofs.Works.{open-within, done-next, undone-same, changed-at}
use Rattle.route_install.proofs.installer.Installer.put.Goals as goal

pub set_at-requires : goal.set_at-requires
set_at-requires c =
    let i : Installation = record { tries = c.self.inside.tries; works = c.self.inside.works.items } in
    let some : IsSome (first_open i) = subst (λ (j : Installation). IsSome (first_open j)) (sym c.self.view_is) c.requires in
    open-within (is_done i.tries) c.self.inside.at c.self.inside.works.items c.self.invariant.is_at some

pub overflow_add-self : goal.overflow_add-self
overflow_add-self c =
    let i : Installation = record { tries = c.self.inside.tries; works = c.self.inside.works.items } in
    let some : IsSome (first_open i) = subst (λ (j : Installation). IsSome (first_open j)) (sym c.self.view_is) c.requires in
    let within = open-within (is_done i.tries) c.self.inside.at c.self.inside.works.items c.self.invariant.is_at some in
    let few : length c.self.inside.works.items ≤ 128 = c.self.invariant.few_works in
    omega arith

pub invariant_of-self : goal.invariant_of-self
invariant_of-self c =
    let i : Installation = record { tries = c.self.inside.tries; works = c.self.inside.works.items } in
    let some : IsSome (first_open i) = subst (λ (j : Installation). IsSome (first_open j)) (sym c.self.view_is) c.requires in
    let within = open-within (is_done i.tries) c.self.inside.at c.self.inside.works.items c.self.invariant.is_at some in
    done-next i c.args.work c.self.inside.at c.set_at.new.works.items c.set_at.ensures c.self.invariant within (sym c.is_done.ensures ∙ c.if-is_done.true)

pub invariant_of-self-else-is_done : goal.invariant_of-self-else-is_done
invariant_of-self-else-is_done c =
    let i : Installation = record { tries = c.self.inside.tries; works = c.self.inside.works.items } in
    undone-same i c.args.work c.self.inside.at c.set_at.new.works.items c.set_at.ensures c.self.invariant (sym c.is_done.ensures ∙ c.if-is_done.false)

pub returns-then-is_done : goal.returns-then-is_done
returns-then-is_done c =
    let ws : List Work = c.self.inside.works.items in
    let i : Installation = record { tries = c.self.inside.tries; works = ws } in
    ap (λ (l : List Work). record i { works = l }) (c.set_at.ensures ∙ sym (changed-at (is_done i.tries) c.args.work c.self.inside.at ws c.self.invariant.is_at))
    ∙ ap (λ (j : Installation). record j { works = changed (is_done j.tries) (λ w. c.args.work) j.works }) c.self.view_is

pub returns-else-is_done : goal.returns-else-is_done
returns-else-is_done c =
    let ws : List Work = c.self.inside.works.items in
    let i : Installation = record { tries = c.self.inside.tries; works = ws } in
    ap (λ (l : List Work). record i { works = l }) (c.set_at.ensures ∙ sym (changed-at (is_done i.tries) c.args.work c.self.inside.at ws c.self.invariant.is_at))
    ∙ ap (λ (j : Installation). record j { works = changed (is_done j.tries) (λ w. c.args.work) j.works }) c.self.view_is
