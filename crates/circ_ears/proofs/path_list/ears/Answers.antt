use Rattle.std.proofs.Common.{◌≡◌, ◌∙◌, Ok, ap, arith, subst, sym}
use Rattle.circ_ears.specs.EarLists.{AreNumbersOfCore}
use Rattle.circ_ears.specs.Search.{HasNoPath}
use Rattle.circ_ears.specs.Taking.{Taking}
use Rattle.circ_ears.proofs.Taken.{IsTaking, taken-path, taking-done, taking-few, taking-first, taking-less, taking-next, taking-none}
use Rattle.circ_ears.proofs.path_list.ears.Goals as goal

-- a host without a cable
pub returns-in_default : goal.returns-in_default
returns-in_default c =
    subst (AreNumbersOfCore c.args.f.now c.args.host) (sym c.new.ensures)
    (taking-none c.args.f.now c.args.host c.hosts-hosts.ensures.fabric (c.own_step.ensures.none c.in_default.is))

pub taking-init : goal.taking-init
taking-init c =
    subst (IsTaking c.args.f.now c.args.host) (sym c.in_ok-taken.ensures)
    (taking-first c.args.f.now c.args.host c.in-Some.own c.hosts-hosts.ensures.fabric c.in-Some.ensures.own)

pub take-requires : goal.take-requires
take-requires c =
    let few = taking-few c.args.f.now c.args.host c.taking.taken c.taking.invariant in
    let ears = c.taking.invariant.few_ears in
    let cables = c.cables-cables.ensures.count in
    let bound = c.cables-cables.ensures.bound in
    omega arith

pub taking-smaller : goal.taking-smaller
taking-smaller c =
    let cables : c.deref.result.now ≡ c.taking.taken.cables = c.deref.ensures.value ∙ ap (λ (t : Taking). t.cables) c.taken.view_is in
    taking-less c.args.f.now c.args.host c.taking.taken c.take.new.self c.in-Some-2.path c.hosts-hosts.ensures.fabric
    (taken-path c.args.f.now c.deref.result.now c.taking.taken.cables c.in_ok-path.field-0 c.in-Some-2.path c.in_ok-path.ensures.found c.in-Some-2.is cables)
    c.taking.invariant c.in_ok-take.ensures

pub taking-preserved : goal.taking-preserved
taking-preserved c =
    let cables : c.deref.result.now ≡ c.taking.taken.cables = c.deref.ensures.value ∙ ap (λ (t : Taking). t.cables) c.taken.view_is in
    subst (IsTaking c.args.f.now c.args.host) (sym c.in_ok-take.ensures)
    (taking-next c.args.f.now c.args.host c.taking.taken c.in-Some-2.path c.hosts-hosts.ensures.fabric
    (taken-path c.args.f.now c.deref.result.now c.taking.taken.cables c.in_ok-path.field-0 c.in-Some-2.path c.in_ok-path.ensures.found c.in-Some-2.is cables)
    c.taking.invariant)

pub returns : goal.returns
returns c =
    let cables : c.deref.result.now ≡ c.taking.taken.cables = c.deref.ensures.value ∙ ap (λ (t : Taking). t.cables) c.taken.view_is in
    let none : HasNoPath c.args.f.now c.taking.taken.cables = subst (HasNoPath c.args.f.now) cables (c.next_path.ensures.none (c.in_ok-path.was ∙ ap Ok c.in_default-2.is)) in
    subst (AreNumbersOfCore c.args.f.now c.args.host) (sym (ap (λ (t : Taking). t.ears) c.taken.view_is))
    (taking-done c.args.f.now c.args.host c.taking.taken c.hosts-hosts.ensures.fabric none c.taking.invariant)
