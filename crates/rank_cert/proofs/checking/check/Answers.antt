use Rattle.std.proofs.Common.{◌≡◌, Some, None, refl, sym, ap, ◌∙◌}
use Rattle.std.proofs.lemmas.Bool.{false≢true}
use Rattle.map_defs.proofs.Cycles.{certificate_leaves_no_cycle}
use Rattle.rank_cert.specs.Checking.{first_fault}
use Rattle.rank_cert.proofs.Checked.{certified, from-certificate, one_order-faultless, some-none}
use Rattle.rank_cert.proofs.checking.check.Goals as goal

pub returns-in-None-clause-certified : goal.returns-in-None-clause-certified
returns-in-None-clause-certified c =
    let m = c.args.m.now in
    let none : first_fault m c.args.k.now c.args.r.now ≡ None = ap (first_fault m c.args.k.now) (sym c.list.ensures.value) ∙ sym c.in-None.ensures in
    ((λ ok. certified m c.args.k.now c.args.r.now none), (λ h. refl))

pub returns-in-None-clause-no_cycle : goal.returns-in-None-clause-no_cycle
returns-in-None-clause-no_cycle c =
    let m = c.args.m.now in
    let none : first_fault m c.args.k.now c.args.r.now ≡ None = ap (first_fault m c.args.k.now) (sym c.list.ensures.value) ∙ sym c.in-None.ensures in
    certificate_leaves_no_cycle m c.args.r.now c.args.k.now (certified m c.args.k.now c.args.r.now none).1

pub returns-in-Some-clause-certified : goal.returns-in-Some-clause-certified
returns-in-Some-clause-certified c =
    let m = c.args.m.now in
    let some : first_fault m c.args.k.now c.args.r.now ≡ Some c.in-Some.fault = ap (first_fault m c.args.k.now) (sym c.list.ensures.value) ∙ sym c.in-Some.ensures in
    ((λ ok. absurd (false≢true ok)), (λ h. absurd (some-none _ _ some (from-certificate m c.args.k.now c.args.r.now h))))

pub returns-in-Some-clause-of_one_order : goal.returns-in-Some-clause-of_one_order
returns-in-Some-clause-of_one_order c a =
    let m = c.args.m.now in
    let some : first_fault m c.args.k.now c.args.r.now ≡ Some c.in-Some.fault = ap (first_fault m c.args.k.now) (sym c.list.ensures.value) ∙ sym c.in-Some.ensures in
    absurd (some-none _ _ some (one_order-faultless m c.args.k.now c.args.r.now c.vertices.ensures.is_map.is_map a))
