use Rattle.std.proofs.Common.{◌≡◌, ◌⊎◌, Option, Some, None, ap, sym, subst}
use Rattle.probe.specs.declared.body.BodyFault.{BodyFault}
use Rattle.probe.specs.declared.body.BodyFault.TheVariants.{NoMemory}
use Rattle.probe.specs.Body.{missing}
use Rattle.probe.proofs.Bodies.{probe-read, probe-missing}
use Rattle.probe.proofs.body.probe_of.Goals as goal

pub returns-in-Ok-clause-ok : goal.returns-in-Ok-clause-ok
returns-in-Ok-clause-ok c =
    let k = c.in-Some.ensures.fits.0 in
    let l = c.in-Some.ensures.fits.1 in
    probe-read c.args.bytes.now c.in-Some.rest.now c.in-Some.number c.in-Some.mapper c.in-Ok.back (sym c.in-Some.ensures.value) k l c.in-Ok.ensures.ok

pub returns-in-Ok-clause-refused : goal.returns-in-Ok-clause-refused
returns-in-Ok-clause-refused c =
    let k = c.in-Some.ensures.fits.0 in
    let l = c.in-Some.ensures.fits.1 in
    ap missing (probe-read c.args.bytes.now c.in-Some.rest.now c.in-Some.number c.in-Some.mapper c.in-Ok.back (sym c.in-Some.ensures.value) k l c.in-Ok.ensures.ok)

pub returns-in-Err-clause-refused : goal.returns-in-Err-clause-refused
returns-in-Err-clause-refused c =
    let k = c.in-Some.ensures.fits.0 in
    let l = c.in-Some.ensures.fits.1 in
    let same = probe-missing c.args.bytes.now c.in-Some.rest.now c.in-Some.number c.in-Some.mapper (sym c.in-Some.ensures.value) k l in
    subst (λ (r : Option BodyFault). (r ≡ Some c.in-Err.fault) ⊎ ((r ≡ None) × (c.in-Err.fault ≡ NoMemory))) (sym same) c.in-Err.ensures.refused
