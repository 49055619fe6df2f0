use Rattle.std.proofs.Common.{◌≡◌, Option, Some, ap, sym, ◌∙◌, subst}
use Rattle.net_defs.specs.Refusal.{Refuses}
use Rattle.world_defs.specs.Mapping.{RoutePart, byte_front}
use Rattle.route_parts.specs.declared.fault.BodyFault.TheVariants.{NoMemory}
use Rattle.route_parts.specs.Reading.{missing}
use Rattle.route_parts.proofs.Parts.{part-numbered, read-said}
use Rattle.route_parts.proofs.part.RoutePart.decode.Goals as goal

pub returns-in-Some-clause-refused : goal.returns-in-Some-clause-refused
returns-in-Some-clause-refused c =
    let front = c.in-Some-eq4-default in
    let four : Some (4, front.rest.now) ≡ byte_front c.args.bytes.now = ap (λ k. Some (k, front.rest.now)) (sym front.field-0-0-test) ∙ front.ensures.value in
    let same = part-numbered c.args.bytes.now front.rest.now c.in-Some.rest.now c.in-Some.head four c.in-Some.ensures.value in
    subst (λ (o : Option RoutePart). Refuses (missing o) NoMemory c.part_behind.result) (sym same) c.part_behind.ensures.refused

pub returns-in-Some-clause-ok : goal.returns-in-Some-clause-ok
returns-in-Some-clause-ok c =
    let front = c.in-Some-eq4-default in
    let four : Some (4, front.rest.now) ≡ byte_front c.args.bytes.now = ap (λ k. Some (k, front.rest.now)) (sym front.field-0-0-test) ∙ front.ensures.value in
    let same = part-numbered c.args.bytes.now front.rest.now c.in-Some.rest.now c.in-Some.head four c.in-Some.ensures.value in
    read-said c.part_behind.result c.args.bytes.now c.in-Some.rest.now c.in-Some.head same c.part_behind.ensures.ok
