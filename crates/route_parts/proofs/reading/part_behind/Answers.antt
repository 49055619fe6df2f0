use Rattle.std.proofs.Common.{◌≡◌, ◌&&◌, true, false, is_some, Option, Some, None, IfSome, ◌⊎◌, inl, ap, sym, subst, ◌∙◌}
use Rattle.std.proofs.lemmas.Bool.{and_parts}
use Rattle.packet_defs.specs.RouteByte.{turns_of}
use Rattle.world_defs.specs.Mapping.{RoutePart}
use Rattle.route_parts.specs.declared.fault.BodyFault.TheVariants.{NoMemory}
use Rattle.route_parts.specs.Reading.{missing, rise_from}
use Rattle.route_parts.specs.Viewing.{part_viewed}
use Rattle.route_parts.proofs.Parts.{behind-viewed, part-by_rules, part-not_ruled, part-not_there, part-refused, behind-ruled}
use Rattle.route_parts.proofs.reading.part_behind.Goals as goal

pub returns-then-not-is_ruled-clause-refused : goal.returns-then-not-is_ruled-clause-refused
returns-then-not-is_ruled-clause-refused c =
    let s = c.in-Some in
    let n = c.in-Some-byte_front in
    let v = behind-viewed c.args.head c.args.bytes.now s.back.now s.rest.now n.rest.now n.count s.ensures.value (sym n.ensures.value) in
    inl (ap missing (v ∙ part-not_ruled c.args.head s.back.now n.rest.now n.count (sym c.is_ruled.ensures ∙ c.if-not-is_ruled.true)))

pub returns-in-Some-read-clause-ok : goal.returns-in-Some-read-clause-ok
returns-in-Some-read-clause-ok c =
    let s = c.in-Some in
    let n = c.in-Some-byte_front in
    let v = behind-viewed c.args.head c.args.bytes.now s.back.now s.rest.now n.rest.now n.count s.ensures.value (sym n.ensures.value) in
    let both : (is_some (turns_of s.back.now) && rise_from None n.count n.rest.now) ≡ true = sym c.in-Ok.ensures.there ∙ ap is_some c.in-Some-read.is in
    let rise = (and_parts (is_some (turns_of s.back.now)) (rise_from None n.count n.rest.now) both).1 in
    v
    ∙ part-by_rules c.args.head s.back.now n.rest.now n.count c.requires.0 c.requires.1 c.requires.2 s.ensures.few (sym c.is_ruled.ensures ∙ c.if-not-is_ruled.false) rise
    ∙ subst (λ (o : Option RoutePart). IfSome o (λ p. part_viewed c.args.head s.back.now n.count n.rest.now ≡ Some p)) c.in-Some-read.is c.in-Ok.ensures.part

pub returns-in-Some-read-clause-by_rules : goal.returns-in-Some-read-clause-by_rules
returns-in-Some-read-clause-by_rules c = behind-ruled c.args.head c.args.bytes.now c.in-Some-read.part (returns-in-Some-read-clause-ok c)

pub returns-in-Some-read-clause-refused : goal.returns-in-Some-read-clause-refused
returns-in-Some-read-clause-refused c = ap missing (returns-in-Some-read-clause-ok c)

pub returns-in-None-clause-refused : goal.returns-in-None-clause-refused
returns-in-None-clause-refused c =
    let s = c.in-Some in
    let n = c.in-Some-byte_front in
    let v = behind-viewed c.args.head c.args.bytes.now s.back.now s.rest.now n.rest.now n.count s.ensures.value (sym n.ensures.value) in
    let both : (is_some (turns_of s.back.now) && rise_from None n.count n.rest.now) ≡ false = sym c.in-Ok.ensures.there ∙ ap is_some c.in-None.is in
    inl (ap missing (v ∙ part-not_there c.args.head s.back.now n.rest.now n.count both))

pub returns-in-Err-clause-refused : goal.returns-in-Err-clause-refused
returns-in-Err-clause-refused c =
    let s = c.in-Some in
    let n = c.in-Some-byte_front in
    let v = behind-viewed c.args.head c.args.bytes.now s.back.now s.rest.now n.rest.now n.count s.ensures.value (sym n.ensures.value) in
    let fault = c.fault_without_memory.result in
    subst (λ (o : Option RoutePart). (missing o ≡ Some fault) ⊎ ((missing o ≡ None) × (fault ≡ NoMemory))) (sym v)
    (part-refused c.args.head s.back.now n.rest.now n.count fault
    (λ both. part-by_rules c.args.head s.back.now n.rest.now n.count c.requires.0 c.requires.1 c.requires.2 s.ensures.few (sym c.is_ruled.ensures ∙ c.if-not-is_ruled.false) (and_parts (is_some (turns_of s.back.now)) (rise_from None n.count n.rest.now) both).1)
    c.fault_without_memory.ensures)
