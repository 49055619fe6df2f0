use Rattle.std.proofs.Common.{◌≡◌, ◌^◌, true, refl, ap, ◌∙◌, rules, arith}
use Rattle.std.specs.Prelude.{nat_lt}
use Rattle.std.proofs.lemmas.Bool.Decides.{nat_tests}
use Rattle.world_defs.specs.Mapping.{mapping_bytes, decode_mapping}
use Rattle.route_parts.specs.Reading.{ack_body}
use Rattle.route_parts.proofs.ack.PartAck.encode.Goals as goal

pub returns-clause-read : goal.returns-clause-read
returns-clause-read c =
    let a = c.args.self.now in
    let fit = c.in_ok-append.ensures.fit in
    let e = fit.0 in
    let h = fit.1 in
    let p = fit.2 in
    let x : nat_lt a.epoch (2 ^ 32) ≡ true = grind (arith, nat_tests) in
    let y : nat_lt a.host (2 ^ 16) ≡ true = grind (arith, nat_tests) in
    let z : nat_lt a.part 256 ≡ true = grind (arith, nat_tests) in
    let all : c.append.new.bytes.items ≡ mapping_bytes (ack_body a) = search rules in
    ap decode_mapping all ∙ c.mapping_is_read.ensures.read (ack_body a) (rw (x, y, z) refl)
