use Rattle.std.proofs.Common.{◌≡◌, ◌∙◌, ap, arith}
use Rattle.std.proofs.lemmas.Grind.{common_steps}
use Rattle.gm_defs.specs.Body.{ack_bytes, decode}
use Rattle.gm_frame.proofs.writing.encode_ack.Goals as goal

pub returns-clause-read : goal.returns-clause-read
returns-clause-read c =
    let fit = c.in_ok-append_ack.ensures.fit in
    let written : c.append_ack.new.bytes.items ≡ ack_bytes c.args.a.now = grind (arith, common_steps) in
    ap decode written ∙ c.bodies_are_read.ensures.acknowledgement c.args.a.now fit.0 fit.1 c.requires.by_rules fit.2
