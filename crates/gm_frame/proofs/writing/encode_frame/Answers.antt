use Rattle.std.proofs.Common.{◌≡◌, ◌∙◌, ap, arith}
use Rattle.std.proofs.lemmas.Grind.{common_steps}
use Rattle.gm_defs.specs.Body.{frame_bytes, decode}
use Rattle.gm_frame.proofs.writing.encode_frame.Goals as goal

pub returns-clause-read : goal.returns-clause-read
returns-clause-read c =
    let fit = c.in_ok-append_frame.ensures.fit in
    let written : c.append_frame.new.bytes.items ≡ frame_bytes c.args.h.now c.args.part.now = grind (arith, common_steps) in
    ap decode written ∙ (c.bodies_are_read.ensures.frame c.args.h.now c.args.part.now fit.0 fit.1 c.requires.by_rules c.requires.part).0
