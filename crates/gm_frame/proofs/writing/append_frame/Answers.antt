use Rattle.std.proofs.Common.{◌++◌, ap, ◌∙◌, append_assoc}
use Rattle.gm_defs.specs.Body.{head_bytes}
use Rattle.gm_frame.proofs.writing.append_frame.Goals as goal

pub returns-clause-bytes : goal.returns-clause-bytes
returns-clause-bytes c =
    let old = c.args.bytes.now.items in
    let part = c.args.part.now in
    c.in_ok-extend_from_slice-2.ensures.items
    ∙ ap (λ l. l ++ part) (c.in_ok-extend_from_slice.ensures.items ∙ ap (λ l. old ++ l) c.bytes_of_head.ensures.bytes)
    ∙ append_assoc old (head_bytes c.args.h.now) part
