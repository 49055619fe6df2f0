use Rattle.std.proofs.Common.{◌-◌, ◌++◌, length, arith, ap, ◌∙◌}
use Rattle.std.proofs.lemmas.List.{take-replicate}
use Rattle.packet_defs.specs.Crc.{crc}
use Rattle.crc_eight.proofs.Parts.{crc-zeros_before}
use Rattle.crc_eight.proofs.folding.filled_up.Goals as goal

pub returns : goal.returns
returns c =
    let n = 127 - length c.args.bytes.now in
    ap crc c.put_last.ensures ∙ ap (λ l. crc (l ++ c.args.bytes.now)) (take-replicate n 127 0 (omega arith)) ∙ crc-zeros_before n c.args.bytes.now
