use Rattle.std.proofs.Common.{◌≡◌, ◌+◌, ◌*◌, ◌/◌, ◌%◌, ◌∙◌, ap, arith}
use Rattle.packet_defs.specs.Crc.{contribution}
use Rattle.crc_eight.proofs.far_contribution.Goals as goal

pub returns : goal.returns
returns c =
    let n = c.args.places in
    let all : 16 * (n / 16) + n % 16 ≡ n = omega arith in
    c.near_contribution.ensures ∙ c.behind_slices.ensures (n % 16) ∙ ap (contribution c.args.byte) all
