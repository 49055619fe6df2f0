use Rattle.std.proofs.Common.{◌∙◌, ap}
use Rattle.packet_defs.specs.Crc.{contribution}
use Rattle.crc_eight.proofs.Powers.{contribution-round}
use Rattle.crc_eight.proofs.contribution.Goals as goal

pub returns : goal.returns
returns c = c.far_contribution.ensures ∙ ap (contribution c.args.byte) c.round.ensures ∙ contribution-round c.args.byte c.args.places
