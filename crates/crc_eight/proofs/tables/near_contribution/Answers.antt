use Rattle.std.proofs.Common.{[], get_or, ap, ◌∙◌}
use Rattle.crc_eight.specs.declared.tables.TheConstants.{TABLES}
use Rattle.crc_eight.proofs.Rows.{row-contribution}
use Rattle.crc_eight.proofs.tables.near_contribution.Goals as goal

pub returns : goal.returns
returns c = ap (λ b. get_or (get_or TABLES c.args.places []) b 0) c.from.ensures ∙ row-contribution c.args.places c.args.byte c.requires c.ranges.byte.fits
