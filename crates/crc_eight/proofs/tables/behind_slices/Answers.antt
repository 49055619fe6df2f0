use Rattle.std.proofs.Common.{[], get_or, ap, ◌∙◌}
use Rattle.packet_defs.specs.Crc.{contribution}
use Rattle.crc_eight.specs.declared.tables.TheConstants.{BEHIND}
use Rattle.crc_eight.proofs.Rows.{behind-contribution}
use Rattle.crc_eight.proofs.tables.behind_slices.Goals as goal

pub returns : goal.returns
returns c n = ap (λ b. contribution (get_or (get_or BEHIND c.args.slices []) b 0) n) c.from.ensures ∙ behind-contribution c.args.slices c.args.byte n c.requires c.ranges.byte.fits
