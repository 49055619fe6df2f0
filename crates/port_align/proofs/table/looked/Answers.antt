use Rattle.std.proofs.Common.{sym, ◌∙◌}
use Rattle.port_align.proofs.table.looked.Goals as goal

pub row_end-requires-clause-there : goal.row_end-requires-clause-there
row_end-requires-clause-there c = c.requires.sound.inside c.args.number c.in-Row.row (sym c.known_of.ensures ∙ c.in-Row.is)
