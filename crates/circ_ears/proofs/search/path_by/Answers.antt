use Rattle.std.proofs.Common.{sym, ◌∙◌, ap}
use Rattle.circ_ears.specs.Trails.{is_touched}
use Rattle.circ_ears.proofs.Finding.{by-untouched}
use Rattle.circ_ears.proofs.Touched.{touched-by}
use Rattle.circ_ears.proofs.search.path_by.Goals as goal

pub search-requires-clause-begins : goal.search-requires-clause-begins
search-requires-clause-begins c =
    touched-by c.args.f.now c.args.old.now c.args.first.out.v (ap (is_touched c.args.f.now c.args.old.now) (sym c.from.ensures) ∙ sym c.is_touched.ensures ∙ c.if-is_touched.true)

pub returns-else-is_touched-clause-none : goal.returns-else-is_touched-clause-none
returns-else-is_touched-clause-none c e =
    by-untouched c.args.f.now c.args.old.now c.args.first (ap (is_touched c.args.f.now c.args.old.now) (sym c.from.ensures) ∙ sym c.is_touched.ensures ∙ c.if-is_touched.false)
