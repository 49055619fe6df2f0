use Rattle.std.proofs.Common.{◌<◌, ◌+◌, ap, subst, ◌∙◌, arith}
use Rattle.port_align.specs.Ends.{IsOutside, look}
use Rattle.port_align.proofs.Reading.{outside-one, outside-row}
use Rattle.port_align.proofs.table.span_of.Goals as goal
use Rattle.port_align.proofs.table.span_of.Goals.{After-from-place}

low : (c : After-from-place) → c.in-One.at < 31
low c = c.requires c.in-One.at (record { node = c.in-One.field-2; port = c.in-One.field-1 }) c.in-One.is

pub returns-in-Nothing-clause-outside : goal.returns-in-Nothing-clause-outside
returns-in-Nothing-clause-outside c = λ rows i l out. ap (λ k. look rows k i) c.in-Nothing.is

pub returns-in-One-clause-first : goal.returns-in-One-clause-first
returns-in-One-clause-first c = let at = c.from-place.ensures in let less = low c in omega (arith, at, less)

pub returns-in-One-clause-end : goal.returns-in-One-clause-end
returns-in-One-clause-end c = let at = c.from-place.ensures in let less = low c in omega (arith, at, less)

pub returns-in-One-clause-outside : goal.returns-in-One-clause-outside
returns-in-One-clause-outside c = λ rows i l out.
    ap (λ k. look rows k i) c.in-One.is ∙ outside-one rows c.in-One.at c.in-One.field-1 c.in-One.field-2 i (subst (λ p. IsOutside p (p + 1) i) c.from-place.ensures out)

pub returns-in-Row-clause-outside : goal.returns-in-Row-clause-outside
returns-in-Row-clause-outside c = λ rows i l out. ap (λ k. look rows k i) c.in-Row.is ∙ outside-row rows _ i l out
