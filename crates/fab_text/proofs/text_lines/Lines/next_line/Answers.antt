use Rattle.std.proofs.Common.{arith, ap, sym, ◌∙◌}
use Rattle.fab_text.specs.Line.{lines_left}
use Rattle.fab_text.proofs.Cutting.{left-line, left-passed}
use Rattle.fab_text.proofs.text_lines.Lines.next_line.Goals as goal

pub returns-then-not-says_nothing-clause-lines : goal.returns-then-not-says_nothing-clause-lines
returns-then-not-says_nothing-clause-lines c =
    ap lines_left (sym c.self.view_is)
    ∙ c.passing.invariant.left
    ∙ left-line c.passing.self-inside.number c.passing.self-inside.rest.now c.in-Some.line.now c.in-Some.after.now (omega (arith, c.in-Some.ensures.shorter)) c.in-Some.ensures.parts.0 c.in-Some.ensures.parts.1 c.if-not-says_nothing.ensures

pub passing-preserved : goal.passing-preserved
passing-preserved c = record {
  left = c.passing.invariant.left
      ∙ left-passed c.passing.self-inside.number c.passing.self-inside.rest.now c.in-Some.line.now c.in-Some.after.now (omega (arith, c.in-Some.ensures.shorter)) c.in-Some.ensures.parts.0 c.in-Some.ensures.parts.1 c.if-not-says_nothing.ensures;
  numbers = omega (arith, c.in-Some.ensures.shorter);
  shorter = omega (arith, c.in-Some.ensures.shorter);
}
