use Rattle.std.proofs.Common.{true, false, Some, refl, ap, ◌∙◌}
use Rattle.mapper.proofs.Telling.{tells-missing, tells-marked}
use Rattle.mapper.proofs.opening.unexpanded.Goals as goal

pub returns-in-None-clause-tells : goal.returns-in-None-clause-tells
returns-in-None-clause-tells c = tells-missing c.args.classes.now c.args.walk.now true (c.in-None.ensures.missing refl)

pub returns-then-expanded-clause-tells : goal.returns-then-expanded-clause-tells
returns-then-expanded-clause-tells c = tells-marked c.args.classes.now c.args.walk.now c.in-Some.node c.class_of.result true c.in-Some.ensures.found c.class_of.ensures.frame (c.expanded.ensures ∙ ap Some c.if-expanded.true)

pub returns-else-expanded-clause-tells : goal.returns-else-expanded-clause-tells
returns-else-expanded-clause-tells c = tells-marked c.args.classes.now c.args.walk.now c.in-Some.node c.class_of.result false c.in-Some.ensures.found c.class_of.ensures.frame (c.expanded.ensures ∙ ap Some c.if-expanded.false)
