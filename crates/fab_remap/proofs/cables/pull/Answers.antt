use Rattle.std.proofs.Common.{◌∙◌, ap, Ok}
use Rattle.fab_remap.proofs.Possible.{pull-done, pull-event, pull-cables}
use Rattle.fab_remap.proofs.cables.pull.Goals as goal

pub returns-clause-answer : goal.returns-clause-answer
returns-clause-answer c = ap Ok (c.is_done.ensures ∙ pull-done c.args.w.now c.happen-effect.new.w c.args.at c.happen-effect.result c.happen-effect.ensures.event)

pub returns-clause-event : goal.returns-clause-event
returns-clause-event c = pull-event c.args.w.now c.happen-effect.new.w c.args.at c.happen-effect.result c.happen-effect.ensures.event

pub returns-clause-cables : goal.returns-clause-cables
returns-clause-cables c = pull-cables c.args.w.now c.happen-effect.new.w c.args.at c.happen-effect.result c.happen-effect.ensures.event
