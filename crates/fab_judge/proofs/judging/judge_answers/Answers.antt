use Rattle.std.proofs.Common.{[], subst}
use Rattle.fab_judge.specs.Past.{IsPastOf}
use Rattle.fab_judge.proofs.judging.judge_answers.Goals as goal

pub judge_all-requires : goal.judge_all-requires
judge_all-requires c = subst (λ n. IsPastOf n [] c.new-past.result) c.requires c.new-past.ensures
