use Rattle.world_laws.proofs.Meanings.{quiet-test, base-test, none_left-test}
use Rattle.world_laws.proofs.tests_in_words.tests_of_settles.Goals as goal

pub returns-clause-quiet : goal.returns-clause-quiet
returns-clause-quiet c = quiet-test

pub returns-clause-base : goal.returns-clause-base
returns-clause-base c = base-test

pub returns-clause-none_left : goal.returns-clause-none_left
returns-clause-none_left c = none_left-test
