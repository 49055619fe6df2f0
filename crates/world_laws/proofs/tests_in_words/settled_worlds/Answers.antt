use Rattle.world_laws.proofs.Meanings.{none_left-settled}
use Rattle.world_laws.proofs.tests_in_words.settled_worlds.Goals as goal

pub returns : goal.returns
returns c = none_left-settled
