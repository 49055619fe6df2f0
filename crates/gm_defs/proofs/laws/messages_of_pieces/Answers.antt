use Rattle.gm_defs.proofs.Pieces.{joined-pieces, short-pieces}
use Rattle.gm_defs.proofs.laws.messages_of_pieces.Goals as goal

pub returns-clause-whole : goal.returns-clause-whole
returns-clause-whole c = joined-pieces

pub returns-clause-one : goal.returns-clause-one
returns-clause-one c = short-pieces
