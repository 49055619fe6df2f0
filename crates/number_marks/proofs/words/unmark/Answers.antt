use Rattle.number_marks.proofs.Marking.{unmarked}
use Rattle.number_marks.proofs.words.unmark.Goals as goal

pub returns : goal.returns
returns c = unmarked c.args.words.now.items c.args.n c.index_mut-word.result.now c.requires c.index_mut-word.ensures.value
