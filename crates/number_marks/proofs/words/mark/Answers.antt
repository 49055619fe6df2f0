use Rattle.number_marks.proofs.Marking.{marked}
use Rattle.number_marks.proofs.words.mark.Goals as goal

pub returns : goal.returns
returns c = marked c.args.words.now.items c.args.n c.index_mut-word.result.now c.requires c.index_mut-word.ensures.value
