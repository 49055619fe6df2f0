use Rattle.std.proofs.Common.{sym, take}
use Rattle.fab_text.specs.Line.{words_of}
use Rattle.fab_script.proofs.Turns.{turns-walk}
use Rattle.fab_script.proofs.walk_line.walk_of_words.Goals as goal

pub walk_of-requires : goal.walk_of-requires
walk_of-requires c =
    turns-walk (words_of c.args.turns.now) (take c.in-Ok.count c.read_all.new.turns) (sym c.in-Ok.ensures.said) c.requires
