use Rattle.std.proofs.Common.{length, take, ap, sym, ◌∙◌}
use Rattle.std.proofs.lemmas.List.{length-take-le}
use Rattle.fab_text.specs.Line.{words_of}
use Rattle.fab_script.proofs.Turns.{turns-range}
use Rattle.fab_script.proofs.walk_line.read_all.Goals as goal

pub returns-in-Some-clause-count : goal.returns-in-Some-clause-count
returns-in-Some-clause-count c =
    sym (length-take-le c.in-Some.count c.plain_turns.new.turns c.in-Some.ensures.within)
    ∙ (turns-range (words_of c.without_space.result.now) (take c.in-Some.count c.plain_turns.new.turns) c.in-Some.ensures.said).0
    ∙ ap length c.without_space.ensures
