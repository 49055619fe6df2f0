use Rattle.print_laws.proofs.Marks.{outside_is_cut_off, marks_are_right}
use Rattle.print_laws.proofs.marks_of_maps.Goals as goal

pub returns-clause-outside : goal.returns-clause-outside
returns-clause-outside c = outside_is_cut_off

pub returns-clause-printed : goal.returns-clause-printed
returns-clause-printed c = marks_are_right
