use Rattle.promise_laws.proofs.Duos.{duo_lines_depend_on_the_duo, duo_lines_keep_the_rest, others_keep_the_duo}
use Rattle.promise_laws.proofs.duo_lines.dependence_on_the_duo.Goals as goal

pub returns-clause-lines : goal.returns-clause-lines
returns-clause-lines c = duo_lines_depend_on_the_duo

pub returns-clause-rest : goal.returns-clause-rest
returns-clause-rest c = duo_lines_keep_the_rest

pub returns-clause-others : goal.returns-clause-others
returns-clause-others c = others_keep_the_duo
