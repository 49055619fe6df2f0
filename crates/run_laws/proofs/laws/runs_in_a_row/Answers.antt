use Rattle.run_laws.proofs.RunsOnce.{runs_join, runs_split, first_runs_are_part, text_of_both}
use Rattle.run_laws.proofs.laws.runs_in_a_row.Goals as goal

pub returns-clause-joined : goal.returns-clause-joined
returns-clause-joined c = runs_join

pub returns-clause-split : goal.returns-clause-split
returns-clause-split c = runs_split

pub returns-clause-first : goal.returns-clause-first
returns-clause-first c = first_runs_are_part

pub returns-clause-text : goal.returns-clause-text
returns-clause-text c = text_of_both
