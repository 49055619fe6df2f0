use Rattle.promise_laws.proofs.Duos.{duos_are_reached, left_duos_are_reached, reached_duos_are_sound, duo_polls_are_right}
use Rattle.promise_laws.proofs.duo_lines.duos_of_runs.Goals as goal

pub returns-clause-reached : goal.returns-clause-reached
returns-clause-reached c = duos_are_reached

pub returns-clause-left : goal.returns-clause-left
returns-clause-left c = left_duos_are_reached

pub returns-clause-sound : goal.returns-clause-sound
returns-clause-sound c = reached_duos_are_sound

pub returns-clause-polls : goal.returns-clause-polls
returns-clause-polls c = duo_polls_are_right
