use Rattle.install_laws.proofs.TwoHosts.{both-can_install, both-counted, part-missed, answer-missed, second-counts, cut-missed}
use Rattle.install_laws.proofs.worked.lost_packets.Goals as goal

pub returns-clause-can : goal.returns-clause-can
returns-clause-can c = both-can_install

pub returns-clause-quiet : goal.returns-clause-quiet
returns-clause-quiet c = both-counted

pub returns-clause-part : goal.returns-clause-part
returns-clause-part c = part-missed

pub returns-clause-answer : goal.returns-clause-answer
returns-clause-answer c = answer-missed

pub returns-clause-second_try : goal.returns-clause-second_try
returns-clause-second_try c = second-counts

pub returns-clause-cut : goal.returns-clause-cut
returns-clause-cut c = cut-missed
