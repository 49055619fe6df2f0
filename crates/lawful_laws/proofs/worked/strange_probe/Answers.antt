use Rattle.lawful_laws.proofs.WorkedWorlds.{strange-reached, strange-unread}
use Rattle.lawful_laws.proofs.worked.strange_probe.Goals as goal

pub returns-clause-reached : goal.returns-clause-reached
returns-clause-reached c = strange-reached

pub returns-clause-unread : goal.returns-clause-unread
returns-clause-unread c = strange-unread
