use Rattle.lawful_laws.proofs.WorkedWorlds.{frame-reached, frame-ahead, frame-lawful}
use Rattle.lawful_laws.proofs.worked.one_frame.Goals as goal

pub returns-clause-reached : goal.returns-clause-reached
returns-clause-reached c = frame-reached

pub returns-clause-ahead : goal.returns-clause-ahead
returns-clause-ahead c = frame-ahead

pub returns-clause-lawful : goal.returns-clause-lawful
returns-clause-lawful c = frame-lawful
