use Rattle.message_laws.proofs.Windows.{windows-hold}
use Rattle.message_laws.proofs.window.windows_hold.Goals as goal

pub returns : goal.returns
returns c = record { windows = windows-hold }
