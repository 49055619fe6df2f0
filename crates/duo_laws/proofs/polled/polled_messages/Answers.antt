use Rattle.duo_laws.proofs.Seen.{polled-got}
use Rattle.duo_laws.proofs.polled.polled_messages.Goals as goal

pub returns : goal.returns
returns c = polled-got
