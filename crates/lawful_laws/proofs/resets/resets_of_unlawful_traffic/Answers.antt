use Rattle.lawful_laws.proofs.Settling.{settle-flows}
use Rattle.lawful_laws.proofs.resets.resets_of_unlawful_traffic.Goals as goal

pub returns : goal.returns
returns c = record { lawful = settle-flows }
