use Rattle.client_laws.proofs.Polled.{polled-got}
use Rattle.client_laws.proofs.Others.{seen-of_connections}
use Rattle.client_laws.proofs.Accepted.{accepted-sent}
use Rattle.client_laws.proofs.Fronts.{polled-front}
use Rattle.client_laws.proofs.seen.seen_messages.Goals as goal

pub returns : goal.returns
returns c = record { got = polled-got; only = seen-of_connections; sent = accepted-sent; front = polled-front }
