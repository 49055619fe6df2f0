use Rattle.client_laws.proofs.Returned.{events-of_tokens, polls-of_tokens}
use Rattle.client_laws.proofs.token.returned_tokens.Goals as goal

pub returns : goal.returns
returns c = record { events = events-of_tokens; polls = polls-of_tokens }
