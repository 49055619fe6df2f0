-- What a contract sees of the client of an open port.
use Rattle.std.specs.Prelude.{ℕ, List, map}
use Rattle.gm_tokens.specs.Token.{Token, token_at}
use Rattle.world_defs.specs.Client.{ClientState, new_client}

-- The client of one opening of a port knows whose port it is and how many tokens of each kind were minted, and has
-- those that it holds, by number.
pub record OpenClient : Type 0 where
  pub host : ℕ
  pub port : ℕ
  pub minted_sends : ℕ
  pub minted_recvs : ℕ
  pub held : ClientState

-- the client of a port that was just opened: it holds all that was minted
abbrev pub opened_client : ℕ → ℕ → ℕ → ℕ → OpenClient
opened_client host port sends recvs = record {
  host = host;
  port = port;
  minted_sends = sends;
  minted_recvs = recvs;
  held = new_client sends recvs;
}

-- the client with these send tokens, or these receive tokens
abbrev pub with_sends : OpenClient → List ℕ → OpenClient
with_sends c ts = record c { held = record c.held { sends = ts } }

-- the client with these receive tokens
abbrev pub with_recvs : OpenClient → List ℕ → OpenClient
with_recvs c ts = record c { held = record c.held { recvs = ts } }

-- the numbers of tokens, and the tokens of numbers
abbrev pub numbers_of : List Token → List ℕ
numbers_of ts = map (λ t. t.number) ts

-- the tokens of numbers, of one port
abbrev pub tokens_of : ℕ → ℕ → List ℕ → List Token
tokens_of host port ns = map (token_at host port) ns

-- the client by its parts
abbrev pub client_of : ℕ → ℕ → ℕ → ℕ → List Token → List Token → OpenClient
client_of host port minted_sends minted_recvs sends recvs = record {
  host = host;
  port = port;
  minted_sends = minted_sends;
  minted_recvs = minted_recvs;
  held = record { sends = numbers_of sends; recvs = numbers_of recvs };
}
