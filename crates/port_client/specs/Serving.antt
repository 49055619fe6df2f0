-- An open port with its client.
use Rattle.std.specs.Prelude.{◌≡◌, ℕ, ◌∷◌, ◌++◌, [], drop, Option, Some, None}
use Rattle.gm_defs.specs.Token.{PortState, PortEvent, Sent, Received, opened}
use Rattle.world_defs.specs.Client.{ClientState, new_client}
use Rattle.world_defs.specs.Sound.{HasOwners}
use Rattle.gm_port.specs.Opened.{OpenPort}
use Rattle.port_client.specs.Held.{OpenClient}

-- What a contract sees of it: whose port it is, the port's state, and what its client holds.
pub record ServedPort : Type 0 where
  pub host : ℕ
  pub port : ℕ
  pub state : PortState
  pub held : ClientState

-- a port and its client
abbrev pub served : OpenPort → OpenClient → ServedPort
served p c = record { host = p.host; port = p.port; state = p.state; held = c.held }

-- A client is that of an open port: of the same host and number, it can retire as many tokens as the port has, and
-- each token has one owner.
pub record IsClientOf (p : OpenPort) (c : OpenClient) : Type 0 where
  pub own_host : c.host ≡ p.host
  pub own_port : c.port ≡ p.port
  pub minted_sends : c.minted_sends ≡ p.state.sends
  pub minted_recvs : c.minted_recvs ≡ p.state.recvs
  pub owners : HasOwners p.state c.held

-- a port that was just opened: its client has all of its tokens
abbrev pub newly_served : ℕ → ℕ → ℕ → ℕ → ServedPort
newly_served host port sends recvs = record {
  host = host;
  port = port;
  state = opened sends recvs;
  held = new_client sends recvs;
}

-- the same port, in another state
abbrev pub in_state : ServedPort → PortState → ServedPort
in_state p s = record p { state = s }

-- the client has used the send token that it held longest
abbrev pub send_used : ClientState → ClientState
send_used c = record c { sends = drop 1 c.sends }

-- the client has used the receive token that it held longest
abbrev pub recv_used : ClientState → ClientState
recv_used c = record c { recvs = drop 1 c.recvs }

-- the client has the token of an event back, after the others
abbrev pub handed_back : ClientState → Option PortEvent → ClientState
handed_back c None = c
handed_back c (Some (Sent t b)) = record c { sends = c.sends ++ t ∷ [] }
handed_back c (Some (Received t b from sport prio len)) = record c { recvs = c.recvs ++ t ∷ [] }
