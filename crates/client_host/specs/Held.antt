-- What a contract sees of a host with the clients of its ports.
use Rattle.std.specs.Prelude.{ℕ, ◌<◌, List, replicate, slice_index_or, slice_set, Option, None}
use Rattle.world_defs.specs.declared.effect.Said.{Said}
use Rattle.world_defs.specs.declared.effect.Said.TheVariants.{Received}
use Rattle.world_defs.specs.Node.{NodeState, new_node, port_count}
use Rattle.world_defs.specs.Client.{ClientState, Called}

-- A host among so many, in a state, with the clients of its ports, each where the port is open.
pub record ServedHost : Type 0 where
  pub host : ℕ
  pub hosts : ℕ
  pub state : NodeState
  pub clients : List (Option ClientState)

-- the same host and clients, in another state
abbrev pub in_state : ServedHost → NodeState → ServedHost
in_state s n = record s { state = n }

-- a host among so many, before anything happened
abbrev pub unused_host : ℕ → ℕ → ServedHost
unused_host host hosts = record {
  host = host;
  hosts = hosts;
  state = new_node hosts;
  clients = replicate port_count None;
}

-- the client of a port
abbrev pub client_in : ServedHost → ℕ → Option ClientState
client_in s port = slice_index_or s.clients port None

-- the host after a call on a port
abbrev pub after_call : ServedHost → ℕ → Called → ServedHost
after_call s port call = record s { state = call.node; clients = slice_set s.clients port call.client }

-- the sender of a message that was received is among so many hosts
abbrev pub IsFromHosts : ℕ → Said → Type 0
IsFromHosts hosts (Received token from sport prio body) = from < hosts
IsFromHosts hosts _ = Unit {0}
