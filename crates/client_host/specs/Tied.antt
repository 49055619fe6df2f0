-- What ties the ports of a host to their clients.
use Rattle.std.specs.Prelude.{◌≡◌, ℕ, ◌<◌, ◌≤◌, List, map, length, slice_index_or, Option, Some, None, option_map}
use Rattle.std.specs.List.{AllByRecursion}
use Rattle.gm_defs.specs.Token.{PortState, PortEvent, Sent, Received}
use Rattle.world_defs.specs.Node.{port_at, port_count}
use Rattle.world_defs.specs.Client.{ClientState}
use Rattle.world_defs.specs.Sound.{HasOwners}
use Rattle.port_client.specs.Held.{OpenClient, opened_client}
use Rattle.nic_node.specs.Held.{HostNode}
use Rattle.client_host.specs.Held.{ServedHost}

-- the tokens that a client holds, where there is one
abbrev pub held_of : Option OpenClient → Option ClientState
held_of c = option_map (λ x. x.held) c

-- the client that holds other tokens now; none where it ended
abbrev pub now_holding : Option OpenClient → Option ClientState → Option OpenClient
now_holding (Some c) (Some held) = Some (record c { held = held })
now_holding (Some c) None = None
now_holding None held = None

-- the client of a port that was opened where it wasn't open
abbrev pub opened_where : ℕ → ℕ → ℕ → ℕ → Option OpenClient → Option OpenClient
opened_where host port sends recvs None = Some (opened_client host port sends recvs)
opened_where host port sends recvs (Some c) = Some c

-- the message of an event came from one of so many hosts
abbrev pub IsEventFrom : ℕ → PortEvent → Type 0
IsEventFrom hosts (Sent token buffer) = Unit {0}
IsEventFrom hosts (Received token buffer from sport prio len) = from < hosts

-- A client is the one of an open port: of this host and of the port's number, it can retire as many tokens as the
-- port has, each token has one owner, and each message that waits came from one of the hosts.
pub record IsServing (host hosts port : ℕ) (p : PortState) (c : OpenClient) : Type 0 where
  pub own_host : c.host ≡ host
  pub own_port : c.port ≡ port
  pub minted_sends : c.minted_sends ≡ p.sends
  pub minted_recvs : c.minted_recvs ≡ p.recvs
  pub owners : HasOwners p c.held
  pub senders : AllByRecursion (IsEventFrom hosts) p.events

-- a port is open exactly where its client is
abbrev pub IsTied : ℕ → ℕ → ℕ → Option PortState → Option OpenClient → Type 0
IsTied host hosts port (Some p) (Some c) = IsServing host hosts port p c
IsTied host hosts port (Some p) None = ⊥
IsTied host hosts port None (Some c) = ⊥
IsTied host hosts port None None = Unit {0}

-- A host has eight ports and eight places for their clients, and each port is tied to its client.
pub record IsServed (n : HostNode) (cs : List (Option OpenClient)) : Type 0 where
  pub ports : length n.state.ports ≡ port_count
  pub clients : length cs ≡ port_count
  pub tied : (port : ℕ) → IsTied n.host n.hosts port (port_at n.state port) (slice_index_or cs port None)

-- A host and those of its clients that are left, while these end one after the other from the last, each with its port:
-- each port is tied to its client.
pub record IsEnding (n : HostNode) (cs : List (Option OpenClient)) : Type 0 where
  pub counted : length n.state.ports ≡ port_count
  pub few : length cs ≤ port_count
  pub tied : (port : ℕ) → IsTied n.host n.hosts port (port_at n.state port) (slice_index_or cs port None)

-- the host that a node and its clients make
abbrev pub served : HostNode → List (Option OpenClient) → ServedHost
served n cs = record { host = n.host; hosts = n.hosts; state = n.state; clients = map held_of cs }
