-- The hosts of a world with the clients of their ports, by address.
use Rattle.std.specs.Prelude.{◌≡◌, ℕ, ◌<◌, ◌^◌, List, map, length, slice_index_or, Option}
use Rattle.world_defs.specs.Node.{NodeState}
use Rattle.world_defs.specs.Client.{ClientState}
use Rattle.client_host.specs.Held.{ServedHost, unused_host}

-- the states of hosts
abbrev pub states : List ServedHost → List NodeState
states ss = map (λ s. s.state) ss

-- the clients of hosts, by port
abbrev pub clients_of : List ServedHost → List (List (Option ClientState))
clients_of ss = map (λ s. s.clients) ss

-- what is read at an address beyond the hosts
abbrev pub no_host : ServedHost
no_host = unused_host 0 0

-- Each host stands at its address and knows how many there are, and an address has two bytes.
pub record AreHosts (ss : List ServedHost) : Type 0 where
  pub few : length ss < 2 ^ 16
  pub own : (h : ℕ) → h < length ss → ((slice_index_or ss h no_host).host ≡ h)
      × ((slice_index_or ss h no_host).hosts ≡ length ss)
