-- What a contract sees of the ports of a host.
use Rattle.std.specs.Prelude.{◌≡◌, ℕ, Bool, List, map, length, replicate, slice_index_or, slice_set, Option, Some, None}
use Rattle.std.specs.Prelude.{option_map, option_and_then}
use Rattle.gm_defs.specs.declared.token.TokenPlace.{TokenPlace}
use Rattle.gm_defs.specs.Token.{Sending, PortState}
use Rattle.gm_defs.specs.Port.{send_of}
use Rattle.gm_port.specs.Opened.{OpenPort, place_of}
use Rattle.world_defs.specs.Node.{port_count}

-- The ports of a host by number, where they are open.
pub record HostPorts : Type 0 where
  pub host : ℕ
  pub ports : List (Option PortState)

-- a host without open ports
abbrev pub none_open : ℕ → HostPorts
none_open host = record { host = host; ports = replicate port_count None }

-- a port, where it is open
abbrev pub open_at : HostPorts → ℕ → Option PortState
open_at h port = slice_index_or h.ports port None

-- the ports with another port of this number
abbrev pub with_open : HostPorts → ℕ → Option PortState → HostPorts
with_open h port p = record h { ports = slice_set h.ports port p }

-- a port that may be open changes so where it is
abbrev pub changed : HostPorts → ℕ → (PortState → PortState) → HostPorts
changed h port f = with_open h port (option_map f (open_at h port))

-- the unfinished send of a token
abbrev pub unfinished_of : Option PortState → ℕ → Option Sending
unfinished_of p token = option_and_then (λ s. send_of s token) p

-- the unfinished send of a port and a token
abbrev pub unfinished_at : HostPorts → ℕ → ℕ → Option Sending
unfinished_at h port token = unfinished_of (open_at h port) token

-- the states of ports
abbrev pub state_at : Option OpenPort → Option PortState
state_at p = option_map (λ x. x.state) p

-- the state of each port, where it is open
abbrev pub states : List (Option OpenPort) → List (Option PortState)
states ps = map state_at ps

-- the same port, in another state
abbrev pub port_in : OpenPort → PortState → OpenPort
port_in p s = record p { state = s }

-- the port of a host and a number, in another state
abbrev pub changed_port : Option OpenPort → (PortState → PortState) → Option OpenPort
changed_port p f = option_map (λ x. port_in x (f x.state)) p

-- Eight ports, and each that is open knows whose it is.
pub record IsHostPorts (host : ℕ) (ps : List (Option OpenPort)) : Type 0 where
  pub counted : length ps ≡ port_count
  pub own : (port : ℕ) (p : OpenPort) → slice_index_or ps port None ≡ Some p → (p.host ≡ host) × (p.port ≡ port)

-- the place of a token of a port: none where the client has it, or the port isn't open
abbrev pub place_at : Option PortState → Bool → ℕ → Option TokenPlace
place_at None send number = None
place_at (Some p) send number = place_of p send number
