-- What a contract sees of an open port.
use Rattle.std.specs.Prelude.{◌≡◌, ℕ, ◌+◌, ◌≤◌, Bool, length, if◌then◌else◌, Option}
use Rattle.std.specs.List.{AllByRecursion}
use Rattle.gm_defs.specs.declared.token.TokenPlace.{TokenPlace}
use Rattle.gm_defs.specs.Token.{PortState, HasOneOwner, AreFilling, room, place_of_send, place_of_recv}
use Rattle.gm_port.specs.Held.{Sends, Buffers, Events}

-- An open port says whose it is, and has its state.
pub record OpenPort : Type 0 where
  pub host : ℕ
  pub port : ℕ
  pub state : PortState

-- the state of a port, by its parts
abbrev pub state_of : Sends → Buffers → Events → PortState
state_of s b e = record { sends = s.limit; recvs = b.limit; queue = s.sends; provided = b.provided; events = e.events }

-- the place of a token: none where the client has it
abbrev pub place_of : PortState → Bool → ℕ → Option TokenPlace
place_of s send number = if send then place_of_send s number else place_of_recv s number

-- The parts of a port are of one port, each token has one owner, each provided buffer has the bytes of its size, what
-- tokens are filling with is right, and there is room for an event of each token.
pub record IsPort (s : Sends) (b : Buffers) (e : Events) : Type 0 where
  pub buffers_host : b.host ≡ s.host
  pub buffers_port : b.port ≡ s.port
  pub events_host : e.host ≡ s.host
  pub events_port : e.port ≡ s.port
  pub one_owner : HasOneOwner (state_of s b e)
  pub sized : AllByRecursion (λ r. room r.size ≤ length r.buffer) b.provided
  pub filling : AreFilling (state_of s b e)
  pub event_room : s.limit + b.limit ≤ e.limit
