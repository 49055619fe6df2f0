-- What a contract sees of one end.
use Rattle.std.specs.Prelude.{◌≡◌, ℕ, ◌<◌, Bool, List, reverse}
use Rattle.world_defs.specs.Lane.{LaneState}
use Rattle.port_client.specs.Serving.{ServedPort}
use Rattle.gm_conn.specs.Lane.{HostLane}
use Rattle.duo_defs.specs.Duo.{Period, Returned, EndState}
use Rattle.duo_defs.specs.Emitting.{sends_on}

-- An end: its number, and its state.
pub record HostEnd : Type 0 where
  pub host : ℕ
  pub state : EndState

-- a period by its parts
abbrev pub period_of : ℕ → ℕ → LaneState → Period
period_of inc known lane = record { inc = inc; known = known; lane = lane }

-- an end by its parts; the periods that are over stand with the latest last
abbrev pub end_of : ℕ → ℕ → ℕ → HostLane → List Period → Bool → List Returned → ServedPort → HostEnd
end_of host inc known lane past owes_hello returned held = record {
  host = host;
  state = record {
    present = period_of inc known lane.state;
    past = reverse past;
    owes_hello = owes_hello;
    returned = returned;
    port = held.state;
    client = held.held;
  };
}

-- The parts are of one end, which is 0 or 1, and of its port 0.
pub record IsOneEnd (host : ℕ) (lane : HostLane) (held : ServedPort) : Type 0 where
  pub side : host < 2
  pub own : held.host ≡ host
  pub port : held.port ≡ 0
  pub key : lane.key ≡ sends_on host

-- the same end in another state
abbrev pub in_state : HostEnd → EndState → HostEnd
in_state e s = record e { state = s }
