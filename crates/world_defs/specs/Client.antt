-- The client of a host's port has tokens, and makes calls.
use Rattle.std.specs.Prelude.{ℕ, List, [], ◌∷◌, ◌++◌, length, take, replicate, is_none, nat_lt}
use Rattle.std.specs.Prelude.{if◌then◌else◌, Option, Some, None}
use Rattle.std.specs.List.{range_with_len}
use Rattle.gm_defs.specs.declared.message.Message.{Message}
use Rattle.gm_defs.specs.Blob.{counted}
use Rattle.gm_defs.specs.Fragment.{piece_count}
use Rattle.gm_defs.specs.Connection.{is_spent}
use Rattle.gm_defs.specs.Token.{PortState, PortEvent, Sent, Received, opened, room}
use Rattle.gm_defs.specs.Port.{is_too_long, is_bad_size, sent_with, provided_with, next_event, polled, unfinished}
use Rattle.gm_defs.specs.Port.{unread, filling_count}
use Rattle.world_defs.specs.declared.client.ClientCause.{ClientCause}
use Rattle.world_defs.specs.declared.client.ClientCause.TheVariants.{Already, NotOpen, NoToken, TooLong, NoRoute, Spent}
use Rattle.world_defs.specs.declared.client.ClientCause.TheVariants.{BadSize, Busy, Unread, Filling}
use Rattle.world_defs.specs.declared.effect.Said.{Said}
use Rattle.world_defs.specs.declared.effect.Said.TheVariants.{Done, Count, Token, Sent as SaidSent}
use Rattle.world_defs.specs.declared.effect.Said.TheVariants.{Received as SaidReceived, Nothing, Refused}
use Rattle.world_defs.specs.Table.{table_route}
use Rattle.world_defs.specs.Lane.{with_message}
use Rattle.world_defs.specs.Node.{NodeState, lane_of, lane_at, with_lane, port_at, with_port}

-- The tokens that the client of an open port holds, those held longest first.
pub record ClientState : Type 0 where
  pub sends : List ℕ
  pub recvs : List ℕ

-- the client of a port that was just opened, with tokens numbered from 0
abbrev pub new_client : ℕ → ℕ → ClientState
new_client sends recvs = record { sends = range_with_len 0 sends; recvs = range_with_len 0 recvs }

-- What a call leaves: what was said, the host, and the client of the port where it is open.
pub record Called : Type 0 where
  pub said : Said
  pub node : NodeState
  pub client : Option ClientState

-- a refused call changes nothing
abbrev pub refused : NodeState → Option ClientState → ClientCause → Called
refused n c cause = record { said = Refused cause; node = n; client = c }

-- a call leaves its port so
abbrev pub left : NodeState → ℕ → Option PortState → Option ClientState → Said → Called
left n port p c said = record { said = said; node = with_port n port p; client = c }

-- a port that is open stays as it is; one that isn't opens with new tokens, all with the client
abbrev pub begin_at : NodeState → ℕ → ℕ → ℕ → Option ClientState → Option PortState → Called
begin_at n port sends recvs c (Some p) = refused n c Already
begin_at n port sends recvs c None = left n port (Some (opened sends recvs)) (Some (new_client sends recvs)) Done

-- a port is opened, where it isn't open
unfoldable pub begun : NodeState → ℕ → ℕ → ℕ → Option ClientState → Called
begun n port sends recvs c = begin_at n port sends recvs c (port_at n port)

-- why an open port isn't closed: busy first, then unread, then filling
abbrev pub close_refusal : PortState → Option ClientCause
close_refusal p =
    if nat_lt 0 (unfinished p) then Some (Busy (unfinished p))
    else if nat_lt 0 (unread p) then Some (Unread (unread p))
    else if nat_lt 0 (filling_count p) then Some (Filling (filling_count p))
    else None

-- a port is closed where nothing refuses it
abbrev pub close_unless : NodeState → ℕ → Option ClientState → PortState → Option ClientCause → Called
close_unless n port c p (Some cause) = refused n c cause
close_unless n port c p None = left n port None None (Count (length p.provided))

-- an open port closes where no send is unfinished, no event waits and no token is filling
abbrev pub close_at : NodeState → ℕ → Option ClientState → PortState → Called
close_at n port c p = close_unless n port c p (close_refusal p)

-- a port that isn't open isn't closed
abbrev pub close_open : NodeState → ℕ → Option ClientState → Option PortState → Called
close_open n port c None = refused n c NotOpen
close_open n port c (Some p) = close_at n port c p

-- an open port is closed, where no send is unfinished, no event waits and no token is filling: its provided tokens
-- come back, and all tokens end
unfoldable pub closed : NodeState → ℕ → Option ClientState → Called
closed n port c = close_open n port c (port_at n port)

-- the buffer that a client provides: zero bytes, as many as the size has room for
abbrev pub empty_buffer : ℕ → List ℕ
empty_buffer size = replicate (room size) 0

-- the client's first receive token is provided: refused where it holds none, and then for its size or priority
abbrev pub provide_with : NodeState → ℕ → ℕ → ℕ → PortState → ClientState → List ℕ → Called
provide_with n port size prio p c [] = refused n (Some c) NoToken
provide_with n port size prio p c (t ∷ ts) =
    if is_bad_size size prio then refused n (Some c) BadSize
    else left n port (Some (provided_with p (record {
      token = t;
      size = size;
      prio = prio;
      filling = None;
      buffer = empty_buffer size;
    }))) (Some (record c { recvs = ts })) (Token t)

-- a port that isn't open is provided with nothing
abbrev pub provide_open : NodeState → ℕ → ℕ → ℕ → Option ClientState → Option PortState → Called
provide_open n port size prio (Some c) (Some p) = provide_with n port size prio p c c.recvs
provide_open n port size prio c _ = refused n c NotOpen

-- the client provides the receive token that it has held longest
unfoldable pub provided_by : NodeState → ℕ → ℕ → ℕ → Option ClientState → Called
provided_by n port size prio c = provide_open n port size prio c (port_at n port)

-- the bytes of a client's message: byte i is the seed plus i, modulo 256
abbrev pub client_bytes : ℕ → ℕ → List ℕ
client_bytes len seed = counted seed len

-- What a client wants to send: from which port, to which host and port there, with which priority, how many bytes,
-- and the first of them.
pub record Wanted : Type 0 where
  pub port : ℕ
  pub dest : ℕ
  pub dport : ℕ
  pub prio : ℕ
  pub len : ℕ
  pub seed : ℕ

-- the message that a client wants to send
abbrev pub wanted_message : Wanted → Message
wanted_message s = record { sport = s.port; dport = s.dport; prio = s.prio; body = client_bytes s.len s.seed }

-- the lane of the message that a client wants to send
abbrev pub wanted_lane : Wanted → ℕ
wanted_lane s = lane_of s.dest s.prio

-- an accepted message: its bytes are the buffer of its token
abbrev pub send_accepted : NodeState → Wanted → PortState → ClientState → ℕ → List ℕ → Called
send_accepted n s p c t ts =
    left (with_lane n (wanted_lane s) (with_message (lane_at n (wanted_lane s)) (wanted_message s)
    (record { port = s.port; token = t }))) s.port
    (Some (sent_with p t (client_bytes s.len s.seed))) (Some (record c { sends = ts })) (Token t)

-- why a message isn't accepted, apart from the port and the token
abbrev pub send_refusal : NodeState → Wanted → Option ClientCause
send_refusal n s =
    if is_too_long s.len then Some TooLong
    else if is_none (table_route n.table s.dest) then Some NoRoute
    else if is_spent (lane_at n (wanted_lane s)).sender (piece_count s.len) then Some Spent
    else None

-- a message is accepted where nothing refuses it
abbrev pub send_unless : NodeState → Wanted → PortState → ClientState → ℕ → List ℕ → Option ClientCause → Called
send_unless n s p c t ts (Some cause) = refused n (Some c) cause
send_unless n s p c t ts None = send_accepted n s p c t ts

-- the client's first send token sends: refused where it holds none, and then for the message
abbrev pub send_with : NodeState → Wanted → PortState → ClientState → List ℕ → Called
send_with n s p c [] = refused n (Some c) NoToken
send_with n s p c (t ∷ ts) = send_unless n s p c t ts (send_refusal n s)

-- a port that isn't open sends nothing
abbrev pub send_open : NodeState → Wanted → Option ClientState → Option PortState → Called
send_open n s (Some c) (Some p) = send_with n s p c c.sends
send_open n s c _ = refused n c NotOpen

-- the client sends with the send token that it has held longest
unfoldable pub sent_by : NodeState → Wanted → Option ClientState → Called
sent_by n s c = send_open n s c (port_at n s.port)

-- an event gives its token back to the client, behind those it holds, and its buffer
abbrev pub handed_out : NodeState → ℕ → PortState → ClientState → Option PortEvent → Called
handed_out n port p c None = record { said = Nothing; node = n; client = Some c }
handed_out n port p c (Some (Sent t buffer)) =
    left n port (Some (polled p)) (Some (record c { sends = c.sends ++ t ∷ [] })) (SaidSent t)
handed_out n port p c (Some (Received t buffer from sport prio len)) =
    left n port (Some (polled p)) (Some (record c { recvs = c.recvs ++ t ∷ [] }))
    (SaidReceived t from sport prio (take len buffer))

-- a port that isn't open has no events
abbrev pub poll_open : NodeState → ℕ → Option ClientState → Option PortState → Called
poll_open n port (Some c) (Some p) = handed_out n port p c (next_event p)
poll_open n port c _ = refused n c NotOpen

-- the client takes the first event of a port's queue
unfoldable pub polled_by : NodeState → ℕ → Option ClientState → Called
polled_by n port c = poll_open n port c (port_at n port)
