-- Two ends, each with one port and its client, and the medium between them.
use Rattle.std.specs.Prelude.{ℕ, zero, suc, Bool, false, ◌&&◌, List, [], ◌∷◌, nat_eq, if◌then◌else◌}
use Rattle.gm_defs.specs.declared.message.Message.{Message}
use Rattle.gm_defs.specs.Token.{PortState, opened}
use Rattle.world_defs.specs.Lane.{LaneState, new_lane}
use Rattle.world_defs.specs.Client.{ClientState, new_client}
use Rattle.duo_defs.specs.declared.packet.Packet.{Packet}

-- A time in which an end is one incarnation and knows one incarnation of its peer, 0 where it knows none. Its lane has
-- the messages that the end accepted in it, and those that it put into its queue from that incarnation of the peer.
pub record Period : Type 0 where
  pub inc : ℕ
  pub known : ℕ
  pub lane : LaneState

-- a period as it begins
abbrev pub new_period : ℕ → ℕ → Period
new_period inc known = record { inc = inc; known = known; lane = new_lane }

-- A send that is in an event has its token, the incarnation of the peer that its message is counted to, the message's
-- place among those sent to it, and a mark where it wasn't acknowledged.
pub record Returned : Type 0 where
  pub token : ℕ
  pub known : ℕ
  pub place : ℕ
  pub unsure : Bool

-- An end has its present period and those before it, the latest first; a mark where it owes a hello; its sends that are
-- in events, in the order of these; its port and the port's client.
pub record EndState : Type 0 where
  pub present : Period
  pub past : List Period
  pub owes_hello : Bool
  pub returned : List Returned
  pub port : PortState
  pub client : ClientState

-- a message between ports 0, of priority 0
abbrev pub plain_message : List ℕ → Message
plain_message bytes = record { sport = 0; dport = 0; prio = 0; body = bytes }

-- how many tokens of each kind a port has
abbrev pub tokens_each : ℕ
tokens_each = 4

-- an end as an incarnation begins: it knows nobody, and its client has all tokens
abbrev pub beginning : ℕ → List Period → EndState
beginning inc past = record {
  present = new_period inc 0;
  past = past;
  owes_hello = false;
  returned = [];
  port = opened tokens_each tokens_each;
  client = new_client tokens_each tokens_each;
}

-- Two ends, and all packets that were ever emitted.
pub record DuoState : Type 0 where
  pub first : EndState
  pub second : EndState
  pub medium : List Packet

-- both ends at an incarnation, and nothing emitted
abbrev pub new_duo : ℕ → DuoState
new_duo inc = record { first = beginning inc []; second = beginning inc []; medium = [] }

-- end 0 is the first of two, every other number names the second
abbrev pub end_of : EndState → EndState → ℕ → EndState
end_of first second zero = first
end_of first second (suc k) = second

-- an end of the two
abbrev pub end_at : DuoState → ℕ → EndState
end_at d x = end_of d.first d.second x

-- the peer of an end
abbrev pub other : ℕ → ℕ
other zero = 1
other (suc k) = 0

-- an end is this one now
abbrev pub with_end : DuoState → ℕ → EndState → DuoState
with_end d zero e = record d { first = e }
with_end d (suc k) e = record d { second = e }

-- an end with another lane in its present period
abbrev pub with_lane : EndState → LaneState → EndState
with_lane e l = record e { present = record e.present { lane = l } }

-- the periods of an end
abbrev pub periods : EndState → List Period
periods e = e.present ∷ e.past

-- a period is that of these incarnations
abbrev pub is_of : ℕ → ℕ → Period → Bool
is_of inc known p = nat_eq p.inc inc && nat_eq p.known known

-- the period of these incarnations; one in which nothing happened where there is none
abbrev pub period_in : List Period → ℕ → ℕ → Period
period_in [] inc known = new_period inc known
period_in (p ∷ ps) inc known = if is_of inc known p then p else period_in ps inc known

-- the messages that an end, as one incarnation, accepted while it knew another of its peer; those that it accepted
-- before it knew any are counted to the first that it learnt
abbrev pub sent_in : EndState → ℕ → ℕ → List Message
sent_in e inc known = (period_in (periods e) inc known).lane.sent

-- the messages that an end, as one incarnation, put into its queue from one of its peer
abbrev pub got_in : EndState → ℕ → ℕ → List Message
got_in e inc from = (period_in (periods e) inc from).lane.got

-- sent(x, i, j), for j above 0
abbrev pub sent : DuoState → ℕ → ℕ → ℕ → List Message
sent d x i j = sent_in (end_at d x) i j

-- got(x, i, j): what the other end, as incarnation j, has from incarnation i of x
abbrev pub got : DuoState → ℕ → ℕ → ℕ → List Message
got d x i j = got_in (end_at d (other x)) j i
