-- What the clients of ports are handed and what they send, as the effects of acts show it.
use Rattle.std.specs.Prelude.{ℕ, ◌<◌, Bool, ◌&&◌, List, [], ◌∷◌, ◌++◌, take, nat_eq, if◌then◌else◌, Option, Some, None}
use Rattle.gm_defs.specs.declared.message.Message.{Message}
use Rattle.gm_defs.specs.declared.frame.ConnectionKey.{ConnectionKey}
use Rattle.gm_defs.specs.Body.{prio_limit}
use Rattle.gm_defs.specs.Token.{PortState, PortEvent, Sent, Received}
use Rattle.world_defs.specs.declared.event.Event.TheVariants.{Send, Poll}
use Rattle.world_defs.specs.declared.effect.Effect.{Effect}
use Rattle.world_defs.specs.declared.effect.Effect.TheVariants.{Said as Says}
use Rattle.world_defs.specs.declared.effect.Said.{Said}
use Rattle.world_defs.specs.declared.effect.Said.TheVariants.{Token, Received as SaidReceived}
use Rattle.world_defs.specs.Node.{prio_place}
use Rattle.world_defs.specs.Client.{wanted_message}
use Rattle.world_defs.specs.World.{WorldState}
use Rattle.world_defs.specs.Step.{wanted, step}
use Rattle.world_defs.specs.Acts.{Act, Happens, acted}

-- A message as the client of its port gets it: the host and the port that it is from, its priority and its bytes.
pub record Handed : Type 0 where
  pub from : ℕ
  pub sport : ℕ
  pub prio : ℕ
  pub bytes : List ℕ

-- the message that an answer hands out
abbrev pub in_answer : Said → List Handed
in_answer (SaidReceived t from sport prio bytes) =
    record { from = from; sport = sport; prio = prio; bytes = bytes } ∷ []
in_answer _ = []

-- the message that an effect hands out
abbrev pub in_effect : Effect → List Handed
in_effect (Says s) = in_answer s
in_effect _ = []

-- what an act hands to the client of a host's port: what a poll there is answered
abbrev pub handed_by : ℕ → ℕ → WorldState → Act → List Handed
handed_by h port w (Happens (Poll i p)) =
    if nat_eq i h && nat_eq p port then in_effect (step w (Poll i p)).0 else []
handed_by h port w _ = []

-- what acts in order hand to it
abbrev pub handed_in : ℕ → ℕ → WorldState → List Act → List Handed
handed_in h port w [] = []
handed_in h port w (a ∷ acts) = handed_by h port w a ++ handed_in h port (acted w a) acts

-- the message of an event that waits
abbrev pub in_event : PortEvent → List Handed
in_event (Sent t buffer) = []
in_event (Received t buffer from sport prio len) =
    record { from = from; sport = sport; prio = prio; bytes = take len buffer } ∷ []

-- the messages of events that wait, in order
abbrev pub in_events : List PortEvent → List Handed
in_events [] = []
in_events (e ∷ es) = in_event e ++ in_events es

-- the messages that wait at a port; none where it isn't open
abbrev pub waiting_in : Option PortState → List Handed
waiting_in None = []
waiting_in (Some p) = in_events p.events

-- A message is from one of so many hosts, and of a priority of a connection.
pub record IsOfConnection (hosts : ℕ) (x : Handed) : Type 0 where
  pub from_host : x.from < hosts
  pub priority : x.prio < prio_limit

-- a message is from a host, of a priority
abbrev pub is_on : ℕ → ℕ → Handed → Bool
is_on src prio x = nat_eq x.from src && nat_eq x.prio prio

-- a message is for a port
abbrev pub is_to : ℕ → Message → Bool
is_to port m = nat_eq m.dport port

-- a message from a host as it is handed out
abbrev pub as_handed : ℕ → Message → Handed
as_handed src m = record { from = src; sport = m.sport; prio = m.prio; bytes = m.body }

-- the message of a send that was accepted: it is answered by its token
abbrev pub in_send : Message → Effect → List Message
in_send m (Says (Token t)) = m ∷ []
in_send m _ = []

-- a message is sent on a connection
abbrev pub is_sent_on : ConnectionKey → ℕ → ℕ → ℕ → Bool
is_sent_on c h dest prio = nat_eq h c.src && (nat_eq dest c.dst && nat_eq (prio_place prio) (prio_place c.prio))

-- the message that an act sends on a connection
abbrev pub accepted_by : ConnectionKey → WorldState → Act → List Message
accepted_by c w (Happens (Send h port dest dport prio len seed)) =
    if is_sent_on c h dest prio
    then in_send (wanted_message (wanted port dest dport prio len seed))
    (step w (Send h port dest dport prio len seed)).0
    else []
accepted_by c w _ = []

-- the messages that acts in order send on a connection
abbrev pub accepted_in : ConnectionKey → WorldState → List Act → List Message
accepted_in c w [] = []
accepted_in c w (a ∷ acts) = accepted_by c w a ++ accepted_in c (acted w a) acts
