-- Of which message a send token is, after every list of acts.
use Rattle.std.specs.Prelude.{◌≡◌, ℕ, ◌<◌, Bool, false, ◌&&◌, List, [], ◌∷◌, length, nat_eq, slice_get, if◌then◌else◌}
use Rattle.std.specs.Prelude.{Option, Some, None}
use Rattle.net_defs.specs.Network.{Network}
use Rattle.gm_defs.specs.declared.message.Message.{Message}
use Rattle.gm_defs.specs.Connection.{connection}
use Rattle.gm_defs.specs.Fragment.{whole_below}
use Rattle.gm_defs.specs.Token.{PortState, Sent}
use Rattle.world_defs.specs.declared.event.Event.TheVariants.{Send, Poll}
use Rattle.world_defs.specs.declared.effect.Effect.{Effect}
use Rattle.world_defs.specs.declared.effect.Effect.TheVariants.{Said as Says}
use Rattle.world_defs.specs.declared.effect.Said.TheVariants.{Token, Sent as SaidSent}
use Rattle.world_defs.specs.Node.{lane_of, sends_on, port_at}
use Rattle.world_defs.specs.Client.{wanted_message}
use Rattle.world_defs.specs.World.{WorldState, new_world, node_at}
use Rattle.world_defs.specs.Step.{wanted, step}
use Rattle.world_defs.specs.Traffic.{sender_on, sent_on}
use Rattle.world_defs.specs.Acts.{Act, Happens, acted, IsReached}

-- A message that was sent with a token: the lane of its connection, its place among what was sent there, and itself.
pub record Note : Type 0 where
  pub lane : ℕ
  pub place : ℕ
  pub message : Message

-- a send was accepted with this token
abbrev pub is_token : ℕ → Effect → Bool
is_token token (Says (Token t)) = nat_eq t token
is_token token _ = false

-- the note of a port's token after an act: a send that is accepted with it stands after what was sent there before
abbrev pub noted_by : ℕ → ℕ → ℕ → WorldState → Act → Option Note → Option Note
noted_by h port token w (Happens (Send i p dest dport prio len seed)) before =
    if (nat_eq i h && nat_eq p port) && is_token token (step w (Send i p dest dport prio len seed)).0
    then Some (record {
      lane = lane_of dest prio;
      place = length (sent_on w (connection h dest prio));
      message = wanted_message (wanted p dest dport prio len seed);
    })
    else before
noted_by h port token w _ before = before

-- the note of a port's token after acts in order: that of the last send with it
abbrev pub noted_in : ℕ → ℕ → ℕ → WorldState → List Act → Option Note → Option Note
noted_in h port token w [] before = before
noted_in h port token w (a ∷ acts) before = noted_in h port token (acted w a) acts (noted_by h port token w a before)

-- A buffer that comes back with a send token has the bytes of the message that was last sent with this token: it stands
-- at its place among what was sent, and its last fragment is acknowledged.
pub record IsOfToken (sent : ℕ → List Message) (whole : ℕ → ℕ) (port : ℕ) (buffer : List ℕ)
    (noted : Option Note) : Type 0 where
  pub of : Note
  pub known : noted ≡ Some of
  pub there : slice_get (sent of.lane) of.place ≡ Some of.message
  pub acknowledged : of.place < whole of.lane
  pub from_port : of.message.sport ≡ port
  pub bytes : buffer ≡ of.message.body

-- what a host has sent by its lanes, and how many messages of each are acknowledged whole
abbrev pub sent_by_lane : WorldState → ℕ → ℕ → List Message
sent_by_lane w h lane = sent_on w (sends_on h lane)

abbrev pub whole_by_lane : WorldState → ℕ → ℕ → ℕ
whole_by_lane w h lane = whole_below (sent_on w (sends_on h lane)) (sender_on w (sends_on h lane)).base

-- after these acts each sent event that waits at an open port is of the message that its token was last sent with
abbrev pub SentEventsAreOf : Network → WorldState → List Act → Type 0
SentEventsAreOf n w acts =
    (h port place : ℕ) (p : PortState) (t : ℕ) (buffer : List ℕ)
    → port_at (node_at w h) port ≡ Some p → slice_get p.events place ≡ Some (Sent t buffer)
    → IsOfToken (sent_by_lane w h) (whole_by_lane w h) port buffer (noted_in h port t (new_world n) acts None)

-- and so is each token that a poll answers as sent then
abbrev pub PolledTokensAreOf : Network → WorldState → List Act → Type 0
PolledTokensAreOf n w acts =
    (h port t : ℕ) → (step w (Poll h port)).0 ≡ Says (SaidSent t)
    → (buffer : List ℕ)
    × IsOfToken (sent_by_lane w h) (whole_by_lane w h) port buffer (noted_in h port t (new_world n) acts None)

-- so it is in every reached world, after the acts that led to it
abbrev pub SentEventsAreOfTokens : Type 0
SentEventsAreOfTokens = (n : Network) (w : WorldState) (is : IsReached n w) → SentEventsAreOf n w is.acts

abbrev pub PolledTokensAreOfMessages : Type 0
PolledTokensAreOfMessages = (n : Network) (w : WorldState) (is : IsReached n w) → PolledTokensAreOf n w is.acts
