-- Packets on their way: which go by an adopted route, and which say only what is true.
use Rattle.std.specs.Prelude.{◌≡◌, ◌⊎◌, ℕ, ℤ, Bool, true, false, List, [], ◌∷◌, ◌++◌, slice_get, Option, Some, None, Ok}
use Rattle.std.specs.Option.{option_map_or}
use Rattle.std.specs.List.{list_any, AllByRecursion}
use Rattle.net_defs.specs.declared.route.Route.{Route}
use Rattle.packet_defs.specs.declared.kind.Kind.TheVariants.{Gm}
use Rattle.packet_defs.specs.RouteByte.{turn_of}
use Rattle.packet_defs.specs.Packet.{head}
use Rattle.packet_defs.specs.Host.{body_of}
use Rattle.world_defs.specs.declared.wire.Wire.{Wire}
use Rattle.world_defs.specs.History.{is_in_place, is_left}
use Rattle.world_defs.specs.Crossed.{channels_by, channels_at, life_tail, is_new, is_cut}
use Rattle.world_defs.specs.Kinds.{unrouted, is_gm}
use Rattle.world_defs.specs.Links.{Held, Caught, packet_in}
use Rattle.gm_defs.specs.declared.message.Message.{Message}
use Rattle.gm_defs.specs.declared.frame.FrameHead.{FrameHead}
use Rattle.gm_defs.specs.declared.frame.Ack.{Ack}
use Rattle.gm_defs.specs.declared.frame.ConnectionKey.{ConnectionKey}
use Rattle.gm_defs.specs.declared.frame.GmBody.TheVariants.{Frame, Ack as Acknowledges}
use Rattle.gm_defs.specs.Body.{decode, part_in}
use Rattle.gm_defs.specs.Fragment.{IsHonestFrame, IsHonestAck}
use Rattle.world_defs.specs.Table.{Adoption, at_in, route_of}
use Rattle.gm_defs.specs.Connection.{SenderState}
use Rattle.world_defs.specs.Node.{sending_lane, taking_lane, lane_at}
use Rattle.world_defs.specs.World.{WorldState, node_at}

-- the routes of an adopted set; none where nothing is adopted
abbrev pub routes_in : Option Adoption → List Route
routes_in None = []
routes_in (Some a) = a.routes

-- the routes that were adopted
abbrev pub adopted_routes : WorldState → List Route
adopted_routes w = routes_in w.adopted

-- a byte's turn and those after it; none where the byte has none
abbrev pub front_turn_then : Option ℤ → List ℤ → List ℤ
front_turn_then None turns = []
front_turn_then (Some turn) turns = turn ∷ turns

-- the turns of the route bytes in front
abbrev pub front_turns : List ℕ → List ℤ
front_turns [] = []
front_turns (byte ∷ bytes) = front_turn_then (turn_of byte) (front_turns bytes)

-- the channels that a walk from a host crossed as the fabric stood at the adoption
abbrev pub route_channels : WorldState → ℕ → List ℤ → List ℕ
route_channels w host walk = channels_at w.links.cables (at_in w.adopted) host walk

-- a walk from a host crossed a cable at the adoption that was pulled since
abbrev pub is_cut_walk : WorldState → ℕ → List ℤ → Bool
is_cut_walk w host walk = list_any (is_cut w.links.cables) (route_channels w host walk)

-- the adopted route from one host to another crosses a cable that was pulled since the adoption
abbrev pub is_broken : WorldState → ℕ → ℕ → Bool
is_broken w from to = option_map_or (is_cut_walk w from) (route_of (adopted_routes w) from to) false

-- the channel of a packet, and those to which its route bytes lead over cables that pass a test
abbrev pub ahead_by : WorldState → (Wire → Bool) → ℕ → List ℕ → List ℕ
ahead_by w test c wire = channels_by w.links.cables test (life_tail w.links.cables c) (front_turns (head wire))

-- what lies ahead of a packet: up to the first new cable, or the first end without one
abbrev pub channels_ahead : WorldState → ℕ → List ℕ → List ℕ
channels_ahead w c wire = ahead_by w (is_left w.links.cables) c wire

-- no new cable lies ahead of a packet
abbrev pub MeetsNoNewCable : WorldState → ℕ → List ℕ → Type 0
MeetsNoNewCable w c wire = AllByRecursion (λ d. is_new w.links.cables d ≡ false) (ahead_by w is_in_place c wire)

-- A packet is lawful where no flip has met it, its cable isn't new, what lies ahead of it is a stretch of an adopted
-- route, and it is a message's where a new cable ends that.
pub record IsLawful (w : WorldState) (c : ℕ) (held : Held) : Type 0 where
  pub unmarked : held.marked ≡ false
  pub accepted : is_new w.links.cables c ≡ false
  pub place : ℕ
  pub route : Route
  pub behind : List ℕ
  pub beyond : List ℕ
  pub there : slice_get (adopted_routes w) place ≡ Some route
  pub within : route_channels w route.from route.walk ≡ behind ++ (channels_ahead w c held.wire ++ beyond)
  pub stopped : (is_gm held.wire ≡ true) ⊎ MeetsNoNewCable w c held.wire

-- traffic is lawful where every packet in every channel is
pub record IsLawfulTraffic (w : WorldState) : Type 0 where
  pub packets : (c : ℕ) (held : Held) → packet_in w.links c ≡ Some held → IsLawful w c held

-- the numbers of a connection's sender
abbrev pub sender_on : WorldState → ConnectionKey → SenderState
sender_on w c = (lane_at (node_at w c.src) (sending_lane c)).sender

-- what the ports of a connection's sending host accepted for it, in order
abbrev pub sent_on : WorldState → ConnectionKey → List Message
sent_on w c = (lane_at (node_at w c.src) (sending_lane c)).sent

-- what a connection's taking host put into its ports' queues, in order
abbrev pub got_on : WorldState → ConnectionKey → List Message
got_on w c = (lane_at (node_at w c.dst) (taking_lane c)).got

-- the bytes that came so far of the message that is taken in part from a connection
abbrev pub coming_on : WorldState → ConnectionKey → List ℕ
coming_on w c = (lane_at (node_at w c.dst) (taking_lane c)).coming

-- how many fragments were taken from a connection
abbrev pub taken_on : WorldState → ConnectionKey → ℕ
taken_on w c = (lane_at (node_at w c.dst) (taking_lane c)).taken

-- A packet is honest where it carries a frame that is the fragment of its number, or an acknowledgement that says no
-- more than was taken, or neither; a flip may have made anything of it.
pub record IsHonest (w : WorldState) (held : Held) : Type 0 where
  pub frames : (h : FrameHead) (body : List ℕ) → held.marked ≡ false → body_of (unrouted held.wire) ≡ Ok (Gm, body)
      → decode body ≡ Ok (Frame h) → IsHonestFrame (sent_on w) h (part_in body)
  pub acks : (a : Ack) (body : List ℕ) → held.marked ≡ false → body_of (unrouted held.wire) ≡ Ok (Gm, body)
      → decode body ≡ Ok (Acknowledges a) → IsHonestAck (taken_on w) a

-- every packet in a channel or in limbo is honest
pub record IsHonestTraffic (w : WorldState) : Type 0 where
  pub in_channels : (c : ℕ) (held : Held) → packet_in w.links c ≡ Some held → IsHonest w held
  pub in_limbo : (place : ℕ) (serial : ℕ) (caught : Caught) → slice_get w.links.limbo place ≡ Some (serial, caught)
      → IsHonest w caught.held
