-- What holds of the messages of each connection, and of the frames on their way, after every list of acts.
use Rattle.std.specs.Prelude.{◌≡◌, ℕ, ◌≤◌, List, length, Some, Ok}
use Rattle.std.specs.List.{AllByRecursion}
use Rattle.net_defs.specs.Network.{Network}
use Rattle.packet_defs.specs.declared.kind.Kind.TheVariants.{Gm}
use Rattle.packet_defs.specs.Host.{decode as decode_packet}
use Rattle.world_defs.specs.Links.{Held, packet_in}
use Rattle.gm_defs.specs.declared.message.Message.{Message}
use Rattle.gm_defs.specs.declared.frame.FrameHead.{FrameHead}
use Rattle.gm_defs.specs.declared.frame.ConnectionKey.{ConnectionKey}
use Rattle.gm_defs.specs.declared.frame.GmBody.TheVariants.{Frame}
use Rattle.gm_defs.specs.Body.{decode, part_in}
use Rattle.gm_defs.specs.Fragment.{fragments, whole_below, begun_below, IsHonestFrame}
use Rattle.world_defs.specs.Node.{prio_place}
use Rattle.world_defs.specs.World.{WorldState}
use Rattle.world_defs.specs.Sound.{IsPrefix}
use Rattle.world_defs.specs.Traffic.{sent_on, got_on, coming_on, taken_on}
use Rattle.world_defs.specs.Acts.{IsReached}

-- what was got on a connection is a prefix of what was sent on it
abbrev pub GotIsFrontOfSent : Type 0
GotIsFrontOfSent = (n : Network) (w : WorldState) → IsReached n w → (c : ConnectionKey)
    → IsPrefix (got_on w c) (sent_on w c)

-- What came of so many fragments: the messages that lie wholly below their number are got, and the bytes that are begun
-- there have come of the next.
pub record HasCome (sent got : List Message) (part : List ℕ) (taken : ℕ) : Type 0 where
  pub whole : length got ≡ whole_below sent taken
  pub begun : part ≡ begun_below sent taken
  pub within : taken ≤ length (fragments sent)

-- and it is what came of the fragments that were taken
abbrev pub TakenHasCome : Type 0
TakenHasCome =
    (n : Network) (w : WorldState) → IsReached n w → (c : ConnectionKey)
    → HasCome (sent_on w c) (got_on w c) (coming_on w c) (taken_on w c)

-- each message that was sent on a connection is of its priority
abbrev pub SentIsOfPriority : Type 0
SentIsOfPriority =
    (n : Network) (w : WorldState) → IsReached n w → (c : ConnectionKey)
    → AllByRecursion (λ m. prio_place m.prio ≡ prio_place c.prio) (sent_on w c)

-- whatever a host would read as a frame, of a packet in a channel, is the fragment of its number, of what was sent on
-- its connection
abbrev pub FramesAreHonest : Type 0
FramesAreHonest =
    (n : Network) (w : WorldState) (c : ℕ) (held : Held) (body : List ℕ) (h : FrameHead) → IsReached n w
    → packet_in w.links c ≡ Some held
    → decode_packet held.wire ≡ Ok (Gm, body) → decode body ≡ Ok (Frame h) → IsHonestFrame (sent_on w) h (part_in body)
