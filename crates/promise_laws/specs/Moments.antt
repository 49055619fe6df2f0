-- What holds of a world at every moment, whatever happened before it.
use Rattle.std.specs.Prelude.{◌≡◌, ◌⊎◌, ℕ, false, slice_get, Some}
use Rattle.std.specs.List.{AllByRecursion}
use Rattle.net_defs.specs.Network.{Network}
use Rattle.world_defs.specs.Links.{Held, Caught, packet_in}
use Rattle.gm_defs.specs.Token.{Sending, PortState}
use Rattle.world_defs.specs.Node.{NodeState, port_at}
use Rattle.world_defs.specs.Table.{ActiveTable}
use Rattle.world_defs.specs.World.{WorldState, node_at}
use Rattle.world_defs.specs.Sound.{IsSound}
use Rattle.world_defs.specs.Traffic.{IsLawful, IsHonestTraffic}
use Rattle.world_defs.specs.Acts.{IsReached}
use Rattle.table_laws.specs.Set.{IsActive}
use Rattle.lawful_laws.specs.Probes.{IsProbe}
use Rattle.lawful_laws.specs.Former.{IsExcused}
use Rattle.ticket_laws.specs.Tickets.{HasOneTicket}
use Rattle.ticket_laws.specs.Host.{tickets_of, AreTicketed}
use Rattle.message_laws.specs.Filling.{HasTiedParts}
use Rattle.message_laws.specs.Unfinished.{HasBytes}
use Rattle.message_laws.specs.Untouched.{IsUntouched}
use Rattle.message_laws.specs.Windows.{HasWindows}

-- what is active at a host is of the adopted epoch, and has exactly the adopted routes from this host; without adopted
-- routes no table is active
abbrev pub HasAdoptedTables : WorldState → Type 0
HasAdoptedTables w = (h : ℕ) (t : ActiveTable) → (node_at w h).table.active ≡ Some t → IsActive w.adopted h t

-- a packet that no flip has met is lawful in its channel, but for probes and replies, packets built before the current
-- epoch, and parts and acknowledgements of parts of an epoch before it, or of one in which a cable was plugged
abbrev pub IsLawfulOrExcused : WorldState → ℕ → Held → Type 0
IsLawfulOrExcused w c held = held.marked ≡ false → IsExcused IsProbe w held ⊎ IsLawful w c held

-- Each packet in a channel is so, and each in limbo, in the channel that it was taken from.
pub record HasLawfulPackets (w : WorldState) : Type 0 where
  pub in_channels : (c : ℕ) (held : Held) → packet_in w.links c ≡ Some held → IsLawfulOrExcused w c held
  pub in_limbo : (place serial : ℕ) (caught : Caught) → slice_get w.links.limbo place ≡ Some (serial, caught)
      → IsLawfulOrExcused w caught.channel caught.held

-- On a host the sends in the queues of its ports are those of the messages whose last fragment isn't acknowledged, each
-- with its message's bytes; and the token of each place in a queue has one ticket.
pub record HasUnfinishedSends (n : NodeState) : Type 0 where
  pub matched : AreTicketed HasBytes n.ports n.lanes
  pub each : (port place : ℕ) (p : PortState) (s : Sending) → port_at n port ≡ Some p
      → slice_get p.queue place ≡ Some s → HasOneTicket (tickets_of n.lanes) (record { port = port; token = s.token })

-- each provided buffer of an open port is as it was provided, but for the bytes of a message that it holds in front
abbrev pub HasUntouchedBuffers : NodeState → Type 0
HasUntouchedBuffers n = (port : ℕ) (p : PortState) → port_at n port ≡ Some p → AllByRecursion IsUntouched p.provided

-- What is promised of a world. The installed routes have no cycle; what was got is a prefix of what was sent, for each
-- sender, receiver and priority; each token has one owner. Active tables are of the adopted routes, and packets that no
-- flip has met are lawful but for those that are named. On each connection what is acknowledged was taken, what was
-- taken was sent, and at most a window of fragments is sent and not acknowledged; a frame or an acknowledgement on its
-- way says only what is true. A send stands in its port's queue exactly while its message isn't acknowledged. What came
-- of a message in part stands in one provided buffer, of its port, its sender and its priority, and no other buffer is
-- filling for these; all else in provided buffers is as it was provided.
pub record IsWorldRight (w : WorldState) : Type 0 where
  pub sound : IsSound w
  pub tables : HasAdoptedTables w
  pub lawful : HasLawfulPackets w
  pub windows : HasWindows w
  pub honest : IsHonestTraffic w
  pub sends : (h : ℕ) → HasUnfinishedSends (node_at w h)
  pub parts : HasTiedParts w
  pub untouched : (h : ℕ) → HasUntouchedBuffers (node_at w h)

-- so each world is that acts which may happen lead to
abbrev pub ReachedWorldsAreRight : Type 0
ReachedWorldsAreRight = (n : Network) (w : WorldState) → IsReached n w → IsWorldRight w
