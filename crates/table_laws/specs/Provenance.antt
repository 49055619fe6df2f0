-- Where each packet comes from: a host built it, of what it had to send first at some moment, and switches took route
-- bytes from its front.
use Rattle.std.specs.Prelude.{◌≡◌, ℕ, ◌+◌, ℤ, true, false, List, ◌++◌, Some, Err}
use Rattle.std.specs.List.{AllByRecursion}
use Rattle.net_defs.specs.Network.{Network}
use Rattle.packet_defs.specs.declared.kind.Kind.{Kind}
use Rattle.packet_defs.specs.declared.host_drop.HostDrop.TheVariants.{BadCrc}
use Rattle.packet_defs.specs.Packet.{packet_of}
use Rattle.packet_defs.specs.Host.{decode}
use Rattle.world_defs.specs.Links.{Held, packet_in}
use Rattle.world_defs.specs.Node.{Outgoing, to_send, packet_for}
use Rattle.world_defs.specs.World.{WorldState, new_world, node_at}
use Rattle.world_defs.specs.Acts.{Act, acted_all, IsByteAct}

-- a moment of acts: the world after a prefix of them
abbrev pub moment : Network → List Act → WorldState
moment n before = acted_all (new_world n) before

-- What is left of a packet that a host built at a moment of these acts, once some turns of its route are gone.
pub record IsLeftOf (n : Network) (acts : List Act) (wire : List ℕ) : Type 0 where
  pub before : List Act
  pub behind : List Act
  pub both : acts ≡ before ++ behind
  pub host : ℕ
  pub out : Outgoing
  pub sends : to_send host (node_at (moment n before) host) ≡ Some out
  pub gone : List ℤ
  pub left : List ℤ
  pub kind : Kind
  pub payload : List ℕ
  pub built : packet_for host ((moment n before).injected + 1) out ≡ packet_of (gone ++ left) kind payload
  pub rest : wire ≡ packet_of left kind payload

-- each packet in a channel that no flip has met
abbrev pub ChannelsHoldWhatWasBuilt : Type 0
ChannelsHoldWhatWasBuilt =
    (n : Network) (acts : List Act) (c : ℕ) (held : Held) → AllByRecursion IsByteAct acts
    → packet_in (moment n acts).links c ≡ Some held
    → held.marked ≡ false → IsLeftOf n acts held.wire

-- and each in limbo
abbrev pub LimboHoldsWhatWasBuilt : Type 0
LimboHoldsWhatWasBuilt =
    (n : Network) (acts : List Act) → AllByRecursion IsByteAct acts
    → AllByRecursion (λ e. e.1.held.marked ≡ false → IsLeftOf n acts e.1.held.wire) (moment n acts).links.limbo

-- a packet that a flip has met is dropped at every host, for its CRC
abbrev pub FlippedIsDropped : Type 0
FlippedIsDropped =
    (n : Network) (acts : List Act) (c : ℕ) (held : Held) → AllByRecursion IsByteAct acts
    → packet_in (moment n acts).links c ≡ Some held
    → held.marked ≡ true → decode held.wire ≡ Err BadCrc
