-- The window of each connection, and the packets on their way, after every list of acts.
use Rattle.std.specs.Prelude.{ℕ, ◌+◌, ◌≤◌}
use Rattle.net_defs.specs.Network.{Network}
use Rattle.gm_defs.specs.declared.frame.ConnectionKey.{ConnectionKey}
use Rattle.gm_defs.specs.Connection.{SenderState, IsSender, window}
use Rattle.world_defs.specs.World.{WorldState}
use Rattle.world_defs.specs.Traffic.{sender_on, taken_on, IsHonestTraffic}
use Rattle.world_defs.specs.Acts.{IsReached}

-- The numbers of a connection: the sender's are in order, what is acknowledged was taken, what was taken was sent,
-- and at most a window of fragments was sent and isn't acknowledged.
pub record IsWindow (s : SenderState) (taken : ℕ) : Type 0 where
  pub numbers : IsSender s
  pub base_below : s.base ≤ taken
  pub taken_below : taken ≤ s.top
  pub few : s.top ≤ s.base + window

-- each connection of a world has its window
abbrev pub HasWindows : WorldState → Type 0
HasWindows w = (c : ConnectionKey) → IsWindow (sender_on w c) (taken_on w c)

-- so has each one of every world that is reached
abbrev pub WindowsHold : Type 0
WindowsHold = (n : Network) (w : WorldState) → IsReached n w → HasWindows w

-- each packet in a channel or in limbo that no flip has met is honest
abbrev pub TrafficIsHonest : Type 0
TrafficIsHonest = (n : Network) (w : WorldState) → IsReached n w → IsHonestTraffic w
