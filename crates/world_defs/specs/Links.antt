-- The links of cables that come and go: each channel holds one packet or none, and limbo holds packets that were taken
-- or copied from a channel.
use Rattle.std.specs.Prelude.{ℕ, Bool, true, false, List, [], replicate, slice_index_or, slice_set, Option, Some, None}
use Rattle.std.specs.Prelude.{is_some, is_none, if◌then◌else◌}
use Rattle.std.specs.List.{list_all}
use Rattle.net_defs.specs.Network.{Network}
use Rattle.world_defs.specs.History.{CableHistory, first_history}
use Rattle.world_defs.specs.Crossed.{life_channels}

-- A packet in a channel or in limbo has its bytes, a mark where a flip has met it, and the number of the epoch in which
-- it was built.
pub record Held : Type 0 where
  pub wire : List ℕ
  pub marked : Bool
  pub born : ℕ

-- a packet in limbo, with the channel that it was in
pub record Caught : Type 0 where
  pub channel : ℕ
  pub held : Held

-- The history of the cables, the epoch, which is how often they were accepted, what each channel holds, the packets in
-- limbo by rising serial, and the serial of the next.
pub record LinkState : Type 0 where
  pub cables : CableHistory
  pub epoch : ℕ
  pub channels : List (Option Held)
  pub limbo : List (ℕ × Caught)
  pub next_serial : ℕ

-- the links of these cables without packets
abbrev pub bare_links : CableHistory → LinkState
bare_links h =
    record { cables = h; epoch = 0; channels = replicate (life_channels h) None; limbo = []; next_serial = 0 }

-- the links of a fabric without packets, before any change
abbrev pub empty_links : Network → LinkState
empty_links n = bare_links (first_history n)

-- the packet in a channel
abbrev pub packet_in : LinkState → ℕ → Option Held
packet_in s c = slice_index_or s.channels c None

-- the links with a channel that holds this
abbrev pub with_packet : LinkState → ℕ → Option Held → LinkState
with_packet s c p = record s { channels = slice_set s.channels c p }

-- the links with an empty channel
abbrev pub emptied : LinkState → ℕ → LinkState
emptied s c = with_packet s c None

-- no channel holds a packet
abbrev pub is_idle : LinkState → Bool
is_idle s = list_all is_none s.channels

-- a new packet into a channel: true exactly where the channel was empty
abbrev pub put : LinkState → ℕ → List ℕ → Bool × LinkState
put s c wire = if is_some (packet_in s c) then (false, s)
    else (true, with_packet s c (Some (record { wire = wire; marked = false; born = s.epoch })))
