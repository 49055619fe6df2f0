-- A lane that is made when it is first used.
use Rattle.std.specs.Prelude.{◌≡◌, Option, Some, None, Box, IfSome}
use Rattle.std.specs.declared.alloc.Global.{Global}
use Rattle.gm_defs.specs.declared.frame.ConnectionKey.{ConnectionKey}
use Rattle.gm_conn.specs.Lane.{HostLane, unused}

-- the lane of a key, used or not
abbrev pub lane_of : ConnectionKey → Option (Box HostLane Global) → HostLane
lane_of key None = unused key
lane_of key (Some lane) = lane.value

-- a lane that is used has its key
abbrev pub HasKey : ConnectionKey → Option (Box HostLane Global) → Type 0
HasKey key used = IfSome used (λ lane. lane.value.key ≡ key)
