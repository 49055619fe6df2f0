-- Two hosts at a switch: the cable of the second is pulled, plugged again and accepted.
use Rattle.net_defs.specs.Examples.{two_hosts, host_end, switch_end}
use Rattle.world_defs.specs.History.{CableHistory, first_history, with_plugged, with_accepted}
use Rattle.world_defs.specs.Crossed.{pulled_at}

-- the cable of host b is pulled, at its switch
abbrev pub without_b : CableHistory
without_b = pulled_at (first_history two_hosts) (switch_end 0 5)

-- and another is plugged there
abbrev pub with_b : CableHistory
with_b = with_plugged without_b (host_end 1) (switch_end 0 5)

-- and accepted
abbrev pub accepted_b : CableHistory
accepted_b = with_accepted with_b
