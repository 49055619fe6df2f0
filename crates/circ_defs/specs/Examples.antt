-- Path lists for worked examples.
use Rattle.std.specs.Prelude.{[], ◌∷◌, codes, List}
use Rattle.net_defs.specs.Network.{Network}
use Rattle.net_defs.specs.Examples.{host_end, switch_end, joined}
use Rattle.circ_defs.specs.Ways.{Step}
use Rattle.circ_defs.specs.PathList.{Ear}

-- Host a at a switch whose ports 1 and 2 are cabled to each other.
abbrev pub loop : Network
loop = record {
  hosts = codes "a" ∷ [];
  switches = record { name = codes "s"; ports = 4 } ∷ [];
  cables = joined (host_end 0) (switch_end 0 0) ∷ joined (switch_end 0 1) (switch_end 0 2) ∷ [];
}

-- from host a into the switch
abbrev pub into_loop : Step
into_loop = record { cable = 0; out = host_end 0; into = switch_end 0 0 }

-- round the loop
abbrev pub round_loop : Step
round_loop = record { cable = 1; out = switch_end 0 1; into = switch_end 0 2 }

-- back to host a
abbrev pub out_of_loop : Step
out_of_loop = record { cable = 0; out = switch_end 0 0; into = host_end 0 }

-- The loop is found by a return walk of three cables: in, round, and home.
abbrev pub loop_ears : List Ear
loop_ears =
    record { before = into_loop ∷ []; path = round_loop ∷ []; after = out_of_loop ∷ [] }
    ∷ record { before = []; path = into_loop ∷ []; after = [] }
    ∷ []

-- from host a to the switch of two hosts
abbrev pub from_first : Step
from_first = record { cable = 0; out = host_end 0; into = switch_end 0 2 }

-- from that switch to host b
abbrev pub to_second : Step
to_second = record { cable = 1; out = switch_end 0 5; into = host_end 1 }

-- Two hosts at a switch: the cable of host b is found by the way there.
abbrev pub two_hosts_ears : List Ear
two_hosts_ears =
    record { before = from_first ∷ []; path = to_second ∷ []; after = [] }
    ∷ record { before = []; path = from_first ∷ []; after = [] }
    ∷ []
