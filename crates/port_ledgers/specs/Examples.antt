-- Lines of a short report, worked out: two messages are accepted, one is received, and its send token comes back.
use Rattle.std.specs.Prelude.{List, [], ◌∷◌}
use Rattle.gm_defs.specs.declared.message.Message.{Message}
use Rattle.port_ledgers.specs.declared.lane.Lane.{Lane}
use Rattle.port_ledgers.specs.declared.lane.PortName.{PortName}
use Rattle.port_ledgers.specs.Told.{Told, Opened, Accepted, Returned, Received}

-- the lane from host 0 to port 1 of host 1
abbrev pub lane : Lane
lane = record { from = 0; to = 1; port = 1; prio = 0 }

-- the other way
abbrev pub way_back : Lane
way_back = record { from = 1; to = 0; port = 0; prio = 0 }

-- port 0 of host 0
abbrev pub sender : PortName
sender = record { host = 0; port = 0 }

-- the message of one byte
abbrev pub first_message : Message
first_message = record { sport = 0; dport = 1; prio = 0; body = 9 ∷ [] }

-- the message of two bytes, which count from 255
abbrev pub second_message : Message
second_message = record { sport = 0; dport = 1; prio = 0; body = 255 ∷ 0 ∷ [] }

-- the lines, the latest first
abbrev pub lines : List Told
lines =
    Returned sender 0
    ∷ Received lane 0 (9 ∷ []) 0
    ∷ Accepted lane (record { sport = 0; len = 2; seed = 255 }) 1
    ∷ Accepted lane (record { sport = 0; len = 1; seed = 9 }) 0
    ∷ Opened (record { host = 1; port = 1 }) 0 1
    ∷ Opened sender 2 0
    ∷ []
