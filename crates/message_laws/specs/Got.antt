-- How much of what was sent is got, after every list of acts.
use Rattle.std.specs.Prelude.{◌≡◌, take}
use Rattle.net_defs.specs.Network.{Network}
use Rattle.gm_defs.specs.declared.frame.ConnectionKey.{ConnectionKey}
use Rattle.gm_defs.specs.Fragment.{whole_below}
use Rattle.world_defs.specs.World.{WorldState}
use Rattle.world_defs.specs.Traffic.{sender_on, sent_on, got_on, taken_on}
use Rattle.world_defs.specs.Settle.{unacknowledged_in}
use Rattle.world_defs.specs.Logs.{settle}
use Rattle.world_defs.specs.Acts.{IsReached}

-- what is got on a connection is the messages that lie wholly below the number of fragments taken
abbrev pub GotIsWholeBelowTaken : Type 0
GotIsWholeBelowTaken =
    (n : Network) (w : WorldState) → IsReached n w → (c : ConnectionKey)
    → got_on w c ≡ take (whole_below (sent_on w c) (taken_on w c)) (sent_on w c)

-- where all fragments of a connection are acknowledged, all that was sent on it is got
abbrev pub AllAcknowledgedIsAllGot : Type 0
AllAcknowledgedIsAllGot =
    (n : Network) (w : WorldState) → IsReached n w → (c : ConnectionKey)
    → (sender_on w c).base ≡ (sender_on w c).next → got_on w c ≡ sent_on w c

-- on each connection all that was sent is got
abbrev pub IsAllGot : WorldState → Type 0
IsAllGot w = (c : ConnectionKey) → got_on w c ≡ sent_on w c

-- and so it is where no host has an unacknowledged fragment
abbrev pub NoneUnacknowledgedIsAllGot : Type 0
NoneUnacknowledgedIsAllGot = (n : Network) (w : WorldState) → IsReached n w → unacknowledged_in w ≡ 0 → IsAllGot w

-- so a settle after which no fragment is unacknowledged leaves all got
abbrev pub SettleGetsAll : Type 0
SettleGetsAll = (n : Network) (w : WorldState) → IsReached n w → unacknowledged_in (settle w).world ≡ 0
    → IsAllGot (settle w).world
