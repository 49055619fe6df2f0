-- What hosts send on adopted routes is lawful, after every list of acts.
use Rattle.std.specs.Prelude.{◌≡◌, ◌⊎◌, ℕ, false, slice_get, Some}
use Rattle.std.specs.List.{AllByRecursion}
use Rattle.net_defs.specs.Network.{Network}
use Rattle.world_defs.specs.Links.{Held, Caught, packet_in}
use Rattle.world_defs.specs.declared.event.Event.TheVariants.{Advance}
use Rattle.world_defs.specs.World.{WorldState}
use Rattle.world_defs.specs.Step.{step}
use Rattle.world_defs.specs.Traffic.{IsLawful, IsLawfulTraffic}
use Rattle.world_defs.specs.Acts.{IsReached}
use Rattle.lawful_laws.specs.Probes.{IsProbe, IsReadAsProbe, IsWalkAct}
use Rattle.lawful_laws.specs.Former.{IsExcused}

-- each packet in a channel that no flip has met is lawful, but for probes and replies, packets built before the current
-- epoch, and parts and acknowledgements of parts of an epoch before it, or of one in which a cable was plugged
abbrev pub UnflippedIsLawful : Type 0
UnflippedIsLawful =
    (n : Network) (w : WorldState) (c : ℕ) (held : Held) → IsReached n w → packet_in w.links c ≡ Some held
    → held.marked ≡ false
    → IsExcused IsProbe w held ⊎ IsLawful w c held

-- and where each walk that was asked is one, as each of the program's is, the probes and replies are read as such
abbrev pub UnflippedIsRead : Type 0
UnflippedIsRead =
    (n : Network) (w : WorldState) (c : ℕ) (held : Held) (r : IsReached n w) → AllByRecursion IsWalkAct r.acts
    → packet_in w.links c ≡ Some held
    → held.marked ≡ false → IsExcused IsReadAsProbe w held ⊎ IsLawful w c held

-- each packet in limbo that no flip has met is so excused, or lawful in the channel that it was taken from
abbrev pub LimboIsLawful : Type 0
LimboIsLawful =
    (n : Network) (w : WorldState) (place serial : ℕ) (caught : Caught) → IsReached n w
    → slice_get w.links.limbo place ≡ Some (serial, caught)
    → caught.held.marked ≡ false → IsExcused IsProbe w caught.held ⊎ IsLawful w caught.channel caught.held

-- and so it is read, where each walk that was asked is one
abbrev pub LimboIsRead : Type 0
LimboIsRead =
    (n : Network) (w : WorldState) (place serial : ℕ) (caught : Caught) (r : IsReached n w)
    → AllByRecursion IsWalkAct r.acts
    → slice_get w.links.limbo place ≡ Some (serial, caught) → caught.held.marked ≡ false
    → IsExcused IsReadAsProbe w caught.held ⊎ IsLawful w caught.channel caught.held

-- where all traffic is lawful, it is so after an advance of any channel
abbrev pub AdvanceKeepsLawful : Type 0
AdvanceKeepsLawful = (n : Network) (w : WorldState) (c : ℕ) → IsReached n w → IsLawfulTraffic w
    → IsLawfulTraffic (step w (Advance c)).1
