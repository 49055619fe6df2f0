-- The items of a host are those of a host of the world.
use Rattle.std.specs.Prelude.{◌≡◌, ℕ, false, Some}
use Rattle.world_defs.specs.Node.{NodeState, Outgoing, either, to_send, after_sending, has_staged, given_up}
use Rattle.host_items.specs.Held.{HostItems, no_items, is_staged, first_of, without_first, with_items}

-- what stands first is sent first; where none stands, what the host sends without them
abbrev pub FirstIsSentFirst : Type 0
FirstIsSentFirst = (host : ℕ) (n : NodeState) (i : HostItems)
    → to_send host (with_items n i) ≡ either (first_of i) (to_send host (with_items n no_items))

-- once it counts as sent, the host is without it
abbrev pub SentIsAfterSending : Type 0
SentIsAfterSending = (n : NodeState) (i : HostItems) (out : Outgoing) → first_of i ≡ Some out
    → after_sending (with_items n i) out ≡ with_items n (without_first i)

-- one stands where the host has something to give up
abbrev pub StagedIsHas : Type 0
StagedIsHas = (n : NodeState) (i : HostItems) → has_staged (with_items n i) ≡ is_staged i

-- none stands once the host gave up
abbrev pub GivenUpIsNone : Type 0
GivenUpIsNone = (n : NodeState) (i : HostItems) → given_up (with_items n i) ≡ with_items n no_items

-- and where none stood, none was there to drop
abbrev pub NoneToGiveUp : Type 0
NoneToGiveUp = (i : HostItems) → is_staged i ≡ false → i ≡ no_items
