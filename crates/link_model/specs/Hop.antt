-- A hop: an advance of a packet that another channel takes, or that waits for one.
use Rattle.std.specs.Prelude.{◌≡◌, ℕ, ◌+◌, Bool, true, false, List, Option, Some, None, ◌&&◌, not, if◌then◌else◌}
use Rattle.world_defs.specs.History.{CableHistory}
use Rattle.world_defs.specs.Crossed.{is_new}
use Rattle.world_defs.specs.Kinds.{is_mapping}
use Rattle.packet_defs.specs.Packet.{stripped}
use Rattle.world_defs.specs.declared.moved.Course.{Course}
use Rattle.world_defs.specs.declared.moved.Course.TheVariants.{Arrives, Enters, Drops}
use Rattle.world_defs.specs.declared.moved.Moved.{Moved as WentTo}
use Rattle.world_defs.specs.declared.moved.Moved.TheVariants.{To, Blocked as StaysFor}
use Rattle.world_defs.specs.Links.{LinkState}
use Rattle.world_defs.specs.Advance.{course, advance}
use Rattle.link_model.specs.declared.hop.Hop.{Hop}
use Rattle.link_model.specs.declared.hop.Hop.TheVariants.{Moved, Blocked, Untried}

-- an advance went into a channel, or waits for one
abbrev pub is_hop : WentTo (List ℕ) → Bool
is_hop (To next) = true
is_hop (StaysFor next) = true
is_hop _ = false

-- A hop that moved its packet, or found it blocked, is the advance. It is left untried exactly where the advance goes
-- into no channel and waits for none; then nothing has changed.
abbrev pub IsHop : LinkState → ℕ → Hop → LinkState → Type 0
IsHop old c (Moved next) new = advance old c ≡ (To next, new)
IsHop old c (Blocked next) new = advance old c ≡ (StaysFor next, new)
IsHop old c Untried new = (new ≡ old) × (is_hop (advance old c).0 ≡ false)

-- the channel that a course leads into, if it leads into one
abbrev pub entered_by : Course → Option ℕ
entered_by (Arrives h) = None
entered_by (Enters next) = Some next
entered_by (Drops why) = None

-- the channel that a packet may enter of one that its turn leads to: a new one takes packets of mapping alone
abbrev pub passing : CableHistory → List ℕ → Option ℕ → Option ℕ
passing h wire None = None
passing h wire (Some next) = if is_new h next && not (is_mapping wire) then None else Some next

-- a switch sends a channel's packet on into a channel
abbrev pub IsSentOn : CableHistory → ℕ → List ℕ → Type 0
IsSentOn h c wire = (next : ℕ) × (course h c wire ≡ Enters next)

-- Hops of a packet by its own bytes, whatever the channels hold: from a channel with these bytes, in so many hops, to
-- this channel with those.
pub data IsSentAlong (h : CableHistory) (c : ℕ) (wire : List ℕ) : ℕ → ℕ → List ℕ → Type 0 where
  not_yet : IsSentAlong h c wire 0 c wire
  one_more : {hops at next : ℕ} {now : List ℕ} → IsSentAlong h c wire hops at now → course h at now ≡ Enters next
      → IsSentAlong h c wire (hops + 1) next (stripped now)

-- So many advances in a row, the first of this channel and each other of the channel that the packet entered by the one
-- before, lead to this channel and these links.
pub data IsRun (s : LinkState) (c : ℕ) : ℕ → ℕ → LinkState → Type 0 where
  not_begun : IsRun s c 0 c s
  further : {hops at next : ℕ} {now after : LinkState} → IsRun s c hops at now → advance now at ≡ (To next, after)
      → IsRun s c (hops + 1) next after
