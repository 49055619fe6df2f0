-- Channels that are awake, and those that sleep: their packet waits for another channel, and an advance would change
-- nothing.
use Rattle.std.specs.Prelude.{◌≡◌, ◌≢◌, ◌⊎◌, ℕ, ◌+◌, ◌*◌, ◌^◌, ◌<◌, ◌≤◌, List, length, slice_index_or, None, Some}
use Rattle.std.specs.Prelude.{is_some, true, false}
use Rattle.world_defs.specs.declared.moved.Course.TheVariants.{Enters}
use Rattle.world_defs.specs.Links.{Held, LinkState, packet_in}
use Rattle.world_defs.specs.Advance.{course}
use Rattle.number_marks.specs.Marks.{mark_at}
use Rattle.world_defs.specs.declared.event.Event.TheVariants.{Advance}
use Rattle.link_model.specs.declared.hop.Hop.{Hop}
use Rattle.link_model.specs.declared.hop.Hop.TheVariants.{Moved, Blocked, Untried}
use Rattle.world_defs.specs.declared.effect.Effect.{Effect}
use Rattle.world_defs.specs.declared.effect.Effect.TheVariants.{Moved as MovedTo, Blocked as StaysFor}
use Rattle.world_defs.specs.World.{WorldState}
use Rattle.world_defs.specs.Step.{step}
use Rattle.world_defs.specs.Drain.{changed}

-- A channel's packet is sent on into another channel, and that holds a packet.
pub record WaitsFor (s : LinkState) (c next : ℕ) : Type 0 where
  pub held : Held
  pub there : packet_in s c ≡ Some held
  pub to : course s.cables c held.wire ≡ Enters next
  pub full : is_some (packet_in s next) ≡ true
  pub other : next ≢ c

-- A channel stands in the row of another, at a place that is in use: each row has 16 places.
pub record IsListed (places counts : List ℕ) (c next : ℕ) : Type 0 where
  pub place : ℕ
  pub used : place < slice_index_or counts next 0
  pub there : slice_index_or places (16 * next + place) 0 ≡ c

-- a channel is empty, or waits for another, in whose row it stands
abbrev pub Sleeps : LinkState → List ℕ → List ℕ → ℕ → Type 0
Sleeps s places counts c = (packet_in s c ≡ None) ⊎ ((next : ℕ) × WaitsFor s c next × IsListed places counts c next)

-- There is a mark and a row for each channel; no row uses more than its places, and what stands in them has a mark.
pub record HasRows (channels : ℕ) (marks places counts : List ℕ) : Type 0 where
  pub marked : channels ≤ 64 * length marks
  pub short : length marks ≤ 2 ^ 32
  pub listed : channels ≤ length counts
  pub rows : length places ≡ 16 * length counts
  pub few : (c : ℕ) → slice_index_or counts c 0 ≤ 16
  pub low : (i : ℕ) → slice_index_or places i 0 < 64 * length marks

-- Each channel without a mark sleeps.
pub record AreAwake (s : LinkState) (marks places counts : List ℕ) : Type 0 where
  pub rows : HasRows (length s.channels) marks places counts
  pub sleep : (c : ℕ) → mark_at marks c ≡ 0 → Sleeps s places counts c

-- The same but for those that stand in the row of one channel: that has been emptied.
pub record AreAwakeBut (s : LinkState) (emptied : ℕ) (marks places counts : List ℕ) : Type 0 where
  pub rows : HasRows (length s.channels) marks places counts
  pub sleep : (c : ℕ) → mark_at marks c ≡ 0 → Sleeps s places counts c ⊎ IsListed places counts c emptied

-- The same after an advance by which a channel's packet has gone on into another that has no mark yet.
pub record AreAwakeOnce (s : LinkState) (left next : ℕ) (marks places counts : List ℕ) : Type 0 where
  pub rows : HasRows (length s.channels) marks places counts
  pub gone : left ≢ next → packet_in s left ≡ None
  pub sleep : (c : ℕ) → c ≢ next → mark_at marks c ≡ 0 → Sleeps s places counts c ⊎ IsListed places counts c left

-- The same after an advance that a hop reports, while the marks and rows are still those before it.
abbrev pub AreAwakeBehind : Hop → LinkState → ℕ → (marks places counts : List ℕ) → Type 0
AreAwakeBehind (Moved next) s c marks places counts =
    AreAwakeOnce s c next marks places counts × (next < length s.channels)
AreAwakeBehind (Blocked next) s c marks places counts = AreAwake s marks places counts × WaitsFor s c next
AreAwakeBehind Untried s c marks places counts = AreAwakeBut s c marks places counts × (packet_in s c ≡ None)

-- what an effect of an advance says of a packet that stays in the channels
abbrev pub hop_of : Effect → Hop
hop_of (MovedTo next) = Moved next
hop_of (StaysFor next) = Blocked next
hop_of _ = Untried

-- an advance of a channel would change nothing
abbrev pub IsStill : WorldState → ℕ → Type 0
IsStill w c = changed (step w (Advance c)).0 ≡ false

-- The least channel from a number on whose advance may change something.
pub record IsNextAwake (w : WorldState) (from c : ℕ) : Type 0 where
  pub above : from ≤ c
  pub there : c < length w.links.channels
  pub passed : (k : ℕ) → from ≤ k → k < c → IsStill w k
