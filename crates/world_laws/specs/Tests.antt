-- What the tests of a settle say, and a world in which nothing is left to acknowledge.
use Rattle.std.specs.Prelude.{◌≡◌, ◌↔◌, ℕ, ◌<◌, true, false, []}
use Rattle.world_defs.specs.Node.{unacknowledged_to}
use Rattle.world_defs.specs.World.{WorldState, host_count, node_at, has_to_send}
use Rattle.world_defs.specs.Settle.{is_quiet, unacknowledged_in, base_of, base_rose}
use Rattle.world_defs.specs.Settled.{IsSettled}
use Rattle.world_laws.specs.Shape.{HasSenders}

-- Nothing is in limbo, and no host has anything to send that its cable takes.
pub record IsQuiet (w : WorldState) : Type 0 where
  pub empty_limbo : w.links.limbo ≡ []
  pub nothing_to_send : (h : ℕ) → h < host_count w → has_to_send w h ≡ false

-- the test of a pass: the world is quiet after it
abbrev pub QuietTest : Type 0
QuietTest = (w : WorldState) → is_quiet w ≡ true ↔ IsQuiet w

-- The base of some connection of the hosts rose.
pub record BaseRose (before w : WorldState) : Type 0 where
  pub host : ℕ
  pub peer : ℕ
  pub prio : ℕ
  pub is_host : host < host_count w
  pub is_peer : peer < host_count w
  pub rose : base_of before host peer prio < base_of w host peer prio

-- the test of a round: a base rose in it
abbrev pub BaseTest : Type 0
BaseTest = (before w : WorldState) → base_rose before w ≡ true ↔ BaseRose before w

-- every fragment of every connection of the hosts is acknowledged
abbrev pub IsAllAcknowledged : WorldState → Type 0
IsAllAcknowledged w = (h peer : ℕ) → h < host_count w → peer < host_count w → unacknowledged_to (node_at w h) peer ≡ 0

-- the test of the last round: nothing is left to acknowledge after it
abbrev pub NoneLeftTest : Type 0
NoneLeftTest = (w : WorldState) → unacknowledged_in w ≡ 0 ↔ IsAllAcknowledged w

-- where nothing is left to acknowledge, and the numbers of the connections are in order, the world is settled
abbrev pub NoneLeftIsSettled : Type 0
NoneLeftIsSettled = (w : WorldState) → HasSenders w → unacknowledged_in w ≡ 0 → IsSettled w
