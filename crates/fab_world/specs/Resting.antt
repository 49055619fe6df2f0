-- Silent hosts and those at rest, and the marks of those that may not be.
use Rattle.std.specs.Prelude.{◌≡◌, ℕ, ◌<◌, ◌≤◌, ◌*◌, Bool, true, false, List, length, slice_index_or, is_some}
use Rattle.number_marks.specs.Marks.{mark_at, IsWritten}
use Rattle.world_defs.specs.declared.heard.Heard.{Heard}
use Rattle.world_defs.specs.declared.heard.Heard.TheVariants.{Reply, Loop, RoutesAck}
use Rattle.world_defs.specs.declared.arrival.Arrival.{Arrival}
use Rattle.world_defs.specs.declared.arrival.Arrival.TheVariants.{Heard as Hears, Dropped, NotMine}
use Rattle.world_defs.specs.Node.{NodeState, has_staged, to_send, unacknowledged_to}
use Rattle.world_defs.specs.World.{WorldState, host_count, node_at}
use Rattle.client_host.specs.Held.{ServedHost}
use Rattle.client_host.specs.Hosts.{AreHosts, no_host}
use Rattle.fab_world.specs.declared.host_marks.HostMarks.{HostMarks}

-- A host has nothing staged and nothing to send.
pub record IsSilent (host : ℕ) (n : NodeState) : Type 0 where
  pub unstaged : has_staged n ≡ false
  pub unsending : is_some (to_send host n) ≡ false

-- A host is silent, and all that it was given to send is acknowledged.
pub record IsAtRest (host : ℕ) (n : NodeState) : Type 0 where
  pub silent : IsSilent host n
  pub acknowledged : (peer : ℕ) → unacknowledged_to n peer ≡ 0

-- a host of a world is silent
abbrev pub IsSilentIn : WorldState → ℕ → Type 0
IsSilentIn w h = IsSilent h (node_at w h)

-- a host of a world is at rest
abbrev pub RestsIn : WorldState → ℕ → Type 0
RestsIn w h = IsAtRest h (node_at w h)

-- A host that isn't below an address; each before it, from that address on, is silent.
pub record IsNextBusy (w : WorldState) (from h : ℕ) : Type 0 where
  pub above : from ≤ h
  pub there : h < host_count w
  pub passed : (k : ℕ) → from ≤ k → k < h → IsSilentIn w k

-- A host that isn't below an address; each before it, from that address on, is at rest.
pub record IsNextAwake (w : WorldState) (from h : ℕ) : Type 0 where
  pub above : from ≤ h
  pub there : h < host_count w
  pub passed : (k : ℕ) → from ≤ k → k < h → RestsIn w k

-- A number has its place among both sets of marks.
pub record HasPlace (m : HostMarks) (n : ℕ) : Type 0 where
  pub awake : n < 64 * length m.awake
  pub busy : n < 64 * length m.busy

-- A number was marked in both sets.
pub record IsMarked (old new : HostMarks) (n : ℕ) : Type 0 where
  pub awake : IsWritten old.awake new.awake n 1
  pub busy : IsWritten old.busy new.busy n 1

-- Each host has its place among the marks, and a property holds of one that isn't marked.
pub record AreMarked (P : ℕ → NodeState → Type 0) (ss : List ServedHost) (marks : List ℕ) : Type 0 where
  pub room : length ss ≤ 64 * length marks
  pub bare : (h : ℕ) → h < length ss → mark_at marks h ≡ 0 → P h (slice_index_or ss h no_host).state

-- Each host has its place among the marks: one that isn't marked as awake is at rest, one not marked as busy is silent.
pub record AreWatched (ss : List ServedHost) (m : HostMarks) : Type 0 where
  pub hosts : AreHosts ss
  pub awake : AreMarked IsAtRest ss m.awake
  pub busy : AreMarked IsSilent ss m.busy

-- an answer was heard to a probe or to a part, which leaves the host as it was
abbrev pub is_answer : Heard → Bool
is_answer (Reply number host) = true
is_answer (Loop number) = true
is_answer (RoutesAck epoch host part) = true
is_answer _ = false

-- what was made of a packet leaves the host as it was, whatever the host
abbrev pub leaves_host : Arrival → Bool
leaves_host (Hears heard) = is_answer heard
leaves_host (Dropped drop) = true
leaves_host NotMine = true
