-- Cables that come and go. Each has its number for life: a cable that is plugged takes the next, and one that is
-- pulled keeps its own.
use Rattle.std.specs.Prelude.{ℕ, ◌+◌, ◌<◌, ◌≤◌, Bool, true, not, ◌&&◌, nat_lt, nat_le, List, [], ◌∷◌, ◌++◌, map, length}
use Rattle.std.specs.Prelude.{slice_get, slice_set, if◌then◌else◌, Option, Some, None, is_none, IfSome}
use Rattle.std.specs.List.{list_any, filter, AllByRecursion}
use Rattle.net_defs.specs.declared.vertex.End.{End}
use Rattle.net_defs.specs.declared.vertex.Cable.{Cable}
use Rattle.net_defs.specs.Network.{Network, NamedSwitch, IsFabric}
use Rattle.net_defs.specs.Building.{cable_refusal}
use Rattle.world_defs.specs.declared.wire.Wire.{Wire}

-- The hosts and the switches, every cable that was ever named, by number, how many times a cable was pulled or
-- plugged, and after which of these changes the cables were accepted.
pub record CableHistory : Type 0 where
  pub hosts : List (List ℕ)
  pub switches : List NamedSwitch
  pub wires : List Wire
  pub changes : ℕ
  pub accepted : ℕ

-- a cable that was there before any change
abbrev pub first_wire : Cable → Wire
first_wire cable = record { cable = cable; plugged = 0; pulled = None }

-- the history of a fabric before any change
abbrev pub first_history : Network → CableHistory
first_history n = record {
  hosts = n.hosts;
  switches = n.switches;
  wires = map first_wire n.cables;
  changes = 0;
  accepted = 0;
}

-- a cable wasn't pulled by the changes up to this one
abbrev pub is_pulled_after : ℕ → Option ℕ → Bool
is_pulled_after k None = true
is_pulled_after k (Some change) = nat_lt k change

-- a cable was in place after so many changes
abbrev pub stood_at : ℕ → Wire → Bool
stood_at k w = nat_le w.plugged k && is_pulled_after k w.pulled

-- a cable is in place
abbrev pub is_in_place : Wire → Bool
is_in_place w = is_none w.pulled

-- a cable was plugged since the cables were accepted
abbrev pub is_new_wire : CableHistory → Wire → Bool
is_new_wire h w = nat_lt h.accepted w.plugged

-- a cable was plugged since the cables were accepted, wherever it is now
abbrev pub was_plugged : CableHistory → Bool
was_plugged h = list_any (is_new_wire h) h.wires

-- a cable is in place, and isn't new
abbrev pub is_left : CableHistory → Wire → Bool
is_left h w = is_in_place w && not (is_new_wire h w)

-- the fabric of the cables that pass a test, in the order of their numbers
abbrev pub fabric_by : CableHistory → (Wire → Bool) → Network
fabric_by h test = record {
  hosts = h.hosts;
  switches = h.switches;
  cables = map (λ w. w.cable) (filter test h.wires);
}

-- The fabric as it stands.
abbrev pub fabric_now : CableHistory → Network
fabric_now h = fabric_by h is_in_place

-- The fabric as it stood after so many changes.
abbrev pub fabric_at : CableHistory → ℕ → Network
fabric_at h k = fabric_by h (stood_at k)

-- What is left of the fabric since the cables were accepted: the fabric as it stands, without its new cables.
abbrev pub fabric_left : CableHistory → Network
fabric_left h = fabric_by h (is_left h)

-- the most cables that are ever named
abbrev pub cable_limit : ℕ
cable_limit = 4096

-- two ports may be joined: the fabric as it stands takes a cable there, and a number is left for it
abbrev pub may_plug : CableHistory → End → End → Bool
may_plug h a b = is_none (cable_refusal (fabric_now h) a b) && nat_lt (length h.wires) cable_limit

-- a cable more, by the next change
abbrev pub with_plugged : CableHistory → End → End → CableHistory
with_plugged h a b = record h {
  wires = h.wires ++ record { cable = record { a = a; b = b }; plugged = h.changes + 1; pulled = None } ∷ [];
  changes = h.changes + 1;
}

-- this cable is pulled by the next change
abbrev pub pulled_by : CableHistory → ℕ → Option Wire → CableHistory
pulled_by h k None = h
pulled_by h k (Some w) = record h {
  wires = slice_set h.wires k (record w { pulled = Some (h.changes + 1) });
  changes = h.changes + 1;
}

-- the cable of this number is pulled
abbrev pub with_pulled : CableHistory → ℕ → CableHistory
with_pulled h k = pulled_by h k (slice_get h.wires k)

-- all cables in place are accepted
abbrev pub with_accepted : CableHistory → CableHistory
with_accepted h = record h { accepted = h.changes }

-- a cable's dates: plugged before it was pulled, both among the changes so far
pub record IsDated (changes : ℕ) (w : Wire) : Type 0 where
  pub plugged : w.plugged ≤ changes
  pub pulled : IfSome w.pulled (λ change. (w.plugged < change) × (change ≤ changes))

-- how many changes a cable has: it was plugged, unless the input has it, and pulled, unless it is in place
abbrev pub dates_of : Wire → ℕ
dates_of w = (if nat_lt 0 w.plugged then 1 else 0) + (if is_in_place w then 0 else 1)

-- how many changes cables have
abbrev pub dates_in : List Wire → ℕ
dates_in [] = 0
dates_in (w ∷ ws) = dates_of w + dates_in ws

-- A history: each change is some cable's, and at each time the cables in place made a fabric.
pub record IsHistory (h : CableHistory) : Type 0 where
  pub few : length h.wires ≤ cable_limit
  pub dated : AllByRecursion (IsDated h.changes) h.wires
  pub accepted : h.accepted ≤ h.changes
  pub counted : h.changes ≤ dates_in h.wires
  pub fabrics : (k : ℕ) → IsFabric (fabric_at h k)
