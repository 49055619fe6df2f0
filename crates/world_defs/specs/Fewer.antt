-- A walk over fewer cables crosses the first of the channels that it crosses over more, and ends where it ends there.
use Rattle.std.specs.Prelude.{◌≡◌, ◌≢◌, ◌≤◌, ℕ, ℤ, true, Bool, nat_le, slice_get, List, [], ◌∷◌, ◌++◌, Option, Some}
use Rattle.std.specs.Prelude.{None}
use Rattle.std.specs.List.{AllByRecursion}
use Rattle.net_defs.specs.declared.place.Place.TheVariants.{Nothing}
use Rattle.net_defs.specs.declared.vertex.End.{End}
use Rattle.net_defs.specs.Network.{IsFabric}
use Rattle.net_defs.specs.Route.{place, entered_after}
use Rattle.world_defs.specs.declared.wire.Wire.{Wire}
use Rattle.world_defs.specs.History.{CableHistory, fabric_by, fabric_at, stood_at, is_in_place, is_left}
use Rattle.world_defs.specs.History.{with_pulled, with_plugged}
use Rattle.world_defs.specs.Crossed.{channels_by}

-- the same cables by number, of which those that pass one test pass the other too
pub data AreFewer (small big : Wire → Bool) : List Wire → List Wire → Type 0 where
  none : AreFewer small big [] []
  more : {v w : Wire} {vs ws : List Wire} → v.cable ≡ w.cable → (small v ≡ true → big w ≡ true)
      → AreFewer small big vs ws → AreFewer small big (v ∷ vs) (w ∷ ws)

-- Of two histories of the same vertices one has, of the cables of a test, no more than the other has of another test.
pub record HasFewer (g h : CableHistory) (small big : Wire → Bool) : Type 0 where
  pub switches : g.switches ≡ h.switches
  pub wires : AreFewer small big g.wires h.wires

-- The channels of the one are the first of the channels of the other.
pub record IsFront (g h : CableHistory) (small big : Wire → Bool) (exit : Option End) (turns : List ℤ) : Type 0 where
  pub rest : List ℕ
  pub whole : channels_by h big exit turns ≡ channels_by g small exit turns ++ rest

abbrev pub FewerCablesAreFront : Type 0
FewerCablesAreFront =
    (g h : CableHistory) (small big : Wire → Bool) (exit : Option End) (turns : List ℤ)
    → IsFabric (fabric_by h big) → HasFewer g h small big → IsFront g h small big exit turns

-- An end that is reached over fewer cables is reached over more.
abbrev pub ReachedOverMore : Type 0
ReachedOverMore =
    (g h : CableHistory) (small big : Wire → Bool) (turns : List ℤ) (from : Option End) (x : End)
    → IsFabric (fabric_by h big) → HasFewer g h small big
    → entered_after (fabric_by g small) from turns ≡ Some x → entered_after (fabric_by h big) from turns ≡ Some x

-- so a host or a switch at which a walk ends over fewer cables is its place over more
abbrev pub PlaceOverMore : Type 0
PlaceOverMore =
    (g h : CableHistory) (small big : Wire → Bool) (host : ℕ) (turns : List ℤ)
    → IsFabric (fabric_by h big) → HasFewer g h small big → place (fabric_by g small) host turns ≢ Nothing
    → place (fabric_by h big) host turns ≡ place (fabric_by g small) host turns

-- a pull leaves fewer cables
abbrev pub PullLeavesFewer : Type 0
PullLeavesFewer = (h : CableHistory) (k : ℕ) → HasFewer (with_pulled h k) h (is_left (with_pulled h k)) (is_left h)

-- what is left stood when the cables were accepted
abbrev pub LeftStoodAtAcceptance : Type 0
LeftStoodAtAcceptance = (h : CableHistory) → HasFewer h h (is_left h) (stood_at h.accepted)

-- where none was plugged since a change, the cables in place stood then
abbrev pub UnpluggedStood : Type 0
UnpluggedStood = (h : CableHistory) (made : ℕ) → AllByRecursion (λ w. nat_le w.plugged made ≡ true) h.wires
    → HasFewer h h is_in_place (stood_at made)

-- a fabric of the past stays, whatever cable in place is pulled after it
abbrev pub PullKeepsPast : Type 0
PullKeepsPast =
    (h : CableHistory) (k past : ℕ) (w : Wire) → past ≤ h.changes → slice_get h.wires k ≡ Some w → w.pulled ≡ None
    → fabric_at (with_pulled h k) past ≡ fabric_at h past

-- and whatever is plugged after it
abbrev pub PlugKeepsPast : Type 0
PlugKeepsPast = (h : CableHistory) (past : ℕ) (a b : End) → past ≤ h.changes
    → fabric_at (with_plugged h a b) past ≡ fabric_at h past
