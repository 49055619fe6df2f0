-- What holds of every history of cables.
use Rattle.std.specs.Prelude.{◌≡◌, ℕ, ◌<◌, ◌≤◌, ℤ, true, false, List, length, slice_get, Some, None}
use Rattle.net_defs.specs.declared.vertex.End.{End}
use Rattle.net_defs.specs.Network.{Network, IsFabric, far, has_port}
use Rattle.net_defs.specs.Route.{channel_from, channels_of}
use Rattle.world_defs.specs.declared.wire.Wire.{Wire}
use Rattle.world_defs.specs.History.{CableHistory, IsHistory, first_history, fabric_now, fabric_at, fabric_left}
use Rattle.world_defs.specs.History.{cable_limit, may_plug, with_plugged, with_pulled, with_accepted}
use Rattle.world_defs.specs.Crossed.{leaving, channels_at, life_channels, life_tail, life_head, is_standing}
use Rattle.world_defs.specs.Crossed.{is_new, pulled_at}

-- the history of a fabric before any change is one
abbrev pub FirstIsHistory : Type 0
FirstIsHistory = (n : Network) → IsFabric n → length n.cables ≤ cable_limit → IsHistory (first_history n)

-- in it the fabric stands as it ever stood, and nothing of it is new
abbrev pub FirstStands : Type 0
FirstStands = (n : Network) (k : ℕ)
    → (fabric_now (first_history n) ≡ n) × (fabric_at (first_history n) k ≡ n) × (fabric_left (first_history n) ≡ n)

-- and its channels are those of the fabric
abbrev pub FirstChannels : Type 0
FirstChannels = (n : Network) (k : ℕ) (e : End) (host : ℕ) (turns : List ℤ)
    → (leaving (first_history n) e ≡ channel_from n e)
    × (channels_at (first_history n) k host turns ≡ channels_of n host turns)

-- a pull of a cable in place keeps a history
abbrev pub PullKeepsHistory : Type 0
PullKeepsHistory = (h : CableHistory) (k : ℕ) (w : Wire) → IsHistory h → slice_get h.wires k ≡ Some w
    → w.pulled ≡ None → IsHistory (with_pulled h k)

-- so does one of the cable at a port
abbrev pub PullAtKeepsHistory : Type 0
PullAtKeepsHistory = (h : CableHistory) (e : End) → IsHistory h → IsHistory (pulled_at h e)

-- a plug keeps a history
abbrev pub PlugKeepsHistory : Type 0
PlugKeepsHistory = (h : CableHistory) (a b : End) → IsHistory h → may_plug h a b ≡ true
    → IsHistory (with_plugged h a b)

-- and so does an acceptance
abbrev pub AcceptKeepsHistory : Type 0
AcceptKeepsHistory = (h : CableHistory) → IsHistory h → IsHistory (with_accepted h)

-- after which no cable is new
abbrev pub AcceptedIsOld : Type 0
AcceptedIsOld = (h : CableHistory) (c : ℕ) → IsHistory h → is_new (with_accepted h) c ≡ false

-- the fabric after all changes so far is the one that stands
abbrev pub LastIsNow : Type 0
LastIsNow = (h : CableHistory) (k : ℕ) → IsHistory h → h.changes ≤ k → fabric_at h k ≡ fabric_now h

-- the channel that leaves by an end has it as its tail, its head is the far end, and its cable is in place
pub record LeavesBy (h : CableHistory) (e : End) (c : ℕ) : Type 0 where
  pub tail : life_tail h c ≡ Some e
  pub head : life_head h c ≡ far (fabric_now h) e
  pub in_place : is_standing h c ≡ true
  pub there : c < life_channels h

-- each channel that leaves by an end is so
abbrev pub LeavingHasItsEnd : Type 0
LeavingHasItsEnd = (h : CableHistory) (e : End) (c : ℕ) → leaving h e ≡ Some c → LeavesBy h e c

-- and in a history each channel of a cable in place is the one that leaves by its tail
abbrev pub StandingLeavesItsTail : Type 0
StandingLeavesItsTail = (h : CableHistory) (c : ℕ) (e : End) → IsHistory h → life_tail h c ≡ Some e
    → is_standing h c ≡ true → leaving h e ≡ Some c

-- a channel's ends are for life
abbrev pub EndsAreForLife : Type 0
EndsAreForLife = (h : CableHistory) (k c : ℕ) (a b : End) → c < life_channels h
    → (life_tail (with_pulled h k) c ≡ life_tail h c) × (life_head (with_pulled h k) c ≡ life_head h c)
    × (life_tail (with_plugged h a b) c ≡ life_tail h c) × (life_head (with_plugged h a b) c ≡ life_head h c)

-- and so they are ports of the fabric, also where their cable was pulled
abbrev pub EndsAreThere : Type 0
EndsAreThere = (h : CableHistory) (k : ℕ) (w : Wire) → IsHistory h → slice_get h.wires k ≡ Some w
    → (has_port (fabric_now h) w.cable.a ≡ true) × (has_port (fabric_now h) w.cable.b ≡ true)
