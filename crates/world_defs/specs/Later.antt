-- What later changes leave of the cables: pulls alone, or pulls and plugs, one after another.
use Rattle.std.specs.Prelude.{◌≡◌, ℕ, ◌<◌, ◌≤◌, true, ℤ, List}
use Rattle.net_defs.specs.declared.vertex.End.{End}
use Rattle.world_defs.specs.History.{CableHistory, IsHistory, fabric_at, is_in_place, is_left, may_plug, with_plugged}
use Rattle.world_defs.specs.Crossed.{channels_at, life_channels, life_tail, life_head, is_new, is_cut, pulled_at}
use Rattle.world_defs.specs.Fewer.{HasFewer}

-- One history becomes the other by pulls alone, of the cables at some ports.
pub data OnlyPulled : CableHistory → CableHistory → Type 0 where
  still : {h : CableHistory} → OnlyPulled h h
  pulls : {h g : CableHistory} (e : End) → OnlyPulled (pulled_at h e) g → OnlyPulled h g

-- One history becomes the other by pulls and plugs.
pub data IsLater : CableHistory → CableHistory → Type 0 where
  still : {h : CableHistory} → IsLater h h
  pulls : {h g : CableHistory} (e : End) → IsLater (pulled_at h e) g → IsLater h g
  plugs : {h g : CableHistory} (a b : End) → may_plug h a b ≡ true → IsLater (with_plugged h a b) g → IsLater h g

-- What later changes keep: hosts, switches, the acceptance, and a history; changes go on, and cables become no fewer.
pub record IsKeptLater (h g : CableHistory) : Type 0 where
  pub hosts : g.hosts ≡ h.hosts
  pub switches : g.switches ≡ h.switches
  pub accepted : g.accepted ≡ h.accepted
  pub changes : h.changes ≤ g.changes
  pub channels : life_channels h ≤ life_channels g
  pub history : IsHistory h → IsHistory g

-- What a channel keeps: its ends, whether it is new, and that it was cut.
pub record IsChannelKept (h g : CableHistory) (c : ℕ) : Type 0 where
  pub tail : life_tail g c ≡ life_tail h c
  pub head : life_head g c ≡ life_head h c
  pub new : is_new g c ≡ is_new h c
  pub cut : is_cut h c ≡ true → is_cut g c ≡ true

-- pulls are later changes
abbrev pub PulledIsLater : Type 0
PulledIsLater = (h g : CableHistory) → OnlyPulled h g → IsLater h g

-- changes after changes are later
abbrev pub LaterOnIsLater : Type 0
LaterOnIsLater = (f g h : CableHistory) → IsLater f g → IsLater g h → IsLater f h

-- and pulls after pulls are pulls
abbrev pub PulledOnIsPulled : Type 0
PulledOnIsPulled = (f g h : CableHistory) → OnlyPulled f g → OnlyPulled g h → OnlyPulled f h

-- what later changes keep
abbrev pub LaterKeeps : Type 0
LaterKeeps = (h g : CableHistory) → IsLater h g → IsKeptLater h g

-- what they keep of each channel
abbrev pub LaterKeepsChannels : Type 0
LaterKeepsChannels = (h g : CableHistory) (c : ℕ) → IsLater h g → c < life_channels h → IsChannelKept h g c

-- they keep the fabric of the past
abbrev pub LaterKeepsPast : Type 0
LaterKeepsPast = (h g : CableHistory) (past : ℕ) → IsLater h g → past ≤ h.changes → fabric_at g past ≡ fabric_at h past

-- and the channels that walks crossed in it
abbrev pub LaterKeepsPastChannels : Type 0
LaterKeepsPastChannels =
    (h g : CableHistory) (past host : ℕ) (turns : List ℤ) → IsLater h g → past ≤ h.changes
    → channels_at g past host turns ≡ channels_at h past host turns

-- Pulls leave fewer cables in place, and of those that aren't new.
abbrev pub PulledLeaveFewer : Type 0
PulledLeaveFewer = (h g : CableHistory) → OnlyPulled h g
    → HasFewer g h is_in_place is_in_place × HasFewer g h (is_left g) (is_left h)

-- where the number of changes stays, pulls changed nothing
abbrev pub UnchangedIsSame : Type 0
UnchangedIsSame = (h g : CableHistory) → OnlyPulled h g → g.changes ≡ h.changes → g ≡ h
