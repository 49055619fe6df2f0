-- The ends by which a walk leaves its host and its switches, and what they show of the cables that it crosses.
use Rattle.std.specs.Prelude.{◌≡◌, ℕ, ℤ, Bool, true, false, ◌&&◌, ◌||◌, not, List, [], ◌∷◌, ◌++◌, if◌then◌else◌}
use Rattle.std.specs.Prelude.{Option, Some, None, IfSome, option_to_list}
use Rattle.std.specs.List.{list_any}
use Rattle.net_defs.specs.declared.vertex.Vertex.{Vertex}
use Rattle.net_defs.specs.declared.vertex.Vertex.TheVariants.{Host, Switch}
use Rattle.net_defs.specs.declared.vertex.End.{End}
use Rattle.net_defs.specs.declared.place.Place.{Place}
use Rattle.net_defs.specs.declared.place.Place.TheVariants.{Host as AtHost, Switch as AtSwitch, Nothing as Stuck}
use Rattle.net_defs.specs.Network.{Network, far, same_end}
use Rattle.net_defs.specs.Route.{entered_after, exit_at, host_port, next_exit}

-- the ends by which a walk leaves, from an exit on: the last of them may have no cable
abbrev pub exits_after : Network → Option End → List ℤ → List End
exits_after n exit [] = option_to_list exit
exits_after n exit (turn ∷ turns) = option_to_list exit ++ exits_after n (next_exit n exit turn) turns

-- the ends by which a walk from a host leaves
abbrev pub exits_of : Network → ℕ → List ℤ → List End
exits_of n host turns = exits_after n (Some (host_port host)) turns

-- an end is this one
abbrev pub is_end : Option End → End → Bool
is_end None e = false
is_end (Some d) e = same_end e d

-- the other end of the cable at an exit, where both directions of a cable count as one
abbrev pub back_of : Network → Bool → End → Option End
back_of n both e = if both then far n e else None

-- an exit is left again, or its cable crossed back where both directions count as one
abbrev pub meets : Network → Bool → End → End → Bool
meets n both e d = same_end d e || is_end (back_of n both e) d

-- no exit meets one before it
abbrev pub are_free : Network → Bool → List End → Bool
are_free n both [] = true
are_free n both (e ∷ es) = not (list_any (meets n both e) es) && are_free n both es

-- where a walk over these exits ends that entered a vertex last
abbrev pub held_at : Network → List End → Vertex → ℕ → Place
held_at n es (Host h) p = if are_free n false es then AtHost h else Stuck
held_at n es (Switch s) p = if are_free n true es then AtSwitch s p else Stuck

-- where a walk over these exits ends that entered this end last
abbrev pub held_by_exits : Network → List End → Option End → Place
held_by_exits n es None = Stuck
held_by_exits n es (Some e) = held_at n es e.v e.p

-- where a walk ends that goes on from these exits by one more to an end: these are free of each other, as channels and
-- as cables, or not
abbrev pub held_on_at : List End → Bool → Bool → End → Vertex → ℕ → Place
held_on_at es channels cables x (Host h) p =
    if channels && not (list_any (λ d. same_end d x || is_end None d) es) then AtHost h else Stuck
held_on_at es channels cables x (Switch s) p =
    if cables && not (list_any (λ d. same_end d x || is_end (Some (record { v = Switch s; p = p })) d) es)
    then AtSwitch s p else Stuck

-- the same, where the walk may be stuck
abbrev pub held_on : List End → Bool → Bool → Option End → Option End → Place
held_on es channels cables None entered = Stuck
held_on es channels cables (Some x) None = Stuck
held_on es channels cables (Some x) (Some e) = held_on_at es channels cables x e.v e.p

-- the end by which a turn leaves the end that was entered last
abbrev pub exit_from : Network → Option End → ℤ → Option End
exit_from n None turn = None
exit_from n (Some e) turn = exit_at n e.v e.p turn

-- the end at the other side of the cable at an exit
abbrev pub end_from : Network → Option End → Option End
end_from n None = None
end_from n (Some e) = far n e

-- A walk that was followed from a host: the ends by which it leaves, unless it is stuck, the end that it entered last,
-- and whether it crosses no channel twice, and no cable.
pub record IsFollowed (n : Network) (host : ℕ) (turns : List ℤ) (exits : List End) (entered : Option End)
    (channels cables : Bool) : Type 0 where
  pub entered_is : entered ≡ entered_after n (far n (host_port host)) turns
  pub exits_are : IfSome entered (λ _. exits ≡ exits_of n host turns)
  pub channels_are : channels ≡ are_free n false exits
  pub cables_are : cables ≡ are_free n true exits

-- a host of a fabric, from which walks lead
pub record FabricHost : Type 0 where
  pub fabric : Network
  pub host : ℕ
