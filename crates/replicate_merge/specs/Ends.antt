-- Far ends of the ports of classes in memory: 31 places for each class.
use Rattle.std.specs.Prelude.{◌≡◌, ◌≢◌, ◌⊎◌, ℕ, ◌+◌, ◌*◌, ℤ, pos, ◌+ℤ◌, ◌-ℤ◌, ◌<ℤ◌, ◌≤ℤ◌, nat_abs, if◌then◌else◌, List}
use Rattle.std.specs.Prelude.{[], ◌∷◌, ◌++◌, slice_index_or, Option, Some, None}
use Rattle.net_defs.specs.Turn.{is_turn}
use Rattle.port_align.specs.declared.end.NodePort.{NodePort}
use Rattle.replicate_merge.specs.declared.meeting.Meeting.{Meeting}
use Rattle.replicate_merge.specs.declared.way.Spot.{Spot}
use Rattle.replicate_merge.specs.declared.way.Spot.TheVariants.{Address, Port}
use Rattle.replicate_merge.specs.Work.{Among, Clashes}

-- the place of a port among those of its class
abbrev pub place_in : ℤ → ℕ
place_in port = nat_abs (port +ℤ pos 15)

-- the place of a port of a class
abbrev pub place_of : ℕ → ℤ → ℕ
place_of class port = 31 * class + place_in port

-- the far end that is known of a port of a class: none of a port that is no turn
abbrev pub end_at : List (Option NodePort) → ℕ → ℤ → Option NodePort
end_at ends class port = if is_turn port then slice_index_or ends (place_of class port) None else None

-- what a table of ends knows of spots
abbrev pub known_ends : List (Option NodePort) → Spot → Option NodePort
known_ends ends (Address a) = None
known_ends ends (Port class port) = end_at ends class port

-- What is known of one spot was changed, and of no other.
pub record Puts (old new : Spot → Option NodePort) (s : Spot) (end : Option NodePort) : Type 0 where
  pub here : new s ≡ end
  pub other : (t : Spot) → s ≢ t → new t ≡ old t

-- The end of port p of a class was moved to port q of another: there was none; the other port had none, and has it
-- now; or the other port has one, and the two are on the work list.
pub data MovesEnd (from to : ℕ) (p q : ℤ) (old new : Spot
    → Option NodePort) (before after : List Meeting) : Type 0 where
  has_none : old (Port from p) ≡ None → ((s : Spot) → new s ≡ old s) → after ≡ before
      → MovesEnd from to p q old new before after
  moves : (e : NodePort) (between : Spot → Option NodePort) → old (Port from p) ≡ Some e
      → Puts old between (Port from p) None → between (Port to q) ≡ None → Puts between new (Port to q) (Some e)
      → after ≡ before → MovesEnd from to p q old new before after
  meets : (e first : NodePort) → old (Port from p) ≡ Some e → Puts old new (Port from p) None
      → new (Port to q) ≡ Some first → after ≡ before ++ record { first = first; second = e } ∷ []
      → MovesEnd from to p q old new before after

-- The ends of the ports of the first places were moved.
pub record MovesBelow (k from to : ℕ) (by : ℤ) (old new : Spot
    → Option NodePort) (before after : List Meeting) : Type 0 where
  pub other : (s : Spot) → ((p : ℤ) → s ≢ Port from p) → ((p : ℤ) → s ≢ Port to p) → new s ≡ old s
  pub gone : (p : ℤ) → p <ℤ (pos k -ℤ pos 15) → new (Port from p) ≡ None
  pub left : (p : ℤ) → (pos k -ℤ pos 15) ≤ℤ p → new (Port from p) ≡ old (Port from p)
  pub kept : (p : ℤ) (e : NodePort) → old (Port to p) ≡ Some e → new (Port to p) ≡ Some e
  pub moved : (p : ℤ) (e : NodePort) → p <ℤ (pos k -ℤ pos 15) → old (Port from p) ≡ Some e
      → (new (Port to (p +ℤ by)) ≡ Some e) ⊎ Clashes (new (Port to (p +ℤ by))) after e
  pub told : (p : ℤ) (e : NodePort) → new (Port to p) ≡ Some e
      → (old (Port to p) ≡ Some e) ⊎ (old (Port from (p -ℤ by)) ≡ Some e)
  pub ahead : (p : ℤ) → (pos k -ℤ pos 15) ≤ℤ p → new (Port to (p +ℤ by)) ≡ old (Port to (p +ℤ by))
  pub stays : (m : Meeting) → Among before m → Among after m
  pub only : (m : Meeting) → Among after m → Among before m
      ⊎ ((p : ℤ) × (old (Port to (p +ℤ by)) ≡ Some m.first) × (old (Port from p) ≡ Some m.second))
