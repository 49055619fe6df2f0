-- Circuit answers: what a mapper is told where a packet holds each cable that it has crossed until it is heard, as
-- over circuit links.
use Rattle.std.specs.Prelude.{◌≡◌, ℕ, ◌/◌, ◌<◌, ℤ, Bool, true, ◌&&◌, not, List, [], ◌∷◌, ◌++◌, map, nat_eq}
use Rattle.std.specs.Prelude.{if◌then◌else◌}
use Rattle.std.specs.List.{list_any, AllByRecursion}
use Rattle.net_defs.specs.declared.place.Place.{Place}
use Rattle.net_defs.specs.declared.place.Place.TheVariants.{Host as AtHost, Switch as AtSwitch, Nothing as Stuck}
use Rattle.net_defs.specs.declared.place.Answer.{Answer}
use Rattle.net_defs.specs.Network.{Network}
use Rattle.net_defs.specs.Route.{place, answer_at, channels_of}
use Rattle.journal_defs.specs.declared.entry.Entry.{Entry}
use Rattle.journal_defs.specs.Walks.{IsOnward}
use Rattle.journal_defs.specs.Tree.{IsJournal, IsSwitchNode, is_asked}
use Rattle.journal_defs.specs.Growth.{IsExpanded, crossed}

-- no number stands twice
abbrev pub are_apart : List ℕ → Bool
are_apart [] = true
are_apart (k ∷ ks) = not (list_any (nat_eq k) ks) && are_apart ks

-- the cable of a channel: cable k has channels 2k and 2k + 1
abbrev pub cable_of : ℕ → ℕ
cable_of channel = channel / 2

-- where a walk over these channels to a place ends: a host is reached over no channel twice, a switch over no cable
-- twice
abbrev pub held_place : List ℕ → Place → Place
held_place cs (AtHost h) = if are_apart cs then AtHost h else Stuck
held_place cs (AtSwitch s p) = if are_apart (map cable_of cs) then AtSwitch s p else Stuck
held_place cs Stuck = Stuck

-- the circuit place of a walk: its place, where it doesn't meet itself
abbrev pub circuit_place : Network → ℕ → List ℤ → Place
circuit_place n host w = held_place (channels_of n host w) (place n host w)

-- the circuit answer: what is told of the circuit place
abbrev pub circuit_answer : Network → ℕ → List ℤ → Answer
circuit_answer n host w = answer_at (circuit_place n host w)

-- every answer of a journal is the circuit answer
abbrev pub IsCircuitJournal : Network → ℕ → List Entry → Type 0
IsCircuitJournal n host j = AllByRecursion (λ e. e.answer ≡ circuit_answer n host e.walk) j

-- The whole tree to a depth: circuit answers to the empty walk, and to the 30 turns of each switch node that crosses
-- fewer cables.
pub record IsWholeTree (n : Network) (host depth : ℕ) (j : List Entry) : Type 0 where
  pub circuit : IsCircuitJournal n host j
  pub once : IsJournal j
  pub started : is_asked j [] ≡ true
  pub expanded : (w : List ℤ) → IsSwitchNode j w → crossed w < depth → IsExpanded j w
  pub only : (w : List ℤ) (t : ℤ) → is_asked j (w ++ t ∷ []) ≡ true
      → IsSwitchNode j w × (crossed w < depth) × IsOnward t
