-- Fabrics and journals for worked examples.
use Rattle.std.specs.Prelude.{ℕ, ℤ, pos, ◌||◌, List, [], ◌∷◌, codes, map, if◌then◌else◌}
use Rattle.std.specs.Ordering.{int_eq}
use Rattle.net_defs.specs.declared.place.Answer.{Answer}
use Rattle.net_defs.specs.declared.place.Answer.TheVariants.{Switch, Nothing}
use Rattle.net_defs.specs.Network.{Network}
use Rattle.net_defs.specs.Examples.{host_end, switch_end, joined}
use Rattle.journal_defs.specs.declared.entry.Entry.{Entry}
use Rattle.journal_defs.specs.Examples.{told}
use Rattle.journal_defs.specs.Fabrics.{switch_named}
use Rattle.journal_defs.specs.Walks.{onward_turns}
use Rattle.journal_defs.specs.Truth.{IsTrueJournal}
use Rattle.journal_defs.specs.Growth.{IsGrown, IsClosed}
use Rattle.map_laws.specs.Laws.{EndsClosed}

-- One host at a switch that is cabled to itself, ports 1 and 2.
abbrev pub looped : Network
looped = record {
  hosts = codes "a" ∷ [];
  switches = switch_named (codes "s") 4 ∷ [];
  cables = joined (host_end 0) (switch_end 0 0) ∷ joined (switch_end 0 1) (switch_end 0 2) ∷ [];
}

-- The same, with a switch of its own behind either port.
abbrev pub unrolled : Network
unrolled = record {
  hosts = codes "a" ∷ [];
  switches = switch_named (codes "s") 4 ∷ switch_named (codes "t") 4 ∷ switch_named (codes "u") 4 ∷ [];
  cables = joined (host_end 0) (switch_end 0 0) ∷ joined (switch_end 0 1) (switch_end 1 2)
      ∷ joined (switch_end 0 2) (switch_end 2 1) ∷ [];
}

-- what the walks of one turn find there
abbrev pub looped_answer : ℤ → Answer
looped_answer t = if int_eq t (pos 1) || int_eq t (pos 2) then Switch else Nothing

-- The journal of both to depth 2: the switch and its 30 turns.
abbrev pub looped_journal : List Entry
looped_journal = told [] Switch ∷ map (λ t. told (t ∷ []) (looped_answer t)) onward_turns

-- A ring of four switches with one host, cut open opposite to it: seven switches in a line, the host at the middle one.
abbrev pub unrolled_ring : Network
unrolled_ring = record {
  hosts = codes "a" ∷ [];
  switches = map (λ name. switch_named name 4) (codes "s0" ∷ codes "s1" ∷ codes "s2" ∷ codes "s3" ∷ codes "s4"
      ∷ codes "s5" ∷ codes "s6" ∷ []);
  cables =
      joined (host_end 0) (switch_end 0 2)
      ∷ joined (switch_end 0 0) (switch_end 1 1)
      ∷ joined (switch_end 0 1) (switch_end 2 0)
      ∷ joined (switch_end 1 0) (switch_end 3 1)
      ∷ joined (switch_end 2 1) (switch_end 4 0)
      ∷ joined (switch_end 3 0) (switch_end 5 1)
      ∷ joined (switch_end 4 1) (switch_end 6 0)
      ∷ [];
}

-- The journal of a fabric to a depth is closed.
abbrev pub Closes : Network → ℕ → ℕ → Type 0
Closes n host depth = (j : List Entry) × IsTrueJournal n host j × EndsClosed host depth j

-- It is not closed.
abbrev pub StaysOpen : Network → ℕ → ℕ → Type 0
StaysOpen n host depth = (j : List Entry) × IsTrueJournal n host j × IsGrown host depth j × ¬ IsClosed host j
