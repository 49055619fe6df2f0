-- The ways of an entry's own node: those that the entry alone shows.
use Rattle.std.specs.Prelude.{◌≡◌, ℕ, ◌<◌, ◌≤◌, ℤ, pos, List, length}
use Rattle.net_defs.specs.declared.place.Answer.TheVariants.{Host as HostAnswer}
use Rattle.journal_defs.specs.declared.entry.Entry.{Entry}
use Rattle.journal_defs.specs.Tree.{Node}
use Rattle.replicate_merge.specs.declared.way.Way.{Way}
use Rattle.replicate_merge.specs.declared.way.Way.TheVariants.{Host, Cable}
use Rattle.replicate_merge.specs.Longer.{IsInFront}
use Rattle.replicate_merge.specs.Ways.{Has, node_at}

-- An own way of an entry, whose node has number n: of its host, or between its node and the one in front.
pub data IsOwnWay (ns : List Node) (e : Entry) (n : ℕ) (w : Way) : Type 0 where
  of_host : (a : ℕ) → e.answer ≡ HostAnswer a → w ≡ Host a n → IsOwnWay ns e n w
  from_front : (m : ℕ) (p : ℤ) → m < length ns → IsInFront (node_at ns m) p e.walk → w ≡ Cable m p n (pos 0)
      → IsOwnWay ns e n w
  to_front : (m : ℕ) (p : ℤ) → m < length ns → IsInFront (node_at ns m) p e.walk → w ≡ Cable n (pos 0) m p
      → IsOwnWay ns e n w

-- These are all own ways of an entry, and no others.
pub record AreOwnWays (ns : List Node) (e : Entry) (n : ℕ) (ways : List Way) : Type 0 where
  pub few : length ways ≤ 3
  pub only : (w : Way) → Has ways w → IsOwnWay ns e n w
  pub all : (w : Way) → IsOwnWay ns e n w → Has ways w
