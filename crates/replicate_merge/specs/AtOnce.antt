-- The classes of a whole journal, made at once: all nodes, each a class of its own, and then all ways.
use Rattle.std.specs.Prelude.{◌≡◌, ◌⊎◌, ℕ, ◌<◌, ◌≤◌, ℤ, true, List, [], ◌∷◌, ◌++◌, length, take, slice_get, Some}
use Rattle.net_defs.specs.declared.place.Answer.TheVariants.{Nothing}
use Rattle.journal_defs.specs.declared.entry.Entry.{Entry}
use Rattle.journal_defs.specs.Tree.{Node, IsJournal, answered, nodes}
use Rattle.journal_defs.specs.Tree.Node.{Mapper, Reached}
use Rattle.probe.specs.Keeping.{has_walk}
use Rattle.replicate_merge.specs.declared.settling.Joined.{Joined}
use Rattle.replicate_merge.specs.declared.way.Way.{Way}
use Rattle.replicate_merge.specs.declared.way.Way.TheVariants.{Host}
use Rattle.replicate_merge.specs.Rounds.{IsSettlingIn}
use Rattle.replicate_merge.specs.Truth.{IsTrueOfOne}
use Rattle.replicate_merge.specs.Ways.{AreWays, Has, node_at}
use Rattle.replicate_merge.specs.Own.{IsOwnWay}

-- The tables are those of the mapper's host alone, in each journal that is true of one fabric.
pub record IsHostAlone (host : ℕ) (t : Joined) : Type 0 where
  pub settled : (j : List Entry) → IsTrueOfOne host j → IsSettlingIn host j j (Mapper ∷ []) (Host host 0 ∷ []) t []
  pub closed : t.todo.items ≡ []

-- The nodes of a journal's first entries are there, each a class of its own, and the mapper's way alone.
pub record HasOwnNodes (host : ℕ) (j : List Entry) (count : ℕ) (t : Joined) : Type 0 where
  pub settled : IsSettlingIn host j j (nodes (take count j)) (Host host 0 ∷ []) t []
  pub closed : t.todo.items ≡ []

-- The own ways of a journal's first entries were added to those nodes.
pub record HasOwnWays (host : ℕ) (j : List Entry) (ns : List Node) (count : ℕ) (t : Joined) : Type 0 where
  pub ways : List Way
  pub settled : IsSettlingIn host j j ns ways t t.todo.items
  pub names : length t.heads.names.items ≤ length ns
  pub mapper : Has ways (Host host 0)
  pub own : (k : ℕ) (e : Entry) (n : ℕ) (w : Way) → k < count → slice_get j k ≡ Some e → n < length ns
      → node_at ns n ≡ Reached e.walk → IsOwnWay ns e n w → Has ways w

-- All ways of a journal were added, and no pair is open.
pub record HasAllWays (host : ℕ) (j : List Entry) (ns : List Node) (t : Joined) : Type 0 where
  pub once : IsJournal j
  pub ways : List Way
  pub are : AreWays host j ns ways
  pub settled : IsSettlingIn host j j ns ways t []
  pub closed : t.todo.items ≡ []

-- The walks of these entries that found nothing, and in front of which is none of these walks.
pub record AreOrphans (j : List Entry) (walks orphans : List (List ℤ)) : Type 0 where
  pub only : (w : List ℤ) → has_walk orphans w ≡ true → answered j w ≡ Some Nothing
  pub each : (w : List ℤ) (t : ℤ) → answered j (w ++ t ∷ []) ≡ Some Nothing → (has_walk walks w ≡ true)
      ⊎ (has_walk orphans (w ++ t ∷ []) ≡ true)
