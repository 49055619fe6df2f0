-- The ways that the next entry of a journal adds.
use Rattle.std.specs.Prelude.{◌≡◌, ℕ, ◌<◌, ℤ, pos, List, [], ◌∷◌, ◌++◌, length}
use Rattle.net_defs.specs.declared.place.Answer.TheVariants.{Host as HostAnswer}
use Rattle.journal_defs.specs.declared.entry.Entry.{Entry}
use Rattle.journal_defs.specs.Tree.{Node}
use Rattle.journal_defs.specs.Tree.Node.{Mapper, Reached}
use Rattle.replicate_merge.specs.declared.way.Way.{Way}
use Rattle.replicate_merge.specs.declared.way.Way.TheVariants.{Host, Cable}
use Rattle.replicate_merge.specs.Ways.{node_at}

-- A node's port in front of a walk: the mapper's port 0, where the walk is empty; a node's port p, where the walk is
-- the node's and the turn p.
pub data IsInFront (u : Node) (p : ℤ) (w : List ℤ) : Type 0 where
  of_mapper : u ≡ Mapper → p ≡ pos 0 → w ≡ [] → IsInFront u p w
  of_node : (v : List ℤ) → u ≡ Reached v → w ≡ v ++ p ∷ [] → IsInFront u p w

-- A way that an entry adds to those of nodes, where its own node has number n: of its host, between it and the node
-- in front, and between it and a node behind that was there before it.
pub data IsNewWay (ns : List Node) (e : Entry) (n : ℕ) (w : Way) : Type 0 where
  of_host : (a : ℕ) → e.answer ≡ HostAnswer a → w ≡ Host a n → IsNewWay ns e n w
  from_front : (m : ℕ) (p : ℤ) → m < length ns → IsInFront (node_at ns m) p e.walk → w ≡ Cable m p n (pos 0)
      → IsNewWay ns e n w
  to_front : (m : ℕ) (p : ℤ) → m < length ns → IsInFront (node_at ns m) p e.walk → w ≡ Cable n (pos 0) m p
      → IsNewWay ns e n w
  to_behind : (x : ℕ) (p : ℤ) → x < length ns → node_at ns x ≡ Reached (e.walk ++ p ∷ []) → w ≡ Cable n p x (pos 0)
      → IsNewWay ns e n w
  from_behind : (x : ℕ) (p : ℤ) → x < length ns → node_at ns x ≡ Reached (e.walk ++ p ∷ []) → w ≡ Cable x (pos 0) n p
      → IsNewWay ns e n w
