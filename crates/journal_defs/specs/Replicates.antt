-- Which nodes of a journal are surely one vertex (replicates and their alignment, Mainwaring et al., SPAA 1997).
use Rattle.std.specs.Prelude.{◌≡◌, ℕ, ℤ, pos, ◌+ℤ◌, ◌-ℤ◌, neg_ℤ, List, Some}
use Rattle.journal_defs.specs.declared.entry.Entry.{Entry}
use Rattle.journal_defs.specs.Tree.{Node, IsNode, host_of, Leads}

-- Replicates: port p of the first node is port p + k of the second. It is the least relation with these rules, which
-- look at the answers alone and never at a fabric.
pub data Replicates (host : ℕ) (j : List Entry) : Node → Node → ℤ → Type 0 where
  same : {u : Node} → IsNode j u → Replicates host j u u (pos 0)
  turned : {u v : Node} {k : ℤ} → Replicates host j u v k → Replicates host j v u (neg_ℤ k)
  along : {u v w : Node} {i k : ℤ} → Replicates host j u v i → Replicates host j v w k → Replicates host j u w (i +ℤ k)
  one_host : {u v : Node} {h : ℕ} → host_of host j u ≡ Some h → host_of host j v ≡ Some h
      → Replicates host j u v (pos 0)
  behind : {u v x y : Node} {k p i q : ℤ} → Replicates host j u v k → Leads j u p x i → Leads j v (p +ℤ k) y q
      → Replicates host j x y (q -ℤ i)
