-- The nodes of ways.
use Rattle.std.proofs.Common.{ℕ, List, length}
use Rattle.journal_defs.specs.declared.entry.Entry.{Entry}
use Rattle.journal_defs.specs.Tree.{Node}
use Rattle.replicate_merge.specs.Ways.{IsInside, IsWay}
use Rattle.replicate_merge.specs.declared.way.Way.{Way}
use Rattle.replicate_merge.specs.declared.way.Way.TheVariants.{Host, Cable}

-- the nodes of a way
pub way-inside : (host : ℕ) (j : List Entry) (ns : List Node) (w : Way) → IsWay host j ns w → IsInside (length ns) w
way-inside host j ns (Host address n) w = w.0
way-inside host j ns (Cable m p n i) w = (w.0, w.1)
