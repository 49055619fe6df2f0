-- What holds of a place that was found, and what the classes of a journal say of its entries.
use Rattle.std.specs.Prelude.{◌≡◌, ℕ, ◌<◌, ℤ, Bool, true, false, List, slice_get, Some}
use Rattle.net_defs.specs.declared.place.Answer.TheVariants.{Switch}
use Rattle.journal_defs.specs.declared.entry.Entry.{Entry}
use Rattle.journal_defs.specs.Tree.{IsSwitchNode, answered}
use Rattle.journal_defs.specs.Tree.Node.{Reached}
use Rattle.journal_defs.specs.Growth.{HasExpanded, crossed}
use Rattle.replicate_merge.specs.Table.{ClassTable, StandsFor}

-- Whether the class of a switch has an expanded member, of whatever journal the classes stand for.
pub record TellsExpanded (c : ClassTable) (w : List ℤ) (told : Bool) : Type 0 where
  pub yes : (host : ℕ) (j : List Entry) → StandsFor host j c → IsSwitchNode j w → told ≡ true
      → HasExpanded host j (Reached w)
  pub no : (host : ℕ) (j : List Entry) → StandsFor host j c → IsSwitchNode j w → told ≡ false
      → ¬ HasExpanded host j (Reached w)

-- What makes an entry one that is to be expanded.
pub record IsOpenEntry (host depth : ℕ) (j : List Entry) (e : Entry) : Type 0 where
  pub switch : e.answer ≡ Switch
  pub near : crossed e.walk < depth
  pub fresh : ¬ HasExpanded host j (Reached e.walk)

-- Whether an entry is to be expanded.
pub record TellsOpen (c : ClassTable) (e : Entry) (depth : ℕ) (told : Bool) : Type 0 where
  pub yes : (host : ℕ) (j : List Entry) → StandsFor host j c → answered j e.walk ≡ Some e.answer → told ≡ true
      → IsOpenEntry host depth j e
  pub no : (host : ℕ) (j : List Entry) → StandsFor host j c → answered j e.walk ≡ Some e.answer → told ≡ false
      → e.answer ≡ Switch → crossed e.walk < depth → HasExpanded host j (Reached e.walk)

-- Whether the entry at a place is to be expanded.
pub record TellsOpenAt (c : ClassTable) (j : List Entry) (place depth : ℕ) (told : Bool) : Type 0 where
  pub entry : Entry
  pub there : slice_get j place ≡ Some entry
  pub tells : TellsOpen c entry depth told

-- The entry at a place has the node of this number.
pub record IsNodeAt (c : ClassTable) (j : List Entry) (place node : ℕ) : Type 0 where
  pub entry : Entry
  pub there : slice_get j place ≡ Some entry
  pub is : slice_get c.nodes node ≡ Some (Reached entry.walk)
