-- What a map may be called by the end of its journal, and a count that has not risen.
use Rattle.std.proofs.Common.{◌≡◌, ◌<◌, ℕ, List, subst, arith}
use Rattle.fab_outer.specs.Fault.{Rose}
use Rattle.journal_defs.specs.declared.entry.Entry.{Entry}
use Rattle.mapper.specs.Ends.{IsEnd}
use Rattle.mapper.specs.declared.mapping.MapEnd.{MapEnd}
use Rattle.mapper.specs.declared.mapping.MapEnd.TheVariants.{Closed, OpenAtDepth, OpenAtNodes}
use Rattle.run_defs.specs.Mapped.{IsCalled}
use Rattle.run_defs.specs.Mapped.IsCalled.{too_many_nodes, too_shallow, doubted, right}
use Rattle.journal_defs.specs.Growth.{IsEndedAtLimit}
use Rattle.run_defs.specs.declared.line.MapWords.{MapWords}
use Rattle.run_defs.specs.declared.line.MapWords.TheVariants.{Complete, Doubtful, IncompleteDepth, IncompleteNodes}

module _ (drowned : ℕ) (end : MapEnd) (host : ℕ) (j : List Entry) (is : IsEnd host j end) where
  pub called-nodes : end ≡ OpenAtNodes → IsCalled host j drowned IncompleteNodes
  called-nodes e = too_many_nodes (subst (IsEnd host j) e is)

  pub called-depth : end ≡ OpenAtDepth → IsCalled host j drowned IncompleteDepth
  called-depth e = let open_end = subst (IsEnd host j) e is in too_shallow open_end.0 open_end.1

  pub called-doubtful : end ≡ Closed → 0 < drowned → IsCalled host j drowned (Doubtful drowned)
  called-doubtful e some = let closed = subst (IsEnd host j) e is in doubted closed.0 closed.1 some

  pub called-complete : end ≡ Closed → drowned ≡ 0 → IsCalled host j drowned Complete
  called-complete e none = let closed = subst (IsEnd host j) e is in right closed.0 closed.1 none

-- a map that is called complete ended within the limit of nodes
pub complete-within : (host : ℕ) (j : List Entry) (drowned : ℕ) (words : MapWords) → IsCalled host j drowned words → words ≡ Complete → ¬ IsEndedAtLimit j
complete-within host j drowned words (too_many_nodes l) e = cc
complete-within host j drowned words (too_shallow l c) e = l
complete-within host j drowned words (doubted l c some) e = l
complete-within host j drowned words (right l c none) e = l

risen-one : Rose 0 0 → ⊥
risen-one r = omega (arith, r)

-- a count that began at 0 and is 0 has not risen
pub calm : (before now : ℕ) → before ≡ 0 → now ≡ 0 → Rose before now → ⊥
calm before now b e r = risen-one (subst (λ a. Rose 0 a) e (subst (λ a. Rose a now) b r))
