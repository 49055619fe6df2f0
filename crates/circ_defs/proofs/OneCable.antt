-- The whole tree of two hosts on one cable.
use Rattle.std.proofs.Common.{◌≡◌, ◌<◌, List, [], ◌∷◌, ◌++◌, true, false, rules, sym, ap, refl, arith}
use Rattle.std.specs.Prelude.{ℤ}
use Rattle.std.proofs.lemmas.Bool.{true≢false}
use Rattle.journal_defs.specs.Fabrics.{one_cable}
use Rattle.journal_defs.specs.Examples.{one_cable_journal}
use Rattle.journal_defs.specs.Tree.{IsSwitchNode, is_asked}
use Rattle.journal_defs.specs.Walks.{walk_below, IsOnward}
use Rattle.journal_defs.specs.Growth.{crossed}
use Rattle.circ_defs.specs.Circuit.{IsCircuitJournal, IsWholeTree}
use Rattle.circ_defs.specs.Asking.{IsOfTree, IsNextOfTree, IsTreeGrowing, IsTreeEnded}
use Rattle.circ_defs.specs.Asking.IsOfTree.{first, onward}
use Rattle.circ_defs.specs.Asking.IsTreeGrowing.{nothing, more}

pub one_cable_circuit : IsCircuitJournal one_cable 0 one_cable_journal
one_cable_circuit = search rules

no-switch : (w : List ℤ) → ¬ IsSwitchNode one_cable_journal w
no-switch [] e = cc
no-switch (t ∷ w) e = cc

pub one_cable_whole : IsWholeTree one_cable 0 5 one_cable_journal
one_cable_whole = record {
  circuit = one_cable_circuit;
  once = (tt, tt);
  started = refl;
  expanded = λ w s l. absurd (no-switch w s);
  only = only;
}
  where
    only : (w : List ℤ) (t : ℤ) → is_asked one_cable_journal (w ++ t ∷ []) ≡ true → IsSwitchNode one_cable_journal w × (crossed w < 5) × IsOnward t
    only [] t e = absurd (true≢false (sym e))
    only (s ∷ w) t e = absurd (true≢false (sym e))

-- the first ask is the empty walk
first-next : IsNextOfTree 5 [] []
first-next = record { of_tree = first refl; unasked = refl; least = λ y o u. least y o }
  where
    least : (y : List ℤ) → IsOfTree 5 [] y → walk_below y [] ≡ false
    least y (first e) = ap (λ v. walk_below v []) e
    least y (onward w t s l o e) = cc

pub one_cable_growing : IsTreeGrowing one_cable 0 5 one_cable_journal
one_cable_growing = more [] _ nothing first-next refl refl

pub one_cable_ended : IsTreeEnded 5 one_cable_journal
one_cable_ended = record { asked = asked; kept = omega arith }
  where
    asked : (x : List ℤ) → IsOfTree 5 one_cable_journal x → is_asked one_cable_journal x ≡ true
    asked x (first e) = ap (is_asked one_cable_journal) e
    asked x (onward w t s l o e) = absurd (no-switch w s)
