-- The journals of the examples have grown.
use Rattle.std.proofs.Common.{◌≡◌, List, [], ◌∷◌, Bool, true, false, not, ◌||◌, sym, ◌∙◌, subst, refl, arith, rules, inl}
use Rattle.std.specs.Prelude.{ℤ, pos, negsuc}
use Rattle.net_defs.specs.declared.place.Answer.{Answer}
use Rattle.net_defs.specs.declared.place.Answer.TheVariants.{Host, Switch, Nothing}
use Rattle.net_defs.specs.Network.{IsFabric}
use Rattle.net_defs.specs.Examples.{two_hosts}
use Rattle.journal_defs.specs.Tree.{IsSwitchNode}
use Rattle.journal_defs.specs.Tree.Node.{Reached}
use Rattle.journal_defs.specs.Tree.Leads.{back}
use Rattle.journal_defs.specs.Replicates.{Replicates}
use Rattle.journal_defs.specs.Replicates.Replicates.{same, one_host, behind}
use Rattle.journal_defs.specs.Truth.{IsTrueJournal}
use Rattle.journal_defs.specs.Growth.{IsGrown, HasExpanded, NextAsk}
use Rattle.journal_defs.specs.Growth.IsGrowing.{nothing, more}
use Rattle.journal_defs.specs.Growth.NextAsk.{first, begins}
use Rattle.journal_defs.specs.Examples.{told, one_cable_journal, parallel_journal, two_hosts_journal, answer_to_turn}
use Rattle.net_defs.proofs.Turns.{same_turns-true}
use Rattle.journal_defs.proofs.Growing.{Holds, answered-holds}
use Rattle.journal_defs.proofs.OneSwitch.{is_empty, turn_unasked, switch_alone, begun_by, next-ask, switch-chosen, switch-rests, one-switch-grows, one-switch-expanded, one-switch-rests}

abbrev is_switch : Answer → Bool
is_switch (Host h) = false
is_switch Switch = true
is_switch Nothing = false

pub one_cable_grown : IsGrown 0 1 one_cable_journal
one_cable_grown = record {
  growing = more [] (told [] (Host 1)) nothing (first refl refl) refl;
  ended = inl (record {
    started = refl;
    at_rest = record { expanded = λ w b. absurd (turn_unasked one_cable_journal w b.turn refl b.asked) };
    expanded = λ w s l. absurd (omega arith);
    kept = omega arith;
  });
}

-- the true answers over two hosts at a switch
pub two_hosts_true : IsTrueJournal two_hosts 0 two_hosts_journal
two_hosts_true = search rules

-- the first asks over two hosts: the empty walk, then the switch's turns
pub first_ask : NextAsk 0 4 [] []
first_ask = first refl refl

pub second_ask : NextAsk 0 4 switch_alone (negsuc 14 ∷ [])
second_ask = begins [] switch-rests (switch-chosen 0 4 (omega arith)) refl

pub third_ask : NextAsk 0 4 (begun_by answer_to_turn) (negsuc 13 ∷ [])
third_ask = next-ask 0 4 (begun_by answer_to_turn) (negsuc 13) refl

-- the empty walk alone is a switch
pub switch_first : (w : List ℤ) → IsSwitchNode two_hosts_journal w → w ≡ []
switch_first w s = by (answered-holds two_hosts_journal w Switch (λ e. not (is_switch e.answer) || is_empty e) refl s)
  where
    by : Holds two_hosts_journal w Switch (λ e. not (is_switch e.answer) || is_empty e) → w ≡ []
    by h = sym h.walk ∙ same_turns-true h.entry.walk [] (rw h.answer at h.passes)

pub two_hosts_closed : (w : List ℤ) → IsSwitchNode two_hosts_journal w → HasExpanded 0 two_hosts_journal (Reached w)
two_hosts_closed w s = record { member = []; offset = pos 0; one_class = subst (λ v. Replicates 0 two_hosts_journal (Reached v) (Reached []) (pos 0)) (sym (switch_first w s)) (same refl); expanded = one-switch-expanded answer_to_turn }

pub two_hosts_grown : IsGrown 0 4 two_hosts_journal
two_hosts_grown = record {
  growing = one-switch-grows 0 4 answer_to_turn (omega arith);
  ended = inl (record {
    started = refl;
    at_rest = one-switch-rests answer_to_turn;
    expanded = λ w s l. two_hosts_closed w s;
    kept = omega arith;
  });
}

-- over the parallel cables: host b is one host, so what stands before it is one switch
pub parallel_host : Replicates 0 parallel_journal (Reached (pos 1 ∷ pos 1 ∷ [])) (Reached (pos 2 ∷ negsuc 1 ∷ [])) (pos 0)
parallel_host = one_host refl refl

pub parallel_switch : Replicates 0 parallel_journal (Reached (pos 1 ∷ [])) (Reached (pos 2 ∷ [])) (negsuc 2)
parallel_switch = behind parallel_host (back refl refl refl) (back refl refl refl)
