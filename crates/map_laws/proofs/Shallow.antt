-- The depth that suffices for the small fabrics.
use Rattle.std.proofs.Common.{◌≡◌, List, [], ◌∷◌, true, refl, arith, rules, subst, sym, inl, inr, nat_eq}
use Rattle.std.specs.Prelude.{ℤ, ◌||◌, false}
use Rattle.std.proofs.lemmas.Bool.Decides.{nat_tests}
use Rattle.net_defs.specs.declared.vertex.Vertex.TheVariants.{Switch}
use Rattle.net_defs.specs.declared.place.Answer.TheVariants.{Host as IsHost}
use Rattle.net_defs.specs.Network.{IsFabric}
use Rattle.net_defs.specs.Examples.{two_hosts}
use Rattle.journal_defs.specs.Fabrics.{one_cable}
use Rattle.journal_defs.specs.Examples.{told, one_cable_journal, two_hosts_journal}
use Rattle.journal_defs.specs.Growth.{IsGrown}
use Rattle.journal_defs.specs.Growth.IsGrowing.{nothing, more}
use Rattle.journal_defs.specs.Growth.NextAsk.{first}
use Rattle.journal_defs.specs.Tree.{IsSwitchNode}
use Rattle.journal_defs.specs.Part.Path.{here, over}
use Rattle.journal_defs.specs.DistanceLaws.{HasHostWithin}
use Rattle.journal_defs.specs.Truth.{IsTrueJournal}
use Rattle.journal_defs.proofs.Distance.{part_is_reached}
use Rattle.journal_defs.proofs.Grown.{two_hosts_grown, two_hosts_true}
use Rattle.net_defs.proofs.TwoHosts.{two_hosts_fabric}
use Rattle.journal_defs.specs.Depth.{EachSwitchHasAHost, IsSmallEnough}
use Rattle.journal_defs.proofs.OneSwitch.{turn_unasked}
use Rattle.map_laws.specs.Laws.{EndsClosed}
use Rattle.map_laws.proofs.Depth.{depth_suffices}

pub one_cable_fabric : IsFabric one_cable
one_cable_fabric = record { few_hosts = omega arith; few_switches = omega arith; names_apart = search rules; port_counts = search rules; cabled_ports = search rules; ports_once = search rules }

pub one_cable_true : IsTrueJournal one_cable 0 one_cable_journal
one_cable_true = search rules

-- host a is cabled to the only switch
pub two_hosts_hosts : EachSwitchHasAHost two_hosts 0
two_hosts_hosts s i = by ((part_is_reached two_hosts 0 (Switch s) two_hosts_fabric refl).1 i)
  where
    near : HasHostWithin two_hosts (Switch 0) 1
    near = record { address = 0; cables = 1; path = over here 2 0 refl; few = omega arith }

    by : (nat_eq s 0 || false) ≡ true → HasHostWithin two_hosts (Switch s) 1
    by e = let zero_switch : s ≡ 0 = grind (arith, nat_tests) in subst (λ t. HasHostWithin two_hosts (Switch t) 1) (sym zero_switch) near

pub two_hosts_end : EndsClosed 0 4 two_hosts_journal
two_hosts_end = depth_suffices two_hosts 0 4 two_hosts_journal two_hosts_fabric refl (omega arith) (inr two_hosts_hosts) two_hosts_true two_hosts_grown

pub two_hosts_deeper : IsGrown 0 32 two_hosts_journal
two_hosts_deeper = two_hosts_end.deeper 32 (omega arith)

pub one_cable_small : IsSmallEnough one_cable 0
one_cable_small = inl (omega arith)

-- no switch, no turn: one ask
pub one_cable_no_switch : (w : List ℤ) → ¬ IsSwitchNode one_cable_journal w
one_cable_no_switch [] e = cc
one_cable_no_switch (t ∷ w) e = cc

one_cable_two : IsGrown 0 2 one_cable_journal
one_cable_two = record {
  growing = more [] (told [] (IsHost 1)) nothing (first refl refl) refl;
  ended = inl (record {
    started = refl;
    at_rest = record { expanded = λ w b. absurd (turn_unasked one_cable_journal w b.turn refl b.asked) };
    expanded = λ w s l. absurd (one_cable_no_switch w s);
    kept = omega arith;
  });
}

pub one_cable_end : EndsClosed 0 2 one_cable_journal
one_cable_end = depth_suffices one_cable 0 2 one_cable_journal one_cable_fabric refl (omega arith) one_cable_small one_cable_true one_cable_two
