-- Two hosts on one cable: the journal of one entry, and the same with its probe lost.
use Rattle.std.proofs.Common.{◌≡◌, ◌<◌, ℕ, zero, suc, List, [], ◌∷◌, Some, sym, subst, refl, arith, inl, inr}
use Rattle.std.specs.Prelude.{ℤ, pos, slice_get}
use Rattle.std.proofs.lemmas.Bool.{false≢true}
use Rattle.net_defs.specs.Examples.{host_end}
use Rattle.journal_defs.specs.Fabrics.{one_cable}
use Rattle.journal_defs.specs.Tree.{Node, IsNode, IsSwitchNode, Leads}
use Rattle.journal_defs.specs.Tree.Node.{Mapper, Reached}
use Rattle.journal_defs.specs.Tree.Leads.{onward, back as go_back, out, home}
use Rattle.journal_defs.specs.Replicates.Replicates.{same}
use Rattle.journal_defs.specs.Truth.{IsTrueWhereFound}
use Rattle.journal_defs.specs.Growth.{IsGrown, IsClosed}
use Rattle.journal_defs.specs.Growth.IsGrowing.{nothing, more}
use Rattle.journal_defs.specs.Growth.NextAsk.{first}
use Rattle.journal_defs.specs.Examples.{one_cable_journal}
use Rattle.map_defs.specs.NetMap.{MapPort, IsCabled}
use Rattle.map_defs.specs.NetMap.IsCabled.{forth, back}
use Rattle.map_defs.specs.Quotient.{IsQuotient, IsLeastNode, HasVertex}
use Rattle.map_laws.proofs.Shallow.{one_cable_fabric, one_cable_true, one_cable_no_switch}
use Rattle.map_laws.proofs.Truly.{true-where}
use Rattle.map_laws.specs.Examples.{one_cable_map, lost_probe, lone_map}
use Rattle.map_laws.proofs.TwoNodes.{IsOneOf, IsShort, short_quotient}

-- no node found a switch
pub one_cable_closed : IsClosed 0 one_cable_journal
one_cable_closed = record { expanded = λ w s. absurd (one_cable_no_switch w s) }

one_of_two : (u : Node) → IsNode one_cable_journal u → IsOneOf u
one_of_two Mapper n = inl refl
one_of_two (Reached []) n = inr refl
one_of_two (Reached (t ∷ w)) n = absurd (false≢true n)

one_cable_short : IsShort one_cable 0 one_cable_journal
one_cable_short = record {
  fabric = one_cable_fabric;
  found = true-where one_cable 0 one_cable_journal one_cable_true;
  only = one_of_two;
  root = refl;
  at_mapper = host_end 0;
  at_root = host_end 1;
  mapper_stands = refl;
  root_stands = refl;
  differ = λ z. cc;
}

pub one_cable_quotient : IsQuotient 0 one_cable_journal one_cable_map
one_cable_quotient = short_quotient one_cable 0 one_cable_journal one_cable_map one_cable_short (record { vertices = refl; cables = refl; core = refl })

-- With the probe lost, the mapper's host is the only node.
lone : (u : Node) → IsNode lost_probe u → u ≡ Mapper
lone Mapper n = refl
lone (Reached []) n = absurd (false≢true n)
lone (Reached (t ∷ w)) n = absurd (false≢true n)

no_walk : (w : List ℤ) → IsNode lost_probe (Reached w) → ⊥
no_walk w n = let z : Reached w ≡ Mapper = lone (Reached w) n in cc

pub lost_found : IsTrueWhereFound one_cable 0 lost_probe
lost_found = ((λ d. absurd (d refl)), tt)

pub lost_grown : IsGrown 0 1 lost_probe
lost_grown = record {
  growing = more [] _ nothing (first refl refl) refl;
  ended = inl (record {
    started = refl;
    at_rest = record { expanded = λ w b. absurd (no_walk w b.node) };
    expanded = λ w s l. absurd (omega arith);
    kept = omega arith;
  });
}

pub lost_closed : IsClosed 0 lost_probe
lost_closed = record { expanded = λ w s. absurd (none w s) }
  where
    none : (w : List ℤ) → IsSwitchNode lost_probe w → ⊥
    none [] s = cc
    none (t ∷ w) s = cc

no_lead : (u x : Node) (p i : ℤ) → Leads lost_probe u p x i → ⊥
no_lead u x p i (onward {w = a} y z e) = no_walk a y
no_lead u x p i (go_back {w = a} y z e) = no_walk a y
no_lead u x p i (out y) = false≢true y
no_lead u x p i (home y) = false≢true y

lone_least : (v : ℕ) (u : Node) → slice_get (Mapper ∷ []) v ≡ Some u → IsLeastNode 0 lost_probe u
lone_least zero u e = let one : Mapper ≡ u = cc in subst (IsLeastNode 0 lost_probe) one (record { node = refl; least = λ v k r. refl })
lone_least (suc v) u e = cc

lone_covered : (u : Node) → IsNode lost_probe u → HasVertex 0 lost_probe (Mapper ∷ []) u
lone_covered u n = subst (HasVertex 0 lost_probe (Mapper ∷ [])) (sym (lone u n)) (record { vertex = 0; offset = pos 0; is_of = record { least_node = Mapper; there = refl; one_class = same refl } })

uncabled : (d e : MapPort) → IsCabled lone_map d e → ⊥
uncabled d e (forth k {c = c} p) = cc
uncabled d e (back k {c = c} p) = cc

pub lost_quotient : IsQuotient 0 lost_probe lone_map
lost_quotient = record {
  least = Mapper ∷ [];
  each_least = lone_least;
  in_order = λ v w u x l e f. absurd (one_place v w u x l e f);
  covered = lone_covered;
  vertices = refl;
  cabled = λ d e. ((λ c. absurd (uncabled d e c)), (λ l. absurd (no_lead l.from l.to l.p l.i l.leads)));
  cables_in_order = tt;
  unmarked = refl;
}
  where
    one_place : (v w : ℕ) (u x : Node) → v < w → slice_get (Mapper ∷ []) v ≡ Some u → slice_get (Mapper ∷ []) w ≡ Some x → ⊥
    one_place v zero u x l e f = absurd (omega arith)
    one_place v (suc w) u x l e f = cc
