-- Maps that lack a host of the part are not right.
use Rattle.std.proofs.Common.{◌≡◌, ◌≢◌, ℕ, zero, suc, List, [], ◌∷◌, ◌++◌, true, Some, sym, ◌∙◌, ap, refl, arith, rules, inl, inr}
use Rattle.std.specs.Prelude.{ℤ}
use Rattle.std.proofs.lemmas.Bool.{false≢true}
use Rattle.net_defs.specs.declared.vertex.Vertex.TheVariants.{Host}
use Rattle.net_defs.specs.Network.{Network}
use Rattle.net_defs.specs.Examples.{two_hosts, host_end, switch_end}
use Rattle.journal_defs.specs.Fabrics.{one_cable}
use Rattle.journal_defs.specs.Tree.{Node, IsNode, is_asked}
use Rattle.journal_defs.specs.Tree.Node.{Mapper, Reached}
use Rattle.journal_defs.specs.Truth.{IsTrueJournal}
use Rattle.journal_defs.specs.Growth.{IsGrown}
use Rattle.journal_defs.specs.Growth.IsGrowing.{nothing, more}
use Rattle.journal_defs.specs.Growth.NextAsk.{first}
use Rattle.journal_defs.specs.Part.{IsInPart}
use Rattle.journal_defs.specs.Part.Path.{here, over}
use Rattle.net_defs.proofs.TwoHosts.{two_hosts_fabric}
use Rattle.map_defs.specs.NetMap.{NetMap, host_of_vertex}
use Rattle.map_defs.specs.Quotient.{IsQuotient}
use Rattle.map_defs.specs.Sameness.{IsMapOfPart, address_of}
use Rattle.map_laws.proofs.Truly.{true-where}
use Rattle.map_laws.specs.Examples.{lone_map, unexpanded, stub_map}
use Rattle.map_laws.proofs.TwoNodes.{IsOneOf, IsShort, short_quotient}

lacking : (n : Network) (host h : ℕ) (m : NetMap) → IsInPart n host (Host h) → ((v : ℕ) → host_of_vertex m v ≢ Some h) → ¬ IsMapOfPart n host m
lacking n host h m part none same =
    let v = same.origin (Host h) in
    none v (sym (same.addresses v (same.origin_in (Host h) part)) ∙ ap address_of (same.image_origin (Host h) part))

pub lone_is_wrong : ¬ IsMapOfPart one_cable 0 lone_map
lone_is_wrong = lacking one_cable 0 1 lone_map (record { cables = 1; path = over here 0 0 refl }) none
  where
    none : (v : ℕ) → host_of_vertex lone_map v ≢ Some 1
    none zero e = cc
    none (suc v) e = cc

-- the switch that was found and not expanded
pub unexpanded_true : IsTrueJournal two_hosts 0 unexpanded
unexpanded_true = search rules

one_of_two : (u : Node) → IsNode unexpanded u → IsOneOf u
one_of_two Mapper n = inl refl
one_of_two (Reached []) n = inr refl
one_of_two (Reached (t ∷ w)) n = absurd (false≢true n)

unasked : (w : List ℤ) (t : ℤ) → is_asked unexpanded (w ++ t ∷ []) ≡ true → ⊥
unasked [] t e = false≢true e
unasked (s ∷ w) t e = false≢true e

pub unexpanded_grown : IsGrown 0 1 unexpanded
unexpanded_grown = record {
  growing = more [] _ nothing (first refl refl) refl;
  ended = inl (record {
    started = refl;
    at_rest = record { expanded = λ w b. absurd (unasked w b.turn b.asked) };
    expanded = λ w s l. absurd (omega arith);
    kept = omega arith;
  });
}

unexpanded_short : IsShort two_hosts 0 unexpanded
unexpanded_short = record {
  fabric = two_hosts_fabric;
  found = true-where two_hosts 0 unexpanded unexpanded_true;
  only = one_of_two;
  root = refl;
  at_mapper = host_end 0;
  at_root = switch_end 0 2;
  mapper_stands = refl;
  root_stands = refl;
  differ = λ z. cc;
}

pub unexpanded_quotient : IsQuotient 0 unexpanded stub_map
unexpanded_quotient = short_quotient two_hosts 0 unexpanded stub_map unexpanded_short (record { vertices = refl; cables = refl; core = refl })

pub stub_is_wrong : ¬ IsMapOfPart two_hosts 0 stub_map
stub_is_wrong = lacking two_hosts 0 1 stub_map (record { cables = 2; path = over (over here 0 2 refl) 5 0 refl }) none
  where
    none : (v : ℕ) → host_of_vertex stub_map v ≢ Some 1
    none zero e = cc
    none (suc zero) e = cc
    none (suc (suc v)) e = cc
