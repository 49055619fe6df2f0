-- The path list of two hosts at a switch.
use Rattle.std.proofs.Common.{◌≡◌, ◌≢◌, ℕ, zero, suc, [], ◌∷◌, Some, sym, ◌∙◌, subst, ap, refl, arith, inl, inr}
use Rattle.std.specs.Prelude.{slice_get}
use Rattle.net_defs.specs.declared.vertex.Vertex.{Vertex}
use Rattle.net_defs.specs.declared.vertex.Vertex.TheVariants.{Host, Switch}
use Rattle.net_defs.specs.declared.vertex.End.{End}
use Rattle.net_defs.specs.declared.vertex.Cable.{Cable}
use Rattle.net_defs.specs.Examples.{two_hosts, host_end, switch_end, joined}
use Rattle.journal_defs.specs.Part.Path.{here, over as by_cable}
use Rattle.circ_defs.specs.Cores.{ArePathsOfCore, IsCore, IsCoreCable, IsCutOff}
use Rattle.circ_defs.specs.PathList.{IsEar}
use Rattle.circ_defs.specs.Ways.{IsOneOf, Joins}
use Rattle.circ_defs.specs.Examples.{from_first, to_second, two_hosts_ears}
use Rattle.circ_defs.specs.Ways.Joins.{forth, back}

-- no cable joins two switches
no-bridge : (k : ℕ) (d e : End) (s t : ℕ) → Joins two_hosts k d e → d.v ≡ Switch s → e.v ≡ Switch t → ⊥
no-bridge k d e s t (forth {c = c} p) f g = place k c p f
  where
    place : (i : ℕ) (c : Cable) → slice_get two_hosts.cables i ≡ Some c → c.a.v ≡ Switch s → ⊥
    place zero c p f = let one : joined (host_end 0) (switch_end 0 2) ≡ c = cc in let two : Host 0 ≡ Switch s = ap (λ (z : Cable). z.a.v) one ∙ f in cc
    place (suc zero) c p f = let one : joined (host_end 1) (switch_end 0 5) ≡ c = cc in let two : Host 1 ≡ Switch s = ap (λ (z : Cable). z.a.v) one ∙ f in cc
    place (suc (suc i)) c p f = cc
no-bridge k d e s t (back {c = c} p) f g = place k c p g
  where
    place : (i : ℕ) (c : Cable) → slice_get two_hosts.cables i ≡ Some c → c.a.v ≡ Switch t → ⊥
    place zero c p f = let one : joined (host_end 0) (switch_end 0 2) ≡ c = cc in let two : Host 0 ≡ Switch t = ap (λ (z : Cable). z.a.v) one ∙ f in cc
    place (suc zero) c p f = let one : joined (host_end 1) (switch_end 0 5) ≡ c = cc in let two : Host 1 ≡ Switch t = ap (λ (z : Cable). z.a.v) one ∙ f in cc
    place (suc (suc i)) c p f = cc

none-cut : (x : Vertex) → ¬ IsCutOff two_hosts x
none-cut x c = no-bridge c.bridge c.from c.to c.s c.t c.joins c.from_switch c.to_switch

first-core : IsCore two_hosts 0 (Host 0)
first-core = record { in_part = record { cables = 0; path = here }; kept = none-cut (Host 0) }

switch-core : IsCore two_hosts 0 (Switch 0)
switch-core = record { in_part = record { cables = 1; path = by_cable here 0 2 refl }; kept = none-cut (Switch 0) }

other-core : IsCore two_hosts 0 (Host 1)
other-core = record { in_part = record { cables = 2; path = by_cable (by_cable here 0 2 refl) 5 0 refl }; kept = none-cut (Host 1) }

zero-one : zero ≢ suc zero
zero-one e = absurd (omega arith)

two_hosts_ear : IsEar two_hosts 0 (0 ∷ []) (record { before = from_first ∷ []; path = to_second ∷ []; after = [] })
two_hosts_ear = record {
  start = Switch 0;
  end = Host 1;
  last = 1;
  there = (forth refl, refl, refl);
  across = (back refl, refl, refl);
  home = refl;
  starts = record { cable = 0; from = switch_end 0 2; to = host_end 0; one_of = inl refl; joins = back refl; there = refl };
  before_old = (inl refl, tt);
  after_old = tt;
  is_new = (new, tt);
  first = from_first;
  rest = to_second ∷ [];
  begins = refl;
  once = inl (new, tt);
}
  where
    new : IsOneOf 1 (0 ∷ []) → ⊥
    new (inl e) = zero-one (sym e)
    new (inr m) = m

pub two_hosts_paths : ArePathsOfCore two_hosts 0 two_hosts_ears
two_hosts_paths = record { list = (two_hosts_ear, record { own = record { cable = 0; into = switch_end 0 2; joins = forth refl; is = refl }; nothing_before = refl; nothing_after = refl }); all = λ k c. all k c.from c.to c.joins; only = only }
  where
    found : (k : ℕ) (x : Cable) → slice_get two_hosts.cables k ≡ Some x → IsOneOf k (1 ∷ 0 ∷ [])
    found zero x p = inr (inl refl)
    found (suc zero) x p = inl refl
    found (suc (suc k)) x p = cc

    all : (k : ℕ) (d e : End) → Joins two_hosts k d e → IsOneOf k (1 ∷ 0 ∷ [])
    all k d e (forth {c = x} p) = found k x p
    all k d e (back {c = x} p) = found k x p

    only : (k : ℕ) → IsOneOf k (1 ∷ 0 ∷ []) → IsCoreCable two_hosts 0 k
    only k (inl e) = subst (IsCoreCable two_hosts 0) (sym e) (record { from = host_end 1; to = switch_end 0 5; joins = forth refl; first = other-core; second = switch-core })
    only k (inr (inl e)) = subst (IsCoreCable two_hosts 0) (sym e) (record { from = host_end 0; to = switch_end 0 2; joins = forth refl; first = first-core; second = switch-core })
    only k (inr (inr m)) = absurd m
