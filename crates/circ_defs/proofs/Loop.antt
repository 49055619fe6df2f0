-- The path list of a host at a switch that is cabled to itself.
use Rattle.std.proofs.Common.{◌≡◌, ◌≢◌, ℕ, zero, suc, List, [], ◌∷◌, Some, sym, ◌∙◌, subst, ap, refl, arith, inl, inr}
use Rattle.std.specs.Prelude.{slice_get}
use Rattle.net_defs.specs.declared.vertex.Vertex.TheVariants.{Host, Switch}
use Rattle.net_defs.specs.declared.vertex.End.{End}
use Rattle.net_defs.specs.declared.vertex.Cable.{Cable}
use Rattle.net_defs.specs.Examples.{host_end, switch_end}
use Rattle.journal_defs.specs.Part.{IsInPart}
use Rattle.journal_defs.specs.Part.Path.{here, over as by_cable}
use Rattle.circ_defs.specs.Cores.{ArePathsOfCore, IsCore, IsCoreCable, IsCutOff}
use Rattle.circ_defs.specs.PathList.{IsEar, IsPathList}
use Rattle.circ_defs.specs.Ways.{IsOneOf, IsWay, Joins, Step, cables_on}
use Rattle.circ_defs.specs.Examples.{into_loop, loop, loop_ears, out_of_loop, round_loop}
use Rattle.circ_defs.specs.Ways.Joins.{forth, back}
use Rattle.circ_defs.proofs.Sides.{host-kept}

zero-one : zero ≢ suc zero
zero-one e = absurd (omega arith)

loop_ear : IsEar loop 0 (0 ∷ []) (record { before = into_loop ∷ []; path = round_loop ∷ []; after = out_of_loop ∷ [] })
loop_ear = record {
  start = Switch 0;
  end = Switch 0;
  last = 0;
  there = (forth refl, refl, refl);
  across = (forth refl, refl, refl);
  home = (back refl, refl, refl);
  starts = record { cable = 0; from = switch_end 0 0; to = host_end 0; one_of = inl refl; joins = back refl; there = refl };
  before_old = (inl refl, tt);
  after_old = (inl refl, tt);
  is_new = (new, tt);
  first = into_loop;
  rest = round_loop ∷ out_of_loop ∷ [];
  begins = refl;
  once = inl (new, inr (refl, zero-one, refl));
}
  where
    new : IsOneOf 1 (0 ∷ []) → ⊥
    new (inl e) = zero-one (sym e)
    new (inr m) = m

loop_list : IsPathList loop 0 loop_ears
loop_list = (loop_ear, record { own = record { cable = 0; into = switch_end 0 0; joins = forth refl; is = refl }; nothing_before = refl; nothing_after = refl })

-- the switch is in the core: whatever the bridge, the host's cable leads home beside it
switch-kept : ¬ IsCutOff loop (Switch 0)
switch-kept c = by c.bridge c.from c.to c.joins refl (ap (λ x. x) c.from_switch) c.to_switch c.hostless
  where
    by : (k : ℕ) (from to : End) → Joins loop k from to → k ≡ c.bridge → from.v ≡ Switch c.s → to.v ≡ Switch c.t → ((h : ℕ) (ss : List Step) → IsWay loop c.to.v ss (Host h) → IsOneOf c.bridge (cables_on ss)) → ⊥
    by zero from to (forth {c = x} p) e f g hostless = let one : x ≡ record { a = host_end 0; b = switch_end 0 0 } = cc in let two : Host 0 ≡ Switch c.s = ap (λ (y : Cable). y.a.v) (sym one) ∙ f in cc
    by zero from to (back {c = x} p) e f g hostless = let one : x ≡ record { a = host_end 0; b = switch_end 0 0 } = cc in let two : Host 0 ≡ Switch c.t = ap (λ (y : Cable). y.a.v) (sym one) ∙ g in cc
    by (suc k) from to joins e f g hostless = way (hostless 0 (out_of_loop ∷ []) (back refl, there, refl))
      where
        low : (s : ℕ) (d x : End) → Joins loop c.bridge d x → x.v ≡ Switch s → x.v ≡ Switch 0
        low s d x (forth {c = y} p) q = place c.bridge y p
          where
            place : (i : ℕ) (y : Cable) → slice_get loop.cables i ≡ Some y → y.b.v ≡ Switch 0
            place zero y p = let one : record { a = host_end 0; b = switch_end 0 0 } ≡ y = cc in ap (λ (z : Cable). z.b.v) (sym one)
            place (suc zero) y p = let one : record { a = switch_end 0 1; b = switch_end 0 2 } ≡ y = cc in ap (λ (z : Cable). z.b.v) (sym one)
            place (suc (suc i)) y p = cc
        low s d x (back {c = y} p) q = place c.bridge y p q
          where
            place : (i : ℕ) (y : Cable) → slice_get loop.cables i ≡ Some y → y.a.v ≡ Switch s → y.a.v ≡ Switch 0
            place zero y p q = let one : record { a = host_end 0; b = switch_end 0 0 } ≡ y = cc in let two : Host 0 ≡ Switch s = ap (λ (z : Cable). z.a.v) one ∙ q in cc
            place (suc zero) y p q = let one : record { a = switch_end 0 1; b = switch_end 0 2 } ≡ y = cc in ap (λ (z : Cable). z.a.v) (sym one)
            place (suc (suc i)) y p q = cc

        there : Switch 0 ≡ c.to.v
        there = sym (low c.t c.from c.to c.joins c.to_switch)

        way : IsOneOf c.bridge (0 ∷ []) → ⊥
        way (inl q) = absurd (let z : suc k ≡ 0 = e ∙ q in omega arith)
        way (inr m) = m

in-part-switch : IsInPart loop 0 (Switch 0)
in-part-switch = record { cables = 1; path = by_cable here 0 0 refl }

host-core : IsCore loop 0 (Host 0)
host-core = record { in_part = record { cables = 0; path = here }; kept = host-kept loop 0 }

switch-core : IsCore loop 0 (Switch 0)
switch-core = record { in_part = in-part-switch; kept = switch-kept }

pub loop_paths : ArePathsOfCore loop 0 loop_ears
loop_paths = record { list = loop_list; all = λ k c. all k c.from c.to c.joins; only = only }
  where
    found : (k : ℕ) (x : Cable) → slice_get loop.cables k ≡ Some x → IsOneOf k (1 ∷ 0 ∷ [])
    found zero x p = inr (inl refl)
    found (suc zero) x p = inl refl
    found (suc (suc k)) x p = cc

    all : (k : ℕ) (d e : End) → Joins loop k d e → IsOneOf k (1 ∷ 0 ∷ [])
    all k d e (forth {c = x} p) = found k x p
    all k d e (back {c = x} p) = found k x p

    only : (k : ℕ) → IsOneOf k (1 ∷ 0 ∷ []) → IsCoreCable loop 0 k
    only k (inl e) = subst (IsCoreCable loop 0) (sym e) (record { from = switch_end 0 1; to = switch_end 0 2; joins = forth refl; first = switch-core; second = switch-core })
    only k (inr (inl e)) = subst (IsCoreCable loop 0) (sym e) (record { from = host_end 0; to = switch_end 0 0; joins = forth refl; first = host-core; second = switch-core })
    only k (inr (inr m)) = absurd m
