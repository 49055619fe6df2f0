-- New ways by their inner vertices, which is how they are read backwards.
use Rattle.std.proofs.Common.{◌≡◌, ◌≢◌, ℕ, List, [], ◌∷◌, ◌++◌, sym, ◌∙◌, subst, ap, refl, inl, inr}
use Rattle.std.specs.List.{AllByRecursion}
use Rattle.net_defs.specs.declared.vertex.Vertex.{Vertex}
use Rattle.net_defs.specs.declared.vertex.End.{End}
use Rattle.net_defs.specs.Network.{Network, Apart}
use Rattle.net_defs.proofs.Distinct.{all-push, apart-push, all-weaker}
use Rattle.circ_defs.specs.Ways.{IsNewWay, IsOneOf, IsTouched, IsWay, Joins, Step}
use Rattle.circ_defs.proofs.Cables.{SameCable, joins-back, same-cable}
use Rattle.circ_defs.proofs.Ways.{backwards, new-way, turned_round, way-back}
use Rattle.circ_defs.proofs.Cables.SameCable.{one_way, other_way}

-- the vertices between the ends of a way
abbrev pub inner : List Step → List Vertex
inner [] = []
inner (s ∷ []) = []
inner (s ∷ t ∷ ss) = s.into.v ∷ inner (t ∷ ss)

abbrev pub AreFresh : Network → List ℕ → List Vertex → Type 0
AreFresh n old vs = AllByRecursion (λ v. ¬ IsTouched n old v) vs

-- a new way is a way whose inner vertices are different and not at old cables
less-touched : (n : Network) (k : ℕ) (old : List ℕ) (v : Vertex) → ¬ IsTouched n (k ∷ old) v → ¬ IsTouched n old v
less-touched n k old v f t = f (record { cable = t.cable; from = t.from; to = t.to; one_of = inr t.one_of; joins = t.joins; there = t.there })

pub new-inner : (n : Network) (old : List ℕ) (x : Vertex) (ss : List Step) (z : Vertex) → IsNewWay n old x ss z → AreFresh n old (inner ss) × Apart (inner ss)
new-inner n old x [] z way = absurd way
new-inner n old x (s ∷ []) z way = (tt, tt)
new-inner n old x (s ∷ t ∷ ss) z way =
    let r = new-inner n (s.cable ∷ old) s.into.v (t ∷ ss) z way.3 in (
      (way.2, all-weaker (λ v. ¬ IsTouched n (s.cable ∷ old) v) (λ v. ¬ IsTouched n old v) (inner (t ∷ ss)) (λ v f. less-touched n s.cable old v f) r.0),
      (all-weaker (λ v. ¬ IsTouched n (s.cable ∷ old) v) (λ v. s.into.v ≢ v) (inner (t ∷ ss)) (λ v f e. f (record { cable = s.cable; from = s.into; to = s.out; one_of = inl refl; joins = joins-back n s.cable s.out s.into way.0; there = e })) r.0, r.1),
    )

all-both : (P Q R : Vertex → Type 0) (vs : List Vertex) → ((v : Vertex) → P v → Q v → R v) → AllByRecursion P vs → AllByRecursion Q vs → AllByRecursion R vs
all-both P Q R [] f a b = tt
all-both P Q R (v ∷ vs) f a b = (f v a.0 b.0, all-both P Q R vs f a.1 b.1)

pub inner-new : (n : Network) (old : List ℕ) (x : Vertex) (ss : List Step) (z : Vertex) → IsWay n x ss z → ss ≢ [] → IsTouched n old x → AreFresh n old (inner ss) → Apart (inner ss) → IsNewWay n old x ss z
inner-new n old x [] z way some here fresh apart = absurd (some refl)
inner-new n old x (s ∷ []) z way some here fresh apart = (way.0, way.1, way.2)
inner-new n old x (s ∷ t ∷ ss) z way some here fresh apart =
    (way.0, way.1, fresh.0, inner-new n (s.cable ∷ old) s.into.v (t ∷ ss) z way.2 (λ e. cc) there (all-both (λ v. ¬ IsTouched n old v) (λ v. s.into.v ≢ v) (λ v. ¬ IsTouched n (s.cable ∷ old) v) (inner (t ∷ ss)) later fresh.1 apart.0) apart.1)
  where
    there : IsTouched n (s.cable ∷ old) s.into.v
    there = record { cable = s.cable; from = s.into; to = s.out; one_of = inl refl; joins = joins-back n s.cable s.out s.into way.0; there = refl }

    later : (v : Vertex) → ¬ IsTouched n old v → s.into.v ≢ v → ¬ IsTouched n (s.cable ∷ old) v
    later v f g t = by t.one_of
      where
        ends : SameCable t.from t.to s.out s.into → ⊥
        ends (one_way p q) = f (subst (IsTouched n old) (sym way.1 ∙ sym (ap (λ (e : End). e.v) p) ∙ t.there) here)
        ends (other_way p q) = g (sym (ap (λ (e : End). e.v) p) ∙ t.there)

        by : IsOneOf t.cable (s.cable ∷ old) → ⊥
        by (inl e) = ends (same-cable n s.cable t.from t.to s.out s.into (subst (λ k. Joins n k t.from t.to) e t.joins) way.0)
        by (inr m) = f (record { cable = t.cable; from = t.from; to = t.to; one_of = m; joins = t.joins; there = t.there })

-- and so it is, read backwards
abbrev rev : List Vertex → List Vertex
rev [] = []
rev (v ∷ vs) = rev vs ++ v ∷ []

inner-push : (ss : List Step) (c b : Step) → inner ((ss ++ c ∷ []) ++ b ∷ []) ≡ inner (ss ++ c ∷ []) ++ c.into.v ∷ []
inner-push [] c b = refl
inner-push (s ∷ []) c b = refl
inner-push (s ∷ t ∷ ss) c b = ap (λ l. s.into.v ∷ l) (inner-push (t ∷ ss) c b)

inner-back : (n : Network) (x z : Vertex) (ss : List Step) → IsWay n x ss z → inner (backwards ss) ≡ rev (inner ss)
inner-back n x z [] way = refl
inner-back n x z (s ∷ []) way = refl
inner-back n x z (s ∷ t ∷ ss) way =
    inner-push (backwards ss) (turned_round t) (turned_round s)
    ∙ ap (λ l. l ++ t.out.v ∷ []) (inner-back n s.into.v z (t ∷ ss) way.2)
    ∙ ap (λ v. rev (inner (t ∷ ss)) ++ v ∷ []) way.2.1

all-rev : (P : Vertex → Type 0) (vs : List Vertex) → AllByRecursion P vs → AllByRecursion P (rev vs)
all-rev P [] a = tt
all-rev P (v ∷ vs) a = all-push P (rev vs) v (all-rev P vs a.1) a.0

apart-rev : (vs : List Vertex) → Apart vs → Apart (rev vs)
apart-rev [] a = tt
apart-rev (v ∷ vs) a = apart-push (rev vs) v (apart-rev vs a.1) (all-rev (λ y. v ≢ y) vs a.0)

back-some : (s : Step) (ss : List Step) → backwards (s ∷ ss) ≢ []
back-some s ss e = none (backwards ss) e
  where
    none : (ts : List Step) → ts ++ turned_round s ∷ [] ≢ []
    none [] e = cc
    none (t ∷ ts) e = cc

pub new-back : (n : Network) (old : List ℕ) (x : Vertex) (ss : List Step) (z : Vertex) → IsTouched n old z → IsNewWay n old x ss z → IsNewWay n old z (backwards ss) x
new-back n old x [] z there way = absurd way
new-back n old x (s ∷ ss) z there way =
    let plain = new-way n old x (s ∷ ss) z way in
    let r = new-inner n old x (s ∷ ss) z way in
    let same = inner-back n x z (s ∷ ss) plain in
    inner-new n old z (backwards (s ∷ ss)) x (way-back n x z (s ∷ ss) plain) (back-some s ss) there
    (subst (AreFresh n old) (sym same) (all-rev (λ v. ¬ IsTouched n old v) (inner (s ∷ ss)) r.0))
    (subst Apart (sym same) (apart-rev (inner (s ∷ ss)) r.1))
