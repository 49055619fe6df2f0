-- Ways: joined, read backwards, cut where a cable ends, and without a cable twice.
use Rattle.std.proofs.Common.{◌≡◌, ◌≢◌, ℕ, List, [], ◌∷◌, ◌++◌, sym, ◌∙◌, subst, ap, refl, true, ◌⊎◌, inl, inr}
use Rattle.net_defs.specs.declared.vertex.Vertex.{Vertex}
use Rattle.net_defs.specs.declared.vertex.End.{End}
use Rattle.net_defs.specs.Network.{Network}
use Rattle.journal_defs.specs.Part.{Path}
use Rattle.journal_defs.specs.Part.Path.{here, over as by_cable}
use Rattle.net_defs.specs.Route.{host_port}
use Rattle.circ_defs.specs.PathList.{Ear, IsFirstEar, return_walk}
use Rattle.circ_defs.specs.Ways.{AreAmong, IsNewWay, IsOneOf, IsStep, IsTouched, IsWay, Joins, Step, cables_on}
use Rattle.circ_defs.specs.Circuit.{are_apart}
use Rattle.circ_defs.proofs.Cables.{SameCable, far-joins, joins-back, same-cable}
use Rattle.circ_defs.proofs.Numbers.{apart-from, apart-parts, is-one, left-in, right-in}
use Rattle.circ_defs.proofs.Cables.SameCable.{one_way, other_way}

-- two ways, one after the other
pub way-join : (n : Network) (x y z : Vertex) (ss ts : List Step) → IsWay n x ss y → IsWay n y ts z → IsWay n x (ss ++ ts) z
way-join n x y z [] ts a b = subst (λ v. IsWay n v ts z) (sym a) b
way-join n x y z (s ∷ ss) ts a b = (a.0, a.1, way-join n s.into.v y z ss ts a.2 b)

-- a way and its last step
pub way-push : (n : Network) (x : Vertex) (ss : List Step) (s : Step) → IsWay n x ss s.out.v → IsStep n s → IsWay n x (ss ++ s ∷ []) s.into.v
way-push n x [] s a b = (b, sym a, refl)
way-push n x (i ∷ ss) s a b = (a.0, a.1, way-push n i.into.v ss s a.2 b)

pub cables-push : (ss : List Step) (s : Step) → cables_on (ss ++ s ∷ []) ≡ cables_on ss ++ s.cable ∷ []
cables-push [] s = refl
cables-push (i ∷ ss) s = ap (λ l. i.cable ∷ l) (cables-push ss s)

pub one-of-either : (k : ℕ) (ss ts : List Step) → IsOneOf k (cables_on (ss ++ ts)) → IsOneOf k (cables_on ss) ⊎ IsOneOf k (cables_on ts)
one-of-either k [] ts m = inr m
one-of-either k (s ∷ ss) ts (inl e) = inl (inl e)
one-of-either k (s ∷ ss) ts (inr m) = by (one-of-either k ss ts m)
  where
    by : IsOneOf k (cables_on ss) ⊎ IsOneOf k (cables_on ts) → IsOneOf k (cables_on (s ∷ ss)) ⊎ IsOneOf k (cables_on ts)
    by (inl i) = inl (inr i)
    by (inr i) = inr i

-- a way, read backwards
abbrev pub turned_round : Step → Step
turned_round s = record { cable = s.cable; out = s.into; into = s.out }

abbrev pub backwards : List Step → List Step
backwards [] = []
backwards (s ∷ ss) = backwards ss ++ turned_round s ∷ []

pub way-back : (n : Network) (x z : Vertex) (ss : List Step) → IsWay n x ss z → IsWay n z (backwards ss) x
way-back n x z [] way = sym way
way-back n x z (s ∷ ss) way = way-join n z s.into.v x (backwards ss) (turned_round s ∷ []) (way-back n s.into.v z ss way.2) (joins-back n s.cable s.out s.into way.0, refl, way.1)

pub back-one : (k : ℕ) (ss : List Step) → IsOneOf k (cables_on (backwards ss)) → IsOneOf k (cables_on ss)
back-one k [] m = m
back-one k (s ∷ ss) m = by (one-of-either k (backwards ss) (turned_round s ∷ []) m) (back-one k ss)
  where
    by : IsOneOf k (cables_on (backwards ss)) ⊎ IsOneOf k (s.cable ∷ []) → (IsOneOf k (cables_on (backwards ss)) → IsOneOf k (cables_on ss)) → IsOneOf k (s.cable ∷ cables_on ss)
    by (inl i) rest = inr (rest i)
    by (inr (inl e)) rest = inl e
    by (inr (inr i)) rest = absurd i

pub apart-later : (k : ℕ) (ss ts : List Step) → are_apart (cables_on (ss ++ ts)) ≡ true → IsOneOf k (cables_on ss) → ¬ IsOneOf k (cables_on ts)
apart-later k [] ts a m i = absurd m
apart-later k (s ∷ ss) ts a (inl e) i = (apart-parts s.cable (cables_on (ss ++ ts)) a).0 (subst (λ l. IsOneOf l (cables_on (ss ++ ts))) e (later ss))
  where
    later : (ss : List Step) → IsOneOf k (cables_on (ss ++ ts))
    later [] = i
    later (x ∷ xs) = inr (later xs)
apart-later k (s ∷ ss) ts a (inr m) i = apart-later k ss ts (apart-parts s.cable (cables_on (ss ++ ts)) a).1 m i

-- the vertices that a way passes
abbrev pub ArePassed : (Vertex → Type 0) → List Step → Type 0
ArePassed P [] = Unit {0}
ArePassed P (s ∷ ss) = P s.out.v × P s.into.v × ArePassed P ss

pub append-step : (ss ts : List Step) (s : Step) → (ss ++ s ∷ []) ++ ts ≡ ss ++ (s ∷ ts)
append-step [] ts s = refl
append-step (x ∷ ss) ts s = ap (λ l. x ∷ l) (append-step ss ts s)

pub right-of : (k : ℕ) (ss ts : List Step) → IsOneOf k (cables_on ts) → IsOneOf k (cables_on (ss ++ ts))
right-of k [] ts m = m
right-of k (s ∷ ss) ts m = inr (right-of k ss ts m)

pub left-of : (k : ℕ) (ss ts : List Step) → IsOneOf k (cables_on ss) → IsOneOf k (cables_on (ss ++ ts))
left-of k [] ts m = absurd m
left-of k (s ∷ ss) ts (inl e) = inl e
left-of k (s ∷ ss) ts (inr m) = inr (left-of k ss ts m)

pub cables-join : (ss ts : List Step) → cables_on (ss ++ ts) ≡ cables_on ss ++ cables_on ts
cables-join [] ts = refl
cables-join (s ∷ ss) ts = ap (λ l. s.cable ∷ l) (cables-join ss ts)

-- lists that are apart
pub apart-join : (ss ts : List Step) → are_apart (cables_on ss) ≡ true → are_apart (cables_on ts) ≡ true → ((k : ℕ) → IsOneOf k (cables_on ss) → IsOneOf k (cables_on ts) → ⊥) → are_apart (cables_on (ss ++ ts)) ≡ true
apart-join [] ts a b none = b
apart-join (s ∷ ss) ts a b none =
    let two = apart-parts s.cable (cables_on ss) a in
    apart-from s.cable (cables_on (ss ++ ts)) (λ m. by (one-of-either s.cable ss ts m)) (apart-join ss ts two.1 b (λ k i l. none k (inr i) l))
  where
    by : IsOneOf s.cable (cables_on ss) ⊎ IsOneOf s.cable (cables_on ts) → ⊥
    by (inl i) = (apart-parts s.cable (cables_on ss) a).0 i
    by (inr i) = none s.cable (inl refl) i

pub record ApartParts (ss ts : List Step) : Type 0 where
  pub first : are_apart (cables_on ss) ≡ true
  pub second : are_apart (cables_on ts) ≡ true
  pub none : (k : ℕ) → IsOneOf k (cables_on ss) → IsOneOf k (cables_on ts) → ⊥

pub apart-split : (ss ts : List Step) → are_apart (cables_on (ss ++ ts)) ≡ true → ApartParts ss ts
apart-split [] ts a = record { first = refl; second = a; none = λ k m i. m }
apart-split (s ∷ ss) ts a =
    let two = apart-parts s.cable (cables_on (ss ++ ts)) a in
    let r = apart-split ss ts two.1 in
    record {
      first = apart-from s.cable (cables_on ss) (λ m. two.0 (subst (IsOneOf s.cable) (sym (cables-join ss ts)) (left-in s.cable (cables_on ss) (cables_on ts) m))) r.first;
      second = r.second;
      none = λ k m i. by k m i two.0 r.none;
    }
  where
    by : (k : ℕ) → IsOneOf k (cables_on (s ∷ ss)) → IsOneOf k (cables_on ts) → ¬ IsOneOf s.cable (cables_on (ss ++ ts)) → ((k : ℕ) → IsOneOf k (cables_on ss) → IsOneOf k (cables_on ts) → ⊥) → ⊥
    by k (inl e) i new rest = new (subst (IsOneOf s.cable) (sym (cables-join ss ts)) (right-in s.cable (cables_on ss) (cables_on ts) (subst (λ l. IsOneOf l (cables_on ts)) e i)))
    by k (inr m) i new rest = rest k m i

pub back-apart : (ss : List Step) → are_apart (cables_on ss) ≡ true → are_apart (cables_on (backwards ss)) ≡ true
back-apart [] a = refl
back-apart (s ∷ ss) a =
    let two = apart-parts s.cable (cables_on ss) a in
    apart-join (backwards ss) (turned_round s ∷ []) (back-apart ss two.1) refl (λ k m i. by k i (two.0) (back-one k ss m))
  where
    by : (k : ℕ) → IsOneOf k (s.cable ∷ []) → ¬ IsOneOf s.cable (cables_on ss) → IsOneOf k (cables_on ss) → ⊥
    by k (inl e) new m = new (subst (λ l. IsOneOf l (cables_on ss)) e m)
    by k (inr i) new m = i

pub among-both : (ss ts : List Step) (gs : List ℕ) → AreAmong (cables_on ss) gs → AreAmong (cables_on ts) gs → AreAmong (cables_on (ss ++ ts)) gs
among-both [] ts gs a b = b
among-both (s ∷ ss) ts gs a b = (a.0, among-both ss ts gs a.1 b)

-- a path that is new is a way
pub new-way : (n : Network) (old : List ℕ) (x : Vertex) (ss : List Step) (z : Vertex) → IsNewWay n old x ss z → IsWay n x ss z
new-way n old x [] z way = absurd way
new-way n old x (s ∷ []) z way = (way.0, way.1, way.2)
new-way n old x (s ∷ t ∷ ss) z way = (way.0, way.1, new-way n (s.cable ∷ old) s.into.v (t ∷ ss) z way.3)

-- a way, cut where a cable ends
pub record Split (n : Network) (y x z : Vertex) (ss : List Step) : Type 0 where
  pub first : List Step
  pub rest : List Step
  pub whole : first ++ rest ≡ ss
  pub there : IsWay n y first x
  pub on : IsWay n x rest z

pub split-at : (n : Network) (y z : Vertex) (ss : List Step) (k : ℕ) (d e : End) → IsWay n y ss z → IsOneOf k (cables_on ss) → Joins n k d e → Split n y e.v z ss
split-at n y z [] k d e way m joins = absurd m
split-at n y z (s ∷ ss) k d e way (inl p) joins = by (same-cable n k s.out s.into d e (subst (λ i. Joins n i s.out s.into) (sym p) way.0) joins)
  where
    by : SameCable s.out s.into d e → Split n y e.v z (s ∷ ss)
    by (one_way f g) = record { first = s ∷ []; rest = ss; whole = refl; there = (way.0, way.1, ap (λ (x : End). x.v) g); on = subst (λ x. IsWay n x ss z) (ap (λ (x : End). x.v) g) way.2 }
    by (other_way f g) = record { first = []; rest = s ∷ ss; whole = refl; there = sym way.1 ∙ ap (λ (x : End). x.v) f; on = (way.0, ap (λ (x : End). x.v) f, way.2) }
split-at n y z (s ∷ ss) k d e way (inr m) joins =
    let r = split-at n s.into.v z ss k d e way.2 m joins in
    record { first = s ∷ r.first; rest = r.rest; whole = ap (λ l. s ∷ l) r.whole; there = (way.0, way.1, r.there); on = r.on }

-- where a way ends, its last cable does
pub way-touches : (n : Network) (y x : Vertex) (ss : List Step) (ks : List ℕ) → IsWay n y ss x → AreAmong (cables_on ss) ks → y ≢ x → IsTouched n ks x
way-touches n y x [] ks way among other = absurd (other way)
way-touches n y x (s ∷ []) ks way among other = record { cable = s.cable; from = s.into; to = s.out; one_of = among.0; joins = joins-back n s.cable s.out s.into way.0; there = way.2 }
way-touches n y x (s ∷ t ∷ ss) ks way among other = last s t ss way among
  where
    last : (s t : Step) (ss : List Step) {y : Vertex} → IsWay n y (s ∷ t ∷ ss) x → AreAmong (cables_on (s ∷ t ∷ ss)) ks → IsTouched n ks x
    last s t [] way among = record { cable = t.cable; from = t.into; to = t.out; one_of = among.1.0; joins = joins-back n t.cable t.out t.into way.2.0; there = way.2.2 }
    last s t (i ∷ ss) way among = last t i ss way.2 among.1

-- a way over different cables
pub record Simple (n : Network) (y z : Vertex) : Type 0 where
  pub steps : List Step
  pub way : IsWay n y steps z
  pub apart : are_apart (cables_on steps) ≡ true

apart-rest : (ss ts : List Step) → are_apart (cables_on (ss ++ ts)) ≡ true → are_apart (cables_on ts) ≡ true
apart-rest [] ts a = a
apart-rest (s ∷ ss) ts a = apart-rest ss ts (apart-parts s.cable (cables_on (ss ++ ts)) a).1

pub simple-way : (n : Network) (y z : Vertex) (ss : List Step) → IsWay n y ss z → Simple n y z
simple-way n y z [] way = record { steps = []; way = way; apart = refl }
simple-way n y z (s ∷ ss) way = let r = simple-way n s.into.v z ss way.2 in by r (is-one s.cable (cables_on r.steps))
  where
    by : (r : Simple n s.into.v z) → IsOneOf s.cable (cables_on r.steps) ⊎ (¬ IsOneOf s.cable (cables_on r.steps)) → Simple n y z
    by r (inl m) =
        let c = split-at n s.into.v z r.steps s.cable s.into s.out r.way m (joins-back n s.cable s.out s.into way.0) in
        record { steps = c.rest; way = subst (λ x. IsWay n x c.rest z) way.1 c.on; apart = apart-rest c.first c.rest (ap (λ (l : List Step). are_apart (cables_on l)) c.whole ∙ r.apart) }
    by r (inr m) = record { steps = s ∷ r.steps; way = (way.0, way.1, r.way); apart = apart-from s.cable (cables_on r.steps) m r.apart }

pub record SomeWay (n : Network) (y z : Vertex) : Type 0 where
  pub steps : List Step
  pub way : IsWay n y steps z

pub path-way : (n : Network) (x z : Vertex) (m : ℕ) → Path n x m z → SomeWay n x z
path-way n x z m (here) = record { steps = []; way = refl }
path-way n x z m (by_cable {m = i} {v = v} {w = w} path p q c) =
    let r = path-way n x v i path in
    let k = far-joins n (record { v = v; p = p }) (record { v = w; p = q }) c in
    let s : Step = record { cable = k.cable; out = record { v = v; p = p }; into = record { v = w; p = q } } in
    record { steps = r.steps ++ s ∷ []; way = way-push n x r.steps s r.way k.joins }

-- the step over the mapper's own cable
abbrev pub own_step : ℕ → ℕ → End → Step
own_step host k into = record { cable = k; out = host_port host; into = into }

-- the return walk of the first path is that step
pub first-walk : (n : Network) (host : ℕ) (ear : Ear) → (e : IsFirstEar n host ear) → return_walk ear ≡ own_step host e.own.cable e.own.into ∷ []
first-walk n host ear e =
    ap (λ l. l ++ (ear.path ++ ear.after)) e.nothing_before ∙ ap (λ l. ear.path ++ l) e.nothing_after ∙ ap (λ l. l ++ []) e.own.is
