-- What is cut off stays cut off, and what isn't was reached over what isn't.
use Rattle.std.proofs.Common.{◌≡◌, ◌≢◌, ℕ, zero, suc, List, [], ◌∷◌, ◌++◌, true, sym, ◌∙◌, subst, ap, refl, ◌⊎◌, inl, inr}
use Rattle.net_defs.specs.declared.vertex.Vertex.{Vertex}
use Rattle.net_defs.specs.declared.vertex.Vertex.TheVariants.{Host, Switch}
use Rattle.net_defs.specs.declared.vertex.End.{End}
use Rattle.net_defs.specs.Network.{Network, IsFabric}
use Rattle.journal_defs.specs.Part.{IsInPart}
use Rattle.journal_defs.specs.Part.Path.{here, over}
use Rattle.circ_defs.specs.Ways.{AreAmong, IsOneOf, IsStep, IsTouched, IsWay, Joins, Step, cables_on}
use Rattle.circ_defs.specs.Cores.{ArePathsOfCore, IsCore, IsCoreCable, IsCutOff}
use Rattle.circ_defs.specs.PathList.{Ear, cables_of}
use Rattle.circ_defs.specs.Circuit.{are_apart}
use Rattle.circ_defs.proofs.Ways.{ArePassed, apart-later, append-step, back-one, backwards, one-of-either, path-way, simple-way, way-back, way-join, way-touches}
use Rattle.circ_defs.proofs.Cables.{SameCable, joins-far, same-cable}
use Rattle.circ_defs.proofs.Cables.SameCable.{one_way, other_way}

-- the bridge of what is cut off was crossed on each way from a host
pub crossed-bridge : (n : Network) (h : ℕ) (x : Vertex) (ss : List Step) → (c : IsCutOff n x) → IsWay n (Host h) ss x → IsOneOf c.bridge (cables_on ss)
crossed-bridge n h x ss c way =
    by (one-of-either c.bridge c.steps (backwards ss) (c.hostless h (c.steps ++ backwards ss) (way-join n c.to.v x (Host h) c.steps (backwards ss) c.way (way-back n (Host h) x ss way))))
  where
    by : IsOneOf c.bridge (cables_on c.steps) ⊎ IsOneOf c.bridge (cables_on (backwards ss)) → IsOneOf c.bridge (cables_on ss)
    by (inl m) = absurd (c.beside m)
    by (inr m) = back-one c.bridge ss m

-- and a way that does not cross it again stays cut off
pub stays-off : (n : Network) (x z : Vertex) (ss : List Step) → (c : IsCutOff n x) → IsWay n x ss z → ¬ IsOneOf c.bridge (cables_on ss) → IsCutOff n z
stays-off n x z ss c way beside = record {
  bridge = c.bridge;
  from = c.from;
  to = c.to;
  joins = c.joins;
  s = c.s;
  t = c.t;
  from_switch = c.from_switch;
  to_switch = c.to_switch;
  steps = c.steps ++ ss;
  way = way-join n c.to.v x z c.steps ss c.way way;
  beside = λ m. by (one-of-either c.bridge c.steps ss m);
  hostless = c.hostless;
}
  where
    by : IsOneOf c.bridge (cables_on c.steps) ⊎ IsOneOf c.bridge (cables_on ss) → ⊥
    by (inl m) = c.beside m
    by (inr m) = beside m

-- On a way from a host over different cables to a vertex that isn't cut off, no vertex is cut off.
kept-after : (n : Network) (h : ℕ) (x z : Vertex) (ss ts : List Step) → IsWay n (Host h) ss x → IsWay n x ts z → are_apart (cables_on (ss ++ ts)) ≡ true → ¬ IsCutOff n z → ¬ IsCutOff n x
kept-after n h x z ss ts a b apart kept c = kept (stays-off n x z ts c b (apart-later c.bridge ss ts apart (crossed-bridge n h x ss c a)))

pub all-kept : (n : Network) (h : ℕ) (x z : Vertex) (ss ts : List Step) → IsWay n (Host h) ss x → IsWay n x ts z → are_apart (cables_on (ss ++ ts)) ≡ true → ¬ IsCutOff n z → ArePassed (λ v. ¬ IsCutOff n v) ts
all-kept n h x z ss [] a b apart kept = tt
all-kept n h x z ss (t ∷ ts) a b apart kept =
    let here : ¬ IsCutOff n x = kept-after n h x z ss (t ∷ ts) a b apart kept in
    let more = way-join n (Host h) x t.into.v ss (t ∷ []) a (b.0, b.1, refl) in
    let moved : are_apart (cables_on ((ss ++ t ∷ []) ++ ts)) ≡ true = ap (λ l. are_apart (cables_on l)) (append-step ss ts t) ∙ apart in
    (subst (λ v. ¬ IsCutOff n v) (sym b.1) here, kept-after n h t.into.v z (ss ++ t ∷ []) ts more b.2 moved kept, all-kept n h t.into.v z (ss ++ t ∷ []) ts more b.2 moved kept)

-- a switch beside a host isn't cut off
pub beside-host : (n : Network) (x : Vertex) (s : Step) (h : ℕ) → IsStep n s → s.out.v ≡ x → s.into.v ≡ Host h → ¬ IsCutOff n x
beside-host n x s h step out into c = by (one-of-either c.bridge c.steps (s ∷ []) (c.hostless h (c.steps ++ s ∷ []) (way-join n c.to.v x (Host h) c.steps (s ∷ []) c.way (step, out, into))))
  where
    same : SameCable s.out s.into c.from c.to → ⊥
    same (one_way p q) = let two : Host h ≡ Switch c.t = sym into ∙ ap (λ (e : End). e.v) q ∙ c.to_switch in cc
    same (other_way p q) = let two : Host h ≡ Switch c.s = sym into ∙ ap (λ (e : End). e.v) q ∙ c.from_switch in cc

    by : IsOneOf c.bridge (cables_on c.steps) ⊎ IsOneOf c.bridge (s.cable ∷ []) → ⊥
    by (inl m) = c.beside m
    by (inr (inl e)) = same (same-cable n c.bridge s.out s.into c.from c.to (subst (λ k. Joins n k s.out s.into) (sym e) step) c.joins)
    by (inr (inr m)) = m

-- no host is cut off
pub host-kept : (n : Network) (h : ℕ) → ¬ IsCutOff n (Host h)
host-kept n h c = c.beside (c.hostless h c.steps c.way)

-- a way from the mapper's host stays in its part
pub part-step : (n : Network) (host : ℕ) (s : Step) → IsFabric n → IsStep n s → IsInPart n host s.out.v → IsInPart n host s.into.v
part-step n host s f step p = record { cables = suc p.cables; path = over p.path s.out.p s.into.p (joins-far n s.cable s.out s.into f step) }

pub own-part : (n : Network) (host : ℕ) → IsInPart n host (Host host)
own-part n host = record { cables = zero; path = here }

pub passed-part : (n : Network) (host : ℕ) (x z : Vertex) (ss : List Step) → IsFabric n → IsInPart n host x → IsWay n x ss z → ArePassed (IsInPart n host) ss
passed-part n host x z [] f p way = tt
passed-part n host x z (s ∷ ss) f p way =
    let here : IsInPart n host s.out.v = subst (IsInPart n host) (sym way.1) p in
    let next = part-step n host s f way.0 here in
    (here, next, passed-part n host s.into.v z ss f next way.2)

-- so a way none of whose vertices is cut off goes over cables of the core
pub passed-core : (n : Network) (host : ℕ) (x z : Vertex) (gs : List ℕ) (ss : List Step) → IsWay n x ss z → ArePassed (IsInPart n host) ss → ArePassed (λ v. ¬ IsCutOff n v) ss → ((k : ℕ) → IsCoreCable n host k → IsOneOf k gs) → AreAmong (cables_on ss) gs
passed-core n host x z gs [] way part kept all = tt
passed-core n host x z gs (s ∷ ss) way part kept all =
    (all s.cable (record { from = s.out; to = s.into; joins = way.0; first = record { in_part = part.0; kept = kept.0 }; second = record { in_part = part.1; kept = kept.1 } }), passed-core n host s.into.v z gs ss way.2 part.2 kept.2 all)

-- each vertex of the core but the mapper's host is at a cable of the paths
pub core-touched : (n : Network) (host : ℕ) (es : List Ear) (x : Vertex) → IsFabric n → ArePathsOfCore n host es → IsCore n host x → Host host ≢ x → IsTouched n (cables_of es) x
core-touched n host es x f paths core other =
    let w = path-way n (Host host) x core.in_part.cables core.in_part.path in
    let r = simple-way n (Host host) x w.steps w.way in
    let kept = all-kept n host (Host host) x [] r.steps refl r.way r.apart core.kept in
    let part = passed-part n host (Host host) x r.steps f (own-part n host) r.way in
    way-touches n (Host host) x r.steps (cables_of es) r.way (passed-core n host (Host host) x (cables_of es) r.steps r.way part kept paths.all) other
