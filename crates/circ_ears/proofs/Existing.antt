-- A path list exists: a path is added while a cable of the core is left.
use Rattle.std.proofs.Common.{Option, Some, None, ap, ◌≡◌, ◌<◌, ◌≤◌, ◌+◌, ℕ, zero, suc, List, [], ◌∷◌, length, true, sym, ◌∙◌, subst, refl, arith, ◌⊎◌, inl, inr}
use Rattle.std.proofs.lemmas.Bool.{cases_order}
use Rattle.net_defs.specs.declared.vertex.Vertex.{Vertex}
use Rattle.net_defs.specs.declared.vertex.Vertex.TheVariants.{Host, Switch}
use Rattle.net_defs.specs.declared.vertex.End.{End}
use Rattle.net_defs.specs.Network.{Network, IsFabric, far, has_port}
use Rattle.net_defs.specs.Route.{host_port}
use Rattle.journal_defs.specs.Counting.{numbers_below}
use Rattle.journal_defs.proofs.Members.{length-numbers, number-member}
use Rattle.journal_defs.specs.Part.{IsInPart, Path}
use Rattle.circ_defs.specs.Ways.{AreAmong, ArePaths, IsOneOf, IsTouched, IsWay, Joins, Step, cables_in, cables_on}
use Rattle.circ_defs.specs.Cores.{IsCore, IsCoreCable, IsCutOff}
use Rattle.circ_defs.specs.Circuit.{are_apart}
use Rattle.circ_defs.proofs.Ways.{ArePassed, path-way, simple-way}
use Rattle.map_laws.proofs.Truly.{port-there}
use Rattle.net_defs.proofs.Cabling.{host-port}
use Rattle.journal_defs.specs.Part.Path.{here, over as by_cable}
use Rattle.circ_defs.proofs.Cables.{joins-low, joins-far, far-joins, ends-one, SameCable, joins-back, same-cable}
use Rattle.circ_defs.proofs.Sides.{all-kept, beside-host, host-kept, own-part, part-step, passed-part}
use Rattle.circ_defs.proofs.Numbers.{either-in, right-in, apart-both, few, is-one, more-of}
use Rattle.circ_defs.proofs.Cables.SameCable.{one_way, other_way}
use Rattle.circ_ears.specs.Laws.{HasPathList, PathListsExist}
use Rattle.circ_ears.proofs.Onward.{NextPath, joins-vertex, next_path, touched-or-not}
use Rattle.circ_ears.proofs.Telltale.{core_cable-or-not}
use Rattle.circ_ears.proofs.Short.{path_lists_are_short}
use Rattle.circ_ears.proofs.Returns.{paths_have_returns}

-- no cable of the core is left at a vertex of these
abbrev pub NoneLeft : Network → ℕ → List ℕ → ℕ → Type 0
NoneLeft n host old m = (k : ℕ) (d e : End) → k < m → Joins n k d e → IsCore n host d.v → IsCore n host e.v → IsTouched n old d.v → ¬ IsOneOf k old → ⊥

record Left (n : Network) (host : ℕ) (old : List ℕ) : Type 0 where
  pub cable : ℕ
  pub from : End
  pub to : End
  pub joins : Joins n cable from to
  pub first : IsCore n host from.v
  pub second : IsCore n host to.v
  pub touched : IsTouched n old from.v
  pub new : ¬ IsOneOf cable old

search : (n : Network) (host : ℕ) (old : List ℕ) (m : ℕ) → ((l : ℕ) → IsCoreCable n host l ⊎ (¬ IsCoreCable n host l)) → Left n host old ⊎ NoneLeft n host old m
search n host old zero tell = inr (λ k d e l j a b t new. absurd (omega arith))
search n host old (suc m) tell = by (search n host old m tell) (tell m) (is-one m old)
  where
    last : NoneLeft n host old m → ((d e : End) → Joins n m d e → IsCore n host d.v → IsCore n host e.v → IsTouched n old d.v → ¬ IsOneOf m old → ⊥) → NoneLeft n host old (suc m)
    last p q k d e l j a b t new = at (cases_order k m)
      where
        at : (k ≡ m) ⊎ ((k < m) ⊎ (m < k)) → ⊥
        at (inl g) = q d e (subst (λ i. Joins n i d e) g j) a b t (λ i. new (subst (λ y. IsOneOf y old) (sym g) i))
        at (inr (inl g)) = p k d e g j a b t new
        at (inr (inr g)) = absurd (omega arith)

    look : NoneLeft n host old m → (c : IsCoreCable n host m) → ¬ IsOneOf m old → IsTouched n old c.from.v ⊎ (¬ IsTouched n old c.from.v) → IsTouched n old c.to.v ⊎ (¬ IsTouched n old c.to.v) → Left n host old ⊎ NoneLeft n host old (suc m)
    look p c new (inl t) q = inl (record { cable = m; from = c.from; to = c.to; joins = c.joins; first = c.first; second = c.second; touched = t; new = new })
    look p c new (inr f) (inl t) = inl (record { cable = m; from = c.to; to = c.from; joins = joins-back n m c.from c.to c.joins; first = c.second; second = c.first; touched = t; new = new })
    look p c new (inr f) (inr g) = inr (last p (λ d e j a b t i. ends d t (same-cable n m d e c.from c.to j c.joins)))
      where
        ends : (d : End) {e : End} → IsTouched n old d.v → SameCable d e c.from c.to → ⊥
        ends d t (one_way x y) = f (subst (λ (z : End). IsTouched n old z.v) x t)
        ends d t (other_way x y) = g (subst (λ (z : End). IsTouched n old z.v) x t)

    by : Left n host old ⊎ NoneLeft n host old m → IsCoreCable n host m ⊎ (¬ IsCoreCable n host m) → IsOneOf m old ⊎ (¬ IsOneOf m old) → Left n host old ⊎ NoneLeft n host old (suc m)
    by (inl r) c o = inl r
    by (inr p) (inr c) o = inr (last p (λ d e j a b t i. c (record { from = d; to = e; joins = j; first = a; second = b })))
    by (inr p) (inl c) (inl o) = inr (last p (λ d e j a b t i. i o))
    by (inr p) (inl c) (inr o) = look p c o (touched-or-not n old c.from.v) (touched-or-not n old c.to.v)

-- where none is left, all are taken
along : (n : Network) (host : ℕ) (old : List ℕ) (x z : Vertex) (ss : List Step) → NoneLeft n host old (length n.cables) → IsWay n x ss z → ArePassed (λ v. IsCore n host v) ss → IsTouched n old x → IsTouched n old z
along n host old x z [] none way core t = subst (IsTouched n old) way t
along n host old x z (s ∷ ss) none way core t = along n host old s.into.v z ss none way.2 core.2 (by (is-one s.cable old))
  where
    by : IsOneOf s.cable old ⊎ (¬ IsOneOf s.cable old) → IsTouched n old s.into.v
    by (inl m) = record { cable = s.cable; from = s.into; to = s.out; one_of = m; joins = joins-back n s.cable s.out s.into way.0; there = refl }
    by (inr m) = absurd (none s.cable s.out s.into (joins-low n s.cable s.out s.into way.0) way.0 core.0 core.1 (subst (IsTouched n old) (sym way.1) t) m)

passed-both : (n : Network) (host : ℕ) (ss : List Step) → ArePassed (λ v. IsInPart n host v) ss → ArePassed (λ v. ¬ IsCutOff n v) ss → ArePassed (λ v. IsCore n host v) ss
passed-both n host [] a b = tt
passed-both n host (s ∷ ss) a b = (record { in_part = a.0; kept = b.0 }, record { in_part = a.1; kept = b.1 }, passed-both n host ss a.2 b.2)

pub all-taken : (n : Network) (host : ℕ) (old : List ℕ) (k : ℕ) → IsFabric n → NoneLeft n host old (length n.cables) → IsTouched n old (Host host) → IsCoreCable n host k → IsOneOf k old
all-taken n host old k f none t c = by (is-one k old)
  where
    there : IsTouched n old c.from.v
    there =
        let w = path-way n (Host host) c.from.v c.first.in_part.cables c.first.in_part.path in
        let r = simple-way n (Host host) c.from.v w.steps w.way in
        along n host old (Host host) c.from.v r.steps none r.way (passed-both n host r.steps (passed-part n host (Host host) c.from.v r.steps f (own-part n host) r.way) (all-kept n host (Host host) c.from.v [] r.steps refl r.way r.apart c.first.kept)) t

    by : IsOneOf k old ⊎ (¬ IsOneOf k old) → IsOneOf k old
    by (inl m) = m
    by (inr m) = absurd (none k c.from c.to (joins-low n k c.from c.to c.joins) c.joins c.first c.second there m)

-- paths of the core so far
pub record Made (n : Network) (host : ℕ) : Type 0 where
  pub paths : List (List Step)
  pub are : ArePaths n host paths
  pub core : (l : ℕ) → IsOneOf l (cables_in paths) → IsCoreCable n host l
  pub apart : are_apart (cables_in paths) ≡ true
  pub touched : IsTouched n (cables_in paths) (Host host)

record Done (n : Network) (host : ℕ) : Type 0 where
  pub made : Made n host
  pub all : (k : ℕ) → IsCoreCable n host k → IsOneOf k (cables_in made.paths)

one-more : (n : Network) (host : ℕ) (m : Made n host) → IsFabric n → Left n host (cables_in m.paths) → (w : Made n host) × (suc (length (cables_in m.paths)) ≤ length (cables_in w.paths))
one-more n host m f l = by m.paths m.are m.core m.apart m.touched l
  where
    by : (ps : List (List Step)) → ArePaths n host ps → ((l : ℕ) → IsOneOf l (cables_in ps) → IsCoreCable n host l) → are_apart (cables_in ps) ≡ true → IsTouched n (cables_in ps) (Host host) → Left n host (cables_in ps) → (w : Made n host) × (suc (length (cables_in ps)) ≤ length (cables_in w.paths))
    by [] are core apart t l = absurd are
    by (p ∷ ps) are core apart t l =
        let r = next_path n host (cables_in (p ∷ ps)) l.cable l.from l.to f core l.joins l.first l.second l.touched l.new in (
          record {
            paths = r.path ∷ p ∷ ps;
            are = (r.is_path, are);
            core = λ k i. which k r (either-in k (cables_on r.path) (cables_in (p ∷ ps)) i);
            apart = apart-both (cables_on r.path) (cables_in (p ∷ ps)) r.is_path.apart apart r.is_path.is_new;
            touched = record { cable = t.cable; from = t.from; to = t.to; one_of = right-in t.cable (cables_on r.path) (cables_in (p ∷ ps)) t.one_of; joins = t.joins; there = t.there };
          },
          more-of l.cable (cables_on r.path) (cables_in (p ∷ ps)) r.begins,
        )
      where
        which : (k : ℕ) (r : NextPath n host (cables_in (p ∷ ps)) l.cable) → IsOneOf k (cables_on r.path) ⊎ IsOneOf k (cables_in (p ∷ ps)) → IsCoreCable n host k
        which k r (inl i) = r.core k i
        which k r (inr i) = core k i

pub cables-few : (n : Network) (host : ℕ) (m : Made n host) → length (cables_in m.paths) ≤ length n.cables
cables-few n host m =
    let l = few (cables_in m.paths) (numbers_below (length n.cables)) m.apart (all (cables_in m.paths) m.core) in
    let e = length-numbers (length n.cables) in
    omega arith
  where
    all : (ks : List ℕ) → ((l : ℕ) → IsOneOf l ks → IsCoreCable n host l) → AreAmong ks (numbers_below (length n.cables))
    all [] f = tt
    all (k ∷ ks) f = let c = f k (inl refl) in (number-member (length n.cables) k (joins-low n k c.from c.to c.joins), all ks (λ l i. f l (inr i)))

finish : (n : Network) (host fuel : ℕ) (m : Made n host) → IsFabric n → ((l : ℕ) → IsCoreCable n host l ⊎ (¬ IsCoreCable n host l)) → length n.cables < fuel + length (cables_in m.paths) → Done n host
finish n host zero m f tell l = let g = cables-few n host m in absurd (omega arith)
finish n host (suc fuel) m f tell l = by (search n host (cables_in m.paths) (length n.cables) tell) (λ w g. finish n host fuel w f tell g)
  where
    by : Left n host (cables_in m.paths) ⊎ NoneLeft n host (cables_in m.paths) (length n.cables) → ((w : Made n host) → length n.cables < fuel + length (cables_in w.paths) → Done n host) → Done n host
    by (inl r) rest = let w = one-more n host m f r in let g = w.1 in rest w.0 (omega arith)
    by (inr r) rest = record { made = m; all = λ k c. all-taken n host (cables_in m.paths) k f r m.touched c }

abbrev pub first-made : (n : Network) (host k : ℕ) (e : End) → IsFabric n → Joins n k (host_port host) e → Made n host
first-made n host k e f joins = record {
  paths = (record { cable = k; out = host_port host; into = e } ∷ []) ∷ [];
  are = record { cable = k; into = e; joins = joins; is = refl };
  core = λ l m. at l m;
  apart = refl;
  touched = record { cable = k; from = host_port host; to = e; one_of = inl refl; joins = joins; there = refl };
}
  where
    own : Step
    own = record { cable = k; out = host_port host; into = e }

    kept : (v : Vertex) → e.v ≡ v → ¬ IsCutOff n e.v
    kept (Host h) p = subst (λ y. ¬ IsCutOff n y) (sym p) (host-kept n h)
    kept (Switch s) p = beside-host n e.v (record { cable = k; out = e; into = host_port host }) host (joins-back n k (host_port host) e joins) refl refl

    at : (l : ℕ) → IsOneOf l (k ∷ []) → IsCoreCable n host l
    at l (inl p) = subst (IsCoreCable n host) (sym p) (record { from = host_port host; to = e; joins = joins; first = record { in_part = own-part n host; kept = host-kept n host }; second = record { in_part = part-step n host own f joins (own-part n host); kept = kept e.v refl } })
    at l (inr m) = absurd m

-- nothing is cabled to a host without a cable
pub no-way : (n : Network) (host : ℕ) (d e : End) → IsFabric n → far n (host_port host) ≡ None → d.v ≡ Host host → far n d ≡ Some e → ⊥
no-way n host d e f none v c =
    let port : has_port n (record { v = Host host; p = d.p }) ≡ true = subst (λ y. has_port n (record { v = y; p = d.p }) ≡ true) v (port-there n d e f c) in
    let own : d ≡ host_port host = ends-one d (host_port host) v (host-port n host d.p port) in
    let two : None ≡ Some e = sym none ∙ ap (far n) (sym own) ∙ c in
    cc

-- so it is its whole part
pub lone-part : (n : Network) (host m : ℕ) (x : Vertex) → IsFabric n → far n (host_port host) ≡ None → Path n (Host host) m x → x ≡ Host host
lone-part n host m x f none (here) = refl
lone-part n host m x f none (by_cable {m = i} {v = v} {w = w} path p q c) =
    absurd (no-way n host (record { v = v; p = p }) (record { v = w; p = q }) f none (lone-part n host i v f none path) c)

-- and its path list is empty
abbrev pub lone-list : (n : Network) (host : ℕ) → IsFabric n → far n (host_port host) ≡ None → HasPathList n host
lone-list n host f none = record {
  ears = [];
  paths = record { list = none; all = all; only = λ k i. absurd i };
  short = omega arith;
}
  where
    all : (k : ℕ) → IsCoreCable n host k → IsOneOf k []
    all k c = no-way n host c.from c.to f none (lone-part n host c.first.in_part.cables c.from.v f none c.first.in_part.path) (joins-far n k c.from c.to f c.joins)

cabled-list : (n : Network) (host k : ℕ) (e : End) → IsFabric n → Joins n k (host_port host) e → HasPathList n host
cabled-list n host k e f joins =
    let tell = λ (l : ℕ). core_cable-or-not n host l f (joins-vertex n k (host_port host) e f joins) in
    let start = first-made n host k e f joins in
    let d = finish n host (suc (length n.cables)) start f tell (omega arith) in
    let r = paths_have_returns n host d.made.paths f d.made.are in
    record {
      ears = r.ears;
      paths = record { list = r.list; all = λ l c. r.some l (d.all l c); only = λ l i. d.made.core l (r.only l i) };
      short = path_lists_are_short n host r.ears r.list;
    }

pub path_lists_exist : PathListsExist
path_lists_exist n host f = by (far n (host_port host)) refl
  where
    by : (o : Option End) → far n (host_port host) ≡ o → HasPathList n host
    by None p = lone-list n host f p
    by (Some e) p = let k = far-joins n (host_port host) e p in cabled-list n host k.cable e f k.joins
