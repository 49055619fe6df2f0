-- A path and two walks make a path with its return walk.
use Rattle.std.proofs.Common.{◌≡◌, ◌≢◌, ℕ, List, [], ◌∷◌, ◌++◌, true, sym, ◌∙◌, subst, ap, refl, ◌⊎◌, inl, inr}
use Rattle.net_defs.specs.declared.vertex.Vertex.{Vertex}
use Rattle.net_defs.specs.declared.vertex.Vertex.TheVariants.{Host}
use Rattle.net_defs.specs.declared.vertex.End.{End}
use Rattle.net_defs.specs.Network.{Network, IsFabric, has_port}
use Rattle.net_defs.specs.Route.{host_port}
use Rattle.net_defs.proofs.Cabling.{host-port}
use Rattle.map_laws.proofs.Truly.{port-there}
use Rattle.std.proofs.lemmas.List.{append_assoc}
use Rattle.circ_defs.specs.Ways.{AreAmong, AreNone, ArePaths, IsNewWay, IsOneOf, IsPath, IsStep, IsTouched, IsWay, Joins, Step, cables_in, cables_on}
use Rattle.circ_defs.specs.PathList.{CrossesOnce, Ear, IsEar, IsPathList, cables_of}
use Rattle.circ_defs.specs.Circuit.{are_apart}
use Rattle.circ_defs.proofs.Ways.{apart-join, back-apart, back-one, backwards, cables-join, new-way, one-of-either, turned_round}
use Rattle.circ_defs.proofs.Numbers.{either-in, left-in, right-in, all-among, apart-parts, none-from, none-same, none-to}
use Rattle.circ_defs.proofs.Cables.{ends-one, joins-back, joins-far, one-cable}
use Rattle.circ_ears.specs.Laws.{HasReturns, PathsHaveReturns}
use Rattle.circ_ears.specs.TwoWalks.{HasTwo, IsHomeward}
use Rattle.circ_ears.proofs.Inner.{new-back}
use Rattle.circ_ears.proofs.TwoWalks.{paths_have_two_walks}

-- steps over different cables, and then perhaps home
once-home : (host last : ℕ) (ks : List ℕ) (ss tail : List Step) → are_apart (cables_on ss) ≡ true → ((k : ℕ) → IsOneOf k (cables_on ss) → IsOneOf k ks → ⊥) → IsHomeward host tail → ((k : ℕ) → IsOneOf k (cables_on tail) → IsOneOf k (last ∷ cables_on ss) → ⊥) → CrossesOnce host last ks (ss ++ tail)
once-home host last ks [] [] apart none home other = tt
once-home host last ks [] (t ∷ tail) apart none home other = inr (home.0, (λ e. other t.cable (inl refl) (inl e)), home.1)
once-home host last ks (s ∷ ss) tail apart none home other =
    let two = apart-parts s.cable (cables_on ss) apart in
    inl ((λ m. none s.cable (inl refl) m), once-home host s.cable (s.cable ∷ ks) ss tail two.1 (λ k m i. by k m i two.0 none) home (λ k m i. other k m (inr i)))
  where
    by : (k : ℕ) → IsOneOf k (cables_on ss) → IsOneOf k (s.cable ∷ ks) → ¬ IsOneOf s.cable (cables_on ss) → ((k : ℕ) → IsOneOf k (cables_on (s ∷ ss)) → IsOneOf k ks → ⊥) → ⊥
    by k m (inl e) new rest = new (subst (λ l. IsOneOf l (cables_on ss)) e m)
    by k m (inr i) new rest = rest k (inr m) i

once-first : (host last : ℕ) (ss tail : List Step) → ss ≢ [] → are_apart (last ∷ cables_on ss) ≡ true → IsHomeward host tail → ((k : ℕ) → IsOneOf k (cables_on tail) → IsOneOf k (cables_on ss) → ⊥) → CrossesOnce host last (last ∷ []) (ss ++ tail)
once-first host last [] tail some apart home other = absurd (some refl)
once-first host last (s ∷ ss) tail some apart home other =
    let one = apart-parts last (cables_on (s ∷ ss)) apart in
    let two = apart-parts s.cable (cables_on ss) one.1 in
    inl (
      (λ m. first m one.0),
      once-home host s.cable (s.cable ∷ last ∷ []) ss tail two.1 (λ k m i. rest k m i one.0 two.0) home other,
    )
  where
    first : IsOneOf s.cable (last ∷ []) → ¬ IsOneOf last (cables_on (s ∷ ss)) → ⊥
    first (inl e) new = new (inl (sym e))
    first (inr m) new = m

    rest : (k : ℕ) → IsOneOf k (cables_on ss) → IsOneOf k (s.cable ∷ last ∷ []) → ¬ IsOneOf last (cables_on (s ∷ ss)) → ¬ IsOneOf s.cable (cables_on ss) → ⊥
    rest k m (inl e) a b = b (subst (λ l. IsOneOf l (cables_on ss)) e m)
    rest k m (inr (inl e)) a b = a (inr (subst (λ l. IsOneOf l (cables_on ss)) e m))
    rest k m (inr (inr i)) a b = i

-- the mapper's own cable is an old one
pub record HasOwn (n : Network) (host : ℕ) (old : List ℕ) : Type 0 where
  pub cable : ℕ
  pub into : End
  pub joins : Joins n cable (host_port host) into
  pub there : IsOneOf cable old

pub own-old : (n : Network) (host : ℕ) (ps : List (List Step)) → ArePaths n host ps → HasOwn n host (cables_in ps)
own-old n host [] paths = absurd paths
own-old n host (p ∷ []) paths = record { cable = paths.cable; into = paths.into; joins = paths.joins; there = subst (λ (l : List Step). IsOneOf paths.cable (cables_on l ++ [])) (sym paths.is) (inl refl) }
own-old n host (p ∷ q ∷ ps) paths = let r = own-old n host (q ∷ ps) paths.1 in record { cable = r.cable; into = r.into; joins = r.joins; there = right p r.cable (cables_in (q ∷ ps)) r.there }
  where
    right : (ss : List Step) (k : ℕ) (ls : List ℕ) → IsOneOf k ls → IsOneOf k (cables_on ss ++ ls)
    right [] k ls m = m
    right (s ∷ ss) k ls m = inr (right ss k ls m)

-- a step out of the mapper's host, or into it, is over its own cable
pub out-own : (n : Network) (host : ℕ) (old : List ℕ) (s : Step) → IsFabric n → (o : HasOwn n host old) → IsStep n s → s.out.v ≡ Host host → s.cable ≡ o.cable
out-own n host old s f o step e =
    let zero_port : s.out.p ≡ 0 = host-port n host s.out.p (subst (λ y. has_port n (record { v = y; p = s.out.p }) ≡ true) e (port-there n s.out s.into f (joins-far n s.cable s.out s.into f step))) in
    let own : s.out ≡ host_port host = ends-one s.out (host_port host) e zero_port in
    one-cable n s.cable o.cable (host_port host) s.into o.into f (subst (λ d. Joins n s.cable d s.into) own step) o.joins

some-path : (n : Network) (old : List ℕ) (x : Vertex) (ss : List Step) (z : Vertex) → IsNewWay n old x ss z → (s : Step) × ((rest : List Step) × (ss ≡ s ∷ rest))
some-path n old x [] z way = absurd way
some-path n old x (s ∷ ss) z way = (s, (ss, refl))

pub append-none : (ss ts : List Step) (t : Step) → ss ++ (t ∷ ts) ≢ []
append-none [] ts t e = cc
append-none (s ∷ ss) ts t e = cc

-- a path and two walks make an ear
pub make-ear : (n : Network) (host : ℕ) (old : List ℕ) (start end : Vertex) (path there body tail : List Step) (h : ℕ) → IsFabric n → HasOwn n host old → IsNewWay n old start path end → IsTouched n old start → AreNone (cables_on path) old → are_apart (cables_on path) ≡ true → IsWay n (Host host) there start → IsWay n end (body ++ tail) (Host h) → AreAmong (cables_on there) old → AreAmong (cables_on (body ++ tail)) old → are_apart (cables_on there) ≡ true → are_apart (cables_on body) ≡ true → AreNone (cables_on body) (cables_on there) → IsHomeward host tail → IsEar n host old (record { before = there; path = path; after = body ++ tail })
make-ear n host old start end path there body tail h f own across starts new apart way_there way_home there_old home_old there_apart body_apart disjoint home = by there way_there there_old there_apart disjoint
  where
    one : (s : Step) × ((rest : List Step) × (path ≡ s ∷ rest))
    one = some-path n old start path end across

    in-old : (k : ℕ) (ss : List Step) → AreAmong (cables_on ss) old → IsOneOf k (cables_on ss) → IsOneOf k old
    in-old k [] a m = absurd m
    in-old k (s ∷ ss) a (inl e) = subst (λ l. IsOneOf l old) (sym e) a.0
    in-old k (s ∷ ss) a (inr m) = in-old k ss a.1 m

    body_old : (k : ℕ) → IsOneOf k (cables_on body) → IsOneOf k old
    body_old k m = in-old k (body ++ tail) home_old (left body m)
      where
        left : (ss : List Step) → IsOneOf k (cables_on ss) → IsOneOf k (cables_on (ss ++ tail))
        left [] i = absurd i
        left (s ∷ ss) (inl e) = inl e
        left (s ∷ ss) (inr i) = inr (left ss i)

    by : (there : List Step) → IsWay n (Host host) there start → AreAmong (cables_on there) old → are_apart (cables_on there) ≡ true → AreNone (cables_on body) (cables_on there) → IsEar n host old (record { before = there; path = path; after = body ++ tail })
    by [] way among a d =
        let across_first : IsWay n start (one.0 ∷ one.1.0) end = subst (λ l. IsWay n start l end) one.1.1 (new-way n old start path end across) in
        let k = out-own n host old one.0 f own across_first.0 (across_first.1 ∙ sym way) in
        let first_new : ¬ IsOneOf one.0.cable old = (subst (λ (l : List Step). AreNone (cables_on l) old) one.1.1 new).0 in
        absurd (first_new (subst (λ i. IsOneOf i old) (sym k) own.there))
    by (s ∷ ss) way among a d = record {
      start = start;
      end = end;
      last = h;
      there = way;
      across = across;
      home = way_home;
      starts = starts;
      before_old = among;
      after_old = home_old;
      is_new = new;
      first = s;
      rest = ss ++ (path ++ (body ++ tail));
      begins = refl;
      once = subst (CrossesOnce host s.cable (s.cable ∷ [])) (append_assoc ss (path ++ body) tail ∙ ap (λ l. ss ++ l) (append_assoc path body tail)) (once-first host s.cable (ss ++ (path ++ body)) tail some whole home homes);
    }
      where
        some : ss ++ (path ++ body) ≢ []
        some e = append-none ss (one.1.0 ++ body) one.0 (ap (λ p. ss ++ (p ++ body)) (sym one.1.1) ∙ e)

        path_body : are_apart (cables_on (path ++ body)) ≡ true
        path_body = apart-join path body apart body_apart (λ k m i. none-to k (cables_on path) old new m (body_old k i))

        apart_from_there : (k : ℕ) → IsOneOf k (cables_on (s ∷ ss)) → IsOneOf k (cables_on (path ++ body)) → ⊥
        apart_from_there k m i = either (one-of-either k path body i)
          where
            either : IsOneOf k (cables_on path) ⊎ IsOneOf k (cables_on body) → ⊥
            either (inl p) = none-to k (cables_on path) old new p (in-old k (s ∷ ss) among m)
            either (inr p) = none-to k (cables_on body) (cables_on (s ∷ ss)) d p m

        whole : are_apart (s.cable ∷ cables_on (ss ++ (path ++ body))) ≡ true
        whole = apart-join (s ∷ ss) (path ++ body) a path_body apart_from_there

        mine : s.cable ≡ own.cable
        mine = out-own n host old s f own way.0 way.1

        homes : (k : ℕ) → IsOneOf k (cables_on tail) → IsOneOf k (cables_on (ss ++ (path ++ body))) → ⊥
        homes k m i = (apart-parts s.cable (cables_on (ss ++ (path ++ body))) whole).0 (subst (λ l. IsOneOf l (cables_on (ss ++ (path ++ body)))) (at tail k m home (last-step tail body end way_home)) i)
          where
            last-step : (tail body : List Step) (y : Vertex) → IsWay n y (body ++ tail) (Host h) → (x : Vertex) × IsWay n x tail (Host h)
            last-step tail [] y w = (y, w)
            last-step tail (t ∷ ts) y w = last-step tail ts t.into.v w.2

            at : (tail : List Step) (k : ℕ) → IsOneOf k (cables_on tail) → IsHomeward host tail → (x : Vertex) × IsWay n x tail (Host h) → k ≡ s.cable
            at [] k m hm w = absurd m
            at (t ∷ ts) k (inl e) hm w = e ∙ out-own n host old (turned_round t) f own (joins-back n t.cable t.out t.into w.1.0) (ap (λ (x : End). x.v) hm.0) ∙ sym mine
            at (t ∷ ts) k (inr m) hm w = absurd (subst (λ (l : List Step). IsOneOf k (cables_on l)) hm.1 m)

-- the same with other lists of the same old cables
new-same : (n : Network) (old gs : List ℕ) (x : Vertex) (ss : List Step) (z : Vertex) → ((k : ℕ) → IsOneOf k gs → IsOneOf k old) → IsNewWay n old x ss z → IsNewWay n gs x ss z
new-same n old gs x [] z some way = absurd way
new-same n old gs x (s ∷ []) z some way = way
new-same n old gs x (s ∷ t ∷ ss) z some way =
    (way.0, way.1, (λ i. way.2 (record { cable = i.cable; from = i.from; to = i.to; one_of = some i.cable i.one_of; joins = i.joins; there = i.there })), new-same n (s.cable ∷ old) (s.cable ∷ gs) s.into.v (t ∷ ss) z more way.3)
  where
    more : (k : ℕ) → IsOneOf k (s.cable ∷ gs) → IsOneOf k (s.cable ∷ old)
    more k (inl e) = inl e
    more k (inr m) = inr (some k m)

ear-same : (n : Network) (host : ℕ) (old gs : List ℕ) (ear : Ear) → ((k : ℕ) → IsOneOf k old → IsOneOf k gs) → ((k : ℕ) → IsOneOf k gs → IsOneOf k old) → IsEar n host old ear → IsEar n host gs ear
ear-same n host old gs ear on back e = record {
  start = e.start;
  end = e.end;
  last = e.last;
  there = e.there;
  across = new-same n old gs e.start ear.path e.end back e.across;
  home = e.home;
  starts = (let i = e.starts in record { cable = i.cable; from = i.from; to = i.to; one_of = on i.cable i.one_of; joins = i.joins; there = i.there });
  before_old = all-among (cables_on ear.before) old gs on e.before_old;
  after_old = all-among (cables_on ear.after) old gs on e.after_old;
  is_new = none-same (cables_on ear.path) old gs back e.is_new;
  first = e.first;
  rest = e.rest;
  begins = e.begins;
  once = e.once;
}

-- an ear over a path, in one direction or the other
pub record EarOf (n : Network) (host : ℕ) (old : List ℕ) (path : List Step) : Type 0 where
  pub ear : Ear
  pub is_ear : IsEar n host old ear
  pub path_is : (ear.path ≡ path) ⊎ (ear.path ≡ backwards path)

path-ear : (n : Network) (host : ℕ) (old : List ℕ) (path : List Step) → IsFabric n → HasOwn n host old → (p : IsPath n old path) → ((x y : Vertex) → IsTouched n old x → IsTouched n old y → HasTwo n host old x y ⊎ HasTwo n host old y x) → EarOf n host old path
path-ear n host old path f own p two = by p.ends
  where
    along : (t : HasTwo n host old p.start p.end) → EarOf n host old path
    along t = record { ear = record { before = t.there; path = path; after = t.body ++ t.tail }; is_ear = make-ear n host old p.start p.end path t.there t.body t.tail t.h f own p.across p.starts p.is_new p.apart t.way_there t.way_home t.there_among t.home_among t.there_apart t.body_apart t.disjoint t.homeward; path_is = inl refl }

    against : IsTouched n old p.end → (t : HasTwo n host old p.end p.start) → EarOf n host old path
    against here t = record {
      ear = record { before = t.there; path = backwards path; after = t.body ++ t.tail };
      is_ear = make-ear n host old p.end p.start (backwards path) t.there t.body t.tail t.h f own (new-back n old p.start path p.end here p.across) here (none-from (cables_on (backwards path)) old (λ k m i. none-to k (cables_on path) old p.is_new (back-one k path m) i)) (back-apart path p.apart) t.way_there t.way_home t.there_among t.home_among t.there_apart t.body_apart t.disjoint t.homeward;
      path_is = inr refl;
    }

    alone : (h : ℕ) → p.end ≡ Host h → HasTwo n host old p.start p.start → EarOf n host old path
    alone h e t = record { ear = record { before = t.there; path = path; after = [] ++ [] }; is_ear = make-ear n host old p.start p.end path t.there [] [] h f own p.across p.starts p.is_new p.apart t.way_there e t.there_among tt t.there_apart refl tt tt; path_is = inl refl }

    met : IsTouched n old p.end → HasTwo n host old p.start p.end ⊎ HasTwo n host old p.end p.start → EarOf n host old path
    met here (inl t) = along t
    met here (inr t) = against here t

    new : (h : ℕ) → p.end ≡ Host h → HasTwo n host old p.start p.start ⊎ HasTwo n host old p.start p.start → EarOf n host old path
    new h e (inl t) = alone h e t
    new h e (inr t) = alone h e t

    by : IsTouched n old p.end ⊎ ((h : ℕ) × (p.end ≡ Host h)) → EarOf n host old path
    by (inl here) = met here (two p.start p.end p.starts here)
    by (inr h) = new h.0 h.1 (two p.start p.start p.starts p.starts)

back-has : (k : ℕ) (ss : List Step) → IsOneOf k (cables_on ss) → IsOneOf k (cables_on (backwards ss))
back-has k [] m = m
back-has k (s ∷ ss) m = subst (IsOneOf k) (sym (cables-join (backwards ss) (turned_round s ∷ []))) (by m (back-has k ss))
  where
    by : IsOneOf k (s.cable ∷ cables_on ss) → (IsOneOf k (cables_on ss) → IsOneOf k (cables_on (backwards ss))) → IsOneOf k (cables_on (backwards ss) ++ s.cable ∷ [])
    by (inl e) rest = right-in k (cables_on (backwards ss)) (s.cable ∷ []) (inl e)
    by (inr i) rest = left-in k (cables_on (backwards ss)) (s.cable ∷ []) (rest i)

-- a path list with one path more
pub record HasOneMore (n : Network) (host : ℕ) (ps : List (List Step)) (ear : Ear) (old : List Ear) : Type 0 where
  pub returns : HasReturns n host ps
  pub is : returns.ears ≡ ear ∷ old

pub add-ear : (n : Network) (host : ℕ) (p q : List Step) (ps : List (List Step)) → HasOwn n host (cables_in (q ∷ ps)) → (e : EarOf n host (cables_in (q ∷ ps)) p) → (r : HasReturns n host (q ∷ ps)) → HasOneMore n host (p ∷ q ∷ ps) e.ear r.ears
add-ear n host p q ps o e r = by r.ears r.list r.some r.only
  where
    to-path : (k : ℕ) → (e.ear.path ≡ p) ⊎ (e.ear.path ≡ backwards p) → IsOneOf k (cables_on e.ear.path) → IsOneOf k (cables_on p)
    to-path k (inl i) m = subst (λ (l : List Step). IsOneOf k (cables_on l)) i m
    to-path k (inr i) m = back-one k p (subst (λ (l : List Step). IsOneOf k (cables_on l)) i m)

    from-path : (k : ℕ) → (e.ear.path ≡ p) ⊎ (e.ear.path ≡ backwards p) → IsOneOf k (cables_on p) → IsOneOf k (cables_on e.ear.path)
    from-path k (inl i) m = subst (λ (l : List Step). IsOneOf k (cables_on l)) (sym i) m
    from-path k (inr i) m = subst (λ (l : List Step). IsOneOf k (cables_on l)) (sym i) (back-has k p m)

    by : (es : List Ear) → IsPathList n host es → ((k : ℕ) → IsOneOf k (cables_in (q ∷ ps)) → IsOneOf k (cables_of es)) → ((k : ℕ) → IsOneOf k (cables_of es) → IsOneOf k (cables_in (q ∷ ps))) → HasOneMore n host (p ∷ q ∷ ps) e.ear es
    by [] list some only = absurd (some o.cable o.there)
    by (g ∷ es) list some only = record {
      returns = record {
        ears = e.ear ∷ g ∷ es;
        list = (ear-same n host (cables_in (q ∷ ps)) (cables_of (g ∷ es)) e.ear some only e.is_ear, list);
        some = λ k m. to k (either-in k (cables_on p) (cables_in (q ∷ ps)) m);
        only = λ k m. back k (either-in k (cables_on e.ear.path) (cables_of (g ∷ es)) m);
      };
      is = refl;
    }
      where
        to : (k : ℕ) → IsOneOf k (cables_on p) ⊎ IsOneOf k (cables_in (q ∷ ps)) → IsOneOf k (cables_of (e.ear ∷ g ∷ es))
        to k (inl m) = left-in k (cables_on e.ear.path) (cables_of (g ∷ es)) (from-path k e.path_is m)
        to k (inr m) = right-in k (cables_on e.ear.path) (cables_of (g ∷ es)) (some k m)

        back : (k : ℕ) → IsOneOf k (cables_on e.ear.path) ⊎ IsOneOf k (cables_of (g ∷ es)) → IsOneOf k (cables_in (p ∷ q ∷ ps))
        back k (inl m) = left-in k (cables_on p) (cables_in (q ∷ ps)) (to-path k e.path_is m)
        back k (inr m) = right-in k (cables_on p) (cables_in (q ∷ ps)) (only k m)

pub paths_have_returns : PathsHaveReturns
paths_have_returns n host [] f paths = absurd paths
paths_have_returns n host (p ∷ []) f paths = record {
  ears = record { before = []; path = p; after = [] } ∷ [];
  list = record { own = paths; nothing_before = refl; nothing_after = refl };
  some = λ k m. m;
  only = λ k m. m;
}
paths_have_returns n host (p ∷ q ∷ ps) f paths =
    (add-ear n host p q ps (own-old n host (q ∷ ps) paths.1) (path-ear n host (cables_in (q ∷ ps)) p f (own-old n host (q ∷ ps) paths.1) paths.0 (λ x y s t. paths_have_two_walks n host (q ∷ ps) x y paths.1 s t)) (paths_have_returns n host (q ∷ ps) f paths.1)).returns
