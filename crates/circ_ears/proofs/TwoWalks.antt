-- Any two vertices of the paths have two walks with no cable in common but the mapper's own.
use Rattle.std.proofs.Common.{◌≡◌, ℕ, List, [], ◌∷◌, ◌++◌, true, sym, ◌∙◌, subst, ap, refl, ◌⊎◌, inl, inr}
use Rattle.net_defs.specs.declared.vertex.Vertex.{Vertex}
use Rattle.net_defs.specs.declared.vertex.Vertex.TheVariants.{Host}
use Rattle.net_defs.specs.declared.vertex.End.{End}
use Rattle.net_defs.specs.Network.{Network}
use Rattle.net_defs.specs.Route.{host_port}
use Rattle.std.proofs.lemmas.List.{append_assoc}
use Rattle.circ_defs.specs.Ways.{AreAmong, AreNone, IsOneOf, IsPath, IsTouched, IsWay, Joins, Step, cables_in, cables_on}
use Rattle.circ_defs.specs.Circuit.{are_apart}
use Rattle.circ_defs.proofs.Cables.{SameCable, joins-back, same-cable}
use Rattle.circ_defs.proofs.Ways.{Split, apart-join, apart-split, back-apart, back-one, backwards, cables-join, new-way, one-of-either, split-at, way-back, way-join}
use Rattle.circ_defs.proofs.Numbers.{among-from, among-to, either-in, itself-among, left-in, none-from, none-to, right-in}
use Rattle.circ_defs.proofs.Cables.SameCable.{one_way, other_way}
use Rattle.circ_ears.specs.TwoWalks.{HasTwo, PathsHaveTwoWalks}

module _ (n : Network) (host : ℕ) (old : List ℕ) where
  -- The first walk goes on over new cables.
  abbrev pub on-there : (gs : List ℕ) (x y z : Vertex) (a : List Step) → HasTwo n host old x y → IsWay n x a z → are_apart (cables_on a) ≡ true → AreNone (cables_on a) old → ((k : ℕ) → IsOneOf k old → IsOneOf k gs) → AreAmong (cables_on a) gs → HasTwo n host gs z y
  on-there gs x y z a t way apart new some among = record {
    there = t.there ++ a;
    body = t.body;
    tail = t.tail;
    h = t.h;
    way_there = way-join n (Host host) x z t.there a t.way_there way;
    way_home = t.way_home;
    there_among = among-from (cables_on (t.there ++ a)) gs (λ k m. one k (one-of-either k t.there a m));
    home_among = among-from (cables_on (t.body ++ t.tail)) gs (λ k m. some k (among-to k (cables_on (t.body ++ t.tail)) old t.home_among m));
    there_apart = apart-join t.there a t.there_apart apart (λ k m i. none-to k (cables_on a) old new i (among-to k (cables_on t.there) old t.there_among m));
    body_apart = t.body_apart;
    disjoint = none-from (cables_on t.body) (cables_on (t.there ++ a)) (λ k m i. two k m (one-of-either k t.there a i));
    homeward = t.homeward;
  }
    where
      one : (k : ℕ) → IsOneOf k (cables_on t.there) ⊎ IsOneOf k (cables_on a) → IsOneOf k gs
      one k (inl m) = some k (among-to k (cables_on t.there) old t.there_among m)
      one k (inr m) = among-to k (cables_on a) gs among m

      body_old : (k : ℕ) → IsOneOf k (cables_on t.body) → IsOneOf k old
      body_old k m = among-to k (cables_on (t.body ++ t.tail)) old t.home_among (subst (IsOneOf k) (sym (cables-join t.body t.tail)) (left-in k (cables_on t.body) (cables_on t.tail) m))

      two : (k : ℕ) → IsOneOf k (cables_on t.body) → IsOneOf k (cables_on t.there) ⊎ IsOneOf k (cables_on a) → ⊥
      two k m (inl i) = none-to k (cables_on t.body) (cables_on t.there) t.disjoint m i
      two k m (inr i) = none-to k (cables_on a) old new i (body_old k m)

  -- The second walk comes over new cables first.
  abbrev pub before-home : (gs : List ℕ) (x y z : Vertex) (b : List Step) → HasTwo n host old x y → IsWay n z b y → are_apart (cables_on b) ≡ true → AreNone (cables_on b) old → ((k : ℕ) → IsOneOf k old → IsOneOf k gs) → AreAmong (cables_on b) gs → HasTwo n host gs x z
  before-home gs x y z b t way apart new some among = record {
    there = t.there;
    body = b ++ t.body;
    tail = t.tail;
    h = t.h;
    way_there = t.way_there;
    way_home = subst (λ l. IsWay n z l (Host t.h)) (sym (append_assoc b t.body t.tail)) (way-join n z y (Host t.h) b (t.body ++ t.tail) way t.way_home);
    there_among = among-from (cables_on t.there) gs (λ k m. some k (among-to k (cables_on t.there) old t.there_among m));
    home_among = subst (λ l. AreAmong (cables_on l) gs) (sym (append_assoc b t.body t.tail)) (among-from (cables_on (b ++ (t.body ++ t.tail))) gs (λ k m. one k (one-of-either k b (t.body ++ t.tail) m)));
    there_apart = t.there_apart;
    body_apart = apart-join b t.body apart t.body_apart (λ k m i. none-to k (cables_on b) old new m (body_old k i));
    disjoint = none-from (cables_on (b ++ t.body)) (cables_on t.there) (λ k m i. two k (one-of-either k b t.body m) i);
    homeward = t.homeward;
  }
    where
      body_old : (k : ℕ) → IsOneOf k (cables_on t.body) → IsOneOf k old
      body_old k m = among-to k (cables_on (t.body ++ t.tail)) old t.home_among (subst (IsOneOf k) (sym (cables-join t.body t.tail)) (left-in k (cables_on t.body) (cables_on t.tail) m))

      one : (k : ℕ) → IsOneOf k (cables_on b) ⊎ IsOneOf k (cables_on (t.body ++ t.tail)) → IsOneOf k gs
      one k (inl m) = among-to k (cables_on b) gs among m
      one k (inr m) = some k (among-to k (cables_on (t.body ++ t.tail)) old t.home_among m)

      two : (k : ℕ) → IsOneOf k (cables_on b) ⊎ IsOneOf k (cables_on t.body) → IsOneOf k (cables_on t.there) → ⊥
      two k (inl m) i = none-to k (cables_on b) old new m (among-to k (cables_on t.there) old t.there_among i)
      two k (inr m) i = none-to k (cables_on t.body) (cables_on t.there) t.disjoint m i

-- both walks go on over new cables
abbrev pub go-both : (n : Network) (host : ℕ) (old gs : List ℕ) (x y z w : Vertex) (a b : List Step) → HasTwo n host old x y → IsWay n x a z → IsWay n w b y → are_apart (cables_on a) ≡ true → are_apart (cables_on b) ≡ true → AreNone (cables_on a) old → AreNone (cables_on b) old → ((k : ℕ) → IsOneOf k (cables_on a) → IsOneOf k (cables_on b) → ⊥) → ((k : ℕ) → IsOneOf k old → IsOneOf k gs) → AreAmong (cables_on a) gs → AreAmong (cables_on b) gs → HasTwo n host gs z w
go-both n host old gs x y z w a b t wa wb pa pb na nb none some ga gb =
    let first = before-home n host old (cables_on b ++ old) x y w b t wb pb nb (λ k m. right-in k (cables_on b) old m) (itself-among (cables_on b) old) in
    on-there n host (cables_on b ++ old) gs x w z a first wa pa (none-from (cables_on a) (cables_on b ++ old) (λ k m i. by k m (either-in k (cables_on b) old i))) (λ k m. one k (either-in k (cables_on b) old m)) ga
  where
    by : (k : ℕ) → IsOneOf k (cables_on a) → IsOneOf k (cables_on b) ⊎ IsOneOf k old → ⊥
    by k m (inl i) = none k m i
    by k m (inr i) = none-to k (cables_on a) old na m i

    one : (k : ℕ) → IsOneOf k (cables_on b) ⊎ IsOneOf k old → IsOneOf k gs
    one k (inl m) = among-to k (cables_on b) gs gb m
    one k (inr m) = some k m

-- the first walk goes on over new cables, and others lead to a host
abbrev pub to-host : (n : Network) (host : ℕ) (old gs : List ℕ) (x y z w : Vertex) (a d : List Step) (h : ℕ) → HasTwo n host old x y → IsWay n x a z → IsWay n w d (Host h) → are_apart (cables_on a) ≡ true → are_apart (cables_on d) ≡ true → AreNone (cables_on a) old → AreNone (cables_on d) old → ((k : ℕ) → IsOneOf k (cables_on a) → IsOneOf k (cables_on d) → ⊥) → ((k : ℕ) → IsOneOf k old → IsOneOf k gs) → AreAmong (cables_on a) gs → AreAmong (cables_on d) gs → HasTwo n host gs z w
to-host n host old gs x y z w a d h t wa wd pa pd na nd none some ga gd = record {
  there = t.there ++ a;
  body = d;
  tail = [];
  h = h;
  way_there = way-join n (Host host) x z t.there a t.way_there wa;
  way_home = way-join n w (Host h) (Host h) d [] wd refl;
  there_among = among-from (cables_on (t.there ++ a)) gs (λ k m. one k (one-of-either k t.there a m));
  home_among = among-from (cables_on (d ++ [])) gs (λ k m. two k (one-of-either k d [] m));
  there_apart = apart-join t.there a t.there_apart pa (λ k m i. none-to k (cables_on a) old na i (among-to k (cables_on t.there) old t.there_among m));
  body_apart = pd;
  disjoint = none-from (cables_on d) (cables_on (t.there ++ a)) (λ k m i. three k m (one-of-either k t.there a i));
  homeward = tt;
}
  where
    one : (k : ℕ) → IsOneOf k (cables_on t.there) ⊎ IsOneOf k (cables_on a) → IsOneOf k gs
    one k (inl m) = some k (among-to k (cables_on t.there) old t.there_among m)
    one k (inr m) = among-to k (cables_on a) gs ga m

    two : (k : ℕ) → IsOneOf k (cables_on d) ⊎ IsOneOf k [] → IsOneOf k gs
    two k (inl m) = among-to k (cables_on d) gs gd m
    two k (inr m) = absurd m

    three : (k : ℕ) → IsOneOf k (cables_on d) → IsOneOf k (cables_on t.there) ⊎ IsOneOf k (cables_on a) → ⊥
    three k m (inl i) = none-to k (cables_on d) old nd m (among-to k (cables_on t.there) old t.there_among i)
    three k m (inr i) = none k i m

-- two cuts of one list
pub data Cuts (a b c d : List Step) : Type 0 where
  first_before : (e : List Step) → c ≡ a ++ e → b ≡ e ++ d → Cuts a b c d
  second_before : (e : List Step) → a ≡ c ++ e → d ≡ e ++ b → Cuts a b c d

pub two-cuts : (a b c d : List Step) → a ++ b ≡ c ++ d → Cuts a b c d
two-cuts [] b c d e = first_before c refl e
two-cuts (s ∷ a) b [] d e = second_before (s ∷ a) refl (sym e)
two-cuts (s ∷ a) b (t ∷ c) d e =
    let head : s ≡ t = cc in
    let tail : a ++ b ≡ c ++ d = cc in
    by head (two-cuts a b c d tail)
  where
    by : s ≡ t → Cuts a b c d → Cuts (s ∷ a) b (t ∷ c) d
    by h (first_before u p q) = first_before u (ap (λ l. t ∷ l) p ∙ ap (λ x. x ∷ (a ++ u)) (sym h)) q
    by h (second_before u p q) = second_before u (ap (λ l. s ∷ l) p ∙ ap (λ x. x ∷ (c ++ u)) h) q

-- where the ends of the mapper's cable are
pub own-end : (n : Network) (host k : ℕ) (into : End) (x : Vertex) → Joins n k (host_port host) into → IsTouched n (k ∷ []) x → (x ≡ Host host) ⊎ (x ≡ into.v)
own-end n host k into x joins t = by t.one_of
  where
    ends : SameCable t.from t.to (host_port host) into → (x ≡ Host host) ⊎ (x ≡ into.v)
    ends (one_way p q) = inl (sym t.there ∙ ap (λ (e : End). e.v) p)
    ends (other_way p q) = inr (sym t.there ∙ ap (λ (e : End). e.v) p)

    by : IsOneOf t.cable (k ∷ []) → (x ≡ Host host) ⊎ (x ≡ into.v)
    by (inl e) = ends (same-cable n k t.from t.to (host_port host) into (subst (λ i. Joins n i t.from t.to) e t.joins) joins)
    by (inr i) = absurd i

abbrev pub own-two : (n : Network) (host k : ℕ) (into : End) (x y : Vertex) → Joins n k (host_port host) into → (x ≡ Host host) ⊎ (x ≡ into.v) → (y ≡ Host host) ⊎ (y ≡ into.v) → HasTwo n host (k ∷ []) x y
own-two n host k into x y joins (inl p) (inl q) = record { there = []; body = []; tail = []; h = host; way_there = sym p; way_home = q; there_among = tt; home_among = tt; there_apart = refl; body_apart = refl; disjoint = tt; homeward = tt }
own-two n host k into x y joins (inl p) (inr q) = record { there = []; body = []; tail = record { cable = k; out = into; into = host_port host } ∷ []; h = host; way_there = sym p; way_home = (joins-back n k (host_port host) into joins, sym q, refl); there_among = tt; home_among = (inl refl, tt); there_apart = refl; body_apart = refl; disjoint = tt; homeward = (refl, refl) }
own-two n host k into x y joins (inr p) (inl q) = record { there = record { cable = k; out = host_port host; into = into } ∷ []; body = []; tail = []; h = host; way_there = (joins, refl, sym p); way_home = q; there_among = (inl refl, tt); home_among = tt; there_apart = refl; body_apart = refl; disjoint = tt; homeward = tt }
own-two n host k into x y joins (inr p) (inr q) = record { there = record { cable = k; out = host_port host; into = into } ∷ []; body = []; tail = record { cable = k; out = into; into = host_port host } ∷ []; h = host; way_there = (joins, refl, sym p); way_home = (joins-back n k (host_port host) into joins, sym q, refl); there_among = (inl refl, tt); home_among = (inl refl, tt); there_apart = refl; body_apart = refl; disjoint = tt; homeward = (refl, refl) }

-- a vertex is touched by the path or by old cables
data Where (n : Network) (start end : Vertex) (path : List Step) (old : List ℕ) (x : Vertex) : Type 0 where
  on_path : Split n start x end path → Where n start end path old x
  on_old : IsTouched n old x → Where n start end path old x

where-is : (n : Network) (start end : Vertex) (path : List Step) (old : List ℕ) (x : Vertex) → IsWay n start path end → IsTouched n (cables_on path ++ old) x → Where n start end path old x
where-is n start end path old x way t = by (either-in t.cable (cables_on path) old t.one_of)
  where
    by : IsOneOf t.cable (cables_on path) ⊎ IsOneOf t.cable old → Where n start end path old x
    by (inl m) = on_path (subst (λ y. Split n start y end path) t.there (split-at n start end path t.cable t.to t.from way m (joins-back n t.cable t.from t.to t.joins)))
    by (inr m) = on_old (record { cable = t.cable; from = t.from; to = t.to; one_of = m; joins = t.joins; there = t.there })

abbrev Either : Network → ℕ → List ℕ → Vertex → Vertex → Type 0
Either n host gs x y = HasTwo n host gs x y ⊎ HasTwo n host gs y x

swap : (n : Network) (host : ℕ) (gs : List ℕ) (x y : Vertex) → Either n host gs x y → Either n host gs y x
swap n host gs x y (inl t) = inr t
swap n host gs x y (inr t) = inl t

pub none-part : (ss ts : List Step) (old : List ℕ) → AreNone (cables_on (ss ++ ts)) old → AreNone (cables_on ss) old × AreNone (cables_on ts) old
none-part ss ts old a = (
  none-from (cables_on ss) old (λ k m i. none-to k (cables_on (ss ++ ts)) old a (subst (IsOneOf k) (sym (cables-join ss ts)) (left-in k (cables_on ss) (cables_on ts) m)) i),
  none-from (cables_on ts) old (λ k m i. none-to k (cables_on (ss ++ ts)) old a (subst (IsOneOf k) (sym (cables-join ss ts)) (right-in k (cables_on ss) (cables_on ts) m)) i),
)

module _ (n : Network) (host : ℕ) (old : List ℕ) (path : List Step) (e : IsPath n old path) (before : (x y : Vertex) → IsTouched n old x → IsTouched n old y → Either n host old x y) where
  gs : List ℕ
  gs = cables_on path ++ old

  way : IsWay n e.start path e.end
  way = new-way n old e.start path e.end e.across

  some : (k : ℕ) → IsOneOf k old → IsOneOf k (cables_on path ++ old)
  some k m = right-in k (cables_on path) old m

  -- a part of the path
  pub record Part (a : List Step) : Type 0 where
    pub apart : are_apart (cables_on a) ≡ true
    pub new : AreNone (cables_on a) old
    pub among : AreAmong (cables_on a) (cables_on path ++ old)

  pub parts : (a b : List Step) → a ++ b ≡ path → Part a × Part b × ((k : ℕ) → IsOneOf k (cables_on a) → IsOneOf k (cables_on b) → ⊥)
  parts a b whole =
      let cut = apart-split a b (ap (λ (l : List Step). are_apart (cables_on l)) whole ∙ e.apart) in
      let new = none-part a b old (subst (λ (l : List Step). AreNone (cables_on l) old) (sym whole) e.is_new) in (
        record { apart = cut.first; new = new.0; among = among-from (cables_on a) (cables_on path ++ old) (λ k m. left-in k (cables_on path) old (subst (λ (l : List Step). IsOneOf k (cables_on l)) whole (subst (IsOneOf k) (sym (cables-join a b)) (left-in k (cables_on a) (cables_on b) m)))) },
        record { apart = cut.second; new = new.1; among = among-from (cables_on b) (cables_on path ++ old) (λ k m. left-in k (cables_on path) old (subst (λ (l : List Step). IsOneOf k (cables_on l)) whole (subst (IsOneOf k) (sym (cables-join a b)) (right-in k (cables_on a) (cables_on b) m)))) },
        cut.none,
      )

  -- read backwards
  pub back-part : (a : List Step) → Part a → Part (backwards a)
  back-part a p = record {
    apart = back-apart a p.apart;
    new = none-from (cables_on (backwards a)) old (λ k m i. none-to k (cables_on a) old p.new (back-one k a m) i);
    among = among-from (cables_on (backwards a)) (cables_on path ++ old) (λ k m. among-to k (cables_on a) (cables_on path ++ old) p.among (back-one k a m));
  }

  path-old : (x y : Vertex) → Split n e.start x e.end path → IsTouched n old y → Either n host (cables_on path ++ old) x y
  path-old x y c t = by (before e.start y e.starts t)
    where
      p : Part c.first
      p = (parts c.first c.rest c.whole).0

      q : Part (backwards c.first)
      q = back-part c.first p

      by : Either n host old e.start y → Either n host (cables_on path ++ old) x y
      by (inl u) = inl (on-there n host old (cables_on path ++ old) e.start y x c.first u c.there p.apart p.new some p.among)
      by (inr u) = inr (before-home n host old (cables_on path ++ old) y e.start x (backwards c.first) u (way-back n e.start x c.first c.there) q.apart q.new some q.among)

  -- two vertices of the path, the first before the second
  path-path : (x y : Vertex) (a d : List Step) → IsWay n e.start a x → IsWay n y d e.end → Part a → Part d → ((k : ℕ) → IsOneOf k (cables_on a) → IsOneOf k (cables_on d) → ⊥) → Either n host (cables_on path ++ old) x y
  path-path x y a d wa wd pa pd none = by e.ends
    where
      qa : Part (backwards a)
      qa = back-part a pa

      qd : Part (backwards d)
      qd = back-part d pd

      old_end : Either n host old e.start e.end → Either n host (cables_on path ++ old) x y
      old_end (inl t) = inl (go-both n host old (cables_on path ++ old) e.start e.end x y a d t wa wd pa.apart pd.apart pa.new pd.new none some pa.among pd.among)
      old_end (inr t) = inr (go-both n host old (cables_on path ++ old) e.end e.start y x (backwards d) (backwards a) t (way-back n y e.end d wd) (way-back n e.start x a wa) qd.apart qa.apart qd.new qa.new (λ k m i. none k (back-one k a i) (back-one k d m)) some qd.among qa.among)

      new_end : (h : ℕ) → e.end ≡ Host h → HasTwo n host old e.start e.start → HasTwo n host (cables_on path ++ old) x y
      new_end h p t = to-host n host old (cables_on path ++ old) e.start e.start x y a d h t wa (subst (IsWay n y d) p wd) pa.apart pd.apart pa.new pd.new none some pa.among pd.among

      host_end : (h : ℕ) → e.end ≡ Host h → Either n host old e.start e.start → Either n host (cables_on path ++ old) x y
      host_end h p (inl t) = inl (new_end h p t)
      host_end h p (inr t) = inl (new_end h p t)

      by : IsTouched n old e.end ⊎ ((h : ℕ) × (e.end ≡ Host h)) → Either n host (cables_on path ++ old) x y
      by (inl t) = old_end (before e.start e.end e.starts t)
      by (inr h) = host_end h.0 h.1 (before e.start e.start e.starts e.starts)

  both-on : (x y : Vertex) → (c : Split n e.start x e.end path) → (g : Split n e.start y e.end path) → Cuts c.first c.rest g.first g.rest → Either n host (cables_on path ++ old) x y
  both-on x y c g (first_before u p q) =
      let whole : c.first ++ (u ++ g.rest) ≡ path = ap (λ l. c.first ++ l) (sym q) ∙ c.whole in
      let two = parts c.first (u ++ g.rest) whole in
      let three = parts g.first g.rest g.whole in
      path-path x y c.first g.rest c.there g.on two.0 three.1 (λ i m o. two.2 i m (subst (IsOneOf i) (sym (cables-join u g.rest)) (right-in i (cables_on u) (cables_on g.rest) o)))
  both-on x y c g (second_before u p q) =
      let whole : g.first ++ (u ++ c.rest) ≡ path = ap (λ l. g.first ++ l) (sym q) ∙ g.whole in
      let two = parts g.first (u ++ c.rest) whole in
      let three = parts c.first c.rest c.whole in
      swap n host (cables_on path ++ old) y x (path-path y x g.first c.rest g.there c.on two.0 three.1 (λ i m o. two.2 i m (subst (IsOneOf i) (sym (cables-join u c.rest)) (right-in i (cables_on u) (cables_on c.rest) o))))

  pub one-path-more : (x y : Vertex) → IsTouched n (cables_on path ++ old) x → IsTouched n (cables_on path ++ old) y → Either n host (cables_on path ++ old) x y
  one-path-more x y s t = by (where-is n e.start e.end path old x way s) (where-is n e.start e.end path old y way t)
    where
      olds : (x y : Vertex) → Either n host old x y → Either n host (cables_on path ++ old) x y
      olds x y (inl u) = inl (on-there n host old (cables_on path ++ old) x y x [] u refl refl tt some tt)
      olds x y (inr u) = inr (on-there n host old (cables_on path ++ old) y x y [] u refl refl tt some tt)

      by : Where n e.start e.end path old x → Where n e.start e.end path old y → Either n host (cables_on path ++ old) x y
      by (on_old a) (on_old b) = olds x y (before x y a b)
      by (on_path c) (on_old b) = path-old x y c b
      by (on_old a) (on_path g) = swap n host (cables_on path ++ old) y x (path-old y x g a)
      by (on_path c) (on_path g) = both-on x y c g (two-cuts c.first c.rest g.first g.rest (c.whole ∙ sym g.whole))

pub paths_have_two_walks : PathsHaveTwoWalks
paths_have_two_walks n host [] x y paths s t = absurd paths
paths_have_two_walks n host (p ∷ []) x y paths s t = by (cables_on p ++ []) p refl paths.is s t
  where
    by : (gs : List ℕ) (q : List Step) → gs ≡ cables_on q ++ [] → q ≡ record { cable = paths.cable; out = host_port host; into = paths.into } ∷ [] → IsTouched n gs x → IsTouched n gs y → HasTwo n host gs x y ⊎ HasTwo n host gs y x
    by gs q e f s t =
        let own : gs ≡ paths.cable ∷ [] = e ∙ ap (λ (l : List Step). cables_on l ++ []) f in
        let a = own-end n host paths.cable paths.into x paths.joins (subst (λ l. IsTouched n l x) own s) in
        let b = own-end n host paths.cable paths.into y paths.joins (subst (λ l. IsTouched n l y) own t) in
        inl (subst (λ l. HasTwo n host l x y) (sym own) (own-two n host paths.cable paths.into x y paths.joins a b))
paths_have_two_walks n host (p ∷ q ∷ ps) x y paths s t =
    one-path-more n host (cables_in (q ∷ ps)) p paths.0 (λ v w. paths_have_two_walks n host (q ∷ ps) v w paths.1) x y s t
