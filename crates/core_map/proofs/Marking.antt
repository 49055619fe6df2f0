-- Marks of vertices: of two lists together, of none, and whether one of them is a host.
use Rattle.std.proofs.Common.{◌≡◌, ◌<◌, ◌≤◌, ℕ, zero, suc, List, [], ◌∷◌, ◌++◌, map, length, replicate, get_or, Bool, true, false, not, ◌&&◌, ◌||◌, Some, is_some, refl, ap, sym, ◌∙◌, subst, true≢false, arith, nat_eq, if◌then◌else◌, ◌⊎◌, inl, inr}
use Rattle.std.specs.Prelude.{slice_get}
use Rattle.std.specs.List.{AllByRecursion, list_any}
use Rattle.std.proofs.lemmas.Bool.{false≢true, or_cases, cases_order}
use Rattle.std.proofs.lemmas.Bool.Decides.{Decides-eqb}
use Rattle.std.proofs.lemmas.List.{ext_get_or, get_or-replicate, length-replicate}
use Rattle.journal_defs.specs.Counting.{numbers_below}
use Rattle.journal_defs.specs.Edges.{is_among}
use Rattle.journal_defs.proofs.Reach.{among-parts, among-self}
use Rattle.map_defs.specs.declared.vertex.MapCable.{MapCable}
use Rattle.map_defs.specs.NetMap.{NetMap, IsMap, host_of_vertex, is_switch_vertex}
use Rattle.map_defs.specs.Core.{side, is_hostless, hostless_side, cut_off, cut_off_by, is_outside, core_of}
use Rattle.core_map.specs.Marks.{marks_of, either, outside_of}
use Rattle.core_map.proofs.Sides.{map-at, long-numbers, side-low}

-- marks of either of two lists are those of both together
either-map : (p q : ℕ → Bool) (ns : List ℕ) → either (map p ns) (map q ns) ≡ map (λ u. p u || q u) ns
either-map p q [] = refl
either-map p q (n ∷ ns) = ap (λ l. (p n || q n) ∷ l) (either-map p q ns)

pub among-both : (xs ys : List ℕ) (u : ℕ) → is_among nat_eq (xs ++ ys) u ≡ (is_among nat_eq xs u || is_among nat_eq ys u)
among-both [] ys u = refl
among-both (x ∷ xs) ys u = by (nat_eq u x) (among-both xs ys u)
  where
    by : (b : Bool) → is_among nat_eq (xs ++ ys) u ≡ (is_among nat_eq xs u || is_among nat_eq ys u) → (b || is_among nat_eq (xs ++ ys) u) ≡ ((b || is_among nat_eq xs u) || is_among nat_eq ys u)
    by true e = refl
    by false e = e

map-alike : (f g : ℕ → Bool) (ns : List ℕ) → ((u : ℕ) → f u ≡ g u) → map f ns ≡ map g ns
map-alike f g [] same = refl
map-alike f g (n ∷ ns) same = λ i. same n i ∷ map-alike f g ns same i

pub either-marks : (m : NetMap) (xs ys : List ℕ) → either (marks_of m xs) (marks_of m ys) ≡ marks_of m (xs ++ ys)
either-marks m xs ys =
    either-map (is_among nat_eq xs) (is_among nat_eq ys) (numbers_below (length m.vertices))
    ∙ map-alike (λ u. is_among nat_eq xs u || is_among nat_eq ys u) (is_among nat_eq (xs ++ ys)) (numbers_below (length m.vertices)) (λ u. sym (among-both xs ys u))

pub no_marks : (m : NetMap) → replicate (length m.vertices) false ≡ marks_of m []
no_marks m =
    ext_get_or false (replicate (length m.vertices) false) (marks_of m []) (length-replicate (length m.vertices) false ∙ sym (long-numbers (λ u. false) (length m.vertices)))
    (λ u l. (let long = length-replicate {A = Bool} (length m.vertices) false in let k : u < length m.vertices = omega arith in get_or-replicate (length m.vertices) u false false k ∙ sym (map-at (λ u. false) (length m.vertices) u false k)))

pub long-marks : (m : NetMap) (vs : List ℕ) → length (marks_of m vs) ≡ length m.vertices
long-marks m vs = long-numbers (is_among nat_eq vs) (length m.vertices)

-- either at a place
pub either-at : (bs cs : List Bool) (k : ℕ) → length bs ≡ length cs → get_or (either bs cs) k false ≡ (get_or bs k false || get_or cs k false)
either-at [] [] k l = refl
either-at [] (c ∷ cs) k l = absurd (omega arith)
either-at (b ∷ bs) [] k l = absurd (omega arith)
either-at (b ∷ bs) (c ∷ cs) zero l = refl
either-at (b ∷ bs) (c ∷ cs) (suc k) l = either-at bs cs k (omega arith)

pub either-long : (bs cs : List Bool) → length bs ≡ length cs → length (either bs cs) ≡ length bs
either-long [] [] l = refl
either-long [] (c ∷ cs) l = absurd (omega arith)
either-long (b ∷ bs) [] l = absurd (omega arith)
either-long (b ∷ bs) (c ∷ cs) l = ap suc (either-long bs cs (omega arith))

-- a marked vertex
pub marked-among : (m : NetMap) (vs : List ℕ) (u : ℕ) → get_or (marks_of m vs) u false ≡ true → is_among nat_eq vs u ≡ true
marked-among m vs u e = by (cases_order u (length m.vertices))
  where
    past : (f : ℕ → Bool) (n k : ℕ) → n ≤ k → get_or (map f (numbers_below n)) k false ≡ false
    past f n k l = outside (map f (numbers_below n)) k (let long = long-numbers f n in let h : length (map f (numbers_below n)) ≤ k = omega arith in h)
      where
        outside : (bs : List Bool) (i : ℕ) → length bs ≤ i → get_or bs i false ≡ false
        outside [] i h = refl
        outside (b ∷ bs) zero h = absurd (omega arith)
        outside (b ∷ bs) (suc i) h = outside bs i (omega arith)

    by : (u ≡ length m.vertices) ⊎ ((u < length m.vertices) ⊎ (length m.vertices < u)) → is_among nat_eq vs u ≡ true
    by (inl p) = absurd (false≢true (sym (past (is_among nat_eq vs) (length m.vertices) u (let h : length m.vertices ≤ u = omega arith in h)) ∙ e))
    by (inr (inl l)) = sym (map-at (is_among nat_eq vs) (length m.vertices) u false l) ∙ e
    by (inr (inr l)) = absurd (false≢true (sym (past (is_among nat_eq vs) (length m.vertices) u (let h : length m.vertices ≤ u = omega arith in h)) ∙ e))

-- a list without hosts, by its marks
pub any-none : (test : ℕ → Bool) (vs ws : List ℕ) → ((u : ℕ) → is_among nat_eq vs u ≡ true → is_among nat_eq ws u ≡ true) → ((u : ℕ) → is_among nat_eq ws u ≡ true → test u ≡ false) → list_any test vs ≡ false
any-none test [] ws sub none = refl
any-none test (v ∷ vs) ws sub none =
    by (test v) (none v (sub v (among-self nat_eq Decides-eqb v vs))) (any-none test vs ws (λ u e. sub u (more u e)) none)
  where
    more : (u : ℕ) → is_among nat_eq vs u ≡ true → (nat_eq u v || is_among nat_eq vs u) ≡ true
    more u e = rw e (or-true (nat_eq u v))
      where
        or-true : (b : Bool) → (b || true) ≡ true
        or-true true = refl
        or-true false = refl

    by : (b : Bool) → b ≡ false → list_any test vs ≡ false → (b || list_any test vs) ≡ false
    by true e rest = absurd (true≢false e)
    by false e rest = rest

pub any-some : (test : ℕ → Bool) (vs : List ℕ) (u : ℕ) → is_among nat_eq vs u ≡ true → test u ≡ true → list_any test vs ≡ true
any-some test [] u e t = absurd (false≢true e)
any-some test (v ∷ vs) u e t = by (among-parts nat_eq Decides-eqb u v vs e) (any-some test vs u)
  where
    right : (a b : Bool) → b ≡ true → (a || b) ≡ true
    right true b p = refl
    right false b p = p

    by : (u ≡ v) ⊎ (is_among nat_eq vs u ≡ true) → (is_among nat_eq vs u ≡ true → test u ≡ true → list_any test vs ≡ true) → list_any test (v ∷ vs) ≡ true
    by (inl p) rest = rw (sym (ap test p) ∙ t) refl
    by (inr p) rest = right (test v) (list_any test vs) (rest p t)

pub hostless-by_marks : (m : NetMap) (vs : List ℕ) (bs : List Bool) → ((u : ℕ) → is_among nat_eq vs u ≡ true → u < length m.vertices) → bs ≡ marks_of m vs → ((u : ℕ) → get_or bs u false ≡ true → is_some (host_of_vertex m u) ≡ false) → is_hostless m vs ≡ true
hostless-by_marks m vs bs low e none =
    ap not (any-none (λ v. is_some (host_of_vertex m v)) vs vs (λ u a. a) (λ u a. none u (ap (λ l. get_or l u false) e ∙ map-at (is_among nat_eq vs) (length m.vertices) u false (low u a) ∙ a)))

pub host-by_marks : (m : NetMap) (vs : List ℕ) (bs : List Bool) (u : ℕ) → bs ≡ marks_of m vs → get_or bs u false ≡ true → is_some (host_of_vertex m u) ≡ true → is_hostless m vs ≡ false
host-by_marks m vs bs u e marked host = ap not (any-some (λ v. is_some (host_of_vertex m v)) vs u (marked-among m vs u (ap (λ l. get_or l u false) (sym e) ∙ marked)) host)

-- a list has a mark where it isn't empty
pub any-mark : (m : NetMap) (vs : List ℕ) → ((u : ℕ) → is_among nat_eq vs u ≡ true → u < length m.vertices) → list_any (λ b. b) (marks_of m vs) ≡ list_any (λ v. true) vs
any-mark m [] low = none (numbers_below (length m.vertices))
  where
    none : (ns : List ℕ) → list_any (λ b. b) (map (λ u. false) ns) ≡ false
    none [] = refl
    none (n ∷ ns) = none ns
any-mark m (v ∷ vs) low = here (marks_of m (v ∷ vs)) v (map-at (is_among nat_eq (v ∷ vs)) (length m.vertices) v false (low v (among-self nat_eq Decides-eqb v vs)) ∙ among-self nat_eq Decides-eqb v vs)
  where
    here : (bs : List Bool) (k : ℕ) → get_or bs k false ≡ true → list_any (λ b. b) bs ≡ true
    here [] k e = absurd (false≢true e)
    here (b ∷ bs) zero e = rw e refl
    here (true ∷ bs) (suc k) e = refl
    here (false ∷ bs) (suc k) e = here bs k e

-- what a cable cuts off are vertices of the map
pub hostless-low : (m : NetMap) (k v : ℕ) → IsMap m → v < length m.vertices → (u : ℕ) → is_among nat_eq (hostless_side m k v) u ≡ true → u < length m.vertices
hostless-low m k v r l u e = by (is_hostless m (side m k v)) e
  where
    by : (b : Bool) → is_among nat_eq (if b then side m k v else []) u ≡ true → u < length m.vertices
    by true f = side-low m k v u r l f
    by false f = absurd (false≢true f)

pub cut-low : (m : NetMap) (k : ℕ) (c : MapCable) → IsMap m → c.v < length m.vertices → c.w < length m.vertices → slice_get m.cables k ≡ Some c → (u : ℕ) → is_among nat_eq (cut_off_by m k) u ≡ true → u < length m.vertices
cut-low m k c r lv lw there u e = by (is_switch_vertex m c.v && is_switch_vertex m c.w) (ap (λ o. is_among nat_eq (cut_off m k o) u) (sym there) ∙ e)
  where
    by : (b : Bool) → is_among nat_eq (if b then hostless_side m k c.v ++ hostless_side m k c.w else []) u ≡ true → u < length m.vertices
    by true f = two (or_cases (is_among nat_eq (hostless_side m k c.v) u) (is_among nat_eq (hostless_side m k c.w) u) (sym (among-both (hostless_side m k c.v) (hostless_side m k c.w) u) ∙ f))
      where
        two : (is_among nat_eq (hostless_side m k c.v) u ≡ true) ⊎ (is_among nat_eq (hostless_side m k c.w) u ≡ true) → u < length m.vertices
        two (inl p) = hostless-low m k c.v r lv u p
        two (inr p) = hostless-low m k c.w r lw u p
    by false f = absurd (false≢true f)

map-map : (f : Bool → Bool) (g : ℕ → Bool) (ns : List ℕ) → map f (map g ns) ≡ map (λ u. f (g u)) ns
map-map f g [] = refl
map-map f g (n ∷ ns) = ap (λ l. f (g n) ∷ l) (map-map f g ns)

pub core-found : (m : NetMap) → map not (outside_of m) ≡ core_of m
core-found m = map-map not (is_outside m) (numbers_below (length m.vertices))

-- both vertices of the cable at a place
pub cable-low : (n : ℕ) (cs : List MapCable) (k : ℕ) (c : MapCable) → AllByRecursion (λ c. (c.v < n) × (c.w < n)) cs → slice_get cs k ≡ Some c → (c.v < n) × (c.w < n)
cable-low n [] k c all e = cc
cable-low n (x ∷ cs) zero c all e = let one : x ≡ c = cc in subst (λ (y : MapCable). (y.v < n) × (y.w < n)) one all.0
cable-low n (x ∷ cs) (suc k) c all e = cable-low n cs k c all.1 e
