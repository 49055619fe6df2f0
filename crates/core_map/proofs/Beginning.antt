-- Links, where the walk begins, and what it has met in the end.
use Rattle.std.proofs.Common.{◌≡◌, ◌≢◌, ◌<◌, ◌≤◌, ◌+◌, ℕ, zero, suc, List, [], ◌∷◌, ◌++◌, length, length-append, get_or, map, Bool, true, false, Some, is_some, refl, ap, sym, ◌∙◌, subst, arith, nat_eq, if◌then◌else◌, get_or-set_same, ◌⊎◌, inl, inr}
use Rattle.std.specs.Prelude.{slice_get, slice_index_or, slice_set}
use Rattle.std.proofs.Math.ListN.{length-set}
use Rattle.std.proofs.lemmas.List.{get_or-set_other, get_or_append_left}
use Rattle.std.proofs.lemmas.Bool.{false≢true, cases_order}
use Rattle.std.proofs.lemmas.Bool.Decides.{Decides-eqb}
use Rattle.std.proofs.lemmas.Option.{slice_get_within}
use Rattle.journal_defs.specs.Counting.{numbers_below}
use Rattle.map_defs.specs.declared.vertex.MapVertex.{MapVertex}
use Rattle.map_defs.specs.declared.vertex.MapCable.{MapCable}
use Rattle.map_defs.specs.NetMap.{NetMap, IsMap, host_of_vertex, host_at}
use Rattle.core_map.specs.declared.walk.Step.{Step}
use Rattle.core_map.specs.Lasting.{IsJoinedBy, Lasts}
use Rattle.core_map.specs.Walking.{Links, AreLinked, IsLastAt, EndsAt, with_before, with_last, AreSources, with_source, host_number, WalkState, IsWalk, IsWalked, IsDone, IsOnPath, AreSeen, HasGrown, number_in}
use Rattle.core_map.specs.Hanging.{AreUnwalked, with_unmet}
use Rattle.core_map.specs.Marks.{marks_of}
use Rattle.core_map.proofs.Leaning.{lasts-beside}
use Rattle.core_map.proofs.Marking.{long-marks, marked-among}
use Rattle.core_map.proofs.Sides.{map-at, long-numbers}
use Rattle.core_map.proofs.Spreading.{set-at}
use Rattle.core_map.proofs.Stepping.{joined-first, joined-second, joined-here, joined-number, same-ends}

-- ---- numbers past the end
past : (ns : List ℕ) (k : ℕ) → length ns ≤ k → get_or ns k 0 ≡ 0
past [] k l = refl
past (n ∷ ns) zero l = absurd (omega arith)
past (n ∷ ns) (suc k) l = past ns k (omega arith)

get-end : (ns : List ℕ) (n : ℕ) → get_or (ns ++ n ∷ []) (length ns) 0 ≡ n
get-end [] n = refl
get-end (x ∷ ns) n = get-end ns n

same-cable : (cs : List MapCable) (i : ℕ) (c d : MapCable) → slice_get cs i ≡ Some c → slice_get cs i ≡ Some d → c ≡ d
same-cable cs i c d a b = let both : Some c ≡ Some d = sym a ∙ b in cc

-- ---- links
pub next-linked : (m : NetMap) (ls : Links) (i : ℕ) (c : MapCable) → c.v < length m.vertices → c.w < length m.vertices → slice_get m.cables i ≡ Some c → AreLinked m ls i
    → AreLinked m (with_last (with_before ls (slice_index_or ls.last c.v 0) (slice_index_or ls.last c.w 0)) c i) (i + 1)
next-linked m ls i c lv lw there a = record {
  is_map = a.is_map;
  long = length-set (slice_set ls.last c.v (i + 1)) c.w (i + 1) ∙ length-set ls.last c.v (i + 1) ∙ a.long;
  long_firsts = length-append ls.firsts (slice_index_or ls.last c.v 0 ∷ []) ∙ ap (λ n. n + 1) a.long_firsts;
  long_seconds = length-append ls.seconds (slice_index_or ls.last c.w 0 ∷ []) ∙ ap (λ n. n + 1) a.long_seconds;
  last = λ v l. last v l (nat_eq v c.w) (nat_eq v c.v) refl refl;
  firsts = λ j d l e. first j d e (cases_order j i) l;
  seconds = λ j d l e. second j d e (cases_order j i) l;
}
  where
    top : (v : ℕ) → EndsAt m i v → slice_index_or (slice_set (slice_set ls.last c.v (i + 1)) c.w (i + 1)) v 0 ≡ i + 1 → IsLastAt m v (i + 1) (slice_index_or (slice_set (slice_set ls.last c.v (i + 1)) c.w (i + 1)) v 0)
    top v s e = record {
      below = (omega (arith, e));
      ends = λ j f. subst (λ n. EndsAt m n v) (let g : i ≡ j = omega (arith, e, f) in g) s;
      none = λ j l h k. absurd (omega (arith, l, h, e));
    }

    last : (v : ℕ) → v < length m.vertices → (b d : Bool) → nat_eq v c.w ≡ b → nat_eq v c.v ≡ d → IsLastAt m v (i + 1) (slice_index_or (slice_set (slice_set ls.last c.v (i + 1)) c.w (i + 1)) v 0)
    last v l true d e f =
        let same : v ≡ c.w = (Decides-eqb v c.w).0 e in
        top v (record { other = c.v; joined = record { cable = c; there = there; ends = inr (sym same, refl) } })
        (ap (λ x. slice_index_or (slice_set (slice_set ls.last c.v (i + 1)) c.w (i + 1)) x 0) same ∙ get_or-set_same (slice_set ls.last c.v (i + 1)) c.w (i + 1) 0 (let k = length-set ls.last c.v (i + 1) in let h = a.long in omega (arith, k, h, lw)))
    last v l false true e f =
        let same : v ≡ c.v = (Decides-eqb v c.v).0 f in
        top v (record { other = c.w; joined = record { cable = c; there = there; ends = inl (sym same, refl) } })
        (get_or-set_other (slice_set ls.last c.v (i + 1)) c.w v (i + 1) 0 (λ g. false≢true (sym e ∙ (Decides-eqb v c.w).1 g)) ∙ ap (λ x. slice_index_or (slice_set ls.last c.v (i + 1)) x 0) same ∙ get_or-set_same ls.last c.v (i + 1) 0 (let h = a.long in omega (arith, h, lv)))
    last v l false false e f = subst (IsLastAt m v (i + 1)) (sym still) (record {
      below = (let k = old.below in omega (arith, k));
      ends = old.ends;
      none = λ j g h k. none j g (cases_order j i) h k;
    })
      where
        apart-w : v ≢ c.w
        apart-w g = false≢true (sym e ∙ (Decides-eqb v c.w).1 g)

        apart-v : v ≢ c.v
        apart-v g = false≢true (sym f ∙ (Decides-eqb v c.v).1 g)

        still : slice_index_or (slice_set (slice_set ls.last c.v (i + 1)) c.w (i + 1)) v 0 ≡ slice_index_or ls.last v 0
        still = get_or-set_other (slice_set ls.last c.v (i + 1)) c.w v (i + 1) 0 apart-w ∙ get_or-set_other ls.last c.v v (i + 1) 0 apart-v

        old : IsLastAt m v i (slice_index_or ls.last v 0)
        old = a.last v l

        none : (j : ℕ) → slice_index_or ls.last v 0 ≤ j → (j ≡ i) ⊎ ((j < i) ⊎ (i < j)) → j < i + 1 → EndsAt m j v → ⊥
        none j g (inl q) h k = by (same-ends m i c.v c.w v k.other (joined-first m i c there) (subst (λ n. IsJoinedBy m n v k.other) q k.joined))
          where
            by : ((v ≡ c.v) × (k.other ≡ c.w)) ⊎ ((v ≡ c.w) × (k.other ≡ c.v)) → ⊥
            by (inl p) = apart-v p.0
            by (inr p) = apart-w p.0
        none j g (inr (inl q)) h k = old.none j g q k
        none j g (inr (inr q)) h k = absurd (omega (arith, q, h))

    first : (j : ℕ) (d : MapCable) → slice_get m.cables j ≡ Some d → (j ≡ i) ⊎ ((j < i) ⊎ (i < j)) → j < i + 1 → IsLastAt m d.v j (slice_index_or (ls.firsts ++ slice_index_or ls.last c.v 0 ∷ []) j 0)
    first j d e (inl q) l =
        let same : d ≡ c = same-cable m.cables i d c (subst (λ n. slice_get m.cables n ≡ Some d) q e) there in
        let here : slice_index_or (ls.firsts ++ slice_index_or ls.last c.v 0 ∷ []) j 0 ≡ slice_index_or ls.last c.v 0 = ap (λ n. get_or (ls.firsts ++ slice_index_or ls.last c.v 0 ∷ []) n 0) (q ∙ sym a.long_firsts) ∙ get-end ls.firsts (slice_index_or ls.last c.v 0) in
        subst (λ n. IsLastAt m d.v j n) (sym here) (subst (λ n. IsLastAt m d.v n (slice_index_or ls.last c.v 0)) (sym q) (subst (λ (x : MapCable). IsLastAt m x.v i (slice_index_or ls.last c.v 0)) (sym same) (a.last c.v lv)))
    first j d e (inr (inl q)) l = subst (λ n. IsLastAt m d.v j n) (sym (get_or_append_left ls.firsts (slice_index_or ls.last c.v 0 ∷ []) 0 j (let k = a.long_firsts in omega (arith, k, q)))) (a.firsts j d q e)
    first j d e (inr (inr q)) l = absurd (omega (arith, q, l))

    second : (j : ℕ) (d : MapCable) → slice_get m.cables j ≡ Some d → (j ≡ i) ⊎ ((j < i) ⊎ (i < j)) → j < i + 1 → IsLastAt m d.w j (slice_index_or (ls.seconds ++ slice_index_or ls.last c.w 0 ∷ []) j 0)
    second j d e (inl q) l =
        let same : d ≡ c = same-cable m.cables i d c (subst (λ n. slice_get m.cables n ≡ Some d) q e) there in
        let here : slice_index_or (ls.seconds ++ slice_index_or ls.last c.w 0 ∷ []) j 0 ≡ slice_index_or ls.last c.w 0 = ap (λ n. get_or (ls.seconds ++ slice_index_or ls.last c.w 0 ∷ []) n 0) (q ∙ sym a.long_seconds) ∙ get-end ls.seconds (slice_index_or ls.last c.w 0) in
        subst (λ n. IsLastAt m d.w j n) (sym here) (subst (λ n. IsLastAt m d.w n (slice_index_or ls.last c.w 0)) (sym q) (subst (λ (x : MapCable). IsLastAt m x.w i (slice_index_or ls.last c.w 0)) (sym same) (a.last c.w lw)))
    second j d e (inr (inl q)) l = subst (λ n. IsLastAt m d.w j n) (sym (get_or_append_left ls.seconds (slice_index_or ls.last c.w 0 ∷ []) 0 j (let k = a.long_seconds in omega (arith, k, q)))) (a.seconds j d q e)
    second j d e (inr (inr q)) l = absurd (omega (arith, q, l))

-- ---- sources
host-vertex : (vs : List MapVertex) (v : ℕ) → is_some (host_at (slice_get vs v)) ≡ true → v < length vs
host-vertex [] v e = absurd (false≢true e)
host-vertex (x ∷ vs) zero e = omega arith
host-vertex (x ∷ vs) (suc v) e = let l = host-vertex vs v e in omega arith

abbrev one-or : Bool → ℕ
one-or b = if b then 1 else 0

pub first-sources : (m : NetMap) (ns : List ℕ) → IsMap m → ns ≡ map (host_number m) (numbers_below (length m.vertices)) → AreSources m ns 0
first-sources m ns r e = record {
  is_map = r;
  long = long;
  small = λ v. small v (cases_order v (length m.vertices));
  hosts = λ v h. at v (host-vertex m.vertices v h) ∙ ap one-or h;
  beside = λ i v w l j h. absurd (omega (arith, l));
  lasts = λ v one. lasts v one (cases_order v (length m.vertices));
}
  where
    long : length ns ≡ length m.vertices
    long = ap length e ∙ long-numbers (host_number m) (length m.vertices)

    at : (v : ℕ) → v < length m.vertices → get_or ns v 0 ≡ host_number m v
    at v l = ap (λ x. get_or x v 0) e ∙ map-at (host_number m) (length m.vertices) v 0 l

    none : (v : ℕ) → length m.vertices ≤ v → get_or ns v 0 ≡ 0
    none v l = past ns v (omega (arith, l, long))

    of-two : (b : Bool) → one-or b < 2
    of-two true = omega arith
    of-two false = omega arith

    small : (v : ℕ) → (v ≡ length m.vertices) ⊎ ((v < length m.vertices) ⊎ (length m.vertices < v)) → get_or ns v 0 < 2
    small v (inl q) = let z = none v (omega (arith, q)) in omega (arith, z)
    small v (inr (inl q)) = subst (λ n. n < 2) (sym (at v q)) (of-two (is_some (host_of_vertex m v)))
    small v (inr (inr q)) = let z = none v (omega (arith, q)) in omega (arith, z)

    of-one : (b : Bool) → one-or b ≡ 1 → b ≡ true
    of-one true q = refl
    of-one false q = absurd (omega (arith, q))

    lasts : (v : ℕ) → get_or ns v 0 ≡ 1 → (v ≡ length m.vertices) ⊎ ((v < length m.vertices) ⊎ (length m.vertices < v)) → Lasts m v
    lasts v one (inl q) = let z = none v (omega (arith, q)) in absurd (omega (arith, z, one))
    lasts v one (inr (inl q)) = λ k s. record { host = v; joined = joined-here m k v; is_host = of-one (is_some (host_of_vertex m v)) (sym (at v q) ∙ one) }
    lasts v one (inr (inr q)) = let z = none v (omega (arith, q)) in absurd (omega (arith, z, one))

set-one : (ns : List ℕ) (v u : ℕ) → v < length ns → (get_or (slice_set ns v 1) u 0 ≡ 1) ⊎ ((u ≢ v) × (get_or (slice_set ns v 1) u 0 ≡ get_or ns u 0))
set-one ns v u l = by (nat_eq u v) refl
  where
    by : (b : Bool) → nat_eq u v ≡ b → (get_or (slice_set ns v 1) u 0 ≡ 1) ⊎ ((u ≢ v) × (get_or (slice_set ns v 1) u 0 ≡ get_or ns u 0))
    by true e = inl (ap (λ x. get_or (slice_set ns v 1) x 0) ((Decides-eqb u v).0 e) ∙ get_or-set_same ns v 1 0 l)
    by false e = let d : u ≢ v = (λ f. false≢true (sym e ∙ (Decides-eqb u v).1 f)) in inr (d, get_or-set_other ns v u 1 0 d)

source-kept : (m : NetMap) (ns : List ℕ) (v w u : ℕ) → v < length ns → get_or ns u 0 ≡ 1 → get_or (with_source m ns v w) u 0 ≡ 1
source-kept m ns v w u l e = by (is_some (host_of_vertex m w))
  where
    set-kept : (get_or (slice_set ns v 1) u 0 ≡ 1) ⊎ ((u ≢ v) × (get_or (slice_set ns v 1) u 0 ≡ get_or ns u 0)) → get_or (slice_set ns v 1) u 0 ≡ 1
    set-kept (inl p) = p
    set-kept (inr p) = p.1 ∙ e

    by : (b : Bool) → get_or (if b then slice_set ns v 1 else ns) u 0 ≡ 1
    by true = set-kept (set-one ns v u l)
    by false = e

source-set : (m : NetMap) (ns : List ℕ) (v w : ℕ) → v < length ns → is_some (host_of_vertex m w) ≡ true → get_or (with_source m ns v w) v 0 ≡ 1
source-set m ns v w l h = ap (λ b. get_or (if b then slice_set ns v 1 else ns) v 0) h ∙ get_or-set_same ns v 1 0 l

source-step : (m : NetMap) (ns : List ℕ) (i j v w : ℕ) → v < length m.vertices → IsJoinedBy m j v w → AreSources m ns i → AreSources m (with_source m ns v w) i
source-step m ns i j v w l joined a = record {
  is_map = a.is_map;
  long = long (is_some (host_of_vertex m w));
  small = λ u. small u (is_some (host_of_vertex m w));
  hosts = λ u h. source-kept m ns v w u low (a.hosts u h);
  beside = λ k x y h p q. source-kept m ns v w x low (a.beside k x y h p q);
  lasts = λ u e. lasts u (is_some (host_of_vertex m w)) refl e;
}
  where
    low : v < length ns
    low = let k = a.long in omega (arith, k, l)

    long : (b : Bool) → length (if b then slice_set ns v 1 else ns) ≡ length m.vertices
    long true = length-set ns v 1 ∙ a.long
    long false = a.long

    small-of : (u : ℕ) → (get_or (slice_set ns v 1) u 0 ≡ 1) ⊎ ((u ≢ v) × (get_or (slice_set ns v 1) u 0 ≡ get_or ns u 0)) → get_or (slice_set ns v 1) u 0 < 2
    small-of u (inl p) = omega (arith, p)
    small-of u (inr p) = let k = a.small u in let q = p.1 in omega (arith, k, q)

    small : (u : ℕ) (b : Bool) → get_or (if b then slice_set ns v 1 else ns) u 0 < 2
    small u true = small-of u (set-one ns v u low)
    small u false = a.small u

    lasts : (u : ℕ) (b : Bool) → is_some (host_of_vertex m w) ≡ b → get_or (if b then slice_set ns v 1 else ns) u 0 ≡ 1 → Lasts m u
    lasts u true h e = at (nat_eq u v) refl
      where
        at : (b : Bool) → nat_eq u v ≡ b → Lasts m u
        at true f = subst (Lasts m) (sym ((Decides-eqb u v).0 f)) (lasts-beside m j v w joined h)
        at false f = a.lasts u (sym (get_or-set_other ns v u 1 0 (λ g. false≢true (sym f ∙ (Decides-eqb u v).1 g))) ∙ e)
    lasts u false h e = a.lasts u e

pub next-sources : (m : NetMap) (ns : List ℕ) (i : ℕ) (c : MapCable) → c.v < length m.vertices → c.w < length m.vertices → slice_get m.cables i ≡ Some c → AreSources m ns i → AreSources m (with_source m (with_source m ns c.v c.w) c.w c.v) (i + 1)
next-sources m ns i c lv lw there a = record {
  is_map = two.is_map;
  long = two.long;
  small = two.small;
  hosts = two.hosts;
  beside = λ j v w l k h. beside j v w k h (cases_order j i) l;
  lasts = two.lasts;
}
  where
    one : AreSources m (with_source m ns c.v c.w) i
    one = source-step m ns i i c.v c.w lv (joined-first m i c there) a

    two : AreSources m (with_source m (with_source m ns c.v c.w) c.w c.v) i
    two = source-step m (with_source m ns c.v c.w) i i c.w c.v lw (joined-second m i c there) one

    low : c.w < length (with_source m ns c.v c.w)
    low = let k = one.long in omega (arith, k, lw)

    beside : (j v w : ℕ) → IsJoinedBy m j v w → is_some (host_of_vertex m w) ≡ true → (j ≡ i) ⊎ ((j < i) ⊎ (i < j)) → j < i + 1 → get_or (with_source m (with_source m ns c.v c.w) c.w c.v) v 0 ≡ 1
    beside j v w k h (inl q) l = by (same-ends m i c.v c.w v w (joined-first m i c there) (subst (λ n. IsJoinedBy m n v w) q k))
      where
        by : ((v ≡ c.v) × (w ≡ c.w)) ⊎ ((v ≡ c.w) × (w ≡ c.v)) → get_or (with_source m (with_source m ns c.v c.w) c.w c.v) v 0 ≡ 1
        by (inl p) = source-kept m (with_source m ns c.v c.w) c.w c.v v low (ap (λ x. get_or (with_source m ns c.v c.w) x 0) p.0 ∙ source-set m ns c.v c.w (let x = a.long in omega (arith, x, lv)) (ap (λ x. is_some (host_of_vertex m x)) (sym p.1) ∙ h))
        by (inr p) = ap (λ x. get_or (with_source m (with_source m ns c.v c.w) c.w c.v) x 0) p.0 ∙ source-set m (with_source m ns c.v c.w) c.w c.v low (ap (λ x. is_some (host_of_vertex m x)) (sym p.1) ∙ h)
    beside j v w k h (inr (inl q)) l = two.beside j v w q k h
    beside j v w k h (inr (inr q)) l = absurd (omega (arith, q, l))

-- ---- the walk at the start, and at the end
abbrev no-vertices : List ℕ
no-vertices = []

first-empty : (m : NetMap) (ns ps : List ℕ) (cut : List Bool) → AreSources m ns (length m.cables) → length ps ≡ length m.vertices → length cut ≡ length m.vertices
    → IsWalk m (record { numbers = ns; parents = ps; cut = cut; order = []; path = [] })
first-empty m ns ps cut a e f = record {
  is_map = a.is_map;
  long = a.long;
  long_parents = e;
  long_cut = f;
  roots = record { hosts = a.hosts; beside = λ i v w j h. a.beside i v w (joined-number m i v w j) j h; lasts = a.lasts };
  ordered = record { at = λ v l. (let k = a.small v in absurd (omega (arith, k, l))); back = none };
  each = λ v l. (let k = a.small v in absurd (omega (arith, k, l)));
  steps = tt;
}
  where
    none : (j v : ℕ) → slice_get no-vertices j ≡ Some v → (slice_index_or ns v 0 ≡ j + 2) × (v < length m.vertices)
    none j v g = absurd (let l = slice_get_within no-vertices j v g in omega (arith, l))

pub first-walk : (m : NetMap) (ns ps : List ℕ) (cut : List Bool) (order : List ℕ) (path : List Step) → AreSources m ns (length m.cables) → length ps ≡ length m.vertices → length cut ≡ length m.vertices → order ≡ [] → path ≡ []
    → IsWalk m (record { numbers = ns; parents = ps; cut = cut; order = order; path = path })
first-walk m ns ps cut order path a e f g h =
    subst (λ (o : List ℕ). IsWalk m (record { numbers = ns; parents = ps; cut = cut; order = o; path = path })) (sym g)
    (subst (λ (p : List Step). IsWalk m (record { numbers = ns; parents = ps; cut = cut; order = []; path = p })) (sym h) (first-empty m ns ps cut a e f))

pub last-walk : (m : NetMap) (t : WalkState) → IsWalk m t → t.path ≡ [] → AreSeen m t (length m.cables) → IsWalked m t
last-walk m t walk nowhere all = record {
  is_map = walk.is_map;
  long = walk.long;
  long_parents = walk.long_parents;
  long_cut = walk.long_cut;
  roots = walk.roots;
  ordered = walk.ordered;
  done = done;
  seen = λ i v w j l. seen i v w j l (cases_order (number_in t v) 1);
}
  where
    done : (v : ℕ) → 2 ≤ number_in t v → IsDone m t.numbers t.parents t.cut v
    done v l = by (walk.each v l)
      where
        by : IsOnPath t.path v ⊎ IsDone m t.numbers t.parents t.cut v → IsDone m t.numbers t.parents t.cut v
        by (inl p) = absurd (subst (λ ss. IsOnPath ss v) nowhere p)
        by (inr d) = d

    seen : (i v w : ℕ) → IsJoinedBy m i v w → 1 ≤ number_in t v → (number_in t v ≡ 1) ⊎ ((number_in t v < 1) ⊎ (1 < number_in t v)) → 1 ≤ number_in t w
    seen i v w j l (inl e) = all i v w (joined-number m i v w j) j e
    seen i v w j l (inr (inl k)) = absurd (omega (arith, k, l))
    seen i v w j l (inr (inr k)) = (done v (omega (arith, k))).seen i w j

pub next-seen : (m : NetMap) (t u x : WalkState) (i : ℕ) (c : MapCable) → slice_get m.cables i ≡ Some c → AreSeen m t i → HasGrown t u → HasGrown u x
    → (1 ≤ number_in t c.v → 1 ≤ number_in u c.w) → (1 ≤ number_in u c.w → 1 ≤ number_in x c.v) → AreSeen m x (i + 1)
next-seen m t u x i c there all one two first second = λ j v w l k e. by j v w k e (cases_order j i) l
  where
    kept : (v : ℕ) → 1 ≤ number_in u v → 1 ≤ number_in x v
    kept v l = let e = two.keeps v l in omega (arith, e, l)

    by : (j v w : ℕ) → IsJoinedBy m j v w → number_in x v ≡ 1 → (j ≡ i) ⊎ ((j < i) ⊎ (i < j)) → j < i + 1 → 1 ≤ number_in x w
    by j v w k e (inl q) l = on (same-ends m i c.v c.w v w (joined-first m i c there) (subst (λ n. IsJoinedBy m n v w) q k))
      where
        middle : number_in u v ≡ 1
        middle = two.roots v e

        start-one : number_in t v ≡ 1
        start-one = one.roots v middle

        on : ((v ≡ c.v) × (w ≡ c.w)) ⊎ ((v ≡ c.w) × (w ≡ c.v)) → 1 ≤ number_in x w
        on (inl p) = kept w (subst (λ y. 1 ≤ number_in u y) (sym p.1) (first (subst (λ y. 1 ≤ number_in t y) p.0 (omega (arith, start-one)))))
        on (inr p) = subst (λ y. 1 ≤ number_in x y) (sym p.1) (second (subst (λ y. 1 ≤ number_in u y) p.0 (omega (arith, middle))))
    by j v w k e (inr (inl q)) l =
        let before = all j v w q k (one.roots v (two.roots v e)) in
        let f = one.keeps w before in
        kept w (omega (arith, f, before))
    by j v w k e (inr (inr q)) l = absurd (omega (arith, q, l))

-- ---- marks of what wasn't met
pub first-unwalked : (m : NetMap) (t : WalkState) (marks : List Bool) → marks ≡ marks_of m [] → AreUnwalked m t 0 marks
first-unwalked m t marks e = record {
  long = ap length e ∙ long-marks m [];
  some = λ v f. absurd (false≢true (marked-among m [] v (sym (ap (λ l. slice_index_or l v false) e) ∙ f)));
  all = λ i v l s z. absurd (omega (arith, l));
}

unmet-kept : (t : WalkState) (marks : List Bool) (v u : ℕ) → v < length marks → slice_index_or marks u false ≡ true → slice_index_or (with_unmet t marks v) u false ≡ true
unmet-kept t marks v u l e = by (nat_eq (number_in t v) 0)
  where
    at : (b : Bool) → nat_eq u v ≡ b → slice_index_or (slice_set marks v true) u false ≡ true
    at true f = ap (λ x. slice_index_or (slice_set marks v true) x false) ((Decides-eqb u v).0 f) ∙ get_or-set_same marks v true false l
    at false f = get_or-set_other marks v u true false (λ g. false≢true (sym f ∙ (Decides-eqb u v).1 g)) ∙ e

    by : (b : Bool) → slice_index_or (if b then slice_set marks v true else marks) u false ≡ true
    by true = at (nat_eq u v) refl
    by false = e

unmet-made : (t : WalkState) (marks : List Bool) (v : ℕ) → v < length marks → number_in t v ≡ 0 → slice_index_or (with_unmet t marks v) v false ≡ true
unmet-made t marks v l z = ap (λ b. slice_index_or (if b then slice_set marks v true else marks) v false) ((Decides-eqb (number_in t v) 0).1 z) ∙ get_or-set_same marks v true false l

unmet-either : (t : WalkState) (marks : List Bool) (v u : ℕ) → slice_index_or (with_unmet t marks v) u false ≡ true → ((u ≡ v) × (number_in t v ≡ 0)) ⊎ (slice_index_or marks u false ≡ true)
unmet-either t marks v u e = by (nat_eq (number_in t v) 0) refl e
  where
    on : nat_eq (number_in t v) 0 ≡ true → (u ≡ v) ⊎ (slice_index_or marks u false ≡ true) → ((u ≡ v) × (number_in t v ≡ 0)) ⊎ (slice_index_or marks u false ≡ true)
    on f (inl p) = inl (p, (Decides-eqb (number_in t v) 0).0 f)
    on f (inr p) = inr p

    by : (b : Bool) → nat_eq (number_in t v) 0 ≡ b → slice_index_or (if b then slice_set marks v true else marks) u false ≡ true → ((u ≡ v) × (number_in t v ≡ 0)) ⊎ (slice_index_or marks u false ≡ true)
    by true f g = on f (set-at marks v u g)
    by false f g = inr g

unmet-long : (t : WalkState) (marks : List Bool) (v : ℕ) → length (with_unmet t marks v) ≡ length marks
unmet-long t marks v = by (nat_eq (number_in t v) 0)
  where
    by : (b : Bool) → length (if b then slice_set marks v true else marks) ≡ length marks
    by true = length-set marks v true
    by false = refl

pub next-unwalked : (m : NetMap) (t : WalkState) (i : ℕ) (c : MapCable) (marks : List Bool) → c.v < length m.vertices → c.w < length m.vertices → slice_get m.cables i ≡ Some c → AreUnwalked m t i marks
    → AreUnwalked m t (i + 1) (with_unmet t (with_unmet t marks c.v) c.w)
next-unwalked m t i c marks lv lw there a = record {
  long = unmet-long t (with_unmet t marks c.v) c.w ∙ unmet-long t marks c.v ∙ a.long;
  some = λ u e. last u (unmet-either t (with_unmet t marks c.v) c.w u e);
  all = λ j u l s z. all j u s z (cases_order j i) l;
}
  where
    low-v : c.v < length marks
    low-v = let k = a.long in omega (arith, k, lv)

    low-w : c.w < length (with_unmet t marks c.v)
    low-w = let k = a.long in let h = unmet-long t marks c.v in omega (arith, k, h, lw)

    first : (u : ℕ) → ((u ≡ c.v) × (number_in t c.v ≡ 0)) ⊎ (slice_index_or marks u false ≡ true) → (number_in t u ≡ 0) × ((j : ℕ) × EndsAt m j u)
    first u (inl p) = (ap (number_in t) p.0 ∙ p.1, (i, record { other = c.w; joined = record { cable = c; there = there; ends = inl (sym p.0, refl) } }))
    first u (inr e) = a.some u e

    last : (u : ℕ) → ((u ≡ c.w) × (number_in t c.w ≡ 0)) ⊎ (slice_index_or (with_unmet t marks c.v) u false ≡ true) → (number_in t u ≡ 0) × ((j : ℕ) × EndsAt m j u)
    last u (inl p) = (ap (number_in t) p.0 ∙ p.1, (i, record { other = c.v; joined = record { cable = c; there = there; ends = inr (sym p.0, refl) } }))
    last u (inr e) = first u (unmet-either t marks c.v u e)

    all : (j u : ℕ) → EndsAt m j u → number_in t u ≡ 0 → (j ≡ i) ⊎ ((j < i) ⊎ (i < j)) → j < i + 1 → slice_index_or (with_unmet t (with_unmet t marks c.v) c.w) u false ≡ true
    all j u s z (inl q) l = by (same-ends m i c.v c.w u s.other (joined-first m i c there) (subst (λ n. IsJoinedBy m n u s.other) q s.joined))
      where
        by : ((u ≡ c.v) × (s.other ≡ c.w)) ⊎ ((u ≡ c.w) × (s.other ≡ c.v)) → slice_index_or (with_unmet t (with_unmet t marks c.v) c.w) u false ≡ true
        by (inl p) = unmet-kept t (with_unmet t marks c.v) c.w u low-w (ap (λ x. slice_index_or (with_unmet t marks c.v) x false) p.0 ∙ unmet-made t marks c.v low-v (ap (number_in t) (sym p.0) ∙ z))
        by (inr p) = ap (λ x. slice_index_or (with_unmet t (with_unmet t marks c.v) c.w) x false) p.0 ∙ unmet-made t (with_unmet t marks c.v) c.w low-w (ap (number_in t) (sym p.0) ∙ z)
    all j u s z (inr (inl q)) l = unmet-kept t (with_unmet t marks c.v) c.w u low-w (unmet-kept t marks c.v u low-v (a.all j u q s z))
    all j u s z (inr (inr q)) l = absurd (omega (arith, q, l))
