-- Distances that are lowered: each is borne out by channels, and where none can be lowered they are the fewest channels.
use Rattle.std.proofs.Common.{◌≡◌, ◌≢◌, ◌<◌, ◌≤◌, ◌+◌, ◌-◌, ◌*◌, ℕ, zero, suc, List, [], ◌∷◌, length, get_or, set, replicate, Bool, true, false, not, ◌&&◌, ◌||◌, Option, Some, None, is_some, refl, ap, sym, ◌∙◌, subst, arith, nat_lt, nat_le, if◌then◌else◌, get_or-set_other, get_or-set_same, ◌⊎◌, inl, inr}
use Rattle.std.proofs.Math.ListN.{length-set, length-replicate, get_or-replicate}
use Rattle.std.proofs.lemmas.Bool.{false≢true, or_cases, and_parts, cases_order}
use Rattle.std.proofs.lemmas.Bool.Decides.{Decides-eqb, nat_tests}
use Rattle.std.proofs.lemmas.List.{get_or_past}
use Rattle.journal_defs.specs.Counting.{total}
use Rattle.journal_defs.proofs.Members.{IsMember}
use Rattle.map_defs.specs.NetMap.{NetMap, MapPort, IsMap, map_far, is_switch_vertex}
use Rattle.map_defs.specs.Orientation.{is_up}
use Rattle.map_defs.proofs.Levels.{switch-there}
use Rattle.route_calc.specs.declared.entered.Exit.{Exit}
use Rattle.route_calc.specs.Reaching.{may_go, leads_near, port_of_place, least_exit, reaches}
use Rattle.route_calc.specs.Far.{place_in, far_at, AreDistances}
use Rattle.route_calc.specs.Exits.{exit_at, exits_of, is_open}
use Rattle.route_calc.specs.Lowering.{least_with, nearest_after, lowers, lowered, AreSound, IsStep, IsLowest, AreLowest, sweep}
use Rattle.route_calc.proofs.First.{first-there}
use Rattle.route_calc.proofs.Reached.{reaches-later, reaches-over}
use Rattle.route_calc.proofs.Listed.{exits-placed, placed-exits}

less : (a b : ℕ) → nat_lt a b ≡ true → a < b
less a b e = grind (arith, nat_tests)

no_less : (a b : ℕ) → nat_lt a b ≡ false → b ≤ a
no_less a b e = grind (arith, nat_tests)

-- the nearest that ports lead to
with-most : (far : List ℕ) (down : Bool) (least : ℕ) (x : Exit) → least_with far down least x ≤ least
with-most far down least x = by (is_open down x) (nat_lt (far_at far x.next.v x.next.down) least) refl
  where
    by : (s t : Bool) → nat_lt (far_at far x.next.v x.next.down) least ≡ t → (if s && t then far_at far x.next.v x.next.down else least) ≤ least
    by true true e = let l = less (far_at far x.next.v x.next.down) least e in omega arith
    by true false e = omega arith
    by false t e = omega arith

with-below : (far : List ℕ) (down : Bool) (least : ℕ) (x : Exit) → is_open down x ≡ true → least_with far down least x ≤ far_at far x.next.v x.next.down
with-below far down least x may = by (is_open down x) (nat_lt (far_at far x.next.v x.next.down) least) may refl
  where
    by : (s t : Bool) → s ≡ true → nat_lt (far_at far x.next.v x.next.down) least ≡ t → (if s && t then far_at far x.next.v x.next.down else least) ≤ far_at far x.next.v x.next.down
    by true true o e = omega arith
    by true false o e = no_less (far_at far x.next.v x.next.down) least e
    by false t o e = absurd (false≢true o)

nearest-most : (far : List ℕ) (down : Bool) (least : ℕ) (xs : List Exit) → nearest_after far down least xs ≤ least
nearest-most far down least [] = omega arith
nearest-most far down least (x ∷ xs) = let a = nearest-most far down (least_with far down least x) xs in let b = with-most far down least x in omega arith

pub nearest-below : (far : List ℕ) (down : Bool) (least : ℕ) (xs : List Exit) (x : Exit) → IsMember x xs → is_open down x ≡ true → nearest_after far down least xs ≤ far_at far x.next.v x.next.down
nearest-below far down least [] x i may = absurd i
nearest-below far down least (y ∷ ys) x (inl e) may =
    let a = nearest-most far down (least_with far down least y) ys in
    let b = with-below far down least y (subst (λ z. is_open down z ≡ true) e may) in
    let same : far_at far x.next.v x.next.down ≡ far_at far y.next.v y.next.down = ap (λ (z : Exit). far_at far z.next.v z.next.down) e in
    omega arith
nearest-below far down least (y ∷ ys) x (inr i) may = nearest-below far down (least_with far down least y) ys x i may

-- a port that leads to the nearest
record Nearest (far : List ℕ) (down : Bool) (xs : List Exit) (near : ℕ) : Type 0 where
  pub at : Exit
  pub there : IsMember at xs
  pub may : is_open down at ≡ true
  pub is : far_at far at.next.v at.next.down ≡ near

with-found : (far : List ℕ) (down : Bool) (least : ℕ) (x : Exit) → (least_with far down least x ≡ least) ⊎ ((is_open down x ≡ true) × (far_at far x.next.v x.next.down ≡ least_with far down least x))
with-found far down least x = by (is_open down x) (nat_lt (far_at far x.next.v x.next.down) least) refl
  where
    by : (s t : Bool) → is_open down x ≡ s → ((if s && t then far_at far x.next.v x.next.down else least) ≡ least) ⊎ ((is_open down x ≡ true) × (far_at far x.next.v x.next.down ≡ (if s && t then far_at far x.next.v x.next.down else least)))
    by true true e = inr (e, refl)
    by true false e = inl refl
    by false t e = inl refl

nearest-found : (far : List ℕ) (down : Bool) (least : ℕ) (xs : List Exit) → (nearest_after far down least xs ≡ least) ⊎ Nearest far down xs (nearest_after far down least xs)
nearest-found far down least [] = inl refl
nearest-found far down least (x ∷ xs) = by (nearest-found far down (least_with far down least x) xs) (with-found far down least x)
  where
    by : (nearest_after far down (least_with far down least x) xs ≡ least_with far down least x) ⊎ Nearest far down xs (nearest_after far down (least_with far down least x) xs) → (least_with far down least x ≡ least) ⊎ ((is_open down x ≡ true) × (far_at far x.next.v x.next.down ≡ least_with far down least x)) → (nearest_after far down (least_with far down least x) xs ≡ least) ⊎ Nearest far down (x ∷ xs) (nearest_after far down (least_with far down least x) xs)
    by (inr n) f = inr (record { at = n.at; there = inr n.there; may = n.may; is = n.is })
    by (inl e) (inl f) = inl (e ∙ f)
    by (inl e) (inr f) = inr (record { at = x; there = inl refl; may = f.0; is = f.1 ∙ sym e })

-- A legal channel of a vertex, and what it leads to.
pub record Channel (m : NetMap) (order : List ℕ) (v : ℕ) (down : Bool) (x : Exit) : Type 0 where
  pub place : ℕ
  pub low : place < 31
  pub far : MapPort
  pub leads : map_far m (port_of_place v place) ≡ Some far
  pub legal : may_go down (is_up m order (port_of_place v place)) ≡ true
  pub vertex : x.next.v ≡ far.v
  pub went : x.next.down ≡ not (is_up m order (port_of_place v place))

pub channel-of : (m : NetMap) (order : List ℕ) (v : ℕ) (down : Bool) (x : Exit) → IsMember x (exits_of m order v) → is_open down x ≡ true → Channel m order v down x
channel-of m order v down x i may =
    let p = exits-placed m order v 31 x i in
    by p.at p.low (map_far m (port_of_place v p.at)) refl p.is
  where
    make : (k : ℕ) → k < 31 → (f : MapPort) → map_far m (port_of_place v k) ≡ Some f → x ≡ record { port = (port_of_place v k).p; next = record { v = f.v; port = f.p; down = not (is_up m order (port_of_place v k)) } } → Channel m order v down x
    make k l f e same =
        let went : x.next.down ≡ not (is_up m order (port_of_place v k)) = ap (λ (z : Exit). z.next.down) same in
        record { place = k; low = l; far = f; leads = e; legal = sym (ap (λ b. not down || b) went) ∙ may; vertex = ap (λ (z : Exit). z.next.v) same; went = went }

    by : (k : ℕ) → k < 31 → (o : Option MapPort) → map_far m (port_of_place v k) ≡ o → exit_at m order v k ≡ Some x → Channel m order v down x
    by k l None e is = let none : ◌≡◌ {A = Option Exit} None (Some x) = sym (none_at k e) ∙ is in cc
      where
        none_at : (k : ℕ) → map_far m (port_of_place v k) ≡ None → exit_at m order v k ≡ None
        none_at k e = rw e refl
    by k l (Some f) e is =
        let there : ◌≡◌ {A = Option Exit} (Some (record { port = (port_of_place v k).p; next = record { v = f.v; port = f.p; down = not (is_up m order (port_of_place v k)) } })) (Some x) = sym (some_at k f e) ∙ is in
        let same : x ≡ record { port = (port_of_place v k).p; next = record { v = f.v; port = f.p; down = not (is_up m order (port_of_place v k)) } } = cc in
        make k l f e same
      where
        some_at : (k : ℕ) (f : MapPort) → map_far m (port_of_place v k) ≡ Some f → exit_at m order v k ≡ Some (record { port = (port_of_place v k).p; next = record { v = f.v; port = f.p; down = not (is_up m order (port_of_place v k)) } })
        some_at k f e = rw e refl

-- a write of something smaller
total-set : (ls : List ℕ) (w x d : ℕ) → w < length ls → x < get_or ls w d → total (set ls w x) < total ls
total-set [] w x d k l = absurd (omega arith)
total-set (y ∷ ys) zero x d k l = omega arith
total-set (y ∷ ys) (suc w) x d k l = let n = total-set ys w x d (omega arith) l in omega arith

pub place-low : (n v : ℕ) (down : Bool) → v < n → place_in v down < 2 * n
place-low n v true l = omega arith
place-low n v false l = omega arith

-- one place for each vertex and phase
pub place-once : (v u : ℕ) (down phase : Bool) → place_in v down ≡ place_in u phase → (v ≡ u) × (down ≡ phase)
place-once v u true true e = (omega arith, refl)
place-once v u true false e = absurd (omega arith)
place-once v u false true e = absurd (omega arith)
place-once v u false false e = (omega arith, refl)

pub set-case : (far : List ℕ) (v u x : ℕ) (down phase : Bool) → place_in v down < length far → ((u ≡ v) × (phase ≡ down) × (far_at (set far (place_in v down) x) u phase ≡ x)) ⊎ ((place_in u phase ≢ place_in v down) × (far_at (set far (place_in v down) x) u phase ≡ far_at far u phase))
set-case far v u x down phase low = by (cases_order (place_in u phase) (place_in v down))
  where
    other : place_in u phase ≢ place_in v down → ((u ≡ v) × (phase ≡ down) × (far_at (set far (place_in v down) x) u phase ≡ x)) ⊎ ((place_in u phase ≢ place_in v down) × (far_at (set far (place_in v down) x) u phase ≡ far_at far u phase))
    other n = inr (n, get_or-set_other far (place_in v down) (place_in u phase) x 255 n)

    by : (place_in u phase ≡ place_in v down) ⊎ ((place_in u phase < place_in v down) ⊎ (place_in v down < place_in u phase)) → ((u ≡ v) × (phase ≡ down) × (far_at (set far (place_in v down) x) u phase ≡ x)) ⊎ ((place_in u phase ≢ place_in v down) × (far_at (set far (place_in v down) x) u phase ≡ far_at far u phase))
    by (inl e) =
        let one = place-once u v phase down e in
        inl (one.0, one.1, ap (λ p. get_or (set far (place_in v down) x) p 255) e ∙ get_or-set_same far (place_in v down) x 255 low)
    by (inr (inl a)) = other (λ e. absurd (omega arith))
    by (inr (inr a)) = other (λ e. absurd (omega arith))

sound-set : (m : NetMap) (order far : List ℕ) (v : ℕ) (down : Bool) (near : ℕ) (x : Exit) (to : ℕ) → IsMap m → is_switch_vertex m v ≡ true → place_in v down < length far → near + 1 < far_at far v down → Channel m order v down x → far_at far x.next.v x.next.down ≡ near → AreSound m order to far → AreSound m order to (set far (place_in v down) (near + 1))
sound-set m order far v down near x to r switch low less c is s = record { near = λ u phase l. near_at u phase l (set-case far v u (near + 1) down phase low); there = λ phase. there_at phase (set-case far v to (near + 1) down phase low) }
  where
    new : List ℕ
    new = set far (place_in v down) (near + 1)

    reached : near < 255 → reaches m order to (suc near) v down ≡ true
    reached l =
        let before = subst (λ k. k < 255 → reaches m order to k x.next.v x.next.down ≡ true) is (s.near x.next.v x.next.down) l in
        let at : reaches m order to near c.far.v (not (is_up m order (port_of_place v c.place))) ≡ true = subst (λ b. reaches m order to near c.far.v b ≡ true) c.went (subst (λ z. reaches m order to near z x.next.down ≡ true) c.vertex before) in
        reaches-over m order to near down (port_of_place v c.place) c.far r switch c.leads c.legal at

    near_at : (u : ℕ) (phase : Bool) → far_at (set far (place_in v down) (near + 1)) u phase < 255 → ((u ≡ v) × (phase ≡ down) × (far_at (set far (place_in v down) (near + 1)) u phase ≡ near + 1)) ⊎ ((place_in u phase ≢ place_in v down) × (far_at (set far (place_in v down) (near + 1)) u phase ≡ far_at far u phase)) → reaches m order to (far_at (set far (place_in v down) (near + 1)) u phase) u phase ≡ true
    near_at u phase l (inl e) =
        let value : far_at (set far (place_in v down) (near + 1)) u phase ≡ suc near = e.2 ∙ omega arith in
        let few : near < 255 = omega arith in
        subst (λ k. reaches m order to k u phase ≡ true) (sym value) (subst (λ b. reaches m order to (suc near) u b ≡ true) (sym e.1) (subst (λ z. reaches m order to (suc near) z down ≡ true) (sym e.0) (reached few)))
    near_at u phase l (inr e) =
        let few : far_at far u phase < 255 = subst (λ k. k < 255) e.1 l in
        subst (λ k. reaches m order to k u phase ≡ true) (sym e.1) (s.near u phase few)

    there_at : (phase : Bool) → ((to ≡ v) × (phase ≡ down) × (far_at (set far (place_in v down) (near + 1)) to phase ≡ near + 1)) ⊎ ((place_in to phase ≢ place_in v down) × (far_at (set far (place_in v down) (near + 1)) to phase ≡ far_at far to phase)) → far_at (set far (place_in v down) (near + 1)) to phase ≡ 0
    there_at phase (inl e) =
        let old : far_at far v down ≡ 0 = subst (λ z. far_at far z down ≡ 0) e.0 (s.there down) in
        absurd (omega arith)
    there_at phase (inr e) = e.1 ∙ s.there phase

-- nothing is done
pub step-none : (m : NetMap) (order old new : List ℕ) → new ≡ old → IsStep m order old new false
step-none m order old new e = record { long = ap length e; sound = λ to s. subst (AreSound m order to) (sym e) s; less = λ f. absurd (false≢true f); same = λ f. e }

-- what one lowering does
pub step-one : (m : NetMap) (order far new : List ℕ) (xs : List Exit) (v : ℕ) (down told : Bool) → IsMap m → is_switch_vertex m v ≡ true → xs ≡ exits_of m order v → place_in v down < length far → new ≡ lowered far xs v down → told ≡ lowers far xs v down → IsStep m order far new told
step-one m order far new xs v down told r switch are low is says = by (lowers far xs v down) refl
  where
    near : ℕ
    near = nearest_after far down 255 xs

    sound : (to : ℕ) → nearest_after far down 255 xs + 1 < far_at far v down → (nearest_after far down 255 xs ≡ 255) ⊎ Nearest far down xs (nearest_after far down 255 xs) → AreSound m order to far → AreSound m order to (set far (place_in v down) (nearest_after far down 255 xs + 1))
    sound to l (inr n) s = sound-set m order far v down (nearest_after far down 255 xs) n.at to r switch low l (channel-of m order v down n.at (subst (IsMember n.at) are n.there) n.may) n.is s
    sound to l (inl e) s = record { near = λ u phase k. kept u phase k (set-case far v u (nearest_after far down 255 xs + 1) down phase low); there = λ phase. there_at phase (set-case far v to (nearest_after far down 255 xs + 1) down phase low) }
      where
        kept : (u : ℕ) (phase : Bool) → far_at (set far (place_in v down) (nearest_after far down 255 xs + 1)) u phase < 255 → ((u ≡ v) × (phase ≡ down) × (far_at (set far (place_in v down) (nearest_after far down 255 xs + 1)) u phase ≡ nearest_after far down 255 xs + 1)) ⊎ ((place_in u phase ≢ place_in v down) × (far_at (set far (place_in v down) (nearest_after far down 255 xs + 1)) u phase ≡ far_at far u phase)) → reaches m order to (far_at (set far (place_in v down) (nearest_after far down 255 xs + 1)) u phase) u phase ≡ true
        kept u phase k (inl f) = let g = f.2 in absurd (omega arith)
        kept u phase k (inr f) = subst (λ j. reaches m order to j u phase ≡ true) (sym f.1) (s.near u phase (subst (λ j. j < 255) f.1 k))

        there_at : (phase : Bool) → ((to ≡ v) × (phase ≡ down) × (far_at (set far (place_in v down) (nearest_after far down 255 xs + 1)) to phase ≡ nearest_after far down 255 xs + 1)) ⊎ ((place_in to phase ≢ place_in v down) × (far_at (set far (place_in v down) (nearest_after far down 255 xs + 1)) to phase ≡ far_at far to phase)) → far_at (set far (place_in v down) (nearest_after far down 255 xs + 1)) to phase ≡ 0
        there_at phase (inl f) = let old : far_at far v down ≡ 0 = subst (λ z. far_at far z down ≡ 0) f.0 (s.there down) in absurd (omega arith)
        there_at phase (inr f) = f.1 ∙ s.there phase

    by : (b : Bool) → lowers far xs v down ≡ b → IsStep m order far new told
    by true e =
        let l = less (nearest_after far down 255 xs + 1) (far_at far v down) e in
        let at : new ≡ set far (place_in v down) (nearest_after far down 255 xs + 1) = is ∙ ap (λ b. if b then set far (place_in v down) (nearest_after far down 255 xs + 1) else far) e in
        subst (λ t. IsStep m order far new t) (sym (says ∙ e))
        (subst (λ n. IsStep m order far n true) (sym at) (record {
          long = length-set far (place_in v down) (nearest_after far down 255 xs + 1);
          sound = λ to s. sound to l (nearest-found far down 255 xs) s;
          less = λ t. total-set far (place_in v down) (nearest_after far down 255 xs + 1) 255 low l;
          same = λ f. absurd (false≢true (sym f));
        }))
    by false e =
        let at : new ≡ far = is ∙ ap (λ b. if b then set far (place_in v down) (nearest_after far down 255 xs + 1) else far) e in
        subst (λ t. IsStep m order far new t) (sym (says ∙ e)) (step-none m order far new at)

-- one step after the other
pub step-more : (m : NetMap) (order a b c : List ℕ) (s t : Bool) → IsStep m order a b s → IsStep m order b c t → IsStep m order a c (s || t)
step-more m order a b c s t one two = record { long = two.long ∙ one.long; sound = λ to f. two.sound to (one.sound to f); less = less_by s t one two; same = same_by s t one two }
  where
    less_by : (s t : Bool) → IsStep m order a b s → IsStep m order b c t → (s || t) ≡ true → total c < total a
    less_by true true one two e = let k = one.less refl in let l = two.less refl in omega arith
    less_by true false one two e = subst (λ (l : List ℕ). total l < total a) (sym (two.same refl)) (one.less refl)
    less_by false true one two e = subst (λ (l : List ℕ). total c < total l) (one.same refl) (two.less refl)
    less_by false false one two e = absurd (false≢true e)

    same_by : (s t : Bool) → IsStep m order a b s → IsStep m order b c t → (s || t) ≡ false → c ≡ a
    same_by true t one two e = absurd (false≢true (sym e))
    same_by false true one two e = absurd (false≢true (sym e))
    same_by false false one two e = two.same refl ∙ one.same refl

-- where nothing was lowered, nothing can be
pub settled-one : (m : NetMap) (order far new : List ℕ) (xs : List Exit) (v : ℕ) (down : Bool) → xs ≡ exits_of m order v → new ≡ lowered far xs v down → lowers far xs v down ≡ false → IsLowest m order new v down
settled-one m order far new xs v down are is e = subst (λ n. IsLowest m order n v down) (sym at) (record { settled = λ switch k f l leads legal. near k f l leads legal })
  where
    at : new ≡ far
    at = is ∙ ap (λ b. if b then set far (place_in v down) (nearest_after far down 255 xs + 1) else far) e

    some_at : (k : ℕ) (f : MapPort) → map_far m (port_of_place v k) ≡ Some f → exit_at m order v k ≡ Some (record { port = (port_of_place v k).p; next = record { v = f.v; port = f.p; down = not (is_up m order (port_of_place v k)) } })
    some_at k f g = rw g refl

    near : (k : ℕ) (f : MapPort) → k < 31 → map_far m (port_of_place v k) ≡ Some f → may_go down (is_up m order (port_of_place v k)) ≡ true → far_at far v down ≤ far_at far f.v (not (is_up m order (port_of_place v k))) + 1
    near k f l leads legal =
        let x : Exit = record { port = (port_of_place v k).p; next = record { v = f.v; port = f.p; down = not (is_up m order (port_of_place v k)) } } in
        let most = nearest-below far down 255 xs x (subst (IsMember x) (sym are) (placed-exits m order v 31 k x l (some_at k f leads))) legal in
        let last = no_less (nearest_after far down 255 xs + 1) (far_at far v down) e in
        omega arith

-- a host leads nowhere on
pub settled-host : (m : NetMap) (order far : List ℕ) (v : ℕ) (down : Bool) → is_switch_vertex m v ≡ false → IsLowest m order far v down
settled-host m order far v down host = record { settled = λ switch k f l leads legal. absurd (false≢true (sym host ∙ switch)) }

pub all-settled-none : (m : NetMap) (order far : List ℕ) → AreLowest m order far 0
all-settled-none m order far = record { each = λ k l. absurd (omega arith) }

pub all-settled-more : (m : NetMap) (order far : List ℕ) (k : ℕ) → AreLowest m order far k → IsLowest m order far (sweep (length m.vertices) k).0 (sweep (length m.vertices) k).1 → AreLowest m order far (k + 1)
all-settled-more m order far k all one = record { each = λ j l. by j l (cases_order j k) }
  where
    by : (j : ℕ) → j < k + 1 → (j ≡ k) ⊎ ((j < k) ⊎ (k < j)) → IsLowest m order far (sweep (length m.vertices) j).0 (sweep (length m.vertices) j).1
    by j l (inl e) = subst (λ i. IsLowest m order far (sweep (length m.vertices) i).0 (sweep (length m.vertices) i).1) (sym e) one
    by j l (inr (inl a)) = all.each j a
    by j l (inr (inr a)) = absurd (omega arith)

-- a sweep comes to each vertex, for both kinds of packets
sweep-down : (n v : ℕ) → v < n → sweep n (n - 1 - v) ≡ (v, true)
sweep-down n v l =
    let test : nat_lt (n - 1 - v) n ≡ true = grind (arith, nat_tests) in
    let at : n - 1 - (n - 1 - v) ≡ v = omega arith in
    rw (test, at) refl

sweep-free : (n v : ℕ) → v < n → sweep n (n + v) ≡ (v, false)
sweep-free n v l =
    let test : nat_lt (n + v) n ≡ false = grind (arith, nat_tests) in
    let at : (n + v) - n ≡ v = omega arith in
    ap (λ b. if b then (n - 1 - (n + v), true) else ((n + v) - n, false)) test ∙ ap (λ k. (k, false)) at

settled-at : (m : NetMap) (order far : List ℕ) (v : ℕ) (down : Bool) → AreLowest m order far (2 * length m.vertices) → v < length m.vertices → IsLowest m order far v down
settled-at m order far v true all l = subst (λ (s : ℕ × Bool). IsLowest m order far s.0 s.1) (sweep-down (length m.vertices) v l) (all.each (length m.vertices - 1 - v) (omega arith))
settled-at m order far v false all l = subst (λ (s : ℕ × Bool). IsLowest m order far s.0 s.1) (sweep-free (length m.vertices) v l) (all.each (length m.vertices + v) (omega arith))

-- then no distance is above the fewest channels
settled-near : (m : NetMap) (order far : List ℕ) (to k v : ℕ) (down : Bool) → AreSound m order to far → AreLowest m order far (2 * length m.vertices) → reaches m order to k v down ≡ true → far_at far v down ≤ k
settled-near m order far to zero v down s all e =
    let same : v ≡ to = (Decides-eqb v to).0 e in
    let there : far_at far v down ≡ 0 = subst (λ z. far_at far z down ≡ 0) (sym same) (s.there down) in
    omega arith
settled-near m order far to (suc k) v down s all e = by (or_cases (reaches m order to k v down) _ e) (λ u phase p. settled-near m order far to k u phase s all p)
  where
    none : (j : ℕ) → map_far m (port_of_place v j) ≡ None → leads_near m order (reaches m order to k) down (port_of_place v j) ≡ false
    none j g = rw g refl

    some : (j : ℕ) (x : MapPort) → map_far m (port_of_place v j) ≡ Some x → leads_near m order (reaches m order to k) down (port_of_place v j) ≡ (may_go down (is_up m order (port_of_place v j)) && reaches m order to k x.v (not (is_up m order (port_of_place v j))))
    some j x g = rw g refl

    on : is_switch_vertex m v ≡ true → (j : ℕ) → j < 31 → (o : Option MapPort) → map_far m (port_of_place v j) ≡ o → leads_near m order (reaches m order to k) down (port_of_place v j) ≡ true → ((u : ℕ) (phase : Bool) → reaches m order to k u phase ≡ true → far_at far u phase ≤ k) → far_at far v down ≤ suc k
    on switch j l None f p rest = absurd (false≢true (sym (none j f) ∙ p))
    on switch j l (Some x) f p rest =
        let two = and_parts (may_go down (is_up m order (port_of_place v j))) (reaches m order to k x.v (not (is_up m order (port_of_place v j)))) (sym (some j x f) ∙ p) in
        let next = rest x.v (not (is_up m order (port_of_place v j))) two.1 in
        let here = (settled-at m order far v down all (switch-there m.vertices v switch)).settled switch j x l f two.0 in
        omega arith

    by : (reaches m order to k v down ≡ true) ⊎ ((is_switch_vertex m v && is_some (least_exit m order (reaches m order to k) v down)) ≡ true) → ((u : ℕ) (phase : Bool) → reaches m order to k u phase ≡ true → far_at far u phase ≤ k) → far_at far v down ≤ suc k
    by (inl p) rest = let l = rest v down p in omega arith
    by (inr p) rest =
        let two = and_parts (is_switch_vertex m v) (is_some (least_exit m order (reaches m order to k) v down)) p in
        let f = first-there 31 (λ j. leads_near m order (reaches m order to k) down (port_of_place v j)) two.1 in
        on two.0 f.at f.low (map_far m (port_of_place v f.at)) refl f.passes rest

-- so each is just that
pub settled-distances : (m : NetMap) (order far : List ℕ) (to : ℕ) → AreSound m order to far → AreLowest m order far (2 * length m.vertices) → AreDistances m order to far
settled-distances m order far to s all = record { each = λ k v down l. by k v down l (reaches m order to k v down) refl (nat_le (far_at far v down) k) refl }
  where
    fits : (a b : ℕ) → nat_le a b ≡ false → b < a
    fits a b e = grind (arith, nat_tests)

    most : (a b : ℕ) → nat_le a b ≡ true → a ≤ b
    most a b e = grind (arith, nat_tests)

    by : (k v : ℕ) (down : Bool) → k < 255 → (b : Bool) → reaches m order to k v down ≡ b → (t : Bool) → nat_le (far_at far v down) k ≡ t → nat_le (far_at far v down) k ≡ reaches m order to k v down
    by k v down l true e true f = f ∙ sym e
    by k v down l false e false f = f ∙ sym e
    by k v down l true e false f =
        let near = settled-near m order far to k v down s all e in
        let more = fits (far_at far v down) k f in
        absurd (omega arith)
    by k v down l false e true f =
        let near = most (far_at far v down) k f in
        let few : far_at far v down < 255 = omega arith in
        absurd (false≢true (sym e ∙ reaches-later m order to (far_at far v down) k v down near (s.near v down few)))

-- the first distances: none known, then those of the host
abbrev pub blanks : ℕ → List ℕ
blanks n = replicate n 255

abbrev pub one_far : ℕ → ℕ → List ℕ
one_far n to = set (blanks (2 * n)) (place_in to false) 0

abbrev pub two_far : ℕ → ℕ → List ℕ
two_far n to = set (one_far n to) (place_in to true) 0

pub first-long : (n to : ℕ) → length (two_far n to) ≡ 2 * n
first-long n to = length-set (one_far n to) (place_in to true) 0 ∙ length-set (blanks (2 * n)) (place_in to false) 0 ∙ length-replicate (2 * n) 255

blank-at : (n k : ℕ) → get_or (blanks n) k 255 ≡ 255
blank-at n k = by (cases_order k n)
  where
    past : n ≤ k → get_or (blanks n) k 255 ≡ 255
    past l = get_or_past (blanks n) k 255 (let s : length (blanks n) ≡ n = length-replicate n 255 in let p : length (blanks n) ≤ k = omega arith in p)

    by : (k ≡ n) ⊎ ((k < n) ⊎ (n < k)) → get_or (blanks n) k 255 ≡ 255
    by (inl e) = past (omega arith)
    by (inr (inl a)) = get_or-replicate n k 255 255 a
    by (inr (inr a)) = past (omega arith)

pub first-sound : (m : NetMap) (order : List ℕ) (n to : ℕ) → to < n → AreSound m order to (two_far n to)
first-sound m order n to l = record { near = λ u phase k. near_at u phase k (set-case (one_far n to) to u 0 true phase low_two) (set-case (blanks (2 * n)) to u 0 false phase low_one); there = there }
  where
    low_one : place_in to false < length (blanks (2 * n))
    low_one = let s : length (blanks (2 * n)) ≡ 2 * n = length-replicate (2 * n) 255 in omega arith

    low_two : place_in to true < length (one_far n to)
    low_two = let s : length (blanks (2 * n)) ≡ 2 * n = length-replicate (2 * n) 255 in let t : length (one_far n to) ≡ length (blanks (2 * n)) = length-set (blanks (2 * n)) (place_in to false) 0 in omega arith

    here : (u : ℕ) (phase : Bool) (c : ℕ) → u ≡ to → c ≡ 0 → reaches m order to c u phase ≡ true
    here u phase c e z = subst (λ k. reaches m order to k u phase ≡ true) (sym z) ((Decides-eqb u to).1 e)

    near_at : (u : ℕ) (phase : Bool) → far_at (two_far n to) u phase < 255
        → ((u ≡ to) × (phase ≡ true) × (far_at (two_far n to) u phase ≡ 0)) ⊎ ((place_in u phase ≢ place_in to true) × (far_at (two_far n to) u phase ≡ far_at (one_far n to) u phase))
        → ((u ≡ to) × (phase ≡ false) × (far_at (one_far n to) u phase ≡ 0)) ⊎ ((place_in u phase ≢ place_in to false) × (far_at (one_far n to) u phase ≡ far_at (blanks (2 * n)) u phase))
        → reaches m order to (far_at (two_far n to) u phase) u phase ≡ true
    near_at u phase k (inl e) f = here u phase (far_at (two_far n to) u phase) e.0 e.2
    near_at u phase k (inr e) (inl f) = here u phase (far_at (two_far n to) u phase) f.0 (e.1 ∙ f.2)
    near_at u phase k (inr e) (inr f) =
        let far : far_at (two_far n to) u phase ≡ 255 = e.1 ∙ f.1 ∙ blank-at (2 * n) (place_in u phase) in
        absurd (omega arith)

    there : (phase : Bool) → far_at (two_far n to) to phase ≡ 0
    there true = get_or-set_same (one_far n to) (place_in to true) 0 255 low_two
    there false =
        get_or-set_other (one_far n to) (place_in to true) (place_in to false) 0 255 (λ e. absurd (omega arith))
        ∙ get_or-set_same (blanks (2 * n)) (place_in to false) 0 255 low_one
