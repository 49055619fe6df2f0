-- One sweep finds all distances where vertices are numbered by level.
use Rattle.std.proofs.Common.{◌≡◌, ◌≢◌, ◌<◌, ◌≤◌, ◌+◌, ℕ, List, length, set, Bool, true, false, not, ◌||◌, nat_lt, Some, refl, ap, sym, ◌∙◌, subst, arith, ◌⊎◌, inl, inr, if◌then◌else◌}
use Rattle.std.proofs.lemmas.Bool.{cases_order, false≢true}
use Rattle.std.proofs.lemmas.Bool.Decides.{nat_tests}
use Rattle.journal_defs.proofs.Members.{IsMember}
use Rattle.map_defs.specs.NetMap.{NetMap, MapPort, map_far, is_switch_vertex}
use Rattle.map_defs.specs.Orientation.{is_up}
use Rattle.route_calc.specs.declared.entered.Exit.{Exit}
use Rattle.route_calc.specs.Reaching.{may_go, port_of_place}
use Rattle.route_calc.specs.Far.{place_in, far_at}
use Rattle.route_calc.specs.Exits.{exit_at, exits_of}
use Rattle.route_calc.specs.Lowering.{nearest_after, lowers, lowered, IsLowest, AreLowest, AreNumbered, sweep}
use Rattle.route_calc.proofs.Listed.{placed-exits}
use Rattle.route_calc.proofs.Lowered.{nearest-below, set-case, settled-one, settled-host, all-settled-more}

no-less : (a b : ℕ) → nat_lt a b ≡ false → b ≤ a
no-less a b e = grind (arith, nat_tests)

is-less : (a b : ℕ) → nat_lt a b ≡ true → a < b
is-less a b e = grind (arith, nat_tests)

-- what is written where a distance is lowered
written : (far : List ℕ) (xs : List Exit) (v : ℕ) (down : Bool) → lowers far xs v down ≡ true → lowered far xs v down ≡ set far (place_in v down) (nearest_after far down 255 xs + 1)
written far xs v down e = ap (λ b. if b then set far (place_in v down) (nearest_after far down 255 xs + 1) else far) e

kept : (far : List ℕ) (xs : List Exit) (v : ℕ) (down : Bool) → lowers far xs v down ≡ false → lowered far xs v down ≡ far
kept far xs v down e = ap (λ b. if b then set far (place_in v down) (nearest_after far down 255 xs + 1) else far) e

-- a distance that was looked at is settled
pub settled-after : (m : NetMap) (order far new : List ℕ) (xs : List Exit) (v : ℕ) (down : Bool) → place_in v down < length far → xs ≡ exits_of m order v → new ≡ lowered far xs v down → IsLowest m order new v down
settled-after m order far new xs v down low are is = by (lowers far xs v down) refl
  where
    near : ℕ
    near = nearest_after far down 255 xs

    some_at : (k : ℕ) (f : MapPort) → map_far m (port_of_place v k) ≡ Some f → exit_at m order v k ≡ Some (record { port = (port_of_place v k).p; next = record { v = f.v; port = f.p; down = not (is_up m order (port_of_place v k)) } })
    some_at k f g = rw g refl

    over : (k : ℕ) (f : MapPort) → k < 31 → map_far m (port_of_place v k) ≡ Some f → may_go down (is_up m order (port_of_place v k)) ≡ true → near ≤ far_at far f.v (not (is_up m order (port_of_place v k)))
    over k f l leads legal =
        let x : Exit = record { port = (port_of_place v k).p; next = record { v = f.v; port = f.p; down = not (is_up m order (port_of_place v k)) } } in
        nearest-below far down 255 xs x (subst (IsMember x) (sym are) (placed-exits m order v 31 k x l (some_at k f leads))) legal

    at : (u : ℕ) (phase : Bool) → ((u ≡ v) × (phase ≡ down) × (far_at (set far (place_in v down) (near + 1)) u phase ≡ near + 1)) ⊎ ((place_in u phase ≢ place_in v down) × (far_at (set far (place_in v down) (near + 1)) u phase ≡ far_at far u phase)) → near ≤ far_at far u phase → near ≤ far_at (set far (place_in v down) (near + 1)) u phase
    at u phase (inl e) l = let s = e.2 in omega arith
    at u phase (inr e) l = let s = e.1 in omega arith

    here : ((v ≡ v) × (down ≡ down) × (far_at (set far (place_in v down) (near + 1)) v down ≡ near + 1)) ⊎ ((place_in v down ≢ place_in v down) × (far_at (set far (place_in v down) (near + 1)) v down ≡ far_at far v down)) → far_at (set far (place_in v down) (near + 1)) v down ≡ near + 1
    here (inl e) = e.2
    here (inr e) = absurd (e.0 refl)

    by : (b : Bool) → lowers far xs v down ≡ b → IsLowest m order new v down
    by false e = settled-one m order far new xs v down are is e
    by true e = subst (λ n. IsLowest m order n v down) (sym (is ∙ written far xs v down e)) (record {
      settled = λ switch k f l leads legal.
          (let mine = here (set-case far v v (near + 1) down down low) in
          let other = at f.v (not (is_up m order (port_of_place v k))) (set-case far v f.v (near + 1) down (not (is_up m order (port_of_place v k))) low) (over k f l leads legal) in
          omega arith);
    })

-- how two places of a sweep stand to each other
abbrev Before : ℕ × Bool → ℕ × Bool → Type 0
Before a b = ((a.1 ≡ true) × (b.1 ≡ true) × (b.0 < a.0)) ⊎ (((a.1 ≡ true) × (b.1 ≡ false)) ⊎ ((a.1 ≡ false) × (b.1 ≡ false) × (a.0 < b.0)))

swept-before : (n j k : ℕ) → j < k → Before (sweep n j) (sweep n k)
swept-before n j k l = by (nat_lt j n) (nat_lt k n) refl refl
  where
    by : (s t : Bool) → nat_lt j n ≡ s → nat_lt k n ≡ t → Before (sweep n j) (sweep n k)
    by true true p q = let b = is-less k n q in rw (p, q) (inl (refl, refl, omega arith))
    by true false p q = rw (p, q) (inr (inl (refl, refl)))
    by false true p q = let a = no-less j n p in let b = is-less k n q in absurd (omega arith)
    by false false p q = let a = no-less j n p in rw (p, q) (inr (inr (refl, refl, omega arith)))

-- an earlier place of the sweep doesn't lead to a later one
not-later : (m : NetMap) (order : List ℕ) (a b : ℕ × Bool) (i : ℕ) (e : MapPort) → AreNumbered m order → Before a b → is_switch_vertex m a.0 ≡ true → is_switch_vertex m b.0 ≡ true → i < 31 → map_far m (port_of_place a.0 i) ≡ Some e → may_go a.1 (is_up m order (port_of_place a.0 i)) ≡ true → e.v ≡ b.0 → not (is_up m order (port_of_place a.0 i)) ≡ b.1 → ⊥
not-later m order a b i e num before from to low leads legal vertex phase = by (is_up m order (port_of_place a.0 i)) refl before
  where
    there : is_switch_vertex m e.v ≡ true
    there = ap (is_switch_vertex m) vertex ∙ to

    by : (u : Bool) → is_up m order (port_of_place a.0 i) ≡ u → Before a b → ⊥
    by true p (inl c) = false≢true (sym (ap (λ t. not t || not true) c.0) ∙ sym (ap (may_go a.1) p) ∙ legal)
    by true p (inr (inl c)) = false≢true (sym (ap (λ t. not t || not true) c.0) ∙ sym (ap (may_go a.1) p) ∙ legal)
    by true p (inr (inr c)) = let l = (num a.0).up i e low from there leads p in let m = c.2 in absurd (omega arith)
    by false p (inl c) = let l = (num a.0).down i e low from there leads p in let m = c.2 in absurd (omega arith)
    by false p (inr (inl c)) = false≢true (sym c.1 ∙ sym phase ∙ ap not p)
    by false p (inr (inr c)) = false≢true (sym c.1 ∙ sym phase ∙ ap not p)

-- a distance doesn't rise where one is lowered
lowered-most : (far : List ℕ) (xs : List Exit) (v : ℕ) (down : Bool) (u : ℕ) (phase : Bool) → place_in v down < length far → lowers far xs v down ≡ true → far_at (set far (place_in v down) (nearest_after far down 255 xs + 1)) u phase ≤ far_at far u phase
lowered-most far xs v down u phase low e = by (set-case far v u (nearest_after far down 255 xs + 1) down phase low)
  where
    less : nearest_after far down 255 xs + 1 < far_at far v down
    less = is-less (nearest_after far down 255 xs + 1) (far_at far v down) e

    by : ((u ≡ v) × (phase ≡ down) × (far_at (set far (place_in v down) (nearest_after far down 255 xs + 1)) u phase ≡ nearest_after far down 255 xs + 1)) ⊎ ((place_in u phase ≢ place_in v down) × (far_at (set far (place_in v down) (nearest_after far down 255 xs + 1)) u phase ≡ far_at far u phase)) → far_at (set far (place_in v down) (nearest_after far down 255 xs + 1)) u phase ≤ far_at far u phase
    by (inl c) = let k = less in let s : far_at far u phase ≡ far_at far v down = (λ i. far_at far (c.0 i) (c.1 i)) in let t = c.2 in omega arith
    by (inr c) = let s = c.1 in omega arith

-- what was settled earlier in a sweep stays so
stays-settled : (m : NetMap) (order far new : List ℕ) (xs : List Exit) (a b : ℕ × Bool) → AreNumbered m order → Before a b → is_switch_vertex m b.0 ≡ true → place_in b.0 b.1 < length far → new ≡ lowered far xs b.0 b.1 → IsLowest m order far a.0 a.1 → IsLowest m order new a.0 a.1
stays-settled m order far new xs a b num before to low is old = by (lowers far xs b.0 b.1) refl
  where
    by : (t : Bool) → lowers far xs b.0 b.1 ≡ t → IsLowest m order new a.0 a.1
    by false e = subst (λ n. IsLowest m order n a.0 a.1) (sym (is ∙ kept far xs b.0 b.1 e)) old
    by true e = subst (λ n. IsLowest m order n a.0 a.1) (sym (is ∙ written far xs b.0 b.1 e)) (record { settled = near })
      where
        near : is_switch_vertex m a.0 ≡ true → (i : ℕ) (f : MapPort) → i < 31 → map_far m (port_of_place a.0 i) ≡ Some f → may_go a.1 (is_up m order (port_of_place a.0 i)) ≡ true → far_at (set far (place_in b.0 b.1) (nearest_after far b.1 255 xs + 1)) a.0 a.1 ≤ far_at (set far (place_in b.0 b.1) (nearest_after far b.1 255 xs + 1)) f.v (not (is_up m order (port_of_place a.0 i))) + 1
        near switch i f l leads legal = at (set-case far b.0 f.v (nearest_after far b.1 255 xs + 1) b.1 (not (is_up m order (port_of_place a.0 i))) low)
          where
            at : ((f.v ≡ b.0) × (not (is_up m order (port_of_place a.0 i)) ≡ b.1) × (far_at (set far (place_in b.0 b.1) (nearest_after far b.1 255 xs + 1)) f.v (not (is_up m order (port_of_place a.0 i))) ≡ nearest_after far b.1 255 xs + 1)) ⊎ ((place_in f.v (not (is_up m order (port_of_place a.0 i))) ≢ place_in b.0 b.1) × (far_at (set far (place_in b.0 b.1) (nearest_after far b.1 255 xs + 1)) f.v (not (is_up m order (port_of_place a.0 i))) ≡ far_at far f.v (not (is_up m order (port_of_place a.0 i))))) → far_at (set far (place_in b.0 b.1) (nearest_after far b.1 255 xs + 1)) a.0 a.1 ≤ far_at (set far (place_in b.0 b.1) (nearest_after far b.1 255 xs + 1)) f.v (not (is_up m order (port_of_place a.0 i))) + 1
            at (inl c) = absurd (not-later m order a b i f num before switch to l leads legal c.0 c.1)
            at (inr c) =
                let s = c.1 in
                let mine = lowered-most far xs b.0 b.1 a.0 a.1 low e in
                let was = old.settled switch i f l leads legal in
                omega arith

-- one more place of the sweep
pub swept-more : (m : NetMap) (order far new : List ℕ) (xs : List Exit) (k : ℕ) → AreNumbered m order → is_switch_vertex m (sweep (length m.vertices) k).0 ≡ true → place_in (sweep (length m.vertices) k).0 (sweep (length m.vertices) k).1 < length far → xs ≡ exits_of m order (sweep (length m.vertices) k).0 → new ≡ lowered far xs (sweep (length m.vertices) k).0 (sweep (length m.vertices) k).1 → AreLowest m order far k → AreLowest m order new (k + 1)
swept-more m order far new xs k num switch low are is all = record { each = λ j l. by j l (cases_order j k) }
  where
    n : ℕ
    n = length m.vertices

    by : (j : ℕ) → j < k + 1 → (j ≡ k) ⊎ ((j < k) ⊎ (k < j)) → IsLowest m order new (sweep (length m.vertices) j).0 (sweep (length m.vertices) j).1
    by j l (inl e) = subst (λ i. IsLowest m order new (sweep (length m.vertices) i).0 (sweep (length m.vertices) i).1) (sym e) (settled-after m order far new xs (sweep (length m.vertices) k).0 (sweep (length m.vertices) k).1 low are is)
    by j l (inr (inl a)) = stays-settled m order far new xs (sweep (length m.vertices) j) (sweep (length m.vertices) k) num (swept-before (length m.vertices) j k a) switch low is (all.each j a)
    by j l (inr (inr a)) = absurd (omega arith)

-- the same, where the place is known
pub swept-at : (m : NetMap) (order far new : List ℕ) (xs : List Exit) (k v : ℕ) (down : Bool) → AreNumbered m order → sweep (length m.vertices) k ≡ (v, down) → is_switch_vertex m v ≡ true → place_in v down < length far → xs ≡ exits_of m order v → new ≡ lowered far xs v down → AreLowest m order far k → AreLowest m order new (k + 1)
swept-at m order far new xs k v down num at switch low are is all =
    let vertex : v ≡ (sweep (length m.vertices) k).0 = ap (λ s. s.0) (sym at) in
    let kind : down ≡ (sweep (length m.vertices) k).1 = ap (λ s. s.1) (sym at) in
    swept-more m order far new xs k num (sym (ap (is_switch_vertex m) vertex) ∙ switch) (subst (λ (s : ℕ × Bool). place_in s.0 s.1 < length far) (sym at) low) (are ∙ ap (exits_of m order) vertex) (is ∙ (λ i. lowered far xs (vertex i) (kind i))) all

pub swept-host : (m : NetMap) (order far : List ℕ) (k v : ℕ) (down : Bool) → sweep (length m.vertices) k ≡ (v, down) → is_switch_vertex m v ≡ false → AreLowest m order far k → AreLowest m order far (k + 1)
swept-host m order far k v down at host all = all-settled-more m order far k all (settled-host m order far (sweep (length m.vertices) k).0 (sweep (length m.vertices) k).1 (ap (λ (s : ℕ × Bool). is_switch_vertex m s.0) at ∙ host))
