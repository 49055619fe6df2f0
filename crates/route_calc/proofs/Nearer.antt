-- First ports that lead one channel nearer.
use Rattle.std.proofs.Common.{◌≡◌, ◌<◌, ◌≤◌, ◌-◌, ◌+◌, ◌*◌, ◌/◌, ◌%◌, ◌++◌, ℕ, zero, suc, List, [], ◌∷◌, length, drop, get_or, set, Bool, true, false, not, nat_le, nat_eq, Option, Some, None, refl, ap, sym, ◌∙◌, subst, arith, ◌⊎◌, inl, inr, if◌then◌else◌}
use Rattle.std.specs.Prelude.{ℤ, pos, slice_get, option_to_list, ◌-ℤ◌}
use Rattle.std.proofs.lemmas.Bool.{cases_order, false≢true}
use Rattle.std.proofs.lemmas.Bool.Decides.{nat_tests}
use Rattle.std.proofs.lemmas.List.{get_or-set_same, get_or-set_other}
use Rattle.map_defs.specs.NetMap.{NetMap, IsMap}
use Rattle.map_defs.specs.Orientation.{is_up}
use Rattle.route_calc.specs.declared.entered.Entered.{Entered}
use Rattle.route_calc.specs.declared.entered.Exit.{Exit}
use Rattle.route_calc.specs.Reaching.{reaches, port_of_place}
use Rattle.route_calc.specs.Ways.{IsDistance, best_turn, then_turns}
use Rattle.route_calc.specs.Far.{place_in, far_at, AreDistances}
use Rattle.route_calc.specs.Exits.{all_exits, exits_at, exits_below, exit_at}
use Rattle.route_calc.specs.Firsts.{IsFirst, AreFirst, AreFirstBelow, FallByOne}
use Rattle.route_calc.specs.Turning.{first_exit, leads_within, turn_by, turns_on}
use Rattle.route_calc.proofs.Best.{arrival, exit-of, far-exit, next-distance}
use Rattle.route_calc.proofs.Listed.{exits-any, first-turn}
use Rattle.route_calc.proofs.Turned.{within-reaches}

-- the first port, where it leads near
pub first-hit : (far : List ℕ) (left : ℕ) (down : Bool) (x : Exit) (xs : List Exit) → leads_within far left down x ≡ true → first_exit far left down (x ∷ xs) ≡ Some x
first-hit far left down x xs e = ap (λ b. if b then Some x else first_exit far left down xs) e

past-none : {X : Type 0} (xs : List X) (k : ℕ) → length xs ≤ k → slice_get xs k ≡ None
past-none [] k l = refl
past-none (x ∷ xs) zero l = absurd (omega arith)
past-none (x ∷ xs) (suc k) l = past-none xs k (omega arith)

past-drop : {X : Type 0} (xs : List X) (k : ℕ) → length xs ≤ k → drop k xs ≡ []
past-drop [] zero l = refl
past-drop [] (suc k) l = refl
past-drop (x ∷ xs) zero l = absurd (omega arith)
past-drop (x ∷ xs) (suc k) l = past-drop xs k (omega arith)

-- no port leads near
pub first-past : (far : List ℕ) (left : ℕ) (down : Bool) (xs : List Exit) (k j : ℕ) → length xs ≤ k → length xs ≤ j → first_exit far left down (drop k xs) ≡ first_exit far left down xs → slice_get xs j ≡ first_exit far left down xs
first-past far left down xs k j past beyond same = past-none xs j beyond ∙ ap (first_exit far left down) (sym (past-drop xs k past)) ∙ same

-- no port leads nearer
pub turns-none : (exits : List (List Exit)) (far : List ℕ) (left k : ℕ) (e : Entered) → left ≡ suc k → first_exit far k e.down (exits_at exits e.v) ≡ None → turns_on exits far left e ≡ []
turns-none exits far left k e more is = ap (λ i. turns_on exits far i e) more ∙ ap (λ o. then_turns (turn_by e o) (turns_on exits far k)) is

-- the vertex of a place, and its kind
pub place-vertex : (v : ℕ) (down : Bool) → place_in v down / 2 ≡ v
place-vertex v true = omega arith
place-vertex v false = omega arith

odd-rest : (v : ℕ) → (2 * v + 1) % 2 ≡ 1
odd-rest v = omega arith

even-rest : (v : ℕ) → (2 * v) % 2 ≡ 0
even-rest v = omega arith

pub place-kind : (v : ℕ) (down : Bool) → nat_eq (place_in v down % 2) 1 ≡ down
place-kind v true = ap (λ n. nat_eq n 1) (odd-rest v)
place-kind v false = ap (λ n. nat_eq n 1) (even-rest v)

pub first-placed : (exits : List (List Exit)) (far : List ℕ) (place k left : ℕ) → slice_get (exits_at exits (place / 2)) k ≡ first_exit far left (nat_eq (place % 2) 1) (exits_at exits (place / 2)) → get_or far place 255 ≡ left + 1 → (v : ℕ) (down : Bool) → place ≡ place_in v down → IsFirst exits far v down k
first-placed exits far place k left is at v down e some few =
    let vertex : place / 2 ≡ v = ap (λ n. n / 2) e ∙ place-vertex v down in
    let kind : nat_eq (place % 2) 1 ≡ down = ap (λ n. nat_eq (n % 2) 1) e ∙ place-kind v down in
    let here : far_at far v down ≡ left + 1 = ap (λ n. get_or far n 255) (sym e) ∙ at in
    let less : left ≡ far_at far v down - 1 = omega arith in
    ap (λ n. slice_get (exits_at exits n) k) (sym vertex) ∙ is ∙ (λ i. first_exit far (less i) (kind i) (exits_at exits (vertex i)))

-- one more place has its number
pub first-more : (exits : List (List Exit)) (far firsts : List ℕ) (k x : ℕ) → k < length firsts → ((v : ℕ) (down : Bool) → k ≡ place_in v down → IsFirst exits far v down x) → AreFirstBelow exits far firsts k → AreFirstBelow exits far (set firsts k x) (k + 1)
first-more exits far firsts k x low new old = record { each = λ v down l. by v down l (cases_order (place_in v down) k) }
  where
    by : (v : ℕ) (down : Bool) → place_in v down < k + 1 → (place_in v down ≡ k) ⊎ ((place_in v down < k) ⊎ (k < place_in v down)) → IsFirst exits far v down (get_or (set firsts k x) (place_in v down) 0)
    by v down l (inl e) = subst (IsFirst exits far v down) (sym (ap (λ p. get_or (set firsts k x) p 0) e ∙ get_or-set_same firsts k x 0 low)) (new v down (sym e))
    by v down l (inr (inl a)) = subst (IsFirst exits far v down) (sym (get_or-set_other firsts k (place_in v down) x 0 (λ e. absurd (omega arith)))) (old.each v down a)
    by v down l (inr (inr a)) = absurd (omega arith)

pub first-none : (exits : List (List Exit)) (far firsts : List ℕ) → AreFirstBelow exits far firsts 0
first-none exits far firsts = record { each = λ v down l. absurd (omega arith) }

-- past the distances none is known
past-far : (far : List ℕ) (k : ℕ) → length far ≤ k → get_or far k 255 ≡ 255
past-far [] k l = refl
past-far (x ∷ xs) zero l = absurd (omega arith)
past-far (x ∷ xs) (suc k) l = past-far xs k (omega arith)

pub first-all : (exits : List (List Exit)) (far firsts : List ℕ) (k : ℕ) → length far ≤ k → AreFirstBelow exits far firsts k → AreFirst exits far firsts
first-all exits far firsts k long all v down = by (cases_order (place_in v down) k)
  where
    past : k ≤ place_in v down → IsFirst exits far v down (get_or firsts (place_in v down) 0)
    past l some few = let at : far_at far v down ≡ 255 = past-far far (place_in v down) (omega arith) in absurd (omega arith)

    by : (place_in v down ≡ k) ⊎ ((place_in v down < k) ⊎ (k < place_in v down)) → IsFirst exits far v down (get_or firsts (place_in v down) 0)
    by (inl e) = past (omega arith)
    by (inr (inl a)) = all.each v down a
    by (inr (inr a)) = past (omega arith)

-- the ports of a vertex are at most 31
pub exits-few : (m : NetMap) (order : List ℕ) (v n : ℕ) → length (exits_below m order v n) ≤ n
unfolding exits_below
exits-few m order v zero = omega arith
exits-few m order v (suc n) = let rest = exits-few m order v n in let one = longer (exits_below m order v n) (exit_at m order v n) in omega arith
  where
    longer : (xs : List Exit) (o : Option Exit) → length (xs ++ option_to_list o) ≤ length xs + 1
    longer [] None = omega arith
    longer [] (Some x) = omega arith
    longer (y ∷ ys) o = let l = longer ys o in omega arith

le-self : (a b : ℕ) → a ≡ b → nat_le a b ≡ true
le-self a b e = grind (arith, nat_tests)

le-above : (a b : ℕ) → b < a → nat_le a b ≡ false
le-above a b l = grind (arith, nat_tests)

le-from : (a b : ℕ) → nat_le a b ≡ true → a ≤ b
le-from a b e = grind (arith, nat_tests)

not-le : (a b : ℕ) → nat_le a b ≡ false → b < a
not-le a b e = grind (arith, nat_tests)

-- what the distances say of one
pub distance-of : (m : NetMap) (order : List ℕ) (to : ℕ) (far : List ℕ) (k v : ℕ) (down : Bool) → AreDistances m order to far → k < 255 → far_at far v down ≡ k → IsDistance m order to k v down
distance-of m order to far k v down d few is = record {
  near = sym (d.each k v down few) ∙ le-self (far_at far v down) k is;
  least = λ j l. sym (d.each j v down (less-trans j k 255 l few)) ∙ le-above (far_at far v down) j (subst (λ n. j < n) (sym is) l);
}
  where
    less-trans : (i j k : ℕ) → i < j → j < k → i < k
    less-trans i j k a b = omega arith

pub far-of : (m : NetMap) (order : List ℕ) (to : ℕ) (far : List ℕ) (k v : ℕ) (down : Bool) → AreDistances m order to far → k < 255 → IsDistance m order to k v down → far_at far v down ≡ k
far-of m order to far k v down d few is = by (cases_order (far_at far v down) k)
  where
    less-trans : (i j k : ℕ) → i < j → j < k → i < k
    less-trans i j k a b = omega arith

    most : far_at far v down ≤ k
    most = le-from (far_at far v down) k (d.each k v down few ∙ is.near)

    by : (far_at far v down ≡ k) ⊎ ((far_at far v down < k) ⊎ (k < far_at far v down)) → far_at far v down ≡ k
    by (inl e) = e
    by (inr (inl a)) = let low : far_at far v down < 255 = less-trans (far_at far v down) k 255 a few in absurd (false≢true (sym (is.least (far_at far v down) a) ∙ sym (d.each (far_at far v down) v down low) ∙ le-self (far_at far v down) (far_at far v down) refl))
    by (inr (inr a)) = let m = most in absurd (omega arith)

some-next : (t u : ℤ) (x y : Entered) → ◌≡◌ {A = Option (ℤ × Entered)} (Some (t, x)) (Some (u, y)) → x ≡ y
some-next t u x y e = let pair : ◌≡◌ {A = ℤ × Entered} (t, x) (u, y) = cc in ap (λ z. z.1) pair

-- a first port leads to a distance that is one less
pub fall-by-one : (m : NetMap) (order : List ℕ) (to : ℕ) (far : List ℕ) → IsMap m → AreDistances m order to far → FallByOne (all_exits m order) far
fall-by-one m order to far r d = record { each = each }
  where
    each : (k : ℕ) (e : Entered) (x : Exit) → far_at far e.v e.down ≡ suc k → suc k < 255 → first_exit far k e.down (exits_at (all_exits m order) e.v) ≡ Some x → far_at far x.next.v x.next.down ≡ k
    each k e x is few first =
        let dist = distance-of m order to far (suc k) e.v e.down d few is in
        let y = exit-of m order to k e.v e.down dist in
        let on = next-distance m order to k e.v e.down r dist y in
        let low : k < 255 = omega arith in
        let best : turn_by e (Some x) ≡ best_turn m order (reaches m order to k) e =
        ap (turn_by e) (sym first) ∙ ap (λ xs. turn_by e (first_exit far k e.down xs)) (exits-any m order e.v r) ∙ first-turn m order far k e ∙ ap (λ (g : ℕ → Bool → Bool). best_turn m order g e) (within-reaches m order to far k d low) in
        let turned = best ∙ far-exit m order (reaches m order to k) e y in
        let next : x.next ≡ arrival m order (port_of_place e.v y.at) y.far = some-next (x.port -ℤ e.port) ((pos y.at -ℤ pos 15) -ℤ e.port) x.next (arrival m order (port_of_place e.v y.at) y.far) turned in
        ap (λ (z : Entered). far_at far z.v z.down) next ∙ far-of m order to far k y.far.v (not (is_up m order (port_of_place e.v y.at))) d low on
