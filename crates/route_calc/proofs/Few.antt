-- The vertices of a shortest legal way are different switches.
use Rattle.std.proofs.Common.{◌≡◌, ◌≢◌, ◌<◌, ◌≤◌, ◌+◌, ℕ, zero, suc, List, [], ◌∷◌, length, Bool, true, false, not, refl, ap, sym, ◌∙◌, subst, arith, ◌⊎◌, inl, inr, nat_eq}
use Rattle.std.specs.Prelude.{slice_get}
use Rattle.std.specs.Cmp.{IsEquivalence}
use Rattle.std.proofs.lemmas.Map.Made.{length-le_from_is_member}
use Rattle.journal_defs.proofs.Order.{or-left, or-right}
use Rattle.route_calc.proofs.First.{first-there, first-some}
use Rattle.std.specs.List.{AllByRecursion, IsDistinct, list_any}
use Rattle.std.proofs.lemmas.Bool.{false≢true, or_cases}
use Rattle.std.proofs.lemmas.Bool.Decides.{Decides-eqb}
use Rattle.net_defs.specs.Network.{Apart}
use Rattle.journal_defs.proofs.Members.{IsMember, all-member, all-from-members}
use Rattle.map_defs.specs.declared.vertex.MapVertex.{MapVertex}
use Rattle.map_defs.specs.declared.vertex.MapVertex.TheVariants.{Host, Switch}
use Rattle.map_defs.specs.NetMap.{NetMap, IsMap, is_switch_vertex, switch_at, switches_of}
use Rattle.map_defs.specs.Orientation.{is_up}
use Rattle.route_calc.specs.Reaching.{may_go, reaches, port_of_place}
use Rattle.route_calc.proofs.Reached.{reaches-free}
use Rattle.route_calc.specs.Ways.{IsDistance}
use Rattle.route_calc.proofs.Best.{exit-of, next-distance}

-- A switch from which some channels lead there.
record Stop (m : NetMap) (order : List ℕ) (to k : ℕ) (down : Bool) (u : ℕ) : Type 0 where
  pub channels : ℕ
  pub few : channels ≤ k
  pub phase : Bool
  pub near : reaches m order to channels u phase ≡ true
  pub stays : down ≡ true → phase ≡ true
  pub switch : is_switch_vertex m u ≡ true

-- The switches of a shortest way.
record Stops (m : NetMap) (order : List ℕ) (to k : ℕ) (down : Bool) : Type 0 where
  pub at : List ℕ
  pub long : length at ≡ k
  pub apart : Apart at
  pub each : AllByRecursion (Stop m order to k down) at

goes-down : (down up : Bool) → may_go down up ≡ true → down ≡ true → not up ≡ true
goes-down true true e d = e
goes-down true false e d = refl
goes-down false up e d = absurd (false≢true d)

near-same : (m : NetMap) (order : List ℕ) (to k v : ℕ) (down phase : Bool) → (down ≡ true → phase ≡ true) → reaches m order to k v phase ≡ true → reaches m order to k v down ≡ true
near-same m order to k v true true s e = e
near-same m order to k v true false s e = absurd (false≢true (s refl))
near-same m order to k v false true s e = reaches-free m order to k v e
near-same m order to k v false false s e = e

stop-later : (m : NetMap) (order : List ℕ) (to k : ℕ) (down up : Bool) (u : ℕ) → may_go down up ≡ true → Stop m order to k (not up) u → Stop m order to (suc k) down u
stop-later m order to k down up u go s = record { channels = s.channels; few = (let l = s.few in let n : s.channels ≤ suc k = omega arith in n); phase = s.phase; near = s.near; stays = λ d. s.stays (goes-down down up go d); switch = s.switch }

stop-differs : (m : NetMap) (order : List ℕ) (to k v : ℕ) (down up : Bool) (u : ℕ) → IsDistance m order to (suc k) v down → may_go down up ≡ true → Stop m order to k (not up) u → v ≢ u
stop-differs m order to k v down up u d go s e =
    let l = s.few in
    let here : reaches m order to s.channels v s.phase ≡ true = subst (λ z. reaches m order to s.channels z s.phase ≡ true) (sym e) s.near in
    let near = near-same m order to s.channels v down s.phase (λ p. s.stays (goes-down down up go p)) here in
    false≢true (sym (d.least s.channels (let n : s.channels < suc k = omega arith in n)) ∙ near)

stops : (m : NetMap) (order : List ℕ) (to k v : ℕ) (down : Bool) → IsMap m → IsDistance m order to k v down → Stops m order to k down
stops m order to zero v down r d = record { at = []; long = refl; apart = tt; each = tt }
stops m order to (suc k) v down r d =
    let x = exit-of m order to k v down d in
    let up = is_up m order (port_of_place v x.at) in
    let rest = stops m order to k x.far.v (not up) r (next-distance m order to k v down r d x) in
    record {
      at = v ∷ rest.at;
      long = ap suc rest.long;
      apart = (all-from-members (λ u. v ≢ u) rest.at (λ u i. stop-differs m order to k v down up u d x.legal (all-member (Stop m order to k (not up)) u rest.at rest.each i)), rest.apart);
      each = (record { channels = suc k; few = omega arith; phase = down; near = d.near; stays = λ e. e; switch = x.switch }, all-from-members (Stop m order to (suc k) down) rest.at (λ u i. stop-later m order to k down up u x.legal (all-member (Stop m order to k (not up)) u rest.at rest.each i)));
    }

-- the vertices that are switches, from a number on
switch_places : List MapVertex → ℕ → List ℕ
switch_places [] b = []
switch_places (Host h ∷ vs) b = switch_places vs (suc b)
switch_places (Switch s ∷ vs) b = b ∷ switch_places vs (suc b)

places-long : (vs : List MapVertex) (b : ℕ) → length (switch_places vs b) ≡ length (switches_of vs)
unfolding switch_places
places-long [] b = refl
places-long (Host h ∷ vs) b = places-long vs (suc b)
places-long (Switch s ∷ vs) b = ap suc (places-long vs (suc b))

places-member : (vs : List MapVertex) (b v n : ℕ) → n ≡ b + v → switch_at (slice_get vs v) ≡ true → IsMember n (switch_places vs b)
unfolding switch_places
places-member [] b v n e s = absurd (false≢true s)
places-member (Host h ∷ vs) b zero n e s = absurd (false≢true s)
places-member (Switch t ∷ vs) b zero n e s = inl (omega arith)
places-member (Host h ∷ vs) b (suc v) n e s = places-member vs (suc b) v n (omega arith) s
places-member (Switch t ∷ vs) b (suc v) n e s = inr (places-member vs (suc b) v n (omega arith) s)

eq-same : (a b : ℕ) → nat_eq a b ≡ true → a ≡ b
eq-same a b e = (Decides-eqb a b).0 e

numbers-equiv : IsEquivalence nat_eq
numbers-equiv = record { refl = λ a. (Decides-eqb a a).1 refl; symm = both_ways; congr = λ a b c e. ap (λ z. nat_eq z c) (eq-same a b e) }
  where
    other : (a b : ℕ) → nat_eq a b ≡ true → nat_eq b a ≡ true
    other a b e = (Decides-eqb b a).1 (sym (eq-same a b e))

    both_ways : (a b : ℕ) → nat_eq a b ≡ nat_eq b a
    both_ways a b = by (nat_eq a b) (nat_eq b a) refl refl
      where
        by : (s t : Bool) → nat_eq a b ≡ s → nat_eq b a ≡ t → s ≡ t
        by true t p q = sym (other a b p) ∙ q
        by false true p q = sym p ∙ other b a q
        by false false p q = refl

any-member : (x : ℕ) (xs : List ℕ) → list_any (nat_eq x) xs ≡ true → IsMember x xs
any-member x [] e = false≢true e
any-member x (y ∷ ys) e = by (or_cases (nat_eq x y) (list_any (nat_eq x) ys) e) (any-member x ys)
  where
    by : (nat_eq x y ≡ true) ⊎ (list_any (nat_eq x) ys ≡ true) → (list_any (nat_eq x) ys ≡ true → IsMember x ys) → (x ≡ y) ⊎ IsMember x ys
    by (inl p) rest = inl (eq-same x y p)
    by (inr p) rest = inr (rest p)

member-any : (x : ℕ) (xs : List ℕ) → IsMember x xs → list_any (nat_eq x) xs ≡ true
member-any x [] m = absurd m
member-any x (y ∷ ys) (inl e) = or-left (nat_eq x y) (list_any (nat_eq x) ys) ((Decides-eqb x y).1 e)
member-any x (y ∷ ys) (inr m) = or-right (nat_eq x y) (list_any (nat_eq x) ys) (member-any x ys m)

eq-false : (a b : ℕ) → a ≢ b → nat_eq a b ≡ false
eq-false a b differ = by (nat_eq a b) refl
  where
    by : (t : Bool) → nat_eq a b ≡ t → nat_eq a b ≡ false
    by true e = absurd (differ (eq-same a b e))
    by false e = e

all-weaker : (P Q : ℕ → Type 0) (xs : List ℕ) → ((x : ℕ) → P x → Q x) → AllByRecursion P xs → AllByRecursion Q xs
all-weaker P Q [] f all = tt
all-weaker P Q (x ∷ xs) f all = (f x all.0, all-weaker P Q xs f all.1)

distinct : (xs : List ℕ) → Apart xs → IsDistinct nat_eq xs
unfolding IsDistinct
distinct [] a = tt
distinct (x ∷ xs) a = (all-weaker (λ y. x ≢ y) (λ y. nat_eq x y ≡ false) xs (λ y d. eq-false x y d) a.0, distinct xs a.1)

-- a shortest way passes no switch twice
pub distance-few : (m : NetMap) (order : List ℕ) (to k v : ℕ) (down : Bool) → IsMap m → IsDistance m order to k v down → k ≤ length (switches_of m.vertices)
distance-few m order to k v down r d =
    let s = stops m order to k v down r d in
    let ys = switch_places m.vertices 0 in
    let most : length s.at ≤ length ys = length-le_from_is_member numbers-equiv s.at ys (distinct s.at s.apart) (λ u e. member-any u ys (places-member m.vertices 0 u u (omega arith) (all-member (Stop m order to k down) u s.at s.each (any-member u s.at e)).switch)) in
    let same = places-long m.vertices 0 in
    let long = s.long in
    omega arith

-- the fewest channels
pub record Fewest (m : NetMap) (order : List ℕ) (to k v : ℕ) (down : Bool) : Type 0 where
  pub channels : ℕ
  pub below : channels ≤ k
  pub is : IsDistance m order to channels v down

pub fewest : (m : NetMap) (order : List ℕ) (to k v : ℕ) (down : Bool) → reaches m order to k v down ≡ true → Fewest m order to k v down
fewest m order to k v down e =
    let f = first-there (suc k) (λ j. reaches m order to j v down) (first-some (suc k) k (λ j. reaches m order to j v down) (omega arith) e) in
    record { channels = f.at; below = (let l = f.low in let n : f.at ≤ k = omega arith in n); is = record { near = f.passes; least = f.least } }
