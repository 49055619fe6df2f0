-- While nothing is offered, what isn't acknowledged gets less exactly where a base rises.
use Rattle.std.proofs.Common.{◌≡◌, ◌≤◌, ℕ, Bool, true, false, not, ◌||◌, List, [], ◌∷◌, map, nat_eq, nat_lt, sym, ◌∙◌, ap, refl, arith, true≢false}
use Rattle.std.specs.List.{list_any}
use Rattle.std.proofs.lemmas.Bool.Decides.{nat_tests}
use Rattle.world_defs.specs.Node.{lane_of, unacknowledged_on, unacknowledged_to}
use Rattle.world_defs.specs.World.{WorldState, node_at, addresses, sum_of}
use Rattle.world_defs.specs.Settle.{unacknowledged_from, unacknowledged_in, base_of, rose_to, base_rose, is_last_round}
use Rattle.world_laws.specs.Shape.{HasSenders}
use Rattle.world_laws.proofs.Rounds.{Going, going_senders, fragments-addresses, fragments-less}

-- sums over the same hosts
sum-same : (f g : ℕ → ℕ) (t : ℕ → Bool) (ns : List ℕ) → ((n : ℕ) → t n ≡ false → g n ≤ f n) → list_any t ns ≡ false → sum_of (map g ns) ≤ sum_of (map f ns)
sum-same f g t [] all e = omega arith
sum-same f g t (n ∷ ns) all e = by (t n) refl e (sum-same f g t ns all)
  where
    by : (b : Bool) → t n ≡ b → (b || list_any t ns) ≡ false → (list_any t ns ≡ false → sum_of (map g ns) ≤ sum_of (map f ns)) → sum_of (map g (n ∷ ns)) ≤ sum_of (map f (n ∷ ns))
    by true u d ih = absurd (true≢false d)
    by false u d ih = let a = all n u in let c = ih d in omega (arith, a, c)

-- one lane, and one pair
lane_same : (w v : WorldState) → Going w v → (h p prio : ℕ) → nat_lt (base_of w h p prio) (base_of v h p prio) ≡ false → unacknowledged_on (node_at w h) (lane_of p prio) ≤ unacknowledged_on (node_at v h) (lane_of p prio)
lane_same w v k h p prio e =
    let s = (k.nodes.each h).senders (lane_of p prio) in
    let b = s.next in
    let high : base_of v h p prio ≤ base_of w h p prio = grind (arith, nat_tests) in
    omega (arith, b, high)

neither : (x y : Bool) → (x || y) ≡ false → (x ≡ false) × (y ≡ false)
neither true y e = absurd (true≢false e)
neither false y e = (refl, e)

one_same : (w v : WorldState) → Going w v → (h p : ℕ) → rose_to w v h p ≡ false → unacknowledged_to (node_at w h) p ≤ unacknowledged_to (node_at v h) p
one_same w v k h p e =
    let two = neither (nat_lt (base_of w h p 0) (base_of v h p 0)) (nat_lt (base_of w h p 1) (base_of v h p 1)) e in
    let a = lane_same w v k h p 0 two.0 in
    let b = lane_same w v k h p 1 two.1 in
    omega (arith, a, b)

-- all pairs
still-same : (w v : WorldState) → Going w v → base_rose w v ≡ false → unacknowledged_in w ≤ unacknowledged_in v
still-same w v k e =
    let hs : List ℕ = addresses v in
    let a = fragments-addresses w v k in
    let b =
    sum-same (unacknowledged_from v) (λ h. sum_of (map (unacknowledged_to (node_at w h)) hs)) (λ h. list_any (rose_to w v h) hs) hs
    (λ h u. sum-same (unacknowledged_to (node_at v h)) (unacknowledged_to (node_at w h)) (rose_to w v h) hs (one_same w v k h) u) e in
    omega (arith, a, b)

rose-is : (w v : WorldState) → Going w v → HasSenders v → base_rose w v ≡ nat_lt (unacknowledged_in v) (unacknowledged_in w)
rose-is w v k is = by (base_rose w v) refl
  where
    by : (b : Bool) → base_rose w v ≡ b → b ≡ nat_lt (unacknowledged_in v) (unacknowledged_in w)
    by true e = let less = fragments-less w v k is e in grind (arith, nat_tests, less)
    by false e = let same = still-same w v k e in grind (arith, nat_tests, same)

-- the test of a round, by sums and counts
pub last-is : (w v : WorldState) (left_w left_v struck_w struck_v : ℕ) → Going w v → HasSenders w
    → left_w ≡ unacknowledged_in w → left_v ≡ unacknowledged_in v → struck_w ≡ w.struck → struck_v ≡ v.struck
    → (nat_eq left_v 0 || not (nat_lt left_v left_w || nat_lt struck_w struck_v)) ≡ is_last_round w v
last-is w v left_w left_v struck_w struck_v k is a b c d =
    let test : ℕ → ℕ → ℕ → ℕ → Bool = λ (i : ℕ) (j : ℕ) (m : ℕ) (n : ℕ). nat_eq j 0 || not (nat_lt j i || nat_lt m n) in
    ap (λ i. test i left_v struck_w struck_v) a ∙ ap (λ j. test (unacknowledged_in w) j struck_w struck_v) b
    ∙ ap (λ m. test (unacknowledged_in w) (unacknowledged_in v) m struck_v) c ∙ ap (λ n. test (unacknowledged_in w) (unacknowledged_in v) w.struck n) d
    ∙ ap (λ t. nat_eq (unacknowledged_in v) 0 || not (t || nat_lt w.struck v.struck)) (sym (rose-is w v k (going_senders w v k is)))
