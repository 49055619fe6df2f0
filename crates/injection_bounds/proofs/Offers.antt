-- What a client's call leaves unacknowledged: as much as before it, and the pieces of a message that it accepts.
use Rattle.std.proofs.Common.{◌≡◌, ◌≢◌, ◌≤◌, ◌+◌, ℕ, zero, suc, Bool, true, false, List, [], ◌∷◌, map, length, get_or, set, nat_eq, refl, ap, subst, arith, length-set, if◌then◌else◌}
use Rattle.std.specs.List.{range_with_len}
use Rattle.std.proofs.lemmas.Bool.Decides.{nat_tests}
use Rattle.gm_defs.specs.Connection.{unacknowledged}
use Rattle.world_defs.specs.Lane.{LaneState, new_lane}
use Rattle.world_defs.specs.Node.{NodeState, lane_of, new_node}
use Rattle.world_defs.specs.World.{WorldState, host_count, node_at, with_node, sum_of}
use Rattle.world_defs.specs.Settle.{unacknowledged_in}

-- a write elsewhere, and one here
set-other : {X : Type 0} (xs : List X) (i j : ℕ) (y d : X) → i ≢ j → get_or (set xs i y) j d ≡ get_or xs j d
set-other [] i j y d ne = refl
set-other (x ∷ xs) zero zero y d ne = absurd (ne refl)
set-other (x ∷ xs) zero (suc j) y d ne = refl
set-other (x ∷ xs) (suc i) zero y d ne = refl
set-other (x ∷ xs) (suc i) (suc j) y d ne = set-other xs i j y d (λ e. ne (ap suc e))

set-here : {X : Type 0} (f : X → ℕ) (xs : List X) (i : ℕ) (y d : X) (k : ℕ) → f y ≤ f (get_or xs i d) + k → f (get_or (set xs i y) i d) ≤ f (get_or xs i d) + k
set-here f [] i y d k low = omega arith
set-here f (x ∷ xs) zero y d k low = low
set-here f (x ∷ xs) (suc i) y d k low = set-here f xs i y d k low

-- sums over a range in which one value rises
range-le : (f g : ℕ → ℕ) (a len : ℕ) → ((j : ℕ) → a ≤ j → f j ≤ g j) → sum_of (map f (range_with_len a len)) ≤ sum_of (map g (range_with_len a len))
range-le f g a zero all = omega arith
range-le f g a (suc len) all =
    let one = all a (omega arith) in
    let rest = range-le f g (a + 1) len (λ j low. all j (omega (arith, low))) in
    omega (arith, one, rest)

range-one : (f g : ℕ → ℕ) (i k a len : ℕ) → ((j : ℕ) → i ≢ j → f j ≤ g j) → f i ≤ g i + k → sum_of (map f (range_with_len a len)) ≤ sum_of (map g (range_with_len a len)) + k
range-one f g i k a zero other own = omega arith
range-one f g i k a (suc len) other own = by (nat_eq i a) refl (range-one f g i k (a + 1) len other own)
  where
    by : (b : Bool) → nat_eq i a ≡ b → sum_of (map f (range_with_len (a + 1) len)) ≤ sum_of (map g (range_with_len (a + 1) len)) + k → sum_of (map f (range_with_len a (suc len))) ≤ sum_of (map g (range_with_len a (suc len))) + k
    by true e ih =
        let same : i ≡ a = grind (arith, nat_tests) in
        let one : f a ≤ g a + k = subst (λ x. f x ≤ g x + k) same own in
        let rest = range-le f g (a + 1) len (λ j low. other j (λ d. let bad : a ≡ j = omega (arith, same, d) in omega (arith, low, bad))) in
        omega (arith, one, rest)
    by false e ih =
        let one = other a (λ d. let bad : nat_eq i a ≡ true = grind (arith, nat_tests) in cc) in
        omega (arith, one, ih)

-- what isn't acknowledged of lanes
abbrev pub unacknowledged_by : List LaneState → ℕ → ℕ
unacknowledged_by ls p = unacknowledged (get_or ls (lane_of p 0) new_lane).sender + unacknowledged (get_or ls (lane_of p 1) new_lane).sender

-- of a host, to so many peers
abbrev pub from_host : List LaneState → ℕ → ℕ
from_host ls hosts = sum_of (map (unacknowledged_by ls) (range_with_len 0 hosts))

-- one lane more offers some fragments
abbrev due : LaneState → ℕ
due l = unacknowledged l.sender

lane-here : (ls : List LaneState) (lane x : ℕ) (q : LaneState) (k : ℕ) → due q ≤ due (get_or ls lane new_lane) + k → due (get_or (set ls lane q) x new_lane) ≤ due (get_or ls x new_lane) + (if nat_eq lane x then k else 0)
lane-here ls lane x q k low = by (nat_eq lane x) refl
  where
    by : (b : Bool) → nat_eq lane x ≡ b → due (get_or (set ls lane q) x new_lane) ≤ due (get_or ls x new_lane) + (if b then k else 0)
    by true e =
        let same : lane ≡ x = grind (arith, nat_tests) in
        subst (λ j. due (get_or (set ls lane q) j new_lane) ≤ due (get_or ls j new_lane) + k) same (set-here due ls lane q new_lane k low)
    by false e =
        let other : lane ≢ x = λ d. (let bad : nat_eq lane x ≡ true = grind (arith, nat_tests) in cc) in
        let h : due (get_or (set ls lane q) x new_lane) ≡ due (get_or ls x new_lane) = ap due (set-other ls lane x q new_lane other) in
        omega (arith, h)

offered-by : (ls : List LaneState) (dest prio : ℕ) (q : LaneState) (k p : ℕ) → due q ≤ due (get_or ls (lane_of dest prio) new_lane) + k
    → unacknowledged_by (set ls (lane_of dest prio) q) p ≤ unacknowledged_by ls p + (if nat_eq dest p then k else 0)
offered-by ls dest prio q k p low = by (nat_eq lane (lane_of p 0)) (nat_eq lane (lane_of p 1)) (nat_eq dest p) refl refl refl (lane-here ls lane (lane_of p 0) q k low) (lane-here ls lane (lane_of p 1) q k low)
  where
    lane : ℕ
    lane = lane_of dest prio

    by : (a b c : Bool) → nat_eq lane (lane_of p 0) ≡ a → nat_eq lane (lane_of p 1) ≡ b → nat_eq dest p ≡ c
        → due (get_or (set ls lane q) (lane_of p 0) new_lane) ≤ due (get_or ls (lane_of p 0) new_lane) + (if a then k else 0)
        → due (get_or (set ls lane q) (lane_of p 1) new_lane) ≤ due (get_or ls (lane_of p 1) new_lane) + (if b then k else 0)
        → unacknowledged_by (set ls lane q) p ≤ unacknowledged_by ls p + (if c then k else 0)
    by true true c d e f x y =
        let one : lane ≡ lane_of p 0 = grind (arith, nat_tests) in
        let two : lane ≡ lane_of p 1 = grind (arith, nat_tests) in
        absurd (omega (arith, one, two))
    by true false true d e f x y = omega (arith, x, y)
    by false true true d e f x y = omega (arith, x, y)
    by false false c d e f x y = omega (arith, x, y)
    by true false false d e f x y =
        let one : lane ≡ lane_of p 0 = grind (arith, nat_tests) in
        let same : dest ≡ p = omega (arith, one) in
        let bad : nat_eq dest p ≡ true = grind (arith, nat_tests) in cc
    by false true false d e f x y =
        let one : lane ≡ lane_of p 1 = grind (arith, nat_tests) in
        let same : dest ≡ p = omega (arith, one) in
        let bad : nat_eq dest p ≡ true = grind (arith, nat_tests) in cc

pub offered-host : (ls : List LaneState) (dest prio : ℕ) (q : LaneState) (k hosts : ℕ) → due q ≤ due (get_or ls (lane_of dest prio) new_lane) + k → from_host (set ls (lane_of dest prio) q) hosts ≤ from_host ls hosts + k
offered-host ls dest prio q k hosts low =
    range-one (unacknowledged_by (set ls (lane_of dest prio) q)) (unacknowledged_by ls) dest k 0 hosts other own
  where
    other : (j : ℕ) → dest ≢ j → unacknowledged_by (set ls (lane_of dest prio) q) j ≤ unacknowledged_by ls j
    other j ne =
        let h = offered-by ls dest prio q k j low in
        let away : nat_eq dest j ≡ false = grind (arith, nat_tests) in
        let none : ◌≡◌ {A = ℕ} (if nat_eq dest j then k else 0) 0 = ap (λ b. if b then k else 0) away in
        omega (arith, h, none)

    own : unacknowledged_by (set ls (lane_of dest prio) q) dest ≤ unacknowledged_by ls dest + k
    own =
        let h = offered-by ls dest prio q k dest low in
        let here : nat_eq dest dest ≡ true = grind (arith, nat_tests) in
        let all : ◌≡◌ {A = ℕ} (if nat_eq dest dest then k else 0) k = ap (λ b. if b then k else 0) here in
        omega (arith, h, all)

-- a host changes its lanes so
pub host-offers : (w : WorldState) (h : ℕ) (m : NodeState) (k : ℕ) → ((hosts : ℕ) → from_host m.lanes hosts ≤ from_host (node_at w h).lanes hosts + k) → unacknowledged_in (with_node w h m) ≤ unacknowledged_in w + k
host-offers w h m k low =
    let hosts : ℕ = host_count w in
    let v : WorldState = with_node w h m in
    let same : length (set w.nodes h m) ≡ length w.nodes = length-set w.nodes h m in
    let all : unacknowledged_in v ≡ sum_of (map (λ g. from_host (node_at v g).lanes hosts) (range_with_len 0 hosts)) =
    ap (λ n. sum_of (map (λ g. from_host (node_at v g).lanes n) (range_with_len 0 n))) same in
    let risen = range-one (λ g. from_host (node_at v g).lanes hosts) (λ g. from_host (node_at w g).lanes hosts) h k 0 hosts
    (λ g ne. let e : from_host (node_at v g).lanes hosts ≡ from_host (node_at w g).lanes hosts = ap (λ n. from_host n.lanes hosts) (set-other w.nodes h g m (new_node 0) ne) in omega (arith, e))
    (set-here (λ n. from_host n.lanes hosts) w.nodes h m (new_node 0) k (low hosts)) in
    omega (arith, all, risen)
