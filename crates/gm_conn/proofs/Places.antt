-- The lanes of a host, one among others, as they change.
use Rattle.std.proofs.Common.{◌≡◌, ◌<◌, ℕ, zero, suc, Bool, true, false, nat_eq, List, [], ◌∷◌, length, refl, sym, ap, ◌∙◌, subst, arith}
use Rattle.std.specs.Prelude.{replicate, slice_index_or, slice_set, Result, Ok, Err, OnOk, IfOk}
use Rattle.std.proofs.lemmas.Bool.Decides.{nat_tests}
use Rattle.std.proofs.lemmas.List.{map-set, length-set, length-map, get_or-map, get_or-set_same, get_or-set_other}
use Rattle.world_defs.specs.Lane.{LaneState, new_lane}
use Rattle.world_defs.specs.Node.{lane_count, lane_of, prio_of, sends_on}
use Rattle.world_defs.proofs.Lanes.{lane_of-below}
use Rattle.gm_conn.specs.Lane.{HostLane, in_state, unused}
use Rattle.gm_conn.specs.Lanes.{HostLanes, AreOf, lane_in, held_lane, with_state, states, nobody}

-- a value that was read within a list is the one at its place
pub read-within : (ps : List HostLane) (i : ℕ) (x : HostLane) → i < length ps → x ≡ slice_index_or ps i x → x ≡ slice_index_or ps i nobody
read-within [] i x h e = absurd (omega arith)
read-within (y ∷ ps) zero x h e = e
read-within (y ∷ ps) (suc i) x h e = read-within ps i x (omega arith) e

-- the lanes of a host are as many as its states
pub count-is : (v : HostLanes) (host hosts : ℕ) (ps : List HostLane) → record { host = host; hosts = hosts; lanes = states ps } ≡ v → length ps ≡ length v.lanes
count-is v host hosts ps is = sym (length-map ps (λ p. p.state)) ∙ ap (λ h. length h.lanes) is

-- what was read at a number is the lane
pub lane-is : (v : HostLanes) (host hosts : ℕ) (ps : List HostLane) (lane i : ℕ) (x : HostLane) → record { host = host; hosts = hosts; lanes = states ps } ≡ v → AreOf host hosts ps → lane < length v.lanes → i ≡ lane
    → x ≡ slice_index_or ps i x → x ≡ held_lane v lane
lane-is v host hosts ps lane i x is kept below at e =
    let count = count-is v host hosts ps is in
    let within : i < length ps = omega (arith, at, count, below) in
    let there : x ≡ slice_index_or ps i nobody = read-within ps i x within e in
    let o = kept.own i within in
    let state : x.state ≡ lane_in v lane =
    ap (λ p. p.state) there ∙ sym (get_or-map (λ p. p.state) ps i nobody new_lane within) ∙ ap (λ k. slice_index_or (states ps) k new_lane) at ∙ ap (λ h. lane_in h lane) is in
    let key : x.key ≡ sends_on v.host lane = ap (λ p. p.key) there ∙ o ∙ (λ k. sends_on (is k).host (at k)) in
    λ k. record { key = key k; state = state k }

pub with-is : (v : HostLanes) (host hosts : ℕ) (ps : List HostLane) (lane i : ℕ) (q : HostLane) → record { host = host; hosts = hosts; lanes = states ps } ≡ v → i ≡ lane
    → record { host = host; hosts = hosts; lanes = states (slice_set ps i q) } ≡ with_state v lane q.state
with-is v host hosts ps lane i q is at =
    ap (λ (l : List LaneState). record { host = host; hosts = hosts; lanes = l }) (map-set (λ p. p.state) ps i q ∙ ap (λ k. slice_set (states ps) k q.state) at)
    ∙ ap (λ h. with_state h lane q.state) is

-- one lane's state changes
pub changed-lanes : (v : HostLanes) (host hosts : ℕ) (ps : List HostLane) (lane i : ℕ) (x q : HostLane) (f : LaneState → LaneState) → record { host = host; hosts = hosts; lanes = states ps } ≡ v → AreOf host hosts ps
    → lane < length v.lanes → i ≡ lane → x ≡ slice_index_or ps i x → q ≡ in_state x (f x.state)
    → record { host = host; hosts = hosts; lanes = states (slice_set ps i q) } ≡ with_state v lane (f (lane_in v lane))
changed-lanes v host hosts ps lane i x q f is kept below at e new =
    let here : x ≡ held_lane v lane = lane-is v host hosts ps lane i x is kept below at e in
    with-is v host hosts ps lane i q is at ∙ ap (with_state v lane) (ap (λ p. p.state) new ∙ ap (λ p. f p.state) here)

pub kept-lanes : (host hosts : ℕ) (ps : List HostLane) (i : ℕ) (x q : HostLane) → AreOf host hosts ps → i < length ps → x ≡ slice_index_or ps i x → q.key ≡ x.key
    → AreOf host hosts (slice_set ps i q)
kept-lanes host hosts ps i x q kept within e stays = record {
  counted = length-set ps i q ∙ kept.counted;
  own = λ k below. by k (let l = length-set ps i q in omega (arith, l, below)) (nat_eq k i) refl;
}
  where
    there : x ≡ slice_index_or ps i nobody
    there = read-within ps i x within e

    by : (k : ℕ) → k < length ps → (t : Bool) → nat_eq k i ≡ t → (slice_index_or (slice_set ps i q) k nobody).key ≡ sends_on host k
    by k below true t =
        let f : k ≡ i = grind (arith, nat_tests) in
        let at : slice_index_or (slice_set ps i q) k nobody ≡ q = ap (λ j. slice_index_or (slice_set ps i q) j nobody) f ∙ get_or-set_same ps i q nobody within in
        let o = kept.own i within in
        ap (λ p. p.key) at ∙ stays ∙ ap (λ p. p.key) there ∙ o ∙ ap (sends_on host) (sym f)
    by k below false t =
        let differs : k ≡ i → ⊥ = λ f. grind (arith, nat_tests) in
        let at : slice_index_or (slice_set ps i q) k nobody ≡ slice_index_or ps k nobody = get_or-set_other ps i k q nobody differs in
        let o = kept.own k below in
        ap (λ p. p.key) at ∙ o

-- what follows where an answer is one
pub on-ok : {A E : Type 0} {P Q : Type 0} (r : Result A E) → (P → Q) → OnOk r P → OnOk r Q
on-ok (Ok a) f h = f h
on-ok (Err e) f h = tt

pub if-ok : {A E : Type 0} {P Q : A → Type 0} (r : Result A E) → ((a : A) → P a → Q a) → IfOk r P → IfOk r Q
if-ok (Ok a) f h = f a h
if-ok (Err e) f h = tt

-- The first so many lanes of a host, before anything was sent.
pub record AreFirst (host n : ℕ) (ps : List HostLane) : Type 0 where
  pub counted : length ps ≡ n
  pub own : (lane : ℕ) → lane < n → slice_index_or ps lane nobody ≡ unused (sends_on host lane)
  pub states_are : states ps ≡ replicate n new_lane

pub first-none : (host : ℕ) → AreFirst host 0 []
first-none host = record { counted = refl; own = λ k h. absurd (omega arith); states_are = refl }

-- all of them
pub first-all : (host hosts n : ℕ) (ps : List HostLane) → n ≡ lane_count hosts → AreFirst host n ps → AreOf host hosts ps
first-all host hosts n ps all first = record {
  counted = first.counted ∙ all;
  own = λ k below. let c = first.counted in let o = first.own k (omega (arith, c, below)) in ap (λ p. p.key) o;
}

-- a lane of a peer and a priority is one of them
pub number-below : (v : HostLanes) (host hosts : ℕ) (ps : List HostLane) (peer prio : ℕ) → record { host = host; hosts = hosts; lanes = states ps } ≡ v → AreOf host hosts ps → peer < v.hosts
    → lane_of peer prio < length v.lanes
number-below v host hosts ps peer prio is kept low =
    let same : hosts ≡ v.hosts = ap (λ h. h.hosts) is in
    let count : length v.lanes ≡ lane_count hosts = sym (count-is v host hosts ps is) ∙ kept.counted in
    subst (λ n. lane_of peer prio < n) (sym count) (lane_of-below hosts peer prio (omega (arith, low, same)))

-- how many there are
pub counted-is : (v : HostLanes) (host hosts : ℕ) (ps : List HostLane) → record { host = host; hosts = hosts; lanes = states ps } ≡ v → AreOf host hosts ps → length v.lanes ≡ lane_count hosts
counted-is v host hosts ps is kept = sym (count-is v host hosts ps is) ∙ kept.counted

-- a message of a priority goes by its lane
pub of-prio : (v : HostLanes) (host hosts : ℕ) (ps : List HostLane) (peer prio i : ℕ) (x : HostLane) → record { host = host; hosts = hosts; lanes = states ps } ≡ v → AreOf host hosts ps → peer < v.hosts → prio < 2
    → i ≡ lane_of peer prio → x ≡ slice_index_or ps i x → prio ≡ x.key.prio
of-prio v host hosts ps peer prio i x is kept low of at e =
    let here : x ≡ held_lane v (lane_of peer prio) = lane-is v host hosts ps (lane_of peer prio) i x is kept (number-below v host hosts ps peer prio is kept low) at e in
    let place : prio_of (lane_of peer prio) ≡ prio = omega (arith, of) in
    sym (ap (λ p. p.key.prio) here ∙ place)
