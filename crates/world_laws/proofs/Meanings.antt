-- Tests over all hosts, and what they say of each.
use Rattle.std.proofs.Common.{◌≡◌, ◌≢◌, ◌↔◌, ◌<◌, ◌≤◌, ◌+◌, ℕ, zero, suc, Bool, true, false, not, ◌||◌, List, [], ◌∷◌, map, length, nat_eq, nat_lt, inl, inr, refl, sym, ◌∙◌, ap, subst, arith, true≢false}
use Rattle.std.specs.List.{AllByRecursion, range_with_len, list_all, list_any}
use Rattle.std.proofs.lemmas.Bool.Decides.{nat_tests}
use Rattle.net_defs.proofs.Ends.{both}
use Rattle.world_defs.specs.Links.{Caught}
use Rattle.world_defs.specs.Node.{lane_of, sending_lane, lane_at, unacknowledged_to}
use Rattle.world_defs.proofs.Lanes.{lane-within}
use Rattle.world_defs.specs.World.{WorldState, host_count, node_at, addresses, has_to_send, sum_of}
use Rattle.world_defs.specs.Settle.{unacknowledged_from, unacknowledged_in, is_quiet, base_of, rose_to, base_rose}
use Rattle.world_defs.specs.Settled.{IsSettled, IsSettledConnection}
use Rattle.world_laws.specs.Shape.{HasSenders}
use Rattle.world_laws.specs.Tests.{IsQuiet, BaseRose, IsAllAcknowledged}
use Rattle.world_laws.proofs.Lists.{or-cases, first-true, second-true}
use Rattle.world_laws.proofs.Draining.{range-all}

-- all, one by one
all-of : (t : ℕ → Bool) (ns : List ℕ) → list_all t ns ≡ true → AllByRecursion (λ n. t n ≡ true) ns
all-of t [] e = tt
all-of t (n ∷ ns) e = let two = both (t n) (list_all t ns) e in (two.0, all-of t ns two.1)

of-all : (t : ℕ → Bool) (ns : List ℕ) → AllByRecursion (λ n. t n ≡ true) ns → list_all t ns ≡ true
of-all t [] all = refl
of-all t (n ∷ ns) all = let rest : list_all t ns ≡ true = of-all t ns all.1 in rw all.0 rest

range-from : (P : ℕ → Type 0) (a n : ℕ) → ((c : ℕ) → c < a + n → P c) → AllByRecursion P (range_with_len a n)
range-from P a zero all = tt
range-from P a (suc n) all = (all a (omega arith), range-from P (a + 1) n (λ c low. all c (omega (arith, low))))

-- some one
record Found (t : ℕ → Bool) (bound : ℕ) : Type 0 where
  place : ℕ
  low : place < bound
  passes : t place ≡ true

any-of : (t : ℕ → Bool) (a n : ℕ) → list_any t (range_with_len a n) ≡ true → Found t (a + n)
any-of t a zero e = absurd (true≢false (sym e))
any-of t a (suc n) e = by (t a) refl e (any-of t (a + 1) n)
  where
    by : (b : Bool) → t a ≡ b → (b || list_any t (range_with_len (a + 1) n)) ≡ true → (list_any t (range_with_len (a + 1) n) ≡ true → Found t ((a + 1) + n)) → Found t (a + suc n)
    by true u d ih = record { place = a; low = omega arith; passes = u }
    by false u d ih = let f = ih d in let g = f.low in record { place = f.place; low = omega (arith, g); passes = f.passes }

later : (a c : ℕ) → a ≤ c → (a ≡ c → ⊥) → a + 1 ≤ c
later a c low other = let differ : a ≢ c = other in omega (arith, low, differ)

any-from : (t : ℕ → Bool) (a n c : ℕ) → a ≤ c → c < a + n → t c ≡ true → list_any t (range_with_len a n) ≡ true
any-from t a zero c low high e = absurd (omega (arith, low, high))
any-from t a (suc n) c low high e = by (t a) refl (λ h. any-from t (a + 1) n c h (omega (arith, high)) e)
  where
    by : (b : Bool) → t a ≡ b → (a + 1 ≤ c → list_any t (range_with_len (a + 1) n) ≡ true) → (b || list_any t (range_with_len (a + 1) n)) ≡ true
    by true u rest = refl
    by false u rest = rest (later a c low (λ same. true≢false (sym e ∙ (ap t (sym same) ∙ u))))

-- sums of nothing
none-of : (f : ℕ → ℕ) (ns : List ℕ) → sum_of (map f ns) ≡ 0 → AllByRecursion (λ n. f n ≡ 0) ns
none-of f [] e = tt
none-of f (n ∷ ns) e = (omega (arith, e), none-of f ns (omega (arith, e)))

of-none : (f : ℕ → ℕ) (ns : List ℕ) → AllByRecursion (λ n. f n ≡ 0) ns → sum_of (map f ns) ≡ 0
of-none f [] all = refl
of-none f (n ∷ ns) all = let rest = of-none f ns all.1 in let here : f n ≡ 0 = all.0 in omega (arith, here, rest)

-- the tests
not-is : (b : Bool) → not b ≡ true → b ≡ false
not-is true e = absurd (true≢false (sym e))
not-is false e = refl

nil_is : (es : List (ℕ × Caught)) → nat_eq (length es) 0 ≡ true → es ≡ []
nil_is [] e = refl
nil_is (x ∷ es) e = absurd (grind (arith, nat_tests))

pub quiet-test : (w : WorldState) → is_quiet w ≡ true ↔ IsQuiet w
quiet-test w = (to, from)
  where
    t : ℕ → Bool
    t = λ h. not (has_to_send w h)

    to : is_quiet w ≡ true → IsQuiet w
    to e =
        let two = both (list_all t (addresses w)) (nat_eq (length w.links.limbo) 0) e in
        let all = range-all (λ h. t h ≡ true) (host_count w) (all-of t (addresses w) two.0) in
        record { empty_limbo = nil_is w.links.limbo two.1; nothing_to_send = λ h low. not-is (has_to_send w h) (all h low) }

    from : IsQuiet w → is_quiet w ≡ true
    from q =
        let hosts : list_all t (addresses w) ≡ true = of-all t (addresses w) (range-from (λ h. t h ≡ true) 0 (host_count w) (λ h low. ap not (q.nothing_to_send h (omega (arith, low))))) in
        let limbo : nat_eq (length w.links.limbo) 0 ≡ true = ap (λ es. nat_eq (length es) 0) q.empty_limbo in
        rw (hosts, limbo) refl

pub base-test : (before w : WorldState) → base_rose before w ≡ true ↔ BaseRose before w
base-test before w = (to, from)
  where
    t : ℕ → ℕ → Bool
    t = rose_to before w

    to : base_rose before w ≡ true → BaseRose before w
    to e =
        let h = any-of (λ h. list_any (t h) (addresses w)) 0 (host_count w) e in
        let p = any-of (t h.place) 0 (host_count w) h.passes in
        let a = h.low in
        let b = p.low in
        let rose : (prio : ℕ) → nat_lt (base_of before h.place p.place prio) (base_of w h.place p.place prio) ≡ true → BaseRose before w =
        λ prio c. record { host = h.place; peer = p.place; prio = prio; is_host = omega (arith, a); is_peer = omega (arith, b); rose = grind (arith, nat_tests) } in
        elim (or-cases (nat_lt (base_of before h.place p.place 0) (base_of w h.place p.place 0)) (nat_lt (base_of before h.place p.place 1) (base_of w h.place p.place 1)) p.passes) [
          | inl c ↦ rose 0 c
          | inr c ↦ rose 1 c
        ]

    rises : (h p prio : ℕ) → base_of before h p prio < base_of w h p prio → t h p ≡ true
    rises h p zero c = let first : nat_lt (base_of before h p 0) (base_of w h p 0) ≡ true = grind (arith, nat_tests) in
        first-true (nat_lt (base_of before h p 0) (base_of w h p 0)) (nat_lt (base_of before h p 1) (base_of w h p 1)) first
    rises h p (suc prio) c =
        let one : lane_of p (suc prio) ≡ lane_of p 1 = omega arith in
        let d : base_of before h p 1 < base_of w h p 1 = subst (λ k. (lane_at (node_at before h) k).sender.base < (lane_at (node_at w h) k).sender.base) one c in
        let second : nat_lt (base_of before h p 1) (base_of w h p 1) ≡ true = grind (arith, nat_tests) in
        second-true (nat_lt (base_of before h p 0) (base_of w h p 0)) (nat_lt (base_of before h p 1) (base_of w h p 1)) second

    from : BaseRose before w → base_rose before w ≡ true
    from r =
        let a = r.is_host in
        let b = r.is_peer in
        let here : t r.host r.peer ≡ true = rises r.host r.peer r.prio r.rose in
        any-from (λ h. list_any (t h) (addresses w)) 0 (host_count w) r.host (omega arith) (omega (arith, a)) (any-from (t r.host) 0 (host_count w) r.peer (omega arith) (omega (arith, b)) here)

pub none_left-test : (w : WorldState) → unacknowledged_in w ≡ 0 ↔ IsAllAcknowledged w
none_left-test w = (to, from)
  where
    to : unacknowledged_in w ≡ 0 → IsAllAcknowledged w
    to e h peer low below =
        let here = range-all (λ h. unacknowledged_from w h ≡ 0) (host_count w) (none-of (unacknowledged_from w) (addresses w) e) h low in
        range-all (λ p. unacknowledged_to (node_at w h) p ≡ 0) (host_count w) (none-of (unacknowledged_to (node_at w h)) (addresses w) here) peer below

    from : IsAllAcknowledged w → unacknowledged_in w ≡ 0
    from all =
        of-none (unacknowledged_from w) (addresses w) (range-from (λ h. unacknowledged_from w h ≡ 0) 0 (host_count w) (λ h low. of-none (unacknowledged_to (node_at w h)) (addresses w) (range-from (λ p. unacknowledged_to (node_at w h) p ≡ 0) 0 (host_count w) (λ p below. all h p (omega (arith, low)) (omega (arith, below))))))

pub none_left-settled : (w : WorldState) → HasSenders w → unacknowledged_in w ≡ 0 → IsSettled w
none_left-settled w is e = record {
  connections = λ c low below.
      let o = is.in_order c.src (sending_lane c) in
      let a = o.base_below in
      let b = o.cursor_below in
      let d = o.top_below in
      let none : unacknowledged_to (node_at w c.src) c.dst ≡ 0 = (none_left-test w).0 e c.src c.dst low below in
      let within = lane-within (node_at w c.src) c.dst c.prio in
      IsSettledConnection.all_acknowledged (omega (arith, a, b, d, none, within));
}
