-- After the expiries of a round each connection with something unacknowledged sends again from the first number that isn't.
use Rattle.std.proofs.Common.{◌≡◌, ◌≢◌, ◌<◌, ◌≤◌, ◌+◌, ℕ, zero, suc, Bool, true, false, true≢false, List, [], ◌∷◌, ◌++◌, map, length, nat_eq, nat_lt, ◌⊎◌, inl, inr, refl, sym, ap, ◌∙◌, subst, arith, append_assoc, if◌then◌else◌}
use Rattle.std.specs.List.{AllByRecursion, range_with_len, filter}
use Rattle.std.proofs.lemmas.Bool.Decides.{nat_tests}
use Rattle.std.proofs.lemmas.List.{get_or-set_same}
use Rattle.std.proofs.Math.ListN.{length-set}
use Rattle.gm_defs.specs.declared.frame.ConnectionKey.{ConnectionKey}
use Rattle.world_defs.specs.declared.event.Event.{Event}
use Rattle.world_defs.specs.declared.event.Event.TheVariants.{Expire}
use Rattle.world_defs.specs.declared.effect.Effect.{Effect}
use Rattle.world_defs.specs.declared.effect.Effect.TheVariants.{Expired, Idle}
use Rattle.world_defs.specs.Lane.{new_lane, lane_expired}
use Rattle.world_defs.specs.Node.{NodeState, lane_of, sending_lane, lane_at, new_node, with_expired, node_expired, unacknowledged_to}
use Rattle.world_defs.specs.World.{WorldState, host_count, node_at, with_node, addresses}
use Rattle.world_defs.specs.Step.{expired, step, after_all}
use Rattle.world_defs.specs.Settle.{expiries_of, expiries_of_all, expiries}
use Rattle.world_defs.specs.Traffic.{sender_on}
use Rattle.world_defs.proofs.Lanes.{lane-within}
use Rattle.world_laws.proofs.Lists.{at-set}
use Rattle.world_defs.proofs.LogRows.{all-map, all-append, after_all-append}
use Rattle.world_laws.proofs.Along.{Along, after_all-along}

abbrev pub IsExpiry : Event → Type 0
IsExpiry (Expire h peer) = Unit {0}
IsExpiry _ = ⊥

-- what an expiry keeps
record ExpireSo (w v : WorldState) : Type 0 where
  links : v.links ≡ w.links
  count : length v.nodes ≡ length w.nodes
  lanes : (a : ℕ) → length (node_at v a).lanes ≡ length (node_at w a).lanes
  base : (c : ConnectionKey) → (sender_on v c).base ≡ (sender_on w c).base
  next : (c : ConnectionKey) → (sender_on v c).next ≡ (sender_on w c).next
  again : (c : ConnectionKey) → (sender_on w c).cursor ≡ (sender_on w c).base → (sender_on v c).cursor ≡ (sender_on v c).base

expire-same : (w : WorldState) → ExpireSo w w
expire-same w = record { links = refl; count = refl; lanes = λ a. refl; base = λ c. refl; next = λ c. refl; again = λ c e. e }

expire-both : (u v w : WorldState) → ExpireSo u v → ExpireSo v w → ExpireSo u w
expire-both u v w k l = record {
  links = l.links ∙ k.links;
  count = l.count ∙ k.count;
  lanes = λ a. l.lanes a ∙ k.lanes a;
  base = λ c. l.base c ∙ k.base c;
  next = λ c. l.next c ∙ k.next c;
  again = λ c e. l.again c (k.again c e);
}

-- a host whose fragments of some lanes are sent again
record NodeExpires (n m : NodeState) : Type 0 where
  lanes : length m.lanes ≡ length n.lanes
  base : (k : ℕ) → (lane_at m k).sender.base ≡ (lane_at n k).sender.base
  next : (k : ℕ) → (lane_at m k).sender.next ≡ (lane_at n k).sender.next
  again : (k : ℕ) → (lane_at n k).sender.cursor ≡ (lane_at n k).sender.base → (lane_at m k).sender.cursor ≡ (lane_at m k).sender.base

lane-expires : (n : NodeState) (lane : ℕ) → NodeExpires n (with_expired n lane)
lane-expires n lane = record {
  lanes = length-set n.lanes lane (lane_expired (lane_at n lane));
  base = λ k. at-set (λ x y. y.sender.base ≡ x.sender.base) (λ x. refl) n.lanes lane k (lane_expired (lane_at n lane)) new_lane refl;
  next = λ k. at-set (λ x y. y.sender.next ≡ x.sender.next) (λ x. refl) n.lanes lane k (lane_expired (lane_at n lane)) new_lane refl;
  again = λ k. at-set (λ x y. x.sender.cursor ≡ x.sender.base → y.sender.cursor ≡ y.sender.base) (λ x e. e) n.lanes lane k (lane_expired (lane_at n lane)) new_lane (λ e. refl);
}

expires-both : (n m o : NodeState) → NodeExpires n m → NodeExpires m o → NodeExpires n o
expires-both n m o f g = record {
  lanes = g.lanes ∙ f.lanes;
  base = λ k. g.base k ∙ f.base k;
  next = λ k. g.next k ∙ f.next k;
  again = λ k e. g.again k (f.again k e);
}

node-expires : (n : NodeState) (peer : ℕ) → NodeExpires n (node_expired n peer)
node-expires n peer =
    let m : NodeState = with_expired n (lane_of peer 0) in
    expires-both n m (node_expired n peer) (lane-expires n (lane_of peer 0)) (lane-expires m (lane_of peer 1))

expired-node : (w : WorldState) (h peer a : ℕ) → NodeExpires (node_at w a) (node_at (with_node w h (node_expired (node_at w h) peer)) a)
expired-node w h peer a =
    at-set NodeExpires (λ n. record { lanes = refl; base = λ k. refl; next = λ k. refl; again = λ k e. e }) w.nodes h a (node_expired (node_at w h) peer) (new_node 0) (node-expires (node_at w h) peer)

expired-so : (w : WorldState) (h peer : ℕ) (b : Bool) → ExpireSo w (if b then (let r : Effect × WorldState = (Expired, with_node w h (node_expired (node_at w h) peer)) in r) else (Idle, w)).1
expired-so w h peer true = record {
  links = refl;
  count = length-set w.nodes h (node_expired (node_at w h) peer);
  lanes = λ a. (expired-node w h peer a).lanes;
  base = λ c. (expired-node w h peer c.src).base (sending_lane c);
  next = λ c. (expired-node w h peer c.src).next (sending_lane c);
  again = λ c. (expired-node w h peer c.src).again (sending_lane c);
}
expired-so w h peer false = expire-same w

event-expires : (w : WorldState) (e : Event) → IsExpiry e → ExpireSo w (step w e).1
unfolding expired
event-expires w (Expire h peer) q = expired-so w h peer (nat_lt 0 (unacknowledged_to (node_at w h) peer))
event-expires w _ q = absurd q

along-expires : Along ExpireSo IsExpiry
along-expires = record { same = expire-same; both = expire-both; event = event-expires }

-- the expiry of the connection itself: of its lane first, or second
both-lanes : (peer prio : ℕ) → (lane_of peer prio ≡ lane_of peer 0) ⊎ (lane_of peer prio ≡ lane_of peer 1)
both-lanes peer zero = inl refl
both-lanes peer (suc prio) = inr (omega arith)

lane-again : (n : NodeState) (lane : ℕ) → lane < length n.lanes → (lane_at (with_expired n lane) lane).sender.cursor ≡ (lane_at (with_expired n lane) lane).sender.base
lane-again n lane low =
    let here : lane_at (with_expired n lane) lane ≡ lane_expired (lane_at n lane) = get_or-set_same n.lanes lane (lane_expired (lane_at n lane)) new_lane low in
    ap (λ l. l.sender.cursor) here ∙ sym (ap (λ l. l.sender.base) here)

node-again : (n : NodeState) (peer prio : ℕ) → lane_of peer prio < length n.lanes → (lane_at (node_expired n peer) (lane_of peer prio)).sender.cursor ≡ (lane_at (node_expired n peer) (lane_of peer prio)).sender.base
node-again n peer prio low = by (both-lanes peer prio)
  where
    m : NodeState
    m = with_expired n (lane_of peer 0)

    Again : ℕ → Type 0
    Again k = (lane_at (node_expired n peer) k).sender.cursor ≡ (lane_at (node_expired n peer) k).sender.base

    by : (lane_of peer prio ≡ lane_of peer 0) ⊎ (lane_of peer prio ≡ lane_of peer 1) → Again (lane_of peer prio)
    by (inl e) = subst Again (sym e) ((lane-expires m (lane_of peer 1)).again (lane_of peer 0) (lane-again n (lane_of peer 0) (subst (λ k. k < length n.lanes) e low)))
    by (inr e) = subst Again (sym e) (lane-again m (lane_of peer 1) (subst (λ count. lane_of peer 1 < count) (sym (lane-expires n (lane_of peer 0)).lanes) (subst (λ k. k < length n.lanes) e low)))

expired-here : (w : WorldState) (c : ConnectionKey) → c.src < length w.nodes → sending_lane c < length (node_at w c.src).lanes → 0 < unacknowledged_to (node_at w c.src) c.dst → (sender_on (step w (Expire c.src c.dst)).1 c).cursor ≡ (sender_on (step w (Expire c.src c.dst)).1 c).base
unfolding expired
expired-here w c low below some = by (nat_lt 0 (unacknowledged_to n c.dst)) (grind (arith, nat_tests))
  where
    n : NodeState
    n = node_at w c.src

    Again : NodeState → Type 0
    Again m = (lane_at m (sending_lane c)).sender.cursor ≡ (lane_at m (sending_lane c)).sender.base

    by : (t : Bool) → t ≡ true → Again (node_at (if t then (let r : Effect × WorldState = (Expired, with_node w c.src (node_expired n c.dst)) in r) else (Idle, w)).1 c.src)
    by true e = subst Again (sym (get_or-set_same w.nodes c.src (node_expired n c.dst) (new_node 0) low)) (node-again n c.dst c.prio below)
    by false e = cc

-- an element stands in a list
record StandsIn {A : Type 0} (x : A) (xs : List A) : Type 0 where
  front : List A
  back : List A
  whole : xs ≡ front ++ x ∷ back

stands-later : {A : Type 0} (x y : A) (xs : List A) → StandsIn x xs → StandsIn x (y ∷ xs)
stands-later x y xs s = record { front = y ∷ s.front; back = s.back; whole = ap (λ l. y ∷ l) s.whole }

stands-map : {A B : Type 0} (f : A → B) (x : A) (xs front back : List A) → xs ≡ front ++ x ∷ back → StandsIn (f x) (map f xs)
stands-map f x xs [] back e = record { front = []; back = map f back; whole = ap (map f) e }
stands-map f x xs (y ∷ front) back e =
    let rest = stands-map f x (front ++ x ∷ back) front back refl in
    record { front = f y ∷ rest.front; back = rest.back; whole = ap (map f) e ∙ ap (λ l. f y ∷ l) rest.whole }

stands-front : {A : Type 0} (x : A) (xs ys : List A) → StandsIn x xs → StandsIn x (xs ++ ys)
stands-front x xs ys s = record { front = s.front; back = s.back ++ ys; whole = ap (λ l. l ++ ys) s.whole ∙ append_assoc s.front (x ∷ s.back) ys }

stands-back : {A : Type 0} (x : A) (xs ys : List A) → StandsIn x ys → StandsIn x (xs ++ ys)
stands-back x [] ys s = s
stands-back x (y ∷ xs) ys s = stands-later x y (xs ++ ys) (stands-back x xs ys s)

-- a number that passes a test stands among those of a range that do
in-range : (test : ℕ → Bool) (from count x : ℕ) → from ≤ x → x < from + count → test x ≡ true → StandsIn x (filter test (range_with_len from count))
in-range test from zero x low high e = absurd (omega (arith, low, high))
in-range test from (suc count) x low high e = by (test from) (nat_eq x from) refl refl (λ more. in-range test (from + 1) count x more (omega (arith, high)) e)
  where
    rest : List ℕ
    rest = filter test (range_with_len (from + 1) count)

    by : (s t : Bool) → test from ≡ s → nat_eq x from ≡ t → (from + 1 ≤ x → StandsIn x rest) → StandsIn x (if s then from ∷ rest else rest)
    by true true p q more = let same : x ≡ from = grind (arith, nat_tests) in record { front = []; back = rest; whole = ap (λ y. y ∷ rest) (sym same) }
    by false true p q more = let same : x ≡ from = grind (arith, nat_tests) in absurd (true≢false (sym (ap test (sym same) ∙ e) ∙ p))
    by true false p q more = let other : x ≢ from = grind (arith, nat_tests) in stands-later x from rest (more (omega (arith, low, other)))
    by false false p q more = let other : x ≢ from = grind (arith, nat_tests) in more (omega (arith, low, other))

of-host : (w : WorldState) (a b from count : ℕ) → from ≤ a → a < from + count → b < host_count w → 0 < unacknowledged_to (node_at w a) b → StandsIn (Expire a b) (expiries_of_all w (range_with_len from count))
of-host w a b from zero low high below some = absurd (omega (arith, low, high))
of-host w a b from (suc count) low high below some = by (nat_eq a from) refl (λ more. of-host w a b (from + 1) count more (omega (arith, high)) below some)
  where
    here : StandsIn (Expire a b) (expiries_of w a)
    here =
        let test : ℕ → Bool = λ p. nat_lt 0 (unacknowledged_to (node_at w a) p) in
        let s = in-range test 0 (host_count w) b (omega arith) (omega (arith, below)) (grind (arith, nat_tests)) in
        stands-map (Expire a) b (filter test (addresses w)) s.front s.back s.whole

    by : (t : Bool) → nat_eq a from ≡ t → (from + 1 ≤ a → StandsIn (Expire a b) (expiries_of_all w (range_with_len (from + 1) count))) → StandsIn (Expire a b) (expiries_of w from ++ expiries_of_all w (range_with_len (from + 1) count))
    by true p more = let same : a ≡ from = grind (arith, nat_tests) in stands-front (Expire a b) (expiries_of w from) _ (subst (λ x. StandsIn (Expire a b) (expiries_of w x)) same here)
    by false p more = let other : a ≢ from = grind (arith, nat_tests) in stands-back (Expire a b) (expiries_of w from) _ (more (omega (arith, low, other)))

all-expiries : (w : WorldState) (hs : List ℕ) → AllByRecursion IsExpiry (expiries_of_all w hs)
all-expiries w [] = tt
all-expiries w (h ∷ hs) =
    all-append IsExpiry (expiries_of w h) (expiries_of_all w hs) (all-map IsExpiry (Expire h) (λ p. tt) (filter (λ p. nat_lt 0 (unacknowledged_to (node_at w h) p)) (addresses w))) (all-expiries w hs)

all-parts : (es ds : List Event) → AllByRecursion IsExpiry (es ++ ds) → AllByRecursion IsExpiry es × AllByRecursion IsExpiry ds
all-parts [] ds all = (tt, all)
all-parts (e ∷ es) ds all = let r = all-parts es ds all.1 in ((all.0, r.0), r.1)

pub expiries-links : (w : WorldState) → (after_all w (expiries w)).links ≡ w.links
expiries-links w = (after_all-along ExpireSo IsExpiry along-expires w (expiries w) (all-expiries w (addresses w))).links

-- after the expiries
pub expiries-again : (w : WorldState) (c : ConnectionKey) → c.src < host_count w → c.dst < host_count w → sending_lane c < length (node_at w c.src).lanes → (sender_on w c).base < (sender_on w c).next → (sender_on (after_all w (expiries w)) c).cursor ≡ (sender_on w c).base
expiries-again w c low below lane some =
    let left : 0 < unacknowledged_to (node_at w c.src) c.dst = let within = lane-within (node_at w c.src) c.dst c.prio in omega (arith, some, within) in
    let s : StandsIn (Expire c.src c.dst) (expiries w) = of-host w c.src c.dst 0 (host_count w) (omega arith) (omega (arith, low)) below left in
    let parts = all-parts s.front (Expire c.src c.dst ∷ s.back) (subst (AllByRecursion IsExpiry) s.whole (all-expiries w (addresses w))) in
    let mid : WorldState = after_all w s.front in
    let then_w : WorldState = (step mid (Expire c.src c.dst)).1 in
    let first = after_all-along ExpireSo IsExpiry along-expires w s.front parts.0 in
    let last = after_all-along ExpireSo IsExpiry along-expires then_w s.back parts.1.1 in
    let count = first.count in
    let base = first.base c in
    let next = first.next c in
    let left_then : 0 < unacknowledged_to (node_at mid c.src) c.dst = let within = lane-within (node_at mid c.src) c.dst c.prio in omega (arith, some, base, next, within) in
    let here = expired-here mid c (omega (arith, low, count)) (subst (λ l. sending_lane c < l) (sym (first.lanes c.src)) lane) left_then in
    let whole : after_all w (expiries w) ≡ after_all then_w s.back = ap (after_all w) s.whole ∙ after_all-append w s.front (Expire c.src c.dst ∷ s.back) in
    let one = event-expires mid (Expire c.src c.dst) tt in
    ap (λ v. (sender_on v c).cursor) whole ∙ (last.again c here ∙ (last.base c ∙ (one.base c ∙ base)))
