-- How much of what was sent is got: the messages that lie wholly below the number of fragments taken.
use Rattle.std.proofs.Common.{◌≡◌, ◌+◌, ◌≤◌, ◌<◌, ℕ, zero, suc, Bool, true, false, List, map, length, take, nat_lt, refl, sym, ap, ◌∙◌, subst, arith}
use Rattle.std.specs.List.{range_with_len}
use Rattle.std.proofs.lemmas.Bool.Decides.{nat_tests}
use Rattle.std.proofs.lemmas.List.{get_or_past, take_all}
use Rattle.std.proofs.Math.Seq.{take-append_seam}
use Rattle.net_defs.specs.Network.{Network}
use Rattle.gm_defs.specs.Fragment.{fragments, whole_below}
use Rattle.gm_defs.proofs.Numbers.{all-below}
use Rattle.gm_defs.specs.declared.frame.ConnectionKey.{ConnectionKey}
use Rattle.world_defs.specs.Lane.{new_lane}
use Rattle.world_defs.specs.Node.{sending_lane, taking_lane, lane_at, new_node, unacknowledged_to}
use Rattle.world_defs.proofs.Lanes.{facing-taking, lane-within}
use Rattle.world_defs.specs.World.{WorldState, host_count, node_at, sum_of}
use Rattle.world_defs.specs.Sound.{IsPrefix}
use Rattle.world_defs.specs.Traffic.{sender_on, sent_on, got_on, taken_on}
use Rattle.world_defs.specs.Settle.{unacknowledged_from, unacknowledged_in}
use Rattle.world_laws.specs.Shape.{IsWorld}
use Rattle.world_laws.proofs.Shapes.{step-kept, new-world, adopted-world, planned-world}
use Rattle.world_defs.specs.Acts.{Act, Happens, Plans, Adopts, acted, IsReached}
use Rattle.message_laws.specs.Got.{GotIsWholeBelowTaken, AllAcknowledgedIsAllGot, NoneUnacknowledgedIsAllGot}
use Rattle.world_defs.proofs.Reaching.{reached-has}
use Rattle.message_laws.proofs.Worlds.{sent_by_lane, got-front, ordered-come, taken-come}
use Rattle.message_laws.proofs.Windows.{IsWindowed, reached-windowed}

front-take : {X : Type 0} (got sent : List X) → IsPrefix got sent → got ≡ take (length got) sent
front-take got sent f = sym (ap (take (length got)) f.both ∙ take-append_seam got f.rest)

-- a prefix that is as long is all
front-all : {X : Type 0} (got sent : List X) → IsPrefix got sent → length sent ≤ length got → got ≡ sent
front-all got sent f long = front-take got sent f ∙ take_all (length got) sent long

pub got-below : GotIsWholeBelowTaken
got-below n w is c = front-take (got_on w c) (sent_on w c) (got-front n w is c) ∙ ap (λ k. take k (sent_on w c)) (taken-come n w is c).whole

windowed-front : (w : WorldState) (c : ConnectionKey) → IsWindowed w → IsPrefix (got_on w c) (sent_on w c)
windowed-front w c r = subst (IsPrefix (got_on w c)) (facing-taking (sent_by_lane w) c) (r.ordered.order c.dst (taking_lane c)).front

windowed-all : (w : WorldState) (c : ConnectionKey) → IsWindowed w → (sender_on w c).base ≡ (sender_on w c).next → got_on w c ≡ sent_on w c
windowed-all w c r e =
    let come = ordered-come w c r.ordered in
    let base = (r.connections c).base_below in
    let taken = (r.connections c).taken_below in
    let top = (r.senders.in_order c.src (sending_lane c)).top_below in
    let all = ((r.ordered.hosts c.src).lanes (sending_lane c)).numbered in
    let last : taken_on w c ≡ length (fragments (sent_on w c)) = omega (arith, e, base, taken, top, all) in
    let whole : length (got_on w c) ≡ length (sent_on w c) = come.whole ∙ ap (whole_below (sent_on w c)) last ∙ all-below (sent_on w c) in
    front-all (got_on w c) (sent_on w c) (windowed-front w c r) (omega (arith, whole))

pub acknowledged-got : AllAcknowledgedIsAllGot
acknowledged-got n w is c e = windowed-all w c (reached-windowed n w is) e

-- a sum of nothing is of nothings
sum-none : (f : ℕ → ℕ) (from count i j : ℕ) → j ≡ from + i → sum_of (map f (range_with_len from count)) ≡ 0 → i < count → f j ≡ 0
sum-none f from zero i j s e low = absurd (omega (arith, low))
sum-none f from (suc count) zero j s e low = let t : j ≡ from = omega (arith, s) in ap f t ∙ omega (arith, e)
sum-none f from (suc count) (suc i) j s e low = sum-none f (from + 1) count i j (omega (arith, s)) (omega (arith, e)) (omega (arith, low))

-- reached worlds are worlds
acted-world : (w : WorldState) (a : Act) → IsWorld w → IsWorld (acted w a)
acted-world w (Happens e) is = (step-kept w e).world is
acted-world w (Plans ahead fault) is = planned-world w ahead fault is
acted-world w (Adopts mapper routes) is = adopted-world w mapper routes is

pub reached-world : (n : Network) (w : WorldState) → IsReached n w → IsWorld w
reached-world n w is = reached-has IsWorld n (new-world n) (λ w a r may. acted-world w a) w is

-- a connection of hosts that aren't there has numbers 0
past-host : (w : WorldState) (c : ConnectionKey) → host_count w ≤ c.src → (sender_on w c).base ≡ (sender_on w c).next
past-host w c past =
    let none = get_or_past w.nodes c.src (new_node 0) past in
    ap (λ n. (lane_at n (sending_lane c)).sender.base) none ∙ sym (ap (λ n. (lane_at n (sending_lane c)).sender.next) none)

past-peer : (w : WorldState) (c : ConnectionKey) → IsWorld w → c.src < host_count w → host_count w ≤ c.dst → (sender_on w c).base ≡ (sender_on w c).next
past-peer w c is low past =
    let long = (is.each_node c.src low).lanes in
    let none : lane_at (node_at w c.src) (sending_lane c) ≡ new_lane = get_or_past (node_at w c.src).lanes (sending_lane c) new_lane (omega (arith, long, past)) in
    ap (λ l. l.sender.base) none ∙ sym (ap (λ l. l.sender.next) none)

none-left : (w : WorldState) (c : ConnectionKey) → IsWorld w → IsWindowed w → unacknowledged_in w ≡ 0 → (sender_on w c).base ≡ (sender_on w c).next
none-left w c world is e = by (nat_lt c.src (host_count w)) (nat_lt c.dst (host_count w)) refl refl
  where
    by : (t u : Bool) → nat_lt c.src (host_count w) ≡ t → nat_lt c.dst (host_count w) ≡ u → (sender_on w c).base ≡ (sender_on w c).next
    by true true t u =
        let from : unacknowledged_from w c.src ≡ 0 = sum-none (unacknowledged_from w) 0 (host_count w) c.src c.src (omega arith) e (grind (arith, nat_tests)) in
        let left : unacknowledged_to (node_at w c.src) c.dst ≡ 0 = sum-none (unacknowledged_to (node_at w c.src)) 0 (host_count w) c.dst c.dst (omega arith) from (grind (arith, nat_tests)) in
        let within = lane-within (node_at w c.src) c.dst c.prio in
        let s = is.senders.in_order c.src (sending_lane c) in
        let below = s.base_below in
        let cursor = s.cursor_below in
        let top = s.top_below in
        omega (arith, left, within, below, cursor, top)
    by true false t u = past-peer w c world (grind (arith, nat_tests)) (grind (arith, nat_tests))
    by false u t v = past-host w c (grind (arith, nat_tests))

pub none-got : NoneUnacknowledgedIsAllGot
none-got n w is e c =
    let r : IsWindowed w = reached-windowed n w is in
    windowed-all w c r (none-left w c (reached-world n w is) r e)
