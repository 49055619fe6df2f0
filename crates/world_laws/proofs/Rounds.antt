-- The rounds of a settle end: each but the last lowers the fragments that aren't acknowledged, or the faults that are planned.
use Rattle.std.proofs.Common.{◌≡◌, ◌<◌, ◌≤◌, ◌+◌, ℕ, Bool, true, false, not, ◌||◌, List, [], ◌∷◌, map, length, nat_eq, nat_lt, inl, inr, refl, sym, ◌∙◌, ap, arith, true≢false}
use Rattle.std.specs.List.{range_with_len, list_any}
use Rattle.std.proofs.lemmas.Bool.Decides.{nat_tests}
use Rattle.world_defs.specs.LinkStep.{stepped}
use Rattle.world_defs.specs.Node.{lane_of, lane_at, unacknowledged_on, unacknowledged_to}
use Rattle.world_defs.specs.World.{WorldState, node_at, with_node, with_links, with_drop, addresses, sum_of}
use Rattle.world_defs.specs.Step.{planned_strikes, sent_out}
use Rattle.world_defs.specs.Settle.{unacknowledged_from, unacknowledged_in, base_of, rose_to, base_rose, has_helped, is_last_round, round_bound}
use Rattle.world_defs.specs.Log.{Log}
use Rattle.world_defs.specs.Logs.{Rounds, clear, round, rounds_both, one_round, rounds, settle}
use Rattle.world_laws.specs.Repeats.{Repeats}
use Rattle.world_laws.proofs.Repeating.{no_rounds}
use Rattle.world_laws.specs.Shape.{HasSenders}
use Rattle.world_laws.specs.Settling.{AllRounds, SettleEnds, RoundsAreBounded, ClearRaisesNothing}
use Rattle.world_laws.proofs.Repeating.{up_to-repeats}
use Rattle.world_laws.proofs.Lists.{or-cases}
use Rattle.world_laws.proofs.Nodes.{node_after}
use Rattle.world_laws.proofs.Strikes.{Strikes, planned_strikes-kept}
use Rattle.world_laws.proofs.Leaves.{Follows, IsNoCall, quiet-leaves}
use Rattle.world_laws.proofs.Shapes.{NodesKept, nodes_same, with_node-kept, struck_nodes, made_senders, SentOut, sent_out-kept}
use Rattle.world_defs.proofs.LogRows.{Clears, SettlesBy, clear-row, round-row}
use Rattle.world_laws.proofs.Along.{Along, row-along}
use Rattle.world_laws.proofs.Passes.{clear-plan}

-- what an event that is no client's call leaves: no fragment more, and a fault that struck is planned no more
pub record Going (w v : WorldState) : Type 0 where
  pub nodes : NodesKept w v
  pub rises : w.struck ≤ v.struck
  pub planned : v.struck + length v.plan ≤ w.struck + length w.plan

going_on_nodes : (w v : WorldState) → NodesKept w v → v.struck ≡ w.struck → v.plan ≡ w.plan → Going w v
going_on_nodes w v k s p = let b : length v.plan ≡ length w.plan = ap length p in record { nodes = k; rises = omega (arith, s); planned = omega (arith, s, b) }

nodes_after : (u v w : WorldState) → NodesKept u v → NodesKept v w → NodesKept u w
nodes_after u v w k l = record {
  count = l.count ∙ k.count;
  each = λ h. node_after (node_at u h) (node_at v h) (node_at w h) (k.each h) (l.each h);
}

going_both : (u v w : WorldState) → Going u v → Going v w → Going u w
going_both u v w k l =
    let a = k.rises in
    let b = l.rises in
    let c = k.planned in
    let d = l.planned in
    record { nodes = nodes_after u v w k.nodes l.nodes; rises = omega (arith, a, b); planned = omega (arith, c, d) }

struck_going : (w u v : WorldState) → SentOut w u → Strikes u v → Going w v
struck_going w u v s t =
    let a = s.struck in
    let b : length u.plan ≡ length w.plan = ap length s.plan in
    let c = t.rises in
    let d = t.planned in
    record { nodes = struck_nodes w u v s.nodes t.nodes; rises = omega (arith, a, c); planned = omega (arith, a, b, d) }

pub follows-going : Follows Going
follows-going = record {
  same = λ w. going_on_nodes w w (nodes_same w w refl) refl refl;
  both = going_both;
  links = λ w x later. going_on_nodes w (with_links w (stepped w.links x)) (nodes_same w (with_links w (stepped w.links x)) refl) refl refl;
  node = λ w h n k. going_on_nodes w (with_node w h n) (with_node-kept w h n k) refl refl;
  drop = λ w. going_on_nodes w (with_drop w) (nodes_same w (with_drop w) refl) refl refl;
  injection = λ w h c out low e.
      struck_going w (sent_out w h c out) (planned_strikes (sent_out w h c out) c) (sent_out-kept w h c out e) (planned_strikes-kept (sent_out w h c out) c);
}

pub along-going : Along Going IsNoCall
along-going = record { same = follows-going.same; both = going_both; event = quiet-leaves Going follows-going }

pub clears-no_call : Clears IsNoCall
clears-no_call = record { advance = λ c. tt; reset = λ c. tt }

pub settles-no_call : SettlesBy IsNoCall
settles-no_call = record { clears = clears-no_call; inject = λ h. tt; replay = λ s. tt; expire = λ h p. tt; give_up = λ h. tt }

pub going_senders : (w v : WorldState) → Going w v → HasSenders w → HasSenders v
going_senders w v k is = made_senders w v k.nodes is

-- sums of the same length
sum-le : (f g : ℕ → ℕ) (ns : List ℕ) → ((n : ℕ) → f n ≤ g n) → sum_of (map f ns) ≤ sum_of (map g ns)
sum-le f g [] all = omega arith
sum-le f g (n ∷ ns) all = let a = all n in let b = sum-le f g ns all in omega (arith, a, b)

sum-less : (f g : ℕ → ℕ) (t : ℕ → Bool) (ns : List ℕ) → ((n : ℕ) → f n ≤ g n) → ((n : ℕ) → t n ≡ true → f n < g n) → list_any t ns ≡ true → sum_of (map f ns) < sum_of (map g ns)
sum-less f g t [] all less e = absurd (true≢false (sym e))
sum-less f g t (n ∷ ns) all less e = by (t n) refl e (sum-less f g t ns all less)
  where
    by : (b : Bool) → t n ≡ b → (b || list_any t ns) ≡ true → (list_any t ns ≡ true → sum_of (map f ns) < sum_of (map g ns)) → sum_of (map f (n ∷ ns)) < sum_of (map g (n ∷ ns))
    by true u d ih = let a = less n u in let c = sum-le f g ns all in omega (arith, a, c)
    by false u d ih = let a = all n in let c = ih d in omega (arith, a, c)

-- the fragments from these hosts to these hosts that aren't acknowledged
abbrev pub fragments : WorldState → List ℕ → ℕ
fragments w hs = sum_of (map (λ h. sum_of (map (unacknowledged_to (node_at w h)) hs)) hs)

pub fragments-addresses : (w v : WorldState) → Going w v → unacknowledged_in w ≡ fragments w (addresses v)
fragments-addresses w v k = ap (λ n. fragments w (range_with_len 0 n)) (sym k.nodes.count)

-- of one lane
lane_fewer : (w v : WorldState) → Going w v → (h lane : ℕ) → unacknowledged_on (node_at v h) lane ≤ unacknowledged_on (node_at w h) lane
lane_fewer w v k h lane =
    let s = (k.nodes.each h).senders lane in
    let a = s.base in
    let b = s.next in
    omega (arith, a, b)

lane_less : (w v : WorldState) → Going w v → HasSenders v → (h lane : ℕ) → (lane_at (node_at w h) lane).sender.base < (lane_at (node_at v h) lane).sender.base → unacknowledged_on (node_at v h) lane < unacknowledged_on (node_at w h) lane
lane_less w v k is h lane low =
    let s = (k.nodes.each h).senders lane in
    let b = s.next in
    let o = is.in_order h lane in
    let c = o.base_below in
    let d = o.cursor_below in
    let f = o.top_below in
    omega (arith, b, c, d, f, low)

one_fewer : (w v : WorldState) → Going w v → (h p : ℕ) → unacknowledged_to (node_at v h) p ≤ unacknowledged_to (node_at w h) p
one_fewer w v k h p =
    let s = lane_fewer w v k h (lane_of p 0) in
    let t = lane_fewer w v k h (lane_of p 1) in
    omega (arith, s, t)

one_less : (w v : WorldState) → Going w v → HasSenders v → (h p : ℕ) → rose_to w v h p ≡ true → unacknowledged_to (node_at v h) p < unacknowledged_to (node_at w h) p
one_less w v k is h p e =
    let s = lane_fewer w v k h (lane_of p 0) in
    let t = lane_fewer w v k h (lane_of p 1) in
    elim (or-cases (nat_lt (base_of w h p 0) (base_of v h p 0)) (nat_lt (base_of w h p 1) (base_of v h p 1)) e) [
      | inl u ↦ let l = lane_less w v k is h (lane_of p 0) (grind (arith, nat_tests)) in omega (arith, l, t)
      | inr u ↦ let l = lane_less w v k is h (lane_of p 1) (grind (arith, nat_tests)) in omega (arith, s, l)
    ]

pub fragments-fewer : (w v : WorldState) → Going w v → unacknowledged_in v ≤ unacknowledged_in w
fragments-fewer w v k =
    let hs : List ℕ = addresses v in
    let a = fragments-addresses w v k in
    let b = sum-le (unacknowledged_from v) (λ h. sum_of (map (unacknowledged_to (node_at w h)) hs)) hs (λ h. sum-le (unacknowledged_to (node_at v h)) (unacknowledged_to (node_at w h)) hs (one_fewer w v k h)) in
    omega (arith, a, b)

pub fragments-less : (w v : WorldState) → Going w v → HasSenders v → base_rose w v ≡ true → unacknowledged_in v < unacknowledged_in w
fragments-less w v k is e =
    let hs : List ℕ = addresses v in
    let a = fragments-addresses w v k in
    let b =
    sum-less (unacknowledged_from v) (λ h. sum_of (map (unacknowledged_to (node_at w h)) hs)) (λ h. list_any (rose_to w v h) hs) hs (λ h. sum-le (unacknowledged_to (node_at v h)) (unacknowledged_to (node_at w h)) hs (one_fewer w v k h)) (λ h u. sum-less (unacknowledged_to (node_at v h)) (unacknowledged_to (node_at w h)) (rose_to w v h) hs (one_fewer w v k h) (one_less w v k is h) u) e in
    omega (arith, a, b)

-- a round that helped
abbrev pub left_over : WorldState → ℕ
left_over w = unacknowledged_in w + length w.plan

helped-less : (w v : WorldState) → Going w v → HasSenders v → has_helped w v ≡ true → left_over v < left_over w
helped-less w v k is e = by (base_rose w v) refl e
  where
    by : (b : Bool) → base_rose w v ≡ b → (b || nat_lt w.struck v.struck) ≡ true → left_over v < left_over w
    by true u d =
        let a = fragments-less w v k is u in
        let c = k.planned in
        let f = k.rises in
        omega (arith, a, c, f)
    by false u d =
        let low : w.struck < v.struck = grind (arith, nat_tests) in
        let a = fragments-fewer w v k in
        let c = k.planned in
        omega (arith, a, c, low)

helped_if : (none helped : Bool) → (none || not helped) ≡ false → helped ≡ true
helped_if true helped e = absurd (true≢false e)
helped_if false true e = refl
helped_if false false e = absurd (true≢false e)

pub not_last-less : (w v : WorldState) → Going w v → HasSenders w → is_last_round w v ≡ false → left_over v < left_over w
not_last-less w v k is e =
    helped-less w v k (going_senders w v k is) (helped_if (nat_eq (unacknowledged_in v) 0) (has_helped w v) e)

pub round_going : (w : WorldState) → Going w (round w).world
round_going w = row-along along-going (round-row settles-no_call w)

round-less : (w : WorldState) → HasSenders w → is_last_round w (round w).world ≡ false → HasSenders (round w).world × (left_over (round w).world < left_over w)
round-less w is e = (going_senders w (round w).world (round_going w) is, not_last-less w (round w).world (round_going w) is e)

clear_going : (w : WorldState) → Going w (clear w).world
clear_going w = row-along along-going (clear-row clears-no_call w)

pub clear-raises : ClearRaisesNothing
clear-raises w = (fragments-fewer w (clear w).world (clear_going w), clear-plan w)

pub settle-ends : SettleEnds
settle-ends w is =
    let v : WorldState = (clear w).world in
    up_to-repeats rounds_both no_rounds (λ before p. is_last_round before p.world) one_round HasSenders left_over round-less (round_bound v) v (going_senders w v (clear_going w) is) (omega arith)

rounds-bounded : (w : WorldState) (l : Log Rounds) → HasSenders w → AllRounds w l → (1 ≤ l.value.rounds) × (l.value.rounds ≤ left_over w + 1)
rounds-bounded w l is (Repeats.last e) = (omega arith, omega arith)
rounds-bounded w l is (Repeats.another {l = rest} e p d) =
    let less = round-less w is e in
    let lower = less.1 in
    let h = rounds-bounded (round w).world rest less.0 p in
    let a = h.0 in
    let b = h.1 in
    let c : l.value.rounds ≡ 1 + rest.value.rounds = ap (λ x. x.value.rounds) d in
    (omega (arith, a, c), omega (arith, b, c, lower))

pub settle-bounded : RoundsAreBounded
unfolding settle
settle-bounded w is =
    let v : WorldState = (clear w).world in
    let h = rounds-bounded v (rounds (round_bound v) v) (going_senders w v (clear_going w) is) (settle-ends w is) in
    let a = h.0 in
    let b = h.1 in
    let d = (clear-raises w).0 in
    let e : length v.plan ≡ length w.plan = ap length (clear-raises w).1 in
    (omega (arith, a), omega (arith, b, d, e))
