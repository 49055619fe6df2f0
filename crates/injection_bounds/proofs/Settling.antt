-- The rounds of a settle: a pass costs nothing, a round its expiries, and each round but the last finishes something.
use Rattle.std.proofs.Common.{◌≡◌, ◌≤◌, ◌+◌, ◌*◌, ℕ, Bool, true, false, List, [], ◌∷◌, ◌++◌, map, length, nat_lt, refl, sym, ap, subst, arith, if◌then◌else◌}
use Rattle.std.specs.List.{filter}
use Rattle.std.proofs.lemmas.List.FromFn.{length-range_with_len}
use Rattle.net_defs.specs.Network.{Network}
use Rattle.gm_defs.specs.Connection.{connection}
use Rattle.world_defs.specs.declared.event.Event.{Event}
use Rattle.world_defs.specs.declared.event.Event.TheVariants.{Inject, Flip, Replay, Expire, GiveUp}
use Rattle.world_defs.specs.EightBits.{IsByteEvent}
use Rattle.world_defs.specs.Node.{lane_of, unacknowledged_to}
use Rattle.world_defs.specs.World.{WorldState, host_count, node_at, addresses}
use Rattle.world_defs.specs.Step.{step, steps, after_all}
use Rattle.world_defs.specs.Settle.{expiries_of_all, expiries, serials, pass_bound, round_bound}
use Rattle.world_defs.specs.Log.{Log}
use Rattle.world_defs.specs.Logs.{Rounds, clear, replays, round_pass, is_last_pass, moved_both, unmoved, round_passes, round, rounds, settle}
use Rattle.world_defs.proofs.LogRows.{Clears, all-map}
use Rattle.world_laws.specs.Reached.{IsOfSettle}
use Rattle.world_laws.specs.Shape.{HasSenders}
use Rattle.world_laws.specs.Settling.{AllRounds}
use Rattle.world_laws.specs.Repeats.{Repeats}
use Rattle.world_laws.proofs.Repeating.{up_to-chain}
use Rattle.world_laws.proofs.Along.{Along, steps-along, after_all-along, clear-along, round-along}
use Rattle.world_laws.proofs.Reached.{settles-of}
use Rattle.world_laws.proofs.Rounds.{Going, left_over, fragments-fewer, not_last-less, round_going, clear-raises, settle-ends}
use Rattle.world_defs.specs.Acts.{Happens, IsReached}
use Rattle.world_defs.proofs.Reaching.{reached-next}
use Rattle.message_laws.proofs.Windows.{reached-windowed, windows-hold}
use Rattle.message_laws.proofs.Known.{reached-count}
use Rattle.injection_bounds.specs.Paid.{sent_ahead, event_cost, account}
use Rattle.injection_bounds.specs.Settled.{round_cost, SettleCostsOneRound}
use Rattle.injection_bounds.proofs.Acting.{acted-pays}

-- events that bring nothing
abbrev IsFree : Event → Type 0
IsFree e = (w : WorldState) → event_cost w e ≡ 0

-- what was injected and what is in store don't rise
abbrev NoDearer : WorldState → WorldState → Type 0
NoDearer u v = account v ≤ account u

along-free : Along NoDearer IsFree
along-free = record {
  same = λ w. omega arith;
  both = λ u v w a b. omega (arith, a, b);
  event = λ w e free. let a = acted-pays w (Happens e) in let b = free w in omega (arith, a, b);
}

clears-free : Clears IsFree
clears-free = record { advance = λ c w. refl; reset = λ c w. refl }

-- a pass
replays-free : (ss : List ℕ) (w : WorldState) → NoDearer w (replays ss w).world
replays-free [] w = along-free.same w
replays-free (s ∷ ss) w =
    let u : WorldState = (step w (Replay s)).1 in
    let v : WorldState = (clear u).world in
    along-free.both w u (replays ss v).world (along-free.event w (Replay s) (λ x. refl)) (along-free.both u v (replays ss v).world (clear-along NoDearer IsFree along-free clears-free u) (replays-free ss v))

round_pass-free : (w : WorldState) → NoDearer w (round_pass w).world
unfolding round_pass
round_pass-free w =
    let t : WorldState = after_all w (map GiveUp (addresses w)) in
    let u : WorldState = (steps t (map Inject (addresses w))).1 in
    let v : WorldState = (clear u).world in
    let last : WorldState = (replays (serials v) v).world in
    along-free.both w t last (after_all-along NoDearer IsFree along-free w (map GiveUp (addresses w)) (all-map IsFree GiveUp (λ h x. refl) (addresses w)))
    (along-free.both t u last (steps-along NoDearer IsFree along-free t (map Inject (addresses w)) (all-map IsFree Inject (λ h x. refl) (addresses w)))
    (along-free.both u v last (clear-along NoDearer IsFree along-free clears-free u) (replays-free (serials v) v)))

passes-free : (k : ℕ) (w : WorldState) → NoDearer w (round_passes k w).world
passes-free k w =
    up_to-chain moved_both unmoved (λ u l. NoDearer u l.world) (record { same = λ u. along-free.same u; both = λ u l m a b. along-free.both u l.world m.world a b }) is_last_pass round_pass round_pass-free k w

-- events of a settle may always happen
byte : (e : Event) → IsOfSettle e → IsByteEvent e
byte (Flip c bit pattern) q = absurd q
byte _ q = tt

module _ (n : Network) where
  abbrev StaysReached : WorldState → WorldState → Type 0
  StaysReached u v = IsReached n u → IsReached n v

  along-reached : Along StaysReached IsOfSettle
  along-reached = record {
    same = λ w r. r;
    both = λ u v w f g r. g (f r);
    event = λ w e q r. reached-next n w (Happens e) r (byte e q);
  }

  -- an expiry sends a window of either priority again
  pub expire-few : (w : WorldState) (h p : ℕ) → IsReached n w → event_cost w (Expire h p) ≤ 32
  expire-few w h p r =
      let a = windows-hold n w r (connection h p 0) in
      let b = windows-hold n w r (connection h p 1) in
      let af = a.few in
      let ac = a.numbers.cursor_below in
      let bf = b.few in
      let bc = b.numbers.cursor_below in
      let one : sent_ahead (node_at w h) (lane_of p 0) ≤ 8 = omega (arith, af, ac) in
      let two : sent_ahead (node_at w h) (lane_of p 1) ≤ 8 = omega (arith, bf, bc) in
      omega (arith, one, two)

  -- From one world to another, reached too, so much is brought.
  record Brings (w v : WorldState) (k : ℕ) : Type 0 where
    reached : IsReached n v
    most : account v ≤ account w + k

  expiries_of-brings : (w : WorldState) (h : ℕ) (ps : List ℕ) → IsReached n w → Brings w (after_all w (map (Expire h) ps)) (32 * length ps)
  expiries_of-brings w h [] r = record { reached = r; most = omega arith }
  expiries_of-brings w h (p ∷ ps) r =
      let next : WorldState = (step w (Expire h p)).1 in
      let rest = expiries_of-brings next h ps (reached-next n w (Happens (Expire h p)) r tt) in
      let one = acted-pays w (Happens (Expire h p)) in
      let few = expire-few w h p r in
      let more = rest.most in
      record { reached = rest.reached; most = omega (arith, one, few, more) }

  both-rows : (w : WorldState) (xs ys : List Event) → after_all w (xs ++ ys) ≡ after_all (after_all w xs) ys
  both-rows w [] ys = refl
  both-rows w (x ∷ xs) ys = both-rows (step w x).1 xs ys

  filter-few : (t : ℕ → Bool) (xs : List ℕ) → length (filter t xs) ≤ length xs
  filter-few t [] = omega arith
  filter-few t (x ∷ xs) = by (t x) (filter-few t xs)
    where
      by : (b : Bool) → length (filter t xs) ≤ length xs → length (if b then x ∷ filter t xs else filter t xs) ≤ length (x ∷ xs)
      by true h = omega (arith, h)
      by false h = omega (arith, h)

  expiries-brings : (u w : WorldState) (hs : List ℕ) → host_count u ≤ 128 → IsReached n w → Brings w (after_all w (expiries_of_all u hs)) (4096 * length hs)
  expiries-brings u w [] low r = record { reached = r; most = omega arith }
  expiries-brings u w (h ∷ hs) low r =
      let ps : List ℕ = filter (λ p. nat_lt 0 (unacknowledged_to (node_at u h) p)) (addresses u) in
      let few = filter-few (λ p. nat_lt 0 (unacknowledged_to (node_at u h) p)) (addresses u) in
      let count : length (addresses u) ≡ host_count u = length-range_with_len 0 (host_count u) in
      let one = expiries_of-brings w h ps r in
      let next : WorldState = after_all w (map (Expire h) ps) in
      let rest = expiries-brings u next hs low one.reached in
      let a = one.most in
      let b = rest.most in
      subst (λ v. Brings w v (4096 * length (h ∷ hs))) (sym (both-rows w (map (Expire h) ps) (expiries_of_all u hs)))
      (record { reached = rest.reached; most = omega (arith, few, count, low, a, b) })

  -- a round
  round-costs : (w : WorldState) → IsReached n w → account (round w).world ≤ account w + round_cost
  unfolding round
  round-costs w r =
      let hosts = reached-count n w r in
      let few = r.fabric.few_hosts in
      let low : host_count w ≤ 128 = omega (arith, hosts, few) in
      let count : length (addresses w) ≡ host_count w = length-range_with_len 0 (host_count w) in
      let a = (expiries-brings w w (addresses w) low r).most in
      let b = passes-free (pass_bound w) (after_all w (expiries w)) in
      omega (arith, low, count, a, b)

  senders : (w : WorldState) → IsReached n w → HasSenders w
  senders w r = (reached-windowed n w r).senders

  -- rounds
  abbrev dues : WorldState → ℕ
  dues w = account w + round_cost * left_over w

  rounds-cost : (w : WorldState) (l : Log Rounds) → IsReached n w → AllRounds w l → dues l.world ≤ dues w + round_cost
  rounds-cost w l is (Repeats.last e) =
      let g : Going w (round w).world = round_going w in
      let cost = round-costs w is in
      let fewer = fragments-fewer w (round w).world g in
      let p = g.planned in
      let q = g.rises in
      omega (arith, cost, fewer, p, q)
  rounds-cost w l is (Repeats.another {l = rest} e more d) =
      let next : WorldState = (round w).world in
      let g : Going w next = round_going w in
      let cost = round-costs w is in
      let less = not_last-less w next g (senders w is) e in
      let after = rounds-cost next rest (round-along StaysReached IsOfSettle along-reached settles-of w is) more in
      let same : dues l.world ≡ dues rest.world = ap (λ t. dues t.world) d in
      omega (arith, cost, less, after, same)

  settle-cost : (w : WorldState) → IsReached n w → dues (settle w).world ≤ dues w + round_cost
  unfolding settle
  settle-cost w is =
      let v : WorldState = (clear w).world in
      let first : account v ≤ account w = clear-along NoDearer IsFree along-free clears-free w in
      let reached : IsReached n v = clear-along StaysReached IsOfSettle along-reached settles-of.clears w is in
      let rest = rounds-cost v (rounds (round_bound v) v) reached (settle-ends w (senders w is)) in
      let fewer = (clear-raises w).0 in
      let plan : length v.plan ≡ length w.plan = ap length (clear-raises w).1 in
      omega (arith, first, rest, fewer, plan)

pub settle-costs : SettleCostsOneRound
settle-costs n w is = settle-cost n w is
