-- A settle ends settled: in its last round no base rose and no planned fault struck, so what isn't acknowledged after it waits for a token.
use Rattle.std.proofs.Common.{◌≡◌, ◌≢◌, ◌<◌, ◌≤◌, ℕ, Bool, true, false, not, ◌||◌, ℤ, List, nat_eq, nat_lt, Option, Some, None, is_some, refl, sym, ap, ◌∙◌, subst, arith, true≢false}
use Rattle.std.specs.Prelude.{slice_get}
use Rattle.std.proofs.lemmas.Bool.Decides.{nat_tests}
use Rattle.net_defs.specs.Network.{Network}
use Rattle.world_defs.specs.History.{CableHistory, fabric_at}
use Rattle.world_defs.specs.Links.{is_idle}
use Rattle.gm_defs.specs.Fragment.{Fragment as FragmentOf, fragments, whole_below}
use Rattle.gm_defs.specs.declared.frame.ConnectionKey.{ConnectionKey}
use Rattle.world_defs.specs.Table.{table_route}
use Rattle.world_defs.specs.Node.{sending_lane, to_send}
use Rattle.world_defs.specs.Log.{Log}
use Rattle.world_defs.specs.Logs.{Moved, Rounds, moved_both, clear, is_last_pass, round_pass, round_passes, round, rounds, settle}
use Rattle.world_defs.specs.World.{WorldState, host_count, last_count, node_at}
use Rattle.world_defs.specs.Step.{after_all}
use Rattle.world_defs.specs.Traffic.{is_broken, sender_on, sent_on}
use Rattle.world_defs.specs.Settle.{expiries, pass_bound, round_bound, unacknowledged_in, base_rose, has_helped, is_last_round}
use Rattle.world_defs.specs.Settled.{IsSettledConnection, IsSettled}
use Rattle.world_laws.specs.Reached.{IsOfSettle}
use Rattle.world_laws.specs.Settling.{RoundPasses, AllRounds}
use Rattle.world_laws.specs.Repeats.{Repeats}
use Rattle.world_laws.proofs.Repeating.{repeats-end}
use Rattle.world_laws.proofs.Passes.{round-ends}
use Rattle.world_laws.proofs.Rounds.{Going, settle-ends}
use Rattle.world_laws.proofs.Clearing.{clear-idle}
use Rattle.world_laws.proofs.Meanings.{base-test, none_left-settled}
use Rattle.world_laws.proofs.Along.{clear-along, expiries-along, round_pass-along, round-along}
use Rattle.world_laws.proofs.Reached.{settles-of}
use Rattle.world_defs.specs.Acts.{IsReached}
use Rattle.message_laws.proofs.Worlds.{reached-ordered}
use Rattle.message_laws.proofs.Windows.{reached-windowed}
use Rattle.settle_laws.specs.Settles.{SettleEndsSettled}
use Rattle.settle_laws.proofs.Whole.{IsWhole, whole-same, IsCabled, table-whole}
use Rattle.settle_laws.proofs.Still.{Still}
use Rattle.settle_laws.proofs.Facts.{Facts, IsReadable, at-place, comes-of, peer-low}
use Rattle.settle_laws.proofs.Sents.{reached-said}
use Rattle.settle_laws.proofs.Kept.{along-going, along-reached, along-facts, Unstruck, along-unstruck}
use Rattle.settle_laws.proofs.Passing.{PlainDrainsIdle, unstruck-whole, pass-facts, pass-still, pass-idle}
use Rattle.settle_laws.proofs.Ended.{nothing-left}
use Rattle.settle_laws.proofs.Expiring.{expiries-links, expiries-again}
use Rattle.settle_laws.proofs.Waiting.{place-there, still-waiting, unreadable}

-- what passes leave
passes-going : (w : WorldState) (l : Log Moved) → RoundPasses w l → Going w l.world
passes-going w l (Repeats.last e) = round_pass-along Going IsOfSettle along-going settles-of w
passes-going w l (Repeats.another {l = rest} e more d) =
    subst (λ t. Going w t.world) (sym d) (along-going.both w (round_pass w).world rest.world (round_pass-along Going IsOfSettle along-going settles-of w) (passes-going (round_pass w).world rest more))

round-ends-idle : (w : WorldState) → is_idle (round w).world.links ≡ true
unfolding round
round-ends-idle w = repeats-end moved_both is_last_pass round_pass (λ v. is_idle v.links ≡ true) (λ v e. pass-idle v) (after_all w (expiries w)) (round_passes (pass_bound w) (after_all w (expiries w))) (round-ends w)

-- a connection after the last pass of a round
record Ended (n : Network) (key : ConnectionKey) (k : ℕ) (fragment : FragmentOf) (z : WorldState) : Type 0 where
  facts : Facts n key k fragment z
  still : Still key k fragment z
  host_done : to_send key.src (node_at z key.src) ≡ None
  peer_done : to_send key.dst (node_at z key.dst) ≡ None

module _ (flows : PlainDrainsIdle) (n : Network) (key : ConnectionKey) (k : ℕ) (fragment : FragmentOf) (readable : IsReadable fragment.message) (cables : CableHistory) (from : IsCabled cables key.src) (to : IsCabled cables key.dst) where
  cabled : (h : ℕ) (w : WorldState) → w.links.cables ≡ cables → IsCabled cables h → IsCabled w.links.cables h
  cabled h w same c = subst (λ x. IsCabled x h) (sym same) c

  passes-end : (w : WorldState) (l : Log Moved) → RoundPasses w l → is_idle w.links ≡ true → l.world.struck ≤ w.struck → l.world.injected < last_count → w.links.cables ≡ cables → IsWhole key w → Facts n key k fragment w → Still key k fragment w → Ended n key k fragment l.world
  passes-end w l (Repeats.last e) idle few left same whole f still =
      let then_f = pass-facts flows n key k fragment readable w f in
      let u : Unstruck w (round_pass w).world = round_pass-along Unstruck IsOfSettle along-unstruck settles-of w in
      let after : (round_pass w).world.links.cables ≡ cables = u.cables few ∙ same in
      record {
        facts = then_f;
        still = pass-still flows n key k fragment readable w idle few f whole still;
        host_done = nothing-left w key.src idle e f.host then_f.host (cabled key.src w same from) (cabled key.src (round_pass w).world after from) left;
        peer_done = nothing-left w key.dst idle e f.peer then_f.peer (cabled key.dst w same to) (cabled key.dst (round_pass w).world after to) left;
      }
  passes-end w l (Repeats.another {l = rest} e more d) idle few left same whole f still =
      let mid : WorldState = (round_pass w).world in
      let up = (round_pass-along Going IsOfSettle along-going settles-of w).rises in
      let on = (passes-going mid rest more).rises in
      let few_all : rest.world.struck ≤ w.struck = subst (λ t. t.world.struck ≤ w.struck) d few in
      let left_all : rest.world.injected < last_count = subst (λ t. t.world.injected < last_count) d left in
      let u : Unstruck w mid = round_pass-along Unstruck IsOfSettle along-unstruck settles-of w in
      let few_first : mid.struck ≤ w.struck = omega (arith, few_all, on) in
      subst (λ t. Ended n key k fragment t.world) (sym d)
      (passes-end mid rest more (pass-idle w) (omega (arith, few_all, up)) left_all (u.cables few_first ∙ same) (unstruck-whole key w mid u few_first whole) (pass-facts flows n key k fragment readable w f) (pass-still flows n key k fragment readable w idle few_first f whole still))

  round-end : (w : WorldState) → is_idle w.links ≡ true → (round w).world.struck ≤ w.struck → (round w).world.injected < last_count → w.links.cables ≡ cables → IsWhole key w → Facts n key k fragment (after_all w (expiries w)) → Still key k fragment (after_all w (expiries w)) → Ended n key k fragment (round w).world
  unfolding round
  round-end w idle few left same whole f still =
      let u : WorldState = after_all w (expiries w) in
      let up = (expiries-along Going IsOfSettle along-going (λ h p. tt) w).rises in
      let first : Unstruck w u = expiries-along Unstruck IsOfSettle along-unstruck (λ h p. tt) w in
      let cables_u : u.links.cables ≡ w.links.cables = ap (λ l. l.cables) (expiries-links w) in
      passes-end u (round_passes (pass_bound w) u) (round-ends w) (ap is_idle (expiries-links w) ∙ idle) (omega (arith, few, up)) left (cables_u ∙ same) (whole-same key w u cables_u first.adopted whole) f still

-- a connection after the last round
module _ (flows : PlainDrainsIdle) (n : Network) (w : WorldState) (is : IsReached n w) (idle : is_idle w.links ≡ true) (few : (round w).world.struck ≤ w.struck) (left : (round w).world.injected < last_count) (key : ConnectionKey) (low : key.src < host_count w) (below : key.dst < host_count w) (same_base : (sender_on (round w).world key).base ≡ (sender_on w key).base) (some : (sender_on w key).base < (sender_on w key).next) where
  abbrev k : ℕ
  k = (sender_on w key).base

  abbrev z : WorldState
  z = (round w).world

  abbrev u : WorldState
  u = after_all w (expiries w)

  going : Going w z
  going = round-along Going IsOfSettle along-going settles-of w

  reached-end : IsReached n z
  reached-end = round-along (λ w v. IsReached n w → IsReached n v) IsOfSettle (along-reached n) settles-of w is

  next-same : (sender_on z key).next ≡ (sender_on w key).next
  next-same = ((going.nodes.each key.src).senders (sending_lane key)).next

  found : (x : FragmentOf) × (slice_get (fragments (sent_on w key)) k ≡ Some x)
  found = let long = (((reached-ordered n w is).hosts key.src).lanes (sending_lane key)).numbered in place-there (fragments (sent_on w key)) k (omega (arith, some, long))

  abbrev fragment : FragmentOf
  fragment = found.0

  first : Facts n key k fragment w
  first = record { reached = is; host = low; peer = below; low = omega arith; there = found.1 }

  last : Facts n key k fragment z
  last = round-along (λ w v. Facts n key k fragment w → Facts n key k fragment v) IsOfSettle (along-facts n key k fragment) settles-of w first

  start : Facts n key k fragment u
  start = expiries-along (λ w v. Facts n key k fragment w → Facts n key k fragment v) IsOfSettle (along-facts n key k fragment) (λ h p. tt) w first

  expired-first : Still key k fragment u
  expired-first = Still.again (expiries-again w key low below (peer-low n key k fragment w first) some)

  -- no planned fault struck, so the cables are as before
  unstruck : Unstruck w z
  unstruck = round-along Unstruck IsOfSettle along-unstruck settles-of w

  waits : IsReadable fragment.message → (there back : List ℤ) → table_route (node_at z key.src).table key.dst ≡ Some there → table_route (node_at z key.dst).table key.src ≡ Some back → IsWhole key z → IsSettledConnection z key
  waits readable there back e f whole =
      let from = (table-whole n z key.src key.dst there reached-end e whole.there).cabled in
      let to = (table-whole n z key.dst key.src back reached-end f whole.back).cabled in
      let same : w.links.cables ≡ z.links.cables = sym (unstruck.cables few) in
      let whole_w = whole-same key z w same (sym unstruck.adopted) whole in
      let e_end = round-end flows n key k fragment readable z.links.cables from to w idle few left same whole_w start expired-first in
      IsSettledConnection.waiting (still-waiting n key k fragment z e_end.facts same_base readable.priority (omega (arith, some, next-same)) (ap is_some e) (ap is_some f) e_end.host_done e_end.peer_done e_end.still)

  readable-by : (t v : Bool) → nat_lt fragment.message.dport 8 ≡ t → nat_lt fragment.message.prio 2 ≡ v → (there back : List ℤ) → table_route (node_at z key.src).table key.dst ≡ Some there → table_route (node_at z key.dst).table key.src ≡ Some back → IsWhole key z → IsSettledConnection z key
  readable-by true true t v there back e f whole =
      let port = at-place (λ x. x.sport < 8) (sent_on w key) (whole_below (sent_on w key) k) fragment.message ((reached-said n w is).from_ports key) (comes-of n key k fragment w first).there in
      waits (record { from_port = port; to_port = grind (arith, nat_tests); priority = grind (arith, nat_tests) }) there back e f whole
  readable-by false v t y there back e f whole = IsSettledConnection.waiting (unreadable n key k fragment z last same_base false v t y refl)
  readable-by true false t y there back e f whole = IsSettledConnection.waiting (unreadable n key k fragment z last same_base true false t y refl)

  connection-settled : IsSettledConnection z key
  connection-settled = by (table_route (node_at z key.src).table key.dst) (table_route (node_at z key.dst).table key.src) (is_broken z key.src key.dst) (is_broken z key.dst key.src) refl refl refl refl
    where
      by : (o p : Option (List ℤ)) (a b : Bool) → table_route (node_at z key.src).table key.dst ≡ o → table_route (node_at z key.dst).table key.src ≡ p → is_broken z key.src key.dst ≡ a → is_broken z key.dst key.src ≡ b → IsSettledConnection z key
      by None p a b e f x y = IsSettledConnection.no_route e
      by (Some there) None a b e f x y = IsSettledConnection.no_route_back f
      by (Some there) (Some back) true b e f x y = IsSettledConnection.cut x
      by (Some there) (Some back) false true e f x y = IsSettledConnection.cut_back y
      by (Some there) (Some back) false false e f x y = readable-by (nat_lt fragment.message.dport 8) (nat_lt fragment.message.prio 2) refl refl there back e f (record { there = x; back = y })

-- a round that didn't help
no-help : (x y : Bool) → (x || not y) ≡ true → x ≡ false → y ≡ false
no-help true y e f = absurd (true≢false f)
no-help false true e f = absurd (true≢false (sym e))
no-help false false e f = refl

neither : (x y : Bool) → (x || y) ≡ false → (x ≡ false) × (y ≡ false)
neither true y e = absurd (true≢false e)
neither false y e = (refl, e)

-- the last round
round-settled : PlainDrainsIdle → (n : Network) (w : WorldState) → is_last_round w (round w).world ≡ true → IsReached n w → is_idle w.links ≡ true → (round w).world.injected < last_count → IsSettled (round w).world
round-settled flows n w e is idle left = by (nat_eq (unacknowledged_in (round w).world) 0) refl
  where
    z : WorldState
    z = (round w).world

    going : Going w z
    going = round-along Going IsOfSettle along-going settles-of w

    reached-z : IsReached n z
    reached-z = round-along (λ w v. IsReached n w → IsReached n v) IsOfSettle (along-reached n) settles-of w is

    left-over : (base_rose w z ≡ false) × (nat_lt w.struck z.struck ≡ false) → (key : ConnectionKey) → key.src < host_count z → key.dst < host_count z → IsSettledConnection z key
    left-over none key low below = equal (nat_eq (sender_on z key).base (sender_on z key).next) refl
      where
        count : host_count z ≡ host_count w
        count = going.nodes.count

        up : (sender_on w key).base ≤ (sender_on z key).base
        up = ((going.nodes.each key.src).senders (sending_lane key)).base

        not-rose : (t : Bool) → nat_lt (sender_on w key).base (sender_on z key).base ≡ t → (sender_on z key).base ≡ (sender_on w key).base
        not-rose true r = absurd (true≢false (sym ((base-test w z).1 (record { host = key.src; peer = key.dst; prio = key.prio; is_host = low; is_peer = below; rose = grind (arith, nat_tests) })) ∙ none.0))
        not-rose false r = let high : (sender_on z key).base ≤ (sender_on w key).base = grind (arith, nat_tests) in omega (arith, high, up)

        equal : (t : Bool) → nat_eq (sender_on z key).base (sender_on z key).next ≡ t → IsSettledConnection z key
        equal true t = IsSettledConnection.all_acknowledged (grind (arith, nat_tests))
        equal false t =
            let same = not-rose (nat_lt (sender_on w key).base (sender_on z key).base) refl in
            let few : z.struck ≤ w.struck = let no = none.1 in grind (arith, nat_tests) in
            let order = (reached-windowed n z reached-z).senders.in_order key.src (sending_lane key) in
            let c = order.base_below in
            let d = order.cursor_below in
            let f = order.top_below in
            let other : (sender_on z key).base ≢ (sender_on z key).next = grind (arith, nat_tests) in
            let next = ((going.nodes.each key.src).senders (sending_lane key)).next in
            connection-settled flows n w is idle few left key (omega (arith, low, count)) (omega (arith, below, count)) same (omega (arith, c, d, f, other, next, same))

    by : (t : Bool) → nat_eq (unacknowledged_in z) 0 ≡ t → IsSettled z
    by true t = none_left-settled z (reached-windowed n z reached-z).senders (grind (arith, nat_tests))
    by false t = record { connections = left-over (neither (base_rose w z) (nat_lt w.struck z.struck) (no-help (nat_eq (unacknowledged_in z) 0) (has_helped w z) e t)) }

-- all rounds
rounds-settled : PlainDrainsIdle → (n : Network) (w : WorldState) (l : Log Rounds) → AllRounds w l → IsReached n w → is_idle w.links ≡ true → l.world.injected < last_count → IsSettled l.world
rounds-settled flows n w l (Repeats.last e) is idle left = round-settled flows n w e is idle left
rounds-settled flows n w l (Repeats.another {l = rest} e more d) is idle left =
    let reached-then : IsReached n (round w).world = round-along (λ w v. IsReached n w → IsReached n v) IsOfSettle (along-reached n) settles-of w is in
    subst (λ t. IsSettled t.world) (sym d)
    (rounds-settled flows n (round w).world rest more reached-then (round-ends-idle w) (subst (λ t. t.world.injected < last_count) d left))

pub settle-settled : PlainDrainsIdle → SettleEndsSettled
unfolding settle
settle-settled flows w can left =
    let n : Network = fabric_at w.links.cables 0 in
    let v : WorldState = (clear w).world in
    let is : IsReached n v = clear-along (λ w v. IsReached n w → IsReached n v) IsOfSettle (along-reached n) settles-of.clears w can.reached in
    rounds-settled flows n v (rounds (round_bound v) v) (settle-ends w (reached-windowed n w can.reached).senders) is (clear-idle w) left
