-- Where no host has anything to send, a fragment that stays unacknowledged waits for a token.
use Rattle.std.proofs.Common.{◌≡◌, ◌≢◌, ◌<◌, ◌≤◌, ◌+◌, ℕ, zero, suc, Bool, true, false, ◌&&◌, ◌||◌, ℤ, List, [], ◌∷◌, length, nat_eq, nat_lt, Option, Some, None, is_some, is_none, option_map, refl, sym, ap, ◌∙◌, subst, arith, true≢false, if◌then◌else◌}
use Rattle.std.specs.Prelude.{slice_get, find, option_and_then}
use Rattle.std.specs.List.{AllByRecursion, list_any, range_with_len}
use Rattle.std.proofs.lemmas.Bool.Decides.{nat_tests}
use Rattle.std.proofs.lemmas.List.{get_or_past}
use Rattle.std.proofs.lemmas.Option.{same_Some}
use Rattle.net_defs.specs.Network.{Network}
use Rattle.gm_defs.specs.declared.frame.FrameHead.{FrameHead}
use Rattle.gm_defs.specs.declared.frame.ConnectionKey.{ConnectionKey}
use Rattle.gm_defs.specs.Connection.{SenderState, window, due}
use Rattle.gm_defs.specs.Fragment.{Fragment as FragmentOf, whole_below, head_of, frame_of}
use Rattle.gm_defs.specs.Token.{PortState, Provided, size_for_length, is_size, is_from, is_filling_for, is_free_for}
use Rattle.world_defs.specs.Sound.{IsPrefix}
use Rattle.world_defs.specs.Table.{table_route}
use Rattle.world_defs.specs.Node.{NodeState, lane_of, sending_lane, taking_lane, sends_on, lane_route, Reply, PartAnswer, FrameAnswer, Fragment, lane_at, port_at, outgoing_staged, owed_on, due_on, due_frame, either, first_some, lanes_of, to_send}
use Rattle.world_defs.specs.Hearing.{port_fits, port_has_begun}
use Rattle.world_defs.specs.World.{WorldState, node_at}
use Rattle.world_defs.specs.Traffic.{sender_on, sent_on, got_on}
use Rattle.world_defs.proofs.Lanes.{peer_of-lane}
use Rattle.world_defs.specs.Settled.{IsWaiting}
use Rattle.message_laws.proofs.Worlds.{got-front, taken-come}
use Rattle.settle_laws.proofs.Says.{IsFor, PortFits}
use Rattle.message_laws.proofs.Frames.{get-front}
use Rattle.settle_laws.proofs.Sents.{reached-said}
use Rattle.settle_laws.proofs.Still.{Still}
use Rattle.settle_laws.proofs.Refused.{not-begun}
use Rattle.settle_laws.proofs.Facts.{Facts, at-place, comes-of, peer-low, host-low, world-of}

-- what isn't sent first isn't there
either-none : {A : Type 0} (x y : Option A) → either x y ≡ None → (x ≡ None) × (y ≡ None)
either-none (Some x) y e = cc
either-none None y e = (refl, e)

first-none : {A : Type 0} (f : ℕ → Option A) (from count j : ℕ) → from ≤ j → j < from + count → first_some f (range_with_len from count) ≡ None → f j ≡ None
first-none f from zero j low high e = absurd (omega (arith, low, high))
first-none f from (suc count) j low high e = by (nat_eq j from) refl (either-none (f from) (first_some f (range_with_len (from + 1) count)) e) (λ more. first-none f (from + 1) count j more (omega (arith, high)))
  where
    by : (t : Bool) → nat_eq j from ≡ t → (f from ≡ None) × (first_some f (range_with_len (from + 1) count) ≡ None) → (from + 1 ≤ j → first_some f (range_with_len (from + 1) count) ≡ None → f j ≡ None) → f j ≡ None
    by true p two more = let same : j ≡ from = grind (arith, nat_tests) in ap f same ∙ two.0
    by false p two more = let other : j ≢ from = grind (arith, nat_tests) in more (omega (arith, low, other)) two.1

nothing-owed : (host : ℕ) (n : NodeState) → to_send host n ≡ None → (p : ℕ) → p < length n.lanes → (owed_on n p ≡ None) × (due_on host n p ≡ None)
unfolding to_send
nothing-owed host n e p low =
    let a = either-none (option_map outgoing_staged n.staged) _ e in
    let b = either-none (option_map Reply n.reply) _ a.1 in
    let c = either-none (option_map PartAnswer n.part_ack) _ b.1 in
    let d = either-none (first_some (owed_on n) (lanes_of n)) _ c.1 in
    (first-none (owed_on n) 0 (length n.lanes) p (omega arith) (omega (arith, low)) d.0, first-none (due_on host n) 0 (length n.lanes) p (omega arith) (omega (arith, low)) d.1)

-- with a route, an acknowledgement that is owed would be sent
no-answer : (n : NodeState) (p : ℕ) (b : Bool) (o : Option (List ℤ)) → b ≡ true → is_some o ≡ true → (if b then option_map (λ by. FrameAnswer p (lane_at n p).taken by) o else None) ≡ None → ⊥
no-answer n p true (Some by) e f g = cc
no-answer n p true None e f g = absurd (true≢false (sym f))
no-answer n p false o e f g = absurd (true≢false (sym e))

-- and so would a fragment that is due
no-fragment : (p : ℕ) (f : FrameHead × List ℕ) (o : Option (List ℤ)) → is_some o ≡ true → option_map (λ by. Fragment p f.0 f.1 by) o ≡ None → ⊥
no-fragment p f (Some by) e g = cc
no-fragment p f None e g = absurd (true≢false (sym e))

due-now : (s : SenderState) (k : ℕ) → s.cursor ≡ k → s.base ≡ k → k < s.next → due s ≡ Some k
due-now s k c b low =
    let x : nat_lt s.cursor s.next ≡ true = grind (arith, nat_tests) in
    let y : nat_lt s.cursor (s.base + window) ≡ true = let few : s.cursor < s.base + window = omega (arith, c, b) in grind (arith, nat_tests) in
    by (nat_lt s.cursor s.next) (nat_lt s.cursor (s.base + window)) x y
  where
    by : (x y : Bool) → x ≡ true → y ≡ true → (if x && y then Some s.cursor else None) ≡ Some k
    by true true e f = ap Some c
    by true false e f = absurd (true≢false (sym f))
    by false y e f = absurd (true≢false (sym e))

-- a place below the length
pub place-there : {A : Type 0} (xs : List A) (i : ℕ) → i < length xs → (x : A) × (slice_get xs i ≡ Some x)
place-there [] i low = absurd (omega (arith, low))
place-there (x ∷ xs) zero low = (x, refl)
place-there (x ∷ xs) (suc i) low = place-there xs i (omega (arith, low))

-- what holds of a prefix holds of each element of the whole that stands below its length
of-front : {A : Type 0} (P : A → Type 0) (front whole : List A) (i : ℕ) (x : A) → IsPrefix front whole → AllByRecursion P front → i < length front → slice_get whole i ≡ Some x → P x
of-front P front whole i x f all low e =
    let y = place-there front i low in
    let there : slice_get whole i ≡ Some y.0 = ap (λ l. slice_get l i) f.both ∙ get-front front f.rest i y.0 y.1 in
    subst P (same_Some y.0 x (sym there ∙ e)) (at-place P front i y.0 all y.1)

-- no provided token has another priority than 0 and 1, so none fits such a message
unfit : (len prio : ℕ) (rs : List Provided) → 2 ≤ prio → AllByRecursion (λ r. r.prio < 2) rs → is_some (find (is_free_for len prio) rs) ≡ false
unfit len prio [] high all = refl
unfit len prio (r ∷ rs) high all =
    let rest = unfit len prio rs high all.1 in
    let low = all.0 in
    let other : nat_eq r.prio prio ≡ false = grind (arith, nat_tests) in
    by (is_none r.filling) (is_size r.size (size_for_length len)) (nat_eq r.prio prio) other rest
  where
    by : (z x y : Bool) → y ≡ false → is_some (find (is_free_for len prio) rs) ≡ false → is_some (if z && (x && y) then Some r else find (is_free_for len prio) rs) ≡ false
    by true true true e rest = absurd (true≢false e)
    by true true false e rest = rest
    by true false y e rest = rest
    by false x y e rest = rest

-- and none is filling with one
unfilled : (src prio : ℕ) (rs : List Provided) → 2 ≤ prio → AllByRecursion (λ r. r.prio < 2) rs → list_any (is_filling_for src prio) rs ≡ false
unfilled src prio [] high all = refl
unfilled src prio (r ∷ rs) high all =
    let rest = unfilled src prio rs high all.1 in
    let low = all.0 in
    let other : nat_eq r.prio prio ≡ false = grind (arith, nat_tests) in
    by (is_from src r.filling) (nat_eq r.prio prio) other rest
  where
    by : (x y : Bool) → y ≡ false → list_any (is_filling_for src prio) rs ≡ false → ((x && y) || list_any (is_filling_for src prio) rs) ≡ false
    by true true e rest = absurd (true≢false e)
    by true false e rest = rest
    by false y e rest = rest

no-priority : (len prio : ℕ) (o : Option PortState) → PortFits o → 2 ≤ prio → port_fits o len prio ≡ false
no-priority len prio None fit high = refl
no-priority len prio (Some p) fit high = unfit len prio p.provided high fit

none-begun : (src prio : ℕ) (o : Option PortState) → PortFits o → 2 ≤ prio → port_has_begun o src prio ≡ false
none-begun src prio None fit high = refl
none-begun src prio (Some p) fit high = unfilled src prio p.provided high fit

module _ (n : Network) (key : ConnectionKey) (k : ℕ) (fragment : FragmentOf) (z : WorldState) (f : Facts n key k fragment z) (base : (sender_on z key).base ≡ k) where
  -- the message is there, and it is the first of which not all is acknowledged
  abbrev at : ℕ
  at = whole_below (sent_on z key) k

  first-there : at ≡ whole_below (sent_on z key) (sender_on z key).base
  first-there = ap (whole_below (sent_on z key)) (sym base)

  message-there : slice_get (sent_on z key) at ≡ Some fragment.message
  message-there = (comes-of n key k fragment z f).there

  -- a route to a peer is one of its lane
  lane-routed : (host peer prio : ℕ) → is_some (table_route (node_at z host).table peer) ≡ true → is_some (lane_route (node_at z host) (lane_of peer prio)) ≡ true
  lane-routed host peer prio route = subst (λ x. is_some (table_route (node_at z host).table x) ≡ true) (sym (peer_of-lane peer prio)) route

  not-next : (sender_on z key).cursor ≡ k → k < (sender_on z key).next → is_some (table_route (node_at z key.src).table key.dst) ≡ true → to_send key.src (node_at z key.src) ≡ None → ⊥
  not-next c low route none =
      let lane : ℕ = sending_lane key in
      let mine : ConnectionKey = sends_on key.src lane in
      let d = (nothing-owed key.src (node_at z key.src) none lane (peer-low n key k fragment z f)).1 in
      let frame : due_frame key.src (node_at z key.src) lane ≡ Some (head_of mine k fragment, fragment.part) =
      ap (option_and_then (λ seq. frame_of mine (sent_on z key) seq)) (due-now (sender_on z key) k c base low) ∙ ap (option_map (λ g. (head_of mine k g, g.part))) f.there in
      no-fragment lane (head_of mine k fragment, fragment.part) (lane_route (node_at z key.src) lane) (lane-routed key.src key.dst key.prio route)
      (sym (ap (option_and_then (λ x. option_map (λ by. Fragment lane x.0 x.1 by) (lane_route (node_at z key.src) lane))) frame) ∙ d)

  not-owed : (lane_at (node_at z key.dst) (taking_lane key)).owes ≡ true → is_some (table_route (node_at z key.dst).table key.src) ≡ true → to_send key.dst (node_at z key.dst) ≡ None → ⊥
  not-owed o route none =
      let lane : ℕ = taking_lane key in
      let d = (nothing-owed key.dst (node_at z key.dst) none lane (host-low n key k fragment z f)).0 in
      no-answer (node_at z key.dst) lane (lane_at (node_at z key.dst) lane).owes (lane_route (node_at z key.dst) lane) o (lane-routed key.dst key.src key.prio route) d

  pub still-waiting : fragment.message.prio < 2 → k < (sender_on z key).next → is_some (table_route (node_at z key.src).table key.dst) ≡ true → is_some (table_route (node_at z key.dst).table key.src) ≡ true → to_send key.src (node_at z key.src) ≡ None → to_send key.dst (node_at z key.dst) ≡ None → Still key k fragment z → IsWaiting z key
  still-waiting small low there back no_a no_b (Still.risen r) = absurd (omega (arith, r, base))
  still-waiting small low there back no_a no_b (Still.again c) = absurd (not-next c low there no_a)
  still-waiting small low there back no_a no_b (Still.owed t o) = absurd (not-owed o back no_b)
  still-waiting small low there back no_a no_b (Still.waits t o p) =
      let count : length (got_on z key) ≡ at = (taken-come n z f.reached key).whole ∙ ap (whole_below (sent_on z key)) t in
      record {
        place = at;
        message = fragment.message;
        first = first-there;
        there = message-there;
        not_taken = omega (arith, count);
        not_begun = not-begun n key k fragment z f small t o;
        no_token = p;
      }

  -- a message that no host takes: for no port, or of no priority
  not-got : (IsFor fragment.message → ⊥) → length (got_on z key) ≤ at
  not-got never = by (nat_lt at (length (got_on z key))) refl
    where
      by : (t : Bool) → nat_lt at (length (got_on z key)) ≡ t → length (got_on z key) ≤ at
      by true t =
          let low : at < length (got_on z key) = grind (arith, nat_tests) in
          absurd (never (of-front IsFor (got_on z key) (sent_on z key) at fragment.message (got-front n z f.reached key) ((reached-said n z f.reached).got key) low message-there))
      by false t = grind (arith, nat_tests)

  -- no port of eight
  no-port : 8 ≤ fragment.message.dport → port_at (node_at z key.dst) fragment.message.dport ≡ None
  no-port past =
      let eight : length (node_at z key.dst).ports ≡ 8 = ((world-of n key k fragment z f).each_node key.dst f.peer).ports in
      get_or_past (node_at z key.dst).ports fragment.message.dport None (omega (arith, past, eight))

  unreadable-waiting : (IsFor fragment.message → ⊥) → port_has_begun (port_at (node_at z key.dst) fragment.message.dport) key.src fragment.message.prio ≡ false
      → port_fits (port_at (node_at z key.dst) fragment.message.dport) (length fragment.message.body) fragment.message.prio ≡ false → IsWaiting z key
  unreadable-waiting never b p = record { place = at; message = fragment.message; first = first-there; there = message-there; not_taken = not-got never; not_begun = b; no_token = p }

  pub unreadable : (t u : Bool) → nat_lt fragment.message.dport 8 ≡ t → nat_lt fragment.message.prio 2 ≡ u → (t && u) ≡ false → IsWaiting z key
  unreadable false u t v e =
      let none = no-port (grind (arith, nat_tests)) in
      unreadable-waiting (λ x. let low = x.port in absurd (grind (arith, nat_tests))) (ap (λ o. port_has_begun o key.src fragment.message.prio) none) (ap (λ o. port_fits o (length fragment.message.body) fragment.message.prio) none)
  unreadable true false t v e =
      let fit = (reached-said n z f.reached).ports key.dst fragment.message.dport in
      let high : 2 ≤ fragment.message.prio = grind (arith, nat_tests) in
      unreadable-waiting (λ x. let low = x.priority in absurd (grind (arith, nat_tests))) (none-begun key.src fragment.message.prio (port_at (node_at z key.dst) fragment.message.dport) fit high) (no-priority (length fragment.message.body) fragment.message.prio (port_at (node_at z key.dst) fragment.message.dport) fit high)
  unreadable true true t v e = absurd (true≢false e)
