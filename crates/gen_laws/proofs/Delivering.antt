-- A settle after the calls of a generated run: there are tokens and routes enough, so all messages come, and four wait at each host.
use Rattle.std.proofs.Common.{◌≡◌, ◌≢◌, ◌≤◌, ◌<◌, ◌+◌, ℕ, zero, suc, Bool, true, false, ◌&&◌, List, [], ◌∷◌, ◌++◌, map, length, nat_eq, nat_lt, Option, Some, None, refl, sym, ap, ◌∙◌, subst, arith, if◌then◌else◌}
use Rattle.std.specs.Prelude.{slice_get, drop}
use Rattle.std.specs.List.{AllByRecursion, filter, range_with_len}
use Rattle.std.proofs.lemmas.Bool.Decides.{nat_tests}
use Rattle.std.proofs.lemmas.Option.{same_Some}
use Rattle.std.proofs.lemmas.List.{get_or_past, length-map}
use Rattle.net_defs.specs.Network.{Network}
use Rattle.net_defs.proofs.Distinct.{all-weaker}
use Rattle.gm_defs.specs.declared.message.Message.{Message}
use Rattle.gm_defs.specs.declared.frame.ConnectionKey.{ConnectionKey}
use Rattle.gm_defs.specs.Connection.{connection}
use Rattle.gm_defs.specs.Token.{PortState, PortEvent, Sent, Received, size_for_length, is_size, fits}
use Rattle.gm_defs.proofs.Choices.{both}
use Rattle.world_defs.specs.Lane.{LaneState, new_lane}
use Rattle.world_defs.specs.Logs.{settle}
use Rattle.world_defs.specs.Node.{NodeState, new_node, lane_count, peer_of, prio_of, lane_of, lane_at, port_at, sends_on}
use Rattle.world_defs.specs.Settle.{unacknowledged_in}
use Rattle.world_defs.specs.Traffic.{sender_on, sent_on, got_on}
use Rattle.world_defs.specs.World.{WorldState, last_count, new_world, node_at}
use Rattle.world_defs.specs.Acts.{IsReached}
use Rattle.world_defs.proofs.Lists.{each-replicate}
use Rattle.world_laws.specs.Reached.{IsOfSettle}
use Rattle.world_laws.proofs.Along.{settle-along}
use Rattle.world_laws.proofs.Reached.{settles-of}
use Rattle.message_laws.specs.Filling.{provided_in}
use Rattle.message_laws.specs.Got.{IsAllGot}
use Rattle.settle_laws.specs.Premises.{CanSettle}
use Rattle.client_laws.specs.Handed.{Handed, in_events, waiting_in, is_on, as_handed, is_to as is_to_port, IsOfConnection}
use Rattle.client_laws.proofs.Polled.{polled-got}
use Rattle.client_laws.proofs.Others.{seen-of_connections}
use Rattle.client_laws.proofs.Returned.{events-of_tokens}
use Rattle.fabric_gen.specs.Text.{below, peer, message_length, message_prio, message_seed, message_size}
use Rattle.fabric_gen.proofs.Messages.{has-room, goes-on, peer-below}
use Rattle.delivery_laws.specs.Delivery.{is_wanted, wanted_from, wanted_at, is_of, provided_at, HasEnough, HasPaths}
use Rattle.delivery_laws.proofs.Counts.{total, total-less-in, count_of, one_if, count-cons, drop-fewer}
use Rattle.delivery_laws.proofs.Tokens.{Keeps, along-keeps}
use Rattle.delivery_laws.proofs.Delivered.{settle-delivers}
use Rattle.gen_laws.proofs.Calling.{bytes-long, Ready}
use Rattle.gen_laws.proofs.Hosts.{Hosts, message_of, goes_by, has_size}
use Rattle.gen_laws.proofs.Counts.{count-less, count-mapped, grouped, pairs-all, pairs-even, pairs-odd, messages, is_from, is_to, one-to}
use Rattle.gen_laws.proofs.Steady.{IsSteady, none-polled, steady-changes, none-broken}

-- ---- lists
total-same : (f g : ℕ → ℕ) (from count : ℕ) → ((i : ℕ) → i < from + count → f i ≡ g i) → total f from count ≡ total g from count
total-same f g from count same =
    let a = total-less-in f g from count (λ i low. let e = same i low in omega (arith, e)) in
    let b = total-less-in g f from count (λ i low. let e = same i low in omega (arith, e)) in
    omega (arith, a, b)

-- numbers in order
up : (a b c : ℕ) → a ≤ b → b ≤ c → a ≤ c
up a b c low high = omega (arith, low, high)

below-same : (a b c : ℕ) → a ≤ b → b ≡ c → a ≤ c
below-same a b c low same = omega (arith, low, same)

above-same : (a b c : ℕ) → a ≡ b → a ≤ c → b ≤ c
above-same a b c same low = omega (arith, same, low)

drop-none : {A : Type 0} (xs : List A) → drop 0 xs ≡ xs
drop-none [] = refl
drop-none (x ∷ xs) = refl

none-of : {A : Type 0} (xs : List A) → count_of (λ x. false) xs ≡ 0
none-of [] = refl
none-of (x ∷ xs) = none-of xs

-- one that passes a test
record IsFound {A : Type 0} (test : A → Bool) (P : A → Type 0) : Type 0 where
  element : A
  passes : test element ≡ true
  has : P element

some-found : {A : Type 0} (test : A → Bool) (P : A → Type 0) (xs : List A) → AllByRecursion P xs → 0 < count_of test xs → IsFound test P
some-found test P [] all some = absurd (omega (arith, some))
some-found test P (x ∷ xs) all some = by (test x) refl some (some-found test P xs all.1)
  where
    by : (b : Bool) → test x ≡ b → 0 < length (if b then x ∷ filter test xs else filter test xs) → (0 < count_of test xs → IsFound test P) → IsFound test P
    by true e more rest = record { element = x; passes = e; has = all.0 }
    by false e more rest = rest more

below-all : (from count bound : ℕ) → from + count ≤ bound → AllByRecursion (λ i. i < bound) (range_with_len from count)
below-all from zero bound low = tt
below-all from (suc count) bound low = (omega (arith, low), below-all (from + 1) count bound (omega (arith, low)))

-- each message is from a host
pub from-hosts : (n : ℕ) → AllByRecursion (λ d. d.0 < n) (messages n)
from-hosts n = pairs-all (λ i. i < n) (below n) (below-all 0 n n (omega arith))

-- what is counted host by host
of-hosts : (n : ℕ) (test : ℕ × ℕ → Bool) (f : ℕ → ℕ) → ((src : ℕ) → src < n → f src ≤ count_of (λ d. is_from src d && test d) (messages n)) → total f 0 n ≤ count_of test (messages n)
of-hosts n test f each =
    below-same (total f 0 n) (total (λ src. count_of (λ d. is_from src d && test d) (messages n)) 0 n) (count_of test (messages n))
    (total-less-in f (λ src. count_of (λ d. is_from src d && test d) (messages n)) 0 n (λ src low. each src (omega (arith, low)))) (grouped (λ (d : ℕ × ℕ). d.0) test n (messages n) (from-hosts n))

-- what comes from a host by a lane
abbrev by_lane : ℕ → ℕ → ℕ → ℕ → ℕ × ℕ → Bool
by_lane n seed src lane d = is_from src d && goes_by n seed lane d

count-sent : (n seed src lane : ℕ) (test : Message → Bool) (sent : List Message) → sent ≡ map (message_of n seed) (filter (by_lane n seed src lane) (messages n))
    → count_of test sent ≡ count_of (λ d. is_from src d && (goes_by n seed lane d && test (message_of n seed d))) (messages n)
count-sent n seed src lane test sent e = ap (count_of test) e ∙ count-mapped (is_from src) (goes_by n seed lane) (message_of n seed) test (messages n)

-- ---- tokens enough
same-peer : (a b prio p : ℕ) → nat_eq (lane_of a p) (lane_of b prio) ≡ true → prio ≡ p → nat_eq a b ≡ true
same-peer a b prio p e f = grind (arith, nat_tests)

lane-peer : (a b p prio : ℕ) → nat_eq (lane_of a p) (lane_of b prio) ≡ true → a ≡ b
lane-peer a b p prio e = grind (arith, nat_tests)

equal : (a b : ℕ) → nat_eq a b ≡ true → a ≡ b
equal a b e = grind (arith, nat_tests)

flip-equal : (a b : ℕ) → nat_eq a b ≡ true → nat_eq b a ≡ true
flip-equal a b e = grind (arith, nat_tests)

-- a message that a token is wanted for has its buffer there
wanted-there : (n seed h port size prio : ℕ) (d : ℕ × ℕ) → (goes_by n seed (lane_of h prio) d && is_wanted port size prio (message_of n seed d)) ≡ true → (nat_eq 1 port ≡ true) × ((is_to n seed h d && has_size seed size prio d) ≡ true)
wanted-there n seed h port size prio d e =
    let m : Message = message_of n seed d in
    let one = both (goes_by n seed (lane_of h prio) d) (is_wanted port size prio m) e in
    let two = both (nat_eq 1 port) (fits size prio (length m.body) m.prio) one.1 in
    let three = both (is_size size (size_for_length (length m.body))) (nat_eq prio m.prio) two.1 in
    let room : size_for_length (length m.body) ≡ Some (message_size seed d.0 d.1) = ap size_for_length (bytes-long (message_length seed d.0 d.1) (message_seed seed d.0 d.1)) ∙ has-room seed d.0 d.1 in
    let least : nat_eq size (message_size seed d.0 d.1) ≡ true = ap (is_size size) (sym room) ∙ three.0 in
    let same : prio ≡ message_prio d.1 = equal prio (message_prio d.1) three.1 in
    let there = same-peer (peer n seed d.0 d.1) h prio (message_prio d.1) one.0 same in
    (two.0, λ i. there i && (flip-equal size (message_size seed d.0 d.1) least i && flip-equal prio (message_prio d.1) three.1 i))

-- a connection is of two hosts
record AreTwoHosts (n : ℕ) (c : ConnectionKey) : Type 0 where
  src : c.src < n
  dst : c.dst < n
  other : c.dst ≢ c.src

none-sent : (base next : ℕ) → base < next → next ≡ 0 → ⊥
none-sent base next more none = omega (arith, more, none)

some-sent : (base next long count : ℕ) → base < next → next ≤ long → long ≡ count → 0 < count
some-sent base next long count more few same = omega (arith, more, few, same)

module _ (n seed : ℕ) (two : 2 ≤ n) (w : WorldState) (is : Hosts n (Ready n seed (messages n) (messages n)) w) where
  sent-at : (h lane : ℕ) → h < n → (lane_at (node_at w h) lane).sent ≡ map (message_of n seed) (filter (by_lane n seed h lane) (messages n))
  sent-at h lane low = (is.each h low).plain.sent lane

  wanted-count : (h port size prio src : ℕ) → src < n → wanted_from w h port size prio src ≤ count_of (λ d. is_from src d && (goes_by n seed (lane_of h prio) d && is_wanted port size prio (message_of n seed d))) (messages n)
  wanted-count h port size prio src low =
      let c : ConnectionKey = connection src h prio in
      below-same (wanted_from w h port size prio src) (count_of (is_wanted port size prio) (sent_on w c)) (count_of (λ d. is_from src d && (goes_by n seed (lane_of h prio) d && is_wanted port size prio (message_of n seed d))) (messages n))
      (subst (λ ms. wanted_from w h port size prio src ≤ count_of (is_wanted port size prio) ms) (drop-none (sent_on w c)) (drop-fewer (is_wanted port size prio) (sent_on w c) 0 (length (got_on w c)) (omega arith))) (count-sent n seed src (lane_of h prio) (is_wanted port size prio) (sent_on w c) (sent-at src (lane_of h prio) low))

  wanted-all : (h port size prio : ℕ) → wanted_at w h port size prio ≤ count_of (λ d. goes_by n seed (lane_of h prio) d && is_wanted port size prio (message_of n seed d)) (messages n)
  wanted-all h port size prio =
      subst (λ hosts. total (wanted_from w h port size prio) 0 hosts ≤ count_of (λ d. goes_by n seed (lane_of h prio) d && is_wanted port size prio (message_of n seed d)) (messages n)) (sym is.count)
      (of-hosts n (λ d. goes_by n seed (lane_of h prio) d && is_wanted port size prio (message_of n seed d)) (wanted_from w h port size prio) (λ src low. wanted-count h port size prio src low))

  tokens-enough : (h port size prio : ℕ) → h < n → wanted_at w h port size prio ≤ provided_at w h port size prio
  tokens-enough h port size prio low = by (nat_eq 1 port) refl
    where
      wanted : ℕ
      wanted = count_of (λ d. goes_by n seed (lane_of h prio) d && is_wanted port size prio (message_of n seed d)) (messages n)

      by : (b : Bool) → nat_eq 1 port ≡ b → wanted_at w h port size prio ≤ provided_at w h port size prio
      by true e =
          let takes = (is.each h low).takes in
          let same : 1 ≡ port = equal 1 port e in
          let there : provided_at w h port size prio ≡ count_of (λ d. is_to n seed h d && has_size seed size prio d) (messages n) =
          ap (λ q. provided_at w h q size prio) (sym same) ∙ ap (λ o. count_of (is_of size prio) (provided_in o)) takes.is_port ∙ takes.provided size prio in
          up (wanted_at w h port size prio) wanted (provided_at w h port size prio) (wanted-all h port size prio)
          (below-same wanted (count_of (λ d. is_to n seed h d && has_size seed size prio d) (messages n)) (provided_at w h port size prio)
          (count-less (λ d. goes_by n seed (lane_of h prio) d && is_wanted port size prio (message_of n seed d)) (λ d. is_to n seed h d && has_size seed size prio d) (messages n) (λ d k. (wanted-there n seed h port size prio d k).1)) (sym there))
      by false e =
          up (wanted_at w h port size prio) wanted (provided_at w h port size prio) (wanted-all h port size prio)
          (up wanted 0 (provided_at w h port size prio)
          (below-same wanted (count_of (λ d. false) (messages n)) 0
          (count-less (λ d. goes_by n seed (lane_of h prio) d && is_wanted port size prio (message_of n seed d)) (λ d. false) (messages n) (λ d k. sym e ∙ (wanted-there n seed h port size prio d k).0)) (none-of (messages n)))
          (omega arith))

  -- routes enough
  past-none : (h lane : ℕ) → n ≤ h → (lane_at (node_at w h) lane).sender.next ≡ 0
  past-none h lane past =
      let count = is.count in
      ap (λ (x : NodeState). (lane_at x lane).sender.next) (get_or_past w.nodes h (new_node 0) (omega (arith, count, past))) ∙ each-replicate (λ (l : LaneState). l.sender.next ≡ 0) (lane_count 0) lane new_lane new_lane refl refl

  joined : (c : ConnectionKey) → (sender_on w c).base < (sender_on w c).next → AreTwoHosts n c
  joined c more = by (nat_lt c.src n) refl
    where
      lane : ℕ
      lane = lane_of c.dst c.prio

      by : (b : Bool) → nat_lt c.src n ≡ b → AreTwoHosts n c
      by false e =
          let none = past-none c.src lane (grind (arith, nat_tests)) in
          absurd (none-sent (sender_on w c).base (sender_on w c).next more none)
      by true e =
          let low : c.src < n = grind (arith, nat_tests) in
          let some = some-sent (sender_on w c).base (sender_on w c).next (length (sent_on w c)) (count_of (by_lane n seed c.src lane) (messages n)) more ((is.each c.src low).plain.few lane)
          (ap length (sent-at c.src lane low) ∙ length-map (filter (by_lane n seed c.src lane) (messages n)) (message_of n seed)) in
          let f : IsFound (by_lane n seed c.src lane) (λ (d : ℕ × ℕ). d.0 < n) = some-found (by_lane n seed c.src lane) (λ (d : ℕ × ℕ). d.0 < n) (messages n) (from-hosts n) some in
          let d : ℕ × ℕ = f.element in
          let parts = both (is_from c.src d) (goes_by n seed lane d) f.passes in
          let from : d.0 ≡ c.src = equal d.0 c.src parts.0 in
          let to : peer n seed d.0 d.1 ≡ c.dst = lane-peer (peer n seed d.0 d.1) c.dst (message_prio d.1) c.prio parts.1 in
          record { src = low; dst = subst (λ p. p < n) to (peer-below n seed d.0 d.1 two); other = λ same. goes-on n seed d.0 d.1 two f.has (to ∙ same ∙ sym from) }

  enough : HasEnough w
  enough = record {
    tables = λ c more.
        let j = joined c more in
        ((is.each c.src j.src).plain.routed c.dst j.dst j.other, (is.each c.dst j.dst).plain.routed c.src j.src (λ same. j.other (sym same)));
    tokens = λ h port size prio low. tokens-enough h port size prio (let count = is.count in omega (arith, low, count));
  }

-- ---- four messages wait at each host
prios-two : (xs : List Handed) → count_of (λ (x : Handed). nat_eq x.prio 0) xs + count_of (λ (x : Handed). nat_eq x.prio 1) xs ≤ length xs
prios-two [] = omega arith
prios-two (x ∷ xs) =
    let a = count-cons (λ (y : Handed). nat_eq y.prio 0) x xs in
    let b = count-cons (λ (y : Handed). nat_eq y.prio 1) x xs in
    let rest = prios-two xs in
    let one = at-most x.prio in
    omega (arith, a, b, rest, one)
  where
    by : (p : ℕ) (s t : Bool) → nat_eq p 0 ≡ s → nat_eq p 1 ≡ t → one_if s + one_if t ≤ 1
    by p true true e f = absurd (grind (arith, nat_tests))
    by p true false e f = omega arith
    by p false true e f = omega arith
    by p false false e f = omega arith

    at-most : (p : ℕ) → one_if (nat_eq p 0) + one_if (nat_eq p 1) ≤ 1
    at-most p = by p (nat_eq p 0) (nat_eq p 1) refl refl

lane-to : (a b p : ℕ) → nat_eq a b ≡ true → nat_eq (lane_of a p) (lane_of b p) ≡ true
lane-to a b p e = grind (arith, nat_tests)

-- a message of each number comes
one-comes : (n seed h m : ℕ) → 2 ≤ n → h < n → 1 ≤ count_of (λ i. goes_by n seed (lane_of h (message_prio m)) (i, m) && is_to_port 1 (message_of n seed (i, m))) (below n)
one-comes n seed h m two low =
    let one = one-to n seed h m two low in
    let less = count-less (λ i. nat_eq (peer n seed i m) h) (λ i. goes_by n seed (lane_of h (message_prio m)) (i, m) && is_to_port 1 (message_of n seed (i, m))) (below n)
    (λ i e. ap (λ b. b && true) (lane-to (peer n seed i m) h (message_prio m) e)) in
    above-same (count_of (λ i. nat_eq (peer n seed i m) h) (below n)) 1 (count_of (λ i. goes_by n seed (lane_of h (message_prio m)) (i, m) && is_to_port 1 (message_of n seed (i, m))) (below n)) one less

four-of : (a b c : ℕ) → 2 ≤ a → 2 ≤ b → a + b ≤ c → 4 ≤ c
four-of a b c one two both = omega (arith, one, two, both)

-- an event of a port is a received message
abbrev pub HasReceived : ℕ → List PortEvent → Type 0
HasReceived zero es = Unit {0}
HasReceived (suc k) [] = ⊥
HasReceived (suc k) (Sent t buffer ∷ es) = ⊥
HasReceived (suc k) (Received t buffer from sport prio len ∷ es) = HasReceived k es

events-received : (k : ℕ) (es : List PortEvent) → ((place t : ℕ) (buffer : List ℕ) → slice_get es place ≡ Some (Sent t buffer) → ⊥) → k ≤ length (in_events es) → HasReceived k es
events-received zero es none long = tt
events-received (suc k) [] none long = absurd (omega (arith, long))
events-received (suc k) (Sent t buffer ∷ es) none long = absurd (none 0 t buffer refl)
events-received (suc k) (Received t buffer from sport prio len ∷ es) none long = events-received k es (λ place u b e. none (suc place) u b e) (omega (arith, long))

mapped-port : (n seed : ℕ) (ds : List (ℕ × ℕ)) (place : ℕ) (m : Message) → slice_get (map (message_of n seed) ds) place ≡ Some m → m.sport ≡ 0
mapped-port n seed [] place m e = cc
mapped-port n seed (d ∷ ds) zero m e = let same : message_of n seed d ≡ m = same_Some (message_of n seed d) m e in sym (ap (λ (x : Message). x.sport) same)
mapped-port n seed (d ∷ ds) (suc place) m e = mapped-port n seed ds place m e

-- At port 1 of a host four messages wait first.
pub record HasFour (x : NodeState) : Type 0 where
  pub port : PortState
  pub is_port : port_at x 1 ≡ Some port
  pub received : HasReceived 4 port.events

-- What a settle leaves: nothing unacknowledged, and at port 1 of each host four messages to be polled.
pub record IsDelivered (n : ℕ) (z : WorldState) : Type 0 where
  pub unacked : unacknowledged_in z ≡ 0
  pub four : (h : ℕ) → h < n → HasFour (node_at z h)

module _ (g : Network) (n seed : ℕ) (two : 2 ≤ n) (hosts : length g.hosts ≡ n) (w : WorldState) (reached : IsReached g w) (can : CanSettle w) (left : (settle w).world.injected < last_count)
    (is : Hosts n (Ready n seed (messages n) (messages n)) w) (after : IsReached g (settle w).world) (steady : AllByRecursion IsSteady after.acts) where
  abbrev z : WorldState
  z = (settle w).world

  paths : HasPaths w z
  paths =
      let none = steady-changes g z after steady in
      record { routes = λ c more. (none-broken g z c.src c.dst after none, none-broken g z c.dst c.src after none) }

  delivered : (unacknowledged_in z ≡ 0) × IsAllGot z
  delivered = settle-delivers w can left (enough n seed two w is) paths

  kept : Keeps g w z
  kept = settle-along (λ u v. IsReached g u → Keeps g u v) IsOfSettle (along-keeps g) settles-of w reached

  sent-after : (h lane : ℕ) → h < n → (c : ConnectionKey) → c.src ≡ h → lane_of c.dst c.prio ≡ lane → sent_on z c ≡ map (message_of n seed) (filter (by_lane n seed h lane) (messages n))
  sent-after h lane low c e f = kept.sent c ∙ (λ i. (lane_at (node_at w (e i)) (f i)).sent) ∙ sent-at n seed two w is h lane low

  abbrev waiting : ℕ → List Handed
  waiting h = waiting_in (port_at (node_at z h) 1)

  -- what waits from a host, of a priority
  waits-from : (h src prio : ℕ) → prio < 2 → src < n → count_of (is_on src prio) (waiting h) ≡ count_of (λ d. is_from src d && (goes_by n seed (lane_of h prio) d && is_to_port 1 (message_of n seed d))) (messages n)
  waits-from h src prio low there =
      let c : ConnectionKey = connection src h prio in
      let none = none-polled h 1 (new_world g) after.acts steady in
      let seen : filter (is_on src prio) (waiting h) ≡ map (as_handed src) (filter (is_to_port 1) (got_on z c)) =
      ap (λ l. filter (is_on src prio) (l ++ waiting h)) (sym none) ∙ polled-got g z after c 1 low in
      ap length seen ∙ length-map (filter (is_to_port 1) (got_on z c)) (as_handed src) ∙ ap (λ ms. count_of (is_to_port 1) ms) (delivered.1 c)
      ∙ count-sent n seed src (lane_of h prio) (is_to_port 1) (sent_on z c) (sent-after src (lane_of h prio) there c refl refl)

  waits-of : (h prio : ℕ) → prio < 2 → count_of (λ (x : Handed). nat_eq x.prio prio) (waiting h) ≡ count_of (λ d. goes_by n seed (lane_of h prio) d && is_to_port 1 (message_of n seed d)) (messages n)
  waits-of h prio low =
      let none = none-polled h 1 (new_world g) after.acts steady in
      let all : AllByRecursion (IsOfConnection (length g.hosts)) (waiting h) = subst (λ l. AllByRecursion (IsOfConnection (length g.hosts)) (l ++ waiting h)) none (seen-of_connections g z after h 1) in
      let from : AllByRecursion (λ (x : Handed). x.from < n) (waiting h) = all-weaker (IsOfConnection (length g.hosts)) (λ (x : Handed). x.from < n) (waiting h) (λ x k. let low = k.from_host in omega (arith, low, hosts)) all in
      let test : ℕ × ℕ → Bool = (λ d. goes_by n seed (lane_of h prio) d && is_to_port 1 (message_of n seed d)) in
      sym (grouped (λ (x : Handed). x.from) (λ (x : Handed). nat_eq x.prio prio) n (waiting h) from)
      ∙ total-same (λ src. count_of (is_on src prio) (waiting h)) (λ src. count_of (λ d. is_from src d && test d) (messages n)) 0 n (λ src there. waits-from h src prio low (omega (arith, there)))
      ∙ grouped (λ (d : ℕ × ℕ). d.0) test n (messages n) (from-hosts n)

  four-wait : (h : ℕ) → h < n → 4 ≤ length (waiting h)
  four-wait h low =
      let even = pairs-even (λ d. goes_by n seed (lane_of h 0) d && is_to_port 1 (message_of n seed d)) (below n) (one-comes n seed h 0 two low) (one-comes n seed h 2 two low) in
      let odd = pairs-odd (λ d. goes_by n seed (lane_of h 1) d && is_to_port 1 (message_of n seed d)) (below n) (one-comes n seed h 1 two low) (one-comes n seed h 3 two low) in
      four-of (count_of (λ (x : Handed). nat_eq x.prio 0) (waiting h)) (count_of (λ (x : Handed). nat_eq x.prio 1) (waiting h)) (length (waiting h))
      (below-same 2 (count_of (λ d. goes_by n seed (lane_of h 0) d && is_to_port 1 (message_of n seed d)) (messages n)) (count_of (λ (x : Handed). nat_eq x.prio 0) (waiting h)) even (sym (waits-of h 0 (omega arith))))
      (below-same 2 (count_of (λ d. goes_by n seed (lane_of h 1) d && is_to_port 1 (message_of n seed d)) (messages n)) (count_of (λ (x : Handed). nat_eq x.prio 1) (waiting h)) odd (sym (waits-of h 1 (omega arith))))
      (prios-two (waiting h))

  -- at port 1 no event is of a send
  none-of_sends : (h : ℕ) → h < n → (p : PortState) → port_at (node_at z h) 1 ≡ Some p → (place t : ℕ) (buffer : List ℕ) → slice_get p.events place ≡ Some (Sent t buffer) → ⊥
  none-of_sends h low p at place t buffer e =
      let k = events-of_tokens g z after h 1 place p t buffer at e in
      let lane : ℕ = k.of.lane in
      let sent : sent_on z (sends_on h lane) ≡ map (message_of n seed) (filter (by_lane n seed h (lane_of (peer_of lane) (prio_of lane))) (messages n)) = sent-after h (lane_of (peer_of lane) (prio_of lane)) low (sends_on h lane) refl refl in
      let zero = mapped-port n seed (filter (by_lane n seed h (lane_of (peer_of lane) (prio_of lane))) (messages n)) k.of.place k.of.message (ap (λ ms. slice_get ms k.of.place) (sym sent) ∙ k.there) in
      let one = k.from_port in
      omega (arith, zero, one)

  pub is-delivered : IsDelivered n z
  is-delivered = record { unacked = delivered.0; four = λ h low. by h low (port_at (node_at z h) 1) refl (four-wait h low) }
    where
      by : (h : ℕ) → h < n → (o : Option PortState) → port_at (node_at z h) 1 ≡ o → 4 ≤ length (waiting_in o) → HasFour (node_at z h)
      by h low None at long = absurd (omega (arith, long))
      by h low (Some p) at long = record { port = p; is_port = at; received = events-received 4 p.events (none-of_sends h low p at) long }
