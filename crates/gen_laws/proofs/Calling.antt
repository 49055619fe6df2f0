-- The calls of a generated run: each buffer is provided, and each message is sent.
use Rattle.std.proofs.Common.{◌≡◌, ◌≢◌, ◌≤◌, ◌<◌, ◌+◌, ◌-◌, ◌*◌, ◌%◌, ℕ, suc, Bool, true, false, ◌&&◌, ◌||◌, not, find, nat_le, true≢false, List, [], ◌∷◌, ◌++◌, map, length, length-append, get_or, set, nat_eq, nat_lt, Option, Some, None, is_some, is_none, refl, sym, ap, ◌∙◌, subst, arith, if◌then◌else◌}
use Rattle.std.specs.List.{AllByRecursion, filter}
use Rattle.std.proofs.Math.ListN.{length-set}
use Rattle.std.proofs.Math.Nat.{mod-lt}
use Rattle.std.proofs.lemmas.Bool.Decides.{nat_tests}
use Rattle.std.proofs.lemmas.Option.{same_Some}
use Rattle.std.proofs.lemmas.List.{get_or-set_same, get_or-set_other, length-map, map-append}
use Rattle.std.proofs.lemmas.List.FromFn.{length-map-range_with_len}
use Rattle.std.proofs.lemmas.List.Sums.{length-filter, count_by-le-length}
use Rattle.gm_defs.specs.Fragment.{piece_count}
use Rattle.gm_defs.specs.Connection.{is_spent}
use Rattle.gm_defs.specs.Token.{PortState, Provided, room, sizes}
use Rattle.gm_defs.specs.Port.{is_too_long, is_bad_size, sent_with, provided_with}
use Rattle.world_defs.specs.declared.client.ClientCause.TheVariants.{TooLong, NoRoute, Spent, BadSize}
use Rattle.world_defs.specs.declared.effect.Said.TheVariants.{Token}
use Rattle.world_defs.specs.Table.{table_route}
use Rattle.world_defs.specs.Lane.{LaneState, Ticket, new_lane, with_message}
use Rattle.world_defs.specs.Node.{NodeState, lane_of, lane_at, with_lane, port_at, with_port}
use Rattle.world_defs.specs.Client.{ClientState, Called, Wanted, left, refused, provide_with, provide_open, provided_by, empty_buffer, client_bytes, wanted_lane, send_accepted, send_refusal, send_unless, send_with, send_open, sent_by}
use Rattle.world_defs.specs.World.{WorldState, node_at, client_at}
use Rattle.world_defs.specs.Step.{of_call, wanted}
use Rattle.world_defs.proofs.Lanes.{lane_of-below}
use Rattle.fabric_gen.specs.Text.{peer, message_length, message_prio, message_seed, message_size}
use Rattle.fabric_gen.proofs.Messages.{has-room}
use Rattle.delivery_laws.specs.Delivery.{is_of}
use Rattle.delivery_laws.proofs.Counts.{count_of, one_if}
use Rattle.gen_laws.proofs.Counts.{count-more, is_from, is_to}
use Rattle.gen_laws.proofs.Hosts.{Hosts, row_at, called-on, filter-new, filter-same, count-new, count-same, message_of, goes_by, has_size, Plain, Sends, Takes, port-plain}

-- Both ports of a host are open: these messages' buffers were provided, and these messages were sent.
pub record Ready (n seed : ℕ) (ps ss : List (ℕ × ℕ)) (h : ℕ) (x : NodeState) (r : List (Option ClientState)) : Type 0 where
  pub plain : Plain n seed ss h x r
  pub sends : Sends ss h x r
  pub takes : Takes n seed ps h x r

-- What a call leaves: the hosts so, and its token was said.
pub record Accepts (n : ℕ) (P : ℕ → NodeState → List (Option ClientState) → Type 0) (w : WorldState) (h port : ℕ) (call : Called) : Type 0 where
  pub token : ℕ
  pub said : call.said ≡ Token token
  pub hosts : Hosts n P (of_call w h port call).1

provided-now : (x : NodeState) (port size prio : ℕ) (c : Option ClientState) (p : PortState) (d : ClientState) (t : ℕ) (ts : List ℕ) → port_at x port ≡ Some p → c ≡ Some d → d.recvs ≡ t ∷ ts → is_bad_size size prio ≡ false
    → provided_by x port size prio c ≡ left x port (Some (provided_with p (record { token = t; size = size; prio = prio; filling = None; buffer = empty_buffer size }))) (Some (record d { recvs = ts })) (Token t)
unfolding provided_by
provided-now x port size prio c p d t ts e f g bad =
    (λ i. provide_open x port size prio (f i) (e i)) ∙ ap (provide_with x port size prio p d) g
    ∙ ap (λ b. if b then refused x (Some d) BadSize else left x port (Some (provided_with p (record { token = t; size = size; prio = prio; filling = None; buffer = empty_buffer size }))) (Some (record d { recvs = ts })) (Token t)) bad

-- sizes and priorities of messages are those of buffers
pub prio-low : (m : ℕ) → message_prio m < 2
prio-low m = mod-lt m (omega arith)

chosen : (p : ℕ → Bool) (P : ℕ → Type 0) (xs : List ℕ) (x : ℕ) → AllByRecursion P xs → find p xs ≡ Some x → P x
chosen p P [] x all e = cc
chosen p P (y ∷ ys) x all e = by (p y) e (chosen p P ys x all.1)
  where
    by : (b : Bool) → (if b then Some y else find p ys) ≡ Some x → (find p ys ≡ Some x → P x) → P x
    by true d rest = subst P (same_Some y x d) all.0
    by false d rest = rest d

good-size : (seed i m : ℕ) → is_bad_size (message_size seed i m) (message_prio m) ≡ false
good-size seed i m =
    let size = chosen (λ s. nat_le (message_length seed i m) (room s)) (λ s. (nat_lt s 4 ≡ false) × (nat_lt 16 s ≡ false)) sizes (message_size seed i m)
    ((refl, refl), ((refl, refl), ((refl, refl), ((refl, refl), ((refl, refl), ((refl, refl), ((refl, refl), ((refl, refl), ((refl, refl), ((refl, refl), ((refl, refl), ((refl, refl), ((refl, refl), tt))))))))))))) (has-room seed i m) in
    let small = prio-low m in
    (λ j. size.0 j || size.1 j || at (message_prio m) small j)
  where
    at : (p : ℕ) → p < 2 → nat_lt 1 p ≡ false
    at p low = grind (arith, nat_tests)

own : (k : ℕ) → nat_eq k k ≡ true
own k = grind (arith, nat_tests)

apart : (j k : ℕ) → j ≢ k → nat_eq j k ≡ false
apart j k other = by (nat_eq j k) refl
  where
    by : (b : Bool) → nat_eq j k ≡ b → nat_eq j k ≡ false
    by true e = absurd (other (grind (arith, nat_tests)))
    by false e = e

takes-other : {n seed h : ℕ} {ps : List (ℕ × ℕ)} {x : NodeState} {r : List (Option ClientState)} (d : ℕ × ℕ) → is_to n seed h d ≡ false → Takes n seed ps h x r → Takes n seed (ps ++ d ∷ []) h x r
takes-other {n = n} {seed = seed} {h = h} {ps = ps} d e t = record {
  port = t.port;
  is_port = t.is_port;
  client = t.client;
  is_client = t.is_client;
  left = ap (λ c. length t.client.recvs + c) (count-same (is_to n seed h) ps d e) ∙ t.left;
  provided = λ size prio. t.provided size prio ∙ sym (count-same (λ y. is_to n seed h y && has_size seed size prio y) ps d (ap (λ b. b && has_size seed size prio d) e));
}

-- a buffer is provided
pub provides : (n seed : ℕ) (ps ss : List (ℕ × ℕ)) (d : ℕ × ℕ) (w : WorldState) → peer n seed d.0 d.1 < n → count_of (is_to n seed (peer n seed d.0 d.1)) (ps ++ d ∷ []) ≤ 4 → Hosts n (Ready n seed ps ss) w
    → Accepts n (Ready n seed (ps ++ d ∷ []) ss) w (peer n seed d.0 d.1) 1 (provided_by (node_at w (peer n seed d.0 d.1)) 1 (message_size seed d.0 d.1) (message_prio d.1) (client_at w (peer n seed d.0 d.1) 1))
provides n seed ps ss d w low few is = by t.client.recvs refl
  where
    h : ℕ
    h = peer n seed d.0 d.1

    size : ℕ
    size = message_size seed d.0 d.1

    x : NodeState
    x = node_at w h

    r : List (Option ClientState)
    r = row_at w h

    ready : Ready n seed ps ss h x r
    ready = is.each h low

    t : Takes n seed ps h x r
    t = ready.takes

    more : count_of (is_to n seed h) (ps ++ d ∷ []) ≡ count_of (is_to n seed h) ps + 1
    more = count-new (is_to n seed h) ps d (own h)

    by : (ts : List ℕ) → t.client.recvs ≡ ts → Accepts n (Ready n seed (ps ++ d ∷ []) ss) w h 1 (provided_by x 1 size (message_prio d.1) (get_or r 1 None))
    by [] e = let all = t.left in let none : length t.client.recvs ≡ 0 = ap length e in absurd (omega (arith, few, more, all, none))
    by (k ∷ ks) e =
        let call = provided-now x 1 size (message_prio d.1) (get_or r 1 None) t.port t.client k ks t.is_port t.is_client e (good-size seed d.0 d.1) in
        record {
          token = k;
          said = ap (λ (c : Called). c.said) call;
          hosts = called-on n (Ready n seed ps ss) (Ready n seed (ps ++ d ∷ []) ss) w h 1 (provided_by x 1 size (message_prio d.1) (get_or r 1 None)) low is
              (subst (λ (c : Called). Ready n seed (ps ++ d ∷ []) ss h c.node (set r 1 c.client)) (sym call) (so k ks e))
              (λ j other below y q o. record { plain = o.plain; sends = o.sends; takes = takes-other d (apart h j (λ same. other (sym same))) o.takes });
        }
      where
        so : (k : ℕ) (ks : List ℕ) → t.client.recvs ≡ k ∷ ks → Ready n seed (ps ++ d ∷ []) ss h (with_port x 1 (Some (provided_with t.port (record { token = k; size = size; prio = message_prio d.1; filling = None; buffer = empty_buffer size })))) (set r 1 (Some (record t.client { recvs = ks })))
        so k ks e =
            let b : Provided = record { token = k; size = size; prio = message_prio d.1; filling = None; buffer = empty_buffer size } in
            let p : PortState = provided_with t.port b in
            let c : ClientState = record t.client { recvs = ks } in
            let s : Sends ss h x r = ready.sends in
            let ports = ready.plain.ports in
            let clients = ready.plain.clients in
            let all = t.left in
            let long : length t.client.recvs ≡ suc (length ks) = ap length e in
            record {
              plain = port-plain 1 (Some p) (Some c) ready.plain;
              sends = record {
                port = s.port;
                is_port = get_or-set_other x.ports 1 0 (Some p) None (λ z. omega (arith, z)) ∙ s.is_port;
                client = s.client;
                is_client = get_or-set_other r 1 0 (Some c) None (λ z. omega (arith, z)) ∙ s.is_client;
                left = s.left;
              };
              takes = record {
                port = p;
                is_port = get_or-set_same x.ports 1 (Some p) None (omega (arith, ports));
                client = c;
                is_client = get_or-set_same r 1 (Some c) None (omega (arith, clients));
                left = omega (arith, all, long, more);
                provided = λ size prio.
                    let one = count-more (is_of size prio) t.port.provided b in
                    let two = count-more (λ y. is_to n seed h y && has_size seed size prio y) ps d in
                    let same : one_if (is_to n seed h d && has_size seed size prio d) ≡ one_if (has_size seed size prio d) = ap (λ z. one_if (z && has_size seed size prio d)) (own h) in
                    let before = t.provided size prio in
                    one ∙ (λ i. before i + one_if (has_size seed size prio d)) ∙ sym (two ∙ ap (λ z. count_of (λ y. is_to n seed h y && has_size seed size prio y) ps + z) same);
              };
            }

-- ---- a message is sent
free : (x : NodeState) (s : Wanted) → is_too_long s.len ≡ false → is_none (table_route x.table s.dest) ≡ false → is_spent (lane_at x (wanted_lane s)).sender (piece_count s.len) ≡ false → send_refusal x s ≡ None
free x s a b c = λ i. if a i then Some TooLong else if b i then Some NoRoute else if c i then Some Spent else None

sent-now : (x : NodeState) (s : Wanted) (c : Option ClientState) (p : PortState) (d : ClientState) (t : ℕ) (ts : List ℕ) → port_at x s.port ≡ Some p → c ≡ Some d → d.sends ≡ t ∷ ts → send_refusal x s ≡ None → sent_by x s c ≡ send_accepted x s p d t ts
unfolding sent_by
sent-now x s c p d t ts e f g none = (λ i. send_open x s (f i) (e i)) ∙ ap (send_with x s p d) g ∙ ap (send_unless x s p d t ts) none

some-there : {A : Type 0} (o : Option A) → is_some o ≡ true → is_none o ≡ false
some-there (Some x) e = refl
some-there None e = absurd (true≢false (sym e))

one-piece : (len : ℕ) → len ≤ 1016 → piece_count len ≤ 1
one-piece len low = omega (arith, low)

short : (seed i m : ℕ) → message_length seed i m ≤ 1016
short seed i m = let low : message_length seed i m < 1017 = mod-lt (seed + 7 * i + m) (omega arith) in omega (arith, low)

not-long : (len : ℕ) → len ≤ 1016 → is_too_long len ≡ false
not-long len low = grind (arith, nat_tests)

not-spent : (next count : ℕ) → next ≤ 96 → count ≤ 1 → nat_lt 4294967295 (next + count) ≡ false
not-spent next count low one = grind (arith, nat_tests)

pub bytes-long : (len seed : ℕ) → length (client_bytes len seed) ≡ len
bytes-long len seed = length-map-range_with_len (λ i. (seed + i) % 256) 0 len

-- the lane of a message
lane-plain : {n seed h : ℕ} {ss : List (ℕ × ℕ)} {x : NodeState} {r : List (Option ClientState)} (d : ℕ × ℕ) (ticket : Ticket) → is_from h d ≡ true → peer n seed d.0 d.1 < n → Plain n seed ss h x r
    → Plain n seed (ss ++ d ∷ []) h (with_lane x (lane_of (peer n seed d.0 d.1) (message_prio d.1)) (with_message (lane_at x (lane_of (peer n seed d.0 d.1) (message_prio d.1))) (message_of n seed d) ticket)) r
lane-plain {n = n} {seed = seed} {h = h} {ss = ss} {x = x} {r = r} d ticket mine low p = record {
  lanes = length-set x.lanes k q ∙ p.lanes;
  ports = p.ports;
  clients = p.clients;
  routed = p.routed;
  sent = λ lane. sent-at lane (nat_eq k lane) refl;
  few = λ lane. few-at lane (nat_eq k lane) refl;
}
  where
    k : ℕ
    k = lane_of (peer n seed d.0 d.1) (message_prio d.1)

    q : LaneState
    q = with_message (lane_at x k) (message_of n seed d) ticket

    there : k < length x.lanes
    there = let long = p.lanes in subst (λ c. k < c) (sym long) (lane_of-below n (peer n seed d.0 d.1) (message_prio d.1) low)

    now : (lane : ℕ) → k ≡ lane → get_or (set x.lanes k q) lane new_lane ≡ q
    now lane e = ap (λ j. get_or (set x.lanes k q) j new_lane) (sym e) ∙ get_or-set_same x.lanes k q new_lane there

    test : ℕ → ℕ × ℕ → Bool
    test lane y = is_from h y && goes_by n seed lane y

    sent-at : (lane : ℕ) (b : Bool) → nat_eq k lane ≡ b → (get_or (set x.lanes k q) lane new_lane).sent ≡ map (message_of n seed) (filter (λ y. is_from h y && goes_by n seed lane y) (ss ++ d ∷ []))
    sent-at lane true e =
        let same : k ≡ lane = grind (arith, nat_tests) in
        ap (λ (l : LaneState). l.sent) (now lane same) ∙ ap (λ j. (lane_at x j).sent ++ message_of n seed d ∷ []) same ∙ ap (λ l. l ++ message_of n seed d ∷ []) (p.sent lane)
        ∙ sym (ap (map (message_of n seed)) (filter-new (λ y. is_from h y && goes_by n seed lane y) ss d (λ i. mine i && e i)) ∙ map-append (message_of n seed) (filter (λ y. is_from h y && goes_by n seed lane y) ss) (d ∷ []))
    sent-at lane false e =
        let other : lane ≢ k = (λ z. grind (arith, nat_tests)) in
        ap (λ (l : LaneState). l.sent) (get_or-set_other x.lanes k lane q new_lane other) ∙ p.sent lane
        ∙ sym (ap (map (message_of n seed)) (filter-same (λ y. is_from h y && goes_by n seed lane y) ss d (λ i. mine i && e i)))

    few-at : (lane : ℕ) (b : Bool) → nat_eq k lane ≡ b → (get_or (set x.lanes k q) lane new_lane).sender.next ≤ length (get_or (set x.lanes k q) lane new_lane).sent
    few-at lane true e =
        let same : k ≡ lane = grind (arith, nat_tests) in
        let before = p.few k in
        let one = one-piece (message_length seed d.0 d.1) (short seed d.0 d.1) in
        let count : piece_count (length (message_of n seed d).body) ≡ piece_count (message_length seed d.0 d.1) = ap piece_count (bytes-long (message_length seed d.0 d.1) (message_seed seed d.0 d.1)) in
        let long = length-append (lane_at x k).sent (message_of n seed d ∷ []) in
        let more : q.sender.next ≤ length q.sent = omega (arith, before, one, count, long) in
        subst (λ (l : LaneState). l.sender.next ≤ length l.sent) (sym (now lane same)) more
    few-at lane false e =
        let other : lane ≢ k = (λ z. grind (arith, nat_tests)) in
        subst (λ (l : LaneState). l.sender.next ≤ length l.sent) (sym (get_or-set_other x.lanes k lane q new_lane other)) (p.few lane)

plain-other : {n seed h : ℕ} {ss : List (ℕ × ℕ)} {x : NodeState} {r : List (Option ClientState)} (d : ℕ × ℕ) → is_from h d ≡ false → Plain n seed ss h x r → Plain n seed (ss ++ d ∷ []) h x r
plain-other {n = n} {seed = seed} {h = h} {ss = ss} d other p = record {
  lanes = p.lanes;
  ports = p.ports;
  clients = p.clients;
  routed = p.routed;
  sent = λ lane. p.sent lane ∙ sym (ap (map (message_of n seed)) (filter-same (λ y. is_from h y && goes_by n seed lane y) ss d (ap (λ b. b && goes_by n seed lane d) other)));
  few = p.few;
}

sends-other : {h : ℕ} {ss : List (ℕ × ℕ)} {x : NodeState} {r : List (Option ClientState)} (d : ℕ × ℕ) → is_from h d ≡ false → Sends ss h x r → Sends (ss ++ d ∷ []) h x r
sends-other {h = h} {ss = ss} d e s = record {
  port = s.port;
  is_port = s.is_port;
  client = s.client;
  is_client = s.is_client;
  left = ap (λ c. length s.client.sends + c) (count-same (is_from h) ss d e) ∙ s.left;
}

pub sends : (n seed : ℕ) (ps ss : List (ℕ × ℕ)) (d : ℕ × ℕ) (w : WorldState) → d.0 < n → peer n seed d.0 d.1 < n → peer n seed d.0 d.1 ≢ d.0 → length ss ≤ 96 → count_of (is_from d.0) (ss ++ d ∷ []) ≤ 4 → Hosts n (Ready n seed ps ss) w
    → Accepts n (Ready n seed ps (ss ++ d ∷ [])) w d.0 0 (sent_by (node_at w d.0) (wanted 0 (peer n seed d.0 d.1) 1 (message_prio d.1) (message_length seed d.0 d.1) (message_seed seed d.0 d.1)) (client_at w d.0 0))
sends n seed ps ss d w low there away long few is = by s.client.sends refl
  where
    h : ℕ
    h = d.0

    to : Wanted
    to = wanted 0 (peer n seed d.0 d.1) 1 (message_prio d.1) (message_length seed d.0 d.1) (message_seed seed d.0 d.1)

    x : NodeState
    x = node_at w h

    r : List (Option ClientState)
    r = row_at w h

    ready : Ready n seed ps ss h x r
    ready = is.each h low

    s : Sends ss h x r
    s = ready.sends

    lane : ℕ
    lane = wanted_lane to

    sent-few : length (lane_at x lane).sent ≤ length ss
    sent-few =
        let test : ℕ × ℕ → Bool = (λ y. is_from h y && goes_by n seed lane y) in
        let are = ap length (ready.plain.sent lane) ∙ length-map (filter test ss) (message_of n seed) ∙ length-filter test ss in
        let most = count_by-le-length test ss in
        omega (arith, are, most)

    none : send_refusal x to ≡ None
    none =
        let next = ready.plain.few lane in
        let most = sent-few in
        free x to (not-long (message_length seed d.0 d.1) (short seed d.0 d.1)) (some-there (table_route x.table to.dest) (ready.plain.routed to.dest there away))
        (not-spent (lane_at x lane).sender.next (piece_count to.len) (omega (arith, next, most, long)) (one-piece (message_length seed d.0 d.1) (short seed d.0 d.1)))

    more : count_of (is_from h) (ss ++ d ∷ []) ≡ count_of (is_from h) ss + 1
    more = count-new (is_from h) ss d (own h)

    so : (k : ℕ) (ks : List ℕ) → s.client.sends ≡ k ∷ ks → Ready n seed ps (ss ++ d ∷ []) h (send_accepted x to s.port s.client k ks).node (set r 0 (send_accepted x to s.port s.client k ks).client)
    so k ks e =
        let p : PortState = sent_with s.port k (client_bytes to.len to.seed) in
        let c : ClientState = record s.client { sends = ks } in
        let t : Takes n seed ps h x r = ready.takes in
        let ports = ready.plain.ports in
        let clients = ready.plain.clients in
        let all = s.left in
        let tokens : length s.client.sends ≡ suc (length ks) = ap length e in
        record {
          plain = port-plain 0 (Some p) (Some c) (lane-plain d (record { port = 0; token = k }) (own h) there ready.plain);
          sends = record {
            port = p;
            is_port = get_or-set_same x.ports 0 (Some p) None (omega (arith, ports));
            client = c;
            is_client = get_or-set_same r 0 (Some c) None (omega (arith, clients));
            left = omega (arith, all, tokens, more);
          };
          takes = record {
            port = t.port;
            is_port = get_or-set_other x.ports 0 1 (Some p) None (λ z. omega (arith, z)) ∙ t.is_port;
            client = t.client;
            is_client = get_or-set_other r 0 1 (Some c) None (λ z. omega (arith, z)) ∙ t.is_client;
            left = t.left;
            provided = t.provided;
          };
        }

    by : (ts : List ℕ) → s.client.sends ≡ ts → Accepts n (Ready n seed ps (ss ++ d ∷ [])) w h 0 (sent_by x to (get_or r 0 None))
    by [] e = let all = s.left in let gone : length s.client.sends ≡ 0 = ap length e in absurd (omega (arith, few, more, all, gone))
    by (k ∷ ks) e =
        let call = sent-now x to (get_or r 0 None) s.port s.client k ks s.is_port s.is_client e none in
        record {
          token = k;
          said = ap (λ (c : Called). c.said) call;
          hosts = called-on n (Ready n seed ps ss) (Ready n seed ps (ss ++ d ∷ [])) w h 0 (sent_by x to (get_or r 0 None)) low is
              (subst (λ (c : Called). Ready n seed ps (ss ++ d ∷ []) h c.node (set r 0 c.client)) (sym call) (so k ks e))
              (λ j other below y q o. let not : is_from j d ≡ false = apart h j (λ same. other (sym same)) in record { plain = plain-other d not o.plain; sends = sends-other d not o.sends; takes = o.takes });
        }
