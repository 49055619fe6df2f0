-- What a host's connections with a peer come to: which message is due, and which are finished.
use Rattle.std.proofs.Common.{◌≡◌, ◌<◌, ◌≤◌, ◌+◌, ◌-◌, ◌*◌, ◌^◌, ℕ, zero, suc, Bool, true, false, ◌&&◌, nat_eq, nat_lt, nat_le, max, List, [], ◌∷◌, ◌++◌, length, drop, Option, Some, None, option_map, is_some, refl, sym, ap, ◌∙◌, subst, arith, length-append, map, if◌then◌else◌}
use Rattle.std.specs.Prelude.{slice_get, option_and_then}
use Rattle.std.specs.List.{AllByRecursion}
use Rattle.std.proofs.lemmas.Bool.Decides.{nat_tests}
use Rattle.std.proofs.lemmas.List.{drop-append-le, drop-drop, drop-map, length-drop}
use Rattle.std.proofs.lemmas.Option.{slice_get-map, same_Some, none-some}
use Rattle.net_defs.proofs.Distinct.{all-push}
use Rattle.gm_defs.specs.declared.message.Message.{Message}
use Rattle.gm_defs.specs.declared.frame.FrameHead.{FrameHead}
use Rattle.gm_defs.specs.Body.{piece, message_limit, is_prio}
use Rattle.gm_defs.specs.Fragment.{Fragment, fragments, piece_count, whole_below, head_of, frame_of}
use Rattle.gm_defs.specs.Connection.{SenderState, due, is_taken, acknowledged}
use Rattle.gm_defs.proofs.Choices.{both}
use Rattle.gm_defs.proofs.Numbers.{length-fragments, fragments-append}
use Rattle.gm_conn.specs.declared.desc.Desc.{Desc}
use Rattle.gm_conn.specs.declared.desc.Due.{Due}
use Rattle.gm_conn.specs.Halves.{Outgoing, Incoming, IsOutgoing, WaitsFor, AreOf, Describes, is_desc, first, place_below, first_below, head_for, due_at, message_of, due_frame, finished, heard_ack, oldest_finished, without_finished}
use Rattle.gm_conn.proofs.Messages.{all-at, within}
use Rattle.gm_conn.proofs.Waiting.{held-by}
use Rattle.gm_conn.proofs.Connections.{due-some}
use Rattle.gm_conn.proofs.Finished.{heard-finished, heard-none, finished-less, finished-pushed}
use Rattle.gm_conn.proofs.Sent.{of-push, of-drop, of-count, waits-last, below-waiting, due-of-message}
use Rattle.world_defs.specs.Lane.{Ticket, finished_by, lane_acknowledged}
use Rattle.gm_conn.specs.Lane.{HostLane, in_state, other_way, head_of_frame, send_of, sends_of, IsLane}

-- ---- what is finished

taken-above : (s : SenderState) (n : ℕ) → is_taken s n ≡ true → s.base < n
taken-above s n e = let b = (both (nat_lt s.base n) (nat_le n s.top) e).0 in grind (arith, nat_tests)

-- an acknowledgement finishes as many of all messages as of those that wait
pub finished-lane : (w : Outgoing) (ms : List Message) (n answer : ℕ) → IsOutgoing w → WaitsFor w ms → length (fragments ms) ≡ w.numbers.next → answer + finished w ≡ finished (heard_ack w n)
    → answer ≡ whole_below ms (acknowledged w.numbers n).base - whole_below ms w.numbers.base
finished-lane w ms n answer kept waits numbered is = by (is_taken w.numbers n) refl
  where
    low : first w ≤ w.numbers.base
    low = kept.waits

    old : whole_below ms w.numbers.base ≡ length ms - length w.waiting + finished w
    old = below-waiting w ms w.numbers.base kept waits numbered low

    by : (t : Bool) → is_taken w.numbers n ≡ t → answer ≡ whole_below ms (if t then record w.numbers { base = n; cursor = max w.numbers.cursor n } else w.numbers).base - whole_below ms w.numbers.base
    by true e =
        let up = taken-above w.numbers n e in
        let l = low in
        let new : whole_below ms n ≡ length ms - length w.waiting + place_below w n = below-waiting w ms n kept waits numbered (omega (arith, up, l)) in
        let all = heard-finished w n e in
        let o = old in
        omega (arith, is, new, o, all)
    by false e = let none = heard-none w n e in omega (arith, is, none)

-- ---- what is due

-- What is due, beside the descriptor of its message.
pub record IsDueOf (w : Outgoing) (ms : List Message) (d : Due) : Type 0 where
  pub desc : Desc
  pub there : slice_get w.waiting (whole_below ms d.head.seq - whole_below ms w.numbers.base) ≡ Some desc
  pub sport : d.head.sport ≡ desc.sport
  pub ticket : d.ticket ≡ desc.ticket
  pub frame : option_map head_of_frame (option_and_then (λ seq. frame_of w.key ms seq) (due w.numbers)) ≡ Some d.head

due-at-number : (w : Outgoing) (ms : List Message) (n : ℕ) → length (fragments ms) ≡ w.numbers.next → due w.numbers ≡ Some n → (f : Fragment) × (slice_get (fragments ms) n ≡ Some f)
due-at-number w ms n numbered e =
    let d = due-some w.numbers n e in
    let a = d.number in
    let b = d.offered_already in
    within (fragments ms) n (omega (arith, a, b, numbered))

-- the fragment that is due, by a descriptor and an offset
due-by : (w : Outgoing) (d : Due) (n : ℕ) (desc : Desc) (offset : ℕ) → Some d ≡ due_frame w → due w.numbers ≡ Some n → due_at w n ≡ Some (record { head = head_for w.key n desc offset; ticket = desc.ticket })
    → d ≡ record { head = head_for w.key n desc offset; ticket = desc.ticket }
due-by w d n desc offset e some stated =
    let frame : due_frame w ≡ due_at w n = ap (option_and_then (due_at w)) some in
    same_Some d (record { head = head_for w.key n desc offset; ticket = desc.ticket }) (e ∙ frame ∙ stated)

pub due-is : (w : Outgoing) (ms : List Message) (d : Due) → IsOutgoing w → length (fragments ms) ≡ w.numbers.next → WaitsFor w ms → finished w ≡ 0 → Some d ≡ due_frame w → IsDueOf w ms d
due-is w ms d kept numbered waits none e = by (due w.numbers) refl
  where
    by : (o : Option ℕ) → due w.numbers ≡ o → IsDueOf w ms d
    by None nothing = absurd (none-some d (sym (e ∙ ap (option_and_then (due_at w)) nothing)))
    by (Some n) some =
        let f = due-at-number w ms n numbered some in
        let of = due-of-message w ms n f.0 kept waits numbered some f.1 in
        let head : FrameHead = head_of w.key n f.0 in
        let same : d.head ≡ head = ap (λ x. x.head) (same_Some d (record { head = head_of w.key n f.0; ticket = of.0.ticket }) (e ∙ of.2)) in
        let is = due-some w.numbers n some in
        let number = is.number in
        let more = is.offered_already in
        let up = kept.sender.base_below in
        let below = kept.waits in
        let low : first w ≤ n = omega (arith, number, up, below) in
        let held = held-by w n kept low (omega (arith, number, more)) in
        let offset : ℕ = (n - first_below w n) * piece in
        let out : d ≡ record { head = head_for w.key n held.0 offset; ticket = held.0.ticket } = due-by w d n held.0 offset e some held.1.stated in
        let here : whole_below ms n ≡ length ms - length w.waiting + place_below w n = below-waiting w ms n kept waits numbered low in
        let start : whole_below ms w.numbers.base ≡ length ms - length w.waiting + finished w = below-waiting w ms w.numbers.base kept waits numbered below in
        let place : whole_below ms n - whole_below ms w.numbers.base ≡ place_below w n = omega (arith, here, start, none) in
        let shown : option_map head_of_frame (option_and_then (λ seq. frame_of w.key ms seq) (due w.numbers)) ≡ Some head =
        ap (λ o. option_map head_of_frame (option_and_then (λ seq. frame_of w.key ms seq) o)) some ∙ ap (λ o. option_map head_of_frame (option_map (λ g. (head_of w.key n g, g.part)) o)) f.1 in
        record {
          desc = held.0;
          there = ap (λ k. slice_get w.waiting (whole_below ms k - whole_below ms w.numbers.base)) (ap (λ x. x.head.seq) out) ∙ ap (slice_get w.waiting) place ∙ held.1.there;
          sport = ap (λ x. x.head.sport) out;
          ticket = ap (λ x. x.ticket) out;
          frame = shown ∙ ap (λ h. Some h) (sym same);
        }

pub none-is : (w : Outgoing) (ms : List Message) → IsOutgoing w → length (fragments ms) ≡ w.numbers.next → WaitsFor w ms → None ≡ due_frame w
    → option_and_then (λ seq. frame_of w.key ms seq) (due w.numbers) ≡ None
none-is w ms kept numbered waits e = by (due w.numbers) refl
  where
    by : (o : Option ℕ) → due w.numbers ≡ o → option_and_then (λ seq. frame_of w.key ms seq) (due w.numbers) ≡ None
    by None none = ap (option_and_then (λ seq. frame_of w.key ms seq)) none
    by (Some n) some =
        let f = due-at-number w ms n numbered some in
        let of = due-of-message w ms n f.0 kept waits numbered some f.1 in
        absurd (none-some (record { head = head_of w.key n f.0; ticket = of.0.ticket }) (e ∙ of.2))

-- ---- the send of a descriptor

-- it has the place of its descriptor
pub send-at : (w : Outgoing) (place : ℕ) (d : Desc) (t : Ticket) → slice_get w.waiting place ≡ Some d → t ≡ send_of d → Some t ≡ slice_get (sends_of w) place
send-at w place d t there is = ap (λ x. Some x) is ∙ sym (slice_get-map send_of w.waiting place ∙ ap (option_map send_of) there)

pub no-send : (w : Outgoing) (place : ℕ) → slice_get w.waiting place ≡ None → None ≡ slice_get (sends_of w) place
no-send w place none = sym (slice_get-map send_of w.waiting place ∙ ap (option_map send_of) none)

-- and is the one that the state has for the number of the fragment that is due
pub due-send : (w : Outgoing) (ms : List Message) (d : Due) (t : Ticket) → IsDueOf w ms d → t ≡ record { port = d.head.sport; token = d.ticket } → slice_get (sends_of w) (whole_below ms d.head.seq - whole_below ms w.numbers.base) ≡ Some t
due-send w ms d t h is =
    let mine : t ≡ send_of h.desc = is ∙ (λ i. record { port = h.sport i; token = h.ticket i }) in
    sym (send-at w (whole_below ms d.head.seq - whole_below ms w.numbers.base) h.desc t h.there mine)

-- its token has a small number
pub small-due : (w : Outgoing) (ms : List Message) (d : Due) → IsDueOf w ms d → AllByRecursion (λ x. x.ticket < 2 ^ 16) w.waiting → d.ticket < 2 ^ 16
small-due w ms d h small =
    let same = h.ticket in
    let low : h.desc.ticket < 2 ^ 16 = all-at (λ x. x.ticket < 2 ^ 16) w.waiting _ h.desc small h.there in
    omega (arith, same, low)

-- a fragment is due exactly where its frame is
pub due-told : (w : Outgoing) (ms : List Message) → IsOutgoing w → length (fragments ms) ≡ w.numbers.next → WaitsFor w ms → is_some (due_frame w) ≡ is_some (option_and_then (λ seq. frame_of w.key ms seq) (due w.numbers))
due-told w ms kept numbered waits = by (due w.numbers) refl
  where
    by : (o : Option ℕ) → due w.numbers ≡ o → is_some (due_frame w) ≡ is_some (option_and_then (λ seq. frame_of w.key ms seq) (due w.numbers))
    by None none = ap (λ o. is_some (option_and_then (due_at w) o)) none ∙ sym (ap (λ o. is_some (option_and_then (λ seq. frame_of w.key ms seq) o)) none)
    by (Some n) some =
        let f = due-at-number w ms n numbered some in
        let of = due-of-message w ms n f.0 kept waits numbered some f.1 in
        ap is_some of.2 ∙ sym (ap (λ o. is_some (option_and_then (λ seq. frame_of w.key ms seq) o)) some ∙ ap (λ (o : Option Fragment). is_some {T = FrameHead × List ℕ} (option_map (λ g. (head_of w.key n g, g.part)) o)) f.1)

-- ---- a message is accepted
pub accepted-is : (v w : Outgoing) (r : Incoming) (ms : List Message) (d : Desc) (m : Message) → IsOutgoing v → IsLane v r ms → Describes d m → d.ticket < 2 ^ 16 → length m.body ≤ message_limit
    → w.key ≡ v.key → w.numbers.base ≡ v.numbers.base → w.numbers.next ≡ v.numbers.next + piece_count d.total → w.waiting ≡ v.waiting ++ d ∷ [] → IsLane w r (ms ++ m ∷ [])
accepted-is v w r ms d m kept peer of token small key base next waiting =
    let total : piece_count d.total ≡ piece_count (length m.body) = ap piece_count of.total in
    let numbered = peer.numbered in
    let longer : length (ms ++ m ∷ []) ≡ length ms + 1 = length-append ms (m ∷ []) in
    let fragments_more : length (fragments (ms ++ m ∷ [])) ≡ length (fragments ms) + length (fragments (m ∷ [])) = ap length (fragments-append ms (m ∷ [])) ∙ length-append (fragments ms) (fragments (m ∷ [])) in
    let alone : length (fragments (m ∷ [])) ≡ piece_count (length m.body) + 0 = length-fragments m [] in
    let more : length w.waiting ≡ length v.waiting + 1 = ap length waiting ∙ length-append v.waiting (d ∷ []) in
    let k = length ms - length v.waiting in
    let few = (waits-last v ms kept peer.waits peer.numbered).few in
    let at : length (ms ++ m ∷ []) - length w.waiting ≡ k = omega (arith, longer, more, few) in
    let split : drop (length (ms ++ m ∷ []) - length w.waiting) (ms ++ m ∷ []) ≡ drop k ms ++ m ∷ [] = ap (λ n. drop n (ms ++ m ∷ [])) at ∙ drop-append-le k ms (m ∷ []) (omega arith) in
    let all : AreOf (v.waiting ++ d ∷ []) (drop k ms ++ m ∷ []) = of-push v.waiting (drop k ms) d m peer.waits of in
    let waits : AreOf w.waiting (drop k ms ++ m ∷ []) = subst (λ ds. AreOf ds (drop k ms ++ m ∷ [])) (sym waiting) all in
    record {
      numbered = omega (arith, fragments_more, alone, next, total, numbered);
      short = all-push (λ x. length x.body ≤ message_limit) ms m peer.short small;
      waits = subst (λ xs. AreOf w.waiting xs) (sym split) waits;
      unfinished = finished-pushed v w d kept base next waiting ∙ peer.unfinished;
      tokens = subst (AllByRecursion (λ x. x.ticket < 2 ^ 16)) (sym waiting) (all-push (λ x. x.ticket < 2 ^ 16) v.waiting d peer.tokens token);
      way_back = peer.way_back ∙ ap other_way (sym key);
    }

-- a descriptor by the rules, of the lane's priority
and5 : (a b c d e : Bool) → a ≡ true → b ≡ true → c ≡ true → d ≡ true → e ≡ true → (a && b && c && d && e) ≡ true
and5 a b c d e p q r s t = rw (p, q, r, s, t) refl

pub described : (v w : Outgoing) (d : Desc) → v ≡ record w { spare = v.spare } → d.sport < 8 → d.dport < 8 → is_prio d.prio ≡ true → d.prio ≡ w.key.prio → d.total ≤ message_limit → is_desc v.key d ≡ true
described v w d e a b p q t =
    let key : v.key.prio ≡ w.key.prio = ap (λ x. x.key.prio) e in
    and5 (nat_lt d.sport 8) (nat_lt d.dport 8) (is_prio d.prio) (nat_eq d.prio v.key.prio) (nat_le d.total message_limit)
    (grind (arith, nat_tests)) (grind (arith, nat_tests)) p (grind (arith, nat_tests)) (grind (arith, nat_tests))

-- room for more changes nothing else
pub roomier-lane : (v w : Outgoing) (r : Incoming) (ms : List Message) → w ≡ record v { spare = w.spare } → IsLane v r ms → IsLane w r ms
roomier-lane v w r ms e peer =
    subst (λ x. IsLane x r ms) (sym e)
    (record { numbered = peer.numbered; short = peer.short; waits = peer.waits; unfinished = peer.unfinished; tokens = peer.tokens; way_back = peer.way_back })

-- the oldest finished descriptor is taken out
fewer-waits : (ds : List Desc) (ms : List Message) → AreOf ds (drop (length ms - length ds) ms) → AreOf (drop 1 ds) (drop (length ms - length (drop 1 ds)) ms)
fewer-waits [] ms all = all
fewer-waits (d ∷ ds) ms all =
    let count = of-count (d ∷ ds) (drop (length ms - suc (length ds)) ms) all in
    let left = length-drop (length ms - suc (length ds)) ms in
    let at : length ms - length ds ≡ length ms - suc (length ds) + 1 = omega (arith, count, left) in
    let eq : drop (length ms - length ds) ms ≡ drop 1 (drop (length ms - suc (length ds)) ms) = ap (λ n. drop n ms) at ∙ sym (drop-drop 1 (length ms - suc (length ds)) ms) in
    subst (λ xs. AreOf ds xs) (sym eq) (of-drop (d ∷ ds) (drop (length ms - suc (length ds)) ms) all)

pub without-waits : (w : Outgoing) (ms : List Message) → WaitsFor w ms → WaitsFor (without_finished w) ms
without-waits w ms waits = by (nat_lt 0 (finished w))
  where
    by : (t : Bool) → WaitsFor (if t then record w { waiting = drop 1 w.waiting; spare = w.spare + 1 } else w) ms
    by true = fewer-waits w.waiting ms waits
    by false = waits

-- a sender's other fields stay
pub without-key : (w : Outgoing) → (without_finished w).key ≡ w.key
without-key w = by (nat_lt 0 (finished w))
  where
    by : (t : Bool) → (if t then record w { waiting = drop 1 w.waiting; spare = w.spare + 1 } else w).key ≡ w.key
    by true = refl
    by false = refl

pub without-numbers : (w : Outgoing) → (without_finished w).numbers ≡ w.numbers
without-numbers w = by (nat_lt 0 (finished w))
  where
    by : (t : Bool) → (if t then record w { waiting = drop 1 w.waiting; spare = w.spare + 1 } else w).numbers ≡ w.numbers
    by true = refl
    by false = refl

-- an acknowledgement moves no next number
pub next-stays : (s : SenderState) (n : ℕ) → (acknowledged s n).next ≡ s.next
next-stays s n = by (is_taken s n)
  where
    by : (t : Bool) → (if t then record s { base = n; cursor = max s.cursor n } else s).next ≡ s.next
    by true = refl
    by false = refl

without-waiting : (w : Outgoing) → nat_lt 0 (finished w) ≡ true → (without_finished w).waiting ≡ drop 1 w.waiting
without-waiting w e = ap (λ t. (if t then record w { waiting = drop 1 w.waiting; spare = w.spare + 1 } else w).waiting) e

-- A sender that has lost so many finished descriptors alone.
pub record SameBut (k : ℕ) (v w : Outgoing) : Type 0 where
  pub key : w.key ≡ v.key
  pub numbers : w.numbers ≡ v.numbers
  pub fewer : w.waiting ≡ drop k v.waiting
  pub left : finished w + k ≡ finished v
  pub waits : (ms : List Message) → WaitsFor v ms → WaitsFor w ms

pub same-at-first : (v : Outgoing) → SameBut 0 v v
same-at-first v = record { key = refl; numbers = refl; fewer = refl; left = omega arith; waits = λ ms h. h }

pub same-without : (k n : ℕ) (v w u : Outgoing) → SameBut k v w → IsOutgoing w → k < n → n ≤ finished v → u ≡ without_finished w → SameBut (k + 1) v u
same-without k n v w u same kept h enough e =
    let left = same.left in
    let up : 0 < finished w = omega (arith, left, h, enough) in
    let some : nat_lt 0 (finished w) ≡ true = grind (arith, nat_tests) in
    let less : finished (without_finished w) + 1 ≡ finished w = finished-less w kept some in
    let gone : finished u ≡ finished (without_finished w) = ap finished e in
    record {
      key = ap (λ x. x.key) e ∙ without-key w ∙ same.key;
      numbers = ap (λ x. x.numbers) e ∙ without-numbers w ∙ same.numbers;
      fewer = ap (λ x. x.waiting) e ∙ without-waiting w some ∙ ap (drop 1) same.fewer ∙ drop-drop 1 k v.waiting;
      left = omega (arith, left, less, gone);
      waits = λ ms h. subst (λ x. WaitsFor x ms) (sym e) (without-waits w ms (same.waits ms h));
    }

-- a finished descriptor is there where one is counted
pub oldest-there : (w : Outgoing) → 0 < finished w → oldest_finished w ≡ None → ⊥
oldest-there w up none = by w.waiting refl
  where
    some : nat_lt 0 (finished w) ≡ true
    some = grind (arith, nat_tests)

    first-none : slice_get w.waiting 0 ≡ None
    first-none = sym (ap (λ t. if t then slice_get w.waiting 0 else None) some) ∙ none

    by : (ds : List Desc) → w.waiting ≡ ds → ⊥
    by [] e =
        let zero : finished w ≡ 0 = ap (λ (l : List Desc). whole_below (map message_of l) (w.numbers.base - (w.numbers.next - length (fragments (map message_of l))))) e in
        omega (arith, zero, up)
    by (d ∷ ds) e = none-some d (sym (sym (ap (λ l. slice_get l 0) e) ∙ first-none))

-- what a lane is once an acknowledgement was heard, and so many sends wait no more
pub heard-state : (p : HostLane) (u : Outgoing) (n k : ℕ) → k ≡ finished_by p.state n → u.key ≡ p.key → u.numbers ≡ acknowledged p.state.sender n → sends_of u ≡ drop k p.state.pending
    → record { key = u.key; state = record p.state { sender = u.numbers; pending = sends_of u } } ≡ in_state p (lane_acknowledged p.state n)
heard-state p u n k is key numbers gone = λ i. record {
  key = key i;
  state = record p.state { sender = numbers i; pending = (gone ∙ ap (λ c. drop c p.state.pending) is) i };
}

-- what holds of each holds of those after the first so many
all-dropped : {X : Type 0} (P : X → Type 0) (k : ℕ) (xs : List X) → AllByRecursion P xs → AllByRecursion P (drop k xs)
all-dropped P zero xs all = all
all-dropped P (suc k) [] all = all
all-dropped P (suc k) (x ∷ xs) all = all-dropped P k xs all.1

-- the sends of what is left
pub sends-left : (v w u : Outgoing) (k : ℕ) → w.waiting ≡ v.waiting → u.waiting ≡ drop k w.waiting → sends_of u ≡ drop k (sends_of v)
sends-left v w u k same left = ap (map send_of) (left ∙ ap (drop k) same) ∙ sym (drop-map send_of k v.waiting)

-- an acknowledgement was heard, and what it finished is taken out
pub heard-lane : (v w u : Outgoing) (r : Incoming) (ms : List Message) (n k : ℕ) → IsLane v r ms → w ≡ record v { numbers = acknowledged v.numbers n } → k ≡ finished w → SameBut k w u → IsLane u r ms
heard-lane v w u r ms n k peer e all same =
    let next : w.numbers.next ≡ v.numbers.next = ap (λ x. x.numbers.next) e ∙ next-stays v.numbers n in
    let waiting : w.waiting ≡ v.waiting = ap (λ x. x.waiting) e in
    let waits : WaitsFor w ms = subst (λ ds. AreOf ds (drop (length ms - length ds) ms)) (sym waiting) peer.waits in
    let fewer : u.waiting ≡ drop k v.waiting = same.fewer ∙ ap (drop k) waiting in
    let left = same.left in
    record {
      numbered = peer.numbered ∙ sym (ap (λ x. x.next) same.numbers ∙ next);
      short = peer.short;
      waits = same.waits ms waits;
      unfinished = omega (arith, left, all);
      tokens = subst (AllByRecursion (λ x. x.ticket < 2 ^ 16)) (sym fewer) (all-dropped (λ x. x.ticket < 2 ^ 16) k v.waiting peer.tokens);
      way_back = peer.way_back ∙ ap other_way (sym (same.key ∙ ap (λ x. x.key) e));
    }
