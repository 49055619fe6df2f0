-- One connection: the numbers of its two halves, and the messages that were sent over it. Each event keeps it sound and lets it only grow, and what was honest stays so while it grows. A world of many connections replaces one of them by a sound one that has grown.
use Rattle.std.proofs.Common.{◌≡◌, ◌≤◌, ◌<◌, ◌+◌, ℕ, zero, suc, Bool, true, false, ◌&&◌, nat_eq, nat_lt, max, List, [], ◌∷◌, ◌++◌, length, Some, option_map, refl, sym, ap, ◌∙◌, arith, if◌then◌else◌}
use Rattle.std.specs.Prelude.{slice_get}
use Rattle.std.proofs.lemmas.Bool.Decides.{nat_tests}
use Rattle.std.proofs.lemmas.List.{length-append, append-nil}
use Rattle.std.proofs.lemmas.Option.{same_Some, none-some}
use Rattle.gm_defs.specs.declared.message.Message.{Message}
use Rattle.gm_defs.specs.declared.frame.FrameHead.{FrameHead}
use Rattle.gm_defs.specs.declared.frame.Ack.{Ack}
use Rattle.gm_defs.specs.declared.frame.ConnectionKey.{ConnectionKey}
use Rattle.gm_defs.specs.declared.token.Took.TheVariants.{NotNext, NoToken}
use Rattle.gm_defs.specs.Body.{number_limit}
use Rattle.gm_defs.specs.Fragment.{Fragment, fragments, piece_count, head_of, frame_of}
use Rattle.gm_defs.specs.Connection.{SenderState, IsSender, window, due, sent_one, is_taken, acknowledged, expired, is_spent, offered, took, taken_as, taken_after}
use Rattle.gm_defs.proofs.Choices.{both, if-some, map-some}
use Rattle.gm_defs.proofs.Numbers.{fragments-append, length-fragments}
use Rattle.gm_conn.proofs.Messages.{within}

-- A connection: its key, its sender's numbers, how many fragments its receiver has taken, and the messages that were sent.
pub record Conn : Type 0 where
  pub key : ConnectionKey
  pub numbers : SenderState
  pub received : ℕ
  pub sent : List Message

-- What each event keeps.
pub record IsSound (c : Conn) : Type 0 where
  pub sender : IsSender c.numbers
  pub base_below : c.numbers.base ≤ c.received
  pub received_below : c.received ≤ c.numbers.top
  pub counted : c.numbers.next ≡ length (fragments c.sent)

-- The same connection later.
pub record Grows (c d : Conn) : Type 0 where
  pub key : d.key ≡ c.key
  pub more : List Message
  pub sent : d.sent ≡ c.sent ++ more
  pub top : c.numbers.top ≤ d.numbers.top
  pub received : c.received ≤ d.received

-- An event's outcome: sound, and grown.
pub record Kept (c d : Conn) : Type 0 where
  pub sound : IsSound d
  pub grows : Grows c d

-- A frame that was emitted: it is honest, and its number was sent.
pub record IsSentFrame (c : Conn) (h : FrameHead) (part : List ℕ) : Type 0 where
  pub honest : frame_of c.key c.sent h.seq ≡ Some (h, part)
  pub sent : h.seq < c.numbers.top

-- ---- what was honest stays so

pub get-append : {X : Type 0} (xs ys : List X) (k : ℕ) (x : X) → slice_get xs k ≡ Some x → slice_get (xs ++ ys) k ≡ Some x
get-append [] ys k x e = absurd (none-some x e)
get-append (y ∷ xs) ys zero x e = e
get-append (y ∷ xs) ys (suc k) x e = get-append xs ys k x e

-- a frame of what was sent is one of what is sent later
pub honest-longer : (k : ConnectionKey) (sent more : List Message) (h : FrameHead) (part : List ℕ) → frame_of k sent h.seq ≡ Some (h, part) → frame_of k (sent ++ more) h.seq ≡ Some (h, part)
honest-longer k sent more h part e =
    let m = map-some (λ f. (head_of k h.seq f, f.part)) (slice_get (fragments sent) h.seq) (h, part) e in
    let there : slice_get (fragments (sent ++ more)) h.seq ≡ Some m.0 =
    ap (λ l. slice_get l h.seq) (fragments-append sent more) ∙ get-append (fragments sent) (fragments more) h.seq m.0 m.1.0 in
    ap (option_map (λ f. (head_of k h.seq f, f.part))) there ∙ ap (λ x. Some x) m.1.1

pub frame-grows : (c d : Conn) (h : FrameHead) (part : List ℕ) → Grows c d → IsSentFrame c h part → IsSentFrame d h part
frame-grows c d h part g f = record {
  honest =
      let longer : frame_of c.key (c.sent ++ g.more) h.seq ≡ Some (h, part) = honest-longer c.key c.sent g.more h part f.honest in
      (λ i. frame_of (g.key i) (g.sent i) h.seq) ∙ longer;
  sent = let a = f.sent in let b = g.top in omega arith;
}

pub ack-grows : (c d : Conn) (a : Ack) → Grows c d → a.next ≤ c.received → a.next ≤ d.received
ack-grows c d a g h = let b = g.received in omega arith

-- ---- the events

pub grows-same : (c : Conn) (numbers : SenderState) (received : ℕ) → c.numbers.top ≤ numbers.top → c.received ≤ received → Grows c (record c { numbers = numbers; received = received })
grows-same c numbers received t r = record { key = refl; more = []; sent = sym (append-nil c.sent); top = t; received = r }

-- a message is offered
pub offer-keeps : (c : Conn) (m : Message) → IsSound c → is_spent c.numbers (piece_count (length m.body)) ≡ false
    → Kept c (record c { numbers = offered c.numbers (piece_count (length m.body)); sent = c.sent ++ m ∷ [] })
offer-keeps c m s e =
    let o = s.sender in
    let room : c.numbers.next + piece_count (length m.body) ≤ number_limit = grind (arith, nat_tests) in
    let longer : length (fragments (c.sent ++ m ∷ [])) ≡ length (fragments c.sent) + length (fragments (m ∷ [])) =
    ap length (fragments-append c.sent (m ∷ [])) ∙ length-append (fragments c.sent) (fragments (m ∷ [])) in
    let alone : length (fragments (m ∷ [])) ≡ piece_count (length m.body) + 0 = length-fragments m [] in
    record {
      sound = record {
        sender = record { base_below = o.base_below; cursor_below = o.cursor_below; top_below = let t = o.top_below in omega arith; in_range = room };
        base_below = s.base_below;
        received_below = s.received_below;
        counted = let k = s.counted in omega (arith, k, longer, alone);
      };
      grows = record { key = refl; more = m ∷ []; sent = refl; top = omega arith; received = omega arith };
    }

-- what is due, by its two tests
pub record IsDue (s : SenderState) (n : ℕ) : Type 0 where
  pub number : n ≡ s.cursor
  pub offered_already : s.cursor < s.next
  pub in_window : s.cursor < s.base + window

pub due-some : (s : SenderState) (n : ℕ) → due s ≡ Some n → IsDue s n
due-some s n e =
    let p = if-some (nat_lt s.cursor s.next && nat_lt s.cursor (s.base + window)) (Some s.cursor) n e in
    let b = both (nat_lt s.cursor s.next) (nat_lt s.cursor (s.base + window)) p.0 in
    record {
      number = sym (same_Some s.cursor n p.1);
      offered_already = let t = b.0 in grind (arith, nat_tests);
      in_window = let t = b.1 in grind (arith, nat_tests);
    }

-- the due fragment is sent
pub send-keeps : (c : Conn) (n : ℕ) → IsSound c → due c.numbers ≡ Some n → Kept c (record c { numbers = sent_one c.numbers })
send-keeps c n s e =
    let d = due-some c.numbers n e in
    let o = s.sender in
    let a = d.offered_already in
    let b = o.base_below in
    let k = o.cursor_below in
    let t = o.top_below in
    let r = s.received_below in
    record {
      sound = record {
        sender = record { base_below = omega arith; cursor_below = omega arith; top_below = omega arith; in_range = o.in_range };
        base_below = s.base_below;
        received_below = omega arith;
        counted = s.counted;
      };
      grows = grows-same c (sent_one c.numbers) c.received (omega arith) (omega arith);
    }

-- and its frame is that of a fragment
pub record IsFrameOf (c : Conn) (n : ℕ) (f : Fragment) : Type 0 where
  pub fragment : slice_get (fragments c.sent) n ≡ Some f
  pub frame : frame_of c.key c.sent n ≡ Some (head_of c.key n f, f.part)

pub frame-at : (c : Conn) (n : ℕ) → IsSound c → n < c.numbers.next → (f : Fragment) × IsFrameOf c n f
frame-at c n s h =
    let k = s.counted in
    let w = within (fragments c.sent) n (omega (arith, h, k)) in
    (w.0, record { fragment = w.1; frame = ap (option_map (λ f. (head_of c.key n f, f.part))) w.1 })

pub due-sent : (c : Conn) (n : ℕ) (f : Fragment) → IsSound c → due c.numbers ≡ Some n → IsFrameOf c n f
    → IsSentFrame (record c { numbers = sent_one c.numbers }) (head_of c.key n f) f.part
due-sent c n f s e k = record { honest = k.frame; sent = let d = (due-some c.numbers n e).number in omega (arith, d) }

-- an honest acknowledgement arrives
pub hear-keeps : (c : Conn) (n : ℕ) → IsSound c → n ≤ c.received → Kept c (record c { numbers = acknowledged c.numbers n })
hear-keeps c n s h = by (is_taken c.numbers n) refl
  where
    by : (t : Bool) → is_taken c.numbers n ≡ t → Kept c (record c { numbers = if t then record c.numbers { base = n; cursor = max c.numbers.cursor n } else c.numbers })
    by true e =
        let o = s.sender in
        let k = o.cursor_below in
        let r = s.received_below in
        record {
          sound = record {
            sender = record { base_below = omega arith; cursor_below = omega arith; top_below = o.top_below; in_range = o.in_range };
            base_below = h;
            received_below = r;
            counted = s.counted;
          };
          grows = grows-same c (record c.numbers { base = n; cursor = max c.numbers.cursor n }) c.received (omega arith) (omega arith);
        }
    by false e = record { sound = s; grows = grows-same c c.numbers c.received (omega arith) (omega arith) }

-- the time runs out
pub expire-keeps : (c : Conn) → IsSound c → Kept c (record c { numbers = expired c.numbers })
expire-keeps c s =
    let o = s.sender in
    let b = o.base_below in
    let k = o.cursor_below in
    record {
      sound = record {
        sender = record { base_below = omega arith; cursor_below = omega arith; top_below = o.top_below; in_range = o.in_range };
        base_below = s.base_below;
        received_below = s.received_below;
        counted = s.counted;
      };
      grows = grows-same c (expired c.numbers) c.received (omega arith) (omega arith);
    }

-- an emitted frame arrives
pub take-keeps : (c : Conn) (h : FrameHead) (part : List ℕ) (fits last : Bool) → IsSound c → IsSentFrame c h part → Kept c (record c { received = taken_after c.received (took c.received h.seq fits last) })
take-keeps c h part fits last s f = by (nat_eq h.seq c.received) refl fits last
  where
    same : Kept c (record c { received = c.received })
    same = record { sound = s; grows = grows-same c c.numbers c.received (omega arith) (omega arith) }

    next : h.seq ≡ c.received → Kept c (record c { received = c.received + 1 })
    next e =
        let o = s.sender in
        let b = s.base_below in
        let t = f.sent in
        record {
          sound = record { sender = o; base_below = omega arith; received_below = omega (arith, e); counted = s.counted };
          grows = grows-same c c.numbers (c.received + 1) (omega arith) (omega arith);
        }

    by : (t : Bool) → nat_eq h.seq c.received ≡ t → (fits last : Bool) → Kept c (record c { received = taken_after c.received (if t then if fits then taken_as last else NoToken else NotNext) })
    by true e true true = next (grind (arith, nat_tests))
    by true e true false = next (grind (arith, nat_tests))
    by true e false last = same
    by false e fits last = same

-- the fragment of an honest frame
pub frame-fragment : (c : Conn) (h : FrameHead) (part : List ℕ) → IsSound c → IsSentFrame c h part → (f : Fragment) × (IsFrameOf c h.seq f × (h ≡ head_of c.key h.seq f) × (part ≡ f.part))
frame-fragment c h part s f =
    let o = s.sender in
    let t = f.sent in
    let w = frame-at c h.seq s (let a = o.top_below in omega (arith, a, t)) in
    let same : (h, part) ≡ (head_of c.key h.seq w.0, w.0.part) = same_Some (h, part) (head_of c.key h.seq w.0, w.0.part) (sym f.honest ∙ w.1.frame) in
    (w.0, (w.1, ap (λ x. x.0) same, ap (λ x. x.1) same))

-- the fragments taken are among those that were sent
pub received-within : (c : Conn) → IsSound c → c.received ≤ length (fragments c.sent)
received-within c s =
    let k = s.counted in
    let r = s.received_below in
    let t = s.sender.top_below in
    omega (arith, k, r, t)
