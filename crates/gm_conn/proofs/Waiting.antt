-- The descriptors that wait: which of them holds a number, and what a fragment of it says.
use Rattle.std.proofs.Common.{◌≡◌, ◌≤◌, ◌<◌, ◌+◌, ◌-◌, ◌*◌, ℕ, Bool, true, false, ◌&&◌, nat_eq, nat_lt, nat_le, min, [], ◌∷◌, length, take, drop, Option, Some, None, option_map, refl, sym, ap, ◌∙◌, subst, arith, length-append, if◌then◌else◌}
use Rattle.std.specs.Prelude.{slice_get, option_and_then}
use Rattle.std.proofs.lemmas.Bool.Decides.{nat_tests}
use Rattle.std.proofs.lemmas.Option.{slice_get-map, same_Some, none-some}
use Rattle.gm_defs.specs.declared.message.Message.{Message}
use Rattle.gm_defs.specs.declared.frame.FrameHead.{FrameHead}
use Rattle.gm_defs.specs.declared.frame.ConnectionKey.{ConnectionKey}
use Rattle.gm_defs.specs.declared.frame.GmBody.TheVariants.{Frame}
use Rattle.gm_defs.specs.Body.{piece, message_limit, number_limit, is_prio, is_head, is_offset}
use Rattle.gm_defs.specs.Fragment.{Fragment, fragments, piece_count, whole_below, head_of}
use Rattle.gm_defs.specs.Connection.{SenderState, connection, key_of, window, due}
use Rattle.gm_defs.specs.Laws.{ComesNext}
use Rattle.gm_defs.proofs.Choices.{both, if-some, map-some}
use Rattle.gm_defs.proofs.Numbers.{length-fragments, fragments-append, next-fragment, whole-early, whole-late, IsHolder, holder, offset-within}
use Rattle.gm_conn.specs.declared.desc.Desc.{Desc}
use Rattle.gm_conn.specs.Halves.{Outgoing, IsOutgoing, IsOutgoingFrom, is_desc, message_of, messages, first, due_at, due_frame, place_below, first_below, whole_at, head_for}
use Rattle.gm_conn.proofs.Messages.{all-at, within, take-next, drop-at, drop-past, long-of, pieces-of}

-- a descriptor's rules, one by one
pub record IsDesc (c : ConnectionKey) (d : Desc) : Type 0 where
  pub sport : d.sport < 8
  pub dport : d.dport < 8
  pub prio : is_prio d.prio ≡ true
  pub of_connection : d.prio ≡ c.prio
  pub total : d.total ≤ message_limit

below : (a b : ℕ) → nat_lt a b ≡ true → a < b
below a b e = grind (arith, nat_tests)

equal : (a b : ℕ) → nat_eq a b ≡ true → a ≡ b
equal a b e = grind (arith, nat_tests)

at_most : (a b : ℕ) → nat_le a b ≡ true → a ≤ b
at_most a b e = grind (arith, nat_tests)

pub desc-rules : (c : ConnectionKey) (d : Desc) → is_desc c d ≡ true → IsDesc c d
desc-rules c d e =
    let total = both (nat_lt d.sport 8 && nat_lt d.dport 8 && is_prio d.prio && nat_eq d.prio c.prio) (nat_le d.total message_limit) e in
    let same = both (nat_lt d.sport 8 && nat_lt d.dport 8 && is_prio d.prio) (nat_eq d.prio c.prio) total.0 in
    let prio = both (nat_lt d.sport 8 && nat_lt d.dport 8) (is_prio d.prio) same.0 in
    let ports = both (nat_lt d.sport 8) (nat_lt d.dport 8) prio.0 in
    record {
      sport = below d.sport 8 ports.0;
      dport = below d.dport 8 ports.1;
      prio = prio.1;
      of_connection = equal d.prio c.prio same.1;
      total = at_most d.total message_limit total.1;
    }

-- the number of the first fragment that waits
pub first-from : (from : ℕ) (w : Outgoing) → IsOutgoingFrom from w → from ≡ first w
first-from from w h = let b = h.begins in omega (arith, b)

pub first-behind : (w : Outgoing) → IsOutgoing w → first w + length (fragments (messages w)) ≡ w.numbers.next
first-behind w kept = let c = kept.counted in omega (arith, c)

-- a message of a place that waits lies wholly below so many numbers from its first on
pub record IsWholeAt (w : Outgoing) (place most pieces : ℕ) : Type 0 where
  pub desc : Desc
  pub there : slice_get w.waiting place ≡ Some desc
  pub many : piece_count desc.total ≡ pieces
  pub within : pieces ≤ most

pub whole-at : (w : Outgoing) (place most pieces : ℕ) → whole_at w place most ≡ Some pieces → IsWholeAt w place most pieces
whole-at w place most pieces e = by (slice_get w.waiting place) refl e
  where
    by : (o : Option Desc) → slice_get w.waiting place ≡ o → option_and_then (λ d. if nat_le (piece_count d.total) most then Some (piece_count d.total) else None) o ≡ Some pieces
        → IsWholeAt w place most pieces
    by None t e = absurd (none-some pieces e)
    by (Some d) t e =
        let p = if-some (nat_le (piece_count d.total) most) (Some (piece_count d.total)) pieces e in
        let many : piece_count d.total ≡ pieces = same_Some (piece_count d.total) pieces p.1 in
        let room = at_most (piece_count d.total) most p.0 in
        record { desc = d; there = t; many = many; within = omega (arith, many, room) }

-- the message of a descriptor at its place
message-at : (w : Outgoing) (place : ℕ) (d : Desc) → slice_get w.waiting place ≡ Some d → slice_get (messages w) place ≡ Some (message_of d)
message-at w place d e = slice_get-map message_of w.waiting place ∙ ap (option_map message_of) e

-- where none does, none of those from there on does
pub none-at : (w : Outgoing) (place most : ℕ) → whole_at w place most ≡ None → whole_below (drop place (messages w)) most ≡ 0
none-at w place most e = by (slice_get w.waiting place) refl e
  where
    late : (d : Desc) (b : Bool) → nat_le (piece_count d.total) most ≡ b → (if b then Some (piece_count d.total) else None) ≡ None → most < piece_count d.total
    late d true t e = absurd (none-some (piece_count d.total) (sym e))
    late d false t e = grind (arith, nat_tests)

    by : (o : Option Desc) → slice_get w.waiting place ≡ o → option_and_then (λ d. if nat_le (piece_count d.total) most then Some (piece_count d.total) else None) o ≡ None
        → whole_below (drop place (messages w)) most ≡ 0
    by None t e =
        let none : slice_get (messages w) place ≡ None = slice_get-map message_of w.waiting place ∙ ap (option_map message_of) t in
        ap (λ l. whole_below l most) (drop-past (messages w) place none)
    by (Some d) t e =
        let low : most < piece_count d.total = late d (nat_le (piece_count d.total) most) refl e in
        let many = pieces-of d in
        ap (λ l. whole_below l most) (drop-at (messages w) place (message_of d) (message-at w place d t))
        ∙ whole-early (message_of d) (drop (place + 1) (messages w)) most (omega (arith, low, many))

-- ---- a walk over the messages that wait: so many lie wholly below a number, and the fragments after them begin there
pub record IsWalked (w : Outgoing) (n place from : ℕ) : Type 0 where
  pub before : from ≡ first w + length (fragments (take place (messages w)))
  pub left : place_below w n ≡ place + whole_below (drop place (messages w)) (n - from)
  pub within : from ≤ n

pub walk-starts : (w : Outgoing) (n from : ℕ) → from ≡ first w → first w ≤ n → IsWalked w n 0 from
walk-starts w n from e low = record {
  before = omega (arith, e);
  left =
      let same : n - first w ≡ n - from = omega (arith, e) in
      let all : place_below w n ≡ whole_below (messages w) (n - from) = ap (whole_below (messages w)) same in
      omega (arith, all);
  within = omega (arith, e, low);
}

pub walk-goes : (w : Outgoing) (n place from pieces : ℕ) → IsWalked w n place from → whole_at w place (n - from) ≡ Some pieces → IsWalked w n (place + 1) (from + pieces)
walk-goes w n place from pieces h e =
    let one = whole-at w place (n - from) pieces e in
    let d : Desc = one.desc in
    let m : Message = message_of d in
    let there : slice_get (messages w) place ≡ Some m = message-at w place d one.there in
    let many : piece_count (length m.body) ≡ pieces = pieces-of d ∙ one.many in
    let inside = one.within in
    let below = h.within in
    let longer : length (fragments (take (place + 1) (messages w))) ≡ length (fragments (take place (messages w))) + length (fragments (m ∷ [])) =
    ap (λ l. length (fragments l)) (take-next (messages w) place m there) ∙ ap length (fragments-append (take place (messages w)) (m ∷ []))
    ∙ length-append (fragments (take place (messages w))) (fragments (m ∷ [])) in
    let alone : length (fragments (m ∷ [])) ≡ piece_count (length m.body) + 0 = length-fragments m [] in
    let before = h.before in
    let rest : whole_below (drop place (messages w)) (n - from) ≡ 1 + whole_below (drop (place + 1) (messages w)) (n - from - piece_count (length m.body)) =
    ap (λ l. whole_below l (n - from)) (drop-at (messages w) place m there) ∙ whole-late m (drop (place + 1) (messages w)) (n - from) (omega (arith, many, inside)) in
    let step : n - from - piece_count (length m.body) ≡ n - (from + pieces) = omega (arith, many, inside, below) in
    let later : whole_below (drop (place + 1) (messages w)) (n - from - piece_count (length m.body)) ≡ whole_below (drop (place + 1) (messages w)) (n - (from + pieces)) =
    ap (whole_below (drop (place + 1) (messages w))) step in
    let left = h.left in
    record {
      before = omega (arith, before, longer, alone, many);
      left = omega (arith, left, rest, later);
      within = omega (arith, inside, below);
    }

pub walk-ends : (w : Outgoing) (n place from : ℕ) → IsWalked w n place from → whole_at w place (n - from) ≡ None → place ≡ place_below w n
walk-ends w n place from h e = let none = none-at w place (n - from) e in let left = h.left in omega (arith, left, none)

pub walk-first : (w : Outgoing) (n place from : ℕ) → IsWalked w n place from → place ≡ place_below w n → from ≡ first_below w n
walk-first w n place from h e = h.before ∙ ap (λ k. first w + length (fragments (take k (messages w)))) e

-- ---- what is due

-- its head is of the connection, and by the rules
pub head-key : (c : ConnectionKey) (seq : ℕ) (d : Desc) (offset : ℕ) → is_desc c d ≡ true → key_of (Frame (head_for c seq d offset)) ≡ c
head-key c seq d offset e = ap (connection c.src c.dst) (desc-rules c d e).of_connection

pub head-by_rules : (c : ConnectionKey) (seq : ℕ) (d : Desc) (offset : ℕ) → is_desc c d ≡ true → is_offset d.total offset ≡ true → seq < number_limit → is_head (head_for c seq d offset) ≡ true
head-by_rules c seq d offset e begins h =
    let r = desc-rules c d e in
    let t = r.total in
    let sport : nat_lt d.sport 8 ≡ true = let k = r.sport in grind (arith, nat_tests) in
    let dport : nat_lt d.dport 8 ≡ true = let k = r.dport in grind (arith, nat_tests) in
    let prio = r.prio in
    let number : nat_lt seq number_limit ≡ true = grind (arith, nat_tests) in
    let total : nat_le d.total message_limit ≡ true = grind (arith, nat_tests) in
    let len : nat_eq (min piece (d.total - offset)) (min piece (d.total - offset)) ≡ true = grind (arith, nat_tests) in
    λ i. sport i && dport i && prio i && number i && total i && begins i && len i

-- a fragment's head is that of a descriptor of its message
pub head-is : (c : ConnectionKey) (n : ℕ) (f : Fragment) (d : Desc) (offset : ℕ) → message_of d ≡ f.message → f.offset ≡ offset → length f.part ≡ min piece (length f.message.body - f.offset)
    → head_of c n f ≡ head_for c n d offset
head-is c n f d offset same at long =
    let total : length f.message.body ≡ d.total = ap (λ m. length m.body) (sym same) ∙ long-of d in
    let len : length f.part ≡ min piece (d.total - offset) = long ∙ (λ i. min piece (total i - at i)) in
    λ i. record {
      src = c.src;
      dst = c.dst;
      sport = (sym same i).sport;
      dport = (sym same i).dport;
      prio = (sym same i).prio;
      seq = n;
      total = total i;
      offset = at i;
      len = len i;
    }

-- The descriptor that holds a number, and where in its message the fragment of that number begins.
pub record IsHeldBy (w : Outgoing) (n : ℕ) (d : Desc) : Type 0 where
  pub there : slice_get w.waiting (place_below w n) ≡ Some d
  pub low : first_below w n ≤ n
  pub begins : is_offset d.total ((n - first_below w n) * piece) ≡ true
  pub stated : due_at w n ≡ Some (record { head = head_for w.key n d ((n - first_below w n) * piece); ticket = d.ticket })

pub held-by : (w : Outgoing) (n : ℕ) → IsOutgoing w → first w ≤ n → n < w.numbers.next → (d : Desc) × IsHeldBy w n d
held-by w n kept low more =
    let k : ℕ = n - first w in
    let all = first-behind w kept in
    let f = within (fragments (messages w)) k (omega (arith, all, low, more)) in
    let c : ComesNext (messages w) k f.0 = next-fragment (messages w) k f.0 f.1 in
    let h : IsHolder (messages w) k f.0 = holder (messages w) k f.0 f.1 in
    let d = map-some message_of (slice_get w.waiting (whole_below (messages w) k)) f.0.message (sym (slice_get-map message_of w.waiting (whole_below (messages w) k)) ∙ c.there) in
    let before = h.low in
    let step : k - length (fragments (take (whole_below (messages w) k) (messages w))) ≡ n - first_below w n = omega (arith, low) in
    let offset : f.0.offset ≡ (n - first_below w n) * piece = h.offset ∙ ap (λ j. j * piece) step in
    let total : length f.0.message.body ≡ d.0.total = ap (λ m. length m.body) (sym d.1.1) ∙ long-of d.0 in
    let head : head_of w.key n f.0 ≡ head_for w.key n d.0 ((n - first_below w n) * piece) = head-is w.key n f.0 d.0 ((n - first_below w n) * piece) d.1.1 offset c.long in
    let by_fragment : due_at w n ≡ option_map (λ x. record { head = head_of w.key n f.0; ticket = x.ticket }) (slice_get w.waiting (whole_below (messages w) k)) =
    ap (option_and_then (λ g. option_map (λ x. record { head = head_of w.key n g; ticket = x.ticket }) (slice_get w.waiting (whole_below (messages w) k)))) f.1 in (
      d.0,
      record {
        there = d.1.0;
        low = omega (arith, low, before);
        begins = (λ i. is_offset (sym total i) (sym offset i)) ∙ c.begins;
        stated = by_fragment ∙ ap (option_map (λ x. record { head = head_of w.key n f.0; ticket = x.ticket })) d.1.0 ∙ ap (λ x. Some (record { head = x; ticket = d.0.ticket })) head;
      },
    )

-- the number is due where the window and what was offered allow it
pub due-number : (s : SenderState) → s.cursor < s.next → s.cursor - s.base < 8 → s.base ≤ s.cursor → due s ≡ Some s.cursor
due-number s more room up =
    let a : nat_lt s.cursor s.next ≡ true = grind (arith, nat_tests) in
    let l : s.cursor < s.base + window = omega (arith, room, up) in
    let b : nat_lt s.cursor (s.base + window) ≡ true = grind (arith, nat_tests) in
    λ i. if a i && b i then Some s.cursor else None

due-some : (w : Outgoing) (d : Desc) → IsHeldBy w w.numbers.cursor d → due w.numbers ≡ Some w.numbers.cursor
    → due_frame w ≡ Some (record { head = head_for w.key w.numbers.cursor d ((w.numbers.cursor - first_below w w.numbers.cursor) * piece); ticket = d.ticket })
due-some w d h e = ap (option_and_then (due_at w)) e ∙ h.stated

-- What is known of the head of a due fragment and of its descriptor.
pub record IsDueHead (w : Outgoing) (d : Desc) (h : FrameHead) : Type 0 where
  pub exact : Some (record { head = h; ticket = d.ticket }) ≡ due_frame w
  pub by_rules : is_head h ≡ true
  pub connection : key_of (Frame h) ≡ w.key

-- the descriptor that was found below the cursor is the one that holds it
found-by : (w : Outgoing) (place from : ℕ) (d : Desc) → IsOutgoing w → w.numbers.cursor < w.numbers.next → place ≡ place_below w w.numbers.cursor → slice_get w.waiting place ≡ Some d
    → IsHeldBy w w.numbers.cursor d
found-by w place from d kept more at e =
    let low = kept.waits in
    let up = kept.sender.base_below in
    let h = held-by w w.numbers.cursor kept (omega (arith, low, up)) more in
    let same : h.0 ≡ d = same_Some h.0 d (sym h.1.there ∙ ap (slice_get w.waiting) (sym at) ∙ e) in
    subst (IsHeldBy w w.numbers.cursor) same h.1

-- a descriptor that waits is by the rules
pub waits-rules : (w : Outgoing) (place : ℕ) (d : Desc) → IsOutgoing w → slice_get w.waiting place ≡ Some d → is_desc w.key d ≡ true
waits-rules w place d kept e = all-at (λ x. is_desc w.key x ≡ true) w.waiting place d kept.by_rules e

pub due-head : (w : Outgoing) (place from : ℕ) (d : Desc) (h : FrameHead) → IsOutgoing w → w.numbers.cursor < w.numbers.next → w.numbers.cursor - w.numbers.base < 8
    → place ≡ place_below w w.numbers.cursor → from ≡ first_below w w.numbers.cursor → slice_get w.waiting place ≡ Some d → h ≡ head_for w.key w.numbers.cursor d ((w.numbers.cursor - from) * piece)
    → IsDueHead w d h
due-head w place from d h kept more room at begins e is =
    let held = found-by w place from d kept more at e in
    let up = kept.sender.base_below in
    let top = kept.sender.top_below in
    let range = kept.sender.in_range in
    let number = due-number w.numbers more room up in
    let same : h ≡ head_for w.key w.numbers.cursor d ((w.numbers.cursor - first_below w w.numbers.cursor) * piece) = is ∙ ap (λ k. head_for w.key w.numbers.cursor d ((w.numbers.cursor - k) * piece)) begins in
    let rules = waits-rules w place d kept e in
    record {
      exact = ap (λ x. Some (record { head = x; ticket = d.ticket })) same ∙ sym (due-some w d held number);
      by_rules = subst (λ x. is_head x ≡ true) (sym same) (head-by_rules w.key w.numbers.cursor d ((w.numbers.cursor - first_below w w.numbers.cursor) * piece) rules held.begins (omega (arith, more, range)));
      connection = ap (λ x. key_of (Frame x)) same ∙ head-key w.key w.numbers.cursor d ((w.numbers.cursor - first_below w w.numbers.cursor) * piece) rules;
    }

-- its offset is one of the message, and small
pub due-offset : (w : Outgoing) (place from : ℕ) (d : Desc) → IsOutgoing w → w.numbers.cursor < w.numbers.next → place ≡ place_below w w.numbers.cursor → from ≡ first_below w w.numbers.cursor
    → slice_get w.waiting place ≡ Some d → (is_offset d.total ((w.numbers.cursor - from) * piece) ≡ true) × ((w.numbers.cursor - from) * piece ≤ message_limit)
due-offset w place from d kept more at begins e =
    let held = found-by w place from d kept more at e in
    let offset : ℕ = (w.numbers.cursor - from) * piece in
    let is : is_offset d.total offset ≡ true = (λ i. is_offset d.total ((w.numbers.cursor - begins i) * piece)) ∙ held.begins in
    let rules = desc-rules w.key d (waits-rules w place d kept e) in
    let total = rules.total in
    let inside : offset ≤ d.total = offset-within d.total offset is in
    (is, omega (arith, total, inside))

-- nothing that waits begins above the cursor
pub first-low : (w : Outgoing) → IsOutgoing w → first w ≤ w.numbers.cursor
first-low w kept = let low = kept.waits in let up = kept.sender.base_below in omega (arith, low, up)

-- and a descriptor holds it
pub held-there : (w : Outgoing) (place : ℕ) → IsOutgoing w → w.numbers.cursor < w.numbers.next → place ≡ place_below w w.numbers.cursor → slice_get w.waiting place ≡ None → ⊥
held-there w place kept more at e =
    let h = held-by w w.numbers.cursor kept (first-low w kept) more in
    none-some h.0 (sym e ∙ ap (slice_get w.waiting) at ∙ h.1.there)

-- a descriptor that waits is short enough
pub waits-short : (w : Outgoing) (place : ℕ) (d : Desc) → IsOutgoing w → slice_get w.waiting place ≡ Some d → d.total ≤ message_limit
waits-short w place d kept e = (desc-rules w.key d (waits-rules w place d kept e)).total
