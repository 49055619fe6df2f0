-- Frames and acknowledgements are read as what was written, and what was read was written so.
use Rattle.std.proofs.Common.{◌≡◌, ◌<◌, ◌≤◌, ◌^◌, ◌-◌, ℕ, zero, suc, Bool, true, false, ◌&&◌, nat_eq, nat_lt, nat_le, min, List, [], ◌∷◌, ◌++◌, length, slice_index, Result, Ok, Err, inl, inr, refl, sym, ap, ◌∙◌, subst, arith, if◌then◌else◌}
use Rattle.std.specs.Prelude.{◌%◌}
use Rattle.std.specs.Int.{w16, w32, to_be_bytes, from_be_bytes}
use Rattle.std.proofs.lemmas.Bool.Decides.{nat_tests}
use Rattle.std.proofs.lemmas.List.{nil_from_length}
use Rattle.std.proofs.lemmas.Nat.{be_bytes_2, be_bytes_4, from_be_bytes-to_be_bytes_2, from_be_bytes-to_be_bytes_4}
use Rattle.gm_defs.specs.declared.frame.FrameHead.{FrameHead}
use Rattle.gm_defs.specs.declared.frame.Ack.{Ack}
use Rattle.gm_defs.specs.declared.frame.GmBody.{GmBody}
use Rattle.gm_defs.specs.declared.frame.GmBody.TheVariants.{Frame, Ack as Acknowledges}
use Rattle.gm_defs.specs.declared.frame.Malformed.{Malformed}
use Rattle.gm_defs.specs.Body.{piece, message_limit, number_limit, version, is_prio, is_offset, frame_length, ack_length, head_in, ack_in, part_in, frame_bytes, ack_bytes, is_head, is_frame, is_ack, begins_with, decode}
use Rattle.gm_defs.specs.Laws.{AreBytes, FrameIsRead, AckIsRead, IsWrittenFrame, IsWrittenAck, FrameWasWritten, AckWasWritten}
use Rattle.gm_defs.proofs.Choices.{both, chosen}

-- what holds of each list of at least so many bytes, in terms of these
abbrev OfLong : ℕ → (List ℕ → Type 0) → Type 0
OfLong zero P = (rest : List ℕ) → P rest
OfLong (suc n) P = (b : ℕ) → OfLong n (λ bytes. P (b ∷ bytes))

of_long : (n : ℕ) (P : List ℕ → Type 0) → OfLong n P → (bytes : List ℕ) → n ≤ length bytes → P bytes
of_long zero P all bytes h = all bytes
of_long (suc n) P all [] h = absurd (omega arith)
of_long (suc n) P all (b ∷ bytes) h = of_long n (λ rest. P (b ∷ rest)) (all b) bytes (omega arith)

no_bytes : AreBytes []
no_bytes i = omega arith

byte_before : (b : ℕ) (bytes : List ℕ) → b < 256 → AreBytes bytes → AreBytes (b ∷ bytes)
byte_before b bytes h k zero = h
byte_before b bytes h k (suc i) = k i

-- numbers as their bytes
of_two : (a b : ℕ) → a < 256 → b < 256 → a ∷ b ∷ [] ≡ to_be_bytes w16 (from_be_bytes w16 (a ∷ b ∷ []))
of_two a b h k = sym (be_bytes_2 (a ∷ b ∷ []) (from_be_bytes w16 (a ∷ b ∷ [])) refl (byte_before a (b ∷ []) h (byte_before b [] k no_bytes)) refl)

of_four : (a b c d : ℕ) → a < 256 → b < 256 → c < 256 → d < 256 → a ∷ b ∷ c ∷ d ∷ [] ≡ to_be_bytes w32 (from_be_bytes w32 (a ∷ b ∷ c ∷ d ∷ []))
of_four a b c d h k m n =
    sym (be_bytes_4 (a ∷ b ∷ c ∷ d ∷ []) (from_be_bytes w32 (a ∷ b ∷ c ∷ d ∷ [])) refl
    (byte_before a (b ∷ c ∷ d ∷ []) h (byte_before b (c ∷ d ∷ []) k (byte_before c (d ∷ []) m (byte_before d [] n no_bytes)))) refl)

two_fit : (a b : ℕ) → a < 256 → b < 256 → from_be_bytes w16 (a ∷ b ∷ []) < 2 ^ 16
two_fit a b h k = omega arith

four_fit : (a b c d : ℕ) → a < 256 → b < 256 → c < 256 → d < 256 → from_be_bytes w32 (a ∷ b ∷ c ∷ d ∷ []) < 2 ^ 32
four_fit a b c d h k m n = omega arith

-- a frame's bytes, and the hosts in it
record IsLongFrame (body : List ℕ) : Type 0 where
  written : body ≡ frame_bytes (head_in body) (part_in body)
  src_fits : (head_in body).src < 2 ^ 16
  dst_fits : (head_in body).dst < 2 ^ 16

abbrev LongFrame : List ℕ → Type 0
LongFrame body = AreBytes body → slice_index body 0 ≡ 1 → slice_index body 1 ≡ version → IsLongFrame body

long_frame : OfLong 23 LongFrame
long_frame kind number s0 s1 d0 d1 sport dport prio q0 q1 q2 q3 t0 t1 t2 t3 o0 o1 o2 o3 l0 l1 rest h k v =
    let src = of_two s0 s1 (h 2) (h 3) in
    let dst = of_two d0 d1 (h 4) (h 5) in
    let seq = of_four q0 q1 q2 q3 (h 9) (h 10) (h 11) (h 12) in
    let total = of_four t0 t1 t2 t3 (h 13) (h 14) (h 15) (h 16) in
    let offset = of_four o0 o1 o2 o3 (h 17) (h 18) (h 19) (h 20) in
    let len = of_two l0 l1 (h 21) (h 22) in
    record {
      written = λ i. k i ∷ v i ∷ (src i ++ (dst i ++ (sport ∷ dport ∷ prio ∷ (seq i ++ (total i ++ (offset i ++ (len i ++ rest)))))));
      src_fits = two_fit s0 s1 (h 2) (h 3);
      dst_fits = two_fit d0 d1 (h 4) (h 5);
    }

-- which body was read
pub read_frame : (body : List ℕ) (h : FrameHead) → decode body ≡ Ok (Frame h) → (is_frame body ≡ true) × (head_in body ≡ h)
read_frame body h e =
    elim (chosen (is_frame body) (Ok (Frame (head_in body))) (if is_ack body then Ok (Acknowledges (ack_in body)) else Err (record {})) (Ok (Frame h)) e) [
      | inl p ↦ (p.0, let q = p.1 in cc)
      | inr p ↦ elim (chosen (is_ack body) (Ok (Acknowledges (ack_in body))) (Err (record {})) (Ok (Frame h)) p.1) [ inl q ↦ let r = q.1 in absurd cc | inr q ↦ let r = q.1 in absurd cc ]
    ]

read_ack : (body : List ℕ) (a : Ack) → decode body ≡ Ok (Acknowledges a) → (is_ack body ≡ true) × (ack_in body ≡ a)
read_ack body a e =
    elim (chosen (is_frame body) (Ok (Frame (head_in body))) (if is_ack body then Ok (Acknowledges (ack_in body)) else Err (record {})) (Ok (Acknowledges a)) e) [
      | inl p ↦ let q = p.1 in absurd cc
      | inr p ↦ elim (chosen (is_ack body) (Ok (Acknowledges (ack_in body))) (Err (record {})) (Ok (Acknowledges a)) p.1) [ inl q ↦ (q.0, let r = q.1 in cc) | inr q ↦ let r = q.1 in absurd cc ]
    ]

equal : (a b : ℕ) → nat_eq a b ≡ true → a ≡ b
equal a b e = grind (arith, nat_tests)

below : (a b : ℕ) → nat_le a b ≡ true → a ≤ b
below a b e = grind (arith, nat_tests)

pub frame-written : FrameWasWritten
frame-written body h bytes e =
    let r = read_frame body h e in
    let last = both ((nat_le frame_length (length body) && begins_with 1 body) && is_head (head_in body)) (nat_eq (length (part_in body)) (head_in body).len) r.0 in
    let head = both (nat_le frame_length (length body) && begins_with 1 body) (is_head (head_in body)) last.0 in
    let first = both (nat_le frame_length (length body)) (begins_with 1 body) head.0 in
    let begin = both (nat_eq (slice_index body 0) 1) (nat_eq (slice_index body 1) version) first.1 in
    let long : IsLongFrame body = of_long 23 LongFrame long_frame body (below 23 (length body) first.0) bytes (equal (slice_index body 0) 1 begin.0) (equal (slice_index body 1) version begin.1) in
    let whole : IsWrittenFrame body (head_in body) = record {
      written = long.written;
      by_rules = head.1;
      part_length = equal (length (part_in body)) (head_in body).len last.1;
      src_fits = long.src_fits;
      dst_fits = long.dst_fits;
    } in
    subst (IsWrittenFrame body) r.1 whole

abbrev LongAck : List ℕ → Type 0
LongAck body =
    AreBytes body → length body ≡ ack_length → slice_index body 0 ≡ 2 → slice_index body 1 ≡ version → is_prio (ack_in body).prio ≡ true
    → IsWrittenAck body (ack_in body)

long_ack : OfLong 11 LongAck
long_ack kind number s0 s1 d0 d1 prio n0 n1 n2 n3 rest h l k v p =
    let src = of_two s0 s1 (h 2) (h 3) in
    let dst = of_two d0 d1 (h 4) (h 5) in
    let next = of_four n0 n1 n2 n3 (h 7) (h 8) (h 9) (h 10) in
    let none : rest ≡ [] = nil_from_length rest (omega arith) in
    record {
      written = λ i. k i ∷ v i ∷ (src i ++ (dst i ++ (prio ∷ (next i ++ none i))));
      by_rules = p;
      src_fits = two_fit s0 s1 (h 2) (h 3);
      dst_fits = two_fit d0 d1 (h 4) (h 5);
      next_fits = four_fit n0 n1 n2 n3 (h 7) (h 8) (h 9) (h 10);
    }

pub ack-written : AckWasWritten
ack-written body a bytes e =
    let r = read_ack body a e in
    let last = both (nat_eq (length body) ack_length && begins_with 2 body) (is_prio (ack_in body).prio) r.0 in
    let first = both (nat_eq (length body) ack_length) (begins_with 2 body) last.0 in
    let begin = both (nat_eq (slice_index body 0) 2) (nat_eq (slice_index body 1) version) first.1 in
    let l : length body ≡ ack_length = equal (length body) ack_length first.0 in
    subst (IsWrittenAck body) r.1
    (of_long 11 LongAck long_ack body (omega (arith, l)) bytes l (equal (slice_index body 0) 2 begin.0) (equal (slice_index body 1) version begin.1) last.1)

-- numbers that fit into their bytes
pub record IsFitHead (h : FrameHead) : Type 0 where
  pub src : h.src < 2 ^ 16
  pub dst : h.dst < 2 ^ 16
  pub seq : h.seq < 2 ^ 32
  pub total : h.total < 2 ^ 32
  pub offset : h.offset < 2 ^ 32
  pub len : h.len < 2 ^ 16

pub head-read : (h : FrameHead) (part : List ℕ) → IsFitHead h → head_in (frame_bytes h part) ≡ h
head-read h part f =
    let a = from_be_bytes-to_be_bytes_2 h.src f.src in
    let b = from_be_bytes-to_be_bytes_2 h.dst f.dst in
    let c = from_be_bytes-to_be_bytes_4 h.seq f.seq in
    let d = from_be_bytes-to_be_bytes_4 h.total f.total in
    let o = from_be_bytes-to_be_bytes_4 h.offset f.offset in
    let l = from_be_bytes-to_be_bytes_2 h.len f.len in
    λ i. record { src = a i; dst = b i; sport = h.sport; dport = h.dport; prio = h.prio; seq = c i; total = d i; offset = o i; len = l i }

-- a fragment begins within its message, or at 0
low-offset : (total offset : ℕ) → (if nat_eq total 0 then nat_eq offset 0 else nat_lt offset total) ≡ true → offset ≤ total
low-offset total offset e = by (nat_eq total 0) e
  where
    by : (b : Bool) → (if b then nat_eq offset 0 else nat_lt offset total) ≡ true → offset ≤ total
    by true d = grind (arith, nat_tests)
    by false d = grind (arith, nat_tests)

-- a head by the rules has numbers that fit
head-fits : (h : FrameHead) → h.src < 2 ^ 16 → h.dst < 2 ^ 16 → is_head h ≡ true → IsFitHead h
head-fits h s d e =
    let ports : Bool = nat_lt h.sport 8 && nat_lt h.dport 8 && is_prio h.prio in
    let len = both (ports && nat_lt h.seq number_limit && nat_le h.total message_limit && is_offset h.total h.offset) (nat_eq h.len (min piece (h.total - h.offset))) e in
    let offset = both (ports && nat_lt h.seq number_limit && nat_le h.total message_limit) (is_offset h.total h.offset) len.0 in
    let total = both (ports && nat_lt h.seq number_limit) (nat_le h.total message_limit) offset.0 in
    let seq = both ports (nat_lt h.seq number_limit) total.0 in
    let begins = both (nat_eq (h.offset % piece) 0) (if nat_eq h.total 0 then nat_eq h.offset 0 else nat_lt h.offset h.total) offset.1 in
    let low_total : h.total ≤ message_limit = below h.total message_limit total.1 in
    let low_offset : h.offset ≤ h.total = low-offset h.total h.offset begins.1 in
    let low_len : h.len ≡ min piece (h.total - h.offset) = equal h.len (min piece (h.total - h.offset)) len.1 in
    let low_seq : h.seq < number_limit = let q = seq.1 in grind (arith, nat_tests) in
    record { src = s; dst = d; seq = omega (arith, low_seq); total = omega (arith, low_total); offset = omega (arith, low_total, low_offset); len = omega (arith, low_len) }

-- which body is read
abbrev choice : Bool → Bool → FrameHead → Ack → Result GmBody Malformed
choice frame ack h a = if frame then Ok (Frame h) else if ack then Ok (Acknowledges a) else Err (record {})

pub frame-read : FrameIsRead
frame-read h part s d e l =
    let body : List ℕ = frame_bytes h part in
    let same : head_in body ≡ h = head-read h part (head-fits h s d e) in
    let long : nat_le frame_length (length body) ≡ true = grind (arith, nat_tests) in
    let head : is_head (head_in body) ≡ true = ap is_head same ∙ e in
    let last : nat_eq (length part) (head_in body).len ≡ true = let k : (head_in body).len ≡ h.len = ap (λ x. x.len) same in grind (arith, nat_tests) in
    let frame : is_frame body ≡ true = λ i. long i && true && head i && last i in
    ((λ i. choice (frame i) (is_ack body) (same i) (ack_in body)), refl)

pub ack-read : AckIsRead
ack-read a s d p n =
    let body : List ℕ = ack_bytes a in
    let src = from_be_bytes-to_be_bytes_2 a.src s in
    let dst = from_be_bytes-to_be_bytes_2 a.dst d in
    let next = from_be_bytes-to_be_bytes_4 a.next n in
    λ i. choice false (p i) (head_in body) (record { src = src i; dst = dst i; prio = a.prio; next = next i })
