-- Short messages, each of one fragment, and the bodies that ends emit.
use Rattle.std.proofs.Common.{◌≡◌, ◌<◌, ◌≤◌, ◌+◌, ◌-◌, ◌^◌, ℕ, zero, suc, Bool, true, false, ◌&&◌, nat_eq, nat_lt, nat_le, min, List, [], ◌∷◌, ◌++◌, length, map, Option, Some, None, option_map, Ok, refl, sym, ap, ◌∙◌, arith, if◌then◌else◌}
use Rattle.std.specs.Prelude.{slice_get}
use Rattle.std.specs.List.{AllByRecursion}
use Rattle.std.proofs.lemmas.Bool.Decides.{nat_tests}
use Rattle.std.proofs.lemmas.Option.{slice_get-map}
use Rattle.gm_defs.specs.declared.message.Message.{Message}
use Rattle.gm_defs.specs.declared.frame.FrameHead.{FrameHead}
use Rattle.gm_defs.specs.declared.frame.Ack.{Ack}
use Rattle.gm_defs.specs.declared.frame.GmBody.TheVariants.{Frame, Ack as Acknowledges}
use Rattle.gm_defs.specs.Body.{piece, message_limit, number_limit, is_prio, is_offset, is_last, is_head, frame_bytes, ack_bytes, part_in, decode}
use Rattle.gm_defs.specs.Fragment.{Fragment, piece_count, fragments, whole_below, head_of, frame_of}
use Rattle.gm_defs.specs.Connection.{connection, ack_on}
use Rattle.gm_defs.proofs.Bodies.{frame-read, ack-read}
use Rattle.gm_defs.proofs.Pieces.{short-pieces}
use Rattle.gm_defs.proofs.Numbers.{length-pieces}
use Rattle.duo_defs.specs.Duo.{other}
use Rattle.duo_defs.specs.Emitting.{sends_on}
use Rattle.duo_defs.specs.Theorem.{IsShort}

abbrev pub AreShort : List Message → Type 0
AreShort ms = AllByRecursion IsShort ms

-- such a message as its one fragment
abbrev pub whole : Message → Fragment
whole m = record { message = m; offset = 0; part = m.body }

pub one-piece : (m : Message) → length m.body ≤ piece → piece_count (length m.body) ≡ 1
one-piece m h = sym (length-pieces m) ∙ ap length (short-pieces m h)

pub fragments-short : (ms : List Message) → AreShort ms → fragments ms ≡ map whole ms
fragments-short [] all = refl
fragments-short (m ∷ ms) all = (λ i. short-pieces m all.0.short i ++ fragments-short ms all.1 i)

-- the frame of a message's number
abbrev pub framed : ℕ → ℕ → Message → FrameHead × List ℕ
framed x n m = (head_of (sends_on x) n (whole m), m.body)

pub frame-short : (x n : ℕ) (ms : List Message) → AreShort ms → frame_of (sends_on x) ms n ≡ option_map (framed x n) (slice_get ms n)
frame-short x n ms all =
    ap (λ (l : List Fragment). option_map of (slice_get l n)) (fragments-short ms all) ∙ (ap (option_map of) (slice_get-map whole ms n) ∙ twice (slice_get ms n))
  where
    of : Fragment → FrameHead × List ℕ
    of f = (head_of (sends_on x) n f, f.part)

    twice : (o : Option Message) → option_map of (option_map whole o) ≡ option_map (framed x n) o
    twice None = refl
    twice (Some m) = refl

pub whole-short : (ms : List Message) (n : ℕ) → AreShort ms → whole_below ms n ≡ min n (length ms)
whole-short [] n all = omega arith
whole-short (m ∷ ms) n all = by (nat_le (piece_count (length m.body)) n) refl (whole-short ms (n - piece_count (length m.body)) all.1)
  where
    by : (b : Bool) → nat_le (piece_count (length m.body)) n ≡ b → whole_below ms (n - piece_count (length m.body)) ≡ min (n - piece_count (length m.body)) (length ms)
        → (if b then 1 + whole_below ms (n - piece_count (length m.body)) else 0) ≡ min n (length (m ∷ ms))
    by true e r = let one = one-piece m all.0.short in let low : piece_count (length m.body) ≤ n = grind (arith, nat_tests) in omega (arith, r, one, low)
    by false e r = let one = one-piece m all.0.short in let low : n < piece_count (length m.body) = grind (arith, nat_tests) in omega (arith, one, low)

-- ---- bodies

-- the head of a message's frame
abbrev pub frame_head : ℕ → ℕ → Message → FrameHead
frame_head x n m = head_of (sends_on x) n (whole m)

-- an end's acknowledgement
abbrev pub answer : ℕ → ℕ → Ack
answer x taken = ack_on (connection (other x) x 0) taken

first-offset : (total : ℕ) → is_offset total 0 ≡ true
first-offset zero = refl
first-offset (suc n) =
    let a : nat_eq (suc n) 0 ≡ false = grind (arith, nat_tests) in
    let b : nat_lt 0 (suc n) ≡ true = grind (arith, nat_tests) in
    rw a (rw b refl)

other-small : (x : ℕ) → other x < 2
other-small zero = omega arith
other-small (suc k) = omega arith

pub head-by_rules : (x n : ℕ) (m : Message) → n < number_limit → IsShort m → is_head (frame_head x n m) ≡ true
head-by_rules x n m low is =
    let s = is.short in
    let p : nat_lt m.sport 8 ≡ true = let e = is.sport in grind (arith, nat_tests) in
    let q : nat_lt m.dport 8 ≡ true = let e = is.dport in grind (arith, nat_tests) in
    let r : is_prio m.prio ≡ true = let e = is.prio in grind (arith, nat_tests) in
    let a : nat_lt n number_limit ≡ true = grind (arith, nat_tests) in
    let b : nat_le (length m.body) message_limit ≡ true = grind (arith, nat_tests) in
    let c : is_offset (length m.body) 0 ≡ true = first-offset (length m.body) in
    let d : nat_eq (length m.body) (min piece (length m.body - 0)) ≡ true = grind (arith, nat_tests) in
    all-seven p q r a b c d
  where
    all-seven : {t u v w x y z : Bool} → t ≡ true → u ≡ true → v ≡ true → w ≡ true → x ≡ true → y ≡ true → z ≡ true → (t && u && v && w && x && y && z) ≡ true
    all-seven e f g h i j k = rw e (rw f (rw g (rw h (rw i (rw j k)))))

pub last-short : (m : Message) → IsShort m → is_last (length m.body) 0 ≡ true
last-short m is = let s = is.short in grind (arith, nat_tests)

-- A body that is read as the frame of a message.
pub record IsReadAs (body : List ℕ) (x n : ℕ) (m : Message) : Type 0 where
  pub head : decode body ≡ Ok (Frame (frame_head x n m))
  pub part : part_in body ≡ m.body

pub frame-is_read : (x n : ℕ) (m : Message) → x < 2 → n < number_limit → IsShort m → IsReadAs (frame_bytes (frame_head x n m) m.body) x n m
frame-is_read x n m side low is =
    let o = other-small x in
    let r = frame-read (frame_head x n m) m.body (omega (arith, side)) (omega (arith, o)) (head-by_rules x n m low is) refl in
    record { head = r.0; part = r.1 }

pub ack-is_read : (x n : ℕ) → x < 2 → n < 2 ^ 32 → decode (ack_bytes (answer x n)) ≡ Ok (Acknowledges (answer x n))
ack-is_read x n side low = let o = other-small x in ack-read (answer x n) (omega (arith, side)) (omega (arith, o)) refl low
