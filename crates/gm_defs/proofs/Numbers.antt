-- The fragments of a list of messages by their numbers: what lies wholly below a number, what is begun there, and what the next fragment makes of it.
use Rattle.std.proofs.Common.{◌≡◌, ◌+◌, ◌-◌, ◌*◌, ◌≤◌, ◌<◌, ℕ, zero, suc, Bool, true, false, ◌&&◌, List, [], ◌∷◌, ◌++◌, length, take, drop, min, nat_eq, nat_le, nat_lt, Some, refl, sym, ap, ◌∙◌, subst, arith, append_assoc, length-append, if◌then◌else◌}
use Rattle.std.specs.Prelude.{◌%◌, slice_get}
use Rattle.std.proofs.lemmas.Bool.Decides.{nat_tests}
use Rattle.std.proofs.lemmas.Option.{same_Some}
use Rattle.std.proofs.lemmas.List.{take-append-drop, take_all}
use Rattle.gm_defs.specs.declared.message.Message.{Message}
use Rattle.gm_defs.specs.Body.{piece, is_offset, is_last}
use Rattle.gm_defs.specs.Fragment.{Fragment, fragment_at, piece_count, pieces_from, pieces, fragments, whole_below, begun_below}
use Rattle.gm_defs.proofs.Choices.{both}
use Rattle.gm_defs.specs.Laws.{ComesNext, NextFragment, NoneBelowFirst, MoreIsSent, AllBelowLast}

-- tests of two numbers
later : (c n : ℕ) → n < c → nat_le c n ≡ false
later c n low = grind (arith, nat_tests)

within : (c n : ℕ) → c ≤ n → nat_le c n ≡ true
within c n low = grind (arith, nat_tests)

-- the pieces of a message by their places
pub length-pieces_from : (m : Message) (k offset : ℕ) → length (pieces_from m k offset) ≡ k
length-pieces_from m zero offset = refl
length-pieces_from m (suc k) offset = ap suc (length-pieces_from m k (offset + piece))

pub length-pieces : (m : Message) → length (pieces m) ≡ piece_count (length m.body)
length-pieces m = length-pieces_from m (piece_count (length m.body)) 0

get-pieces_from : (m : Message) (k offset n : ℕ) → n < k → slice_get (pieces_from m k offset) n ≡ Some (fragment_at m (offset + n * piece))
get-pieces_from m zero offset n low = absurd (omega (arith, low))
get-pieces_from m (suc k) offset zero low = let e : offset ≡ offset + 0 * piece = omega arith in ap (λ o. Some (fragment_at m o)) e
get-pieces_from m (suc k) offset (suc n) low =
    let e : offset + piece + n * piece ≡ offset + suc n * piece = omega arith in
    get-pieces_from m k (offset + piece) n (omega (arith, low)) ∙ ap (λ o. Some (fragment_at m o)) e

get-pieces : (m : Message) (n : ℕ) → n < piece_count (length m.body) → slice_get (pieces m) n ≡ Some (fragment_at m (n * piece))
get-pieces m n low = let e : 0 + n * piece ≡ n * piece = omega arith in get-pieces_from m (piece_count (length m.body)) 0 n low ∙ ap (λ o. Some (fragment_at m o)) e

-- places in two lists, one after the other
pub get-front : {A : Type 0} (xs ys : List A) (i : ℕ) → i < length xs → slice_get (xs ++ ys) i ≡ slice_get xs i
get-front [] ys i low = absurd (omega (arith, low))
get-front (x ∷ xs) ys zero low = refl
get-front (x ∷ xs) ys (suc i) low = get-front xs ys i (omega (arith, low))

pub get-behind : {A : Type 0} (xs ys : List A) (i : ℕ) → slice_get (xs ++ ys) (length xs + i) ≡ slice_get ys i
get-behind [] ys i = let e : 0 + i ≡ i = omega arith in ap (slice_get ys) e
get-behind (x ∷ xs) ys i = let e : length (x ∷ xs) + i ≡ suc (length xs + i) = omega arith in ap (slice_get (x ∷ (xs ++ ys))) e ∙ get-behind xs ys i

-- a number below the first message's last, and one past it
module _ (m : Message) (ms : List Message) (n : ℕ) where
  pub whole-early : n < piece_count (length m.body) → whole_below (m ∷ ms) n ≡ 0
  whole-early low = ap (λ b. if b then 1 + whole_below ms (n - piece_count (length m.body)) else 0) (later (piece_count (length m.body)) n low)

  pub begun-early : n < piece_count (length m.body) → begun_below (m ∷ ms) n ≡ take (n * piece) m.body
  begun-early low = ap (λ b. if b then begun_below ms (n - piece_count (length m.body)) else take (n * piece) m.body) (later (piece_count (length m.body)) n low)

  pub whole-late : piece_count (length m.body) ≤ n → whole_below (m ∷ ms) n ≡ 1 + whole_below ms (n - piece_count (length m.body))
  whole-late low = ap (λ b. if b then 1 + whole_below ms (n - piece_count (length m.body)) else 0) (within (piece_count (length m.body)) n low)

  pub begun-late : piece_count (length m.body) ≤ n → begun_below (m ∷ ms) n ≡ begun_below ms (n - piece_count (length m.body))
  begun-late low = ap (λ b. if b then begun_below ms (n - piece_count (length m.body)) else take (n * piece) m.body) (within (piece_count (length m.body)) n low)

  pub get-early : n < piece_count (length m.body) → slice_get (fragments (m ∷ ms)) n ≡ Some (fragment_at m (n * piece))
  get-early low = let long = length-pieces m in get-front (pieces m) (fragments ms) n (omega (arith, long, low)) ∙ get-pieces m n low

  pub get-late : piece_count (length m.body) ≤ n → slice_get (fragments (m ∷ ms)) n ≡ slice_get (fragments ms) (n - piece_count (length m.body))
  get-late low =
      let long = length-pieces m in
      let e : n ≡ length (pieces m) + (n - piece_count (length m.body)) = omega (arith, long, low) in
      ap (slice_get (pieces m ++ fragments ms)) e ∙ get-behind (pieces m) (fragments ms) (n - piece_count (length m.body))

-- a message has a piece
pub some-piece : (len : ℕ) → 0 < piece_count len
some-piece len = grind (arith)

-- nothing lies below the first number
pub none-below : NoneBelowFirst
none-below [] = (refl, refl)
none-below (m ∷ ms) = let some = some-piece (length m.body) in (whole-early m ms 0 some, begun-early m ms 0 some)

-- how many fragments messages have
pub length-fragments : (m : Message) (ms : List Message) → length (fragments (m ∷ ms)) ≡ piece_count (length m.body) + length (fragments ms)
length-fragments m ms = length-append (pieces m) (fragments ms) ∙ ap (λ k. k + length (fragments ms)) (length-pieces m)

pub fragments-append : (xs ys : List Message) → fragments (xs ++ ys) ≡ fragments xs ++ fragments ys
fragments-append [] ys = refl
fragments-append (m ∷ xs) ys = ap (λ l. pieces m ++ l) (fragments-append xs ys) ∙ sym (append_assoc (pieces m) (fragments xs) (fragments ys))

-- where the pieces of a message begin, and which is its last
starts-at-piece : (n : ℕ) → nat_eq (n * piece % piece) 0 ≡ true
starts-at-piece n = let e : n * piece % piece ≡ 0 = omega arith in grind (arith, nat_tests)

starts-within : (len n : ℕ) → n < piece_count len → (if nat_eq len 0 then nat_eq (n * piece) 0 else nat_lt (n * piece) len) ≡ true
starts-within len n low = by (nat_eq len 0) refl
  where
    by : (b : Bool) → nat_eq len 0 ≡ b → (if b then nat_eq (n * piece) 0 else nat_lt (n * piece) len) ≡ true
    by true e = let none : len ≡ 0 = grind (arith, nat_tests) in let z : n * piece ≡ 0 = omega (arith, none, low) in grind (arith, nat_tests)
    by false e = let some : 0 < len = grind (arith, nat_tests) in let z : n * piece < len = omega (arith, some, low) in grind (arith, nat_tests)

starts : (len n : ℕ) → n < piece_count len → is_offset len (n * piece) ≡ true
starts len n low = λ i. starts-at-piece n i && starts-within len n low i

starts-low : (len n : ℕ) → n < piece_count len → n * piece ≤ len
starts-low len n low = omega (arith, low)

ends : (len n : ℕ) → n < piece_count len → is_last len (n * piece) ≡ true → piece_count len ≡ n + 1
ends len n low e = let k : len - n * piece ≤ piece = grind (arith, nat_tests) in omega (arith, low, k)

goes-on : (len n : ℕ) → n < piece_count len → is_last len (n * piece) ≡ false → n + 1 < piece_count len
goes-on len n low e = let k : piece < len - n * piece = grind (arith, nat_tests) in omega (arith, low, k)

short-rest : (len n : ℕ) → is_last len (n * piece) ≡ true → len - n * piece ≤ piece
short-rest len n e = grind (arith, nat_tests)

-- bytes before a place, those of the piece there, and those after it
take-none : {A : Type 0} (k : ℕ) (xs : List A) → xs ≡ [] → take k xs ≡ []
take-none zero xs e = refl
take-none (suc k) [] e = refl
take-none (suc k) (x ∷ xs) e = cc

pub take-on : {A : Type 0} (n k : ℕ) (xs : List A) → take n xs ++ take k (drop n xs) ≡ take (n + k) xs
take-on zero k xs = let e : k ≡ 0 + k = omega arith in ap (λ j. take j xs) e
take-on (suc n) k [] = take-none k [] refl ∙ sym (take-none (suc n + k) [] refl)
take-on (suc n) k (x ∷ xs) = let e : suc n + k ≡ suc (n + k) = omega arith in ap (λ l. x ∷ l) (take-on n k xs) ∙ ap (λ j. take j (x ∷ xs)) (sym e)

pub length-drop : {A : Type 0} (n : ℕ) (xs : List A) → length (drop n xs) ≡ length xs - n
length-drop zero xs = omega arith
length-drop (suc n) [] = omega arith
length-drop (suc n) (x ∷ xs) = let r = length-drop n xs in omega (arith, r)

pub length-take : {A : Type 0} (n : ℕ) (xs : List A) → length (take n xs) ≡ min n (length xs)
length-take zero xs = omega arith
length-take (suc n) [] = omega arith
length-take (suc n) (x ∷ xs) = let r = length-take n xs in omega (arith, r)

-- the fragment of a number in the first message
module _ (m : Message) (ms : List Message) (n : ℕ) (low : n < piece_count (length m.body)) where
  early-part : length (take piece (drop (n * piece) m.body)) ≡ min piece (length m.body - n * piece)
  early-part = length-take piece (drop (n * piece) m.body) ∙ ap (min piece) (length-drop (n * piece) m.body)

  early-before : length (begun_below (m ∷ ms) n) ≡ n * piece
  early-before = let inside = starts-low (length m.body) n low in ap length (begun-early m ms n low) ∙ length-take (n * piece) m.body ∙ omega (arith, inside)

  early-last : is_last (length m.body) (n * piece) ≡ true → (whole_below (m ∷ ms) (n + 1) ≡ whole_below (m ∷ ms) n + 1) × ((begun_below (m ∷ ms) (n + 1) ≡ []) × (begun_below (m ∷ ms) n ++ take piece (drop (n * piece) m.body) ≡ m.body))
  early-last e =
      let end : piece_count (length m.body) ≡ n + 1 = ends (length m.body) n low e in
      let past : piece_count (length m.body) ≤ n + 1 = omega (arith, end) in
      let none : n + 1 - piece_count (length m.body) ≡ 0 = omega (arith, end) in
      let below = none-below ms in
      let whole : whole_below ms (n + 1 - piece_count (length m.body)) ≡ 0 = ap (whole_below ms) none ∙ below.0 in
      let all : whole_below (m ∷ ms) (n + 1) ≡ 1 + whole_below ms (n + 1 - piece_count (length m.body)) = whole-late m ms (n + 1) past in
      let before : whole_below (m ∷ ms) n ≡ 0 = whole-early m ms n low in
      let long = length-drop (n * piece) m.body in
      let rest = short-rest (length m.body) n e in
      let short : length (drop (n * piece) m.body) ≤ piece = omega (arith, long, rest) in (
        omega (arith, whole, all, before),
        (
          begun-late m ms (n + 1) past ∙ ap (begun_below ms) none ∙ below.1,
          (λ i. begun-early m ms n low i ++ take_all piece (drop (n * piece) m.body) short i) ∙ take-append-drop (n * piece) m.body,
        ),
      )

  early-goes_on : is_last (length m.body) (n * piece) ≡ false → (whole_below (m ∷ ms) (n + 1) ≡ whole_below (m ∷ ms) n) × (begun_below (m ∷ ms) (n + 1) ≡ begun_below (m ∷ ms) n ++ take piece (drop (n * piece) m.body))
  early-goes_on e =
      let more : n + 1 < piece_count (length m.body) = goes-on (length m.body) n low e in
      let step : (n + 1) * piece ≡ n * piece + piece = omega arith in (
        whole-early m ms (n + 1) more ∙ sym (whole-early m ms n low),
        begun-early m ms (n + 1) more ∙ ap (λ k. take k m.body) step ∙ sym (take-on (n * piece) piece m.body) ∙ ap (λ l. l ++ take piece (drop (n * piece) m.body)) (sym (begun-early m ms n low)),
      )

  early-next : ComesNext (m ∷ ms) n (fragment_at m (n * piece))
  early-next = record {
    there = ap (slice_get (m ∷ ms)) (whole-early m ms n low);
    begins = starts (length m.body) n low;
    before = early-before;
    long = early-part;
    last = early-last;
    earlier = early-goes_on;
  }

-- one in a later message
module _ (m : Message) (ms : List Message) (n : ℕ) (past : piece_count (length m.body) ≤ n) (f : Fragment) (k : ComesNext ms (n - piece_count (length m.body)) f) where
  late-step : n + 1 - piece_count (length m.body) ≡ n - piece_count (length m.body) + 1
  late-step = omega (arith, past)

  late-more : piece_count (length m.body) ≤ n + 1
  late-more = omega (arith, past)

  late-last : is_last (length f.message.body) f.offset ≡ true → (whole_below (m ∷ ms) (n + 1) ≡ whole_below (m ∷ ms) n + 1) × ((begun_below (m ∷ ms) (n + 1) ≡ []) × (begun_below (m ∷ ms) n ++ f.part ≡ f.message.body))
  late-last e =
      let r = k.last e in
      let a : whole_below (m ∷ ms) (n + 1) ≡ 1 + whole_below ms (n + 1 - piece_count (length m.body)) = whole-late m ms (n + 1) late-more in
      let b : whole_below ms (n + 1 - piece_count (length m.body)) ≡ whole_below ms (n - piece_count (length m.body)) + 1 = ap (whole_below ms) late-step ∙ r.0 in
      let c : whole_below (m ∷ ms) n ≡ 1 + whole_below ms (n - piece_count (length m.body)) = whole-late m ms n past in
      (omega (arith, a, b, c), (begun-late m ms (n + 1) late-more ∙ ap (begun_below ms) late-step ∙ r.1.0, ap (λ l. l ++ f.part) (begun-late m ms n past) ∙ r.1.1))

  late-goes_on : is_last (length f.message.body) f.offset ≡ false → (whole_below (m ∷ ms) (n + 1) ≡ whole_below (m ∷ ms) n) × (begun_below (m ∷ ms) (n + 1) ≡ begun_below (m ∷ ms) n ++ f.part)
  late-goes_on e =
      let r = k.earlier e in
      let a : whole_below (m ∷ ms) (n + 1) ≡ 1 + whole_below ms (n + 1 - piece_count (length m.body)) = whole-late m ms (n + 1) late-more in
      let b : whole_below ms (n + 1 - piece_count (length m.body)) ≡ whole_below ms (n - piece_count (length m.body)) = ap (whole_below ms) late-step ∙ r.0 in
      let c : whole_below (m ∷ ms) n ≡ 1 + whole_below ms (n - piece_count (length m.body)) = whole-late m ms n past in
      (omega (arith, a, b, c), begun-late m ms (n + 1) late-more ∙ ap (begun_below ms) late-step ∙ r.1 ∙ ap (λ l. l ++ f.part) (sym (begun-late m ms n past)))

  late-next : ComesNext (m ∷ ms) n f
  late-next = record {
    there = ap (slice_get (m ∷ ms)) (whole-late m ms n past ∙ (let e : 1 + whole_below ms (n - piece_count (length m.body)) ≡ suc (whole_below ms (n - piece_count (length m.body))) = omega arith in e)) ∙ k.there;
    begins = k.begins;
    before = ap length (begun-late m ms n past) ∙ k.before;
    long = k.long;
    last = late-last;
    earlier = late-goes_on;
  }

pub next-fragment : NextFragment
next-fragment [] n f e = cc
next-fragment (m ∷ ms) n f e = by (nat_lt n (piece_count (length m.body))) refl (next-fragment ms (n - piece_count (length m.body)) f)
  where
    by : (b : Bool) → nat_lt n (piece_count (length m.body)) ≡ b → (slice_get (fragments ms) (n - piece_count (length m.body)) ≡ Some f → ComesNext ms (n - piece_count (length m.body)) f) → ComesNext (m ∷ ms) n f
    by true t rest =
        let low : n < piece_count (length m.body) = grind (arith, nat_tests) in
        subst (ComesNext (m ∷ ms) n) (same_Some (fragment_at m (n * piece)) f (sym (get-early m ms n low) ∙ e)) (early-next m ms n low)
    by false t rest =
        let past : piece_count (length m.body) ≤ n = grind (arith, nat_tests) in
        late-next m ms n past f (rest (sym (get-late m ms n past) ∙ e))

-- messages more leave what is below a number that all fragments reach
pub more-below : MoreIsSent
more-below [] ys n low =
    let none : n ≡ 0 = omega (arith, low) in
    let below = none-below ys in
    (ap (whole_below ys) none ∙ below.0, ap (begun_below ys) none ∙ below.1)
more-below (m ∷ xs) ys n low = by (nat_lt n (piece_count (length m.body))) refl (more-below xs ys (n - piece_count (length m.body)))
  where
    by : (b : Bool) → nat_lt n (piece_count (length m.body)) ≡ b → (n - piece_count (length m.body) ≤ length (fragments xs) → (whole_below (xs ++ ys) (n - piece_count (length m.body)) ≡ whole_below xs (n - piece_count (length m.body))) × (begun_below (xs ++ ys) (n - piece_count (length m.body)) ≡ begun_below xs (n - piece_count (length m.body)))) → (whole_below (m ∷ (xs ++ ys)) n ≡ whole_below (m ∷ xs) n) × (begun_below (m ∷ (xs ++ ys)) n ≡ begun_below (m ∷ xs) n)
    by true t rest =
        let early : n < piece_count (length m.body) = grind (arith, nat_tests) in
        (whole-early m (xs ++ ys) n early ∙ sym (whole-early m xs n early), begun-early m (xs ++ ys) n early ∙ sym (begun-early m xs n early))
    by false t rest =
        let past : piece_count (length m.body) ≤ n = grind (arith, nat_tests) in
        let long = length-fragments m xs in
        let r = rest (omega (arith, long, low, past)) in
        (whole-late m (xs ++ ys) n past ∙ ap (λ k. 1 + k) r.0 ∙ sym (whole-late m xs n past), begun-late m (xs ++ ys) n past ∙ r.1 ∙ sym (begun-late m xs n past))

-- all messages lie wholly below the number after their last fragment
pub all-below : AllBelowLast
all-below [] = refl
all-below (m ∷ ms) =
    let long = length-fragments m ms in
    let past : piece_count (length m.body) ≤ length (fragments (m ∷ ms)) = omega (arith, long) in
    let rest : length (fragments (m ∷ ms)) - piece_count (length m.body) ≡ length (fragments ms) = omega (arith, long) in
    let r = all-below ms in
    let a : whole_below ms (length (fragments (m ∷ ms)) - piece_count (length m.body)) ≡ length ms = ap (whole_below ms) rest ∙ r in
    let b : whole_below (m ∷ ms) (length (fragments (m ∷ ms))) ≡ 1 + whole_below ms (length (fragments (m ∷ ms)) - piece_count (length m.body)) = whole-late m ms (length (fragments (m ∷ ms))) past in
    omega (arith, a, b)

-- more lies below a greater number
pub below-up : (ms : List Message) (n k : ℕ) → n ≤ k → whole_below ms n ≤ whole_below ms k
below-up [] n k low = omega arith
below-up (m ∷ ms) n k low = by (nat_le (piece_count (length m.body)) n) (nat_le (piece_count (length m.body)) k) refl refl (below-up ms (n - piece_count (length m.body)) (k - piece_count (length m.body)))
  where
    by : (a b : Bool) → nat_le (piece_count (length m.body)) n ≡ a → nat_le (piece_count (length m.body)) k ≡ b
        → (n - piece_count (length m.body) ≤ k - piece_count (length m.body) → whole_below ms (n - piece_count (length m.body)) ≤ whole_below ms (k - piece_count (length m.body)))
        → (if a then 1 + whole_below ms (n - piece_count (length m.body)) else 0) ≤ (if b then 1 + whole_below ms (k - piece_count (length m.body)) else 0)
    by true true e f rest = let more = rest (omega (arith, low)) in omega (arith, more)
    by true false e f rest =
        let here : piece_count (length m.body) ≤ n = grind (arith, nat_tests) in
        let past : k + 1 ≤ piece_count (length m.body) = grind (arith, nat_tests) in
        absurd (omega (arith, here, past, low))
    by false b e f rest = omega arith

-- and no more than there are
pub below-few : (ms : List Message) (n : ℕ) → whole_below ms n ≤ length ms
below-few [] n = omega arith
below-few (m ∷ ms) n = by (nat_le (piece_count (length m.body)) n) (below-few ms (n - piece_count (length m.body)))
  where
    by : (a : Bool) → whole_below ms (n - piece_count (length m.body)) ≤ length ms → (if a then 1 + whole_below ms (n - piece_count (length m.body)) else 0) ≤ length (m ∷ ms)
    by true rest = omega (arith, rest)
    by false rest = omega arith

-- Where the message of a number's fragment begins: after the fragments of those wholly below, and the fragment so many pieces from there.
pub record IsHolder (ms : List Message) (k : ℕ) (f : Fragment) : Type 0 where
  pub low : length (fragments (take (whole_below ms k) ms)) ≤ k
  pub offset : f.offset ≡ (k - length (fragments (take (whole_below ms k) ms))) * piece

pub holder : (ms : List Message) (k : ℕ) (f : Fragment) → slice_get (fragments ms) k ≡ Some f → IsHolder ms k f
holder [] k f e = cc
holder (m ∷ ms) k f e = by (nat_lt k (piece_count (length m.body))) refl (holder ms (k - piece_count (length m.body)) f)
  where
    by : (b : Bool) → nat_lt k (piece_count (length m.body)) ≡ b → (slice_get (fragments ms) (k - piece_count (length m.body)) ≡ Some f → IsHolder ms (k - piece_count (length m.body)) f) → IsHolder (m ∷ ms) k f
    by true t rest =
        let low : k < piece_count (length m.body) = grind (arith, nat_tests) in
        let none : length (fragments (take (whole_below (m ∷ ms) k) (m ∷ ms))) ≡ 0 = ap (λ j. length (fragments (take j (m ∷ ms)))) (whole-early m ms k low) in
        let same : fragment_at m (k * piece) ≡ f = same_Some (fragment_at m (k * piece)) f (sym (get-early m ms k low) ∙ e) in
        let offset : k * piece ≡ f.offset = ap (λ x. x.offset) same in
        let from : (k - length (fragments (take (whole_below (m ∷ ms) k) (m ∷ ms)))) * piece ≡ (k - 0) * piece = ap (λ j. (k - j) * piece) none in
        let all : (k - 0) * piece ≡ k * piece = omega arith in
        record { low = omega (arith, none); offset = sym offset ∙ sym all ∙ sym from }
    by false t rest =
        let past : piece_count (length m.body) ≤ k = grind (arith, nat_tests) in
        let r = rest (sym (get-late m ms k past) ∙ e) in
        let below : ℕ = whole_below ms (k - piece_count (length m.body)) in
        let more : whole_below (m ∷ ms) k ≡ suc below = whole-late m ms k past ∙ (let x : 1 + below ≡ suc below = omega arith in x) in
        let many : length (fragments (take (whole_below (m ∷ ms) k) (m ∷ ms))) ≡ piece_count (length m.body) + length (fragments (take below ms)) = ap (λ j. length (fragments (take j (m ∷ ms)))) more ∙ length-fragments m (take below ms) in
        let low = r.low in
        let step : k - length (fragments (take (whole_below (m ∷ ms) k) (m ∷ ms))) ≡ k - piece_count (length m.body) - length (fragments (take below ms)) = omega (arith, many) in
        record { low = omega (arith, many, low, past); offset = r.offset ∙ ap (λ j. j * piece) (sym step) }

-- an offset is within its message
pub offset-within : (total offset : ℕ) → is_offset total offset ≡ true → offset ≤ total
offset-within total offset e = by (nat_eq total 0) (both (nat_eq (offset % piece) 0) (if nat_eq total 0 then nat_eq offset 0 else nat_lt offset total) e).1
  where
    by : (b : Bool) → (if b then nat_eq offset 0 else nat_lt offset total) ≡ true → offset ≤ total
    by true d = grind (arith, nat_tests)
    by false d = grind (arith, nat_tests)

-- a fragment's bytes are those of its message from its offset on, up to a piece
pub part-of : (ms : List Message) (n : ℕ) (f : Fragment) → slice_get (fragments ms) n ≡ Some f → f.part ≡ take piece (drop f.offset f.message.body)
part-of [] n f e = cc
part-of (m ∷ ms) n f e = by (nat_lt n (piece_count (length m.body))) refl (part-of ms (n - piece_count (length m.body)) f)
  where
    by : (b : Bool) → nat_lt n (piece_count (length m.body)) ≡ b
        → (slice_get (fragments ms) (n - piece_count (length m.body)) ≡ Some f → f.part ≡ take piece (drop f.offset f.message.body)) → f.part ≡ take piece (drop f.offset f.message.body)
    by true t rest =
        let low : n < piece_count (length m.body) = grind (arith, nat_tests) in
        let same : fragment_at m (n * piece) ≡ f = same_Some (fragment_at m (n * piece)) f (sym (get-early m ms n low) ∙ e) in
        subst (λ x. x.part ≡ take piece (drop x.offset x.message.body)) same refl
    by false t rest =
        let past : piece_count (length m.body) ≤ n = grind (arith, nat_tests) in
        rest (sym (get-late m ms n past) ∙ e)

-- as many of them as there are
pub take-there : {A : Type 0} (k : ℕ) (xs : List A) → take (min k (length xs)) xs ≡ take k xs
take-there zero xs = let e : min 0 (length xs) ≡ 0 = omega arith in ap (λ n. take n xs) e
take-there (suc k) [] = let e : min (suc k) 0 ≡ 0 = omega arith in ap (λ n. take n []) e
take-there (suc k) (x ∷ xs) = let e : min (suc k) (suc (length xs)) ≡ suc (min k (length xs)) = omega arith in ap (λ n. take n (x ∷ xs)) e ∙ ap (λ l. x ∷ l) (take-there k xs)
