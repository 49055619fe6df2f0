-- What stands in front of bytes.
use Rattle.std.proofs.Common.{◌≡◌, ◌<◌, ◌≤◌, ◌^◌, ℕ, zero, suc, Bool, true, false, ◌&&◌, nat_le, List, [], ◌∷◌, ◌++◌, length, take, drop, get_or, Option, Some, None, option_map, ◌⊎◌, inl, inr, refl, sym, ap, ◌∙◌, subst, append_assoc, arith, if◌then◌else◌}
use Rattle.std.specs.Prelude.{option_and_then}
use Rattle.std.specs.Int.{Width, w16, w32, w64, to_be_bytes, from_be_bytes}
use Rattle.std.proofs.lemmas.Bool.Decides.{nat_tests}
use Rattle.std.proofs.lemmas.Option.{same_Some}
use Rattle.std.proofs.lemmas.List.{take-append-drop, length-take-le, length-append, take_at, drop_at}
use Rattle.std.proofs.lemmas.Nat.{be_bytes_2, be_bytes_4, be_bytes_8, from_be_bytes-to_be_bytes_2, from_be_bytes-to_be_bytes_4, from_be_bytes-to_be_bytes_8}
use Rattle.world_defs.specs.Mapping.{number_front}
use Rattle.gm_defs.specs.Laws.{AreBytes}
use Rattle.gm_defs.proofs.Choices.{if-some}

-- bytes after others, and in front of others, are bytes
pub bytes_behind : (xs ys : List ℕ) → AreBytes (xs ++ ys) → AreBytes ys
bytes_behind [] ys h = h
bytes_behind (x ∷ xs) ys h = bytes_behind xs ys (λ i. h (suc i))

pub bytes_in_front : (n : ℕ) (bytes : List ℕ) → AreBytes bytes → AreBytes (take n bytes)
bytes_in_front zero bytes h i = omega arith
bytes_in_front (suc n) [] h i = omega arith
bytes_in_front (suc n) (b ∷ bytes) h zero = h zero
bytes_in_front (suc n) (b ∷ bytes) h (suc i) = bytes_in_front n bytes (λ k. h (suc k)) i

-- What was written stands in front of bytes, and bytes are after it.
pub record IsFront (written rest bytes : List ℕ) : Type 0 where
  pub whole : bytes ≡ written ++ rest
  pub behind : AreBytes rest

pub front : (written rest bytes : List ℕ) → AreBytes bytes → bytes ≡ written ++ rest → IsFront written rest bytes
front written rest bytes h e = record { whole = e; behind = bytes_behind written rest (subst AreBytes e h) }

-- one after the other
pub front-front : (xs ys mid rest bytes : List ℕ) → IsFront xs mid bytes → IsFront ys rest mid → IsFront (xs ++ ys) rest bytes
front-front xs ys mid rest bytes f g = record {
  whole = f.whole ∙ ap (λ l. xs ++ l) g.whole ∙ sym (append_assoc xs ys rest);
  behind = g.behind;
}

-- the number in front of bytes, by its width
front_of : (w : Width) (count : ℕ) (bytes : List ℕ) (n : ℕ) (rest : List ℕ)
    → ((bs : List ℕ) (n : ℕ) → length bs ≡ count → ((i : ℕ) → get_or bs i 0 < 256) → n ≡ from_be_bytes w bs → to_be_bytes w n ≡ bs)
    → AreBytes bytes → number_front w count bytes ≡ Some (n, rest) → IsFront (to_be_bytes w n) rest bytes
front_of w count bytes n rest back h e =
    let p = if-some (nat_le count (length bytes)) (Some (from_be_bytes w (take count bytes), drop count bytes)) (n, rest) e in
    let room : count ≤ length bytes = let t = p.0 in grind (arith, nat_tests) in
    let same : (from_be_bytes w (take count bytes), drop count bytes) ≡ (n, rest) = same_Some (from_be_bytes w (take count bytes), drop count bytes) (n, rest) p.1 in
    let number : n ≡ from_be_bytes w (take count bytes) = sym (ap (λ q. q.0) same) in
    let behind : drop count bytes ≡ rest = ap (λ q. q.1) same in
    let written : to_be_bytes w n ≡ take count bytes = back (take count bytes) n (length-take-le count bytes room) (bytes_in_front count bytes h) number in
    front (to_be_bytes w n) rest bytes h (sym (take-append-drop count bytes) ∙ ap (λ l. l ++ drop count bytes) (sym written) ∙ ap (λ l. to_be_bytes w n ++ l) behind)

pub front-16 : (bytes : List ℕ) (n : ℕ) (rest : List ℕ) → AreBytes bytes → number_front w16 2 bytes ≡ Some (n, rest) → IsFront (to_be_bytes w16 n) rest bytes
front-16 bytes n rest h e = front_of w16 2 bytes n rest be_bytes_2 h e

pub front-32 : (bytes : List ℕ) (n : ℕ) (rest : List ℕ) → AreBytes bytes → number_front w32 4 bytes ≡ Some (n, rest) → IsFront (to_be_bytes w32 n) rest bytes
front-32 bytes n rest h e = front_of w32 4 bytes n rest be_bytes_4 h e

pub front-64 : (bytes : List ℕ) (n : ℕ) (rest : List ℕ) → AreBytes bytes → number_front w64 8 bytes ≡ Some (n, rest) → IsFront (to_be_bytes w64 n) rest bytes
front-64 bytes n rest h e = front_of w64 8 bytes n rest be_bytes_8 h e

-- a number that was written is read
read_of : (w : Width) (count : ℕ) (bs : List ℕ) (n : ℕ) (rest : List ℕ) → length bs ≡ count → from_be_bytes w bs ≡ n → number_front w count (bs ++ rest) ≡ Some (n, rest)
read_of w count bs n rest l e =
    let t : nat_le count (length (bs ++ rest)) ≡ true = let all = length-append bs rest in grind (arith, nat_tests) in
    let read : number_front w count (bs ++ rest) ≡ Some (from_be_bytes w bs, rest) =
    λ i. if t i then Some (from_be_bytes w (take_at bs rest count l i), drop_at bs rest count l i) else None in
    read ∙ ap (λ m. Some (m, rest)) e

pub read-16 : (n : ℕ) (rest : List ℕ) → n < 2 ^ 16 → number_front w16 2 (to_be_bytes w16 n ++ rest) ≡ Some (n, rest)
read-16 n rest fits = read_of w16 2 (to_be_bytes w16 n) n rest refl (from_be_bytes-to_be_bytes_2 n fits)

pub read-32 : (n : ℕ) (rest : List ℕ) → n < 2 ^ 32 → number_front w32 4 (to_be_bytes w32 n ++ rest) ≡ Some (n, rest)
read-32 n rest fits = read_of w32 4 (to_be_bytes w32 n) n rest refl (from_be_bytes-to_be_bytes_4 n fits)

pub read-64 : (n : ℕ) (rest : List ℕ) → n < 2 ^ 64 → number_front w64 8 (to_be_bytes w64 n ++ rest) ≡ Some (n, rest)
read-64 n rest fits = read_of w64 8 (to_be_bytes w64 n) n rest refl (from_be_bytes-to_be_bytes_8 n fits)
