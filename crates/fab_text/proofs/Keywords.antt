-- Words of one length, compared byte by byte.
use Rattle.std.proofs.Common.{◌≡◌, ◌≢◌, ◌≤◌, ℕ, List, Bool, true, false, length, take, slice_index, bytes_eq, refl, ap, sym, ◌∙◌, arith}
use Rattle.std.proofs.lemmas.List.{take_all}
use Rattle.std.proofs.lemmas.Slice.Eq.{bytes_eq-Decides}

-- words of one length are the same where all of their bytes are
pub same_bytes : (xs ys : List ℕ) (n : ℕ) → length xs ≡ length ys → length ys ≤ n → take n xs ≡ take n ys → true ≡ bytes_eq xs ys
same_bytes xs ys n e most same =
    let short : length xs ≤ n = omega (arith, e, most) in
    sym ((bytes_eq-Decides xs ys).1 (sym (take_all n xs short) ∙ same ∙ take_all n ys most))

-- words with different bytes at one place are not the same
pub other_byte : (xs ys : List ℕ) (i : ℕ) → slice_index xs i ≢ slice_index ys i → false ≡ bytes_eq xs ys
other_byte xs ys i other = by (bytes_eq xs ys) refl
  where
    by : (b : Bool) → bytes_eq xs ys ≡ b → false ≡ b
    by false e = refl
    by true e = absurd (other (ap (λ l. slice_index l i) ((bytes_eq-Decides xs ys).0 e)))
