-- Hosts are gone through for the first that hasn't given up an epoch, and for any that has.
use Rattle.std.proofs.Common.{◌≡◌, ◌<◌, ◌≤◌, ◌+◌, ◌-◌, ℕ, suc, Bool, true, false, ◌||◌, Some, None, sym, ap, ◌∙◌, arith, if◌then◌else◌}
use Rattle.std.specs.Prelude.{find}
use Rattle.std.specs.List.{list_any, range_with_len}

-- No host before this one passes the test, of so many: those from here on are left.
pub record Finding (test : ℕ → Bool) (count from : ℕ) : Type 0 where
  pub first : find test (range_with_len from (count - from)) ≡ find test (range_with_len 0 count)
  pub any : list_any test (range_with_len from (count - from)) ≡ list_any test (range_with_len 0 count)

pub finding-new : (test : ℕ → Bool) (count : ℕ) → Finding test count 0
finding-new test count =
    let n : count - 0 ≡ count = omega arith in
    record { first = ap (λ k. find test (range_with_len 0 k)) n; any = ap (λ k. list_any test (range_with_len 0 k)) n }

-- the host is the first of those that are left
left : (count from : ℕ) → from < count → count - from ≡ suc (count - (from + 1))
left count from low = omega (arith, low)

pub finding-on : (test : ℕ → Bool) (count from : ℕ) → Finding test count from → from < count → test from ≡ false → Finding test count (from + 1)
finding-on test count from f low fails =
    let n : count - from ≡ suc (count - (from + 1)) = left count from low in
    record {
      first = sym (ap (λ k. find test (range_with_len from k)) n ∙ ap (λ b. if b then Some from else find test (range_with_len (from + 1) (count - (from + 1)))) fails) ∙ f.first;
      any = sym (ap (λ k. list_any test (range_with_len from k)) n ∙ ap (λ b. b || list_any test (range_with_len (from + 1) (count - (from + 1)))) fails) ∙ f.any;
    }

pub first-here : (test : ℕ → Bool) (count from : ℕ) → Finding test count from → from < count → test from ≡ true → Some from ≡ find test (range_with_len 0 count)
first-here test count from f low holds =
    let n : count - from ≡ suc (count - (from + 1)) = left count from low in
    sym (ap (λ k. find test (range_with_len from k)) n ∙ ap (λ b. if b then Some from else find test (range_with_len (from + 1) (count - (from + 1)))) holds) ∙ f.first

pub any-here : (test : ℕ → Bool) (count from : ℕ) → Finding test count from → from < count → test from ≡ true → true ≡ list_any test (range_with_len 0 count)
any-here test count from f low holds =
    let n : count - from ≡ suc (count - (from + 1)) = left count from low in
    sym (ap (λ k. list_any test (range_with_len from k)) n ∙ ap (λ b. b || list_any test (range_with_len (from + 1) (count - (from + 1)))) holds) ∙ f.any

pub none-found : (test : ℕ → Bool) (count from : ℕ) → Finding test count from → count ≤ from → None ≡ find test (range_with_len 0 count)
none-found test count from f past = let n : count - from ≡ 0 = omega (arith, past) in sym (ap (λ k. find test (range_with_len from k)) n) ∙ f.first

pub none-any : (test : ℕ → Bool) (count from : ℕ) → Finding test count from → count ≤ from → false ≡ list_any test (range_with_len 0 count)
none-any test count from f past = let n : count - from ≡ 0 = omega (arith, past) in sym (ap (λ k. list_any test (range_with_len from k)) n) ∙ f.any
