-- What is minted is all that a bank takes back.
use Rattle.std.proofs.Common.{◌≡◌, ◌≢◌, ℕ, zero, suc, ◌<◌, [], ◌∷◌, ◌++◌, length, refl, sym, subst, arith, length-append}
use Rattle.std.proofs.lemmas.List.{map-append}
use Rattle.std.specs.List.{AllByRecursion}
use Rattle.net_defs.specs.Network.{Apart}
use Rattle.net_defs.proofs.Distinct.{all-weaker, all-push, apart-push}
use Rattle.gm_tokens.specs.Token.{token_at}
use Rattle.gm_tokens.specs.Minted.{tokens, numbers, AreAll}

tokens-own : (host port n : ℕ) → AllByRecursion (λ t. t ≡ token_at host port t.number) (tokens host port n)
tokens-own host port zero = tt
tokens-own host port (suc n) = all-push (λ t. t ≡ token_at host port t.number) (tokens host port n) (token_at host port n) (tokens-own host port n) refl

numbers-more : (host port n : ℕ) → numbers (tokens host port (suc n)) ≡ numbers (tokens host port n) ++ n ∷ []
numbers-more host port n = map-append (λ t. t.number) (tokens host port n) (token_at host port n ∷ [])

numbers-below : (host port n : ℕ) → AllByRecursion (λ k. k < n) (numbers (tokens host port n))
numbers-below host port zero = tt
numbers-below host port (suc n) =
    let P : ℕ → Type 0 = λ k. k < suc n in
    let Q : ℕ → Type 0 = λ k. k < n in
    let last : n < suc n = omega arith in
    subst (AllByRecursion P) (sym (numbers-more host port n)) (all-push P (numbers (tokens host port n)) n (all-weaker Q P _ (λ k h. omega arith) (numbers-below host port n)) last)

numbers-once : (host port n : ℕ) → Apart (numbers (tokens host port n))
numbers-once host port zero = tt
numbers-once host port (suc n) =
    let P : ℕ → Type 0 = λ k. n ≢ k in
    let Q : ℕ → Type 0 = λ k. k < n in
    subst Apart (sym (numbers-more host port n)) (apart-push (numbers (tokens host port n)) n (numbers-once host port n) (all-weaker Q P _ (λ k h e. omega arith) (numbers-below host port n)))

length-tokens : (host port n : ℕ) → length (tokens host port n) ≡ n
length-tokens host port zero = refl
length-tokens host port (suc n) =
    let e = length-append (tokens host port n) (token_at host port n ∷ []) in
    let r = length-tokens host port n in
    omega (arith, e, r)

pub tokens-are_all : (host port n : ℕ) → AreAll host port n (tokens host port n)
tokens-are_all host port n = record {
  own = tokens-own host port n;
  below = numbers-below host port n;
  once = numbers-once host port n;
  none_missing = length-tokens host port n;
}
