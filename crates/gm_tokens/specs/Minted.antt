-- The tokens that a bank mints, and takes back.
use Rattle.std.specs.Prelude.{◌≡◌, ℕ, zero, suc, ◌<◌, List, [], ◌∷◌, ◌++◌, map, length}
use Rattle.std.specs.List.{AllByRecursion}
use Rattle.net_defs.specs.Network.{Apart}
use Rattle.gm_tokens.specs.Token.{Token, token_at}

-- so many tokens of a port, numbered from 0
abbrev pub tokens : ℕ → ℕ → ℕ → List Token
tokens host port zero = []
tokens host port (suc n) = tokens host port n ++ token_at host port n ∷ []

-- the numbers of tokens
abbrev pub numbers : List Token → List ℕ
numbers ts = map (λ t. t.number) ts

-- Tokens are all of those that were minted: each is of this port, no number stands twice, and none is missing.
pub record AreAll (host port count : ℕ) (ts : List Token) : Type 0 where
  pub own : AllByRecursion (λ t. t ≡ token_at host port t.number) ts
  pub below : AllByRecursion (λ n. n < count) (numbers ts)
  pub once : Apart (numbers ts)
  pub none_missing : length ts ≡ count

-- what was minted may be retired
abbrev pub MintedAreAll : Type 0
MintedAreAll = (host port count : ℕ) → AreAll host port count (tokens host port count)
