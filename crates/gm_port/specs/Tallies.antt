-- How many tokens of a list have each number.
use Rattle.std.specs.Prelude.{◌≡◌, ℕ, ◌+◌, ◌<◌, List, [], ◌∷◌, length, map, nat_eq, slice_index_or, if◌then◌else◌}
use Rattle.gm_port.specs.declared.event.ProvidedToken.{ProvidedToken}
use Rattle.gm_port.specs.Held.{provided_of}

-- 1 for equal numbers, else 0
abbrev pub one_of : ℕ → ℕ → ℕ
one_of n k = if nat_eq n k then 1 else 0

-- how often a number stands among others
abbrev pub occurs : ℕ → List ℕ → ℕ
occurs n [] = 0
occurs n (k ∷ ks) = one_of n k + occurs n ks

-- the numbers of provided tokens
abbrev pub numbers_of : List ProvidedToken → List ℕ
numbers_of rs = map (λ r. r.token) (map provided_of rs)

-- Each counted number stands so often among the numbers of a list.
pub record AreTallied (counts ks : List ℕ) : Type 0 where
  pub each : (n : ℕ) → n < length counts → slice_index_or counts n 0 ≡ occurs n ks
