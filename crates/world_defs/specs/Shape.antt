-- What makes links those of their cables.
use Rattle.std.specs.Prelude.{◌≡◌, ℕ, ◌<◌, ◌^◌, List, [], ◌∷◌, length}
use Rattle.std.specs.List.{AllByRecursion}
use Rattle.world_defs.specs.Crossed.{life_channels}
use Rattle.world_defs.specs.Links.{Caught, LinkState}

-- serials rise
abbrev pub Rise : List (ℕ × Caught) → Type 0
Rise [] = Unit {0}
Rise (e ∷ es) = AllByRecursion (λ d. e.0 < d.0) es × Rise es

-- The channels are those of the cables, and limbo has rising serials below the next, and channels that exist.
pub record IsLinks (s : LinkState) : Type 0 where
  pub slots : length s.channels ≡ life_channels s.cables
  pub rising : Rise s.limbo
  pub below_next : AllByRecursion (λ e. e.0 < s.next_serial) s.limbo
  pub from_channels : AllByRecursion (λ e. e.1.channel < length s.channels) s.limbo
  pub serials : s.next_serial < 2 ^ 64
