-- What an ask may answer, and what the two probers over a fabric are.
use Rattle.std.specs.Prelude.{◌≡◌, ◌⊎◌, ℕ, ℤ, Bool, List, nat_eq, if◌then◌else◌}
use Rattle.std.specs.List.{list_any}
use Rattle.fab_outer.specs.Fault.{Rose, one_more}
use Rattle.net_defs.specs.declared.place.Answer.{Answer}
use Rattle.net_defs.specs.declared.place.Answer.TheVariants.{Nothing}
use Rattle.net_defs.specs.Network.{Network}
use Rattle.net_defs.specs.Route.{answer}

-- The answer is the truth, or it is Nothing and the count of drowned asks rose.
abbrev pub IsTrueOrDrowned : Answer → ℕ → ℕ → Answer → Type 0
IsTrueOrDrowned truth before now a = (a ≡ truth) ⊎ ((a ≡ Nothing) × Rose before now)

-- A prober that looks at a fabric.
pub record OverFabric : Type 0 where
  pub fabric : Network
  pub host : ℕ

-- One whose asks of these numbers drown, with how often it was asked and how many asks drowned.
pub record Drowning : Type 0 where
  pub fabric : Network
  pub host : ℕ
  pub drown : List ℕ
  pub asks : ℕ
  pub drowned : ℕ

-- whether the next ask drowns; the first ask has number 1
abbrev pub drowns_next : Drowning → Bool
drowns_next p = list_any (λ number. nat_eq number (one_more p.asks)) p.drown

-- what the next ask answers
abbrev pub next_answer : Drowning → List ℤ → Answer
next_answer p w = if drowns_next p then Nothing else answer p.fabric p.host w

-- the prober after the next ask
abbrev pub after_ask : Drowning → Drowning
after_ask p = record p { asks = one_more p.asks; drowned = if drowns_next p then one_more p.drowned else p.drowned }
