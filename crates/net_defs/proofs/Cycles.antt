-- What rises along every step has no cycle.
use Rattle.std.proofs.Common.{◌<◌, ℕ, arith}
use Rattle.net_defs.specs.Dependencies.{Chain, HasNoCycle}
use Rattle.net_defs.specs.Dependencies.Chain.{one, more}

pub chain-rises : {C : Type 0} (Before : C → C → Type 0) (rank : C → ℕ) (c d : C) → ((a b : C) → Before a b → rank a < rank b) → Chain Before c d → rank c < rank d
chain-rises Before rank c d rises (one b) = rises c d b
chain-rises Before rank c d rises (more {d = m} b rest) =
    let first = rises c m b in
    let others = chain-rises Before rank m d rises rest in
    omega arith

-- numbers that rise along every step leave no cycle
pub no_cycle-rising : {C : Type 0} (Before : C → C → Type 0) (rank : C → ℕ) → ((a b : C) → Before a b → rank a < rank b) → HasNoCycle Before
no_cycle-rising Before rank rises c around = let above = chain-rises Before rank c c rises around in omega arith
