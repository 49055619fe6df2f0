-- The first port of each vertex that leads one channel nearer to a host.
use Rattle.std.specs.Prelude.{◌≡◌, ℕ, ◌-◌, ◌<◌, suc, Bool, List, slice_get, slice_index_or, Some}
use Rattle.route_calc.specs.declared.entered.Entered.{Entered}
use Rattle.route_calc.specs.declared.entered.Exit.{Exit}
use Rattle.route_calc.specs.Far.{place_in, far_at}
use Rattle.route_calc.specs.Exits.{exits_at}
use Rattle.route_calc.specs.Turning.{first_exit}

-- a number names the first of a vertex's ports that leads one channel nearer
abbrev pub IsFirst : List (List Exit) → List ℕ → ℕ → Bool → ℕ → Type 0
IsFirst exits far v down k = 0 < far_at far v down → far_at far v down < 255
    → slice_get (exits_at exits v) k ≡ first_exit far (far_at far v down - 1) down (exits_at exits v)

-- Each of the first places, where distances stand, has the number of the first port that leads nearer.
pub record AreFirstBelow (exits : List (List Exit)) (far firsts : List ℕ) (count : ℕ) : Type 0 where
  pub each : (v : ℕ) (down : Bool) → place_in v down < count
      → IsFirst exits far v down (slice_index_or firsts (place_in v down) 0)

-- each place has it
abbrev pub AreFirst : List (List Exit) → List ℕ → List ℕ → Type 0
AreFirst exits far firsts = (v : ℕ) (down : Bool) → IsFirst exits far v down (slice_index_or firsts (place_in v down) 0)

-- By a first port that leads nearer the distance falls by one.
pub record FallByOne (exits : List (List Exit)) (far : List ℕ) : Type 0 where
  pub each : (k : ℕ) (e : Entered) (x : Exit) → far_at far e.v e.down ≡ suc k → suc k < 255
      → first_exit far k e.down (exits_at exits e.v) ≡ Some x → far_at far x.next.v x.next.down ≡ k
