-- Paths that are taken one by one, with their return walks.
use Rattle.std.specs.Prelude.{◌≡◌, ◌≢◌, ℕ, ◌<◌, List, [], ◌∷◌, ◌++◌, if◌then◌else◌, Option, Some, None}
use Rattle.net_defs.specs.declared.vertex.End.{End}
use Rattle.net_defs.specs.declared.vertex.Cable.{Cable}
use Rattle.net_defs.specs.Network.{Network, same_end}
use Rattle.net_defs.specs.Route.{host_port}
use Rattle.circ_defs.specs.Ways.{IsStep, Joins, Step, cables_on}
use Rattle.circ_ears.specs.EarLists.{EarNumbers, numbers_of}
use Rattle.circ_ears.specs.TwoWays.{ear_of}

-- the paths so far, the last one first, their cables, and the numbers of each with its return walk
pub record Taking : Type 0 where
  pub paths : List (List Step)
  pub cables : List ℕ
  pub ears : List EarNumbers

-- the mapper's own cable is taken first
abbrev pub first_taking : Step → Taking
first_taking own = record {
  paths = (own ∷ []) ∷ [];
  cables = own.cable ∷ [];
  ears = numbers_of (record { before = []; path = own ∷ []; after = [] }) ∷ [];
}

-- a path more is taken
abbrev pub taken : Taking → List Step → Taking
taken t p = record {
  paths = p ∷ t.paths;
  cables = cables_on p ++ t.cables;
  ears = t.ears ++ numbers_of (ear_of t.paths p) ∷ [];
}

-- the step over a cable out of an end, if the cable ends there
abbrev pub step_from : ℕ → Cable → End → Option Step
step_from k c own = if same_end c.a own then Some (record { cable = k; out = c.a; into = c.b })
    else if same_end c.b own then Some (record { cable = k; out = c.b; into = c.a }) else None

-- the step over the mapper's own cable, from its host
pub record IsOwnStep (n : Network) (host : ℕ) (s : Step) : Type 0 where
  pub step : IsStep n s
  pub out : s.out ≡ host_port host

-- no cable below a number ends at an end
abbrev pub HasNoCableBelow : Network → End → ℕ → Type 0
HasNoCableBelow n own m = (k : ℕ) (d e : End) → k < m → Joins n k d e → d ≢ own
