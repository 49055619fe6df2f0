-- What isn't acknowledged by peers: none of them waits, and a sum of zeros.
use Rattle.std.proofs.Common.{◌≡◌, ◌≤◌, ℕ, List, [], ◌∷◌, map, false, Option, Some, None, true≢false, refl, arith}
use Rattle.std.specs.Prelude.{is_some, IfNone}
use Rattle.world_defs.specs.Node.{NodeState, unacknowledged_to}
use Rattle.world_defs.specs.World.{sum_of}

pub none-in-sum : (f : ℕ → ℕ) (ps : List ℕ) → ((p : ℕ) → f p ≡ 0) → sum_of (map f ps) ≡ 0
none-in-sum f [] none = refl
none-in-sum f (p ∷ ps) none = let here = none p in let rest = none-in-sum f ps none in omega (arith, here, rest)

-- no peer was found from the first on
pub none-waits : (n : NodeState) (r : Option ℕ) → IfNone r ((peer : ℕ) → 0 ≤ peer → unacknowledged_to n peer ≡ 0) → is_some r ≡ false → (peer : ℕ) → unacknowledged_to n peer ≡ 0
none-waits n None none e peer = none peer (omega arith)
none-waits n (Some p) none e peer = absurd (true≢false e)
