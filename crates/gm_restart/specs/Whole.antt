-- What a contract sees of both ends and the medium.
use Rattle.std.specs.Prelude.{◌≡◌, ℕ, List, [], ◌∷◌, ◌++◌, length, Option, Some, None}
use Rattle.duo_defs.specs.declared.packet.Packet.{Packet}
use Rattle.duo_defs.specs.declared.effect.DuoEffect.{DuoEffect}
use Rattle.duo_defs.specs.declared.effect.DuoEffect.TheVariants.{Idle, Emitted}
use Rattle.duo_defs.specs.Duo.{EndState, DuoState, end_at}
use Rattle.duo_defs.specs.Theorem.{IsWaiting}
use Rattle.gm_restart.specs.End.{HostEnd}

-- both ends and the medium, by their parts
abbrev pub duo_of : HostEnd → HostEnd → List Packet → DuoState
duo_of first second medium = record { first = first.state; second = second.state; medium = medium }

-- the first of both ends is 0, and the second is 1
pub record AreBoth (first second : HostEnd) : Type 0 where
  pub zero : first.host ≡ 0
  pub one : second.host ≡ 1

-- an emission of an end: what it does, the medium after it, and the end
abbrev pub emitted : List Packet → EndState → Option (Packet × EndState) → DuoEffect × (List Packet × EndState)
emitted ps e None = (Idle, (ps, e))
emitted ps e (Some o) = (Emitted (length ps), (ps ++ o.0 ∷ [], o.1))

-- the sends that wait at each end stand in its port's queue
abbrev pub BothAreWaiting : DuoState → Type 0
BothAreWaiting d = (x : ℕ) → IsWaiting (end_at d x).port (end_at d x).present.lane
