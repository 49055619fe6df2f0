-- What a command depends on, of the two hosts that restart, and what they come to in a run.
use Rattle.std.specs.Prelude.{◌≡◌, ℕ, [], ◌∷◌, List, Option, Some, None}
use Rattle.std.specs.List.{AllByRecursion}
use Rattle.net_defs.specs.Network.{Network}
use Rattle.world_defs.specs.Sound.{IsPrefix}
use Rattle.duo_defs.specs.declared.event.DuoEvent.{DuoEvent}
use Rattle.duo_defs.specs.declared.event.DuoEvent.TheVariants.{Poll}
use Rattle.duo_defs.specs.declared.effect.DuoEffect.TheVariants.{Sent, Unsure}
use Rattle.duo_defs.specs.Duo.{DuoState, new_duo, end_at, sent, got}
use Rattle.duo_defs.specs.Theorem.{IsReached, HasFour, IsSentRight, IsUnsureRight}
use Rattle.run_defs.specs.declared.command.Command.{Command}
use Rattle.run_defs.specs.declared.command.Command.TheVariants.{Duo}
use Rattle.run_defs.specs.declared.line.Line.TheVariants.{Duo as DuoLine}
use Rattle.run_defs.specs.Duos.{begun, beside, IsOther}
use Rattle.run_defs.specs.Output.{Piece, OneLine}
use Rattle.run_defs.specs.Run.{Does, IsRun}
use Rattle.run_defs.specs.Session.{SessionState}
use Rattle.fab_script.specs.Ranges.{IsCommandOf}

-- A line of the two hosts depends on them alone: sessions that hold the same print the same, and hold the same then.
abbrev pub DuoLinesDependOnTheDuo : Type 0
DuoLinesDependOnTheDuo =
    (s t left next : SessionState) (e : DuoEvent) (out printed : List Piece)
    → s.duo ≡ t.duo → Does s (Duo e) out left → Does t (Duo e) printed next → (out ≡ printed) × (left.duo ≡ next.duo)

-- It changes nothing else.
abbrev pub DuoLinesKeepTheRest : Type 0
DuoLinesKeepTheRest = (s next : SessionState) (e : DuoEvent) (out : List Piece)
    → Does s (Duo e) out next → next ≡ beside s next.duo

-- Every other command keeps the two hosts, and does the same with any other two in their place.
abbrev pub OthersKeepTheDuo : Type 0
OthersKeepTheDuo =
    (s next : SessionState) (c : Command) (out : List Piece) → IsOther c → Does s c out next
    → (next.duo ≡ s.duo) × ((d : Option DuoState) → Does (beside s d) c out (beside next d))

-- Events lead to this moment from two new hosts of incarnation 1.
pub record IsReachedFromNew (d : DuoState) : Type 0 where
  pub reached : IsReached d
  pub first : reached.inc ≡ 1

-- Memory ran out for a command: the two hosts are as they were; or new, where it is their first; or as it leaves them.
pub data IsDuoLeft (s : SessionState) (c : Command) (d : Option DuoState) : Type 0 where
  kept : d ≡ s.duo → IsDuoLeft s c d
  begins : (e : DuoEvent) → c ≡ Duo e → s.duo ≡ None → d ≡ Some (new_duo 1) → IsDuoLeft s c d
  stepped : (e : DuoEvent) (out : List Piece) (next : SessionState) → c ≡ Duo e → Does s c out next → d ≡ next.duo
      → IsDuoLeft s c d

-- after every run of commands over a fabric the two hosts, once they have begun, are reached from new ones
abbrev pub DuosAreReached : Type 0
DuosAreReached =
    (n : Network) (commands : List Command) (out : List Piece) (last : SessionState) (d : DuoState)
    → AllByRecursion (IsCommandOf n) commands → IsRun n commands out last → last.duo ≡ Some d → IsReachedFromNew d

-- and where memory runs out for the next command, so are those that are left
abbrev pub LeftDuosAreReached : Type 0
LeftDuosAreReached =
    (n : Network) (commands : List Command) (out : List Piece) (s : SessionState) (c : Command) (left : Option DuoState)
    (d : DuoState)
    → AllByRecursion (IsCommandOf n) commands → IsCommandOf n c → IsRun n commands out s → IsDuoLeft s c left
    → left ≡ Some d
    → IsReachedFromNew d

-- so what an incarnation got of another is a prefix of what that one sent it, and each token has one owner
pub record IsDuoSound (d : DuoState) : Type 0 where
  pub in_order : (x i j : ℕ) → IsPrefix (got d x i j) (sent d x i j)
  pub owned : (x : ℕ) → HasFour (end_at d x).port (end_at d x).client

abbrev pub ReachedDuosAreSound : Type 0
ReachedDuosAreSound = (d : DuoState) → IsReachedFromNew d → IsDuoSound d

-- after every run a poll that prints sent, or unsure, is right
abbrev pub DuoPollsAreRight : Type 0
DuoPollsAreRight =
    (n : Network) (commands : List Command) (out : List Piece) (s next : SessionState) (x t : ℕ)
    → AllByRecursion (IsCommandOf n) commands → IsRun n commands out s
    → (Does s (Duo (Poll x)) (OneLine (DuoLine (Sent t)) ∷ []) next → IsSentRight (begun s.duo) x t)
    × (Does s (Duo (Poll x)) (OneLine (DuoLine (Unsure t)) ∷ []) next → IsUnsureRight (begun s.duo) x t)
