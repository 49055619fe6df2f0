-- That commands over a fabric have a run, and one: after every run each command is one deed.
use Rattle.std.specs.Prelude.{◌≡◌, List}
use Rattle.std.specs.List.{AllByRecursion}
use Rattle.net_defs.specs.Network.{Network, IsFabric}
use Rattle.run_defs.specs.declared.command.Command.{Command}
use Rattle.run_defs.specs.Deed.{Deed}
use Rattle.run_defs.specs.Output.{Piece}
use Rattle.run_defs.specs.Session.{SessionState}
use Rattle.run_defs.specs.Run.{IsDeed, IsRun}
use Rattle.run_laws.specs.Acts.{IsActOf}

-- What a command is in a session: this deed and no other.
pub record HasDone (s : SessionState) (c : Command) : Type 0 where
  pub deed : Deed
  pub is : IsDeed s c deed
  pub one : (other : Deed) → IsDeed s c other → other ≡ deed

-- after every run each command is one deed
abbrev pub EachCommandIsDone : Type 0
EachCommandIsDone =
    (n : Network) (commands : List Command) (out : List Piece) (s : SessionState) (c : Command)
    → IsFabric n → AllByRecursion (IsActOf n) commands → IsActOf n c → IsRun n commands out s → HasDone s c

-- Commands over a fabric have one run, and no other: they print these pieces, and leave this session.
pub record HasRun (n : Network) (commands : List Command) : Type 0 where
  pub out : List Piece
  pub last : SessionState
  pub run : IsRun n commands out last
  pub one : (other : List Piece) (end : SessionState) → IsRun n commands other end → (other ≡ out) × (end ≡ last)

-- so commands over a fabric have their run
abbrev pub RunExists : Type 0
RunExists = (n : Network) (commands : List Command) → IsFabric n → AllByRecursion (IsActOf n) commands
    → HasRun n commands
