-- What every run can settle, and what the line of a settle says.
use Rattle.std.specs.Prelude.{◌≡◌, ℕ, ◌+◌, ◌<◌, ◌≤◌, List, ◌∷◌, length}
use Rattle.std.specs.List.{AllByRecursion}
use Rattle.net_defs.specs.Network.{Network, IsFabric}
use Rattle.world_defs.specs.History.{fabric_at}
use Rattle.world_defs.specs.World.{last_count}
use Rattle.world_defs.specs.Settle.{unacknowledged_in}
use Rattle.world_defs.specs.Settled.{IsSettled}
use Rattle.world_defs.specs.Logs as log
use Rattle.run_defs.specs.declared.command.Command.{Command}
use Rattle.run_defs.specs.declared.command.Command.TheVariants.{Settle}
use Rattle.run_defs.specs.declared.line.Line.TheVariants.{Settle as SettleLine}
use Rattle.run_defs.specs.Output.{Piece, OneLine}
use Rattle.run_defs.specs.Session.{SessionState}
use Rattle.run_defs.specs.Run.{Does, IsRun}
use Rattle.run_laws.specs.Acts.{IsActOf}
use Rattle.lawful_laws.specs.Resets.{ClearsBeginLawful}
use Rattle.message_laws.specs.Got.{IsAllGot}
use Rattle.settle_laws.specs.Premises.{CanSettle}

-- after every run a settle can be made over the run's fabric, which the cables made at first: acts that may happen lead
-- there
abbrev pub RunCanSettle : Type 0
RunCanSettle =
    (n : Network) (commands : List Command) (out : List Piece) (s : SessionState) → IsFabric n
    → AllByRecursion (IsActOf n) commands
    → IsRun n commands out s → (fabric_at s.world.links.cables 0 ≡ n) × CanSettle s.world

-- What the line `settle rounds R resets N unacked U` says: there were R rounds, at least one and at most one more
-- than the unacknowledged fragments and planned faults before; N is 0 unless the traffic wasn't lawful as some clear
-- of the settle began; U fragments aren't acknowledged after it; where injections are left then, the world is
-- settled; and where U is 0, all that was sent is got, for each sender, receiver and priority.
pub record IsSettledLine (s next : SessionState) (rounds resets unacked : ℕ) : Type 0 where
  pub after : next.world ≡ (log.settle s.world).world
  pub at_least : 1 ≤ rounds
  pub at_most : rounds ≤ unacknowledged_in s.world + length s.world.plan + 1
  pub lawful : ClearsBeginLawful s.world (log.settle s.world).events → resets ≡ 0
  pub left : unacked ≡ unacknowledged_in next.world
  pub settled : next.world.injected < last_count → IsSettled next.world
  pub got : unacked ≡ 0 → IsAllGot next.world

-- every such line after a run says so
abbrev pub SettledLineIsTrue : Type 0
SettledLineIsTrue =
    (n : Network) (commands : List Command) (out rest : List Piece) (s next : SessionState)
    (rounds resets unacked : ℕ) → IsFabric n → AllByRecursion (IsActOf n) commands
    → IsRun n commands out s → Does s Settle (OneLine (SettleLine rounds resets unacked) ∷ rest) next
    → IsSettledLine s next rounds resets unacked
