-- The acts of a command's deed: they may happen, and each is one action. And the acts of a run: those of its commands.
use Rattle.std.specs.Prelude.{◌≡◌, List, [], ◌∷◌, ◌++◌}
use Rattle.std.specs.List.{AllByRecursion}
use Rattle.net_defs.specs.Network.{Network, IsFabric}
use Rattle.world_defs.specs.World.{WorldState}
use Rattle.world_defs.specs.Sound.{IsSound}
use Rattle.world_defs.specs.Acts.{Act, acted_all, MayActAll, IsReached}
use Rattle.run_defs.specs.declared.command.Command.{Command}
use Rattle.run_defs.specs.Deed.{Deed}
use Rattle.run_defs.specs.Output.{Piece}
use Rattle.run_defs.specs.Session.{SessionState}
use Rattle.run_defs.specs.Run.{IsDeed, Runs, IsRun}
use Rattle.run_defs.specs.Run.Runs.{ended, goes_on}
use Rattle.run_laws.specs.Acts.{IsActOf}
use Rattle.promise_laws.specs.OneAction.{IsOneAction}

-- Acts may happen one after another from a world on, and each is one action in the world that those before it lead to.
pub record AreSingleActs (w : WorldState) (acts : List Act) : Type 0 where
  pub may : MayActAll w acts
  pub one_by_one : (before behind : List Act) (a : Act) → acts ≡ before ++ a ∷ behind
      → IsOneAction (acted_all w before) a

-- so are the acts of each command after every run
abbrev pub DeedsAreSingleActs : Type 0
DeedsAreSingleActs =
    (n : Network) (commands : List Command) (out : List Piece) (s : SessionState) (c : Command) (d : Deed)
    → IsFabric n → AllByRecursion (IsActOf n) commands → IsActOf n c → IsRun n commands out s → IsDeed s c d
    → AreSingleActs s.world d.acts

-- acts that may happen, and the first ones of them, lead from a reached world to a reached one
abbrev pub ActsReach : Type 0
ActsReach = (n : Network) (w : WorldState) (prefix rest : List Act) → IsReached n w → MayActAll w (prefix ++ rest)
    → IsReached n (acted_all w prefix)

-- so the world after every run is sound
abbrev pub RunsEndSound : Type 0
RunsEndSound = (n : Network) (commands : List Command) (out : List Piece) (last : SessionState) → IsFabric n
    → AllByRecursion (IsActOf n) commands → IsRun n commands out last → IsSound last.world

-- the acts of commands that ran: those of their deeds, one command's after the other's
abbrev pub acts_of : {s last : SessionState} {commands : List Command} {out : List Piece} → Runs s commands out last
    → List Act
acts_of ended = []
acts_of (goes_on does rest all) = does.deed.acts ++ acts_of rest

-- These acts may happen one after another, and lead from a fabric's new world to this one.
pub record IsReachedBy (n : Network) (w : WorldState) (acts : List Act) : Type 0 where
  pub reached : IsReached n w
  pub same : reached.acts ≡ acts

-- so the acts of every run lead to the world after it
abbrev pub RunsAreTheirActs : Type 0
RunsAreTheirActs = (n : Network) (commands : List Command) (out : List Piece) (last : SessionState) → IsFabric n
    → AllByRecursion (IsActOf n) commands → (run : IsRun n commands out last) → IsReachedBy n last.world (acts_of run)

-- and commands have one list of acts
abbrev pub ActsOfRunsAreOne : Type 0
ActsOfRunsAreOne = (n : Network) (commands : List Command) (out printed : List Piece) (last end : SessionState)
    → (run : IsRun n commands out last) (again : IsRun n commands printed end) → acts_of again ≡ acts_of run
