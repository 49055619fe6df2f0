-- How many packets a run may inject: a bounded number for each command, over the whole run.
use Rattle.std.specs.Prelude.{ℕ, ◌*◌, ◌≤◌, List, length}
use Rattle.std.specs.List.{AllByRecursion}
use Rattle.net_defs.specs.Network.{Network, IsFabric}
use Rattle.run_defs.specs.declared.command.Command.{Command}
use Rattle.run_defs.specs.Output.{Piece}
use Rattle.run_defs.specs.Session.{SessionState}
use Rattle.run_defs.specs.Run.{IsRun}
use Rattle.fab_script.specs.Ranges.{IsCommandOf}

-- the most injections that a command adds to those of a run: 2 ^ 26. A map has fewer than 2 ^ 21 asks, of at most 32
-- injections each; a message has at most 65 fragments, and each may be sent in a round of its own, of at most 2 ^ 19
abbrev pub command_cost : ℕ
command_cost = 67108864

-- After every run of commands over a fabric, whose numbers are in their ranges, no more packets were injected than so
-- many for each command.
abbrev pub RunsInjectFew : Type 0
RunsInjectFew =
    (n : Network) (commands : List Command) (out : List Piece) (last : SessionState) → IsFabric n
    → AllByRecursion (IsCommandOf n) commands → IsRun n commands out last
    → last.world.injected ≤ command_cost * length commands
