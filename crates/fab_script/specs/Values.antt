-- What the readers of single words answer, as values of the grammar; and the lines that begin with another word than
-- `walk`.
use Rattle.std.specs.Prelude.{ℕ, List, drop, Result, Ok, Err, codes, bytes_eq, if◌then◌else◌}
use Rattle.net_defs.specs.Network.{Network}
use Rattle.fab_text.specs.declared.fault.FaultKind.{FaultKind}
use Rattle.run_defs.specs.declared.command.Command.{Command}
use Rattle.run_defs.specs.Script.{Value, Name, Number, LineKind, plan_kinds, step_kinds, duo_kinds, line_kinds}
use Rattle.run_defs.specs.Script.{by_second, command_by}

-- a word that is a name, as a value
abbrev pub named : List ℕ → Result (Unit {0}) FaultKind → Result Value FaultKind
named w (Ok u) = Ok (Name w)
named w (Err kind) = Err kind

-- a number that was read, as a value
abbrev pub number_value : Result ℕ FaultKind → Result Value FaultKind
number_value (Ok v) = Ok (Number v)
number_value (Err kind) = Err kind

-- the lines of cables and epochs: those after the first eleven of the table
abbrev pub cable_kinds : List LineKind
cable_kinds = drop 11 line_kinds

-- the command of a line that doesn't begin with `walk`
abbrev pub command_but_walk : Network → List ℕ → List (List ℕ) → Result Command FaultKind
command_but_walk n first args =
    if bytes_eq first (codes "plan") then by_second n plan_kinds args
    else if bytes_eq first (codes "step") then by_second n step_kinds args
    else if bytes_eq first (codes "duo") then by_second n duo_kinds args
    else command_by n line_kinds first args
