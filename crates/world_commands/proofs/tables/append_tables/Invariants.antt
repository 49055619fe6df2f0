use Rattle.std.proofs.Common.{◌≡◌, ◌++◌, take}
use Rattle.std.specs.Prelude.{flat_map}
use Rattle.world_defs.specs.World.{fabric_of}
use Rattle.run_defs.specs.LineText.{line_text}
use Rattle.run_defs.specs.Outcome.{table_line}
use Rattle.world_commands.proofs.tables.append_tables.Given as goal

abbrev pub invariant-loop-host : goal.invariant-loop-host
invariant-loop-host l = l.text.items ≡ l.initial.text.items ++ flat_map (λ h. line_text (fabric_of l.w) (table_line l.w h)) (take l.host-index l.hosts)
