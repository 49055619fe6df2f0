use Rattle.std.proofs.Common.{◌≡◌, ◌++◌, take}
use Rattle.world_defs.specs.Mapping.{entry_bytes}
use Rattle.route_parts.proofs.part.push_entries.Given as goal

abbrev pub invariant-loop-entry : goal.invariant-loop-entry
invariant-loop-entry l = l.bytes.items ≡ l.initial.bytes.items ++ entry_bytes (take l.entry-index l.entries)
