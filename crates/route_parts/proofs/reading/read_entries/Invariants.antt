use Rattle.std.proofs.Common.{◌≡◌, ◌++◌, None, option_map}
use Rattle.world_defs.specs.Mapping.{entries_front, whole}
use Rattle.route_parts.specs.Reading.{rise_from}
use Rattle.route_parts.proofs.reading.read_entries.Given as goal

abbrev pub invariant-loop-left : goal.invariant-loop-left
invariant-loop-left l = record {
  entries : whole (entries_front l.fn.count l.fn.bytes) ≡ option_map (λ es. l.entries.items ++ es) (whole (entries_front l.left l.rest));
  rise : rise_from l.before l.left l.rest ≡ rise_from None l.fn.count l.fn.bytes;
}

abbrev pub decreases-loop-left : goal.decreases-loop-left
decreases-loop-left l = l.left
