use Rattle.std.proofs.Common.{◌≡◌, ◌++◌}
use Rattle.std.specs.Prelude.{flat_map}
use Rattle.fabric_gen.specs.Text.{below, lines_text, open_lines}
use Rattle.fabric_gen.proofs.clients.append_opens.Given as goal

abbrev pub invariant-loop-i : goal.invariant-loop-i
invariant-loop-i l = l.text.items ≡ l.initial.text.items ++ lines_text (flat_map open_lines (below l.i))
