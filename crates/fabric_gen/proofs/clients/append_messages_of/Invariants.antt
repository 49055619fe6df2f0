use Rattle.std.proofs.Common.{◌≡◌, ◌++◌}
use Rattle.std.specs.Prelude.{flat_map}
use Rattle.fabric_gen.specs.Text.{below, lines_text, message_lines}
use Rattle.fabric_gen.proofs.clients.append_messages_of.Given as goal

abbrev pub invariant-loop-m : goal.invariant-loop-m
invariant-loop-m l = l.text.items ≡ l.initial.text.items ++ lines_text (flat_map (message_lines l.n l.seed l.i) (below l.m))
