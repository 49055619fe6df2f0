use Rattle.std.proofs.Common.{◌≡◌, ◌++◌}
use Rattle.std.specs.Prelude.{flat_map}
use Rattle.fabric_gen.specs.Text.{below, lines_text, messages_of}
use Rattle.fabric_gen.proofs.clients.append_messages.Given as goal

abbrev pub invariant-loop-i : goal.invariant-loop-i
invariant-loop-i l = l.text.items ≡ l.initial.text.items ++ lines_text (flat_map (messages_of l.n l.seed) (below l.i))
