use Rattle.std.proofs.Common.{◌≡◌, ◌++◌, replicate}
use Rattle.fabric_gen.specs.Text.{lines_text, poll_words}
use Rattle.fabric_gen.proofs.closing.append_polls_of.Given as goal

abbrev pub invariant-loop-poll : goal.invariant-loop-poll
invariant-loop-poll l = l.text.items ≡ l.initial.text.items ++ lines_text (replicate l.poll (poll_words l.i))
