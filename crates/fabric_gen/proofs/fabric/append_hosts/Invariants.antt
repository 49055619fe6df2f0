use Rattle.std.proofs.Common.{◌≡◌, ◌++◌, map}
use Rattle.fabric_gen.specs.Text.{below, lines_text, host_words}
use Rattle.fabric_gen.proofs.fabric.append_hosts.Given as goal

abbrev pub invariant-loop-i : goal.invariant-loop-i
invariant-loop-i l = l.text.items ≡ l.initial.text.items ++ lines_text (map host_words (below l.i))
