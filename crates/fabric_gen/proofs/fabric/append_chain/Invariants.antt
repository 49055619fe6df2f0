use Rattle.std.proofs.Common.{◌≡◌, ◌++◌, map}
use Rattle.fabric_gen.specs.Text.{below, lines_text, chain_words}
use Rattle.fabric_gen.proofs.fabric.append_chain.Given as goal

abbrev pub invariant-loop-i : goal.invariant-loop-i
invariant-loop-i l = l.text.items ≡ l.initial.text.items ++ lines_text (map chain_words (below l.i))
