use Rattle.std.proofs.Common.{◌≡◌, ◌++◌, take}
use Rattle.std.specs.Prelude.{flat_map}
use Rattle.fab_text.specs.Written.{line_text}
use Rattle.fabric_file.specs.Printing.{switch_words}
use Rattle.fabric_file.proofs.printing.print_switches.Given as goal

abbrev pub invariant-loop-switch : goal.invariant-loop-switch
invariant-loop-switch l = l.text.items ≡ l.initial.text.items ++ flat_map (λ s. line_text (switch_words s)) (take l.switch l.f.switches)
