use Rattle.std.proofs.Common.{◌≡◌, ◌++◌, take}
use Rattle.std.specs.Prelude.{flat_map}
use Rattle.fab_text.specs.Written.{line_text}
use Rattle.fabric_file.specs.Printing.{cable_words}
use Rattle.fabric_file.proofs.printing.print_cables.Given as goal

abbrev pub invariant-loop-k : goal.invariant-loop-k
invariant-loop-k l = l.text.items ≡ l.initial.text.items ++ flat_map (λ c. line_text (cable_words l.f c)) (take l.k l.f.cables)
