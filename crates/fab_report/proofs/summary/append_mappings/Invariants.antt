use Rattle.std.proofs.Common.{◌≡◌, ◌++◌, take}
use Rattle.std.specs.Prelude.{flat_map}
use Rattle.run_defs.specs.LineText.{output_text}
use Rattle.run_defs.specs.Output.{lines}
use Rattle.run_defs.specs.Summary.{mapping_lines}
use Rattle.fab_report.proofs.summary.append_mappings.Given as goal

abbrev pub invariant-loop-figure : goal.invariant-loop-figure
invariant-loop-figure l = l.text.items ≡ l.initial.text.items ++ flat_map (λ k. output_text l.f (lines (mapping_lines k))) (take l.figure-index l.figures)
