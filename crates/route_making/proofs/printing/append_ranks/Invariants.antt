use Rattle.std.proofs.Common.{◌≡◌, ◌++◌, take}
use Rattle.std.specs.Prelude.{flat_map}
use Rattle.run_defs.specs.LineText.{line_text}
use Rattle.run_defs.specs.Run.{rank_line}
use Rattle.route_making.proofs.printing.append_ranks.Given as goal

abbrev pub invariant-loop-k : goal.invariant-loop-k
invariant-loop-k l = l.text.items ≡ l.initial.text.items ++ flat_map (λ k. line_text l.f (rank_line l.fn.m k)) (take l.k-index l.ranks)
