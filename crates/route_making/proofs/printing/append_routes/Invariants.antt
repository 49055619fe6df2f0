use Rattle.std.proofs.Common.{◌≡◌, ◌++◌, take}
use Rattle.std.specs.Prelude.{flat_map}
use Rattle.run_defs.specs.LineText.{line_text}
use Rattle.run_defs.specs.Run.{route_line}
use Rattle.route_making.proofs.printing.append_routes.Given as goal

abbrev pub invariant-loop-r : goal.invariant-loop-r
invariant-loop-r l = l.text.items ≡ l.initial.text.items ++ flat_map (λ r. line_text l.f (route_line r)) (take l.r-index l.routes)
