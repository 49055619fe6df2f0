use Rattle.std.proofs.Common.{◌≡◌, ◌++◌, ◌∷◌, take}
use Rattle.std.specs.Prelude.{flat_map}
use Rattle.run_defs.specs.LineRows.{place_text}
use Rattle.fab_report.proofs.places.append_places.Given as goal

abbrev pub invariant-loop-entry : goal.invariant-loop-entry
invariant-loop-entry l = l.text.items ≡ l.initial.text.items ++ flat_map (λ p. 32 ∷ place_text p) (take l.entry-index l.places)
