use Rattle.std.proofs.Common.{◌≡◌, ◌∙◌, w8, to_z, of_z}
use Rattle.std.specs.Prelude.{◌-ℤ◌}
use Rattle.std.proofs.lemmas.Int.{to_z-of_z}
use Rattle.route_calc.proofs.Turned.{turn-fits, difference-fits}
use Rattle.route_calc.proofs.shared.difference.Goals as goal

pub returns : goal.returns
returns c =
    let p = c.args.p in
    let q = c.args.q in
    let from : to_z w8 (of_z w8 p) ≡ p = to_z-of_z w8 p (turn-fits p c.requires.first) in
    let to : to_z w8 (of_z w8 q) ≡ q = to_z-of_z w8 q (turn-fits q c.requires.second) in
    (λ i. to_z w8 (of_z w8 (to i -ℤ from i))) ∙ to_z-of_z w8 (q -ℤ p) (difference-fits q p c.requires.second c.requires.first)
