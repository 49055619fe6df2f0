use Rattle.std.proofs.Common.{ap, ◌∙◌}
use Rattle.std.specs.Prelude.{Result, Ok, Err, IfOk}
use Rattle.world_defs.specs.Table.{part_for}
use Rattle.adopted_routes.proofs.adopted.Adopted.part.Goals as goal

if-ok : {A E : Type 0} {P Q : A → Type 0} (r : Result A E) → ((a : A) → P a → Q a) → IfOk r P → IfOk r Q
if-ok (Ok a) f h = f a h
if-ok (Err e) f h = tt

pub returns-clause-value : goal.returns-clause-value
returns-clause-value c =
    if-ok c.part_for.result (λ p h. h c.self.inside.at ∙ ap (λ a. part_for a c.args.dst c.args.part) c.self.view_is) c.part_for.ensures.value
