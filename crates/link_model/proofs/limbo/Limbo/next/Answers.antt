use Rattle.std.proofs.Common.{ap, ◌∙◌, sym, nat_le}
use Rattle.std.specs.List.{find}
use Rattle.std.specs.Option.{option_map}
use Rattle.std.specs.Ordering.{nat_cmp}
use Rattle.std.specs.BTreeMap.Range.{range_contains}
use Rattle.std.specs.declared.ops.Bound.TheVariants.{Included, Unbounded}
use Rattle.link_model.proofs.Limbos.{find-first, find-none, from-test}
use Rattle.link_model.proofs.limbo.Limbo.next.Goals as goal

pub returns-in-Some : goal.returns-in-Some
returns-in-Some c =
    sym (ap (option_map (λ e. e.0))
    (ap (find (λ e. nat_le c.args.from e.0)) (sym c.self.view_is)
    ∙ find-first (λ e. range_contains nat_cmp (Included c.args.from) Unbounded e.0) (λ e. nat_le c.args.from e.0) c.self.inside.kept.entries (λ e. from-test c.args.from e.0) _ _ (sym (c.range.ensures.between tt) ∙ c.in-Some.ensures.steps)))

pub returns-in-None : goal.returns-in-None
returns-in-None c =
    sym (ap (option_map (λ e. e.0))
    (ap (find (λ e. nat_le c.args.from e.0)) (sym c.self.view_is)
    ∙ find-none (λ e. range_contains nat_cmp (Included c.args.from) Unbounded e.0) (λ e. nat_le c.args.from e.0) c.self.inside.kept.entries (λ e. from-test c.args.from e.0) (sym (c.range.ensures.between tt) ∙ c.in-None.ensures.steps.0)))
