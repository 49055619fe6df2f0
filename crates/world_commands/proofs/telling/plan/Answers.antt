use Rattle.std.proofs.Common.{◌∙◌, ap, sym, subst}
use Rattle.world_defs.specs.Later.{IsLater}
use Rattle.world_defs.specs.World.{WorldState, planned}
use Rattle.run_defs.specs.declared.command.Command.TheVariants.{Plan}
use Rattle.world_commands.specs.Cut.{IsLeft}
use Rattle.world_commands.proofs.Cut.{in-line, plan_left, planned_left}
use Rattle.world_commands.proofs.telling.plan.Goals as goal

pub returns-in_default-clause-err : goal.returns-in_default-clause-err
returns-in_default-clause-err c = plan_left c.args.w.now c.plan.new.self c.args.ahead c.args.kind c.in_default.ensures.err

pub returns-clause-err : goal.returns-clause-err
returns-clause-err c =
    in-line c.one_line.result (IsLeft (Plan c.args.ahead c.args.kind) c.args.w.now c.plan.new.self)
    (planned_left c.args.w.now c.plan.new.self c.args.ahead c.args.kind (sym (ap (λ p. p.1) c.in-Ok.ensures.ok) ∙ ap (λ f. (planned c.args.w.now c.args.ahead f).1) c.fault_of.ensures)) c.one_line.ensures.err

-- a plan leaves the cables
pub returns-in_default-clause-cables : goal.returns-in_default-clause-cables
returns-in_default-clause-cables c = subst (λ (v : WorldState). IsLater c.args.w.now.links.cables v.links.cables) (sym c.in_default.ensures.err) IsLater.still

pub returns-clause-cables : goal.returns-clause-cables
returns-clause-cables c = subst (λ (v : WorldState). IsLater c.args.w.now.links.cables v.links.cables) (ap (λ p. p.1) c.in-Ok.ensures.ok) IsLater.still
