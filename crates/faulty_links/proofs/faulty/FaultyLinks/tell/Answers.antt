use Rattle.std.proofs.Common.{ap, sym, ◌∙◌}
use Rattle.world_defs.specs.declared.effect.Effect.{Effect}
use Rattle.world_defs.specs.declared.effect.Effect.TheVariants.{Dropped}
use Rattle.world_defs.specs.declared.effect.Cause.TheVariants.{NotMine}
use Rattle.world_defs.specs.declared.arrival.Arrival.{Arrival}
use Rattle.world_defs.specs.World.{WorldState, with_node}
use Rattle.world_defs.specs.Step.{arrived, cause_at_host}
use Rattle.faulty_links.specs.Held.{with_part}
use Rattle.faulty_links.proofs.faulty.FaultyLinks.tell.Goals as goal

pub returns-in-Heard : goal.returns-in-Heard
returns-in-Heard c = λ w n. ap (λ (a : Arrival). arrived (with_part w c.args.self.now) c.args.host (a, n)) c.in-Heard.is

pub returns-in-Dropped : goal.returns-in-Dropped
returns-in-Dropped c = λ w n.
    ap (λ (a : Arrival). arrived (with_part w c.args.self.now) c.args.host (a, n)) c.in-Dropped.is
    ∙ ap (λ (v : WorldState). (Dropped (cause_at_host c.in-Dropped.why), v)) (c.drop_for.ensures.after (with_node w c.args.host n))
    ∙ ap (λ (e : Effect). (e, with_part (with_node w c.args.host n) c.drop_for.new.self)) (sym (c.drop_for.ensures.effect ∙ ap Dropped c.cause_at_host.ensures))

pub returns-in-NotMine : goal.returns-in-NotMine
returns-in-NotMine c = λ w n.
    ap (λ (a : Arrival). arrived (with_part w c.args.self.now) c.args.host (a, n)) c.in-NotMine.is
    ∙ ap (λ (v : WorldState). (Dropped NotMine, v)) (c.drop_for-in-NotMine.ensures.after (with_node w c.args.host n))
    ∙ ap (λ (e : Effect). (e, with_part (with_node w c.args.host n) c.drop_for-in-NotMine.new.self)) (sym c.drop_for-in-NotMine.ensures.effect)
