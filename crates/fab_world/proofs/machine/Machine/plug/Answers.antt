use Rattle.std.proofs.Common.{ap, sym, ◌∙◌}
use Rattle.world_defs.specs.Step.{plugged}
use Rattle.fab_world.specs.Held.{world_of}
use Rattle.fab_world.proofs.Answers.{if-ok, on-err}
use Rattle.fab_world.proofs.machine.Machine.plug.Goals as goal

pub returns-clause-ok : goal.returns-clause-ok
returns-clause-ok c =
    if-ok c.plug.result (λ x h. ap (λ w. plugged w c.args.a c.args.b) (sym c.self.view_is) ∙ h (world_of c.self.inside.links c.self.inside.hosts.items c.self.inside.adopted)) c.plug.ensures.ok

pub returns-clause-err : goal.returns-clause-err
returns-clause-err c = on-err c.plug.result (λ h. ap (λ l. world_of l c.self.inside.hosts.items c.self.inside.adopted) h ∙ c.self.view_is) c.plug.ensures.err
