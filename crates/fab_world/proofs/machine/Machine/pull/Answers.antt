use Rattle.std.proofs.Common.{ap, sym, ◌∙◌}
use Rattle.world_defs.specs.Step.{pulled}
use Rattle.fab_world.specs.Held.{world_of}
use Rattle.fab_world.proofs.machine.Machine.pull.Goals as goal

pub returns : goal.returns
returns c = ap (λ w. pulled w c.args.at) (sym c.self.view_is) ∙ c.pull.ensures (world_of c.self.inside.links c.self.inside.hosts.items c.self.inside.adopted)
