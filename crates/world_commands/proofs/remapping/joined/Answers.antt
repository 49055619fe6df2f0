use Rattle.fab_remap.specs.declared.cables.PlugRefusal.TheVariants.{PortUsed, Full}
use Rattle.world_commands.proofs.Cabled.{plug-refused}
use Rattle.world_commands.proofs.remapping.joined.Goals as goal

-- a refused plug is idle
pub returns-in-Err-PortUsed-clause-after : goal.returns-in-Err-PortUsed-clause-after
returns-in-Err-PortUsed-clause-after c =
    plug-refused c.args.w.now c.plug.new.w c.args.a c.args.b c.plug.result c.in-Err-PortUsed.field-0 PortUsed c.in-Err-PortUsed.is c.in-Err-PortUsed.field-0-is (λ e. cc) c.plug.ensures.refused c.plug.ensures.unchanged

pub returns-in-Err-Full-clause-after : goal.returns-in-Err-Full-clause-after
returns-in-Err-Full-clause-after c =
    plug-refused c.args.w.now c.plug.new.w c.args.a c.args.b c.plug.result c.in-Err-Full.field-0 Full c.in-Err-Full.is c.in-Err-Full.field-0-is (λ e. cc) c.plug.ensures.refused c.plug.ensures.unchanged
