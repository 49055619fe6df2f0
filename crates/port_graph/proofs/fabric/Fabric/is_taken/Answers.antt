use Rattle.std.proofs.Common.{ap, ◌∙◌, is_some}
use Rattle.port_graph.proofs.Fabrics.{taken-named}
use Rattle.port_graph.proofs.fabric.Fabric.is_taken.Goals as goal

pub returns : goal.returns
returns c = c.is_some.ensures ∙ ap is_some c.find.ensures ∙ taken-named c.args.self.now c.args.name.now
