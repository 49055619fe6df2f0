use Rattle.std.proofs.Common.{◌∙◌, ap}
use Rattle.std.specs.Prelude.{position, bytes_eq}
use Rattle.port_graph.proofs.Naming.{position-named}
use Rattle.port_graph.proofs.names.Names.find.Goals as goal

pub returns : goal.returns
returns c =
    c.get_index_of.ensures.index
    ∙ position-named c.args.name.now c.self.inside.ports.entries
    ∙ ap (position (λ v. bytes_eq c.args.name.now v.name)) c.self.view_is
