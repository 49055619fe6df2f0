use Rattle.circ_laws.proofs.OneClass.{core_vertex_has_one_class}
use Rattle.circ_laws.proofs.classes.core_vertices_have_one_class.Goals as goal

pub returns : goal.returns
returns c = core_vertex_has_one_class
