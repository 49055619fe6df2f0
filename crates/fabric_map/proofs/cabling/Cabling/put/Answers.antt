use Rattle.std.proofs.Common.{ap, sym, ◌∙◌}
use Rattle.map_defs.specs.NetMap.{far_port}
use Rattle.fabric_map.specs.Table.{far_end}
use Rattle.fabric_map.proofs.cabling.Cabling.put.Goals as goal

pub invariant_of-self : goal.invariant_of-self
invariant_of-self c = record {
  turns = c.requires.turns;
  far_ends = λ d t. c.self.invariant.far_ends d t ∙ ap (λ cs. far_end (far_port cs d)) c.self.view_is ∙ ap far_end (sym (c.requires.same d));
}
