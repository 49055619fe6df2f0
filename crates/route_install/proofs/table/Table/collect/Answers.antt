use Rattle.route_install.proofs.Numbers.{numbered-either}
use Rattle.route_install.proofs.table.Table.collect.Goals as goal

pub invariant_of-self : goal.invariant_of-self
invariant_of-self c = (numbered-either c.put_part.result c.args.part c.args.entries c.self.inside.collected.items c.put_part.new.parts.items c.put_part.ensures.ok c.put_part.ensures.err c.self.invariant.0, c.self.invariant.1)
