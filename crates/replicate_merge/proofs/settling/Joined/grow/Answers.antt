use Rattle.std.proofs.Common.{ap, ◌∙◌, arith}
use Rattle.replicate_merge.specs.Nodes.{nodes_of}
use Rattle.replicate_merge.proofs.Growths.{grown-all, grown-may, grown-some, node-asks}
use Rattle.replicate_merge.proofs.Telling.{count-nodes}
use Rattle.replicate_merge.proofs.settling.Joined.grow.Goals as goal

pub add_node-requires-clause-few_names : goal.add_node-requires-clause-few_names
add_node-requires-clause-few_names c =
    let a = node-asks (nodes_of c.args.walks.now) c.args.self.now c.args.ways.now c.args.marked c.requires.may in
    let count = a.count in
    let names = a.names in
    let walks = count-nodes c.args.walks.now in
    let few = c.requires.few in
    omega arith

pub add_ways-requires-clause-some : goal.add_ways-requires-clause-some
add_ways-requires-clause-some c =
    let m = c.requires.may in
    let closed = ap (λ v. v.items) c.add_node.ensures.todo ∙ c.requires.closed in
    grown-may m.host m.journal m.entry m.before m.ways c.args.self.now c.add_node.new.self c.args.ways.now c.args.marked m.is c.add_node.ensures (nodes_of c.args.walks.now) m.after closed

pub settle-requires-clause-some : goal.settle-requires-clause-some
settle-requires-clause-some c =
    let m = c.requires.may in
    let closed = ap (λ v. v.items) c.add_node.ensures.todo ∙ c.requires.closed in
    grown-some m.host m.journal m.entry m.before m.ways c.args.self.now c.add_node.new.self c.args.ways.now c.args.marked m.is c.add_node.ensures (nodes_of c.args.walks.now) m.after closed c.add_ways.new.self c.add_ways.ensures.adds

pub returns-clause-grows : goal.returns-clause-grows
returns-clause-grows c = λ host j e before ways after g.
    let closed = ap (λ v. v.items) c.add_node.ensures.todo ∙ c.requires.closed in
    grown-all host j e before ways c.args.self.now c.add_node.new.self c.args.ways.now c.args.marked g c.add_node.ensures (nodes_of c.args.walks.now) after closed c.add_ways.new.self c.add_ways.ensures.adds c.settle.new.self c.settle.ensures.keeps
