use Rattle.std.proofs.Common.{List, ap, subst, arith}
use Rattle.journal_defs.specs.Tree.{Node}
use Rattle.replicate_merge.specs.Between.{IsFrontOf}
use Rattle.replicate_merge.specs.Nodes.{nodes_of}
use Rattle.replicate_merge.specs.Table.{ClassTable}
use Rattle.replicate_merge.proofs.Telling.{count-nodes}
use Rattle.replicate_merge.proofs.classes.Classes.front_of.Goals as goal

pub front_of-requires : goal.front_of-requires
front_of-requires c =
    let few = c.self.invariant.0.few in
    let n = count-nodes c.self.inside.walks in
    omega arith

pub returns : goal.returns
returns c =
    subst (λ (l : List Node). IsFrontOf l c.args.e.now.walk c.front_of.result) (ap (λ (t : ClassTable). t.nodes) c.self.view_is)
    (subst (λ w. IsFrontOf (nodes_of c.self.inside.walks) w c.front_of.result) c.turns.ensures.value c.front_of.ensures)
