use Rattle.std.proofs.Common.{nat_eq, ap, sym, ◌∙◌}
use Rattle.journal_defs.specs.Tree.{node_below}
use Rattle.replicate_merge.specs.Ways.{node_at}
use Rattle.replicate_merge.specs.Nodes.{nodes_of}
use Rattle.replicate_merge.proofs.Telling.{numbered-node, mapper-below}
use Rattle.replicate_merge.proofs.merging.is_node_below.Goals as goal

pub returns-then-m-eq0 : goal.returns-then-m-eq0
returns-then-m-eq0 c =
    let ns = nodes_of c.args.walks.now in
    ap (λ m. nat_eq m 0) c.if-m-eq0.true ∙ sym (ap (λ m. node_below (node_at ns m) (node_at ns c.args.n)) c.if-m-eq0.true ∙ mapper-below c.args.walks.now c.args.n c.if-n-eq0.false c.requires.second)

pub returns-else-m-eq0 : goal.returns-else-m-eq0
returns-else-m-eq0 c =
    let walks = c.args.walks.now in
    let first = numbered-node walks c.args.m c.walk.result.now c.if-m-eq0.false c.walk.ensures in
    let second = numbered-node walks c.args.n c.walk-else-m-eq0.result.now c.if-n-eq0.false c.walk-else-m-eq0.ensures in
    c.is_below.ensures ∙ (λ i. node_below (sym first i) (sym second i))
