use Rattle.std.proofs.Common.{◌+◌, rules, arith}
use Rattle.std.proofs.lemmas.Fn.{always_returns_same}
use Rattle.replicate_merge.specs.Nodes.{nodes_of}
use Rattle.replicate_merge.proofs.Telling.{count-nodes}
use Rattle.map_quotient.proofs.Sorting.{number_below, numbers_order, sorted-order}
use Rattle.map_quotient.proofs.order.node_order.Goals as goal

pub returns : goal.returns
returns c =
    let ns = nodes_of c.args.walks.now in
    let count = count-nodes c.args.walks.now in
    let len = c.len.ensures in
    sorted-order ns (c.len.result + 1) c.in_ok-order.order.items c.sort_by.new.self.items c.in_ok-order.ensures (omega arith) c.in_ok-sort_by.ensures.permutation (c.in_ok-sort_by.ensures.sorted (number_below ns) (numbers_order ns) (always_returns_same _ _ _ (λ a r k q. search rules)))
