use Rattle.std.proofs.Common.{arith, rules}
use Rattle.std.proofs.lemmas.List.Sorted.{IsPartitionPoint-from_clause}
use Rattle.port_graph.proofs.Routing.{is_before, partitioned, walk-found}
use Rattle.port_graph.proofs.routes.place_of.Goals as goal

pub returns : goal.returns
returns c =
    let rs = c.args.routes.now in
    let parted = partitioned rs c.args.from c.args.to c.requires in
    let point = IsPartitionPoint-from_clause (is_before c.args.from c.args.to) rs c.partition_point.result c.partition_point.ensures.partitioned parted (λ a r q k. search rules) in
    walk-found rs c.args.from c.args.to c.partition_point.result c.requires (λ i d l. point.0 i d (omega arith) l) (λ i d l m. point.1 i d l m)
