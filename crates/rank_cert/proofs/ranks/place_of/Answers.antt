use Rattle.std.proofs.Common.{None, arith, rules}
use Rattle.std.proofs.lemmas.List.Sorted.{IsPartitionPoint-from_clause}
use Rattle.map_defs.specs.NetMap.{MapPort, port_below}
use Rattle.rank_cert.specs.Listing.{port_of}
use Rattle.rank_cert.proofs.Halves.{rising, partitioned, rank-found}
use Rattle.rank_cert.proofs.ranks.place_of.Goals as goal

pub returns : goal.returns
returns c =
    let ks = c.args.entries.now in
    let d : MapPort = record { v = c.args.v; p = c.args.p } in
    let up = rising None ks c.requires in
    let parted = partitioned ks d up in
    let point = IsPartitionPoint-from_clause (λ k. port_below (port_of k) d) ks c.partition_point.result c.partition_point.ensures.partitioned parted (λ a r q k. search rules) in
    rank-found ks d c.partition_point.result up (λ i x l. point.0 i x (omega arith) l) (λ i x l m. point.1 i x l m)
