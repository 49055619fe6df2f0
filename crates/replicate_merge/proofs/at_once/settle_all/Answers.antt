use Rattle.std.proofs.Common.{arith}
use Rattle.replicate_merge.specs.Nodes.{nodes_of}
use Rattle.replicate_merge.proofs.Telling.{count-nodes}
use Rattle.replicate_merge.proofs.Finding.{few-walks}
use Rattle.replicate_merge.proofs.WaysAtOnce.{all-settled}
use Rattle.replicate_merge.proofs.at_once.settle_all.Goals as goal

pub reserve-requires-clause-few : goal.reserve-requires-clause-few
reserve-requires-clause-few c =
    let names = c.requires.own.names in
    let nodes = count-nodes c.args.walks.now in
    let walks = few-walks c.args.j.now.entries c.args.walks.now c.requires.nodes in
    let few = c.requires.few in
    omega arith

pub returns : goal.returns
returns c = all-settled c.args.j.now.host c.args.j.now.entries c.entries-entries.ensures.once (nodes_of c.args.walks.now) c.requires.nodes c.args.joined.now c.requires.own c.reserve.new.self c.reserve.ensures.same c.settle.new.self c.settle.ensures.keeps c.settle.ensures.done
