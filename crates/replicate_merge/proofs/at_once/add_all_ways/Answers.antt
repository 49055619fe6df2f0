use Rattle.replicate_merge.specs.Nodes.{nodes_of}
use Rattle.replicate_merge.proofs.WaysAtOnce.{ways-alone}
use Rattle.replicate_merge.proofs.at_once.add_all_ways.Goals as goal

pub loop-at-init : goal.loop-at-init
loop-at-init c = ways-alone c.args.j.now.host c.args.j.now.entries c.entries-at-end.ensures.once (nodes_of c.args.walks.now) c.requires.nodes c.args.joined.now c.requires.own
