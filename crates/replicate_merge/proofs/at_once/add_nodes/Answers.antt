use Rattle.replicate_merge.proofs.NodesAtOnce.{nodes-alone}
use Rattle.replicate_merge.proofs.at_once.add_nodes.Goals as goal

pub loop-at-init : goal.loop-at-init
loop-at-init c = nodes-alone c.args.j.now.host c.args.j.now.entries c.args.joined.now c.requires.true_of_one c.requires.alone
