use Rattle.std.proofs.Common.{length}
use Rattle.replicate_merge.proofs.adding.+node_of_host.Given as goal

abbrev pub decreases-node_of_host : goal.decreases-node_of_host
decreases-node_of_host l = length l.hosts.now
