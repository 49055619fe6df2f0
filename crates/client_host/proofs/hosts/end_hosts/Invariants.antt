-- Fewer and fewer hosts are left.
use Rattle.std.proofs.Common.{length}
use Rattle.client_host.proofs.hosts.end_hosts.Given as goal

abbrev pub decreases-loop-node : goal.decreases-loop-node
decreases-loop-node l = length l.rest.items
