-- So many hosts, to which nothing happened, and room for the others.
use Rattle.std.proofs.Common.{◌≡◌, vec_capacity, vec_len}
use Rattle.client_host.proofs.NewHosts.{AreFirst}
use Rattle.client_host.proofs.hosts.push_hosts.Given as goal

abbrev pub invariant-loop-host : goal.invariant-loop-host
invariant-loop-host l = record {
  first : AreFirst l.hosts l.host l.nodes.items;
  len : vec_len l.nodes ≡ l.host;
  room : vec_capacity l.nodes ≡ l.hosts;
}
