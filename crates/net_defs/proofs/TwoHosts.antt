-- Two hosts at a switch are a fabric.
use Rattle.std.proofs.Common.{arith, rules}
use Rattle.net_defs.specs.Network.{IsFabric}
use Rattle.net_defs.specs.Examples.{two_hosts}

pub two_hosts_fabric : IsFabric two_hosts
two_hosts_fabric = record { few_hosts = omega arith; few_switches = omega arith; names_apart = search rules; port_counts = search rules; cabled_ports = search rules; ports_once = search rules }
