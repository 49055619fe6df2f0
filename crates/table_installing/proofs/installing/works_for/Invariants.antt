-- the works so far, and then those of the hosts from here on, are all
use Rattle.std.proofs.Common.{◌≡◌, ◌++◌, drop}
use Rattle.table_installing.specs.Installing.{works_of}
use Rattle.table_installing.proofs.installing.works_for.Given as goal

abbrev pub invariant-loop-host : goal.invariant-loop-host
invariant-loop-host l = works_of l.w.adopted l.hosts ≡ l.works.items ++ works_of l.w.adopted (drop l.host-index l.hosts)
