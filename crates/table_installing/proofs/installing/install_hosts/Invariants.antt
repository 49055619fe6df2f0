-- What is left of the works is what is left of the installation.
use Rattle.std.proofs.Common.{◌≡◌, map}
use Rattle.std.specs.Prelude.{Some}
use Rattle.std.specs.List.{filter}
use Rattle.world_defs.specs.Table.{Adoption}
use Rattle.world_defs.specs.World.{host_count}
use Rattle.table_installing.specs.Installing.{has_parts}
use Rattle.table_installing.proofs.Serving.{IsServing, tries_left}
use Rattle.table_installing.proofs.installing.install_hosts.Given as goal

abbrev pub invariant-serving : goal.invariant-serving
invariant-serving l = record {
  left : (a : Adoption) → l.fn.w.adopted ≡ Some a → IsServing a l.tries l.hosts l.fn.w l.w l.installer;
  of_hosts : map (λ k. k.host) l.installer.works ≡ filter (has_parts l.fn.w.adopted) l.hosts;
  same_tries : l.installer.tries ≡ l.tries;
  hosts : host_count l.w ≡ host_count l.fn.w;
}

abbrev pub decreases-serving : goal.decreases-serving
decreases-serving l = tries_left l.installer.works
