use Rattle.std.proofs.Common.{◌≡◌, ◌++◌, take}
use Rattle.std.specs.Prelude.{flat_map}
use Rattle.fab_text.specs.Written.{line_text}
use Rattle.fabric_file.specs.Printing.{host_words}
use Rattle.fabric_file.proofs.printing.print_hosts.Given as goal

abbrev pub invariant-loop-host : goal.invariant-loop-host
invariant-loop-host l = l.text.items ≡ l.initial.text.items ++ flat_map (λ name. line_text (host_words name)) (take l.host l.f.hosts)
