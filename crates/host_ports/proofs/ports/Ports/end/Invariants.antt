-- The ports that are left are all closed.
use Rattle.std.proofs.Common.{◌≡◌, ℕ, None, vec_len}
use Rattle.std.specs.Prelude.{slice_index_or}
use Rattle.host_ports.proofs.ports.Ports.end.Given as goal

abbrev pub invariant-loop-port : goal.invariant-loop-port
invariant-loop-port l = (k : ℕ) → slice_index_or l.ports.items k None ≡ None

abbrev pub decreases-loop-port : goal.decreases-loop-port
decreases-loop-port l = vec_len l.ports
