use Rattle.std.proofs.Common.{◌-◌, ◌≤◌, length, take}
use Rattle.std.specs.Io.KnownBytes.{Appends}
use Rattle.program_edge.proofs.kept.write_out.Given as goal

abbrev pub invariant-writing : goal.invariant-writing
invariant-writing g l = record {
  bound : l.written ≤ length l.bytes;
  taken : Appends (g.K.Sink.taken l.initial.to) (g.K.Sink.taken l.to) (take l.written l.bytes);
  later : g.K.Sink.faults l.initial.to ≤ g.K.Sink.faults l.to;
}

abbrev pub decreases-writing : goal.decreases-writing
decreases-writing g l = length l.bytes - l.written
