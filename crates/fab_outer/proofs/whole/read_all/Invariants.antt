use Rattle.std.proofs.Common.{◌≡◌, ◌≤◌, ◌-◌, vec_len, vec_capacity}
use Rattle.std.specs.Io.KnownBytes.{Consumes}
use Rattle.fab_outer.proofs.whole.read_all.Given as goal

abbrev pub invariant-reading : goal.invariant-reading
invariant-reading g l = record {
  consumed : Consumes (g.S.Source.left l.initial.source) (g.S.Source.left l.source) l.content.items;
  later : g.S.Source.faults l.initial.source ≤ g.S.Source.faults l.source;
  piece_len : vec_len l.piece ≡ 65536;
  within : vec_len l.content ≤ l.limit;
  room : l.limit ≤ vec_capacity l.content;
}

abbrev pub decreases-reading : goal.decreases-reading
decreases-reading g l = l.limit - vec_len l.content
