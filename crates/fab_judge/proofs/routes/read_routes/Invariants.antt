use Rattle.std.proofs.Common.{◌≡◌, ◌-◌, None, length}
use Rattle.judge_defs.specs.Form.{route_lines}
use Rattle.fab_judge.specs.Reading.{HasRead}
use Rattle.fab_judge.proofs.Lists.{last_of}
use Rattle.fab_judge.proofs.Blocks.{after}
use Rattle.fab_judge.proofs.routes.read_routes.Given as goal

abbrev pub invariant-lines : goal.invariant-lines
invariant-lines l = record {
  same : route_lines l.count None l.initial.reader.past l.f l.initial.reader.left
      ≡ after l.routes (route_lines (l.count - l._read) (last_of l.routes) l.initial.reader.past l.f l.reader.left);
  read : HasRead l.initial.reader l.reader (length l.routes);
}
