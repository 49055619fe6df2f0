use Rattle.std.proofs.Common.{◌≡◌, ◌≤◌, ◌-◌, length, take}
use Rattle.fab_text.specs.Line.{words_of}
use Rattle.run_defs.specs.Script.{turns_of}
use Rattle.fab_script.specs.LineLists.{behind}
use Rattle.fab_script.proofs.walk_line.plain_turns.Given as goal

abbrev pub invariant-turns : goal.invariant-turns
invariant-turns l = record {
  same : turns_of (words_of l.initial.left) ≡ behind (take l.count l.turns) (turns_of (words_of l.left));
  room : length l.turns ≡ length l.initial.turns;
  within : l.count ≤ length l.turns;
}

abbrev pub decreases-turns : goal.decreases-turns
decreases-turns l = length l.turns - l.count
