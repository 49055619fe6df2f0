use Rattle.std.proofs.Common.{◌≡◌, drop}
use Rattle.fab_judge.proofs.Judged.{Leads}
use Rattle.fab_judge.proofs.judging.judge_all.Given as goal

abbrev pub invariant-answers : goal.invariant-answers
invariant-answers l = record {
  leads : Leads l.f l.initial.reader.past l.commands l.initial.reader.left (drop l.command-index l.commands) l.reader.left l.past;
  same : l.reader.past ≡ l.initial.reader.past;
}
