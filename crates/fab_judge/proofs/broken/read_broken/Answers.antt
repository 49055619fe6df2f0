use Rattle.std.proofs.Common.{◌≡◌, ℕ, ap, ◌∙◌, subst, Option, Result, Ok, Err, Some, None, arith}
use Rattle.std.proofs.lemmas.Result.{err_from_is_err_and}
use Rattle.judge_defs.specs.Form.{broken_lines}
use Rattle.fab_judge.specs.declared.stop.Unread.{Unread}
use Rattle.fab_judge.specs.Reading.{Gives}
use Rattle.fab_judge.specs.Blocks.{next_pair}
use Rattle.fab_judge.proofs.Steps.{read_none, read_more, read_fewer, read_shorter}
use Rattle.fab_judge.proofs.Blocks.{passed-none}
use Rattle.fab_judge.proofs.PairLines.{pairs-more, pairs-end, pairs-stopped}
use Rattle.fab_judge.proofs.broken.read_broken.Goals as goal

pub lines-init : goal.lines-init
lines-init c = record {
  passed = passed-none (broken_lines (Some c.args.first) c.args.reader.now.past c.args.f.now c.args.reader.now.left);
  read = read_none c.args.reader.now;
}

pub lines-preserved : goal.lines-preserved
lines-preserved c =
    let start = c.args.reader.now in
    let now = c.next_pair.new.reader in
    let here = c.in_ok-next.ensures.said ∙ ap (λ o. Ok (o, now.left)) c.in-Some.is in
    let said = subst (λ p. next_pair (Some c.lines.before) p c.args.f.now c.lines.reader.left ≡ Ok (Some c.in-Some.pair, now.left)) c.lines.invariant.read.past here in
    record {
      passed = pairs-more (Some c.lines.before) start.past c.args.f.now c.lines.reader.left now.left c.in-Some.pair
          (broken_lines (Some c.args.first) start.past c.args.f.now start.left) c.lines.invariant.passed said;
      read = read_fewer start now 1 0 (read_more start c.lines.reader now 0 1 c.lines.invariant.read c.in_ok-next.ensures.read) (omega arith);
    }

pub lines-smaller : goal.lines-smaller
lines-smaller c = read_shorter c.lines.reader c.next_pair.new.reader c.in_ok-next.ensures.read

pub returns-in-None-clause-said : goal.returns-in-None-clause-said
returns-in-None-clause-said c =
    let start = c.args.reader.now in
    let now = c.next_pair.new.reader in
    let here = c.in_ok-next.ensures.said ∙ ap (λ o. Ok (o, now.left)) c.in-None.is in
    let said = subst (λ p. next_pair (Some c.lines.before) p c.args.f.now c.lines.reader.left ≡ Ok (None, now.left)) c.lines.invariant.read.past here in
    pairs-end (Some c.lines.before) start.past c.args.f.now c.lines.reader.left now.left (broken_lines (Some c.args.first) start.past c.args.f.now start.left) c.lines.invariant.passed said

pub returns-in-None-clause-read : goal.returns-in-None-clause-read
returns-in-None-clause-read c =
    let start = c.args.reader.now in
    let now = c.next_pair.new.reader in
    read_fewer start now 1 0 (read_more start c.lines.reader now 0 1 c.lines.invariant.read c.in_ok-next.ensures.read) (omega arith)

pub returns-in_err-next-clause-said : goal.returns-in_err-next-clause-said
returns-in_err-next-clause-said c =
    let start = c.args.reader.now in
    let now = c.next_pair.new.reader in
    let stop : Result (Option (ℕ × ℕ)) Unread = Err c.in_err-next.field-0.0 in
    let p = err_from_is_err_and c.from_residual.result c.from_residual.ensures.1 in
    rw (p.1, p.2)
    (pairs-stopped (Some c.lines.before) start.past c.args.f.now c.lines.reader.left now.left (broken_lines (Some c.args.first) start.past c.args.f.now start.left) c.in_err-next.field-0.0 c.lines.invariant.passed
    (subst (λ p. Gives (next_pair (Some c.lines.before) p c.args.f.now c.lines.reader.left) now.left stop) c.lines.invariant.read.past c.in_err-next.ensures.said))
