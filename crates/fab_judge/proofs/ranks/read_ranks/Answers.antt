use Rattle.std.proofs.Common.{◌≡◌, ◌+◌, ◌∷◌, ◌++◌, [], ap, sym, ◌∙◌, subst, length, length-append, Option, Result, Ok, Err, Some, None, refl, arith, if◌then◌else◌}
use Rattle.std.proofs.lemmas.Result.{err_from_is_err_and}
use Rattle.judge_defs.specs.Form.{rank_lines}
use Rattle.fab_judge.specs.Reading.{HasRead, Gives}
use Rattle.map_defs.specs.declared.rank.RankEntry.{RankEntry}
use Rattle.fab_judge.specs.declared.stop.Unread.{Unread}
use Rattle.fab_judge.specs.Blocks.{next_rank}
use Rattle.fab_judge.specs.Shown.{map_in}
use Rattle.fab_judge.proofs.Steps.{read_none, read_more, read_fewer, read_shorter}
use Rattle.fab_judge.proofs.Blocks.{after, after-none}
use Rattle.fab_judge.proofs.RankLines.{ranks-end, ranks-more, ranks-stopped}
use Rattle.fab_judge.proofs.ranks.read_ranks.Goals as goal

pub lines-init : goal.lines-init
lines-init c =
    let start = c.args.reader.now in
    let all = rank_lines (map_in c.args.shown.now) None start.past c.args.f.now start.left in
    record {
      same = subst (λ ks. all ≡ after ks all) (sym c.new-ranks.ensures.items) (after-none all);
      read = subst (λ ks. HasRead start start (length ks)) (sym c.new-ranks.ensures.items) (read_none start);
    }

pub lines-preserved : goal.lines-preserved
lines-preserved c =
    let start = c.args.reader.now in
    let shown = map_in c.args.shown.now in
    let now = c.next_rank.new.reader in
    let done = c.lines.ranks.items in
    let pushed : c.push.new.self.items ≡ done ++ c.in-Some.rank ∷ [] = c.push.ensures.items ∙ ap (λ b. if b then done ++ c.in-Some.rank ∷ [] else done) c.if-is_err.ensures.negation in
    let longer = ap (λ ks. length ks) pushed in
    let one = length-append done (c.in-Some.rank ∷ []) in
    let here = c.in_ok-next.ensures.said ∙ ap (λ o. Ok (o, now.left)) c.in-Some.is in
    let said = subst (λ p. next_rank shown c.lines.before p c.args.f.now c.lines.reader.left ≡ Ok (Some c.in-Some.rank, now.left)) c.lines.invariant.read.past here in
    record {
      same = ranks-more shown c.lines.before _ start.past c.args.f.now c.lines.reader.left now.left c.in-Some.rank
          (rank_lines shown None start.past c.args.f.now start.left) done c.push.new.self.items c.lines.invariant.same said pushed refl;
      read = read_fewer start now (length done + 1) (length c.push.new.self.items) (read_more start c.lines.reader now (length done) 1 c.lines.invariant.read c.in_ok-next.ensures.read) (omega arith);
    }

pub lines-smaller : goal.lines-smaller
lines-smaller c = read_shorter c.lines.reader c.next_rank.new.reader c.in_ok-next.ensures.read

pub returns-in-None-clause-read : goal.returns-in-None-clause-read
returns-in-None-clause-read c =
    read_more c.args.reader.now c.lines.reader c.next_rank.new.reader (length c.lines.ranks.items) 1 c.lines.invariant.read c.in_ok-next.ensures.read

pub returns-in_err-next-clause-said : goal.returns-in_err-next-clause-said
returns-in_err-next-clause-said c =
    let start = c.args.reader.now in
    let shown = map_in c.args.shown.now in
    let now = c.next_rank.new.reader in
    let stop : Result (Option RankEntry) Unread = Err c.in_err-next.field-0.0 in
    let p = err_from_is_err_and c.from_residual.result c.from_residual.ensures.1 in
    rw (p.1, p.2)
    (ranks-stopped shown c.lines.before start.past c.args.f.now c.lines.reader.left now.left (rank_lines shown None start.past c.args.f.now start.left) c.lines.ranks.items c.in_err-next.field-0.0 c.lines.invariant.same
    (subst (λ p. Gives (next_rank shown c.lines.before p c.args.f.now c.lines.reader.left) now.left stop) c.lines.invariant.read.past c.in_err-next.ensures.said))

pub returns-in-None-clause-said : goal.returns-in-None-clause-said
returns-in-None-clause-said c =
    let start = c.args.reader.now in
    let shown = map_in c.args.shown.now in
    let now = c.next_rank.new.reader in
    let here = c.in_ok-next.ensures.said ∙ ap (λ o. Ok (o, now.left)) c.in-None.is in
    let said = subst (λ p. next_rank shown c.lines.before p c.args.f.now c.lines.reader.left ≡ Ok (None, now.left)) c.lines.invariant.read.past here in
    ranks-end shown c.lines.before start.past c.args.f.now c.lines.reader.left now.left (rank_lines shown None start.past c.args.f.now start.left) c.lines.ranks.items c.lines.invariant.same said
