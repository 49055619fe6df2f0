use Rattle.log_laws.proofs.Settles.{rounds-within}
use Rattle.log_laws.proofs.UnderWay.{under_way-cut}
use Rattle.world_drain.proofs.Later.{on-any}
use Rattle.world_drain.proofs.WholeRound.{IsOneRound, settling-none, settling-on, settling-end, round-smaller, rounds-few}
use Rattle.std.proofs.Common.{arith}
use Rattle.world_drain.proofs.rounds.all_rounds.Goals as goal

pub settling-init : goal.settling-init
settling-init c = settling-none c.args.w.now c.progress_of-before.result.unacked c.progress_of-before.result.struck c.progress_of-before.ensures.unacked c.progress_of-before.ensures.struck

pub returns-in_err-once-clause-err : goal.returns-in_err-once-clause-err
returns-in_err-once-clause-err c = on-any c.from_residual.result (under_way-cut c.round.new.w c.settling.invariant.under (rounds-within c.settling.w c.round.new.w c.in_err-once.ensures.err))

pub overflow_add-rounds : goal.overflow_add-rounds
overflow_add-rounds c =
    let left = c.progress_of-before.ensures.unacked in
    let small = c.progress_of-before.ensures.few in
    let fits = rounds-few c.args.w.now c.settling.w c.settling.rounds c.settling.resets c.settling.before.unacked c.settling.before.struck c.planned-planned.result c.settling.invariant
    (omega (arith, left, small)) c.planned-planned.ensures.count c.planned-planned.ensures.few in
    omega (arith, fits)

pub returns-then-is_last-clause-ok : goal.returns-then-is_last-clause-ok
returns-then-is_last-clause-ok c =
    let here : IsOneRound c.args.w.now c.settling.w c.round.new.w c.in_ok-once.once c.progress_of-now.result.unacked c.progress_of-now.result.struck = record {
      moment = c.moment.ensures.kept;
      counted = c.in_ok-once.ensures.resets;
      led = c.in_ok-once.ensures.after;
      left_is = c.progress_of-now.ensures.unacked;
      struck_is = c.progress_of-now.ensures.struck;
    } in
    settling-end c.args.w.now c.settling.w c.round.new.w c.settling.rounds c.settling.resets c.settling.before.unacked c.settling.before.struck
    c.in_ok-once.once c.progress_of-now.result.unacked c.progress_of-now.result.struck c.saturating_add-resets.result c.is_last.result c.settling.invariant here
    c.is_last.ensures c.if-is_last.true c.saturating_add-resets.ensures

pub settling-smaller : goal.settling-smaller
settling-smaller c =
    let here : IsOneRound c.args.w.now c.settling.w c.round.new.w c.in_ok-once.once c.progress_of-now.result.unacked c.progress_of-now.result.struck = record {
      moment = c.moment.ensures.kept;
      counted = c.in_ok-once.ensures.resets;
      led = c.in_ok-once.ensures.after;
      left_is = c.progress_of-now.ensures.unacked;
      struck_is = c.progress_of-now.ensures.struck;
    } in
    round-smaller c.args.w.now c.settling.w c.round.new.w c.settling.rounds c.settling.resets c.settling.before.unacked c.settling.before.struck
    c.in_ok-once.once c.progress_of-now.result.unacked c.progress_of-now.result.struck c.is_last.result c.settling.invariant here
    c.is_last.ensures c.if-is_last.false

pub settling-preserved : goal.settling-preserved
settling-preserved c =
    let here : IsOneRound c.args.w.now c.settling.w c.round.new.w c.in_ok-once.once c.progress_of-now.result.unacked c.progress_of-now.result.struck = record {
      moment = c.moment.ensures.kept;
      counted = c.in_ok-once.ensures.resets;
      led = c.in_ok-once.ensures.after;
      left_is = c.progress_of-now.ensures.unacked;
      struck_is = c.progress_of-now.ensures.struck;
    } in
    settling-on c.args.w.now c.settling.w c.round.new.w c.settling.rounds c.settling.resets c.settling.before.unacked c.settling.before.struck
    c.in_ok-once.once c.progress_of-now.result.unacked c.progress_of-now.result.struck c.saturating_add-resets.result c.is_last.result c.settling.invariant here
    c.is_last.ensures c.if-is_last.false c.saturating_add-resets.ensures
