use Rattle.std.proofs.Common.{sym, arith}
use Rattle.world_drain.proofs.Later.{on-any, under-later}
use Rattle.world_drain.proofs.Replays.{replaying-none, replaying-on, replaying-cut, replaying-all, serial-few, serial-above}
use Rattle.world_drain.proofs.replaying.replay_all.Goals as goal

pub replays-init : goal.replays-init
replays-init c = replaying-none c.args.w.now

pub returns-in_err-one-clause-err : goal.returns-in_err-one-clause-err
returns-in_err-one-clause-err c =
    on-any c.from_residual.result
    (replaying-cut c.args.w.now c.replays.w c.replay.new.w c.replays.from c.in-Some.serial c.replays.told.moved c.replays.told.resets c.replays.invariant c.moment.ensures.kept (sym c.in-Some.ensures) c.in_err-one.ensures.err)

pub overflow_add-from : goal.overflow_add-from
overflow_add-from c =
    let few = serial-few c.args.w.now c.replays.w c.replays.from c.in-Some.serial c.moment.ensures.kept (under-later c.replays.invariant.under) (sym c.in-Some.ensures) in
    omega (arith, few)

pub replays-smaller : goal.replays-smaller
replays-smaller c =
    let few = serial-few c.args.w.now c.replays.w c.replays.from c.in-Some.serial c.moment.ensures.kept (under-later c.replays.invariant.under) (sym c.in-Some.ensures) in
    let above = serial-above c.args.w.now c.replays.w c.replays.from c.in-Some.serial c.moment.ensures.kept (under-later c.replays.invariant.under) (sym c.in-Some.ensures) in
    omega (arith, few, above)

pub replays-preserved : goal.replays-preserved
replays-preserved c =
    let one = c.in_ok-one.ensures in
    replaying-on c.args.w.now c.replays.w c.replay.new.w c.replays.from c.in-Some.serial c.replays.told.moved c.in_ok-one.one.moved c.then-told.result.moved
    c.replays.told.resets c.in_ok-one.one.resets c.then-told.result.resets c.replays.invariant c.moment.ensures.kept (sym c.in-Some.ensures)
    one.moved one.resets one.after c.then-told.ensures.moved c.then-told.ensures.resets

pub returns-clause-moved : goal.returns-clause-moved
returns-clause-moved c = (replaying-all c.args.w.now c.replays.w c.replays.from c.replays.told.moved c.replays.told.resets c.replays.invariant (sym c.in_default.ensures)).0

pub returns-clause-resets : goal.returns-clause-resets
returns-clause-resets c = (replaying-all c.args.w.now c.replays.w c.replays.from c.replays.told.moved c.replays.told.resets c.replays.invariant (sym c.in_default.ensures)).1

pub returns-clause-after : goal.returns-clause-after
returns-clause-after c = (replaying-all c.args.w.now c.replays.w c.replays.from c.replays.told.moved c.replays.told.resets c.replays.invariant (sym c.in_default.ensures)).2
