use Rattle.log_laws.proofs.Settles.{passes-within}
use Rattle.log_laws.proofs.UnderWay.{under_way-cut}
use Rattle.world_drain.proofs.Later.{on-any}
use Rattle.world_drain.proofs.WholePass.{IsPass, passing-none, passing-on, passing-end, pass-smaller}
use Rattle.world_drain.proofs.passes.passes.Goals as goal

pub passing-init : goal.passing-init
passing-init c = passing-none c.args.w.now

pub returns-in_err-once-clause-err : goal.returns-in_err-once-clause-err
returns-in_err-once-clause-err c = on-any c.from_residual.result (under_way-cut c.pass.new.w c.passing.invariant.under (passes-within c.passing.w c.pass.new.w c.in_err-once.ensures.err))

pub returns-then-is_last-clause-resets : goal.returns-then-is_last-clause-resets
returns-then-is_last-clause-resets c =
    let here : IsPass c.passing.w c.pass.new.w c.in_ok-once.once.moved c.in_ok-once.once.resets = record { any = c.in_ok-once.ensures.moved; counted = c.in_ok-once.ensures.resets; led = c.in_ok-once.ensures.after } in
    (passing-end c.args.w.now c.passing.w c.pass.new.w c.in_ok-once.once.moved c.is_last.result c.passing.resets c.in_ok-once.once.resets c.saturating_add-resets.result
    c.passing.invariant here c.is_last.ensures c.if-is_last.true c.saturating_add-resets.ensures).0

pub returns-then-is_last-clause-after : goal.returns-then-is_last-clause-after
returns-then-is_last-clause-after c =
    let here : IsPass c.passing.w c.pass.new.w c.in_ok-once.once.moved c.in_ok-once.once.resets = record { any = c.in_ok-once.ensures.moved; counted = c.in_ok-once.ensures.resets; led = c.in_ok-once.ensures.after } in
    (passing-end c.args.w.now c.passing.w c.pass.new.w c.in_ok-once.once.moved c.is_last.result c.passing.resets c.in_ok-once.once.resets c.saturating_add-resets.result
    c.passing.invariant here c.is_last.ensures c.if-is_last.true c.saturating_add-resets.ensures).1

pub passing-smaller : goal.passing-smaller
passing-smaller c =
    let here : IsPass c.passing.w c.pass.new.w c.in_ok-once.once.moved c.in_ok-once.once.resets = record { any = c.in_ok-once.ensures.moved; counted = c.in_ok-once.ensures.resets; led = c.in_ok-once.ensures.after } in
    pass-smaller c.passing.w c.pass.new.w c.in_ok-once.once.moved c.is_last.result c.in_ok-once.once.resets here c.is_last.ensures c.if-is_last.false

pub passing-preserved : goal.passing-preserved
passing-preserved c =
    let here : IsPass c.passing.w c.pass.new.w c.in_ok-once.once.moved c.in_ok-once.once.resets = record { any = c.in_ok-once.ensures.moved; counted = c.in_ok-once.ensures.resets; led = c.in_ok-once.ensures.after } in
    passing-on c.args.w.now c.passing.w c.pass.new.w c.in_ok-once.once.moved c.is_last.result c.passing.resets c.in_ok-once.once.resets c.saturating_add-resets.result
    c.passing.invariant here c.is_last.ensures c.if-is_last.false c.saturating_add-resets.ensures
