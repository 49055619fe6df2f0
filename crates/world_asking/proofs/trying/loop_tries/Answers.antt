use Rattle.std.proofs.Common.{◌≡◌, ap, sym, refl, ◌∙◌, ◌&&◌, false}
use Rattle.world_defs.specs.Logs as log
use Rattle.world_defs.proofs.LogRows.{loop_try-row, byte_asks}
use Rattle.world_defs.specs.EightBits.{IsByteEvent}
use Rattle.world_drain.proofs.Later.{on-any}
use Rattle.world_asking.proofs.Tries.{trying-on, trying-cut}
use Rattle.world_asking.proofs.trying.loop_tries.Goals as goal

pub returns-in_err-t-clause-err : goal.returns-in_err-t-clause-err
returns-in_err-t-clause-err c =
    on-any c.from_residual.result
    (trying-cut (λ b. b) false (log.loop_try c.args.mapper c.args.walk.now) c.args.tries c.args.w.now c.trying.w c.loop_try.new.w c.trying.left c.trying.harmed c.trying.invariant c.trying-test.true c.in_err-t.ensures.err)

pub trying-preserved : goal.trying-preserved
trying-preserved c =
    let t = c.in_ok-t.ensures in
    let none : (log.loop_try c.args.mapper c.args.walk.now c.trying.w).value.found ≡ false = sym t.found ∙ c.if-t.false in
    trying-on (λ b. b) false (log.loop_try c.args.mapper c.args.walk.now) c.args.tries c.args.w.now c.trying.w c.loop_try.new.w c.trying.left _ c.trying.harmed c.both-harmed.result
    c.trying.invariant c.trying-test.true refl none t.after (loop_try-row {Q = IsByteEvent} byte_asks (λ h walk looped. tt) c.args.mapper c.args.walk.now c.trying.w).there t.hosts
    (c.both-harmed.ensures ∙ ap (λ b. c.trying.harmed && b) t.harmed)
