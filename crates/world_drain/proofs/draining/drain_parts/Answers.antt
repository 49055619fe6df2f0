use Rattle.std.proofs.Common.{ap, sym, ◌∙◌, arith}
use Rattle.world_drain.specs.Watch.{seen_then}
use Rattle.world_drain.proofs.Later.{on-any}
use Rattle.world_drain.proofs.Parts.{drained-idle}
use Rattle.world_drain.proofs.draining.drain_parts.Goals as goal

pub returns-in_err-first-clause-err : goal.returns-in_err-first-clause-err
returns-in_err-first-clause-err c = on-any c.from_residual.result c.in_err-first.ensures.err

pub returns-then-links_idle-clause-seen : goal.returns-then-links_idle-clause-seen
returns-then-links_idle-clause-seen c =
    (drained-idle c.args.watch.now c.args.w.now c.run_out.new.w c.in_ok-first.first c.in_ok-first.ensures.part (sym c.links_idle.ensures ∙ c.if-links_idle.true)).0

pub returns-then-links_idle-clause-after : goal.returns-then-links_idle-clause-after
returns-then-links_idle-clause-after c =
    (drained-idle c.args.watch.now c.args.w.now c.run_out.new.w c.in_ok-first.first c.in_ok-first.ensures.part (sym c.links_idle.ensures ∙ c.if-links_idle.true)).1

pub returns-in_err-rest-clause-err : goal.returns-in_err-rest-clause-err
returns-in_err-rest-clause-err c = on-any c.from_residual-in_err-rest.result (c.in_ok-first.ensures.part.way c.drain_by_passes.new.w c.in_err-rest.ensures.err)

pub then-requires : goal.then-requires
then-requires c =
    let first = c.in_ok-first.ensures.few in
    let rest = c.in_ok-rest.ensures.few in
    omega (arith, first, rest)

pub returns-clause-seen : goal.returns-clause-seen
returns-clause-seen c = c.then.ensures ∙ ap (seen_then c.in_ok-first.first) c.in_ok-rest.ensures.seen ∙ c.in_ok-first.ensures.part.shown

pub returns-clause-after : goal.returns-clause-after
returns-clause-after c = c.in_ok-rest.ensures.after ∙ c.in_ok-first.ensures.part.after
