use Rattle.std.proofs.Common.{sym, ◌∙◌, arith}
use Rattle.log_laws.proofs.Drains.{drain-within}
use Rattle.world_drain.proofs.Later.{on-any}
use Rattle.world_drain.proofs.Parts.{drained-idle}
use Rattle.world_drain.proofs.Running.{running-none, running-on, running-end, running-few, fewer-hops, pass-way}
use Rattle.world_drain.proofs.advancing.all_passes.Goals as goal

pub passing-init : goal.passing-init
passing-init c = record { running = running-none c.args.watch.now c.args.w.now c.nothing-seen.result c.nothing-seen.ensures; noted = c.requires }

pub returns-in_err-once-clause-err : goal.returns-in_err-once-clause-err
returns-in_err-once-clause-err c = on-any c.from_residual.result (c.passing.invariant.running.part.way c.pass.new.w (drain-within c.passing.w c.pass.new.w c.in_err-once.ensures.err))

pub returns-then-once-eq0-clause-seen : goal.returns-then-once-eq0-clause-seen
returns-then-once-eq0-clause-seen c =
    let once = c.in_ok-once.ensures in
    (running-end c.args.watch.now c.args.w.now c.passing.w c.pass.new.w c.passing.seen c.in_ok-once.once c.passing.invariant.running once.seen once.after c.if-once-eq0.true).0

pub returns-then-once-eq0-clause-few : goal.returns-then-once-eq0-clause-few
returns-then-once-eq0-clause-few c =
    let most = c.passing.invariant.running.cost in
    let bound = c.hops_bound-few.ensures.enough in
    let small = c.hops_bound-few.ensures.few in
    omega (arith, most, bound, small)

pub returns-then-once-eq0-clause-after : goal.returns-then-once-eq0-clause-after
returns-then-once-eq0-clause-after c =
    let once = c.in_ok-once.ensures in
    (running-end c.args.watch.now c.args.w.now c.passing.w c.pass.new.w c.passing.seen c.in_ok-once.once c.passing.invariant.running once.seen once.after c.if-once-eq0.true).1

pub returns-in_err-note-clause-err : goal.returns-in_err-note-clause-err
returns-in_err-note-clause-err c =
    let once = c.in_ok-once.ensures in
    on-any c.from_residual-in_err-note.result (c.passing.invariant.running.part.way c.pass.new.w (pass-way c.args.watch.now c.passing.w c.pass.new.w c.in_ok-once.once once.seen once.after c.if-once-eq0.false))

pub then-seen-requires : goal.then-seen-requires
then-seen-requires c =
    let few = running-few c.args.watch.now c.args.w.now c.passing.w c.passing.seen c.in_ok-once.once c.passing.invariant.running c.in_ok-once.ensures.seen in
    let bound = c.hops_bound-few.ensures.enough in
    let small = c.hops_bound-few.ensures.few in
    omega (arith, few, bound, small)

pub passing-smaller : goal.passing-smaller
passing-smaller c =
    fewer-hops c.args.watch.now c.passing.w c.pass.new.w c.in_ok-once.once c.in_ok-once.ensures.seen c.in_ok-once.ensures.after c.if-once-eq0.false

pub passing-preserved : goal.passing-preserved
passing-preserved c =
    let once = c.in_ok-once.ensures in
    record {
      running = running-on c.args.watch.now c.args.w.now c.passing.w c.pass.new.w c.passing.seen c.in_ok-once.once c.then-seen.result
          c.passing.invariant.running once.seen once.after c.then-seen.ensures;
      noted = c.in_ok-note.ensures;
    }

pub returns-clause-seen : goal.returns-clause-seen
returns-clause-seen c = (drained-idle c.args.watch.now c.args.w.now c.passing.w c.passing.seen c.passing.invariant.running.part (sym c.links_idle.ensures ∙ c.passing-test.false)).0

pub returns-clause-few : goal.returns-clause-few
returns-clause-few c =
    let most = c.passing.invariant.running.cost in
    let bound = c.hops_bound-few.ensures.enough in
    let small = c.hops_bound-few.ensures.few in
    omega (arith, most, bound, small)

pub returns-clause-after : goal.returns-clause-after
returns-clause-after c = (drained-idle c.args.watch.now c.args.w.now c.passing.w c.passing.seen c.passing.invariant.running.part (sym c.links_idle.ensures ∙ c.passing-test.false)).1
