use Rattle.std.proofs.Common.{◌∷◌, [], ◌-◌, map, length, refl, arith}
use Rattle.std.specs.List.{range_with_len}
use Rattle.world_defs.specs.declared.event.Event.TheVariants.{Advance}
use Rattle.world_defs.specs.Step.{step}
use Rattle.world_drain.specs.Watch.{seen_in}
use Rattle.log_laws.proofs.PartWay.{way-still}
use Rattle.world_drain.proofs.Later.{on-any}
use Rattle.world_drain.proofs.Passing.{as-long}
use Rattle.world_drain.proofs.Passed.{passed-none, passed-on, passed-all}
use Rattle.world_drain.proofs.advancing.pass.Goals as goal

pub loop-c-init : goal.loop-c-init
loop-c-init c = record { passed = passed-none c.args.watch.now c.args.w.now c.nothing-seen.result c.nothing-seen.ensures; noted = c.requires }

pub loop-c-smaller : goal.loop-c-smaller
loop-c-smaller c =
    let f = c.in-Some.ensures.found in
    let long = as-long c.loop-c.w c.advance.new.w c.in-Some.c c.in_ok-all.ensures.after in
    omega (arith, f.above, f.there, long)

pub loop-c-preserved : goal.loop-c-preserved
loop-c-preserved c =
    let f = c.in-Some.ensures.found in
    let all = c.in_ok-all.ensures in
    let one = seen_in c.args.watch.now ((step c.loop-c.w (Advance c.in-Some.c)).0 ∷ []) in
    record {
      passed = passed-on c.args.watch.now c.args.w.now c.loop-c.w c.advance.new.w c.loop-c.from c.in-Some.c c.loop-c.seen one c.in_ok-all.all
          c.loop-c.invariant.passed f.above f.there f.passed refl all.after all.seen;
      noted = all.awake;
    }

pub returns-in_err-all-clause-err : goal.returns-in_err-all-clause-err
returns-in_err-all-clause-err c =
    let left = map Advance (range_with_len c.loop-c.from (length c.args.w.now.links.channels - c.loop-c.from)) in
    on-any c.from_residual.result (c.loop-c.invariant.passed.way c.advance.new.w (way-still c.loop-c.w c.advance.new.w left c.in_err-all.ensures.err))

pub returns-clause-seen : goal.returns-clause-seen
returns-clause-seen c =
    (passed-all c.args.watch.now c.args.w.now c.loop-c.w c.loop-c.from c.loop-c.seen c.loop-c.invariant.passed c.in_default.ensures.none).0

pub returns-clause-after : goal.returns-clause-after
returns-clause-after c =
    (passed-all c.args.watch.now c.args.w.now c.loop-c.w c.loop-c.from c.loop-c.seen c.loop-c.invariant.passed c.in_default.ensures.none).1
