use Rattle.std.proofs.Common.{◌+◌, ◌≡◌, ap, refl, ◌∙◌, arith}
use Rattle.world_defs.specs.declared.event.Event.TheVariants.{Advance}
use Rattle.world_defs.specs.Step.{step}
use Rattle.world_drain.specs.declared.seen.Seen.{Seen}
use Rattle.world_drain.proofs.Later.{on-any}
use Rattle.world_drain.proofs.Lone.{run-drained, run-way}
use Rattle.world_drain.proofs.Parts.{drained-still}
use Rattle.world_drain.proofs.Passed.{one-few}
use Rattle.world_drain.proofs.draining.run_out.Goals as goal

pub returns-in_err-last-in-Some-clause-err : goal.returns-in_err-last-in-Some-clause-err
returns-in_err-last-in-Some-clause-err c =
    let run = c.run-run.ensures.run in
    let r = c.run-run.result in
    on-any c.from_residual.result (run-way c.args.watch.now c.args.w.now c.run-run.new.self c.advance_whole.new.w c.in-Some.c r.hops r.at c.in-Some.ensures.lone.others run c.in_err-last-in-Some.ensures.err)

pub advance_whole-requires : goal.advance_whole-requires
advance_whole-requires c = record { there = c.run-run.ensures.lone.there }

pub behind-requires : goal.behind-requires
behind-requires c =
    let few = c.run-run.ensures.few in
    let one = one-few c.args.watch.now (step c.run-run.new.self (Advance c.run-run.result.at)).0 c.in_ok-last-in-Some.last c.in_ok-last-in-Some.ensures.seen in
    let number = c.from.ensures in
    omega (arith, few, one, number)

pub returns-in_ok-last-in-Some-clause-part : goal.returns-in_ok-last-in-Some-clause-part
returns-in_ok-last-in-Some-clause-part c =
    let r = c.run-run.result in
    let last : Seen = c.in_ok-last-in-Some.last in
    let all : c.behind.result ≡ record last { changes = r.hops + last.changes } = c.behind.ensures ∙ ap (λ n. let s : Seen = record last { changes = n + last.changes } in s) c.from.ensures in
    run-drained c.args.watch.now c.args.w.now c.run-run.new.self c.advance_whole.new.w c.in-Some.c r.hops r.at last c.behind.result c.in-Some.ensures.lone.others c.run-run.ensures.run c.run-run.ensures.lone
    c.in_ok-last-in-Some.ensures.after c.in_ok-last-in-Some.ensures.seen all

pub returns-in_ok-last-in-Some-clause-few : goal.returns-in_ok-last-in-Some-clause-few
returns-in_ok-last-in-Some-clause-few c =
    let few = c.run-run.ensures.few in
    let one = one-few c.args.watch.now (step c.run-run.new.self (Advance c.run-run.result.at)).0 c.in_ok-last-in-Some.last c.in_ok-last-in-Some.ensures.seen in
    let number = c.from.ensures in
    let sum = ap (λ s. s.changes) c.behind.ensures in
    omega (arith, few, one, number, sum)

pub returns-in-None-clause-part : goal.returns-in-None-clause-part
returns-in-None-clause-part c = drained-still c.args.watch.now c.args.w.now c.args.w.now c.nothing.result refl c.nothing.ensures

pub returns-in-None-clause-few : goal.returns-in-None-clause-few
returns-in-None-clause-few c = let none = ap (λ s. s.changes) c.nothing.ensures in omega (arith, none)
