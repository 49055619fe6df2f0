use Rattle.std.proofs.Common.{◌∷◌}
use Rattle.world_defs.specs.declared.event.Event.TheVariants.{Replay}
use Rattle.world_defs.specs.Step.{step}
use Rattle.world_defs.specs.Logs as log
use Rattle.log_laws.proofs.PartWay.{way-still}
use Rattle.log_laws.proofs.Settles.{replay-clear}
use Rattle.world_drain.proofs.Later.{on-any}
use Rattle.world_drain.proofs.Replays.{replay-moved, replay-resets, replay-world}
use Rattle.world_drain.proofs.replaying.replay.Goals as goal

pub returns-in_err-moved-clause-err : goal.returns-in_err-moved-clause-err
returns-in_err-moved-clause-err c =
    let events = Replay c.args.serial ∷ (log.clear (step c.args.w.now (Replay c.args.serial)).1).events in
    on-any c.from_residual.result (way-still c.args.w.now c.happens.new.w events c.in_err-moved.ensures.err)

pub returns-in_err-resets-clause-err : goal.returns-in_err-resets-clause-err
returns-in_err-resets-clause-err c =
    on-any c.from_residual-in_err-resets.result (replay-clear c.args.serial c.args.w.now c.happens.new.w c.clear.new.w c.in_ok-moved.ensures.after c.in_err-resets.ensures.err)

pub returns-clause-moved : goal.returns-clause-moved
returns-clause-moved c = replay-moved c.args.w.now c.args.serial c.in_ok-moved.moved c.in_ok-moved.ensures.changed

pub returns-clause-resets : goal.returns-clause-resets
returns-clause-resets c =
    replay-resets c.args.w.now c.happens.new.w c.args.serial c.in_ok-resets.resets c.in_ok-moved.ensures.after c.in_ok-resets.ensures.resets c.in_ok-resets.ensures.few

pub returns-clause-after : goal.returns-clause-after
returns-clause-after c = replay-world c.args.w.now c.happens.new.w c.clear.new.w c.args.serial c.in_ok-moved.ensures.after c.in_ok-resets.ensures.after
