use Rattle.std.proofs.Common.{ap}
use Rattle.world_defs.specs.Crossed.{life_channels}
use Rattle.world_defs.specs.History.{fabric_at}
use Rattle.world_defs.specs.Logs as log
use Rattle.log_laws.proofs.Drains.{clear-within, clear-behind}
use Rattle.fab_world.specs.Held.{IsLater}
use Rattle.fab_world.proofs.Moments.{later-hosts, later-adopted}
use Rattle.world_drain.proofs.Cables.{way-cables, log-cables, drain-leaves, clear-leaves, channels-stay}
use Rattle.world_drain.proofs.Ends.{end-resets}
use Rattle.world_drain.proofs.EventRows.{resets-later}
use Rattle.world_drain.proofs.Later.{later-both, way-later, on-any, on-err}
use Rattle.world_drain.proofs.Resets.{is-clear, is-idle}
use Rattle.world_drain.proofs.Running.{drain-later}
use Rattle.world_drain.proofs.clearing.clear.Goals as goal

pub returns-in_err-drain-clause-err : goal.returns-in_err-drain-clause-err
returns-in_err-drain-clause-err c = on-any c.from_residual.result (clear-within c.args.w.now c.drain.new.w c.in_err-drain.ensures.err)

pub returns-in_err-drain-clause-cables : goal.returns-in_err-drain-clause-cables
returns-in_err-drain-clause-cables c = way-cables (drain-leaves c.args.w.now) c.in_err-drain.ensures.err

pub returns-in_err-drain-clause-hosts : goal.returns-in_err-drain-clause-hosts
returns-in_err-drain-clause-hosts c = later-hosts c.args.w.now c.drain.new.w c.moment.ensures.kept (way-later c.args.w.now c.drain.new.w c.in_err-drain.ensures.err)

pub returns-in_err-drain-clause-channels : goal.returns-in_err-drain-clause-channels
returns-in_err-drain-clause-channels c =
    channels-stay c.args.w.now c.drain.new.w c.moment.ensures.kept (way-later c.args.w.now c.drain.new.w c.in_err-drain.ensures.err) (ap life_channels (way-cables (drain-leaves c.args.w.now) c.in_err-drain.ensures.err))

pub returns-in_err-drain-clause-adopted : goal.returns-in_err-drain-clause-adopted
returns-in_err-drain-clause-adopted c = later-adopted c.args.w.now c.drain.new.w (way-later c.args.w.now c.drain.new.w c.in_err-drain.ensures.err)

-- what was done leads on from where it began
done : (c : goal.After-reset_full) → IsLater c.args.w.now c.reset_full.new.w
done c =
    later-both c.args.w.now c.drain.new.w c.reset_full.new.w (drain-later c.args.w.now c.drain.new.w c.in_ok-drain.ensures.after)
    (resets-later c.drain.new.w c.reset_full.new.w c.reset_full.result c.reset_full.ensures.ok c.reset_full.ensures.err)

pub returns-clause-resets : goal.returns-clause-resets
returns-clause-resets c = (is-clear c.args.w.now c.drain.new.w c.reset_full.new.w c.reset_full.result c.in_ok-drain.ensures.after c.reset_full.ensures.ok).0

pub returns-clause-lawful : goal.returns-clause-lawful
returns-clause-lawful c =
    let w = c.args.w.now in
    end-resets (fabric_at w.links.cables 0) w c.reset_full.result c.reached.ensures (returns-clause-resets c)

pub returns-clause-after : goal.returns-clause-after
returns-clause-after c = (is-clear c.args.w.now c.drain.new.w c.reset_full.new.w c.reset_full.result c.in_ok-drain.ensures.after c.reset_full.ensures.ok).1

pub returns-clause-err : goal.returns-clause-err
returns-clause-err c = on-err c.reset_full.result (clear-behind c.args.w.now c.drain.new.w c.reset_full.new.w c.in_ok-drain.ensures.after) c.reset_full.ensures.err

pub returns-clause-idle : goal.returns-clause-idle
returns-clause-idle c = is-idle c.args.w.now c.reset_full.new.w c.reset_full.result (returns-clause-after c)

pub returns-clause-cables : goal.returns-clause-cables
returns-clause-cables c = log-cables (log.clear c.args.w.now) c.args.w.now c.reset_full.new.w c.reset_full.result (clear-leaves c.args.w.now) (returns-clause-after c) (returns-clause-err c)

pub returns-clause-hosts : goal.returns-clause-hosts
returns-clause-hosts c = later-hosts c.args.w.now c.reset_full.new.w c.moment.ensures.kept (done c)

pub returns-clause-channels : goal.returns-clause-channels
returns-clause-channels c = channels-stay c.args.w.now c.reset_full.new.w c.moment.ensures.kept (done c) (ap life_channels (returns-clause-cables c))

pub returns-clause-adopted : goal.returns-clause-adopted
returns-clause-adopted c = later-adopted c.args.w.now c.reset_full.new.w (done c)
