use Rattle.world_defs.specs.History.{fabric_at}
use Rattle.world_defs.specs.Logs as log
use Rattle.fab_world.specs.Held.{IsLater}
use Rattle.fab_world.proofs.Moments.{later-hosts}
use Rattle.world_drain.proofs.Cables.{log-cables, drain-leaves}
use Rattle.world_drain.proofs.Ends.{end-still, end-idle}
use Rattle.world_drain.proofs.Heard.{drain-heard, drained-later}
use Rattle.world_drain.proofs.Later.{on-ok}
use Rattle.world_drain.proofs.draining.drain_watching.Goals as goal

-- what was done leads on from where it began
done : (c : goal.After-drain_parts) → IsLater c.args.w.now c.drain_parts.new.w
done c = drained-later c.args.w.now c.drain_parts.new.w c.drain_parts.result c.drain_parts.ensures.after c.drain_parts.ensures.err

pub returns-clause-heard : goal.returns-clause-heard
returns-clause-heard c = drain-heard c.args.watch c.args.w.now c.drain_parts.result c.moment.ensures.kept c.drain_parts.ensures.seen

pub returns-clause-still : goal.returns-clause-still
returns-clause-still c = on-ok c.drain_parts.result (end-still c.args.w.now c.drain_parts.new.w) c.drain_parts.ensures.after

pub returns-clause-lawful : goal.returns-clause-lawful
returns-clause-lawful c =
    let w = c.args.w.now in
    on-ok c.drain_parts.result (end-idle (fabric_at w.links.cables 0) w c.drain_parts.new.w c.reached.ensures) c.drain_parts.ensures.after

pub returns-clause-cables : goal.returns-clause-cables
returns-clause-cables c =
    log-cables (log.drain c.args.w.now) c.args.w.now c.drain_parts.new.w c.drain_parts.result (drain-leaves c.args.w.now) c.drain_parts.ensures.after c.drain_parts.ensures.err

pub returns-clause-hosts : goal.returns-clause-hosts
returns-clause-hosts c = later-hosts c.args.w.now c.drain_parts.new.w c.moment.ensures.kept (done c)
