use Rattle.fab_remap.proofs.Possible.{revoke-event}
use Rattle.fab_remap.proofs.epochs.revoke_host.Goals as goal

pub returns-clause-event : goal.returns-clause-event
returns-clause-event c =
    revoke-event c.args.w.now c.happen-effect.new.w c.args.host c.happen-effect.result c.is_done.result c.happen-effect.ensures.event c.is_done.ensures
