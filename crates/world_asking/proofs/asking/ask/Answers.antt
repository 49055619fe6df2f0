use Rattle.std.proofs.Common.{sym, ◌∙◌}
use Rattle.log_laws.proofs.Asks.{ask-given_up, ask-hosts, ask-loops}
use Rattle.world_drain.proofs.Later.{on-any}
use Rattle.world_asking.proofs.asking.ask.Goals as goal

pub returns-in_err-give_up_all-clause-err : goal.returns-in_err-give_up_all-clause-err
returns-in_err-give_up_all-clause-err c = on-any c.from_residual.result (ask-given_up c.args.made c.args.mapper c.args.tries c.args.walk.now c.args.w.now c.give_up_all.new.w c.in_err-give_up_all.ensures.err)

pub returns-in_err-hosts-clause-err : goal.returns-in_err-hosts-clause-err
returns-in_err-hosts-clause-err c =
    on-any c.from_residual-in_err-hosts.result
    (ask-hosts c.args.made c.args.mapper c.args.tries c.args.walk.now c.args.w.now c.give_up_all.new.w c.host_tries.new.w c.in_ok-give_up_all.ensures.after c.in_err-hosts.ensures.err)

pub returns-in_err-loops-clause-err : goal.returns-in_err-loops-clause-err
returns-in_err-loops-clause-err c =
    on-any c.from_residual-in_err-loops.result
    (ask-loops c.args.made c.args.mapper c.args.tries c.args.walk.now c.args.w.now c.give_up_all.new.w c.host_tries.new.w c.loop_tries.new.w c.in_ok-give_up_all.ensures.after
    (sym c.in_default.is ∙ c.in_ok-hosts.ensures.found) c.in_ok-hosts.ensures.after c.in_err-loops.ensures.err)
