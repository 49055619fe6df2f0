use Rattle.std.proofs.Common.{◌≡◌, map, ◌∙◌, ap, subst}
use Rattle.std.specs.List.{range_with_len}
use Rattle.world_defs.specs.declared.event.Event.TheVariants.{Inject}
use Rattle.world_defs.specs.World.{WorldState}
use Rattle.world_defs.specs.Row.{IsPartWay}
use Rattle.log_laws.proofs.Settles.{after_injections, pass-given_up, pass-injects, pass-clear, pass-replays}
use Rattle.world_drain.proofs.Later.{on-any}
use Rattle.world_drain.proofs.WholePass.{IsPass, pass-told, injects-there}
use Rattle.world_drain.proofs.passes.pass.Goals as goal

pub returns-in_err-give_up_all-clause-err : goal.returns-in_err-give_up_all-clause-err
returns-in_err-give_up_all-clause-err c = on-any c.from_residual.result (pass-given_up c.args.w.now c.give_up_all.new.w c.in_err-give_up_all.ensures.err)

pub returns-in_err-moved-clause-err : goal.returns-in_err-moved-clause-err
returns-in_err-moved-clause-err c =
    let t : WorldState = c.give_up_all.new.w in
    let u : WorldState = c.inject_all.new.w in
    on-any c.from_residual-in_err-moved.result
    (pass-injects c.args.w.now t u c.in_ok-give_up_all.ensures.after (subst (λ n. IsPartWay t (map Inject (range_with_len 0 n)) u) c.in_ok-give_up_all.ensures.hosts c.in_err-moved.ensures.err))

pub returns-in_err-resets-clause-err : goal.returns-in_err-resets-clause-err
returns-in_err-resets-clause-err c =
    let w : WorldState = c.args.w.now in
    let u : WorldState = c.inject_all.new.w in
    let here : u ≡ after_injections w = c.in_ok-moved.ensures.after ∙ ap (λ p. p.1) (injects-there w c.give_up_all.new.w c.in_ok-give_up_all.ensures.after c.in_ok-give_up_all.ensures.hosts) in
    on-any c.from_residual-in_err-resets.result (pass-clear w u c.clear.new.w here c.in_err-resets.ensures.err)

pub returns-in_err-replayed-clause-err : goal.returns-in_err-replayed-clause-err
returns-in_err-replayed-clause-err c =
    let w : WorldState = c.args.w.now in
    let u : WorldState = c.inject_all.new.w in
    let here : u ≡ after_injections w = c.in_ok-moved.ensures.after ∙ ap (λ p. p.1) (injects-there w c.give_up_all.new.w c.in_ok-give_up_all.ensures.after c.in_ok-give_up_all.ensures.hosts) in
    on-any c.from_residual-in_err-replayed.result (pass-replays w u c.clear.new.w c.replay_all.new.w here c.in_ok-resets.ensures.after c.in_err-replayed.ensures.err)

told : (c : goal.After-then) → IsPass c.args.w.now c.replay_all.new.w c.then.result.moved c.then.result.resets
told c =
    pass-told c.args.w.now c.give_up_all.new.w c.inject_all.new.w c.clear.new.w c.replay_all.new.w c.in_ok-moved.moved c.in_ok-replayed.replayed.moved c.then.result.moved
    c.in_ok-resets.resets c.in_ok-replayed.replayed.resets c.then.result.resets c.in_ok-give_up_all.ensures.after c.in_ok-give_up_all.ensures.hosts
    c.in_ok-moved.ensures.moved c.in_ok-moved.ensures.after c.in_ok-resets.ensures.resets c.in_ok-resets.ensures.after c.in_ok-resets.ensures.few
    c.in_ok-replayed.ensures.moved c.in_ok-replayed.ensures.resets c.in_ok-replayed.ensures.after c.then.ensures.moved c.then.ensures.resets

pub returns-clause-moved : goal.returns-clause-moved
returns-clause-moved c = (told c).any

pub returns-clause-resets : goal.returns-clause-resets
returns-clause-resets c = (told c).counted

pub returns-clause-after : goal.returns-clause-after
returns-clause-after c = (told c).led
