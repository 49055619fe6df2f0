use Rattle.std.proofs.Common.{◌≡◌, ◌<◌, ◌≤◌, ◌+◌, ℕ, length, min, ap, sym, ◌∙◌, subst, arith}
use Rattle.world_defs.specs.History.{fabric_at}
use Rattle.world_defs.specs.World.{WorldState, last_count}
use Rattle.world_defs.specs.Settle.{unacknowledged_in}
use Rattle.world_defs.specs.Settled.{IsSettled}
use Rattle.world_laws.proofs.Rounds.{settle-bounded}
use Rattle.lawful_laws.proofs.Settling.{settle-flows}
use Rattle.message_laws.specs.Got.{IsAllGot}
use Rattle.message_laws.proofs.Reaching.{settle-got}
use Rattle.world_defs.specs.Logs as log
use Rattle.world_defs.specs.Row.{IsPartWay}
use Rattle.world_defs.proofs.LogRows.{settle-row, byte_settles}
use Rattle.log_laws.proofs.Settles.{settle-clear, settle-rounds}
use Rattle.fab_world.specs.Held.{IsLater}
use Rattle.fab_world.proofs.Moments.{later-hosts, later-adopted}
use Rattle.settle_laws.proofs.Flowing.{settle-ends_settled}
use Rattle.world_drain.proofs.Cables.{way-pulled, done-pulled, settle-plugs_none, same-pulled, pulled-channels, channels-stay}
use Rattle.world_drain.proofs.Later.{way-later, on-any}
use Rattle.world_drain.proofs.WholeRound.{IsSettle, settled-is, settled-idle}
use Rattle.world_drain.proofs.rounds.settle.Goals as goal

-- where memory ran out among the rounds
cut_way : (c : goal.After-from_residual-in_err-rest) → IsPartWay c.args.w.now (log.settle c.args.w.now).events c.all_rounds.new.w
cut_way c = settle-rounds c.args.w.now c.clear.new.w c.all_rounds.new.w c.in_ok-first.ensures.after c.in_err-rest.ensures.err

cut : (c : goal.After-from_residual-in_err-rest) → IsLater c.args.w.now c.all_rounds.new.w
cut c = way-later c.args.w.now c.all_rounds.new.w (cut_way c)

pub returns-in_err-first-clause-err : goal.returns-in_err-first-clause-err
returns-in_err-first-clause-err c = on-any c.from_residual.result (settle-clear c.args.w.now c.clear.new.w c.in_err-first.ensures.err)

pub returns-in_err-first-clause-cables : goal.returns-in_err-first-clause-cables
returns-in_err-first-clause-cables c = same-pulled c.clear.ensures.cables

pub returns-in_err-rest-clause-err : goal.returns-in_err-rest-clause-err
returns-in_err-rest-clause-err c = on-any c.from_residual-in_err-rest.result (cut_way c)

pub returns-in_err-rest-clause-cables : goal.returns-in_err-rest-clause-cables
returns-in_err-rest-clause-cables c = way-pulled (settle-plugs_none c.args.w.now) (cut_way c)

pub returns-in_err-rest-clause-hosts : goal.returns-in_err-rest-clause-hosts
returns-in_err-rest-clause-hosts c = later-hosts c.args.w.now c.all_rounds.new.w c.moment.ensures.kept (cut c)

pub returns-in_err-rest-clause-channels : goal.returns-in_err-rest-clause-channels
returns-in_err-rest-clause-channels c = channels-stay c.args.w.now c.all_rounds.new.w c.moment.ensures.kept (cut c) (pulled-channels (returns-in_err-rest-clause-cables c))

pub returns-in_err-rest-clause-adopted : goal.returns-in_err-rest-clause-adopted
returns-in_err-rest-clause-adopted c = later-adopted c.args.w.now c.all_rounds.new.w (cut c)

-- what was done is a settle
settled : (c : goal.After-saturating_add) → IsSettle c.args.w.now c.all_rounds.new.w c.in_ok-rest.rest.rounds c.saturating_add.result
settled c =
    settled-is c.args.w.now c.clear.new.w c.all_rounds.new.w c.in_ok-rest.rest.rounds c.in_ok-first.first c.in_ok-rest.rest.resets c.saturating_add.result
    c.in_ok-first.ensures.resets c.in_ok-first.ensures.after c.in_ok-first.ensures.few c.in_ok-rest.ensures.ok c.saturating_add.ensures

-- and leads on from where it began
done : (c : goal.After-saturating_add) → IsLater c.args.w.now c.all_rounds.new.w
done c = ((log.settle c.args.w.now).events, (settled c).after ∙ (settle-row byte_settles c.args.w.now).there)

pub returns-clause-after : goal.returns-clause-after
returns-clause-after c = (settled c).after

pub returns-clause-rounds : goal.returns-clause-rounds
returns-clause-rounds c = (settled c).number

-- as many as fragments and planned faults allow
pub returns-clause-few_rounds : goal.returns-clause-few_rounds
returns-clause-few_rounds c =
    let w : WorldState = c.args.w.now in
    let senders = c.moment.ensures.kept.senders in
    subst (λ k. (1 ≤ k) × (k ≤ unacknowledged_in w + length w.plan + 1)) (sym (settled c).number) (settle-bounded w senders)

pub returns-clause-resets : goal.returns-clause-resets
returns-clause-resets c = (settled c).counted

none-counted : (k most : ℕ) → k ≡ 0 → min k most ≡ 0
none-counted k most e = omega (arith, e)

-- and none where the traffic was lawful
pub returns-clause-lawful : goal.returns-clause-lawful
returns-clause-lawful c clears =
    let w : WorldState = c.args.w.now in
    (settled c).counted ∙ none-counted (log.settle w).value.resets last_count (settle-flows (fabric_at w.links.cables 0) w c.reached.ensures clears)

-- so it ends settled, and where nothing is unacknowledged all is got
pub returns-clause-settled : goal.returns-clause-settled
returns-clause-settled c left =
    let after = (settled c).after in
    subst IsSettled (sym after) (settle-ends_settled c.args.w.now (record { reached = c.reached.ensures }) (subst (λ (u : WorldState). u.injected < last_count) after left))

pub returns-clause-got : goal.returns-clause-got
returns-clause-got c none =
    let w : WorldState = c.args.w.now in
    let after = (settled c).after in
    subst IsAllGot (sym after) (settle-got (fabric_at w.links.cables 0) w c.reached.ensures (ap unacknowledged_in (sym after) ∙ (sym c.in_ok-rest.ensures.unacked ∙ none)))

pub returns-clause-idle : goal.returns-clause-idle
returns-clause-idle c = settled-idle c.args.w.now c.all_rounds.new.w c.moment.ensures.kept (settled c).after

pub returns-clause-cables : goal.returns-clause-cables
returns-clause-cables c = done-pulled (log.settle c.args.w.now) c.args.w.now c.all_rounds.new.w (settle-plugs_none c.args.w.now) (settled c).after

pub returns-clause-hosts : goal.returns-clause-hosts
returns-clause-hosts c = later-hosts c.args.w.now c.all_rounds.new.w c.moment.ensures.kept (done c)

pub returns-clause-channels : goal.returns-clause-channels
returns-clause-channels c = channels-stay c.args.w.now c.all_rounds.new.w c.moment.ensures.kept (done c) (pulled-channels (returns-clause-cables c))

pub returns-clause-adopted : goal.returns-clause-adopted
returns-clause-adopted c = later-adopted c.args.w.now c.all_rounds.new.w (done c)
