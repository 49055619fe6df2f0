use Rattle.std.proofs.Common.{◌≡◌, ℕ, Bool, true, false, true≢false, not, ◌&&◌, refl, sym, ◌∙◌, ap, if◌then◌else◌}
use Rattle.std.specs.Prelude.{is_some, Some, None}
use Rattle.world_defs.specs.declared.event.Event.TheVariants.{Part}
use Rattle.world_defs.specs.World.{WorldState, node_at}
use Rattle.world_defs.specs.Step.{step}
use Rattle.world_defs.specs.Install.{has_part_come, has_staged_answer, is_acknowledged}
use Rattle.world_defs.specs.Log.{Log}
use Rattle.world_defs.specs.Logs as log
use Rattle.log_laws.proofs.Installs.{part_try-sent, part_try-answer}
use Rattle.log_laws.proofs.PartWay.{way-still}
use Rattle.world_drain.specs.declared.seen.Seen.{Seen}
use Rattle.world_drain.proofs.Later.{on-any}
use Rattle.world_drain.proofs.Watching.{epoch-heard}
use Rattle.table_installing.proofs.parts.part_try.Goals as goal

pub returns-in_err-happen-clause-err : goal.returns-in_err-happen-clause-err
returns-in_err-happen-clause-err c = on-any c.from_residual.result (way-still c.args.w.now c.happen.new.w (log.part_try c.args.mapper c.args.dst c.args.part c.args.w.now).events c.in_err-happen.ensures.err)

pub returns-in_err-sent-clause-err : goal.returns-in_err-sent-clause-err
returns-in_err-sent-clause-err c =
    on-any c.from_residual-in_err-sent.result
    (part_try-sent c.args.mapper c.args.dst c.args.part c.args.w.now c.happen.new.w c.send.new.w c.in_ok-happen.ensures.after c.in_err-sent.ensures.err)

is-true : (b : Bool) → not b ≡ false → b ≡ true
is-true true e = refl
is-true false e = absurd (true≢false e)

-- a host that took the part sends its acknowledgement, and the try finds what the mapper hears then
heard-then : (mapper dst part : ℕ) (w u x : WorldState) → u ≡ (step w (Part dst part)).1 → x ≡ (log.sends mapper u).world → has_staged_answer (log.sends mapper u).world dst (log.sends mapper u).value.effects ≡ true
    → is_acknowledged mapper dst part (log.sends dst x).value.effects ≡ (log.part_try mapper dst part w).value.found
unfolding log.part_try
heard-then mapper dst part w u x is led has =
    let found : WorldState → Bool → Bool = λ v b. (log.answered w false (λ ack. is_acknowledged mapper dst part ack.effects) (log.sends mapper v).value (if b then Some dst else None) (log.sends mapper v).world).value.found in
    ap (λ y. is_acknowledged mapper dst part (log.sends dst y).value.effects) led
    ∙ sym (ap (found u) has)
    ∙ ap (λ v. found v (has_staged_answer (log.sends mapper v).world dst (log.sends mapper v).value.effects)) is

pub returns-clause-found : goal.returns-clause-found
returns-clause-found c =
    let u : WorldState = c.happen.new.w in
    let x : WorldState = c.send.new.w in
    let sent : Log log.Sent = log.sends c.args.mapper u in
    let came : has_part_come c.args.dst sent.value.effects ≡ true = sym (ap (λ s. s.came) c.in_ok-sent.ensures.seen) ∙ is-true c.in_ok-sent.sent.came c.if-not-sent.false in
    let ack : is_some (node_at sent.world c.args.dst).part_ack ≡ true =
    sym (ap (λ w. is_some (node_at w c.args.dst).part_ack) c.in_ok-sent.ensures.after) ∙ (sym c.has_part_ack.ensures ∙ c.if-not-has_part_ack.false) in
    let has : has_staged_answer sent.world c.args.dst sent.value.effects ≡ true = ap (λ b. b && is_some (node_at sent.world c.args.dst).part_ack) came ∙ ack in
    ap (λ (s : Seen). is_some s.acknowledged) c.in_ok-answer.ensures.seen ∙ epoch-heard c.args.mapper c.args.dst c.args.part (log.sends c.args.dst x).value.effects
    ∙ heard-then c.args.mapper c.args.dst c.args.part c.args.w.now u x c.in_ok-happen.ensures.after c.in_ok-sent.ensures.after has

pub returns-in_err-answer-clause-err : goal.returns-in_err-answer-clause-err
returns-in_err-answer-clause-err c =
    let u : WorldState = c.happen.new.w in
    let x : WorldState = c.send.new.w in
    let sent : Log log.Sent = log.sends c.args.mapper u in
    let led : x ≡ sent.world = c.in_ok-sent.ensures.after in
    let came : has_part_come c.args.dst sent.value.effects ≡ true = sym (ap (λ s. s.came) c.in_ok-sent.ensures.seen) ∙ is-true c.in_ok-sent.sent.came c.if-not-sent.false in
    let ack : is_some (node_at sent.world c.args.dst).part_ack ≡ true =
    sym (ap (λ w. is_some (node_at w c.args.dst).part_ack) led) ∙ (sym c.has_part_ack.ensures ∙ c.if-not-has_part_ack.false) in
    let has : has_staged_answer sent.world c.args.dst sent.value.effects ≡ true = ap (λ b. b && is_some (node_at sent.world c.args.dst).part_ack) came ∙ ack in
    on-any c.from_residual-in_err-answer.result
    (part_try-answer c.args.mapper c.args.dst c.args.part c.args.w.now u x c.send-2.new.w c.in_ok-happen.ensures.after led has c.in_err-answer.ensures.err)
