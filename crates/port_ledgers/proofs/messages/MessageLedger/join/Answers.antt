use Rattle.std.proofs.Common.{◌≡◌, [], ◌∷◌, ◌++◌, List, ap, sym, ◌∙◌, subst}
use Rattle.std.specs.Prelude.{is_some}
use Rattle.std.proofs.lemmas.Result.{on_ok_weaker, on_err_weaker}
use Rattle.port_ledgers.specs.declared.lane.SentMessage.{SentMessage}
use Rattle.port_ledgers.specs.Waiting.{waiting, IsPut}
use Rattle.port_ledgers.proofs.Order.{put_new, waiting-some}
use Rattle.port_ledgers.proofs.messages.MessageLedger.join.Goals as goal

pub returns-in-Some-clause-ok : goal.returns-in-Some-clause-ok
returns-in-Some-clause-ok c =
    let old = c.self.inside.queues.entries in
    let l = c.args.lane in
    let w = c.push.new.self in
    let before : waiting old l ≡ c.in-Some.queue.now = waiting-some old l c.in-Some.queue.now c.in-Some.ensures.value in
    let held = (c.get_mut.follows.holds w).3 (ap is_some (sym c.in-Some.ensures.value)) in
    on_ok_weaker c.push.result
    (λ e. subst (λ o. IsPut o (c.get_mut.follows.lender w).entries l (waiting o l ++ c.args.m ∷ [])) c.self.view_is
    (put_new old (c.get_mut.follows.lender w).entries l w (waiting old l ++ c.args.m ∷ []) (e ∙ ap (λ (x : List SentMessage). x ++ c.args.m ∷ []) (sym before)) held.0))
    c.push.ensures.ok

pub returns-in-Some-clause-err : goal.returns-in-Some-clause-err
returns-in-Some-clause-err c =
    let old = c.self.inside.queues.entries in
    let l = c.args.lane in
    let w = c.push.new.self in
    let before : waiting old l ≡ c.in-Some.queue.now = waiting-some old l c.in-Some.queue.now c.in-Some.ensures.value in
    let held = (c.get_mut.follows.holds w).3 (ap is_some (sym c.in-Some.ensures.value)) in
    on_err_weaker c.push.result
    (λ e. subst (λ o. IsPut o (c.get_mut.follows.lender w).entries l (waiting o l)) c.self.view_is
    (put_new old (c.get_mut.follows.lender w).entries l w (waiting old l) (e ∙ sym before) held.0))
    c.push.ensures.err
