use Rattle.std.proofs.Common.{◌≡◌, ap, sym, ◌∙◌, subst}
use Rattle.std.specs.Prelude.{is_some}
use Rattle.port_ledgers.specs.Waiting.{IsPut, waiting, after_message}
use Rattle.port_ledgers.proofs.Order.{put_new, put_same, waiting-some, waiting-none}
use Rattle.port_ledgers.proofs.messages.MessageLedger.take.Goals as goal
use Rattle.port_ledgers.proofs.messages.MessageLedger.take.Goals.{in-Some, in-None}

pub returns-clause-rest : goal.returns-clause-rest
returns-clause-rest c =
    let old = c.self.inside.queues.entries in
    let l = c.args.lane in
    let after = after_message c.args.sport c.args.body.now in
    subst (λ o. IsPut o c.match-get_mut.self-inside.queues.entries l (after (waiting o l))) c.self.view_is
    (elim c.match-get_mut.branch [
      | in-Some w ↦ (
          let x = w.receive.new.self in
          let before : waiting old l ≡ w.in-Some.queue.now = waiting-some old l w.in-Some.queue.now w.in-Some.ensures.value in
          let held = (c.get_mut.follows.holds x).3 (ap is_some (sym w.in-Some.ensures.value)) in
          subst (λ i. IsPut old i.queues.entries l (after (waiting old l))) (sym w.self-inside-is)
          (put_new old (c.get_mut.follows.lender x).entries l x (after (waiting old l)) (w.receive.ensures.rest ∙ ap after (sym before)) held.0))
      | in-None w ↦ (
          let none : waiting old l ≡ after (waiting old l) = waiting-none old l w.in-None.ensures.value ∙ sym (ap after (waiting-none old l w.in-None.ensures.value)) in
          subst (λ i. IsPut old i.queues.entries l (after (waiting old l))) (sym w.self-inside-is)
          (subst (λ r. IsPut old r.entries l (after (waiting old l))) (sym c.get_mut.follows.holds-at-none)
          (subst (IsPut old old l) none (put_same old l))))
    ])
