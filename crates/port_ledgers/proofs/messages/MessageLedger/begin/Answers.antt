use Rattle.std.proofs.Common.{[], ◌∷◌, ◌++◌, List, ap, ◌∙◌, subst}
use Rattle.port_ledgers.specs.declared.lane.SentMessage.{SentMessage}
use Rattle.port_ledgers.specs.Waiting.{IsPut}
use Rattle.port_ledgers.proofs.Order.{put_new}
use Rattle.port_ledgers.proofs.messages.MessageLedger.begin.Goals as goal

pub returns-in-Ok-clause-ok : goal.returns-in-Ok-clause-ok
returns-in-Ok-clause-ok c =
    subst (λ o. IsPut o c.insert.new.self.entries c.args.lane (c.args.m ∷ [])) c.self.view_is
    (put_new c.self.inside.queues.entries c.insert.new.self.entries c.args.lane c.push.new.self (c.args.m ∷ [])
    (c.in_ok-push.ensures.ok ∙ ap (λ (w : List SentMessage). w ++ c.args.m ∷ []) c.new-queue.ensures) c.in-Ok.ensures.updates.0)
