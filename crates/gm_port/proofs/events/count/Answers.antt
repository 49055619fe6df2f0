use Rattle.std.proofs.Common.{◌++◌, [], ◌∷◌, append-nil, sym, subst}
use Rattle.gm_defs.specs.Token.{sent_tokens, received_tokens}
use Rattle.gm_port.specs.Held.{event_of}
use Rattle.gm_port.specs.Tallies.{AreTallied}
use Rattle.gm_port.proofs.Tallies.{tallied_more}
use Rattle.gm_port.proofs.events.count.Goals as goal

pub returns-in-Sent-clause-sends : goal.returns-in-Sent-clause-sends
returns-in-Sent-clause-sends c ks a =
    subst (λ e. AreTallied c.add.new.self (ks ++ sent_tokens (event_of e ∷ []))) (sym c.in-Sent.is)
    (subst (λ n. AreTallied c.add.new.self (ks ++ n ∷ [])) c.number.ensures
    (subst (λ t. AreTallied t (ks ++ c.number.result ∷ [])) (sym c.add.ensures) (tallied_more c.args.sent.now ks c.number.result a)))

pub returns-in-Sent-clause-receives : goal.returns-in-Sent-clause-receives
returns-in-Sent-clause-receives c ks a =
    subst (λ e. AreTallied c.args.received.now (ks ++ received_tokens (event_of e ∷ []))) (sym c.in-Sent.is) (subst (AreTallied c.args.received.now) (sym (append-nil ks)) a)

pub returns-in-Received-clause-sends : goal.returns-in-Received-clause-sends
returns-in-Received-clause-sends c ks a =
    subst (λ e. AreTallied c.args.sent.now (ks ++ sent_tokens (event_of e ∷ []))) (sym c.in-Received.is) (subst (AreTallied c.args.sent.now) (sym (append-nil ks)) a)

pub returns-in-Received-clause-receives : goal.returns-in-Received-clause-receives
returns-in-Received-clause-receives c ks a =
    subst (λ e. AreTallied c.add-in-Received.new.self (ks ++ received_tokens (event_of e ∷ []))) (sym c.in-Received.is)
    (subst (λ n. AreTallied c.add-in-Received.new.self (ks ++ n ∷ [])) c.number-in-Received.ensures
    (subst (λ t. AreTallied t (ks ++ c.number-in-Received.result ∷ [])) (sym c.add-in-Received.ensures) (tallied_more c.args.received.now ks c.number-in-Received.result a)))
