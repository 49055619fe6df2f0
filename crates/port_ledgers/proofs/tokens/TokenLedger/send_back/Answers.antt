use Rattle.std.proofs.Common.{◌≡◌, true, refl, ap, sym, ◌∙◌, subst, IfOk, OnErr}
use Rattle.std.specs.Prelude.{Some, is_some}
use Rattle.std.specs.Map.{lookup}
use Rattle.std.proofs.lemmas.Result.{on_err_weaker}
use Rattle.port_ledgers.specs.declared.lane.PortName.{PortName}
use Rattle.port_ledgers.specs.Told.{Told, Returned}
use Rattle.port_ledgers.specs.Held.{IsToldTo, IsPortPut, is_port, may_be_said, port_for}
use Rattle.port_ledgers.proofs.Holding.{told-open, told-closed, send-back, both-on_ok, port-same}
use Rattle.port_ledgers.proofs.tokens.TokenLedger.send_back.Goals as goal
use Rattle.port_ledgers.proofs.tokens.TokenLedger.send_back.Goals.{in-Some, in-None}

pub returns-clause-told : goal.returns-clause-told
returns-clause-told c =
    let old = c.self.inside.ports.entries in
    let t : Told = Returned c.args.port c.args.token in
    subst (λ o. IfOk c.match-get_mut.result (λ is. IsToldTo o c.match-get_mut.self-inside.ports.entries (t) is)) c.self.view_is
    (elim c.match-get_mut.branch [
      | in-Some w ↦ (
          let x = w.give_back_send.new.self in
          let p = w.in-Some.open.now in
          let put = (c.get_mut.follows.holds x).3 (ap is_some (sym w.in-Some.ensures.value)) in
          subst (λ i. IfOk c.match-get_mut.result (λ is. IsToldTo old i.ports.entries (t) is)) (sym w.self-inside-is)
          (subst (λ r. IfOk r (λ is. IsToldTo old (c.get_mut.follows.lender x).entries (t) is)) (sym w.result-is)
          (both-on_ok w.give_back_send.result _ _ (λ is. IsToldTo old (c.get_mut.follows.lender x).entries (t) is)
          (λ is e b. told-open old (c.get_mut.follows.lender x).entries (t) is p x w.in-Some.ensures.value e (ap Some b ∙ send-back c.args.port c.args.token p is e) put.0)
          w.give_back_send.ensures.out w.give_back_send.ensures.back)))
      | in-None w ↦ (
          subst (λ i. IfOk c.match-get_mut.result (λ is. IsToldTo old i.ports.entries (t) is)) (sym w.self-inside-is)
          (subst (λ r. IfOk c.match-get_mut.result (λ is. IsToldTo old r.entries (t) is)) (sym c.get_mut.follows.holds-at-none)
          (subst (λ r. IfOk r (λ is. IsToldTo old old (t) is)) (sym w.result-is) (told-closed old (t) w.in-None.ensures.value refl))))
    ])

pub returns-clause-err : goal.returns-clause-err
returns-clause-err c =
    let old = c.self.inside.ports.entries in
    let a : PortName = c.args.port in
    subst (λ o. OnErr c.match-get_mut.result (IsPortPut o c.match-get_mut.self-inside.ports.entries a (lookup (is_port a) o))) c.self.view_is
    (elim c.match-get_mut.branch [
      | in-Some w ↦ (
          let x = w.give_back_send.new.self in
          let p = w.in-Some.open.now in
          let put = (c.get_mut.follows.holds x).3 (ap is_some (sym w.in-Some.ensures.value)) in
          subst (λ i. OnErr c.match-get_mut.result (IsPortPut old i.ports.entries a (lookup (is_port a) old))) (sym w.self-inside-is)
          (subst (λ r. OnErr r (IsPortPut old (c.get_mut.follows.lender x).entries a (lookup (is_port a) old))) (sym w.result-is)
          (on_err_weaker w.give_back_send.result (λ e. port-same old (c.get_mut.follows.lender x).entries a p x w.in-Some.ensures.value e put.0) w.give_back_send.ensures.err)))
      | in-None w ↦ subst (λ r. OnErr r (IsPortPut old c.match-get_mut.self-inside.ports.entries a (lookup (is_port a) old))) (sym w.result-is) tt
    ])

pub returns-clause-memory : goal.returns-clause-memory
returns-clause-memory c =
    let old = c.self.inside.ports.entries in
    let t : Told = Returned c.args.port c.args.token in
    subst (λ o. OnErr c.match-get_mut.result (may_be_said t (port_for o t) ≡ true)) c.self.view_is
    (elim c.match-get_mut.branch [
      | in-Some w ↦ (
          subst (λ r. OnErr r (may_be_said t (port_for old t) ≡ true)) (sym w.result-is)
          (on_err_weaker w.give_back_send.result (λ e. sym (ap (may_be_said t) w.in-Some.ensures.value) ∙ e) w.give_back_send.ensures.memory))
      | in-None w ↦ subst (λ r. OnErr r (may_be_said t (port_for old t) ≡ true)) (sym w.result-is) tt
    ])
