use Rattle.std.proofs.Common.{◌≡◌, true, refl, ap, sym, ◌∙◌, subst, ℕ, List, IfOk, OnErr}
use Rattle.std.specs.Prelude.{Some, is_some}
use Rattle.std.specs.Map.{lookup}
use Rattle.std.proofs.lemmas.Result.{on_err_weaker}
use Rattle.port_ledgers.specs.declared.lane.PortName.{PortName}
use Rattle.port_ledgers.specs.Told.{Received}
use Rattle.port_ledgers.specs.Held.{IsToldTo, IsPortPut, is_port, may_be_said, port_for}
use Rattle.port_ledgers.proofs.Holding.{told-open, told-closed, recv-back, both-on_ok, port-same}
use Rattle.port_ledgers.proofs.tokens.TokenLedger.recv_back.Goals as goal
use Rattle.port_ledgers.proofs.tokens.TokenLedger.recv_back.Goals.{in-Some, in-None}

pub returns-clause-told : goal.returns-clause-told
returns-clause-told c =
    let old = c.self.inside.ports.entries in
    let t = λ (sport : ℕ) (body : List ℕ). Received c.args.lane sport body c.args.token in
    subst (λ o. IfOk c.match-get_mut.result (λ is. (sport : ℕ) (body : List ℕ) → IsToldTo o c.match-get_mut.self-inside.ports.entries (t sport body) is)) c.self.view_is
    (elim c.match-get_mut.branch [
      | in-Some w ↦ (
          let x = w.give_back_recv.new.self in
          let p = w.in-Some.open.now in
          let put = (c.get_mut.follows.holds x).3 (ap is_some (sym w.in-Some.ensures.value)) in
          subst (λ i. IfOk c.match-get_mut.result (λ is. (sport : ℕ) (body : List ℕ) → IsToldTo old i.ports.entries (t sport body) is)) (sym w.self-inside-is)
          (subst (λ r. IfOk r (λ is. (sport : ℕ) (body : List ℕ) → IsToldTo old (c.get_mut.follows.lender x).entries (t sport body) is)) (sym w.result-is)
          (both-on_ok w.give_back_recv.result _ _ (λ is. (sport : ℕ) (body : List ℕ) → IsToldTo old (c.get_mut.follows.lender x).entries (t sport body) is)
          (λ is e b. λ sport body. told-open old (c.get_mut.follows.lender x).entries (t sport body) is p x w.in-Some.ensures.value e (ap Some b ∙ recv-back c.args.lane sport body c.args.token p is e) put.0)
          w.give_back_recv.ensures.out w.give_back_recv.ensures.back)))
      | in-None w ↦ (
          subst (λ i. IfOk c.match-get_mut.result (λ is. (sport : ℕ) (body : List ℕ) → IsToldTo old i.ports.entries (t sport body) is)) (sym w.self-inside-is)
          (subst (λ r. IfOk c.match-get_mut.result (λ is. (sport : ℕ) (body : List ℕ) → IsToldTo old r.entries (t sport body) is)) (sym c.get_mut.follows.holds-at-none)
          (subst (λ r. IfOk r (λ is. (sport : ℕ) (body : List ℕ) → IsToldTo old old (t sport body) is)) (sym w.result-is) (λ sport body. told-closed old (t sport body) w.in-None.ensures.value refl))))
    ])

pub returns-clause-err : goal.returns-clause-err
returns-clause-err c =
    let old = c.self.inside.ports.entries in
    let a : PortName = record { host = c.args.lane.to; port = c.args.lane.port } in
    subst (λ o. OnErr c.match-get_mut.result ((sport : ℕ) (body : List ℕ) → IsPortPut o c.match-get_mut.self-inside.ports.entries a (lookup (is_port a) o))) c.self.view_is
    (elim c.match-get_mut.branch [
      | in-Some w ↦ (
          let x = w.give_back_recv.new.self in
          let p = w.in-Some.open.now in
          let put = (c.get_mut.follows.holds x).3 (ap is_some (sym w.in-Some.ensures.value)) in
          subst (λ i. OnErr c.match-get_mut.result ((sport : ℕ) (body : List ℕ) → IsPortPut old i.ports.entries a (lookup (is_port a) old))) (sym w.self-inside-is)
          (subst (λ r. OnErr r ((sport : ℕ) (body : List ℕ) → IsPortPut old (c.get_mut.follows.lender x).entries a (lookup (is_port a) old))) (sym w.result-is)
          (on_err_weaker w.give_back_recv.result (λ e. λ sport body. port-same old (c.get_mut.follows.lender x).entries a p x w.in-Some.ensures.value e put.0) w.give_back_recv.ensures.err)))
      | in-None w ↦ subst (λ r. OnErr r ((sport : ℕ) (body : List ℕ) → IsPortPut old c.match-get_mut.self-inside.ports.entries a (lookup (is_port a) old))) (sym w.result-is) tt
    ])

pub returns-clause-memory : goal.returns-clause-memory
returns-clause-memory c =
    let old = c.self.inside.ports.entries in
    let t = λ (sport : ℕ) (body : List ℕ). Received c.args.lane sport body c.args.token in
    subst (λ o. OnErr c.match-get_mut.result ((sport : ℕ) (body : List ℕ) → may_be_said (t sport body) (port_for o (t sport body)) ≡ true)) c.self.view_is
    (elim c.match-get_mut.branch [
      | in-Some w ↦ (
          subst (λ r. OnErr r ((sport : ℕ) (body : List ℕ) → may_be_said (t sport body) (port_for old (t sport body)) ≡ true)) (sym w.result-is)
          (on_err_weaker w.give_back_recv.result (λ e. λ sport body. sym (ap (may_be_said (t sport body)) w.in-Some.ensures.value) ∙ e) w.give_back_recv.ensures.memory))
      | in-None w ↦ subst (λ r. OnErr r ((sport : ℕ) (body : List ℕ) → may_be_said (t sport body) (port_for old (t sport body)) ≡ true)) (sym w.result-is) tt
    ])
