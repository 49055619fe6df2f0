use Rattle.std.proofs.Common.{refl, ap, sym, ◌∙◌, subst}
use Rattle.std.specs.Prelude.{Some, is_some}
use Rattle.port_ledgers.specs.Told.{Told, Provided}
use Rattle.port_ledgers.specs.Held.{IsToldTo}
use Rattle.port_ledgers.proofs.Holding.{told-open, told-closed, recv-used}
use Rattle.port_ledgers.proofs.tokens.TokenLedger.take_recv.Goals as goal
use Rattle.port_ledgers.proofs.tokens.TokenLedger.take_recv.Goals.{in-Some, in-None}

pub returns : goal.returns
returns c =
    let old = c.self.inside.ports.entries in
    let t : Told = Provided c.args.port c.args.token in
    subst (λ o. IsToldTo o c.match-get_mut.self-inside.ports.entries t c.match-get_mut.result) c.self.view_is
    (elim c.match-get_mut.branch [
      | in-Some w ↦ (
          let x = w.take_recv.new.self in
          let is = w.take_recv.result in
          let p = w.in-Some.open.now in
          let put = (c.get_mut.follows.holds x).3 (ap is_some (sym w.in-Some.ensures.value)) in
          subst (λ i. IsToldTo old i.ports.entries t c.match-get_mut.result) (sym w.self-inside-is)
          (subst (IsToldTo old (c.get_mut.follows.lender x).entries t) (sym w.result-is)
          (told-open old (c.get_mut.follows.lender x).entries t is p x w.in-Some.ensures.value w.take_recv.ensures.held (ap Some w.take_recv.ensures.rest ∙ recv-used c.args.port c.args.token p is w.take_recv.ensures.held) put.0)))
      | in-None w ↦ (
          subst (λ i. IsToldTo old i.ports.entries t c.match-get_mut.result) (sym w.self-inside-is)
          (subst (λ r. IsToldTo old r.entries t c.match-get_mut.result) (sym c.get_mut.follows.holds-at-none)
          (subst (IsToldTo old old t) (sym w.result-is) (told-closed old t w.in-None.ensures.value refl))))
    ])
