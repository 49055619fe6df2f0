use Rattle.std.proofs.Common.{◌≡◌, true, sym, ◌∙◌, subst}
use Rattle.std.specs.Map.{lookup}
use Rattle.port_ledgers.specs.Told.{Told, Closed}
use Rattle.port_ledgers.specs.Held.{IsToldTo, is_port, may_be_said}
use Rattle.port_ledgers.proofs.Holding.{told-ended, closed-open}
use Rattle.port_ledgers.proofs.tokens.TokenLedger.end.Goals as goal
use Rattle.port_ledgers.proofs.tokens.TokenLedger.end.Goals.{in-Some-1, in-None-1}

pub returns-then-is : goal.returns-then-is
returns-then-is c =
    let a = c.args.port in
    let old = c.self.inside.ports.entries in
    let now = c.args.self.now in
    let new = c.remove-closed.new.self.entries in
    let t : Told = Closed a c.args.count in
    let said : may_be_said t (lookup (is_port a) now) ≡ true = sym c.has_provided-is.ensures ∙ c.if-is.true in
    let may : may_be_said t (lookup (is_port a) old) ≡ true = subst (λ o. may_be_said t (lookup (is_port a) o) ≡ true) (sym c.self.view_is) said in
    let open_port = closed-open a c.args.count (lookup (is_port a) old) may in
    let told : IsToldTo now new t c.has_provided-is.result =
    subst (IsToldTo now new t) (sym c.if-is.true)
    (subst (λ o. IsToldTo o new t true) c.self.view_is (told-ended old new a c.args.count open_port.0 open_port.1 may c.remove-closed.ensures.updates.0)) in
    elim c.match-closed.branch [
      | in-Some-1 w ↦ subst (λ r. IsToldTo now r t c.has_provided-is.result) (sym w.self-is) told
      | in-None-1 w ↦ subst (λ r. IsToldTo now r t c.has_provided-is.result) (sym w.self-is) told
    ]
