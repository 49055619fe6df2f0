use Rattle.std.proofs.Common.{true, subst}
use Rattle.port_ledgers.specs.Told.{Opened}
use Rattle.port_ledgers.specs.Held.{IsToldTo}
use Rattle.port_ledgers.proofs.Holding.{told-opened}
use Rattle.port_ledgers.proofs.tokens.TokenLedger.begin.Goals as goal

pub returns-in-Ok-clause-told : goal.returns-in-Ok-clause-told
returns-in-Ok-clause-told c =
    subst (λ o. IsToldTo o c.insert.new.self.entries (Opened c.args.port c.args.sends c.args.recvs) true) c.self.view_is
    (told-opened c.self.inside.ports.entries c.insert.new.self.entries c.args.port c.args.sends c.args.recvs _ c.in_ok-open.ensures c.in-Ok.ensures.updates.0)
