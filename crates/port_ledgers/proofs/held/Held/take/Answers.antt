use Rattle.std.proofs.Common.{Some, None, nat_eq, ap, ◌∙◌}
use Rattle.std.specs.List.{remove}
use Rattle.port_ledgers.proofs.Lists.{found_any, removed_first}
use Rattle.port_ledgers.proofs.held.Held.take.Goals as goal

pub returns-in-Some-clause-held : goal.returns-in-Some-clause-held
returns-in-Some-clause-held c = found_any (nat_eq c.args.token) c.args.self.now (Some c.in-Some.at) c.in-Some.ensures

pub returns-in-Some-clause-rest : goal.returns-in-Some-clause-rest
returns-in-Some-clause-rest c =
    removed_first (nat_eq c.args.token) c.args.self.now c.remove-used.new.self.items c.in-Some.at c.in-Some.ensures
    (c.remove-used.ensures.items ∙ ap (λ l. remove l c.in-Some.at) c.self.view_is)

pub returns-in-None-clause-held : goal.returns-in-None-clause-held
returns-in-None-clause-held c = found_any (nat_eq c.args.token) c.args.self.now None c.in-None.ensures
