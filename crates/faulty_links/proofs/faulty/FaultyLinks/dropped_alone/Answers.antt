use Rattle.std.proofs.Common.{subst}
use Rattle.faulty_links.specs.Held.{CountsDrop}
use Rattle.faulty_links.proofs.faulty.FaultyLinks.dropped_alone.Goals as goal

pub returns-clause-after : goal.returns-clause-after
returns-clause-after c = subst (λ p. CountsDrop p c.drop_for.new.self) c.count_injection.ensures c.drop_for.ensures.after
