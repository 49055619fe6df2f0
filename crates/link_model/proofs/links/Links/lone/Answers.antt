use Rattle.std.proofs.Common.{◌≢◌, ap, subst}
use Rattle.link_model.specs.FullSlots.{full_count, IsLone}
use Rattle.link_model.proofs.links.Links.lone.Goals as goal

pub returns-in-Some-clause-lone : goal.returns-in-Some-clause-lone
returns-in-Some-clause-lone c = subst (λ l. IsLone l c.in-Some.c) (ap (λ s. s.channels) c.self.view_is) c.in-Some.ensures.lone

pub returns-in-None-clause-none : goal.returns-in-None-clause-none
returns-in-None-clause-none c = subst (λ l. full_count l ≢ 1) (ap (λ s. s.channels) c.self.view_is) c.in-None.ensures.none
