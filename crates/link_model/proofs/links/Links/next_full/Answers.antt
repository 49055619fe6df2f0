use Rattle.std.proofs.Common.{sym, ap, ◌∙◌}
use Rattle.link_model.specs.FullSlots.{full_from}
use Rattle.link_model.proofs.NextFull.{next_full-some, next_full-none}
use Rattle.link_model.proofs.links.Links.next_full.Goals as goal

pub returns-in-Some-clause-found : goal.returns-in-Some-clause-found
returns-in-Some-clause-found c =
    next_full-some c.args.self.now c.args.from c.in-Some.c
    (sym (c.in-Some.ensures.next ∙ ap (full_from c.self.inside.slots) c.from.ensures ∙ ap (λ s. full_from s.channels c.args.from) c.self.view_is))

pub returns-in-None-clause-none : goal.returns-in-None-clause-none
returns-in-None-clause-none c =
    next_full-none c.args.self.now c.args.from
    (sym (c.in-None.ensures.next ∙ ap (full_from c.self.inside.slots) c.from.ensures ∙ ap (λ s. full_from s.channels c.args.from) c.self.view_is))
