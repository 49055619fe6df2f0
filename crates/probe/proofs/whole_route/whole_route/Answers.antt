use Rattle.std.proofs.Common.{List, ℕ, inl, ap, ◌∙◌}
use Rattle.world_defs.specs.Mapping.{whole, route_front}
use Rattle.probe.specs.Body.{missing}
use Rattle.probe.proofs.Bodies.{whole_route-apart}
use Rattle.probe.proofs.whole_route.whole_route.Goals as goal

pub returns-then-from-rest-clause-refused : goal.returns-then-from-rest-clause-refused
returns-then-from-rest-clause-refused c =
    inl (ap missing (ap (λ (l : List ℕ). whole (route_front l)) c.in-Some.ensures.cases.0 ∙ whole_route-apart c.in-Some.count.now c.in-Some.rest.now (λ e. c.if-from-rest.true (c.from.ensures ∙ e))))
