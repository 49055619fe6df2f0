use Rattle.std.proofs.Common.{ap, sym, ◌∙◌}
use Rattle.world_defs.specs.Mapping.{is_route}
use Rattle.route_install.proofs.Ruled.{walk-route}
use Rattle.route_install.proofs.cut.copied.Goals as goal

pub returns-clause-route : goal.returns-clause-route
returns-clause-route c =
    let turns = c.turns-turns in
    ap is_route (c.in_ok-copy.ensures ∙ sym turns.ensures.value)
    ∙ walk-route turns.result.now turns.ensures.short turns.ensures.in_range
