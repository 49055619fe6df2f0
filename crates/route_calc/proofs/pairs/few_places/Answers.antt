use Rattle.std.proofs.Common.{ap, ◌∙◌}
use Rattle.std.specs.List.{list_all}
use Rattle.net_defs.specs.Turn.{is_turn}
use Rattle.route_calc.proofs.Turned.{walk-range}
use Rattle.route_calc.proofs.pairs.few_places.Goals as goal

pub returns-clause-in_range : goal.returns-clause-in_range
returns-clause-in_range c = ap (list_all is_turn) c.places_of.ensures ∙ walk-range c.args.turns.now c.requires.walk
