use Rattle.std.proofs.Common.{◌∷◌, [], ◌++◌, map, sym, ap, ◌∙◌}
use Rattle.journal_defs.specs.Counting.{numbers_below}
use Rattle.map_defs.specs.Orientation.{order_of}
use Rattle.updown.proofs.Filters.{map-more}
use Rattle.route_calc.specs.Exits.{exits_of}
use Rattle.route_calc.proofs.exits.all_exits.Goals as goal

pub loop-v-preserved : goal.loop-v-preserved
loop-v-preserved c =
    let m = c.args.m.now in
    let own = exits_of m (order_of m) in
    c.in_ok-push.ensures.items
    ∙ ap (λ l. l ++ c.in_ok-own.own ∷ []) c.loop-v.invariant
    ∙ ap (λ b. map own (numbers_below c.loop-v.v) ++ b ∷ []) c.in_ok-own.ensures
    ∙ sym (map-more own c.loop-v.v)
