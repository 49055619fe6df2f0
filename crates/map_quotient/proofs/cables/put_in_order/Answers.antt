use Rattle.std.proofs.Common.{ap, sym, ◌∙◌, subst}
use Rattle.map_defs.specs.NetMap.{far_port}
use Rattle.fabric_map.specs.Growing.{IsFabricMap, with_cables}
use Rattle.map_quotient.proofs.Reordered.{far-same, in-order-map}
use Rattle.map_quotient.proofs.cables.put_in_order.Goals as goal

pub put_cables-requires-clause-map : goal.put_cables-requires-clause-map
put_cables-requires-clause-map c =
    subst (λ cables. IsFabricMap (with_cables c.args.map.now cables)) (sym c.in_ok-cables.ensures.cables) (in-order-map c.args.map.now c.ordered.ensures.is_map)

pub put_cables-requires-clause-same : goal.put_cables-requires-clause-same
put_cables-requires-clause-same c d = ap (λ cables. far_port cables d) c.in_ok-cables.ensures.cables ∙ far-same c.args.map.now c.ordered.ensures.is_map d

pub returns-clause-ordered : goal.returns-clause-ordered
returns-clause-ordered c = c.put_cables.ensures ∙ ap (with_cables c.args.map.now) c.in_ok-cables.ensures.cables
