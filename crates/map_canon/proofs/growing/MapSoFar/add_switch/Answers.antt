use Rattle.std.proofs.Common.{ap, ◌∙◌, ◌++◌, ◌∷◌, []}
use Rattle.map_canon.proofs.Indexed.{switch-kept}
use Rattle.map_canon.proofs.growing.MapSoFar.add_switch.Goals as goal

pub invariant_of-self-in-Ok : goal.invariant_of-self-in-Ok
invariant_of-self-in-Ok c =
    switch-kept c.self.inside.map c.add_switch.new.self c.self.inside.switches.items c.push_reserved.new.self.items c.args.core c.in-Ok.vertex c.self.invariant c.in-Ok.ensures.added c.in-Ok.ensures.vertex
    (c.push_reserved.ensures.items ∙ ap (λ l. l ++ c.in-Ok.vertex ∷ []) c.reserve.ensures.items)
