use Rattle.std.proofs.Common.{◌∙◌, ap, ◌++◌, ◌∷◌, [], take, map}
use Rattle.world_defs.specs.History.{first_wire}
use Rattle.fabric_wiring.proofs.Wirings.{first-next}
use Rattle.fabric_wiring.proofs.tables.wires_of.Goals as goal

pub loop-k-preserved : goal.loop-k-preserved
loop-k-preserved c =
    c.in_ok-push.ensures.items ∙ ap (λ l. l ++ c.first_wire.result ∷ []) c.loop-k.invariant ∙ ap (λ w. map first_wire (take c.loop-k.k c.args.f.now.cables) ++ w ∷ []) c.first_wire.ensures
    ∙ first-next c.args.f.now.cables c.loop-k.k c.cable.result c.cable.ensures
