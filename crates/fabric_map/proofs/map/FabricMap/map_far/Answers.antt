use Rattle.std.proofs.Common.{◌<◌, length, IfSome, sym, subst, w8, to_z, of_z}
use Rattle.net_defs.specs.Turn.{IsTurn}
use Rattle.map_defs.specs.NetMap.{NetMap}
use Rattle.fabric_map.proofs.Grown.{far-there}
use Rattle.fabric_map.proofs.map.FabricMap.map_far.Goals as goal

pub returns-clause-there : goal.returns-clause-there
returns-clause-there c =
    let m : NetMap = record { vertices = c.self.inside.vertices.vertices; cables = c.self.inside.cabling; core = c.self.inside.vertices.core } in
    subst (λ n. IfSome c.far.result (λ e. (e.0 < length n.vertices) × IsTurn e.1)) c.self.view_is
    (subst (λ o. IfSome o (λ e. (e.0 < length m.vertices) × IsTurn e.1)) (sym c.far.ensures) (far-there m (record { v = c.args.v; p = to_z w8 (of_z w8 c.args.p) }) c.self.invariant.is_map))
