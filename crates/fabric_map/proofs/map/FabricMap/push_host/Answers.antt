use Rattle.std.proofs.Common.{◌≡◌, None, sym, subst}
use Rattle.map_defs.specs.NetMap.{NetMap}
use Rattle.map_defs.specs.Routing.{is_host_named}
use Rattle.fabric_map.specs.Growing.{IsFabricMap, host_refusal}
use Rattle.fabric_map.proofs.Listings.{no_position}
use Rattle.fabric_map.proofs.Grown.{host-free, map-host, on_ok}
use Rattle.fabric_map.proofs.map.FabricMap.push_host.Goals as goal

pub push_host-requires-clause-new : goal.push_host-requires-clause-new
push_host-requires-clause-new c =
    let old : NetMap = record { vertices = c.self.inside.vertices.vertices; cables = c.self.inside.cabling; core = c.self.inside.vertices.core } in
    no_position (is_host_named c.args.h) old.vertices (host-free old c.args.h (subst (λ n. host_refusal n c.args.h ≡ None) (sym c.self.view_is) c.requires)).new

pub invariant_of-self-2 : goal.invariant_of-self-2
invariant_of-self-2 c =
    let old : NetMap = record { vertices = c.self.inside.vertices.vertices; cables = c.self.inside.cabling; core = c.self.inside.vertices.core } in
    subst (λ v. IsFabricMap (record { vertices = v.vertices; cables = old.cables; core = v.core })) (sym (on_ok c.push_host.result _ c.if-is_err.ensures.value c.push_host.ensures.ok))
    (map-host old c.args.h c.self.invariant (subst (λ n. host_refusal n c.args.h ≡ None) (sym c.self.view_is) c.requires))
