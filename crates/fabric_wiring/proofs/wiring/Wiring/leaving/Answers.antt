use Rattle.std.proofs.Common.{◌≡◌, ◌∙◌, true, None, get_or, ap, length, arith}
use Rattle.net_defs.specs.declared.vertex.Vertex.TheVariants.{Switch}
use Rattle.net_defs.specs.declared.vertex.End.{End}
use Rattle.net_defs.specs.Network.{has_port}
use Rattle.world_defs.specs.History.{CableHistory, fabric_now}
use Rattle.world_defs.specs.Crossed.{leaving}
use Rattle.world_defs.proofs.Now.{now_is_fabric}
use Rattle.port_graph.specs.Table.{is_possible}
use Rattle.port_graph.proofs.Possible.{has_port-possible}
use Rattle.port_graph.proofs.Tables.{place_of_end-lt}
use Rattle.fabric_wiring.specs.Tables.{history_of}
use Rattle.fabric_wiring.proofs.wiring.Wiring.leaving.Goals as goal

pub channel_at-requires : goal.channel_at-requires
channel_at-requires c =
    let h : CableHistory = (history_of c.self.inside.first.value c.self.inside.wires.items c.self.inside.changes c.self.inside.accepted) in
    let e : End = record { v = Switch c.args.s; p = c.args.p } in
    let possible : is_possible e ≡ true = has_port-possible (fabric_now h) e (now_is_fabric h c.self.invariant.history) (ap (λ m. has_port (fabric_now m) e) c.self.view_is ∙ c.requires) in
    let low = place_of_end-lt e possible in
    let place = c.switch_place.ensures in
    let items = ap length c.deref.ensures.value in
    let size = c.self.invariant.leaving.size in
    omega (arith, low, place, items, size)

pub returns : goal.returns
returns c =
    let h : CableHistory = (history_of c.self.inside.first.value c.self.inside.wires.items c.self.inside.changes c.self.inside.accepted) in
    let e : End = record { v = Switch c.args.s; p = c.args.p } in
    let possible : is_possible e ≡ true = has_port-possible (fabric_now h) e (now_is_fabric h c.self.invariant.history) (ap (λ m. has_port (fabric_now m) e) c.self.view_is ∙ c.requires) in
    c.channel_at.ensures
    ∙ ap (λ l. get_or l c.switch_place.result None) c.deref.ensures.value
    ∙ ap (λ i. get_or c.self.inside.out.items i None) c.switch_place.ensures
    ∙ c.self.invariant.leaving.channels e possible
    ∙ ap (λ m. leaving m e) c.self.view_is
