use Rattle.std.proofs.Common.{◌≡◌, false, sym, ap, ◌∙◌, w8}
use Rattle.std.proofs.lemmas.Int.{to_z-of_z}
use Rattle.net_defs.specs.Turn.{is_turn}
use Rattle.map_defs.specs.NetMap.{MapPort, far_port}
use Rattle.fabric_map.specs.Table.{far_pair}
use Rattle.fabric_map.proofs.Tables.{far-outside}
use Rattle.fabric_map.proofs.cabling.Cabling.far.Goals as goal

pub returns-else-is_port : goal.returns-else-is_port
returns-else-is_port c =
    let d : MapPort = record { v = c.args.v; p = c.args.p } in
    let out : is_turn c.args.p ≡ false = ap is_turn (sym (to_z-of_z w8 c.args.p c.ranges.p)) ∙ sym c.is_port.ensures ∙ c.if-is_port.false in
    sym (ap far_pair (ap (λ cs. far_port cs d) (sym c.self.view_is) ∙ far-outside c.self.inside.cables.items d c.self.invariant.turns out))
