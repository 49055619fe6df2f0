use Rattle.std.proofs.Common.{◌≡◌, true, false, sym, ap, ◌∙◌, get_or, w8, to_z, of_z}
use Rattle.std.proofs.lemmas.Int.{to_z-of_z}
use Rattle.net_defs.specs.Turn.{is_turn}
use Rattle.map_defs.specs.NetMap.{MapPort}
use Rattle.fabric_map.specs.Table.{place_of_port}
use Rattle.updown.specs.Oriented.{up_in}
use Rattle.updown.proofs.Ups.{up-of_map, up_in-port, up_in-none}
use Rattle.updown.proofs.orientation.Orientation.is_up.Goals as goal

pub returns-then-is_port-clause-of_map : goal.returns-then-is_port-clause-of_map
returns-then-is_port-clause-of_map c m r e =
    let d : MapPort = record { v = c.args.v; p = c.args.p } in
    let same : to_z w8 (of_z w8 c.args.p) ≡ c.args.p = to_z-of_z w8 c.args.p c.ranges.p in
    let port : is_turn c.args.p ≡ true = ap is_turn (sym same) ∙ sym c.is_port.ensures ∙ c.if-is_port.true in
    c.up_at.ensures
    ∙ ap (λ l. get_or l c.place_of.result false) c.deref.ensures.value
    ∙ ap (λ k. get_or c.self.inside.ups.items k false) (c.place_of.ensures ∙ ap (λ z. place_of_port (record { v = c.args.v; p = z })) same)
    ∙ ap (λ o. get_or o.ups (place_of_port d) false) c.self.view_is
    ∙ sym (up_in-port c.args.self.now d port)
    ∙ ap (λ o. up_in o d) e
    ∙ up-of_map m d r

pub returns-else-is_port-clause-of_map : goal.returns-else-is_port-clause-of_map
returns-else-is_port-clause-of_map c m r e =
    let d : MapPort = record { v = c.args.v; p = c.args.p } in
    let out : is_turn c.args.p ≡ false = ap is_turn (sym (to_z-of_z w8 c.args.p c.ranges.p)) ∙ sym c.is_port.ensures ∙ c.if-is_port.false in
    sym (up_in-none c.args.self.now d out) ∙ ap (λ o. up_in o d) e ∙ up-of_map m d r
