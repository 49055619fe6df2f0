use Rattle.std.proofs.Common.{◌≡◌, ◌≤◌, ◌*◌, length, ap, ◌∙◌, w8, to_z, of_z, FitsSigned, arith, rules}
use Rattle.std.proofs.lemmas.Int.{to_z-of_z}
use Rattle.map_defs.specs.NetMap.{far_port, first_end, second_end}
use Rattle.fabric_map.specs.Table.{place_in}
use Rattle.fabric_map.proofs.Tables.{table-same, table-joined, place-below}
use Rattle.fabric_map.proofs.cabling.Cabling.push.Goals as goal

pub invariant_of-self-2 : goal.invariant_of-self-2
invariant_of-self-2 c =
    let fits_p : FitsSigned w8 c.args.c.p = search rules in
    let fits_q : FitsSigned w8 c.args.c.q = search rules in
    let p : to_z w8 (of_z w8 c.args.c.p) ≡ c.args.c.p = to_z-of_z w8 c.args.c.p fits_p in
    let q : to_z w8 (of_z w8 c.args.c.q) ≡ c.args.c.q = to_z-of_z w8 c.args.c.q fits_q in
    let a : c.place_in.result ≡ place_in c.args.c.p = c.place_in.ensures.value ∙ ap place_in p in
    let b : c.place_in-2.result ≡ place_in c.args.c.q = c.place_in-2.ensures.value ∙ ap place_in q in
    let long : 31 * c.args.vertices ≤ length c.lengthen.new.self.items = c.in_ok-lengthen.ensures.long in
    let low_a = place-below (first_end c.args.c) c.args.vertices c.requires.turn_a c.requires.vertex_a in
    let low_b = place-below (second_end c.args.c) c.args.vertices c.requires.turn_b c.requires.vertex_b in
    rw (c.in_ok-push.ensures.items, c.set_port-2.ensures.items, c.set_port.ensures.items, c.port.ensures, c.port-2.ensures, a, b, p, q)
    (table-joined c.self.inside.cables.items c.lengthen.new.self.items c.args.c (table-same c.self.inside.cables.items c.self.inside.far.items c.lengthen.new.self.items c.self.invariant c.lengthen.ensures.same) c.requires.turn_a c.requires.turn_b (omega arith) (omega arith) (ap (λ cs. far_port cs (first_end c.args.c)) c.self.view_is ∙ c.requires.free_a) (ap (λ cs. far_port cs (second_end c.args.c)) c.self.view_is ∙ c.requires.free_b) c.requires.two)
