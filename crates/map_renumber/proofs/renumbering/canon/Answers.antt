use Rattle.std.proofs.Common.{◌++◌, ◌<◌, ◌^◌, ℕ, List, Option, length, map, ap, sym, ◌∙◌, subst}
use Rattle.std.specs.Prelude.{ℤ}
use Rattle.map_defs.specs.NetMap.{NetMap, MapPort, IsMap, host_of_vertex}
use Rattle.map_defs.specs.Quotient.{named}
use Rattle.map_quotient.specs.Naming.{HaveOwnAddresses}
use Rattle.map_renumber.specs.Canon.{is_of_core}
use Rattle.map_renumber.specs.Search.{port_of_pair, moved_cable}
use Rattle.map_renumber.proofs.Moved.{few-found, moved-taken, own-addresses}
use Rattle.map_renumber.proofs.Steps.{known-ends, addresses-of, marks-of}
use Rattle.map_renumber.proofs.Renumbered.{is-canon, is-same}
use Rattle.map_renumber.proofs.renumbering.canon.Goals as goal

pub vertices_of-requires-clause-few : goal.vertices_of-requires-clause-few
vertices_of-requires-clause-few c =
    subst (λ (l : List (ℕ × ℤ)). length l < 2 ^ 32) (sym c.deref.ensures.value) (few-found c.args.m.now c.in_ok-search.search.found.items c.in_ok-search.search.numbers.items (length c.args.m.now.vertices) 0 c.cables.ensures.is_map.few_vertices c.in_ok-search.ensures)

pub vertices_of-requires-clause-own : goal.vertices_of-requires-clause-own
vertices_of-requires-clause-own c =
    subst (λ (l : List (ℕ × ℤ)). HaveOwnAddresses (map (λ (d : ℕ × ℤ). host_of_vertex c.args.m.now d.0) l)) (sym c.deref.ensures.value) (own-addresses c.args.m.now c.in_ok-search.search.found.items c.in_ok-search.search.numbers.items (length c.args.m.now.vertices) 0 c.cables.ensures.is_map.is_map c.in_ok-search.ensures)

pub move_cables-requires-clause-known : goal.move_cables-requires-clause-known
move_cables-requires-clause-known c = known-ends c.args.m.now c.cables.ensures.is_map.is_map c.requires.host.0 c.requires.host.1 c.requires.connected c.in_ok-search.search.found.items c.in_ok-search.search.numbers.items c.in_ok-search.ensures

pub move_cables-requires-clause-taken : goal.move_cables-requires-clause-taken
move_cables-requires-clause-taken c =
    let m : NetMap = c.args.m.now in
    let items : List (ℕ × ℤ) = c.in_ok-search.search.found.items in
    let numbers : List (Option ℕ) = c.in_ok-search.search.numbers.items in
    let found : List MapPort = map port_of_pair items in
    let vertices = ap (λ (y : NetMap). y.vertices) c.in_ok-map.ensures ∙ ap (named 0) (ap (map (λ (d : ℕ × ℤ). host_of_vertex m d.0)) c.deref.ensures.value ∙ addresses-of m items) in
    moved-taken m c.cables.ensures.is_map.is_map c.requires.host.0 c.requires.host.1 c.requires.connected found numbers c.in_ok-search.ensures.ways c.in_ok-search.ensures.search c.in_ok-map.map vertices (ap (λ (y : NetMap). y.cables) c.in_ok-map.ensures) c.cables.ensures.is_map.few_cables

pub returns-clause-ordered : goal.returns-clause-ordered
returns-clause-ordered c =
    let m : NetMap = c.args.m.now in
    let items : List (ℕ × ℤ) = c.in_ok-search.search.found.items in
    let numbers : List (Option ℕ) = c.in_ok-search.search.numbers.items in
    let found : List MapPort = map port_of_pair items in
    let moved = map (moved_cable found numbers) m.cables in
    let cables = ap (λ (y : NetMap). y.cables) c.in_ok-move_cables.ensures ∙ ap (λ (y : NetMap). y.cables ++ moved) c.in_ok-map.ensures in
    let vertices = ap (λ (y : NetMap). y.vertices) c.in_ok-move_cables.ensures ∙ ap (λ (y : NetMap). y.vertices) c.in_ok-map.ensures ∙ ap (named 0) (ap (map (λ (d : ℕ × ℤ). host_of_vertex m d.0)) c.deref.ensures.value ∙ addresses-of m items) in
    let marks = ap (λ (y : NetMap). y.core) c.in_ok-move_cables.ensures ∙ ap (λ (y : NetMap). y.core) c.in_ok-map.ensures ∙ ap (map (λ (d : ℕ × ℤ). is_of_core m d.0)) c.deref.ensures.value ∙ marks-of m items in
    let loose : IsMap c.move_cables.new.map = c.put_in_order.ensures.is_map.is_map in
    is-canon m c.cables.ensures.is_map.is_map c.requires.host.0 c.requires.host.1 c.requires.connected found numbers c.in_ok-search.ensures.ways c.in_ok-search.ensures.search c.move_cables.new.map cables loose vertices marks c.put_in_order.new.map c.in_ok-put_in_order.ensures.ordered

pub returns-clause-same : goal.returns-clause-same
returns-clause-same c =
    let m : NetMap = c.args.m.now in
    let items : List (ℕ × ℤ) = c.in_ok-search.search.found.items in
    let numbers : List (Option ℕ) = c.in_ok-search.search.numbers.items in
    let found : List MapPort = map port_of_pair items in
    let moved = map (moved_cable found numbers) m.cables in
    let cables = ap (λ (y : NetMap). y.cables) c.in_ok-move_cables.ensures ∙ ap (λ (y : NetMap). y.cables ++ moved) c.in_ok-map.ensures in
    let vertices = ap (λ (y : NetMap). y.vertices) c.in_ok-move_cables.ensures ∙ ap (λ (y : NetMap). y.vertices) c.in_ok-map.ensures ∙ ap (named 0) (ap (map (λ (d : ℕ × ℤ). host_of_vertex m d.0)) c.deref.ensures.value ∙ addresses-of m items) in
    let marks = ap (λ (y : NetMap). y.core) c.in_ok-move_cables.ensures ∙ ap (λ (y : NetMap). y.core) c.in_ok-map.ensures ∙ ap (map (λ (d : ℕ × ℤ). is_of_core m d.0)) c.deref.ensures.value ∙ marks-of m items in
    let loose : IsMap c.move_cables.new.map = c.put_in_order.ensures.is_map.is_map in
    is-same m c.cables.ensures.is_map.is_map c.requires.host.0 c.requires.host.1 c.requires.connected found numbers c.in_ok-search.ensures.ways c.in_ok-search.ensures.search c.move_cables.new.map cables loose vertices marks c.put_in_order.new.map c.in_ok-put_in_order.ensures.ordered
