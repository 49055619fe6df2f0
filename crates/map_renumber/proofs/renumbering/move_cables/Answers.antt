use Rattle.std.proofs.Common.{◌≡◌, ℕ, List, Option, get_or, map, take, Some, ap, sym, ◌∙◌}
use Rattle.std.specs.Prelude.{slice_get, pos}
use Rattle.std.proofs.lemmas.Option.{slice_get-get_or}
use Rattle.fabric_map.specs.Growing.{cable_refusal}
use Rattle.map_defs.specs.declared.vertex.MapCable.{MapCable}
use Rattle.map_defs.specs.NetMap.{MapPort}
use Rattle.map_renumber.specs.Search.{port_of_pair, with_moved}
use Rattle.map_renumber.proofs.renumbering.move_cables.Goals as goal

pub moved_cable-requires-clause-first : goal.moved_cable-requires-clause-first
moved_cable-requires-clause-first c =
    let none : MapCable = record { v = 0; p = pos 0; w = 0; q = pos 0 } in
    let cables : List MapCable = c.cables-cable-items.result.now in
    let at : slice_get c.args.m.now.cables c.loop-cable.cable-index ≡ Some (get_or cables c.loop-cable.cable-index none) = ap (λ (l : List MapCable). slice_get l c.loop-cable.cable-index) (sym c.cables-cable-items.ensures.value) ∙ slice_get-get_or cables c.loop-cable.cable-index none c.loop-cable-test.true in
    (c.requires.known (get_or cables c.loop-cable.cable-index none) c.loop-cable.cable-index at).0

pub moved_cable-requires-clause-second : goal.moved_cable-requires-clause-second
moved_cable-requires-clause-second c =
    let none : MapCable = record { v = 0; p = pos 0; w = 0; q = pos 0 } in
    let cables : List MapCable = c.cables-cable-items.result.now in
    let at : slice_get c.args.m.now.cables c.loop-cable.cable-index ≡ Some (get_or cables c.loop-cable.cable-index none) = ap (λ (l : List MapCable). slice_get l c.loop-cable.cable-index) (sym c.cables-cable-items.ensures.value) ∙ slice_get-get_or cables c.loop-cable.cable-index none c.loop-cable-test.true in
    (c.requires.known (get_or cables c.loop-cable.cable-index none) c.loop-cable.cable-index at).1

pub add-requires : goal.add-requires
add-requires c =
    let none : MapCable = record { v = 0; p = pos 0; w = 0; q = pos 0 } in
    let cables : List MapCable = c.cables-cable-items.result.now in
    let found : List MapPort = map port_of_pair c.args.search.now.found.items in
    let numbers : List (Option ℕ) = c.args.search.now.numbers.items in
    let at : slice_get c.args.m.now.cables c.loop-cable.cable-index ≡ Some (get_or cables c.loop-cable.cable-index none) = ap (λ (l : List MapCable). slice_get l c.loop-cable.cable-index) (sym c.cables-cable-items.ensures.value) ∙ slice_get-get_or cables c.loop-cable.cable-index none c.loop-cable-test.true in
    let now : c.loop-cable.map ≡ with_moved c.args.map.now found numbers (take c.loop-cable.cable-index c.args.m.now.cables) = c.loop-cable.invariant ∙ ap (λ (l : List MapCable). with_moved c.args.map.now found numbers (take c.loop-cable.cable-index l)) c.cables-cable-items.ensures.value in
    (λ i. cable_refusal (now i) (c.moved_cable.ensures i)) ∙ c.requires.taken c.loop-cable.cable-index (get_or cables c.loop-cable.cable-index none) at
