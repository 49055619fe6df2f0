use Rattle.std.proofs.Common.{◌≡◌, map, take}
use Rattle.map_renumber.specs.Search.{port_of_pair, with_moved}
use Rattle.map_renumber.proofs.renumbering.move_cables.Given as goal

abbrev pub invariant-loop-cable : goal.invariant-loop-cable
invariant-loop-cable l = l.map ≡ with_moved l.initial.map (map port_of_pair l.search.found.items) l.search.numbers.items (take l.cable-index l.cable-items)
