-- The turns of a walk, wherever they lie.
use Rattle.std.specs.Prelude.{ℤ, ◌≤◌, List, take}
use Rattle.net_defs.specs.declared.turn_list.TurnList.{TurnList}
use Rattle.net_defs.specs.declared.turn_list.TurnList.TheVariants.{Few, Many}

-- the first so many places, or all of the block
abbrev pub turns_in : TurnList → List ℤ
turns_in (Few count places) = take count places
turns_in (Many turns) = turns.value.items

-- there are as many places: 14
abbrev pub FitsItsPlaces : TurnList → Type 0
FitsItsPlaces (Few count places) = count ≤ 14
FitsItsPlaces (Many turns) = Unit {0}
