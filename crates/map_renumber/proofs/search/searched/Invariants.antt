use Rattle.map_renumber.specs.Search.{IsSearchTo}
use Rattle.map_renumber.proofs.search.searched.Given as goal

abbrev pub invariant-loop-next : goal.invariant-loop-next
invariant-loop-next l = IsSearchTo l.m l.search.found.items l.search.numbers.items l.next 0
