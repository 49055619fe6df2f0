use Rattle.map_renumber.specs.Search.{IsSearchTo, GoesOnFrom}
use Rattle.map_renumber.proofs.search.search_from.Given as goal

abbrev pub invariant-loop-place : goal.invariant-loop-place
invariant-loop-place l = record {
  search : IsSearchTo l.m l.search.found.items l.search.numbers.items l.next l.place;
  goes_on : GoesOnFrom l.m l.search.found.items l.next;
}
