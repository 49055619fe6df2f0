use Rattle.std.proofs.Common.{◌≡◌, ◌<◌, length}
use Rattle.circ_ears.specs.Search.{led_over_all}
use Rattle.circ_ears.proofs.search.lead_over_all.Given as goal

abbrev pub invariant-loop-k : goal.invariant-loop-k
invariant-loop-k l = record {
  led : l.ways.items ≡ led_over_all l.f l.first.cable l.at l.k l.initial.ways.items;
  there : l.at < length l.ways.items;
}
