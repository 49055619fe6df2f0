use Rattle.std.proofs.Common.{◌≡◌, ◌++◌, suc, ◌-◌, List, Some, option_map, ap, sym, ◌∙◌, arith}
use Rattle.packet_defs.specs.RouteByte.{turns_of}
use Rattle.world_defs.specs.Mapping.{RouteEntry, entries_front, whole}
use Rattle.route_parts.specs.Reading.{rise_from}
use Rattle.route_parts.proofs.Entries.{entries-read, rise-read}
use Rattle.route_parts.proofs.reading.read_entries.Goals as goal

pub loop-left-preserved : goal.loop-left-preserved
loop-left-preserved c =
    let k = c.loop-left.left - 1 in
    let one : suc k ≡ c.loop-left.left = omega arith in
    let e = c.in-Some in
    let old = c.loop-left.entries.items in
    let walk = c.in-Some-2.walk in
    let turns : turns_of e.turns.now ≡ Some walk = c.in_ok-walk.ensures ∙ c.in-Some-2.is in
    let up = sym c.is_above.ensures ∙ c.if-not-is_above.false in
    record {
      entries =
          c.loop-left.invariant.entries
          ∙ ap (λ n. option_map (λ es. old ++ es) (whole (entries_front n c.loop-left.rest.now))) (sym one)
          ∙ entries-read old k e.to e.turns.now e.behind.now c.loop-left.rest.now walk e.ensures.value turns
          ∙ ap (λ (l : List RouteEntry). option_map (λ es. l ++ es) (whole (entries_front k e.behind.now))) (sym c.in_ok-push.ensures.items);
      rise =
          sym (rise-read c.loop-left.before k e.to e.turns.now e.behind.now c.loop-left.rest.now walk e.ensures.value turns e.ensures.fits.0 e.ensures.fits.1 up)
          ∙ ap (λ n. rise_from c.loop-left.before n c.loop-left.rest.now) one
          ∙ c.loop-left.invariant.rise;
    }
