use Rattle.std.proofs.Common.{true, false}
use Rattle.route_calc.proofs.beside.firsts_beside.Goals as goal

pub returns : goal.returns
returns c = record {
  free = c.first_at-free.result;
  down = c.first_at-down.result;
  is = c.in_ok-moved.ensures;
  is_free = c.first_at-free.ensures c.args.s false c.place_of.ensures;
  is_down = c.first_at-down.ensures c.args.s true c.place_of-2.ensures;
}
