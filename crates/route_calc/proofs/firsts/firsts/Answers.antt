use Rattle.std.proofs.Common.{◌<◌, ◌≤◌, length, rules}
use Rattle.route_calc.proofs.Nearer.{first-more, first-none, first-all}
use Rattle.route_calc.proofs.firsts.firsts.Goals as goal

pub loop-place-init : goal.loop-place-init
loop-place-init c = record {
  long = search rules;
  each = first-none c.args.exits.now c.args.far.now _;
}

pub loop-place-preserved : goal.loop-place-preserved
loop-place-preserved c =
    let low : c.loop-place.place < length c.loop-place.firsts.items = search rules in
    record {
      long = search rules;
      each = first-more c.args.exits.now c.args.far.now c.loop-place.firsts.items c.loop-place.place c.first_at.result low c.first_at.ensures c.loop-place.invariant.each;
    }

pub returns-clause-first : goal.returns-clause-first
returns-clause-first c =
    let past : length c.args.far.now ≤ c.loop-place.place = search rules in
    first-all c.args.exits.now c.args.far.now c.loop-place.firsts.items c.loop-place.place past c.loop-place.invariant.each

pub returns-clause-long : goal.returns-clause-long
returns-clause-long c = c.loop-place.invariant.long
