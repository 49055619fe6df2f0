use Rattle.std.proofs.Common.{◌≡◌, length, reverse, ap, rules}
use Rattle.core_map.proofs.Beginning.{first-walk}
use Rattle.core_map.proofs.walk.Walk.new.Goals as goal

pub returns-clause-walk : goal.returns-clause-walk
returns-clause-walk c =
    let m = c.args.m.now in
    let parents : length c.in_ok-vec.field-0.items ≡ length m.vertices = search rules in
    let cut : length c.in_ok-vec-2.field-0.items ≡ length m.vertices = search rules in
    first-walk m c.in_ok-sources.field-0.items c.in_ok-vec.field-0.items c.in_ok-vec-2.field-0.items c.new.result.items (reverse c.new-2.result.items)
    c.in_ok-sources.ensures parents cut c.new.ensures.items (ap reverse c.new-2.ensures.items)
