use Rattle.std.proofs.Common.{ap, ◌∙◌}
use Rattle.std.specs.List.{list_any}
use Rattle.map_defs.specs.Core.{cut_off_by}
use Rattle.core_map.proofs.Marking.{any-mark, cut-low}
use Rattle.core_map.proofs.bridges.is_bridge.Goals as goal

pub returns : goal.returns
returns c =
    let m = c.args.m.now in
    let there = c.cable_at.ensures in
    c.has_mark.ensures ∙ ap (list_any (λ b. b)) (c.deref.ensures.value ∙ c.in_ok-cut.ensures)
    ∙ any-mark m (cut_off_by m c.args.k) (cut-low m c.args.k c.cable_at.result there.is_map there.first there.second there.there)
