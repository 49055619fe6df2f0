use Rattle.std.proofs.Common.{◌+◌, Bool, List, ap, sym, subst, ◌∙◌}
use Rattle.core_map.specs.Hanging.{AreUnwalked, with_unmet}
use Rattle.core_map.proofs.Beginning.{next-unwalked}
use Rattle.core_map.proofs.outside.mark_unwalked_ends.Goals as goal

pub returns : goal.returns
returns c =
    let m = c.args.m.now in
    let t = c.args.walk.now in
    let cable = c.cable_at-c.result in
    subst (λ (bs : List Bool). AreUnwalked m t (c.args.i + 1) bs) (sym (c.mark_unmet-2.ensures ∙ ap (λ (bs : List Bool). with_unmet t bs cable.w) c.mark_unmet.ensures))
    (next-unwalked m t c.args.i cable c.args.marks.now.items c.cable_at-c.ensures.first c.cable_at-c.ensures.second c.cable_at-c.ensures.there c.requires.before)
