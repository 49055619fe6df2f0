use Rattle.std.proofs.Common.{◌+◌, List, ℕ, ap, sym, subst, ◌∙◌}
use Rattle.core_map.specs.Walking.{AreSources, with_source}
use Rattle.core_map.proofs.Beginning.{next-sources}
use Rattle.core_map.proofs.sources.number_ends.Goals as goal

pub returns : goal.returns
returns c =
    let m = c.args.m.now in
    let cable = c.cable_at-c.result in
    subst (λ (ns : List ℕ). AreSources m ns (c.args.i + 1))
    (sym (c.number_beside-2.ensures ∙ ap (λ (ns : List ℕ). with_source m ns cable.w cable.v) c.number_beside.ensures))
    (next-sources m c.args.numbers.now.items c.args.i cable c.cable_at-c.ensures.first c.cable_at-c.ensures.second c.cable_at-c.ensures.there c.requires.before)
