use Rattle.std.proofs.Common.{◌+◌, ap, sym, subst, ◌∙◌}
use Rattle.core_map.specs.Walking.{Links, AreLinked, with_before, with_last}
use Rattle.core_map.proofs.Beginning.{next-linked}
use Rattle.core_map.proofs.cables_at.CablesAt.add.Goals as goal

pub returns : goal.returns
returns c =
    let m = c.args.m.now in
    let ls = c.args.self.now in
    let i = c.args.i in
    let cable = c.cable_at-c.result in
    let first = c.last_at-first.ensures in
    let second = c.last_at-second.ensures in
    subst (λ (x : Links). AreLinked m x (i + 1))
    (sym (c.put_last.ensures ∙ ap (λ (x : Links). with_last x cable i) (c.in_ok-push_before.ensures ∙ (λ j. with_before ls (first j) (second j)))))
    (next-linked m ls i cable c.cable_at-c.ensures.first c.cable_at-c.ensures.second c.cable_at-c.ensures.there c.requires.before)
