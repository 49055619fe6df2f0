use Rattle.std.proofs.Common.{sym, subst}
use Rattle.std.specs.Prelude.{slice_index_or}
use Rattle.core_map.specs.Walking.{IsLastAt}
use Rattle.core_map.proofs.Stepping.{second-is}
use Rattle.core_map.proofs.cables_at.CablesAt.before.Goals as goal

pub returns-then-c-v : goal.returns-then-c-v
returns-then-c-v c =
    let m = c.args.m.now in
    let i = c.args.i in
    let cable = c.cable_at-c.result in
    subst (λ x. IsLastAt m c.args.v i x) (sym c.first_before.ensures)
    (subst (λ v. IsLastAt m v i (slice_index_or c.args.self.now.firsts i 0)) c.if-c-v.true (c.requires.linked.firsts i cable c.requires.cable c.cable_at-c.ensures.there))

pub returns-else-c-v : goal.returns-else-c-v
returns-else-c-v c =
    let m = c.args.m.now in
    let i = c.args.i in
    let cable = c.cable_at-c.result in
    subst (λ x. IsLastAt m c.args.v i x) (sym c.second_before.ensures)
    (subst (λ v. IsLastAt m v i (slice_index_or c.args.self.now.seconds i 0)) (second-is m i c.args.v cable c.cable_at-c.ensures.there c.requires.ends c.if-c-v.false) (c.requires.linked.seconds i cable c.requires.cable c.cable_at-c.ensures.there))
