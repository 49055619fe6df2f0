use Rattle.std.proofs.Common.{◌≡◌, [], true, false, ap, sym, subst, ◌∙◌, if◌then◌else◌, IfOk}
use Rattle.map_defs.specs.Core.{side, is_hostless}
use Rattle.core_map.specs.Marks.{marks_of}
use Rattle.core_map.proofs.Sides.{side-low}
use Rattle.core_map.proofs.Marking.{hostless-by_marks, host-by_marks}
use Rattle.core_map.proofs.bridges.searched_side.Goals as goal

pub returns-then-is_hostless : goal.returns-then-is_hostless
returns-then-is_hostless c =
    let m = c.args.m.now in
    let vs = side m c.args.k c.args.v in
    let e : c.deref.result.now ≡ marks_of m vs = c.deref.ensures.value ∙ c.in_ok-side.ensures in
    let t : is_hostless m vs ≡ true = hostless-by_marks m vs c.deref.result.now (λ u. side-low m c.args.k c.args.v u c.vertices.ensures.is_map.is_map c.requires.vertex) e (c.is_hostless.ensures.no_host c.if-is_hostless.true) in
    c.in_ok-side.ensures ∙ ap (λ b. marks_of m (if b then vs else [])) (sym t)

pub returns-else-is_hostless : goal.returns-else-is_hostless
returns-else-is_hostless c =
    let m = c.args.m.now in
    let vs = side m c.args.k c.args.v in
    let e : c.deref.result.now ≡ marks_of m vs = c.deref.ensures.value ∙ c.in_ok-side.ensures in
    let h = c.is_hostless.ensures.a_host c.if-is_hostless.false in
    let t : is_hostless m vs ≡ false = host-by_marks m vs c.deref.result.now h.0 e h.1 h.2 in
    subst (λ b. IfOk c.no_marks.result (λ marks. marks.items ≡ marks_of m (if b then vs else []))) (sym t) c.no_marks.ensures
