use Rattle.std.proofs.Common.{◌+◌, Bool, List, ap, sym, subst, ◌∙◌, arith}
use Rattle.std.specs.Prelude.{slice_set}
use Rattle.core_map.specs.Hanging.{AreHanging}
use Rattle.core_map.proofs.Hung.{next-hanging}
use Rattle.core_map.proofs.outside.mark_hanging.Goals as goal

pub put_mark-requires : goal.put_mark-requires
put_mark-requires c =
    let low = (c.requires.walk.ordered.back c.args.j c.vertex-v.result c.vertex-v.ensures).1 in
    let long = c.requires.before.long in
    omega (arith, low, long)

pub returns : goal.returns
returns c =
    let m = c.args.m.now in
    let t = c.args.walk.now in
    let marks = c.args.marks.now.items in
    let v = c.vertex-v.result in
    subst (λ (bs : List Bool). AreHanging m t (c.args.j + 1) bs) (sym (c.put_mark.ensures ∙ ap (slice_set marks v) c.hangs-hangs.ensures))
    (next-hanging m t c.requires.walk c.args.j v marks c.vertex-v.ensures c.requires.before)
