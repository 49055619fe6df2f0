use Rattle.std.proofs.Common.{◌≡◌, refl, ap, sym, ◌∙◌, subst}
use Rattle.replicate_merge.specs.Table.{ClassTable, IsTable}
use Rattle.replicate_merge.specs.Merged.{merged_table, without_tables}
use Rattle.replicate_merge.specs.Seen.{class_table, kept_of}
use Rattle.replicate_merge.proofs.PlainClasses.{all-seen, table-kept}
use Rattle.replicate_merge.proofs.classes.Classes.merged.Goals as goal

pub into_seen-frames-requires : goal.into_seen-frames-requires
into_seen-frames-requires c =
    let t = c.self.inside in
    let table : ClassTable = class_table t.walks (kept_of t.joined t.asked.items t.orphans t.ahead) t.joined.heads.marks.items in
    all-seen table refl c.self.invariant.0 c.self.invariant.1

pub invariant_of-result : goal.invariant_of-result
invariant_of-result c =
    let t = c.self.inside in
    let table : ClassTable = class_table t.walks (kept_of t.joined t.asked.items t.orphans t.ahead) t.joined.heads.marks.items in
    let is : merged_table t.walks c.into_seen-frames.result.0.items c.into_seen-frames.result.1.items ≡ without_tables table = (λ i. merged_table t.walks (c.into_seen-frames.ensures.frames i) (c.into_seen-frames.ensures.marks i)) in
    subst (λ (x : ClassTable). IsTable x) (sym is) (table-kept table c.self.invariant.0)

pub returns : goal.returns
returns c =
    let t = c.self.inside in
    (λ i. merged_table t.walks (c.into_seen-frames.ensures.frames i) (c.into_seen-frames.ensures.marks i)) ∙ ap without_tables c.self.view_is
