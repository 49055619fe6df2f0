use Rattle.std.proofs.Common.{◌≡◌, refl, sym, subst}
use Rattle.replicate_merge.specs.Table.{ClassTable, IsTable}
use Rattle.replicate_merge.specs.Merged.{merged_table, without_tables}
use Rattle.replicate_merge.specs.Seen.{class_table, kept_of}
use Rattle.replicate_merge.proofs.PlainClasses.{all-seen, table-kept}
use Rattle.replicate_merge.proofs.classes.Classes.to_merged.Goals as goal

pub seen-requires : goal.seen-requires
seen-requires c =
    let t = c.self.inside in
    let table : ClassTable = class_table t.walks (kept_of t.joined t.asked.items t.orphans t.ahead) t.joined.heads.marks.items in
    all-seen table refl c.self.invariant.0 c.self.invariant.1

pub invariant_of-result : goal.invariant_of-result
invariant_of-result c =
    let t = c.self.inside in
    let m = c.in_ok-frames in
    let table : ClassTable = class_table t.walks (kept_of t.joined t.asked.items t.orphans t.ahead) t.joined.heads.marks.items in
    let is : merged_table c.in_ok-walks.walks m.frames.items m.marks.items ≡ without_tables table = (λ i. merged_table (c.in_ok-walks.ensures i) (m.ensures.frames i) (m.ensures.marks i)) in
    subst (λ (x : ClassTable). IsTable x) (sym is) (table-kept table c.self.invariant.0)
