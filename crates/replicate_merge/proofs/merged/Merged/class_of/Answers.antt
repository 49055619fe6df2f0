use Rattle.std.proofs.Common.{◌<◌, length, ap, sym, ◌∙◌, subst, arith}
use Rattle.std.specs.Prelude.{slice_get}
use Rattle.replicate_merge.specs.Table.{ClassTable}
use Rattle.replicate_merge.specs.Merged.{merged_table}
use Rattle.replicate_merge.proofs.PlainClasses.{frame-there, frames-below}
use Rattle.replicate_merge.proofs.merged.Merged.class_of.Goals as goal

pub index-requires : goal.index-requires
index-requires c =
    let t = c.self.inside in
    let below = frames-below (merged_table t.walks t.frames.items t.marks.items) c.args.self.now c.args.node c.self.view_is c.self.invariant c.requires in
    let long = t.frames.ok.0 in
    omega arith

pub returns-clause-frame : goal.returns-clause-frame
returns-clause-frame c =
    let t = c.self.inside in
    let below = frames-below (merged_table t.walks t.frames.items t.marks.items) c.args.self.now c.args.node c.self.view_is c.self.invariant c.requires in
    ap (λ (x : ClassTable). slice_get x.frames c.args.node) (sym c.self.view_is) ∙ frame-there t.frames.items c.args.node c.index.result.now below c.index.ensures

pub returns-clause-there : goal.returns-clause-there
returns-clause-there c =
    let t = c.self.inside in
    let below = frames-below (merged_table t.walks t.frames.items t.marks.items) c.args.self.now c.args.node c.self.view_is c.self.invariant c.requires in
    subst (λ (x : ClassTable). c.index.result.now.class < length x.expanded) c.self.view_is (c.self.invariant.placed c.args.node c.index.result.now (frame-there t.frames.items c.args.node c.index.result.now below c.index.ensures)).0

pub returns-clause-in_range : goal.returns-clause-in_range
returns-clause-in_range c =
    let t = c.self.inside in
    let below = frames-below (merged_table t.walks t.frames.items t.marks.items) c.args.self.now c.args.node c.self.view_is c.self.invariant c.requires in
    (c.self.invariant.placed c.args.node c.index.result.now (frame-there t.frames.items c.args.node c.index.result.now below c.index.ensures)).1
