use Rattle.std.proofs.Common.{◌<◌, length, Some, ap, refl, sym, ◌∙◌, subst}
use Rattle.std.specs.Prelude.{slice_get}
use Rattle.net_defs.specs.Turn.{IsTurn}
use Rattle.port_align.specs.declared.frame.ClassFrame.{ClassFrame}
use Rattle.replicate_merge.specs.Seen.{class_table, kept_of}
use Rattle.replicate_merge.specs.Table.{ClassTable}
use Rattle.replicate_merge.proofs.Reading.{ReadsNode, reads-node}
use Rattle.replicate_merge.proofs.classes.Classes.class_of.Goals as goal

pub seen_frame-requires-clause-turn : goal.seen_frame-requires-clause-turn
seen_frame-requires-clause-turn c =
    let t = c.self.inside in
    let table : ClassTable = class_table t.walks (kept_of t.joined t.asked.items t.orphans t.ahead) t.joined.heads.marks.items in
    let below : c.args.node < length table.nodes = subst (λ (x : ClassTable). c.args.node < length x.nodes) (sym c.self.view_is) c.requires in
    let r : ReadsNode table c.args.node = reads-node table c.args.node refl c.self.invariant.0 c.self.invariant.1 below in
    r.turn

pub returns-clause-frame : goal.returns-clause-frame
returns-clause-frame c =
    let t = c.self.inside in
    let table : ClassTable = class_table t.walks (kept_of t.joined t.asked.items t.orphans t.ahead) t.joined.heads.marks.items in
    let below : c.args.node < length table.nodes = subst (λ (x : ClassTable). c.args.node < length x.nodes) (sym c.self.view_is) c.requires in
    let r : ReadsNode table c.args.node = reads-node table c.args.node refl c.self.invariant.0 c.self.invariant.1 below in
    ap (λ (x : ClassTable). slice_get x.frames c.args.node) (sym c.self.view_is) ∙ r.framed ∙ ap (λ f. Some f) (sym c.seen_frame.ensures)

pub returns-clause-there : goal.returns-clause-there
returns-clause-there c =
    let t = c.self.inside in
    let table : ClassTable = class_table t.walks (kept_of t.joined t.asked.items t.orphans t.ahead) t.joined.heads.marks.items in
    let below : c.args.node < length table.nodes = subst (λ (x : ClassTable). c.args.node < length x.nodes) (sym c.self.view_is) c.requires in
    let r : ReadsNode table c.args.node = reads-node table c.args.node refl c.self.invariant.0 c.self.invariant.1 below in
    subst (λ (x : ClassTable). c.seen_frame.result.class < length x.expanded) c.self.view_is (subst (λ (f : ClassFrame). f.class < length table.expanded) (sym c.seen_frame.ensures) r.number)

pub returns-clause-in_range : goal.returns-clause-in_range
returns-clause-in_range c =
    let t = c.self.inside in
    let table : ClassTable = class_table t.walks (kept_of t.joined t.asked.items t.orphans t.ahead) t.joined.heads.marks.items in
    let below : c.args.node < length table.nodes = subst (λ (x : ClassTable). c.args.node < length x.nodes) (sym c.self.view_is) c.requires in
    let r : ReadsNode table c.args.node = reads-node table c.args.node refl c.self.invariant.0 c.self.invariant.1 below in
    subst (λ (f : ClassFrame). IsTurn f.offset) (sym c.seen_frame.ensures) r.turn
