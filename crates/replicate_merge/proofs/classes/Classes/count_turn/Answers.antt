use Rattle.std.proofs.Common.{◌<◌, length, refl, sym, subst}
use Rattle.std.proofs.Math.ListN.{length-set}
use Rattle.replicate_merge.specs.Seen.{class_table, kept_of}
use Rattle.replicate_merge.specs.Table.{ClassTable}
use Rattle.replicate_merge.proofs.Reading.{ReadsNode, marked-whole, reads-node}
use Rattle.replicate_merge.proofs.classes.Classes.count_turn.Goals as goal

pub mark-requires-clause-numbered : goal.mark-requires-clause-numbered
mark-requires-clause-numbered c =
    let t = c.self.inside in
    let table : ClassTable = class_table t.walks (kept_of t.joined t.asked.items t.orphans t.ahead) t.joined.heads.marks.items in
    let below : c.args.node < length table.nodes = subst (λ (x : ClassTable). c.args.node < length x.nodes) (sym c.self.view_is) c.requires.there in
    let r : ReadsNode table c.args.node = reads-node table c.args.node refl c.self.invariant.0 c.self.invariant.1 below in
    r.number

pub invariant_of-self-then-asked-eq-TURNS : goal.invariant_of-self-then-asked-eq-TURNS
invariant_of-self-then-asked-eq-TURNS c =
    let t = c.self.inside in
    marked-whole t.walks t.joined c.mark.new.self c.args.node t.asked.items _ t.orphans t.ahead c.mark.ensures (length-set t.asked.items c.args.node _) c.self.invariant
