use Rattle.std.proofs.Common.{◌≡◌, ◌<◌, ℕ, List, Vec, Global, Option, Some, None, length, get_or, replicate, ap, ◌∙◌, rules, arith}
use Rattle.std.specs.Prelude.{slice_get}
use Rattle.std.proofs.lemmas.Option.{slice_get-get_or, get_or_from_slice_get}
use Rattle.port_align.specs.declared.frame.ClassFrame.{ClassFrame}
use Rattle.map_quotient.specs.Numbering.{class_at}
use Rattle.map_quotient.proofs.Firsts.{numbered-none, skips, pushes, numbered-whole}
use Rattle.map_quotient.proofs.numbering.numbered.Goals.{then-is_none+in_ok-push, else-is_none}
use Rattle.map_quotient.proofs.numbering.numbered.Goals as goal

pub loop-node-init : goal.loop-node-init
loop-node-init c =
    let all : c.in_ok-vertices.vertices.items ≡ replicate c.count.result None = c.in_ok-vertices.ensures.items_if_clones_equal (λ y k. search rules) in
    numbered-none c.args.c.now c.args.order.now c.in_ok-least.least.items c.in_ok-vertices.vertices.items c.in_ok-least.ensures.items (all ∙ ap (λ n. replicate n None) c.count.ensures)

pub overflow_cast-len : goal.overflow_cast-len
overflow_cast-len c =
    let short = c.loop-node.invariant.short in
    let few = c.requires.order.few in
    let all = c.requires.few in
    let below = c.loop-node-test.true in
    let len = c.len.ensures in
    search rules

pub loop-node-preserved : goal.loop-node-preserved
loop-node-preserved c =
    let order : List ℕ = c.args.order.now in
    let n : ℕ = get_or order c.loop-node.node-index 0 in
    let at : slice_get order c.loop-node.node-index ≡ Some n = slice_get-get_or order c.loop-node.node-index 0 c.loop-node-test.true in
    let f = c.class_of-class.result in
    let frame = c.class_of-class.ensures.frame in
    let class : class_at c.args.c.now n ≡ f.class = ap (λ (x : ClassFrame). x.class) (get_or_from_slice_get c.args.c.now.frames n f _ frame) in
    let inside : f.class < length c.loop-node.vertices.items = (let t = c.class_of-class.ensures.there in let k = c.loop-node.invariant.counted in omega arith) in
    elim c.if-is_none.branch [
      | then-is_none+in_ok-push w ↦ pushes c.args.c.now order c.loop-node.node-index n f.class f c.index.result.now c.loop-node.least.items c.loop-node.vertices.items at frame class inside c.index.ensures c.loop-node.invariant c.requires.once c.requires.order w.if-is_none.ensures w.len.result (let k = c.loop-node.least.ok.0 in let e = w.len.ensures in omega arith) c.if-is_none.least.items c.if-is_none.vertices.items (ap (λ (v : Vec ℕ Global). v.items) w.least-is ∙ w.in_ok-push.ensures.items) (ap (λ (v : Vec (Option ℕ) Global). v.items) w.vertices-is)
      | else-is_none w ↦ skips c.args.c.now order c.loop-node.node-index n f.class f c.index.result.now c.loop-node.least.items c.loop-node.vertices.items at frame class inside c.index.ensures c.loop-node.invariant w.if-is_none.ensures c.if-is_none.least.items c.if-is_none.vertices.items (ap (λ (v : Vec ℕ Global). v.items) w.least-is) (ap (λ (v : Vec (Option ℕ) Global). v.items) w.vertices-is)
    ]

pub returns : goal.returns
returns c = numbered-whole c.args.c.now c.args.order.now c.loop-node.node-index c.loop-node.least.items c.loop-node.vertices.items c.requires.order (let e = c.loop-node.auto.node-index-end in let p = c.loop-node-test.false in omega arith) c.loop-node.invariant
