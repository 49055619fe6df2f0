use Rattle.std.proofs.Common.{◌≡◌, ◌<◌, ◌+◌, List, suc, length, set, refl, ap, sym, ◌∙◌, subst, arith}
use Rattle.net_defs.specs.Turn.{IsTurn}
use Rattle.port_align.specs.declared.frame.ClassFrame.{ClassFrame}
use Rattle.replicate_merge.specs.Heads.{seen_frame}
use Rattle.replicate_merge.specs.Ways.{frame_at}
use Rattle.replicate_merge.proofs.SeenFirst.{first-all, first-length, first-next, first-set, seen_first}
use Rattle.replicate_merge.proofs.seeing.see_all.Goals as goal

pub loop-node-init : goal.loop-node-init
loop-node-init c = refl

pub see-requires-clause-there : goal.see-requires-clause-there
see-requires-clause-there c =
    let same = ap length c.loop-node.invariant ∙ first-length c.args.heads.now c.loop-node.node c.args.frames.now.items in
    let below = c.loop-node-test.true in
    let count = c.len-node-end.ensures in
    omega arith

pub see-requires-clause-named : goal.see-requires-clause-named
see-requires-clause-named c =
    let hs = c.args.heads.now in
    let fs = c.args.frames.now.items in
    let n = c.loop-node.node in
    let count = c.len-node-end.ensures in
    let below : n < length fs = (let t = c.loop-node-test.true in omega arith) in
    let same : frame_at c.loop-node.frames.items n ≡ frame_at fs n = ap (λ (xs : List ClassFrame). frame_at xs n) c.loop-node.invariant ∙ first-next hs n fs in
    subst (λ (f : ClassFrame). f.class < length hs) (sym same) (c.requires.named n below)

pub see-requires-clause-turn : goal.see-requires-clause-turn
see-requires-clause-turn c =
    let hs = c.args.heads.now in
    let fs = c.args.frames.now.items in
    let n = c.loop-node.node in
    let count = c.len-node-end.ensures in
    let below : n < length fs = (let t = c.loop-node-test.true in omega arith) in
    let same : frame_at c.loop-node.frames.items n ≡ frame_at fs n = ap (λ (xs : List ClassFrame). frame_at xs n) c.loop-node.invariant ∙ first-next hs n fs in
    subst (λ (f : ClassFrame). IsTurn (seen_frame hs f).offset) (sym same) (c.requires.turns n below)

pub loop-node-preserved : goal.loop-node-preserved
loop-node-preserved c =
    let hs = c.args.heads.now in
    let fs = c.args.frames.now.items in
    let n = c.loop-node.node in
    let count = c.len-node-end.ensures in
    let below : n < length fs = (let t = c.loop-node-test.true in omega arith) in
    let same : frame_at c.loop-node.frames.items n ≡ frame_at fs n = ap (λ (xs : List ClassFrame). frame_at xs n) c.loop-node.invariant ∙ first-next hs n fs in
    let next : suc n ≡ n + 1 = omega arith in
    c.see.ensures
    ∙ (λ i. set (c.loop-node.invariant i) n (seen_frame hs (same i)))
    ∙ first-set hs n fs below
    ∙ ap (λ k. seen_first hs k fs) next

pub returns : goal.returns
returns c =
    let hs = c.args.heads.now in
    let fs = c.args.frames.now.items in
    let count = c.len-node-end.ensures in
    c.loop-node.invariant ∙ first-all hs c.loop-node.node fs (let t = c.loop-node-test.false in omega arith)
