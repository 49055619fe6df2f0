use Rattle.std.proofs.Common.{◌≡◌, ◌∙◌, subst, arith, rules, SFits, to_z, of_z, w8}
use Rattle.std.proofs.lemmas.Int.{to_z-of_z}
use Rattle.replicate_merge.specs.Behind.{AddsBehind}
use Rattle.replicate_merge.specs.Nodes.{nodes_of}
use Rattle.replicate_merge.specs.Onward.{AddsBelow}
use Rattle.replicate_merge.proofs.Behind.{below-next, below-none}
use Rattle.replicate_merge.proofs.pushing.push_all_behind.Goals as goal

pub loop-place-init : goal.loop-place-init
loop-place-init c = record { walk = c.in_ok-next.ensures; adds = below-none (nodes_of c.args.walks.now) c.args.walk.now c.args.node c.args.ways.now.items }

pub loop-place-preserved : goal.loop-place-preserved
loop-place-preserved c =
    let walks = c.args.walks.now in
    let walk = c.args.walk.now in
    let n = c.args.node in
    let place = c.loop-place.place in
    let t = c.turn_at.result in
    let fits : SFits w8 t = search rules in
    let same : to_z w8 (of_z w8 t) ≡ t = to_z-of_z w8 t fits in
    let inv = c.loop-place.invariant in
    let mid = c.loop-place.ways.items in
    let new = c.push_behind.new.ways.items in
    let adds : AddsBehind walks walk t n mid new =
    subst (λ s. AddsBehind walks walk s n mid new) same (subst (λ w. AddsBehind walks w (to_z w8 (of_z w8 t)) n mid new) inv.walk c.in_ok-push_behind.ensures.adds) in
    record {
      walk = c.in_ok-push_behind.ensures.same ∙ inv.walk;
      adds = below-next walks c.requires.once walk n place t c.args.ways.now.items mid new c.turn_at.ensures adds inv.adds;
    }

pub returns : goal.returns
returns c =
    let all : c.loop-place.place ≡ 31 = (let e = c.loop-place.auto.place-end in let t = c.loop-place-test.false in omega arith) in
    subst (λ k. AddsBelow (nodes_of c.args.walks.now) c.args.walk.now c.args.node k c.args.ways.now.items c.loop-place.ways.items) all c.loop-place.invariant.adds
