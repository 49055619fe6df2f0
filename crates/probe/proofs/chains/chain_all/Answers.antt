use Rattle.std.proofs.Common.{◌<◌, ◌+◌, ◌%◌, length, refl, ap, ◌∙◌, arith}
use Rattle.std.proofs.lemmas.List.{length-set}
use Rattle.probe.proofs.Chaining.{chained-next, chained-none}
use Rattle.probe.proofs.chains.chain_all.Goals as goal

pub loop-at-init : goal.loop-at-init
loop-at-init g c = (
  refl,
  refl,
  chained-none c.empty_all.new.chains.latest.items c.empty_all.new.chains.before.items _ c.empty_all.ensures.latest c.empty_all.ensures.before,
)

pub loop-at-preserved : goal.loop-at-preserved
loop-at-preserved g c =
    let latest = c.loop-at.chains.latest.items in
    let before = c.loop-at.chains.before.items in
    let hash = c.hash_of.result in
    let size = c.loop-at.invariant.0 in
    let some : 0 < length latest = (let s = c.requires.some in omega arith) in (
      ap length c.add.ensures.latest ∙ length-set latest (hash % length latest) (length before + 1) ∙ size,
      c.add.ensures.same_room ∙ c.loop-at.invariant.1,
      chained-next (g.W.WalkList.list c.args.walks.now) c.loop-at.at c.turns_at.result.now hash latest before c.add.new.chains.latest.items c.add.new.chains.before.items c.loop-at.invariant.2 c.turns_at.ensures
          c.hash_of.ensures some c.add.ensures.latest c.add.ensures.before,
    )
