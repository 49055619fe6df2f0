use Rattle.std.proofs.Common.{◌≡◌, ◌+◌, ◌++◌, ◌∷◌, [], ◌∙◌, length, take, to_z, of_z, w8, arith}
use Rattle.std.proofs.lemmas.Int.{ints}
use Rattle.mapper.proofs.Walking.{onward-fits}
use Rattle.mapper.proofs.walks.onward.Goals as goal

pub walk_of-requires : goal.walk_of-requires
walk_of-requires c =
    let front = c.args.front.now in
    let range = c.ranges.turn.sfits in
    let back : to_z w8 (of_z w8 c.args.turn) ≡ c.args.turn = grind (arith, ints) in
    onward-fits front (take (length front + 1) c.one_more-turns.result) c.args.turn c.requires.short c.requires.front c.requires.turn
    (c.one_more-turns.ensures ∙ (λ i. front ++ back i ∷ []))
