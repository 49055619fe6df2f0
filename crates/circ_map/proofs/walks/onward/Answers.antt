use Rattle.std.proofs.Common.{◌≡◌, ◌++◌, ◌∷◌, [], ◌∙◌, ap, to_z, of_z, w8, arith}
use Rattle.std.proofs.lemmas.Int.{ints}
use Rattle.circ_map.proofs.Refusing.{onward-fits}
use Rattle.circ_map.proofs.walks.onward.Goals as goal

pub walk_of-requires : goal.walk_of-requires
walk_of-requires c =
    let range = c.ranges.turn.sfits in
    let back : to_z w8 (of_z w8 c.args.turn) ≡ c.args.turn = grind (arith, ints) in
    onward-fits c.args.front.now c.deref.result.now c.args.turn c.requires.short c.requires.front c.requires.turn
    (c.deref.ensures.value ∙ c.in_ok-push.ensures.items ∙ ap (λ l. l ++ to_z w8 (of_z w8 c.args.turn) ∷ []) (c.in_ok-extend_from_slice.ensures.items ∙ ap (λ l. l ++ c.args.front.now) c.in_ok-turns.ensures.items) ∙ ap (λ t. c.args.front.now ++ t ∷ []) back)
