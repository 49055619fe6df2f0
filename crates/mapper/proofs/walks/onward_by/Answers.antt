use Rattle.std.proofs.Common.{◌≡◌, ◌++◌, ◌∷◌, [], ◌∙◌, ap, to_z, of_z, w8, arith}
use Rattle.std.proofs.lemmas.Int.{ints}
use Rattle.mapper.proofs.Walking.{onward-long, onward-front}
use Rattle.mapper.proofs.walks.onward_by.Goals as goal

pub turn_last-requires-clause-some : goal.turn_last-requires-clause-some
turn_last-requires-clause-some c = onward-long c.args._front.now c.args.next.now c.requires.next.0 c.requires.next.1

pub returns-clause-next : goal.returns-clause-next
returns-clause-next c = (_, c.turn_last.ensures ∙ ap (λ l. l ++ to_z w8 (of_z w8 c.args.turn) ∷ []) (onward-front c.args._front.now c.args.next.now c.requires.next.0 c.requires.next.1))

pub returns-clause-walk : goal.returns-clause-walk
returns-clause-walk c =
    let back : to_z w8 (of_z w8 c.args.turn) ≡ c.args.turn = grind (arith, ints) in
    c.in_ok-walk.ensures ∙ c.turn_last.ensures
    ∙ ap (λ l. l ++ to_z w8 (of_z w8 c.args.turn) ∷ []) (onward-front c.args._front.now c.args.next.now c.requires.next.0 c.requires.next.1)
    ∙ ap (λ t. c.args._front.now ++ t ∷ []) back
