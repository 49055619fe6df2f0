use Rattle.std.proofs.Common.{◌≡◌, ◌+◌, ◌∙◌, ap, take, to_z, of_z, w8, arith}
use Rattle.std.proofs.lemmas.Int.{ints}
use Rattle.circ_link.specs.Exits.{exit_from}
use Rattle.circ_link.proofs.Going.{place-on}
use Rattle.circ_link.proofs.places.place_after.Goals as goal

pub returns : goal.returns
returns c =
    let walk = c.args.walk.now in
    let range = c.ranges.turn.sfits in
    let back : to_z w8 (of_z w8 c.args.turn) ≡ c.args.turn = grind (arith, ints) in
    place-on c.args.f.now c.args.host (take walk.count walk.turns) c.args.turn (take (walk.count + 1) walk.exits) walk.entered c.exit_from-exit.result c.end_from.result walk.channels walk.cables c.held_on.result
    c.hosts-count.ensures.fabric c.requires.followed (c.exit_from-exit.ensures ∙ ap (exit_from c.args.f.now walk.entered) back) c.end_from.ensures c.held_on.ensures
