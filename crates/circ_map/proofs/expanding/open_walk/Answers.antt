use Rattle.std.proofs.Common.{◌≡◌, ◌<◌, length, Some, refl, sym, subst, ap, arith}
use Rattle.std.specs.Prelude.{slice_get}
use Rattle.std.proofs.lemmas.Option.{slice_get_read}
use Rattle.net_defs.specs.declared.place.Answer.TheVariants.{Switch}
use Rattle.journal_defs.specs.Growth.{crossed}
use Rattle.circ_map.specs.Growing.{IsOpen}
use Rattle.circ_map.proofs.Turnwise.{front-onward}
use Rattle.circ_map.proofs.expanding.open_walk.Goals as goal

pub returns-in_ok-onward-clause-open : goal.returns-in_ok-onward-clause-open
returns-in_ok-onward-clause-open c =
    let e = c.index-found-at.result in
    let there : slice_get c.args.found.now c.args.at ≡ Some e = slice_get_read c.args.found.now (length c.args.found.now) c.args.at e refl c.requires.there c.index-found-at.is in
    let switch : e.answer ≡ Switch = c.is_switch.ensures.0 c.if-is_switch.true in
    let long = ap length c.turns-turns.ensures.value in
    let low = c.if-turns-from.true in
    let same = c.from.ensures in
    let near : crossed e.walk < c.args.depth = omega arith in
    let opened : IsOpen c.args.depth c.args.found.now c.args.at c.turns-turns.result.now = record { entry = e; there = there; switch = switch; near = near; is = c.turns-turns.ensures.value } in
    subst (IsOpen c.args.depth c.args.found.now c.args.at) (sym (front-onward c.turns-turns.result.now c.in_ok-onward.field-0 _ c.in_ok-onward.ensures)) opened
