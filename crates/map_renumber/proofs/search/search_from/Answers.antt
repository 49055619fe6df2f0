use Rattle.std.proofs.Common.{◌≡◌, false, refl, arith, rules}
use Rattle.map_renumber.proofs.Steps.{row-done, passes-by}
use Rattle.map_renumber.proofs.search.search_from.Goals as goal

pub returns-then-not-goes_on : goal.returns-then-not-goes_on
returns-then-not-goes_on c =
    let no : c.goes_on.result ≡ false = search rules in
    passes-by c.args.m.now c.args.search.now.found.items c.args.search.now.numbers.items c.args.next 0 c.requires.begun refl (c.goes_on.ensures.no no)

pub returns : goal.returns
returns c =
    row-done c.args.m.now c.loop-place.search.found.items c.loop-place.search.numbers.items c.args.next c.loop-place.place c.loop-place.invariant.search (let end = c.loop-place.auto.place-end in let past = c.loop-place-test.false in omega arith)
