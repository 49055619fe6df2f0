use Rattle.std.proofs.Common.{◌≡◌, ◌<◌, ◌+◌, length, drop, get_or, true, false, sym, ◌∙◌, arith}
use Rattle.std.specs.Prelude.{pos}
use Rattle.std.proofs.lemmas.List.{at_drop_more}
use Rattle.std.proofs.lemmas.Option.{slice_get-get_or}
use Rattle.route_calc.specs.declared.entered.Exit.{Exit}
use Rattle.route_calc.specs.Turning.{first_exit, leads_within}
use Rattle.route_calc.proofs.Nearer.{first-hit, first-past}
use Rattle.route_calc.proofs.firsts.first_of.Goals as goal

pub returns-then-leads_within : goal.returns-then-leads_within
returns-then-leads_within c =
    let xs = c.args.exits.now in
    let far = c.args.far.now in
    let k = c.loop-k.k in
    let d : Exit = record { port = pos 0; next = record { v = 0; port = pos 0; down = false } } in
    let x : Exit = get_or xs k d in
    let lt : k < length xs = c.loop-k-test.true in
    let hit : leads_within far c.args.left c.args.down x ≡ true = sym c.leads_within.ensures ∙ c.if-leads_within.true in
    slice_get-get_or xs k d lt
    ∙ sym (first-hit far c.args.left c.args.down x (drop (k + 1) xs) hit)
    ∙ sym (at_drop_more (first_exit far c.args.left c.args.down) xs k d lt)
    ∙ c.loop-k.invariant

pub returns : goal.returns
returns c = first-past c.args.far.now c.args.left c.args.down c.args.exits.now c.loop-k.k _ c.loop-k-test.false (omega arith) c.loop-k.invariant
