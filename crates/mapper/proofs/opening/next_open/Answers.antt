use Rattle.std.proofs.Common.{ap, subst}
use Rattle.std.specs.Prelude.{is_some}
use Rattle.mapper.specs.Finding.{IsNodeAt}
use Rattle.mapper.proofs.Telling.{open-found, open-passed}
use Rattle.mapper.proofs.opening.next_open.Goals as goal

pub returns-in-Some-clause-found : goal.returns-in-Some-clause-found
returns-in-Some-clause-found c =
    let j = c.args.journal.now in
    open-found j.host c.args.depth j.entries c.entries-entries.result.now c.args.classes.now c.args.from c.loop-place.place (is_some c.open_at.result) c.requires c.entries-entries.ensures.once c.entries-entries.ensures.list c.open_at.ensures.tells (ap is_some c.in-Some.is) c.loop-place.auto.place c.loop-place.invariant

pub returns-in-Some-clause-node : goal.returns-in-Some-clause-node
returns-in-Some-clause-node c = subst (λ es. IsNodeAt c.args.classes.now es c.loop-place.place c.in-Some.node) c.entries-entries.ensures.list c.in-Some.ensures.node

pub loop-place-preserved : goal.loop-place-preserved
loop-place-preserved c =
    let j = c.args.journal.now in
    open-passed j.host c.args.depth j.entries c.entries-entries.result.now c.args.classes.now c.args.from c.loop-place.place (is_some c.open_at.result) c.requires c.entries-entries.ensures.once c.entries-entries.ensures.list c.open_at.ensures.tells (ap is_some c.in_default.is) c.loop-place.invariant
