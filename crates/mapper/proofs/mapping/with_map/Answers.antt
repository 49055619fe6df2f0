use Rattle.std.proofs.Common.{◌≡◌, ◌<◌, ◌∙◌, length, ap, sym, subst}
use Rattle.std.specs.Prelude.{not, ◌||◌}
use Rattle.map_defs.specs.Quotient.{IsQuotient}
use Rattle.replicate_merge.specs.Table.{IsTrueOfOne}
use Rattle.probe.specs.Keeping.{JournalState}
use Rattle.replicate_merge.specs.Merged.{AreClassesOf}
use Rattle.replicate_merge.proofs.PlainClasses.{stands-classes}
use Rattle.mapper.proofs.Ending.{made-if}
use Rattle.mapper.proofs.mapping.with_map.Goals.{then-always, else-always}
use Rattle.mapper.proofs.mapping.with_map.Goals as goal

pub map_if-requires-clause-classes : goal.map_if-requires-clause-classes
map_if-requires-clause-classes c =
    subst (λ (j : JournalState). AreClassesOf j.host j.entries c.parted-journal.result.1) (sym c.parted-journal.ensures.journal)
    (stands-classes c.args.grown.journal.host c.args.grown.journal.entries c.args.grown.classes c.parted-journal.result.1 c.requires.stands c.parted-journal.ensures.classes)

pub map_if-requires-clause-true_of_one : goal.map_if-requires-clause-true_of_one
map_if-requires-clause-true_of_one c = subst (λ (j : JournalState). IsTrueOfOne j.host j.entries) (sym c.parted-journal.ensures.journal) c.requires.true_of_one

pub map_if-requires-clause-few : goal.map_if-requires-clause-few
map_if-requires-clause-few c = subst (λ (j : JournalState). length j.entries < 4294967295) (sym c.parted-journal.ensures.journal) c.requires.few

pub returns-clause-made : goal.returns-clause-made
returns-clause-made c =
    let j = c.args.grown.journal in
    let m = c.in_ok-map.map in
    let made : c.if-always.made ≡ (c.args.always || not c.args.grown.at_limit) =
    elim c.if-always.branch [
      | then-always w ↦ w.made-is ∙ w.if-always.true ∙ ap (λ b. b || not c.args.grown.at_limit) (sym w.if-always.true)
      | else-always w ↦ w.made-is ∙ ap (λ b. b || not c.args.grown.at_limit) (sym w.if-always.false)
    ] in
    made-if j.host j.entries m c.args.grown.at_limit c.args.always c.if-always.made c.requires.at_limit made
    (λ e. subst (λ (v : JournalState). IsQuotient v.host v.entries m) c.parted-journal.ensures.journal (c.in_ok-map.ensures.made e)) c.in_ok-map.ensures.none
