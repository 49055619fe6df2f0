use Rattle.std.proofs.Common.{◌≡◌, [], false, ap, sym, ◌∙◌, subst}
use Rattle.std.proofs.lemmas.Result.{on_ok_weaker}
use Rattle.journal_defs.specs.Tree.{is_found}
use Rattle.probe.specs.Keeping.{has_walk}
use Rattle.replicate_merge.specs.Between.{AddsEntry, IsFrontOf, with_orphan}
use Rattle.replicate_merge.specs.Table.{ClassTable}
use Rattle.replicate_merge.specs.declared.fronts.Front.{Front}
use Rattle.replicate_merge.proofs.Appending.{new-orphan}
use Rattle.replicate_merge.proofs.Pushed.{adds-behind, adds-first, adds-orphan, lost-answer}
use Rattle.replicate_merge.proofs.classes.Classes.add_entry.Goals as goal

pub push_orphan-requires : goal.push_orphan-requires
push_orphan-requires c = ap (has_walk c.args.self.now.kept.orphans) c.turns.ensures.value ∙ new-orphan c.args.self.now c.args.e.now c.requires.next

pub returns-in-Missing-clause-adds : goal.returns-in-Missing-clause-adds
returns-in-Missing-clause-adds c =
    let old = c.args.self.now in
    let e = c.args.e.now in
    let lost : is_found e.answer ≡ false = sym c.is_found.ensures ∙ c.if-is_found.false in
    on_ok_weaker c.push_orphan.result (λ p. subst (λ (t : ClassTable). AddsEntry old e t) (sym (p ∙ ap (λ w. with_orphan w old) c.turns.ensures.value)) (adds-orphan old e lost c.requires.seen (lost-answer e.answer lost))) c.push_orphan.ensures.kept

pub returns-in-Mapper-clause-adds : goal.returns-in-Mapper-clause-adds
returns-in-Mapper-clause-adds c =
    let old = c.args.self.now in
    let e = c.args.e.now in
    let lost : is_found e.answer ≡ false = sym c.is_found.ensures ∙ c.if-is_found.false in
    let f : e.walk ≡ [] = subst (λ (x : Front). IsFrontOf old.nodes e.walk x) c.in-Mapper.is c.requires.front in
    adds-first old e lost c.requires.seen f

pub returns-in-Node-clause-adds : goal.returns-in-Node-clause-adds
returns-in-Node-clause-adds c =
    let old = c.args.self.now in
    let e = c.args.e.now in
    let lost : is_found e.answer ≡ false = sym c.is_found.ensures ∙ c.if-is_found.false in
    let f = subst (λ (x : Front). IsFrontOf old.nodes e.walk x) c.in-Node.is c.requires.front in
    adds-behind old e lost c.requires.seen c.in-Node.field-0 f.0 c.in-Node.field-1 f.1 f.2
