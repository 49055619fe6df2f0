use Rattle.std.proofs.Common.{◌≡◌, ◌+◌, List, Option, Some, None, drop, ℕ, sym, ap, ◌∙◌}
use Rattle.std.specs.Prelude.{option_and_then, is_some}
use Rattle.route_install.specs.Collecting.{Numbered, joined_all}
use Rattle.route_install.specs.Finding.{rises_from}
use Rattle.route_install.proofs.Rising.{rises-at}
use Rattle.route_install.proofs.finding.are_rising.Goals as goal

pub returns-in-None : goal.returns-in-None
returns-in-None c =
    let ps : List Numbered = c.args.parts.now in
    let at = c.loop-part.part-index in
    let item : Numbered = c.part-item.result in
    let gone : rises_from c.loop-part.least item.1 ≡ None = sym (c.rises_from.ensures.value ∙ ap (rises_from c.loop-part.least) c.entries.ensures) ∙ c.in-None.is in
    let none : rises_from 0 (joined_all ps) ≡ None = sym c.loop-part.invariant.0 ∙ rises-at c.loop-part.least at item ps c.loop-part-test.true c.part-item.is ∙ ap (λ (o : Option ℕ). option_and_then (λ m. rises_from m (joined_all (drop (at + 1) ps))) o) gone in
    sym (ap is_some none)

pub loop-part-preserved : goal.loop-part-preserved
loop-part-preserved c =
    let ps : List Numbered = c.args.parts.now in
    let at = c.loop-part.part-index in
    let item : Numbered = c.part-item.result in
    let next : rises_from c.loop-part.least item.1 ≡ Some c.in-Some.next = sym (c.rises_from.ensures.value ∙ ap (rises_from c.loop-part.least) c.entries.ensures) ∙ c.in-Some.is in
    let more = rises-at c.loop-part.least at item ps c.loop-part-test.true c.part-item.is ∙ ap (λ (o : Option ℕ). option_and_then (λ m. rises_from m (joined_all (drop (at + 1) ps))) o) next in
    (sym more ∙ c.loop-part.invariant.0, c.in-Some.ensures.few)
