use Rattle.std.proofs.Common.{◌≡◌, ◌+◌, false, Some, ap, sym, ◌∙◌}
use Rattle.std.specs.Prelude.{slice_get}
use Rattle.probe.specs.Keeping.{has_walk}
use Rattle.replicate_merge.specs.Table.{ClassTable}
use Rattle.replicate_merge.proofs.Reading.{node-there, node-missing}
use Rattle.replicate_merge.proofs.classes.Classes.node_near.Goals as goal

pub returns-in-Some-clause-found : goal.returns-in-Some-clause-found
returns-in-Some-clause-found c =
    let walks = c.self.inside.walks in
    let there : slice_get walks c.in-Some.at ≡ Some c.args.w.now = c.in-Some.ensures.place ∙ ap Some c.turns.ensures.value in
    ap (λ (t : ClassTable). slice_get t.nodes (c.in-Some.at + 1)) (sym c.self.view_is) ∙ node-there walks c.in-Some.at c.args.w.now there

pub returns-in-None-clause-missing : goal.returns-in-None-clause-missing
returns-in-None-clause-missing c = λ none n e.
    let walks = c.self.inside.walks in
    let missing : has_walk walks c.args.w.now ≡ false = ap (has_walk walks) (sym c.turns.ensures.value) ∙ sym c.in-None.ensures.found in
    node-missing walks c.args.w.now missing n (ap (λ (t : ClassTable). slice_get t.nodes n) c.self.view_is ∙ e)
