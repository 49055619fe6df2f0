use Rattle.std.proofs.Common.{◌∙◌, ◌↔◌, [], IsTrue, sym, ap, subst, arith}
use Rattle.journal_defs.specs.Growth.{IsGrown, IsEndedAtLimit}
use Rattle.journal_defs.specs.Truth.{IsTrueJournal, IsTrueWhereFound}
use Rattle.replicate_merge.specs.Table.{StandsFor}
use Rattle.mapper.specs.Asks.{AreAsked}
use Rattle.mapper.specs.declared.growth.Grown.{Grown}
use Rattle.mapper.specs.Growths.{IsBareTree, StopsShort}
use Rattle.mapper.proofs.Adding.{on-err}
use Rattle.mapper.proofs.Starting.{stops-at-once, limit-told}
use Rattle.mapper.proofs.growth.grow.Goals as goal

pub returns-in_err-tree-clause-stopped : goal.returns-in_err-tree-clause-stopped
returns-in_err-tree-clause-stopped g c =
    let p = g.P.Prober in
    on-err c.from_residual.result (stops-at-once p.State p.asked (p.fabric c.args.p.now) (p.mapper c.args.p.now) c.args.depth (p.state c.args.p.now) (p.state c.args.p.now) (p.lost c.args.p.now) (p.lost c.args.p.now) p.cut)

pub grow_tree-requires-clause-shallow : goal.grow_tree-requires-clause-shallow
grow_tree-requires-clause-shallow g c = let d = c.in_ok-tree.ensures.to_depth in let s = c.requires.shallow in omega arith

pub grow_tree-requires-clause-bare : goal.grow_tree-requires-clause-bare
grow_tree-requires-clause-bare g c =
    let t = c.in_ok-tree.tree in
    subst (λ h. IsBareTree h t.depth t) c.host-host.ensures.value (subst (λ d. IsBareTree c.host-host.result d t) (sym c.in_ok-tree.ensures.to_depth) c.in_ok-tree.ensures)

pub returns-in-Ok-clause-host : goal.returns-in-Ok-clause-host
returns-in-Ok-clause-host g c = ap (λ (r : Grown). r.journal.host) c.grown_of.ensures ∙ c.in-Ok.ensures.grown.at_host

pub returns-in-Ok-clause-grown : goal.returns-in-Ok-clause-grown
returns-in-Ok-clause-grown g c =
    let t = c.grow_tree.new.tree in
    let k = c.in-Ok.ensures.grown in
    subst (λ (r : Grown). IsGrown (g.P.Prober.mapper c.args.p.now) c.args.depth r.journal.entries) (sym c.grown_of.ensures) (subst (λ d. IsGrown (g.P.Prober.mapper c.args.p.now) d t.journal.entries) (k.to_depth ∙ c.in_ok-tree.ensures.to_depth) (subst (λ h. IsGrown h t.depth t.journal.entries) k.at_host k.whole.grown))

pub returns-in-Ok-clause-asked : goal.returns-in-Ok-clause-asked
returns-in-Ok-clause-asked g c = let p = g.P.Prober in subst (λ (r : Grown). AreAsked p.State p.asked (p.state c.args.p.now) r.journal.entries (p.state c.grow_tree.new.p)) (sym c.grown_of.ensures) c.in-Ok.ensures.grown.grown.led

pub returns-in-Ok-clause-found : goal.returns-in-Ok-clause-found
returns-in-Ok-clause-found g c = subst (λ (r : Grown). IsTrueWhereFound (g.P.Prober.fabric c.args.p.now) (g.P.Prober.mapper c.args.p.now) r.journal.entries) (sym c.grown_of.ensures) c.in-Ok.ensures.grown.grown.found

pub returns-in-Ok-clause-truth : goal.returns-in-Ok-clause-truth
returns-in-Ok-clause-truth g c calm = subst (λ (r : Grown). IsTrueJournal (g.P.Prober.fabric c.args.p.now) (g.P.Prober.mapper c.args.p.now) r.journal.entries) (sym c.grown_of.ensures) (c.in-Ok.ensures.grown.grown.truth calm)

pub returns-in-Ok-clause-stands : goal.returns-in-Ok-clause-stands
returns-in-Ok-clause-stands g c = subst (λ (r : Grown). StandsFor r.journal.host r.journal.entries r.classes) (sym c.grown_of.ensures) c.in-Ok.ensures.grown.whole.stands

pub returns-in-Ok-clause-at_limit : goal.returns-in-Ok-clause-at_limit
returns-in-Ok-clause-at_limit g c = subst (λ (r : Grown). IsTrue r.at_limit ↔ IsEndedAtLimit r.journal.entries) (sym c.grown_of.ensures) (limit-told c.grow_tree.new.tree c.in-Ok.ensures.grown.whole)

pub returns-in-Err-clause-stopped : goal.returns-in-Err-clause-stopped
returns-in-Err-clause-stopped g c = let p = g.P.Prober in subst (λ d. StopsShort p.State p.asked p.cut (p.mapper c.args.p.now) d [] (p.state c.args.p.now) (p.state c.grow_tree.new.p)) c.in_ok-tree.ensures.to_depth c.in-Err.ensures.stopped
