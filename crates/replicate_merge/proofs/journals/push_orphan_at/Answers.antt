use Rattle.std.proofs.Common.{◌≡◌, ◌+◌, ◌++◌, ◌∷◌, [], List, Some, true, false, ap, sym, ◌∙◌, subst, take, arith}
use Rattle.std.specs.Prelude.{ℤ, slice_get}
use Rattle.std.proofs.lemmas.Result.{on_ok_weaker}
use Rattle.journal_defs.specs.declared.entry.Entry.{Entry}
use Rattle.journal_defs.specs.Tree.{is_found}
use Rattle.probe.specs.Keeping.{has_walk}
use Rattle.replicate_merge.specs.Nodes.{nodes_of}
use Rattle.replicate_merge.proofs.Waying.{take-more}
use Rattle.replicate_merge.specs.AtOnce.{AreOrphans}
use Rattle.replicate_merge.specs.Between.{IsFrontOf}
use Rattle.replicate_merge.specs.declared.fronts.Front.{Front}
use Rattle.replicate_merge.proofs.Entries.{entry-in}
use Rattle.replicate_merge.proofs.Finding.{few-walks}
use Rattle.replicate_merge.proofs.OrphansAtOnce.{orphan-new, orphans-behind, orphans-first, orphans-found, orphans-more}
use Rattle.replicate_merge.proofs.Prefixes.{fresh-take}
use Rattle.replicate_merge.proofs.Pushed.{lost-answer}
use Rattle.replicate_merge.proofs.journals.push_orphan_at.Goals as goal

pub returns-then-is_found : goal.returns-then-is_found
returns-then-is_found c =
    let j = c.args.j.now.entries in
    let k = c.args.at in
    let e = c.index-entries-at.result in
    let at : slice_get j k ≡ Some e = entry-in c.entries.result.now j k e c.entries.ensures.list c.requires.there ∙ ap (λ x. Some x) (sym c.index-entries-at.is) in
    let once = c.entries.ensures.once in
    let fresh = fresh-take j k e at once in
    let found : is_found e.answer ≡ true = sym c.is_found.ensures ∙ c.if-is_found.true in
    subst (λ (l : List Entry). AreOrphans l c.args.walks.now c.args.orphans.now) (sym (take-more j k e at)) (orphans-found (take k j) e fresh c.args.walks.now c.args.orphans.now c.requires.before found)

pub front_of-requires : goal.front_of-requires
front_of-requires c =
    let walks = few-walks c.args.j.now.entries c.args.walks.now c.requires.nodes in
    let few = c.requires.few in
    omega arith

pub push-requires : goal.push-requires
push-requires c =
    let j = c.args.j.now.entries in
    let k = c.args.at in
    let e = c.index-entries-at.result in
    let at : slice_get j k ≡ Some e = entry-in c.entries.result.now j k e c.entries.ensures.list c.requires.there ∙ ap (λ x. Some x) (sym c.index-entries-at.is) in
    let once = c.entries.ensures.once in
    let fresh = fresh-take j k e at once in
    ap (has_walk c.args.orphans.now) c.turns-in-Missing.ensures.value ∙ orphan-new (take k j) e fresh c.args.walks.now c.args.orphans.now c.requires.before

pub returns-in-Missing : goal.returns-in-Missing
returns-in-Missing c =
    let j = c.args.j.now.entries in
    let k = c.args.at in
    let e = c.index-entries-at.result in
    let at : slice_get j k ≡ Some e = entry-in c.entries.result.now j k e c.entries.ensures.list c.requires.there ∙ ap (λ x. Some x) (sym c.index-entries-at.is) in
    let once = c.entries.ensures.once in
    let fresh = fresh-take j k e at once in
    let lost : is_found e.answer ≡ false = sym c.is_found.ensures ∙ c.if-is_found.false in
    let walks = c.args.walks.now in
    let orphans = c.args.orphans.now in
    let more : AreOrphans (take (k + 1) j) walks (orphans ++ e.walk ∷ []) = subst (λ (l : List Entry). AreOrphans l walks (orphans ++ e.walk ∷ [])) (sym (take-more j k e at)) (orphans-more (take k j) e fresh walks orphans c.requires.before (lost-answer e.answer lost)) in
    on_ok_weaker c.push.result (λ p. subst (λ (l : List (List ℤ)). AreOrphans (take (k + 1) j) walks l) (sym (p ∙ ap (λ w. orphans ++ w ∷ []) c.turns-in-Missing.ensures.value)) more) c.push.ensures.ok

pub returns-in-Mapper : goal.returns-in-Mapper
returns-in-Mapper c =
    let j = c.args.j.now.entries in
    let k = c.args.at in
    let e = c.index-entries-at.result in
    let at : slice_get j k ≡ Some e = entry-in c.entries.result.now j k e c.entries.ensures.list c.requires.there ∙ ap (λ x. Some x) (sym c.index-entries-at.is) in
    let once = c.entries.ensures.once in
    let fresh = fresh-take j k e at once in
    let walks = c.args.walks.now in
    let front : IsFrontOf (nodes_of walks) e.walk c.front_of.result = subst (λ w. IsFrontOf (nodes_of walks) w c.front_of.result) c.turns.ensures.value c.front_of.ensures in
    let f : e.walk ≡ [] = subst (λ (x : Front). IsFrontOf (nodes_of walks) e.walk x) c.in-Mapper.is front in
    subst (λ (l : List Entry). AreOrphans l c.args.walks.now c.args.orphans.now) (sym (take-more j k e at)) (orphans-first (take k j) e fresh walks c.args.orphans.now c.requires.before f)

pub returns-in-Node : goal.returns-in-Node
returns-in-Node c =
    let j = c.args.j.now.entries in
    let k = c.args.at in
    let e = c.index-entries-at.result in
    let at : slice_get j k ≡ Some e = entry-in c.entries.result.now j k e c.entries.ensures.list c.requires.there ∙ ap (λ x. Some x) (sym c.index-entries-at.is) in
    let once = c.entries.ensures.once in
    let fresh = fresh-take j k e at once in
    let walks = c.args.walks.now in
    let front : IsFrontOf (nodes_of walks) e.walk c.front_of.result = subst (λ w. IsFrontOf (nodes_of walks) w c.front_of.result) c.turns.ensures.value c.front_of.ensures in
    let f = subst (λ (x : Front). IsFrontOf (nodes_of walks) e.walk x) c.in-Node.is front in
    subst (λ (l : List Entry). AreOrphans l c.args.walks.now c.args.orphans.now) (sym (take-more j k e at)) (orphans-behind (take k j) e fresh walks c.args.orphans.now c.requires.before c.in-Node.field-0 f.0 c.in-Node.field-1 f.1 f.2)
