use Rattle.std.proofs.Common.{◌≡◌, ◌++◌, ◌+◌, ◌∙◌, subst, refl, rules, SFits, to_z, of_z, w8}
use Rattle.std.proofs.lemmas.Int.{to_z-of_z}
use Rattle.std.proofs.lemmas.Option.{get_or_from_slice_get, slice_get_within}
use Rattle.std.proofs.lemmas.Result.{on_ok_weaker}
use Rattle.journal_defs.specs.Tree.Node.{Mapper, Reached}
use Rattle.probe.proofs.Indexing.{walk-missing}
use Rattle.replicate_merge.specs.Between.{IsFrontOf}
use Rattle.replicate_merge.specs.Cables.{both_ways}
use Rattle.replicate_merge.specs.Cables.AddsCables.{from_mapper, from_node, from_none}
use Rattle.replicate_merge.specs.Nodes.{nodes_of}
use Rattle.replicate_merge.specs.declared.fronts.Front.{Front}
use Rattle.replicate_merge.proofs.Reading.{node-there}
use Rattle.replicate_merge.proofs.Telling.{node-walk}
use Rattle.replicate_merge.proofs.ways.push_cables.Goals as goal

pub returns-in-Mapper : goal.returns-in-Mapper
returns-in-Mapper c =
    let f = subst (λ (x : Front). IsFrontOf (nodes_of c.args._walks.now) c.args._walk.now x) c.in-Mapper.is c.requires in
    on_ok_weaker c.push_both.result (λ e. from_mapper f e) c.push_both.ensures

pub returns-in-Node : goal.returns-in-Node
returns-in-Node c =
    let walks = c.args._walks.now in
    let old = c.args.ways.now.items in
    let turn = c.in-Node.turn in
    let fits : SFits w8 turn = search rules in
    let same : to_z w8 (of_z w8 turn) ≡ turn = to_z-of_z w8 turn fits in
    let f = subst (λ (x : Front). IsFrontOf (nodes_of walks) c.args._walk.now x) c.in-Node.is c.requires in
    let at = node-walk walks c.in-Node.from f.0 (slice_get_within (nodes_of walks) c.in-Node.from (Reached f.0) f.2) (get_or_from_slice_get (nodes_of walks) c.in-Node.from (Reached f.0) Mapper f.2) in
    on_ok_weaker c.push_both-in-Node.result (λ e. from_node f.0 turn at.place f.1 at.walk (e ∙ (λ i. old ++ both_ways (at.number i) (same i) c.args.node))) c.push_both-in-Node.ensures

pub returns-in-Missing : goal.returns-in-Missing
returns-in-Missing c =
    let walks = c.args._walks.now in
    let f = subst (λ (x : Front). IsFrontOf (nodes_of walks) c.args._walk.now x) c.in-Missing.is c.requires in
    from_none f.0 f.1 f.2 (walk-missing walks f.0 (λ at e. f.3 (at + 1) (node-there walks at f.0 e))) refl
