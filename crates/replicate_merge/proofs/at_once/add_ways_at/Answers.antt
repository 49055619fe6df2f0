use Rattle.std.proofs.Common.{◌≡◌, ◌+◌, List, Some, false, ap, sym, ◌∙◌, subst, arith}
use Rattle.std.specs.Prelude.{slice_get}
use Rattle.std.proofs.lemmas.Option.{slice_get_within}
use Rattle.probe.specs.Keeping.{has_walk}
use Rattle.replicate_merge.specs.Between.{IsFrontOf}
use Rattle.replicate_merge.specs.Nodes.{nodes_of}
use Rattle.replicate_merge.specs.Steps.{AddsWays, MayAddWays}
use Rattle.replicate_merge.specs.declared.way.Way.{Way}
use Rattle.replicate_merge.proofs.Telling.{count-nodes, walk-node}
use Rattle.replicate_merge.specs.Own.{AreOwnWays}
use Rattle.replicate_merge.proofs.Entries.{entry-in}
use Rattle.replicate_merge.proofs.Finding.{few-walks}
use Rattle.replicate_merge.proofs.Nexts.{once-of}
use Rattle.replicate_merge.proofs.WaysAtOnce.{ways-may, ways-next, ways-same}
use Rattle.replicate_merge.proofs.at_once.add_ways_at.Goals as goal

pub returns-in_default : goal.returns-in_default
returns-in_default c =
    let j = c.args.j.now.entries in
    let k = c.args.at in
    let e = c.index-entries-at.result in
    let at : slice_get j k ≡ Some e = entry-in c.entries.result.now j k e c.entries.ensures.list c.requires.there ∙ ap (λ x. Some x) (sym c.index-entries-at.is) in
    let once = c.entries.ensures.once in
    let walks = c.args.walks.now in
    let none : has_walk walks e.walk ≡ false = ap (has_walk walks) (sym c.turns.ensures.value) ∙ sym c.in_default.ensures.found in
    ways-same c.args.j.now.host j once walks c.requires.nodes k e at c.args.joined.now c.requires.before none

pub overflow_add-place : goal.overflow_add-place
overflow_add-place c =
    let inside = slice_get_within c.args.walks.now c.in-Some.place c.turns.result.now c.in-Some.ensures.place in
    let walks = few-walks c.args.j.now.entries c.args.walks.now c.requires.nodes in
    let few = c.requires.few in
    omega arith

pub overflow_cast-place : goal.overflow_cast-place
overflow_cast-place c =
    let inside = slice_get_within c.args.walks.now c.in-Some.place c.turns.result.now c.in-Some.ensures.place in
    let walks = few-walks c.args.j.now.entries c.args.walks.now c.requires.nodes in
    let few = c.requires.few in
    omega arith

pub own_ways-requires-clause-few : goal.own_ways-requires-clause-few
own_ways-requires-clause-few c =
    let walks = few-walks c.args.j.now.entries c.args.walks.now c.requires.nodes in
    let few = c.requires.few in
    omega arith

pub own_ways-requires-clause-once : goal.own_ways-requires-clause-once
own_ways-requires-clause-once c = once-of c.args.j.now.entries (nodes_of c.args.walks.now) c.requires.nodes c.entries.ensures.once

pub front_of-requires : goal.front_of-requires
front_of-requires c =
    let walks = few-walks c.args.j.now.entries c.args.walks.now c.requires.nodes in
    let few = c.requires.few in
    omega arith

pub own_ways-requires-clause-front : goal.own_ways-requires-clause-front
own_ways-requires-clause-front c = subst (λ w. IsFrontOf (nodes_of c.args.walks.now) w c.front_of.result) (c.turns-3.ensures.value ∙ sym c.turns-2.ensures.value) c.front_of.ensures

pub reserve-requires-clause-few : goal.reserve-requires-clause-few
reserve-requires-clause-few c =
    let names = c.requires.before.names in
    let nodes = count-nodes c.args.walks.now in
    let walks = few-walks c.args.j.now.entries c.args.walks.now c.requires.nodes in
    let few = c.requires.few in
    omega arith

pub add_ways-requires-clause-some : goal.add_ways-requires-clause-some
add_ways-requires-clause-some c =
    let j = c.args.j.now.entries in
    let k = c.args.at in
    let e = c.index-entries-at.result in
    let at : slice_get j k ≡ Some e = entry-in c.entries.result.now j k e c.entries.ensures.list c.requires.there ∙ ap (λ x. Some x) (sym c.index-entries-at.is) in
    let once = c.entries.ensures.once in
    let walks = c.args.walks.now in
    let found : slice_get walks c.in-Some.place ≡ Some e.walk = c.in-Some.ensures.place ∙ ap (λ w. Some w) c.turns.ensures.value in
    let node = walk-node walks c.in-Some.place e.walk found in
    let n = c.in-Some.place + 1 in
    let more = c.own_ways.new.ways.items in
    let news : AreOwnWays (nodes_of walks) e n more = subst (λ w. AreOwnWays (nodes_of walks) (record { walk = w; answer = e.answer }) n more) c.turns-2.ensures.value c.in_ok-own_ways.ensures in
    let room = c.reserve.new.self in
    subst (λ (ws : List Way). MayAddWays (nodes_of walks) room ws) (sym c.deref.ensures.value) (ways-may c.args.j.now.host j once walks c.requires.nodes k e at c.args.joined.now c.requires.before n node.0 node.1 more news room c.reserve.ensures.same)

pub returns : goal.returns
returns c =
    let j = c.args.j.now.entries in
    let k = c.args.at in
    let e = c.index-entries-at.result in
    let at : slice_get j k ≡ Some e = entry-in c.entries.result.now j k e c.entries.ensures.list c.requires.there ∙ ap (λ x. Some x) (sym c.index-entries-at.is) in
    let once = c.entries.ensures.once in
    let walks = c.args.walks.now in
    let found : slice_get walks c.in-Some.place ≡ Some e.walk = c.in-Some.ensures.place ∙ ap (λ w. Some w) c.turns.ensures.value in
    let node = walk-node walks c.in-Some.place e.walk found in
    let n = c.in-Some.place + 1 in
    let more = c.own_ways.new.ways.items in
    let news : AreOwnWays (nodes_of walks) e n more = subst (λ w. AreOwnWays (nodes_of walks) (record { walk = w; answer = e.answer }) n more) c.turns-2.ensures.value c.in_ok-own_ways.ensures in
    let room = c.reserve.new.self in
    let new = c.add_ways.new.self in
    let adds : AddsWays (nodes_of walks) more room new = subst (λ (ws : List Way). AddsWays (nodes_of walks) ws room new) c.deref.ensures.value c.add_ways.ensures.adds in
    ways-next c.args.j.now.host j once walks c.requires.nodes k e at c.args.joined.now c.requires.before n node.0 node.1 more news room c.reserve.ensures.same new adds c.add_ways.ensures.heads
