use Rattle.std.proofs.Common.{◌≡◌, ◌<◌, Some, true, false, length, nat_eq, ap, sym, ◌∙◌, subst, arith}
use Rattle.std.specs.Prelude.{slice_get, slice_index_or}
use Rattle.journal_defs.specs.Tree.{is_found}
use Rattle.replicate_merge.specs.Steps.{AddsNode}
use Rattle.replicate_merge.proofs.Numbers.{any-default}
use Rattle.replicate_merge.proofs.Entries.{entry-in}
use Rattle.replicate_merge.proofs.NodesAtOnce.{asked-inside, frames-few, names-few-there, nodes-next, nodes-same}
use Rattle.replicate_merge.proofs.at_once.add_node_at.Goals as goal

pub returns-then-not-is_found : goal.returns-then-not-is_found
returns-then-not-is_found c =
    let j = c.args.j.now.entries in
    let k = c.args.at in
    let e = slice_index_or c.entries.result.now k c.index-entries-at.result in
    let at : slice_get j k ≡ Some e = entry-in c.entries.result.now j k c.index-entries-at.result c.entries.ensures.list c.requires.there in
    let lost : is_found e.answer ≡ false = sym c.is_found.ensures ∙ c.if-not-is_found.true in
    nodes-same c.args.j.now.host j k e at c.args.joined.now c.requires.before lost

pub reserve-requires-clause-few : goal.reserve-requires-clause-few
reserve-requires-clause-few c =
    let j = c.args.j.now.entries in
    let k = c.args.at in
    let e = slice_index_or c.entries.result.now k c.index-entries-at.result in
    let at : slice_get j k ≡ Some e = entry-in c.entries.result.now j k c.index-entries-at.result c.entries.ensures.list c.requires.there in
    let frames = frames-few c.args.j.now.host j k e at c.args.joined.now c.requires.before c.requires.few in
    let names = names-few-there c.args.j.now.host j k e at c.args.joined.now c.requires.before in
    omega arith

pub index-requires : goal.index-requires
index-requires c =
    let j = c.args.j.now.entries in
    let k = c.args.at in
    let e = slice_index_or c.entries.result.now k c.index-entries-at.result in
    let at : slice_get j k ≡ Some e = entry-in c.entries.result.now j k c.index-entries-at.result c.entries.ensures.list c.requires.there in
    let found : is_found e.answer ≡ true = sym c.is_found.ensures ∙ c.if-not-is_found.false in
    let inside = asked-inside c.args.j.now.host j k e at c.args.joined.now c.requires.before found c.args.asked.now.items c.requires.asked in
    let node = c.len-node.ensures in
    let o = c.args.asked.now.ok.0 in
    omega arith

pub add_node-requires-clause-few : goal.add_node-requires-clause-few
add_node-requires-clause-few c =
    let j = c.args.j.now.entries in
    let k = c.args.at in
    let e = slice_index_or c.entries.result.now k c.index-entries-at.result in
    let at : slice_get j k ≡ Some e = entry-in c.entries.result.now j k c.index-entries-at.result c.entries.ensures.list c.requires.there in
    let frames = frames-few c.args.j.now.host j k e at c.args.joined.now c.requires.before c.requires.few in
    let same : length c.reserve.new.self.frames.items ≡ length c.args.joined.now.frames.items = ap length c.reserve.ensures.same.frames in
    omega arith

pub add_node-requires-clause-few_names : goal.add_node-requires-clause-few_names
add_node-requires-clause-few_names c =
    let j = c.args.j.now.entries in
    let k = c.args.at in
    let e = slice_index_or c.entries.result.now k c.index-entries-at.result in
    let at : slice_get j k ≡ Some e = entry-in c.entries.result.now j k c.index-entries-at.result c.entries.ensures.list c.requires.there in
    let frames = frames-few c.args.j.now.host j k e at c.args.joined.now c.requires.before c.requires.few in
    let names = names-few-there c.args.j.now.host j k e at c.args.joined.now c.requires.before in
    let same : length c.reserve.new.self.heads.names.items ≡ length c.args.joined.now.heads.names.items = ap length c.reserve.ensures.same.names in
    omega arith

pub returns : goal.returns
returns c =
    let j = c.args.j.now.entries in
    let k = c.args.at in
    let e = slice_index_or c.entries.result.now k c.index-entries-at.result in
    let at : slice_get j k ≡ Some e = entry-in c.entries.result.now j k c.index-entries-at.result c.entries.ensures.list c.requires.there in
    let found : is_found e.answer ≡ true = sym c.is_found.ensures ∙ c.if-not-is_found.false in
    let asked = c.args.asked.now.items in
    let n = length c.args.joined.now.frames.items in
    let inside : n < length asked = asked-inside c.args.j.now.host j k e at c.args.joined.now c.requires.before found asked c.requires.asked in
    let x = c.index.result.now in
    let count : x ≡ slice_index_or asked n 0 = c.index.ensures ∙ ap (λ m. slice_index_or asked m x) c.len-node.ensures ∙ any-default asked n x 0 inside in
    let room = c.reserve.new.self in
    let new = c.add_node.new.self in
    let adds : AddsNode (nat_eq (slice_index_or asked n 0) 30) room new = subst (λ y. AddsNode (nat_eq y 30) room new) count c.add_node.ensures in
    nodes-next c.args.j.now.host j k e at c.args.joined.now c.requires.before found asked c.requires.asked room new c.entries.ensures.once c.reserve.ensures.same adds
