use Rattle.std.proofs.Common.{◌≡◌, ◌<◌, ℕ, List, ◌∷◌, length, Some, ap, sym, ◌∙◌, arith}
use Rattle.std.specs.Prelude.{ℤ, slice_get, slice_index_or, slice_range}
use Rattle.std.proofs.lemmas.List.{get_or_read}
use Rattle.probe.proofs.FlatParts.{count-walks, part-within, walk-at}
use Rattle.probe.proofs.flat_walks.FlatWalksWalkList.turns_at.Goals as goal

pub start_of-start-requires : goal.start_of-start-requires
start_of-start-requires c =
    let turns = c.self.inside.turns.items in
    let ends = c.self.inside.ends.items in
    let low : c.args.at < length ends = (let seen = ap length c.self.view_is in let all = count-walks turns 0 ends in let r = c.requires in omega arith) in
    let same = ap length c.deref.ensures.value in
    omega arith

pub index-requires : goal.index-requires
index-requires c =
    let turns = c.self.inside.turns.items in
    let ends = c.self.inside.ends.items in
    let low : c.args.at < length ends = (let seen = ap length c.self.view_is in let all = count-walks turns 0 ends in let r = c.requires in omega arith) in
    omega arith

pub part-requires-clause-order : goal.part-requires-clause-order
part-requires-clause-order c =
    let turns = c.self.inside.turns.items in
    let ends = c.self.inside.ends.items in
    let low : c.args.at < length ends = (let seen = ap length c.self.view_is in let all = count-walks turns 0 ends in let r = c.requires in omega arith) in
    let start : c.start_of-start.result ≡ slice_index_or (0 ∷ ends) c.args.at 0 = c.start_of-start.ensures ∙ ap (λ (l : List ℕ). slice_index_or (0 ∷ l) c.args.at 0) c.deref.ensures.value in
    let end : c.index.result.now ≡ slice_index_or ends c.args.at 0 = get_or_read ends c.args.at c.index.result.now low c.index.ensures 0 in
    let within = part-within turns 0 ends c.args.at c.self.invariant low in
    let w = within.0 in
    omega arith

pub part-requires-clause-within : goal.part-requires-clause-within
part-requires-clause-within c =
    let turns = c.self.inside.turns.items in
    let ends = c.self.inside.ends.items in
    let low : c.args.at < length ends = (let seen = ap length c.self.view_is in let all = count-walks turns 0 ends in let r = c.requires in omega arith) in
    let start : c.start_of-start.result ≡ slice_index_or (0 ∷ ends) c.args.at 0 = c.start_of-start.ensures ∙ ap (λ (l : List ℕ). slice_index_or (0 ∷ l) c.args.at 0) c.deref.ensures.value in
    let end : c.index.result.now ≡ slice_index_or ends c.args.at 0 = get_or_read ends c.args.at c.index.result.now low c.index.ensures 0 in
    let within = part-within turns 0 ends c.args.at c.self.invariant low in
    let w = within.1 in
    let same = ap length c.deref-2.ensures.value in
    omega arith

pub returns : goal.returns
returns c =
    let turns = c.self.inside.turns.items in
    let ends = c.self.inside.ends.items in
    let low : c.args.at < length ends = (let seen = ap length c.self.view_is in let all = count-walks turns 0 ends in let r = c.requires in omega arith) in
    let start : c.start_of-start.result ≡ slice_index_or (0 ∷ ends) c.args.at 0 = c.start_of-start.ensures ∙ ap (λ (l : List ℕ). slice_index_or (0 ∷ l) c.args.at 0) c.deref.ensures.value in
    let end : c.index.result.now ≡ slice_index_or ends c.args.at 0 = get_or_read ends c.args.at c.index.result.now low c.index.ensures 0 in
    let within = part-within turns 0 ends c.args.at c.self.invariant low in
    ap (λ (ws : List (List ℤ)). slice_get ws c.args.at) (sym c.self.view_is)
    ∙ walk-at turns 0 ends c.args.at low
    ∙ ap Some (sym ((λ i. slice_range (c.deref-2.ensures.value i) (start i) (end i))))
    ∙ ap Some (sym c.part.ensures)
