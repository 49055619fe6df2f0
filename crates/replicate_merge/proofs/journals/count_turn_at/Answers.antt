use Rattle.std.proofs.Common.{◌≡◌, ◌<◌, ◌+◌, ◌++◌, ◌∷◌, [], List, Some, length, set, take, ap, sym, ◌∙◌, subst, arith, rules, SFits, to_z, of_z, w8}
use Rattle.std.specs.Prelude.{pos, All, slice_get, slice_index_or}
use Rattle.std.proofs.lemmas.Int.{to_z-of_z}
use Rattle.std.proofs.lemmas.List.Elements.{All-pop}
use Rattle.net_defs.specs.Turn.{IsTurn}
use Rattle.journal_defs.specs.declared.entry.Entry.{Entry}
use Rattle.replicate_merge.specs.Asked.{CountsAsked}
use Rattle.replicate_merge.specs.Nodes.{nodes_of}
use Rattle.replicate_merge.proofs.Numbers.{any-default}
use Rattle.replicate_merge.proofs.Waying.{take-more}
use Rattle.replicate_merge.specs.Between.{IsFrontOf}
use Rattle.replicate_merge.specs.declared.fronts.Front.{Front}
use Rattle.replicate_merge.proofs.Entries.{entry-in}
use Rattle.replicate_merge.proofs.Finding.{few-walks}
use Rattle.replicate_merge.proofs.Nexts.{once-of}
use Rattle.replicate_merge.proofs.Prefixes.{fresh-take}
use Rattle.replicate_merge.proofs.TurnsAtOnce.{counts-back, counts-first, counts-missing, counts-more, turn-below, turn-inside}
use Rattle.replicate_merge.proofs.journals.count_turn_at.Goals as goal

pub front_of-requires : goal.front_of-requires
front_of-requires c =
    let walks = few-walks c.args.j.now.entries c.args.walks.now c.requires.nodes in
    let few = c.requires.few in
    omega arith

pub index_mut-requires : goal.index_mut-requires
index_mut-requires c =
    let j = c.args.j.now.entries in
    let k = c.args.at in
    let e = slice_index_or c.entries.result.now k c.index-entries-at.result in
    let at : slice_get j k ≡ Some e = entry-in c.entries.result.now j k c.index-entries-at.result c.entries.ensures.list c.requires.there in
    let once = c.entries.ensures.once in
    let fresh = fresh-take j k e at once in
    let walks = c.args.walks.now in
    let front : IsFrontOf (nodes_of walks) e.walk c.front_of.result = subst (λ w. IsFrontOf (nodes_of walks) w c.front_of.result) c.turns.ensures.value c.front_of.ensures in
    let apart = once-of j (nodes_of walks) c.requires.nodes once in
    let n = c.in-Node.node in
    let t = c.in-Node.turn in
    let f = subst (λ (x : Front). IsFrontOf (nodes_of walks) e.walk x) c.in-Node.is front in
    let asked = c.args.asked.now.items in
    let inside = turn-inside (take k j) e fresh (nodes_of walks) apart asked c.requires.counts f.0 t f.1 n f.2 in
    let o = c.args.asked.now.ok.0 in
    omega arith

pub overflow_add-index_mut : goal.overflow_add-index_mut
overflow_add-index_mut c =
    let j = c.args.j.now.entries in
    let k = c.args.at in
    let e = slice_index_or c.entries.result.now k c.index-entries-at.result in
    let at : slice_get j k ≡ Some e = entry-in c.entries.result.now j k c.index-entries-at.result c.entries.ensures.list c.requires.there in
    let once = c.entries.ensures.once in
    let fresh = fresh-take j k e at once in
    let walks = c.args.walks.now in
    let front : IsFrontOf (nodes_of walks) e.walk c.front_of.result = subst (λ w. IsFrontOf (nodes_of walks) w c.front_of.result) c.turns.ensures.value c.front_of.ensures in
    let apart = once-of j (nodes_of walks) c.requires.nodes once in
    let n = c.in-Node.node in
    let t = c.in-Node.turn in
    let f = subst (λ (x : Front). IsFrontOf (nodes_of walks) e.walk x) c.in-Node.is front in
    let asked = c.args.asked.now.items in
    let inside : n < length asked = turn-inside (take k j) e fresh (nodes_of walks) apart asked c.requires.counts f.0 t f.1 n f.2 in
    let x = c.index_mut.result.now in
    let count : x ≡ slice_index_or asked n 0 = c.index_mut.ensures.value ∙ any-default asked n x 0 inside in
    let below = turn-below (take k j) e fresh (nodes_of walks) apart asked c.requires.counts f.0 t f.1 n f.2 in
    omega arith

pub returns-then-turn-ne0 : goal.returns-then-turn-ne0
returns-then-turn-ne0 c =
    let j = c.args.j.now.entries in
    let k = c.args.at in
    let e = slice_index_or c.entries.result.now k c.index-entries-at.result in
    let at : slice_get j k ≡ Some e = entry-in c.entries.result.now j k c.index-entries-at.result c.entries.ensures.list c.requires.there in
    let once = c.entries.ensures.once in
    let fresh = fresh-take j k e at once in
    let walks = c.args.walks.now in
    let front : IsFrontOf (nodes_of walks) e.walk c.front_of.result = subst (λ w. IsFrontOf (nodes_of walks) w c.front_of.result) c.turns.ensures.value c.front_of.ensures in
    let apart = once-of j (nodes_of walks) c.requires.nodes once in
    let n = c.in-Node.node in
    let t = c.in-Node.turn in
    let f = subst (λ (x : Front). IsFrontOf (nodes_of walks) e.walk x) c.in-Node.is front in
    let asked = c.args.asked.now.items in
    let inside : n < length asked = turn-inside (take k j) e fresh (nodes_of walks) apart asked c.requires.counts f.0 t f.1 n f.2 in
    let x = c.index_mut.result.now in
    let count : slice_index_or asked n 0 ≡ x = sym (c.index_mut.ensures.value ∙ any-default asked n x 0 inside) in
    let turns : All IsTurn e.walk = subst (λ w. All IsTurn w) c.turns.ensures.value c.turns.ensures.in_range in
    let turn : IsTurn t = (All-pop IsTurn e.walk f.0 (Some t) f.1 turns).1 in
    let more = counts-more (take k j) e fresh (nodes_of walks) apart asked c.requires.counts f.0 t f.1 n f.2 (turn, λ z. c.if-turn-ne0.true (ap (of_z w8) z)) in
    subst (λ (l : List Entry). CountsAsked l (nodes_of walks) (set asked n (x + 1))) (sym (take-more j k e at)) (subst (λ y. CountsAsked (take k j ++ e ∷ []) (nodes_of walks) (set asked n (y + 1))) count more)

pub returns-else-turn-ne0 : goal.returns-else-turn-ne0
returns-else-turn-ne0 c =
    let j = c.args.j.now.entries in
    let k = c.args.at in
    let e = slice_index_or c.entries.result.now k c.index-entries-at.result in
    let at : slice_get j k ≡ Some e = entry-in c.entries.result.now j k c.index-entries-at.result c.entries.ensures.list c.requires.there in
    let once = c.entries.ensures.once in
    let fresh = fresh-take j k e at once in
    let walks = c.args.walks.now in
    let front : IsFrontOf (nodes_of walks) e.walk c.front_of.result = subst (λ w. IsFrontOf (nodes_of walks) w c.front_of.result) c.turns.ensures.value c.front_of.ensures in
    let apart = once-of j (nodes_of walks) c.requires.nodes once in
    let n = c.in-Node.node in
    let t = c.in-Node.turn in
    let f = subst (λ (x : Front). IsFrontOf (nodes_of walks) e.walk x) c.in-Node.is front in
    let asked = c.args.asked.now.items in
    let fits : SFits w8 t = search rules in
    let zero : t ≡ pos 0 = sym (to_z-of_z w8 t fits) ∙ ap (to_z w8) c.if-turn-ne0.false in
    subst (λ (l : List Entry). CountsAsked l (nodes_of walks) c.args.asked.now.items) (sym (take-more j k e at)) (counts-back (take k j) e fresh (nodes_of walks) apart asked c.requires.counts f.0 t f.1 zero)

pub returns-in-Mapper : goal.returns-in-Mapper
returns-in-Mapper c =
    let j = c.args.j.now.entries in
    let k = c.args.at in
    let e = slice_index_or c.entries.result.now k c.index-entries-at.result in
    let at : slice_get j k ≡ Some e = entry-in c.entries.result.now j k c.index-entries-at.result c.entries.ensures.list c.requires.there in
    let once = c.entries.ensures.once in
    let fresh = fresh-take j k e at once in
    let walks = c.args.walks.now in
    let front : IsFrontOf (nodes_of walks) e.walk c.front_of.result = subst (λ w. IsFrontOf (nodes_of walks) w c.front_of.result) c.turns.ensures.value c.front_of.ensures in
    let apart = once-of j (nodes_of walks) c.requires.nodes once in
    let f : e.walk ≡ [] = subst (λ (x : Front). IsFrontOf (nodes_of walks) e.walk x) c.in-Mapper.is front in
    subst (λ (l : List Entry). CountsAsked l (nodes_of walks) c.args.asked.now.items) (sym (take-more j k e at)) (counts-first (take k j) e fresh (nodes_of walks) apart c.args.asked.now.items c.requires.counts f)

pub returns-in-Missing : goal.returns-in-Missing
returns-in-Missing c =
    let j = c.args.j.now.entries in
    let k = c.args.at in
    let e = slice_index_or c.entries.result.now k c.index-entries-at.result in
    let at : slice_get j k ≡ Some e = entry-in c.entries.result.now j k c.index-entries-at.result c.entries.ensures.list c.requires.there in
    let once = c.entries.ensures.once in
    let fresh = fresh-take j k e at once in
    let walks = c.args.walks.now in
    let front : IsFrontOf (nodes_of walks) e.walk c.front_of.result = subst (λ w. IsFrontOf (nodes_of walks) w c.front_of.result) c.turns.ensures.value c.front_of.ensures in
    let apart = once-of j (nodes_of walks) c.requires.nodes once in
    let f = subst (λ (x : Front). IsFrontOf (nodes_of walks) e.walk x) c.in-Missing.is front in
    subst (λ (l : List Entry). CountsAsked l (nodes_of walks) c.args.asked.now.items) (sym (take-more j k e at)) (counts-missing (take k j) e fresh (nodes_of walks) apart c.args.asked.now.items c.requires.counts f.0 f.1 f.2 f.3)
