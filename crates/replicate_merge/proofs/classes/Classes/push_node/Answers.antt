use Rattle.std.proofs.Common.{◌≡◌, ◌++◌, ◌∷◌, [], ℕ, List, length, nat_eq, refl, ap, sym, ◌∙◌, subst, arith, length-append}
use Rattle.journal_defs.specs.Tree.{Node}
use Rattle.replicate_merge.specs.Between.{IsFrontOf}
use Rattle.replicate_merge.specs.Nodes.{nodes_of}
use Rattle.replicate_merge.specs.Table.{ClassTable}
use Rattle.probe.specs.Keeping.{has_walk}
use Rattle.replicate_merge.specs.declared.way.Way.{Way}
use Rattle.replicate_merge.specs.Growing.{Grows, MayGrow}
use Rattle.replicate_merge.proofs.Appending.{few-names, new-walk, node-adds, node-may, node-shape, node-table, once-in}
use Rattle.replicate_merge.proofs.Reading.{on-err, room-view, room-whole}
use Rattle.replicate_merge.proofs.Telling.{count-nodes}
use Rattle.replicate_merge.proofs.classes.Classes.push_node.Goals as goal

pub ways_added-requires-clause-few : goal.ways_added-requires-clause-few
ways_added-requires-clause-few c =
    let few = c.self.invariant.0.few in
    let n = count-nodes c.self.inside.walks in
    omega arith

pub ways_added-requires-clause-once : goal.ways_added-requires-clause-once
ways_added-requires-clause-once c =
    let s = c.self.inside in
    once-in c.args.self.now c.args.e.now s.walks s.joined s.asked.items s.orphans s.ahead c.self.view_is c.requires.next

pub ways_added-requires-clause-front : goal.ways_added-requires-clause-front
ways_added-requires-clause-front c =
    let walks = c.self.inside.walks in
    let front = c.args.front in
    subst (λ w. IsFrontOf (nodes_of walks) w front) (sym c.turns-walk.ensures.value)
    (subst (λ (l : List Node). IsFrontOf l c.args.e.now.walk front) (sym (ap (λ (t : ClassTable). t.nodes) c.self.view_is)) c.requires.front)

pub take_room-requires-clause-few : goal.take_room-requires-clause-few
take_room-requires-clause-few c =
    let s = c.self.inside in
    let names = few-names c.args.self.now c.args.e.now s.walks s.joined s.asked.items s.orphans s.ahead c.self.view_is c.requires.next in
    let counted = c.self.invariant.0.counted in
    let few = c.self.invariant.0.few in
    omega arith

pub take_room-requires-clause-few_ways : goal.take_room-requires-clause-few_ways
take_room-requires-clause-few_ways c =
    let few = c.in_ok-ways_added.ensures.few in
    let n = c.len.ensures in
    let o = c.ways_added.new.ways.ok.0 in
    omega arith

pub invariant_of-self-in_err-take_room : goal.invariant_of-self-in_err-take_room
invariant_of-self-in_err-take_room c =
    let s = c.self.inside in
    room-whole s.walks s.walks s.joined c.take_room.new.joined s.asked.items c.take_room.new.asked.items s.orphans s.ahead refl c.take_room.ensures.same c.take_room.ensures.same_asked c.self.invariant

pub returns-in_err-take_room-clause-unchanged : goal.returns-in_err-take_room-clause-unchanged
returns-in_err-take_room-clause-unchanged c =
    let s = c.self.inside in
    on-err c.from_residual-in_err-take_room.result (room-view s.walks s.walks s.joined c.take_room.new.joined s.asked.items c.take_room.new.asked.items s.orphans s.ahead refl c.take_room.ensures.same c.take_room.ensures.same_asked ∙ c.self.view_is)

pub append-requires : goal.append-requires
append-requires c =
    let s = c.self.inside in
    ap (has_walk s.walks) c.turns-walk.ensures.value ∙ new-walk c.args.self.now c.args.e.now s.walks s.joined s.asked.items s.orphans s.ahead c.self.view_is c.requires.next

pub invariant_of-self-in_err-append : goal.invariant_of-self-in_err-append
invariant_of-self-in_err-append c =
    let s = c.self.inside in
    room-whole s.walks c.append.new.self s.joined c.take_room.new.joined s.asked.items c.take_room.new.asked.items s.orphans s.ahead c.in_err-append.ensures.err c.take_room.ensures.same c.take_room.ensures.same_asked c.self.invariant

pub returns-in_err-append-clause-unchanged : goal.returns-in_err-append-clause-unchanged
returns-in_err-append-clause-unchanged c =
    let s = c.self.inside in
    on-err c.from_residual-in_err-append.result (room-view s.walks c.append.new.self s.joined c.take_room.new.joined s.asked.items c.take_room.new.asked.items s.orphans s.ahead c.in_err-append.ensures.err c.take_room.ensures.same c.take_room.ensures.same_asked ∙ c.self.view_is)

pub grow-requires-clause-may : goal.grow-requires-clause-may
grow-requires-clause-may c =
    let s = c.self.inside in
    let e = c.args.e.now in
    let walk = c.turns-walk.result.now in
    let room = c.take_room.new.joined in
    let ways = c.ways_added.new.ways.items in
    let count = c.in_ok-asked.asked in
    let after = c.append.new.self in
    subst (λ (ws : List Way). MayGrow (nodes_of after) room ws (nat_eq count 30)) (sym c.deref.ensures.value) (node-may c.args.self.now e s.walks s.joined room s.asked.items s.orphans s.ahead c.self.view_is c.take_room.ensures.same c.requires.found walk c.turns-walk.ensures.value ways c.in_ok-ways_added.ensures count c.in_ok-asked.ensures.looked c.in_ok-asked.ensures.none after c.in_ok-append.ensures.ok c.requires.next)

pub grow-requires-clause-closed : goal.grow-requires-clause-closed
grow-requires-clause-closed c = c.take_room.ensures.same.todo ∙ c.self.invariant.2

pub grow-requires-clause-few : goal.grow-requires-clause-few
grow-requires-clause-few c =
    let few = c.self.invariant.0.few in
    let n = count-nodes c.self.inside.walks in
    let l : length c.append.new.self ≡ length (c.self.inside.walks ++ c.turns-walk.result.now ∷ []) = ap length c.in_ok-append.ensures.ok in
    let m = length-append c.self.inside.walks (c.turns-walk.result.now ∷ []) in
    omega arith

pub grow-requires-clause-place : goal.grow-requires-clause-place
grow-requires-clause-place c =
    let room = c.in_ok-take_room.ensures.hosts in
    let n = c.len.ensures in
    let o = c.ways_added.new.ways.ok.0 in
    let l : length c.deref.result.now ≡ length c.ways_added.new.ways.items = ap length c.deref.ensures.value in
    omega arith

pub grow-requires-clause-room : goal.grow-requires-clause-room
grow-requires-clause-room c =
    let room = c.in_ok-take_room.ensures.todo in
    let n = c.len.ensures in
    let o = c.ways_added.new.ways.ok.0 in
    let l : length c.deref.result.now ≡ length c.ways_added.new.ways.items = ap length c.deref.ensures.value in
    omega arith

pub invariant_of-self-2 : goal.invariant_of-self-2
invariant_of-self-2 c =
    let s = c.self.inside in
    let e = c.args.e.now in
    let walk = c.turns-walk.result.now in
    let room = c.take_room.new.joined in
    let ways = c.ways_added.new.ways.items in
    let count = c.in_ok-asked.asked in
    let after = c.append.new.self in
    let new = c.grow.new.self in
    let counted = c.push_reserved.new.self.items in
    let counts : counted ≡ s.asked.items ++ count ∷ [] = c.push_reserved.ensures.items ∙ ap (λ (l : List ℕ). l ++ count ∷ []) c.take_room.ensures.same_asked in
    let grows : Grows (nodes_of after) ways (nat_eq count 30) room new = subst (λ (ws : List Way). Grows (nodes_of after) ws (nat_eq count 30) room new) c.deref.ensures.value c.grow.ensures.grows in
    (node-table c.args.self.now e s.walks s.joined room s.asked.items s.orphans s.ahead c.self.view_is c.take_room.ensures.same c.requires.found walk c.turns-walk.ensures.value ways c.in_ok-ways_added.ensures count c.in_ok-asked.ensures.looked c.in_ok-asked.ensures.none after c.in_ok-append.ensures.ok new grows counted counts c.requires.next, node-shape c.args.self.now e s.walks s.joined room s.asked.items s.orphans s.ahead c.self.view_is c.take_room.ensures.same c.requires.found walk c.turns-walk.ensures.value ways c.in_ok-ways_added.ensures count c.in_ok-asked.ensures.looked c.in_ok-asked.ensures.none after c.in_ok-append.ensures.ok new grows counted counts c.requires.next, c.grow.ensures.done)

pub returns-clause-adds : goal.returns-clause-adds
returns-clause-adds c =
    let s = c.self.inside in
    let e = c.args.e.now in
    let walk = c.turns-walk.result.now in
    let room = c.take_room.new.joined in
    let ways = c.ways_added.new.ways.items in
    let count = c.in_ok-asked.asked in
    let after = c.append.new.self in
    let new = c.grow.new.self in
    let counted = c.push_reserved.new.self.items in
    let counts : counted ≡ s.asked.items ++ count ∷ [] = c.push_reserved.ensures.items ∙ ap (λ (l : List ℕ). l ++ count ∷ []) c.take_room.ensures.same_asked in
    let grows : Grows (nodes_of after) ways (nat_eq count 30) room new = subst (λ (ws : List Way). Grows (nodes_of after) ws (nat_eq count 30) room new) c.deref.ensures.value c.grow.ensures.grows in
    node-adds c.args.self.now e s.walks s.joined room s.asked.items s.orphans s.ahead c.self.view_is c.take_room.ensures.same c.requires.found walk c.turns-walk.ensures.value ways c.in_ok-ways_added.ensures count c.in_ok-asked.ensures.looked c.in_ok-asked.ensures.none after c.in_ok-append.ensures.ok new grows counted counts
