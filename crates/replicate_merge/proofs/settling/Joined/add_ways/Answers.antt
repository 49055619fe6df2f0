use Rattle.std.proofs.Common.{◌≡◌, ◌++◌, ◌∷◌, [], List, length, take, get_or, Some, ap, sym, ◌∙◌, subst, arith, append_assoc}
use Rattle.std.specs.Prelude.{slice_get}
use Rattle.std.proofs.lemmas.Option.{slice_get-get_or}
use Rattle.replicate_merge.specs.declared.way.Way.{Way}
use Rattle.replicate_merge.specs.declared.way.Way.TheVariants.{Host}
use Rattle.replicate_merge.specs.Nodes.{nodes_of}
use Rattle.replicate_merge.specs.Rounds.{IsSettlingIn}
use Rattle.replicate_merge.proofs.Waying.{take-all, take-more, way-added, way-asks}
use Rattle.replicate_merge.proofs.settling.Joined.add_ways.Goals as goal

pub add_way-requires-clause-inside : goal.add_way-requires-clause-inside
add_way-requires-clause-inside c =
    let ways = c.args.ways.now in
    let i = c.loop-way.way-index in
    let way = get_or ways i (Host 0 0) in
    let there : slice_get ways i ≡ Some way = slice_get-get_or ways i (Host 0 0) c.loop-way-test.true in
    let x = c.requires.some in
    let ns = nodes_of c.args.walks.now in
    let s = c.loop-way.invariant.adds x.host x.journal x.asks x.ways x.is x.each in
    let a = way-asks x.host x.journal x.asks ns (x.ways ++ take i ways) c.loop-way.self way s (x.each way (record { place = i; there = there })) in
    a.inside

pub add_way-requires-clause-turn : goal.add_way-requires-clause-turn
add_way-requires-clause-turn c =
    let ways = c.args.ways.now in
    let i = c.loop-way.way-index in
    let way = get_or ways i (Host 0 0) in
    let there : slice_get ways i ≡ Some way = slice_get-get_or ways i (Host 0 0) c.loop-way-test.true in
    let x = c.requires.some in
    let ns = nodes_of c.args.walks.now in
    let s = c.loop-way.invariant.adds x.host x.journal x.asks x.ways x.is x.each in
    let a = way-asks x.host x.journal x.asks ns (x.ways ++ take i ways) c.loop-way.self way s (x.each way (record { place = i; there = there })) in
    a.turn

pub add_way-requires-clause-placed : goal.add_way-requires-clause-placed
add_way-requires-clause-placed c =
    let ways = c.args.ways.now in
    let i = c.loop-way.way-index in
    let way = get_or ways i (Host 0 0) in
    let there : slice_get ways i ≡ Some way = slice_get-get_or ways i (Host 0 0) c.loop-way-test.true in
    let x = c.requires.some in
    let ns = nodes_of c.args.walks.now in
    let s = c.loop-way.invariant.adds x.host x.journal x.asks x.ways x.is x.each in
    let a = way-asks x.host x.journal x.asks ns (x.ways ++ take i ways) c.loop-way.self way s (x.each way (record { place = i; there = there })) in
    a.placed

pub add_way-requires-clause-table : goal.add_way-requires-clause-table
add_way-requires-clause-table c =
    let ways = c.args.ways.now in
    let i = c.loop-way.way-index in
    let way = get_or ways i (Host 0 0) in
    let there : slice_get ways i ≡ Some way = slice_get-get_or ways i (Host 0 0) c.loop-way-test.true in
    let x = c.requires.some in
    let ns = nodes_of c.args.walks.now in
    let s = c.loop-way.invariant.adds x.host x.journal x.asks x.ways x.is x.each in
    let a = way-asks x.host x.journal x.asks ns (x.ways ++ take i ways) c.loop-way.self way s (x.each way (record { place = i; there = there })) in
    a.table

pub add_way-requires-clause-place : goal.add_way-requires-clause-place
add_way-requires-clause-place c =
    let l = c.loop-way.invariant.hosts in
    let k = c.loop-way.invariant.host_capacity in
    let r = c.requires.place in
    let t = c.loop-way-test.true in
    omega arith

pub add_way-requires-clause-room : goal.add_way-requires-clause-room
add_way-requires-clause-room c =
    let l = c.loop-way.invariant.few in
    let k = c.loop-way.invariant.capacity in
    let r = c.requires.room in
    let t = c.loop-way-test.true in
    omega arith

pub loop-way-preserved : goal.loop-way-preserved
loop-way-preserved c =
    let ways = c.args.ways.now in
    let i = c.loop-way.way-index in
    let way = get_or ways i (Host 0 0) in
    let there : slice_get ways i ≡ Some way = slice_get-get_or ways i (Host 0 0) c.loop-way-test.true in
    let ns = nodes_of c.args.walks.now in
    let t = c.loop-way.self in
    let new = c.add_way.new.self in
    let e = c.add_way.ensures in
    let inv = c.loop-way.invariant in
    record {
      adds = λ host j asks ws s each. subst (λ (l : List Way). IsSettlingIn host j asks ns l new new.todo.items) (append_assoc ws (take i ways) (way ∷ []) ∙ ap (λ (l : List Way). ws ++ l) (sym (take-more ways i way there)))
          (way-added host j asks ns (ws ++ take i ways) t new way (inv.adds host j asks ws s each) (each way (record { place = i; there = there })) e.adds e.frames e.heads e.same);
      heads = e.heads ∙ inv.heads;
      hosts = (let a = e.few_hosts in let b = inv.hosts in omega arith);
      host_capacity = e.host_capacity ∙ inv.host_capacity;
      few = (let a = e.few in let b = inv.few in omega arith);
      capacity = e.capacity ∙ inv.capacity;
    }

pub returns-clause-adds : goal.returns-clause-adds
returns-clause-adds c = λ host j asks ws s each.
    let ways = c.args.ways.now in
    let ns = nodes_of c.args.walks.now in
    let t = c.loop-way.self in
    let all : c.loop-way.way-index ≡ length ways = (let e = c.loop-way.auto.way-index-end in let f = c.loop-way-test.false in omega arith) in
    subst (λ (l : List Way). IsSettlingIn host j asks ns (ws ++ l) t t.todo.items) (ap (λ k. take k ways) all ∙ take-all ways) (c.loop-way.invariant.adds host j asks ws s each)
