use Rattle.std.proofs.Common.{◌≡◌, ◌+◌, length, arith}
use Rattle.replicate_merge.specs.Nodes.{nodes_of}
use Rattle.replicate_merge.proofs.Telling.{count-nodes}
use Rattle.replicate_merge.proofs.Finding.{few-walks}
use Rattle.replicate_merge.proofs.TurnsAtOnce.{counts-none}
use Rattle.replicate_merge.proofs.journals.count_turns.Goals as goal

pub overflow_add-len : goal.overflow_add-len
overflow_add-len c =
    let walks = few-walks c.args.j.now.entries c.args.walks.now c.requires.nodes in
    let few = c.requires.few in
    let n = c.len.ensures in
    omega arith

pub loop-at-init : goal.loop-at-init
loop-at-init c =
    let all : c.len.result + 1 ≡ length (nodes_of c.args.walks.now) = (let n = count-nodes c.args.walks.now in let l = c.len.ensures in omega arith) in
    counts-none (nodes_of c.args.walks.now) c.in_ok-asked.asked.items (c.len.result + 1) all (c.in_ok-asked.ensures.items_if_clones_equal (λ y k. k))
