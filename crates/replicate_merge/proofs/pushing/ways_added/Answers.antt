use Rattle.std.proofs.Common.{◌≡◌, ◌+◌, false, true, length, sym, subst}
use Rattle.journal_defs.specs.declared.entry.Entry.{Entry}
use Rattle.replicate_merge.specs.Nodes.{nodes_of}
use Rattle.replicate_merge.specs.Onward.{AreNewWays}
use Rattle.replicate_merge.proofs.Behind.{ways-ahead, ways-plain}
use Rattle.replicate_merge.proofs.pushing.ways_added.Goals as goal

pub returns-then-not-ahead : goal.returns-then-not-ahead
returns-then-not-ahead c =
    let walks = c.args.walks.now in
    let e : Entry = record { walk = c.args.walk.now; answer = c.args.answer } in
    let n = c.len.result + 1 in
    let ways = c.own_ways.new.ways.items in
    let off : c.args.ahead ≡ false = c.if-not-ahead.true in
    subst (λ b. AreNewWays (nodes_of walks) e (length walks + 1) b ways) (sym off)
    (subst (λ k. AreNewWays (nodes_of walks) e (k + 1) false ways) c.len.ensures (ways-plain walks e n ways c.in_ok-own_ways.ensures))

pub returns : goal.returns
returns c =
    let walks = c.args.walks.now in
    let e : Entry = record { walk = c.args.walk.now; answer = c.args.answer } in
    let n = c.len.result + 1 in
    let ways = c.own_ways.new.ways.items in
    let all = c.push_all_behind.new.ways.items in
    let on : c.args.ahead ≡ true = c.if-not-ahead.false in
    subst (λ b. AreNewWays (nodes_of walks) e (length walks + 1) b all) (sym on)
    (subst (λ k. AreNewWays (nodes_of walks) e (k + 1) true all) c.len.ensures (ways-ahead walks e n ways c.in_ok-own_ways.ensures all c.in_ok-push_all_behind.ensures))
