use Rattle.std.proofs.Common.{◌≡◌, ◌+◌, suc, length, sym, ap, ◌∙◌, arith}
use Rattle.std.proofs.lemmas.List.{length-append}
use Rattle.gm_restart.proofs.Giving.{next-left, none-left, first-waits, gives-next}
use Rattle.gm_restart.proofs.giving_back.give_back.Goals as goal

pub finish-requires : goal.finish-requires
finish-requires c =
    let there = sym c.pending.ensures ∙ c.in-Some.is in
    let left = next-left c.args.count c.args.lane.now.state.pending c.loop-at.at c.in-Some.ticket c.loop-at-test.true there in
    first-waits _ c.loop-at.held _ _ _ _ _ c.in-Some.ticket _ _ _ _ c.token-token.result c.loop-at.invariant.gives left c.token-token.ensures

pub unreachable-requires : goal.unreachable-requires
unreachable-requires c = none-left c.args.count c.args.lane.now.state.pending c.loop-at.at c.loop-at-test.true c.requires.count (sym c.pending.ensures ∙ c.in-None.is)

pub loop-at-preserved : goal.loop-at-preserved
loop-at-preserved c =
    let there = sym c.pending.ensures ∙ c.in-Some.is in
    let left = next-left c.args.count c.args.lane.now.state.pending c.loop-at.at c.in-Some.ticket c.loop-at-test.true there in
    let on : c.args.manner.first + (c.loop-at.at + 1) ≡ suc (c.args.manner.first + c.loop-at.at) = omega arith in
    let room = c.loop-at.invariant.room in
    let less = c.loop-at-test.true in
    let capacity = c.push_back_reserved.ensures.capacity in
    let longer : length c.push_back_reserved.new.self.items ≡ length c.loop-at.returned.items + 1 = ap length c.push_back_reserved.ensures.items ∙ length-append c.loop-at.returned.items _ in
    record {
      gives = gives-next _ c.loop-at.held c.finish.new.self _ c.loop-at.returned.items _ _ _ _ c.in-Some.ticket _ _ _ _ _ c.token-token.result c.loop-at.invariant.gives left c.token-token.ensures on c.finish.ensures c.push_back_reserved.ensures.items;
      room = omega (arith, room, less, capacity, longer);
    }
