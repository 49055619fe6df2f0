use Rattle.std.proofs.Common.{◌≡◌, List, [], length, ◌∙◌, vec_capacity, arith}
use Rattle.gm_port.specs.Table.{Place, sends_of}
use Rattle.gm_port.proofs.Queue.{same-sends}
use Rattle.gm_port.proofs.Tables.{free-table}
use Rattle.gm_port.proofs.sends.SendQueue.with_room.Goals as goal

pub invariant_of-result : goal.invariant_of-result
invariant_of-result c =
    let ps : List Place = c.in-Ok.places in
    let free = free-table c.args.host c.args.port 0 ps c.in-Ok.ensures.free in
    let many : length ps ≡ c.from-limit.result = c.in-Ok.ensures.count in
    let list : vec_capacity c.in_ok-listed.listed ≡ c.from-limit.result = c.in_ok-listed.ensures.exact in
    record {
      table = free.0;
      none_listed = c.in_ok-listed.ensures.items;
      list_room = omega arith;
    }

pub returns-in-Ok : goal.returns-in-Ok
returns-in-Ok c =
    let ps : List Place = c.in-Ok.places in
    let free = free-table c.args.host c.args.port 0 ps c.in-Ok.ensures.free in
    let many : length ps ≡ c.args.limit = c.in-Ok.ensures.count ∙ c.from-limit.ensures in
    same-sends c.args.host c.args.port (length ps) c.args.limit (sends_of ps) [] many free.1
