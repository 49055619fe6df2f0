use Rattle.std.proofs.Common.{ap, arith, length}
use Rattle.port_align.proofs.Reading.{length-dense}
use Rattle.port_align.proofs.table.PortTable.reserve.Goals as goal

pub returns-clause-room : goal.returns-clause-room
returns-clause-room c =
    let long = length-dense c.reserve.new.self.items c.reserve_rows.new.rows.items in
    let e = c.len.ensures in
    let few = c.is_full.ensures c.if-is_full.false in
    let same = ap length c.reserve.ensures.items in
    let known = c.in_ok-reserve.ensures.ok in
    let rows = c.in_ok-reserve_rows.ensures.room in
    record { numbers = omega arith; rows = omega arith }
