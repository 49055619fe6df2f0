use Rattle.std.proofs.Common.{◌≡◌, ◌∙◌, ap, subst, length, arith}
use Rattle.gm_defs.proofs.Rounds.{counted-length}
use Rattle.reg_mem.specs.Held.{HasRoom}
use Rattle.reg_mem.proofs.held.part.Goals as goal

pub filled-bytes-requires-clause-room : goal.filled-bytes-requires-clause-room
filled-bytes-requires-clause-room c =
    let held = subst HasRoom c.in-Counted.is c.requires in
    let room = held.1 in
    let long : length c.counted_bytes.result.now ≡ c.in-Counted.len = ap length c.counted_bytes.ensures ∙ counted-length c.in-Counted.first c.in-Counted.len in
    omega (arith, room, long)
