use Rattle.std.proofs.Common.{◌≡◌, None, arith}
use Rattle.world_defs.specs.Fault.{next_limbo}
use Rattle.world_drain.proofs.Quiet.{quiet-is}
use Rattle.world_drain.proofs.passes.is_quiet.Goals as goal

pub returns-then-is_none : goal.returns-then-is_none
returns-then-is_none c =
    let none : next_limbo c.args.w.now.links 0 ≡ None = grind arith in
    quiet-is c.args.w.now c.none_sends.result none c.none_sends.ensures
