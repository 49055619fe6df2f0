use Rattle.std.proofs.Common.{refl}
use Rattle.gm_conn.specs.Sets.{is_due}
use Rattle.gm_conn.proofs.Noted.{next-of}
use Rattle.gm_conn.proofs.lanes.Lanes.next_due.Goals as goal

pub returns : goal.returns
returns c =
    next-of is_due c.args.self.now c.self.inside.host c.self.inside.hosts c.self.inside.lanes.items c.self.inside.sets.due c.args.from c.next_due.result refl
    c.self.view_is c.self.invariant.lanes c.self.invariant.due c.next_due.ensures.next c.next_due.ensures.none
