use Rattle.std.proofs.Common.{refl}
use Rattle.gm_conn.specs.Sets.{is_unacked}
use Rattle.gm_conn.proofs.Noted.{next-of}
use Rattle.gm_conn.proofs.lanes.Lanes.next_unacked.Goals as goal

pub returns : goal.returns
returns c =
    next-of is_unacked c.args.self.now c.self.inside.host c.self.inside.hosts c.self.inside.lanes.items c.self.inside.sets.unacked c.args.from c.next_unacked.result refl
    c.self.view_is c.self.invariant.lanes c.self.invariant.unacked c.next_unacked.ensures.next c.next_unacked.ensures.none
