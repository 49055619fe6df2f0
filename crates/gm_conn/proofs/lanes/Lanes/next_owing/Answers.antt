use Rattle.std.proofs.Common.{refl}
use Rattle.gm_conn.specs.Sets.{is_owing}
use Rattle.gm_conn.proofs.Noted.{next-of}
use Rattle.gm_conn.proofs.lanes.Lanes.next_owing.Goals as goal

pub returns : goal.returns
returns c =
    next-of is_owing c.args.self.now c.self.inside.host c.self.inside.hosts c.self.inside.lanes.items c.self.inside.sets.owing c.args.from c.next_owing.result refl
    c.self.view_is c.self.invariant.lanes c.self.invariant.owing c.next_owing.ensures.next c.next_owing.ensures.none
