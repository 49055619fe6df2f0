use Rattle.std.proofs.Common.{◌≡◌, ◌≤◌, length, sym, ap, subst, arith}
use Rattle.duo_defs.specs.Theorem.{IsWaiting}
use Rattle.gm_restart.specs.End.{HostEnd}
use Rattle.gm_restart.proofs.Waiting.{front-waits, finished-few}
use Rattle.gm_restart.proofs.end.End.hear_ack.Goals as goal

pub give_back-requires-clause-count : goal.give_back-requires-clause-count
give_back-requires-clause-count c =
    let waits : IsWaiting c.self.inside.held.state c.self.inside.lane.state = subst (λ (e : HostEnd). IsWaiting e.state.port e.state.present.lane) (sym c.self.view_is) c.requires in
    subst (λ n. n ≤ length c.self.inside.lane.state.pending) (sym c.finished_by-count.ensures)
    (finished-few c.self.inside.held.state c.self.inside.lane.state c.args.next waits)

pub give_back-requires-clause-waiting : goal.give_back-requires-clause-waiting
give_back-requires-clause-waiting c =
    let waits : IsWaiting c.self.inside.held.state c.self.inside.lane.state = subst (λ (e : HostEnd). IsWaiting e.state.port e.state.present.lane) (sym c.self.view_is) c.requires in
    front-waits c.self.inside.held.state c.self.inside.lane.state.pending c.finished_by-count.result waits.queued

pub give_back-requires-clause-places : goal.give_back-requires-clause-places
give_back-requires-clause-places c =
    let waits : IsWaiting c.self.inside.held.state c.self.inside.lane.state = subst (λ (e : HostEnd). IsWaiting e.state.port e.state.present.lane) (sym c.self.view_is) c.requires in
    let few = finished-few c.self.inside.held.state c.self.inside.lane.state c.args.next waits in
    let count = c.finished_by-count.ensures in
    let all : length c.sent.result.now ≡ length c.self.inside.lane.state.sent = ap length c.sent.ensures in
    let n = waits.numbered in
    let u = waits.unfinished in
    let r = waits.sender.in_range in
    omega (arith, few, count, all, n, u, r)
