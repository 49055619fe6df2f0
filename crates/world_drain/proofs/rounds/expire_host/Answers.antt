use Rattle.std.proofs.Common.{◌≡◌, ◌<◌, ◌+◌, ◌-◌, arith}
use Rattle.std.specs.List.{range_with_len}
use Rattle.world_defs.specs.Node.{unacknowledged_to}
use Rattle.world_defs.specs.World.{host_count, node_at}
use Rattle.fab_world.proofs.PassedBy.{up-to, to-end}
use Rattle.log_laws.proofs.PartWay.{way-still}
use Rattle.world_drain.proofs.Expiries.{Expiring, due_of, expiring-none, expiring-idle, expiring-on, expiring-all}
use Rattle.world_drain.proofs.Later.{on-any}
use Rattle.world_drain.proofs.rounds.expire_host.Goals as goal

pub loop-peer-init : goal.loop-peer-init
loop-peer-init c = expiring-none c.args.w.now c.args.host

pub next_unacked-requires : goal.next_unacked-requires
next_unacked-requires c = let count = c.loop-peer.invariant.hosts in let low = c.requires in omega (arith, count, low)

pub happen-requires : goal.happen-requires
happen-requires c = let count = c.loop-peer.invariant.hosts in let low = c.requires in (omega (arith, count, low), c.in-Some.ensures.found.there)

pub returns-in_err-happen-clause-err : goal.returns-in_err-happen-clause-err
returns-in_err-happen-clause-err c =
    let first = c.args.w.now in
    let now = c.loop-peer.w in
    let host = c.args.host in
    let f = c.in-Some.ensures.found in
    let at = up-to (λ p. unacknowledged_to (node_at now host) p ≡ 0) (Expiring first now host) now c.loop-peer.from (expiring-idle first now host) c.in-Some.peer f.above f.there f.passed c.loop-peer.invariant in
    let left = due_of first host (range_with_len c.in-Some.peer (host_count first - c.in-Some.peer)) in
    on-any c.from_residual.result (at.way c.happen.new.w (way-still now c.happen.new.w left c.in_err-happen.ensures.err))

pub loop-peer-preserved : goal.loop-peer-preserved
loop-peer-preserved c =
    let first = c.args.w.now in
    let now = c.loop-peer.w in
    let host = c.args.host in
    let f = c.in-Some.ensures.found in
    let at = up-to (λ p. unacknowledged_to (node_at now host) p ≡ 0) (Expiring first now host) now c.loop-peer.from (expiring-idle first now host) c.in-Some.peer f.above f.there f.passed c.loop-peer.invariant in
    let low : c.in-Some.peer < host_count first = omega (arith, f.there, c.loop-peer.invariant.hosts) in
    expiring-on first now c.happen.new.w host c.in-Some.peer at low c.in_ok-happen.ensures.after c.in_ok-happen.ensures.hosts

pub returns-clause-after : goal.returns-clause-after
returns-clause-after c =
    let first = c.args.w.now in
    let now = c.loop-peer.w in
    let host = c.args.host in
    let from = c.loop-peer.from in
    let all = to-end (λ p. unacknowledged_to (node_at now host) p ≡ 0) (Expiring first now host) now from (expiring-idle first now host) (λ p low high. c.in_default.ensures.none p low) c.loop-peer.invariant in
    expiring-all first now host (from + (host_count now - from)) all (omega (arith, c.loop-peer.invariant.hosts))
