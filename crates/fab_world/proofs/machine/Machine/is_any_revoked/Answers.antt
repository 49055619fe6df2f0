use Rattle.std.proofs.Common.{◌<◌, ◌≤◌, ap, sym, ◌∙◌, arith}
use Rattle.world_defs.specs.Table.{has_revoked}
use Rattle.world_defs.specs.World.{host_count, node_at}
use Rattle.fab_world.proofs.Revoking.{finding-new, finding-on, any-here, none-any}
use Rattle.fab_world.proofs.machine.Machine.is_any_revoked.Goals as goal

pub loop-host-init : goal.loop-host-init
loop-host-init c = finding-new (λ h. has_revoked c.args.epoch (node_at c.args.self.now h).table) (host_count c.args.self.now)

pub loop-host-preserved : goal.loop-host-preserved
loop-host-preserved c =
    let low : c.loop-host.host < host_count c.args.self.now = omega (arith, c.loop-host-test.true, c.count-host-end.ensures) in
    let told = sym (c.has_revoked.ensures ∙ ap (λ n. has_revoked c.args.epoch n.table) c.at.ensures.state) in
    finding-on (λ h. has_revoked c.args.epoch (node_at c.args.self.now h).table) (host_count c.args.self.now) c.loop-host.host c.loop-host.invariant low (told ∙ c.if-has_revoked.false)

pub returns-then-has_revoked : goal.returns-then-has_revoked
returns-then-has_revoked c =
    let low : c.loop-host.host < host_count c.args.self.now = omega (arith, c.loop-host-test.true, c.count-host-end.ensures) in
    let told = sym (c.has_revoked.ensures ∙ ap (λ n. has_revoked c.args.epoch n.table) c.at.ensures.state) in
    any-here (λ h. has_revoked c.args.epoch (node_at c.args.self.now h).table) (host_count c.args.self.now) c.loop-host.host c.loop-host.invariant low (told ∙ c.if-has_revoked.true)

pub returns : goal.returns
returns c =
    let past : host_count c.args.self.now ≤ c.loop-host.host = omega (arith, c.loop-host-test.false, c.count-host-end.ensures) in
    none-any (λ h. has_revoked c.args.epoch (node_at c.args.self.now h).table) (host_count c.args.self.now) c.loop-host.host c.loop-host.invariant past
