use Rattle.std.proofs.Common.{◌≡◌, ◌+◌, ◌<◌, ◌≤◌, ◌∙◌, ap, sym, subst, Ok, arith}
use Rattle.world_defs.specs.World.{host_count}
use Rattle.fab_remap.proofs.Giving.{Giving, more, giving-none, giving-on, giving-all}
use Rattle.fab_remap.proofs.epochs.revoke.Goals.{then-revoke_host, else-revoke_host}
use Rattle.fab_remap.proofs.epochs.revoke.Goals as goal

pub loop-host-init : goal.loop-host-init
loop-host-init c = giving-none c.args.w.now

pub revoke_host-requires : goal.revoke_host-requires
revoke_host-requires c =
    let there : c.loop-host.host < host_count c.loop-host.w = omega (arith, c.loop-host-test.true, c.hosts-host-end.ensures, c.loop-host.invariant.hosts) in
    there

pub loop-host-preserved : goal.loop-host-preserved
loop-host-preserved c =
    let low : c.loop-host.host < host_count c.args.w.now = omega (arith, c.loop-host-test.true, c.hosts-host-end.ensures) in
    let on = giving-on c.args.w.now c.loop-host.w c.revoke_host.new.w c.loop-host.host c.loop-host.revoked c.revoke_host.result c.loop-host.invariant low c.revoke_host.ensures.event c.revoke_host.ensures.hosts in
    let told : c.if-revoke_host.revoked ≡ more c.loop-host.revoked c.revoke_host.result = elim c.if-revoke_host.branch [
      | then-revoke_host w ↦ w.revoked-is ∙ sym (ap (more c.loop-host.revoked) w.if-revoke_host.true)
      | else-revoke_host w ↦ w.revoked-is ∙ sym (ap (more c.loop-host.revoked) w.if-revoke_host.false)
    ] in
    subst (Giving c.args.w.now c.revoke_host.new.w (c.loop-host.host + 1)) (sym told) on

pub returns : goal.returns
returns c =
    let past : host_count c.args.w.now ≤ c.loop-host.host = omega (arith, c.loop-host-test.false, c.hosts-host-end.ensures) in
    let all = giving-all c.args.w.now c.loop-host.w c.loop-host.host c.loop-host.revoked c.loop-host.invariant past in
    let g = c.loop-host.invariant in
    let few : c.loop-host.revoked ≤ host_count c.args.w.now = omega (arith, g.few, c.loop-host.auto.host-end, c.hosts-host-end.ensures) in
    record { count = ap Ok all.count; at_most_hosts = few; after = all.world; cables = g.cables; hosts = g.hosts; adopted = g.adopted }
