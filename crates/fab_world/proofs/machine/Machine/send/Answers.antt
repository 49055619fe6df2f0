use Rattle.std.proofs.Common.{◌≡◌, ◌+◌, true, Some, sym, ap, ◌∙◌, subst}
use Rattle.std.specs.Prelude.{is_some, option_map, IfOk, OnErr}
use Rattle.world_defs.specs.Node.{to_send, packet_for}
use Rattle.world_defs.specs.World.{WorldState, node_at, may_send}
use Rattle.world_defs.specs.Step.{inject_one}
use Rattle.faulty_links.specs.Held.{of_world, can_inject}
use Rattle.nic_node.specs.Sending.{chosen}
use Rattle.fab_world.specs.Events.{IsHostOf, IsChannelOf}
use Rattle.fab_world.proofs.machine.Machine.send.Goals as goal

pub put-requires-clause-there : goal.put-requires-clause-there
put-requires-clause-there c = subst (λ (w : WorldState). IsHostOf w c.args.host) (sym c.in_ok-packet.ensures.same) c.requires.there

pub put-requires-clause-channel : goal.put-requires-clause-channel
put-requires-clause-channel c = subst (λ (w : WorldState). IsChannelOf w c.args.c) (sym c.in_ok-packet.ensures.same) c.requires.channel

pub put-requires-clause-free : goal.put-requires-clause-free
put-requires-clause-free c = subst (λ (w : WorldState). can_inject (of_world w) c.args.c ≡ true) (sym c.in_ok-packet.ensures.same) c.requires.free

pub put-requires-clause-may : goal.put-requires-clause-may
put-requires-clause-may c =
    subst (λ (w : WorldState). may_send w c.args.c (to_send c.args.host (node_at w c.args.host)) ≡ true) (sym c.in_ok-packet.ensures.same) c.requires.may

pub put-requires-clause-first : goal.put-requires-clause-first
put-requires-clause-first c =
    subst (λ (w : WorldState). chosen c.args.host (node_at w c.args.host) c.args.next ≡ to_send c.args.host (node_at w c.args.host)) (sym c.in_ok-packet.ensures.same) c.requires.first

pub put-requires-clause-some : goal.put-requires-clause-some
put-requires-clause-some c =
    subst (λ (w : WorldState). is_some (chosen c.args.host (node_at w c.args.host) c.args.next) ≡ true) (sym c.in_ok-packet.ensures.same) c.requires.some

pub put-requires-clause-packet : goal.put-requires-clause-packet
put-requires-clause-packet c =
    let old = c.args.self.now in
    let number : c.injected-number.result ≡ old.injected = c.injected-number.ensures ∙ ap (λ (w : WorldState). w.injected) c.self.view_is in
    subst (λ (w : WorldState). Some c.in_ok-packet.packet ≡ option_map (packet_for c.args.host (w.injected + 1)) (to_send c.args.host (node_at w c.args.host)))
    (sym c.in_ok-packet.ensures.same)
    (c.in_ok-packet.ensures.packet ∙ ap (λ n. option_map (packet_for c.args.host (n + 1)) (chosen c.args.host (node_at old c.args.host) c.args.next)) number
    ∙ ap (option_map (packet_for c.args.host (old.injected + 1))) c.requires.first)

pub returns-clause-ok : goal.returns-clause-ok
returns-clause-ok c =
    subst (λ (w : WorldState). IfOk c.put.result (λ x. inject_one w c.args.host c.args.c (to_send c.args.host (node_at w c.args.host)) ≡ (x, c.put.new.self)))
    c.in_ok-packet.ensures.same c.put.ensures.ok

pub returns-clause-err : goal.returns-clause-err
returns-clause-err c = subst (λ (w : WorldState). OnErr c.put.result (c.put.new.self ≡ w)) c.in_ok-packet.ensures.same c.put.ensures.err
