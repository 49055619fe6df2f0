use Rattle.std.proofs.Common.{◌≡◌, true, Some, option_map, ap, ◌∙◌, subst}
use Rattle.std.specs.Prelude.{is_some}
use Rattle.world_defs.specs.Node.{packet_for}
use Rattle.nic_node.specs.Sending.{chosen}
use Rattle.fab_world.specs.Held.{world_of}
use Rattle.fab_world.proofs.Places.{IsAt, IsThere, found, as-read}
use Rattle.fab_world.proofs.machine.Machine.written.Goals as goal

pub write_packet-requires : goal.write_packet-requires
write_packet-requires c =
    let at : IsAt c.self.inside.links c.self.inside.hosts.items c.self.inside.adopted c.args.self.now c.args.host c.from-at.result c.index.result.now =
    record { is = c.self.view_is; kept = c.self.invariant.hosts; below = c.requires.there; at = c.from-at.ensures; there = c.index.ensures } in
    as-read (λ h n. is_some (chosen h n c.args.next) ≡ true) (found at) c.requires.some

pub returns-clause-same : goal.returns-clause-same
returns-clause-same c = ap (λ l. world_of l c.self.inside.hosts.items c.self.inside.adopted) c.spare-packet.ensures ∙ c.self.view_is
