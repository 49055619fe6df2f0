use Rattle.std.proofs.Common.{sym, ap, ◌∙◌, subst}
use Rattle.net_defs.specs.Route.{host_port, IsPlaceOf}
use Rattle.world_defs.specs.Links.{put}
use Rattle.world_defs.specs.Lone.{lone}
use Rattle.world_defs.specs.History.{fabric_now}
use Rattle.world_defs.proofs.ForLife.{leaving_has_its_end}
use Rattle.world_defs.proofs.LonePackets.{no_channel-place}
use Rattle.link_model.proofs.Alone.{put-lone, walked, place-there}
use Rattle.link_model.proofs.walking.walk_alone.Goals as goal

pub returns-in_default-clause-place : goal.returns-in_default-clause-place
returns-in_default-clause-place c = sym (no_channel-place c.args.links.now.cables c.args.host c.args.turns.now (sym c.in_default.ensures.channel))

pub returns-clause-place : goal.returns-clause-place
returns-clause-place c =
    let h = c.args.links.now.cables in
    let here = c.in-Some.channel in
    let from = sym c.in-Some.ensures.channel in
    let alone =
    c.put.ensures.links ∙ ap (λ s. (put s here c.in_ok-packet.packet).1) c.requires.idle ∙ put-lone h here c.in_ok-packet.packet
    ∙ ap (lone h here) c.in_ok-packet.ensures in
    c.run_out.ensures.place
    ∙ walked h c.args.host here c.args.turns.now c.put.new.self from c.requires.turns alone (leaving_has_its_end h (host_port c.args.host) here from).there

pub returns-clause-there : goal.returns-clause-there
returns-clause-there c = subst (IsPlaceOf (fabric_now c.args.links.now.cables)) (sym (returns-clause-place c)) (place-there (fabric_now c.args.links.now.cables) c.args.host c.args.turns.now c.channel_from.ensures.fabric)
