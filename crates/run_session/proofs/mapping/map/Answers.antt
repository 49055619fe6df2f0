use Rattle.std.proofs.Common.{◌≡◌, ◌∙◌, sym, ap, subst, arith}
use Rattle.std.specs.Prelude.{Some}
use Rattle.net_defs.specs.Network.{Network}
use Rattle.world_defs.specs.History.{fabric_at}
use Rattle.world_defs.specs.World.{fabric_of}
use Rattle.map_making.specs.Lines.{map_lines}
use Rattle.run_session.proofs.Answered.{on-ok-both}
use Rattle.run_session.specs.Kept.{IsKeptMap}
use Rattle.run_session.proofs.Going.{stood-before, printed-on, of-fabric, host-stays, last-over}
use Rattle.run_session.proofs.Keeping.{kept-made}
use Rattle.world_drain.proofs.Later.{on-any}
use Rattle.run_session.proofs.Cutting.{cut_made, cut_begun}
use Rattle.run_session.proofs.Obeying.{mapped_so}
use Rattle.run_session.proofs.mapping.map.Goals as goal

pub keep_map-kept-requires-clause-host : goal.keep_map-kept-requires-clause-host
keep_map-kept-requires-clause-host c = host-stays c.args.world c.map_world-world.result.0 c.args.order.host c.map_world-world.ensures.cables c.requires.order.0

pub keep_map-kept-requires-clause-hosts : goal.keep_map-kept-requires-clause-hosts
keep_map-kept-requires-clause-hosts c =
    let hosts = rw c.in-Ok.is at c.map_world-world.ensures.of_fabric in
    of-fabric (fabric_of c.args.world) (fabric_of c.map_world-world.result.0) c.in-Ok.mapping.made.map (sym c.map_world-world.ensures.cables.vertices.0) hosts

pub keep_map-kept-requires-clause-past : goal.keep_map-kept-requires-clause-past
keep_map-kept-requires-clause-past c =
    let began = rw c.in-Ok.is at c.map_world-world.ensures.began in
    let on = c.map_world-world.ensures.cables.changes in
    omega (arith, began, on)

pub keep_map-kept-requires-clause-right : goal.keep_map-kept-requires-clause-right
keep_map-kept-requires-clause-right c = λ says.
    let before = c.args.world in
    let after = c.map_world-world.result.0 in
    let made = c.in-Ok.mapping.made in
    let over = rw c.in-Ok.is at c.map_world-world.ensures.mapped in
    let hosts = rw c.in-Ok.is at c.map_world-world.ensures.of_fabric in
    let began : c.in-Ok.mapping.began ≡ before.links.cables.changes = rw c.in-Ok.is at c.map_world-world.ensures.began in
    let order = c.requires.order in
    let stood = ap (λ k. fabric_at after.links.cables k) began ∙ stood-before before after c.moment.ensures.kept c.map_world-world.ensures.cables in
    subst (λ (n : Network). IsKeptMap n c.args.order.host made.map) (sym stood)
    (kept-made c.args.order before after made c.in-Ok.mapping.packets c.moment.ensures.kept c.requires.idle order.0 order.1.1 over hosts says)

pub keep_map-kept-requires-clause-kept : goal.keep_map-kept-requires-clause-kept
keep_map-kept-requires-clause-kept c = last-over c.args.world c.map_world-world.result.0 c.args.last_map.now c.map_world-world.ensures.cables c.requires.kept

pub returns-in-Ok-clause-obeyed : goal.returns-in-Ok-clause-obeyed
returns-in-Ok-clause-obeyed c =
    let before = c.args.world in
    let after = c.map_world-world.result.0 in
    let made = c.in-Ok.mapping.made in
    let packets = c.in-Ok.mapping.packets in
    let over = rw c.in-Ok.is at c.map_world-world.ensures.mapped in
    let began : c.in-Ok.mapping.began ≡ before.links.cables.changes = rw c.in-Ok.is at c.map_world-world.ensures.began in
    let told = map_lines c.args.order.host made packets in
    on-ok-both c.keep_map-kept.result
    (λ e now. mapped_so before after c.args.order made packets c.args.last_map.now c.keep_map-kept.new.last_map c.keep_map-kept.new.printed c.requires.idle over
    (now ∙ ap (λ k. Some (record { mapper = c.args.order.host; words = made.words; made = made.map; began = k })) began)
    (e ∙ printed-on before after told c.map_world-world.ensures.cables))
    c.keep_map-kept.ensures.text c.keep_map-kept.ensures.last

pub returns-in-Err-clause-kept : goal.returns-in-Err-clause-kept
returns-in-Err-clause-kept c = last-over c.args.world c.map_world-world.result.0 c.args.last_map.now c.map_world-world.ensures.cables c.requires.kept

pub returns-in-Ok-clause-cut : goal.returns-in-Ok-clause-cut
returns-in-Ok-clause-cut c =
    let over = rw c.in-Ok.is at c.map_world-world.ensures.mapped in
    on-any c.keep_map-kept.result (cut_made c.args.world c.map_world-world.result.0 c.args.last_map.now c.args.order c.in-Ok.mapping.made c.in-Ok.mapping.packets c.requires.idle over)

pub returns-in-Err-clause-cut : goal.returns-in-Err-clause-cut
returns-in-Err-clause-cut c =
    let begun = rw c.in-Err.is at c.map_world-world.ensures.begun in
    let order = c.requires.order in
    cut_begun c.args.world c.map_world-world.result.0 c.args.last_map.now c.args.order c.moment.ensures.kept c.requires.idle order.0 order.1.1 begun
