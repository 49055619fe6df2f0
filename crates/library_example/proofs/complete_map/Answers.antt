use Rattle.std.proofs.Common.{◌≡◌, ◌<◌, ◌∙◌, length, sym, ap, subst}
use Rattle.net_defs.specs.Network.{Network, IsFabric}
use Rattle.world_defs.specs.History.{fabric_at}
use Rattle.world_asking.specs.Prober.{WorldAsking, IsAsked}
use Rattle.run_defs.specs.declared.line.MapWords.TheVariants.{Complete}
use Rattle.route_making.specs.Kept.{IsKeptMap}
use Rattle.library_example.proofs.Kept.{kept-map, asked-made}
use Rattle.library_example.proofs.complete_map.Goals as goal

pub returns-clause-kept : goal.returns-clause-kept
returns-clause-kept c =
    let before = c.args.prober.now in
    let after = c.make_map.new.p in
    let made = c.in_ok-made.made in
    let told = c.in_ok-made.ensures in
    let says : c.in_ok-made.made.words ≡ Complete = search in
    let n : Network = fabric_at before.world.links.cables before.made in
    let fabric = subst IsFabric told.same_fabric c.host-host.ensures.one_fabric in
    let low = subst (λ h. h < length n.hosts) told.same_mapper (subst (λ k. after.host < length k.hosts) told.same_fabric c.host-host.ensures.there) in
    let stays : after.made ≡ before.made = asked-made before after told.made.journal told.made.led in
    let past : fabric_at after.world.links.cables before.made ≡ n = ap (λ k. fabric_at after.world.links.cables k) (sym stays) ∙ told.same_fabric in
    subst (λ (k : Network). IsKeptMap k before.host made.map) (sym past)
    (kept-map WorldAsking IsAsked n before.host 4 after.drowned before after made fabric low told.made says c.vertices.ensures.is_map.is_map (told.certificate says) told.of_fabric)
