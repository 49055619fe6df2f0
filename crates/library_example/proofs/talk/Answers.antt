use Rattle.std.proofs.Common.{◌≡◌, ◌∙◌, ℕ, List, nat_eq, sym, ap, subst}
use Rattle.std.specs.List.{list_any}
use Rattle.route_install.specs.Installing.{AreHosts}
use Rattle.adopted_routes.specs.Adopting.{is_among}
use Rattle.route_making.specs.Listed.{map_hosts_below}
use Rattle.library_example.proofs.Kept.{adoptable, adopter-there, installable, unchanged-kept}
use Rattle.library_example.proofs.talk.Goals as goal

-- the map is of the fabric as it stands
pub adopt_and_install-requires-clause-there : goal.adopt_and_install-requires-clause-there
adopt_and_install-requires-clause-there c =
    let w = c.args.w.now in
    let same : w.links.cables.changes ≡ 0 = search in
    let kept = unchanged-kept w 0 c.args.map c.in_ok-map.map c.moment.ensures.kept c.in_ok-map.was c.requires.kept same in
    adopter-there w 0 c.in_ok-map.map c.in_ok-set.set c.moment.ensures.kept kept c.in_ok-set.ensures

pub adopt_and_install-requires-clause-adoptable : goal.adopt_and_install-requires-clause-adoptable
adopt_and_install-requires-clause-adoptable c =
    let w = c.args.w.now in
    let same : w.links.cables.changes ≡ 0 = search in
    let kept = unchanged-kept w 0 c.args.map c.in_ok-map.map c.moment.ensures.kept c.in_ok-map.was c.requires.kept same in
    adoptable w 0 c.in_ok-map.map c.in_ok-set.set c.moment.ensures.kept kept c.in_ok-set.ensures

pub adopt_and_install-requires-clause-rise : goal.adopt_and_install-requires-clause-rise
adopt_and_install-requires-clause-rise c =
    let w = c.args.w.now in
    let m = c.in_ok-map.map in
    let same : w.links.cables.changes ≡ 0 = search in
    let kept = unchanged-kept w 0 c.args.map m c.moment.ensures.kept c.in_ok-map.was c.requires.kept same in
    subst AreHosts (sym (c.deref.ensures.value ∙ c.in_ok-hosts.ensures ∙ ap (λ k. map_hosts_below k m) c.hosts.ensures))
    (installable w 0 m c.in_ok-set.set c.moment.ensures.kept kept c.in_ok-set.ensures).0

pub adopt_and_install-requires-clause-named : goal.adopt_and_install-requires-clause-named
adopt_and_install-requires-clause-named c =
    let w = c.args.w.now in
    let m = c.in_ok-map.map in
    let same : w.links.cables.changes ≡ 0 = search in
    let kept = unchanged-kept w 0 c.args.map m c.moment.ensures.kept c.in_ok-map.was c.requires.kept same in
    subst (λ (hosts : List ℕ). (h : ℕ) → list_any (nat_eq h) hosts ≡ is_among 0 c.in_ok-set.set h) (sym (c.deref.ensures.value ∙ c.in_ok-hosts.ensures ∙ ap (λ k. map_hosts_below k m) c.hosts.ensures))
    (installable w 0 m c.in_ok-set.set c.moment.ensures.kept kept c.in_ok-set.ensures).1
