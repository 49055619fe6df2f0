use Rattle.std.proofs.Common.{◌≡◌, ◌∙◌, ◌<◌, ℕ, subst, sym}
use Rattle.std.specs.List.{AllByRecursion}
use Rattle.world_defs.specs.World.{WorldState, fabric_of}
use Rattle.fab_world.specs.Events.{IsHostOf}
use Rattle.run_defs.specs.Session.{LastRoutes}
use Rattle.route_making.specs.Kept.{AreKeptRoutes}
use Rattle.route_making.proofs.Adoptable.{kept-adoptable, kept-rise, kept-named}
use Rattle.run_session.proofs.Installable.{mapper-there, hosts-there}
use Rattle.run_session.proofs.Installs.{kept-copy, goes-pulled_after, goes-part, whole-part, cut-part, installed-told}
use Rattle.run_session.proofs.installing.install_adoptable.Goals as goal

-- the routes, with their mapper and hosts, are the last ones
pub adopt_and_install-requires-clause-there : goal.adopt_and_install-requires-clause-there
adopt_and_install-requires-clause-there c =
    let w : WorldState = c.args.w.now in
    let k : LastRoutes = record { mapper = c.l.inside.mapper; hosts = c.deref.result.now; routes = c.l.inside.routes; began = c.l.inside.began } in
    let same : k ≡ c.args.l.now = (λ i. record { mapper = c.l.inside.mapper; hosts = c.deref.ensures.value i; routes = c.l.inside.routes; began = c.l.inside.began }) ∙ c.l.view_is in
    let kept : AreKeptRoutes (fabric_of w) k = kept-copy w k c.args.l.now c.moment.ensures.kept same c.requires.may c.requires.kept in
    mapper-there w k c.moment.ensures.kept kept

pub adopt_and_install-requires-clause-adoptable : goal.adopt_and_install-requires-clause-adoptable
adopt_and_install-requires-clause-adoptable c =
    let w : WorldState = c.args.w.now in
    let k : LastRoutes = record { mapper = c.l.inside.mapper; hosts = c.deref.result.now; routes = c.l.inside.routes; began = c.l.inside.began } in
    let same : k ≡ c.args.l.now = (λ i. record { mapper = c.l.inside.mapper; hosts = c.deref.ensures.value i; routes = c.l.inside.routes; began = c.l.inside.began }) ∙ c.l.view_is in
    let kept : AreKeptRoutes (fabric_of w) k = kept-copy w k c.args.l.now c.moment.ensures.kept same c.requires.may c.requires.kept in
    kept-adoptable (fabric_of w) k c.moment.ensures.kept.fabric kept

pub adopt_and_install-requires-clause-rise : goal.adopt_and_install-requires-clause-rise
adopt_and_install-requires-clause-rise c =
    let w : WorldState = c.args.w.now in
    let k : LastRoutes = record { mapper = c.l.inside.mapper; hosts = c.deref.result.now; routes = c.l.inside.routes; began = c.l.inside.began } in
    let same : k ≡ c.args.l.now = (λ i. record { mapper = c.l.inside.mapper; hosts = c.deref.ensures.value i; routes = c.l.inside.routes; began = c.l.inside.began }) ∙ c.l.view_is in
    let kept : AreKeptRoutes (fabric_of w) k = kept-copy w k c.args.l.now c.moment.ensures.kept same c.requires.may c.requires.kept in
    kept-rise (fabric_of w) k kept

pub adopt_and_install-requires-clause-named : goal.adopt_and_install-requires-clause-named
adopt_and_install-requires-clause-named c =
    let w : WorldState = c.args.w.now in
    let k : LastRoutes = record { mapper = c.l.inside.mapper; hosts = c.deref.result.now; routes = c.l.inside.routes; began = c.l.inside.began } in
    let same : k ≡ c.args.l.now = (λ i. record { mapper = c.l.inside.mapper; hosts = c.deref.ensures.value i; routes = c.l.inside.routes; began = c.l.inside.began }) ∙ c.l.view_is in
    let kept : AreKeptRoutes (fabric_of w) k = kept-copy w k c.args.l.now c.moment.ensures.kept same c.requires.may c.requires.kept in
    kept-named (fabric_of w) k kept

pub returns-in_default-clause-err : goal.returns-in_default-clause-err
returns-in_default-clause-err c =
    let w : WorldState = c.args.w.now in
    let k : LastRoutes = record { mapper = c.l.inside.mapper; hosts = c.deref.result.now; routes = c.l.inside.routes; began = c.l.inside.began } in
    let same : k ≡ c.args.l.now = (λ i. record { mapper = c.l.inside.mapper; hosts = c.deref.ensures.value i; routes = c.l.inside.routes; began = c.l.inside.began }) ∙ c.l.view_is in
    cut-part w c.adopt_and_install.new.w k c.args.l.now c.args.tries same c.requires.idle c.requires.may c.in_default.ensures.err

pub returns-in_default-clause-cables : goal.returns-in_default-clause-cables
returns-in_default-clause-cables c =
    let w : WorldState = c.args.w.now in
    let k : LastRoutes = record { mapper = c.l.inside.mapper; hosts = c.deref.result.now; routes = c.l.inside.routes; began = c.l.inside.began } in
    let same : k ≡ c.args.l.now = (λ i. record { mapper = c.l.inside.mapper; hosts = c.deref.ensures.value i; routes = c.l.inside.routes; began = c.l.inside.began }) ∙ c.l.view_is in
    goes-part w c.adopt_and_install.new.w k c.args.tries c.in_default.ensures.err

pub print_tables-requires : goal.print_tables-requires
print_tables-requires c =
    let w : WorldState = c.args.w.now in
    let k : LastRoutes = record { mapper = c.l.inside.mapper; hosts = c.deref.result.now; routes = c.l.inside.routes; began = c.l.inside.began } in
    let same : k ≡ c.args.l.now = (λ i. record { mapper = c.l.inside.mapper; hosts = c.deref.ensures.value i; routes = c.l.inside.routes; began = c.l.inside.began }) ∙ c.l.view_is in
    let kept : AreKeptRoutes (fabric_of w) k = kept-copy w k c.args.l.now c.moment.ensures.kept same c.requires.may c.requires.kept in
    let there = hosts-there w k c.moment.ensures.kept kept in
    let hosts = c.adopt_and_install.ensures.hosts in
    record {
      hosts = subst (λ (count : ℕ). AllByRecursion (λ h. h < count) c.deref-2.result.now) (sym hosts)
          (subst (AllByRecursion (IsHostOf w)) (c.deref.ensures.value ∙ sym c.deref-2.ensures.value) there);
    }

pub returns-in_default-print_tables-clause-err : goal.returns-in_default-print_tables-clause-err
returns-in_default-print_tables-clause-err c =
    let w : WorldState = c.args.w.now in
    let k : LastRoutes = record { mapper = c.l.inside.mapper; hosts = c.deref.result.now; routes = c.l.inside.routes; began = c.l.inside.began } in
    let same : k ≡ c.args.l.now = (λ i. record { mapper = c.l.inside.mapper; hosts = c.deref.ensures.value i; routes = c.l.inside.routes; began = c.l.inside.began }) ∙ c.l.view_is in
    cut-part w c.adopt_and_install.new.w k c.args.l.now c.args.tries same c.requires.idle c.requires.may (whole-part w c.adopt_and_install.new.w k c.args.tries c.in-Ok.ensures.after)

pub returns-in_default-print_tables-clause-cables : goal.returns-in_default-print_tables-clause-cables
returns-in_default-print_tables-clause-cables c =
    let w : WorldState = c.args.w.now in
    let k : LastRoutes = record { mapper = c.l.inside.mapper; hosts = c.deref.result.now; routes = c.l.inside.routes; began = c.l.inside.began } in
    let same : k ≡ c.args.l.now = (λ i. record { mapper = c.l.inside.mapper; hosts = c.deref.ensures.value i; routes = c.l.inside.routes; began = c.l.inside.began }) ∙ c.l.view_is in
    goes-pulled_after w c.adopt_and_install.new.w k c.in-Ok.ensures.cables

pub returns-clause-told : goal.returns-clause-told
returns-clause-told c =
    let w : WorldState = c.args.w.now in
    let k : LastRoutes = record { mapper = c.l.inside.mapper; hosts = c.deref.result.now; routes = c.l.inside.routes; began = c.l.inside.began } in
    let same : k ≡ c.args.l.now = (λ i. record { mapper = c.l.inside.mapper; hosts = c.deref.ensures.value i; routes = c.l.inside.routes; began = c.l.inside.began }) ∙ c.l.view_is in
    let x = c.in-Ok.installed in
    installed-told w c.adopt_and_install.new.w k c.args.l.now c.args.tries x.acked x.of c.deref-2.result.now c.print_tables.new.printed same c.requires.idle c.requires.may c.in-Ok.ensures.acked c.in-Ok.ensures.after
    c.in-Ok.ensures.cables c.in-Ok.ensures.of (c.deref-2.ensures.value ∙ sym c.deref.ensures.value) c.in-Ok-print_tables.ensures

pub returns-clause-cables : goal.returns-clause-cables
returns-clause-cables c =
    let w : WorldState = c.args.w.now in
    let k : LastRoutes = record { mapper = c.l.inside.mapper; hosts = c.deref.result.now; routes = c.l.inside.routes; began = c.l.inside.began } in
    let same : k ≡ c.args.l.now = (λ i. record { mapper = c.l.inside.mapper; hosts = c.deref.ensures.value i; routes = c.l.inside.routes; began = c.l.inside.began }) ∙ c.l.view_is in
    goes-pulled_after w c.adopt_and_install.new.w k c.in-Ok.ensures.cables
