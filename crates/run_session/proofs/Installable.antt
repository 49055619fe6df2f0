-- That the last routes of a session may be adopted, and why not.
use Rattle.std.proofs.Common.{◌≡◌, ◌<◌, ℕ, Bool, true, false, if◌then◌else◌, List, nat_eq, Option, Some, None, sym, ◌∙◌, ap, subst, arith}
use Rattle.std.specs.Prelude.{is_some}
use Rattle.std.specs.List.{AllByRecursion}
use Rattle.net_defs.specs.declared.route.Route.{Route}
use Rattle.world_defs.specs.declared.standing.Standing.{Standing}
use Rattle.world_defs.specs.Table.{Adoption, last_epoch, is_kept_in}
use Rattle.world_defs.specs.World.{WorldState, fabric_of, epoch_of, standing_of, first_unrevoked, may_adopt}
use Rattle.run_defs.specs.Outcome.{adopt_cause}
use Rattle.run_defs.specs.Session.{LastRoutes}
use Rattle.run_defs.specs.declared.line.InstallCause.TheVariants.{Installed as OtherInstalled, Epochs}
use Rattle.route_making.specs.Kept.{AreKeptRoutes}
use Rattle.route_making.proofs.Adoptable.{kept-below, kept-mapper}
use Rattle.adopted_routes.specs.Adopting.{refusal_of, adopt_refusal}
use Rattle.adopted_routes.specs.declared.routes.AdoptRefusal.{AdoptRefusal}
use Rattle.adopted_routes.specs.declared.routes.AdoptRefusal.TheVariants.{Epochs as RefusedEpochs, NoMemory}
use Rattle.adopted_routes.proofs.Refusals.{refused-not, refused-by, tells-host}
use Rattle.fab_world.specs.Events.{IsHostOf}
use Rattle.fab_world.specs.Held.{IsMoment}
use Rattle.table_installing.proofs.Adoptions.{may-be}

-- why an adoption is refused is why an installation is, where no cable changed and unless memory ran out
pub cause-none : (rs : List Route) (w : WorldState) → adopt_refusal (standing_of w) rs w.adopted ≡ None → None ≡ (if may_adopt w rs then None else Some (adopt_cause w))
cause-none rs w e = sym (ap (λ b. if b then None else Some (adopt_cause w)) (may-be w rs e))

pub cause-some : (rs : List Route) (w : WorldState) (r : AdoptRefusal) → adopt_refusal (standing_of w) rs w.adopted ≡ Some r → Some (if tells-host r then OtherInstalled else Epochs) ≡ (if may_adopt w rs then None else Some (adopt_cause w))
cause-some rs w r e =
    let host : is_some (first_unrevoked w (epoch_of w)) ≡ tells-host r = refused-by (standing_of w) rs w.adopted r e in
    sym (ap (λ b. if b then None else Some (adopt_cause w)) (refused-not (standing_of w) rs w.adopted r e) ∙ ap (λ b. Some (if b then OtherInstalled else Epochs)) host)

-- no set is refused for want of memory before any is asked for
pub no-memory : (s : Standing) (rs : List Route) (o : Option Adoption) → adopt_refusal s rs o ≡ Some NoMemory → ⊥
no-memory s rs None e = cc
no-memory s rs (Some a) e = by (is_kept_in s rs a) s.unrevoked e
  where
    last : (b : Bool) → (if b then Some RefusedEpochs else None) ≡ Some NoMemory → ⊥
    last true f = cc
    last false f = cc

    by : (kept : Bool) (u : Option ℕ) → (if kept then None else refusal_of u a.epoch) ≡ Some NoMemory → ⊥
    by true u f = cc
    by false (Some h) f = cc
    by false None f = last (nat_eq a.epoch last_epoch) f

-- the mapper is a host of the world
pub mapper-there : (w : WorldState) (l : LastRoutes) → IsMoment w → AreKeptRoutes (fabric_of w) l → IsHostOf w l.mapper
mapper-there w l now k =
    let hosts = now.world.hosts in
    let low = kept-mapper (fabric_of w) l k in
    omega (arith, hosts, low)

-- so are the hosts of its map
pub hosts-there : (w : WorldState) (l : LastRoutes) → IsMoment w → AreKeptRoutes (fabric_of w) l → AllByRecursion (IsHostOf w) l.hosts
hosts-there w l now k = subst (λ count. AllByRecursion (λ h. h < count) l.hosts) (sym now.world.hosts) (kept-below (fabric_of w) l k)
