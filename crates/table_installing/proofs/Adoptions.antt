-- What an adoption leaves for an installation.
use Rattle.std.proofs.Common.{◌≡◌, ◌≤◌, ◌⊎◌, ℕ, Bool, true, false, List, nat_eq, Option, Some, None, refl, sym, ap, subst, ◌∙◌, if◌then◌else◌}
use Rattle.std.specs.Prelude.{is_none, IfSome}
use Rattle.std.specs.List.{list_any}
use Rattle.net_defs.specs.declared.route.Route.{Route}
use Rattle.net_defs.specs.Network.{Network}
use Rattle.world_defs.specs.Links.{LinkState, is_idle}
use Rattle.world_defs.specs.Fault.{accept}
use Rattle.world_defs.specs.Table.{Adoption}
use Rattle.world_defs.specs.World.{WorldState, keeps_epoch, standing_of, may_adopt, adoption_of, adopted_by}
use Rattle.world_defs.specs.Acts.{IsReached}
use Rattle.install_laws.proofs.Epochs.{adopted-unrevoked}
use Rattle.route_install.specs.Installing.{AreHosts}
use Rattle.adopted_routes.specs.Adopting.{adopt_refusal, is_among}
use Rattle.adopted_routes.specs.declared.routes.AdoptRefusal.{AdoptRefusal}
use Rattle.adopted_routes.specs.declared.routes.AdoptRefusal.TheVariants.{NoMemory}
use Rattle.adopted_routes.proofs.Refusals.{refused_exactly}
use Rattle.table_installing.specs.Installing.{CanInstall, AdoptedIsUnchanged, AdoptedCanBeInstalled}

-- an adoption leaves the number of changes, which is the set's
pub adopted-unchanged : AdoptedIsUnchanged
adopted-unchanged w mapper routes = stays w.links (keeps_epoch w routes)
  where
    stays : (s : LinkState) (b : Bool) → (if b then s else accept s).cables.changes ≡ s.cables.changes
    stays s true = refl
    stays s false = refl

-- an epoch that begins puts no packet into a channel
pub accepted-idle : (s : LinkState) (b : Bool) → is_idle (if b then s else accept s) ≡ is_idle s
accepted-idle s true = refl
accepted-idle s false = refl

pub adopted-installable : AdoptedCanBeInstalled
adopted-installable n w mapper routes hosts tries reached may idle rise named some few = record {
  adopted = refl;
  unrevoked = adopted-unrevoked n w mapper routes reached may;
  unchanged = adopted-unchanged w mapper routes;
  idle = accepted-idle w.links (keeps_epoch w routes) ∙ idle;
  rise = rise;
  named = named;
  some = some;
  few = few;
}

-- routes that a world doesn't refuse may be adopted
pub may-be : (w : WorldState) (routes : List Route) → adopt_refusal (standing_of w) routes w.adopted ≡ None → may_adopt w routes ≡ true
may-be w routes e = sym (refused_exactly (standing_of w) routes w.adopted) ∙ ap (λ (o : Option AdoptRefusal). is_none o) e

-- and once they are adopted they can be installed
pub just-installable : (n : Network) (w v : WorldState) (mapper : ℕ) (routes : List Route) (hosts : List ℕ) (tries : ℕ) → IsReached n w → adopt_refusal (standing_of w) routes w.adopted ≡ None → v ≡ adopted_by w mapper routes
    → is_idle w.links ≡ true → AreHosts hosts → ((h : ℕ) → list_any (nat_eq h) hosts ≡ is_among mapper routes h) → 1 ≤ tries → tries ≤ 8 → CanInstall v hosts tries
just-installable n w v mapper routes hosts tries reached none there idle rise named some few =
    subst (λ (u : WorldState). CanInstall u hosts tries) (sym there) (adopted-installable n w mapper routes hosts tries reached (may-be w routes none) idle rise named some few)

-- a copy of routes is refused, and adopted, as they are
pub unrefused-copy : (w : WorldState) (copy routes : List Route) → copy ≡ routes → adopt_refusal (standing_of w) copy w.adopted ≡ None → adopt_refusal (standing_of w) routes w.adopted ≡ None
unrefused-copy w copy routes same none = subst (λ (r : List Route). adopt_refusal (standing_of w) r w.adopted ≡ None) same none

pub adopted-copy : (w v : WorldState) (mapper : ℕ) (copy routes : List Route) → copy ≡ routes → v ≡ adopted_by w mapper copy → v ≡ adopted_by w mapper routes
adopted-copy w v mapper copy routes same there = subst (λ (r : List Route). v ≡ adopted_by w mapper r) same there

pub refused-copy : (w : WorldState) (copy routes : List Route) (why : AdoptRefusal) → copy ≡ routes → (adopt_refusal (standing_of w) copy w.adopted ≡ Some why) ⊎ ((adopt_refusal (standing_of w) copy w.adopted ≡ None) × (why ≡ NoMemory))
    → (adopt_refusal (standing_of w) routes w.adopted ≡ Some why) ⊎ ((adopt_refusal (standing_of w) routes w.adopted ≡ None) × (why ≡ NoMemory))
refused-copy w copy routes why same told =
    subst (λ (r : List Route). (adopt_refusal (standing_of w) r w.adopted ≡ Some why) ⊎ ((adopt_refusal (standing_of w) r w.adopted ≡ None) × (why ≡ NoMemory))) same told

-- what holds of the set that a world has adopted holds of the set that was adopted just now
pub of-adopted : (P : Adoption → WorldState → Type 0) (w v : WorldState) (mapper : ℕ) (routes : List Route) → v ≡ adopted_by w mapper routes → IfSome v.adopted (λ a. P a v) → P (adoption_of w mapper routes) (adopted_by w mapper routes)
of-adopted P w v mapper routes there holds = subst (λ (u : WorldState). IfSome u.adopted (λ a. P a u)) there holds

-- where an adoption isn't refused, what holds of a refusal holds of none
pub unless-refused : {R : Type 0} (o : Option R) (P : Type 0) → o ≡ None → IfSome o (λ r. P)
unless-refused o P none = subst (λ x. IfSome x (λ r. P)) (sym none) tt

-- and where nothing has changed it holds anyway
pub if-refused : {R : Type 0} (o : Option R) (P : Type 0) → P → IfSome o (λ r. P)
if-refused None P p = tt
if-refused (Some r) P p = p
