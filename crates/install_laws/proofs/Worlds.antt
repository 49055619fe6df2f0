-- What events, plans, settles and installations keep of a world: a history of cables, that it is one of its fabric, and that planned flips have eight bits.
use Rattle.std.proofs.Common.{◌≡◌, ◌+◌, ℕ, ℤ, List, refl, sym, ◌∙◌, subst}
use Rattle.net_defs.specs.declared.route.Route.{Route}
use Rattle.world_defs.specs.declared.event.Event.{Event}
use Rattle.world_defs.specs.declared.fault.Fault.{Fault}
use Rattle.world_defs.specs.Table.{Adoption}
use Rattle.world_defs.specs.World.{WorldState, planned, adopted_by}
use Rattle.world_defs.specs.Acts.{Happens, Plans, Adopts}
use Rattle.world_defs.proofs.ActsKept.{CablesKept, kept-same, kept-both, acted-kept}
use Rattle.world_defs.specs.Step.{step}
use Rattle.world_defs.proofs.Kept.{step-adopted, with-all, step-plan}
use Rattle.world_defs.specs.EightBits.{IsByteFault, IsByteEvent, HasByteFaults}
use Rattle.world_laws.specs.Shape.{IsWorld}
use Rattle.world_laws.proofs.Shapes.{step-kept, adopted-world, planned-world}
use Rattle.world_laws.proofs.Along.{Along, after_all-along}
use Rattle.world_defs.specs.Logs.{settle, asks, install}
use Rattle.world_defs.specs.Row.{IsRow}
use Rattle.world_defs.proofs.LogRows.{settle-row, asks-row, install-row, byte_settles, byte_asks}

-- what is kept from a world to another
pub record Stays (w v : WorldState) : Type 0 where
  pub cables : CablesKept w v
  pub world : IsWorld w → IsWorld v
  pub bytes : HasByteFaults w → HasByteFaults v

pub stays-same : (w : WorldState) → Stays w w
stays-same w = record { cables = kept-same w; world = λ is. is; bytes = λ all. all }

pub stays-both : (u v w : WorldState) → Stays u v → Stays v w → Stays u w
stays-both u v w a b = record { cables = kept-both u v w a.cables b.cables; world = λ is. b.world (a.world is); bytes = λ all. b.bytes (a.bytes all) }

pub stays-event : (w : WorldState) (e : Event) → Stays w (step w e).1
stays-event w e = let k = step-kept w e in record { cables = acted-kept w (Happens e); world = k.world; bytes = step-plan w e }

stays-along : (Q : Event → Type 0) → Along Stays Q
stays-along Q = record { same = stays-same; both = stays-both; event = λ w e q. stays-event w e }

pub stays-plan : (w : WorldState) (ahead : ℕ) (fault : Fault) → IsByteFault fault → Stays w (planned w ahead fault).1
stays-plan w ahead fault low = record { cables = acted-kept w (Plans ahead fault); world = planned-world w ahead fault; bytes = with-all (w.injected + ahead) fault w.plan low }

pub stays-adopted : (w : WorldState) (mapper : ℕ) (routes : List Route) → Stays w (adopted_by w mapper routes)
stays-adopted w mapper routes = record { cables = acted-kept w (Adopts mapper routes); world = adopted-world w mapper routes; bytes = λ all. all }

-- what holds from a world to the next at every event holds along settles, asks and installations
module _ (R : WorldState → WorldState → Type 0) (g : Along R IsByteEvent) where
  along-row : {w v : WorldState} {es : List Event} → IsRow IsByteEvent w es v → R w v
  along-row {w = w} {es = es} r = subst (R w) (sym r.there) (after_all-along R IsByteEvent g w es r.kinds)

  pub settle-of : (w : WorldState) → R w (settle w).world
  settle-of w = along-row (settle-row byte_settles w)

  pub asks-of : (made mapper tries : ℕ) (walks : List (List ℤ)) (w : WorldState) → R w (asks made mapper tries walks w).world
  asks-of made mapper tries walks w = along-row (asks-row byte_asks (λ h x looped. tt) made mapper tries walks w)

  pub installed-of : (a : Adoption) (hosts : List ℕ) (tries : ℕ) (w : WorldState) → R w (install a hosts tries w).world
  installed-of a hosts tries w = along-row (install-row byte_asks (λ dst part. tt) a hosts tries w)

pub stays-settle : (w : WorldState) → Stays w (settle w).world
stays-settle w = settle-of Stays (stays-along IsByteEvent) w

pub stays-installed : (a : Adoption) (hosts : List ℕ) (tries : ℕ) (w : WorldState) → Stays w (install a hosts tries w).world
stays-installed a hosts tries w = installed-of Stays (stays-along IsByteEvent) a hosts tries w

pub stays-asked : (made mapper tries : ℕ) (walks : List (List ℤ)) (w : WorldState) → Stays w (asks made mapper tries walks w).world
stays-asked made mapper tries walks w = asks-of Stays (stays-along IsByteEvent) made mapper tries walks w

-- the adopted set stays
abbrev pub SameSet : WorldState → WorldState → Type 0
SameSet w v = v.adopted ≡ w.adopted

pub event-set : (w : WorldState) (e : Event) → SameSet w (step w e).1
event-set w e = step-adopted w e

along-set : Along SameSet IsByteEvent
along-set = record { same = λ w. refl; both = λ u v w f g. g ∙ f; event = λ w e q. event-set w e }

pub settle-set : (w : WorldState) → SameSet w (settle w).world
settle-set w = settle-of SameSet along-set w

pub installed-set : (a : Adoption) (hosts : List ℕ) (tries : ℕ) (w : WorldState) → SameSet w (install a hosts tries w).world
installed-set a hosts tries w = installed-of SameSet along-set a hosts tries w
