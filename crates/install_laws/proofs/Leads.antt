-- Acts that may happen lead from a world to another: each event, a plan, an adoption; so a world that they lead to from a reached one is reached.
use Rattle.std.proofs.Common.{◌≡◌, ◌≤◌, ℕ, true, List, [], ◌∷◌, ◌++◌, refl, sym, ◌∙◌, ap, subst}
use Rattle.net_defs.specs.declared.route.Route.{Route}
use Rattle.net_defs.specs.Network.{Network}
use Rattle.world_defs.specs.declared.event.Event.{Event}
use Rattle.world_defs.specs.declared.fault.Fault.{Fault}
use Rattle.world_defs.specs.World.{WorldState, fabric_of, new_world, planned, may_adopt, adopted_by}
use Rattle.world_defs.specs.Step.{step}
use Rattle.world_defs.specs.EightBits.{IsByteFault, IsByteEvent}
use Rattle.world_laws.proofs.Along.{Along}
use Rattle.world_defs.specs.Acts.{Act, Happens, Plans, Adopts, acted, acted_all, AreAdoptable, MayActAll, IsReached}

pub record Leads (w v : WorldState) : Type 0 where
  pub acts : List Act
  pub may : MayActAll w acts
  pub there : v ≡ acted_all w acts

acted-append : (w : WorldState) (xs ys : List Act) → acted_all w (xs ++ ys) ≡ acted_all (acted_all w xs) ys
acted-append w [] ys = refl
acted-append w (x ∷ xs) ys = acted-append (acted w x) xs ys

may-append : (w : WorldState) (xs ys : List Act) → MayActAll w xs → MayActAll (acted_all w xs) ys → MayActAll w (xs ++ ys)
may-append w [] ys a b = b
may-append w (x ∷ xs) ys a b = (a.0, may-append (acted w x) xs ys a.1 b)

pub leads-same : (w : WorldState) → Leads w w
leads-same w = record { acts = []; may = tt; there = refl }

pub leads-both : (u v w : WorldState) → Leads u v → Leads v w → Leads u w
leads-both u v w a b = record {
  acts = a.acts ++ b.acts;
  may = may-append u a.acts b.acts a.may (subst (λ x. MayActAll x b.acts) a.there b.may);
  there = b.there ∙ ap (λ x. acted_all x b.acts) a.there ∙ sym (acted-append u a.acts b.acts);
}

pub leads-event : (w : WorldState) (e : Event) → IsByteEvent e → Leads w (step w e).1
leads-event w e q = record { acts = Happens e ∷ []; may = (q, tt); there = refl }

pub leads-plan : (w : WorldState) (ahead : ℕ) (fault : Fault) → 1 ≤ ahead → IsByteFault fault → Leads w (planned w ahead fault).1
leads-plan w ahead fault some low = record { acts = Plans ahead fault ∷ []; may = ((some, low), tt); there = refl }

pub leads-adoption : (w : WorldState) (mapper : ℕ) (routes : List Route) → AreAdoptable (fabric_of w) routes → may_adopt w routes ≡ true → Leads w (adopted_by w mapper routes)
leads-adoption w mapper routes may same = record { acts = Adopts mapper routes ∷ []; may = ((may, same), tt); there = refl }

pub along-leads : Along Leads IsByteEvent
along-leads = record { same = leads-same; both = leads-both; event = leads-event }

-- a reached world
pub reached-further : (n : Network) (w v : WorldState) → IsReached n w → Leads w v → IsReached n v
reached-further n w v r l =
    let start : Leads (new_world n) w = record { acts = r.acts; may = r.may; there = r.leads } in
    let on = leads-both (new_world n) w v start l in
    record { fabric = r.fabric; acts = on.acts; may = on.may; leads = on.there }
