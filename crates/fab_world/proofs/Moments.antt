-- Every event, and every plan of a fault with a pattern of eight bits, leads from one moment of a world to another.
use Rattle.std.proofs.Common.{◌≡◌, ◌<◌, ◌+◌, ℕ, Bool, true, false, List, [], ◌∷◌, length, Option, refl, sym, ◌∙◌, ap, subst, arith, if◌then◌else◌}
use Rattle.std.specs.Prelude.{Result, Ok, Err, OnOk, OnErr, IfOk, IfSome}
use Rattle.std.proofs.lemmas.List.{length-set}
use Rattle.net_defs.specs.declared.route.Route.{Route}
use Rattle.net_defs.specs.Network.{Network, IsFabric}
use Rattle.world_defs.specs.History.{IsHistory, first_history, fabric_now}
use Rattle.world_defs.proofs.Now.{now_is_fabric}
use Rattle.world_defs.proofs.First.{first_is_history, first_stands}
use Rattle.world_defs.proofs.CablesKept.{accept_keeps}
use Rattle.world_defs.specs.Links.{LinkState}
use Rattle.world_defs.specs.Fault.{accept}
use Rattle.net_defs.specs.RouteSet.{AreRising}
use Rattle.world_defs.specs.declared.event.Event.{Event}
use Rattle.world_defs.specs.declared.effect.Effect.{Effect}
use Rattle.world_defs.specs.declared.fault.Fault.{Fault}
use Rattle.world_defs.specs.Table.{Adoption, whole_table}
use Rattle.world_defs.specs.World.{WorldState, fabric_of, host_count, node_at, new_world, planned, keeps_epoch, adoption_of, adopted_by}
use Rattle.world_defs.specs.Step.{step, after_all}
use Rattle.world_laws.proofs.Shapes.{step-kept, new-world, new-senders, planned-world, planned-senders, adopted-world, adopted-senders}
use Rattle.world_defs.specs.Acts.{Happens}
use Rattle.world_defs.proofs.ActsKept.{CablesKept, kept-same, kept-both, acted-kept}
use Rattle.world_defs.proofs.Kept.{step-adopted, with-all, step-plan}
use Rattle.world_defs.specs.EightBits.{IsByteFault}
use Rattle.port_graph.specs.Routes.{AreShort}
use Rattle.port_graph.proofs.Possible.{few_cables}
use Rattle.adopted_routes.specs.Adopting.{IsAdoptable, IsSetOfHosts}
use Rattle.fab_world.specs.Held.{IsMoment, IsLater}
use Rattle.adopted_routes.proofs.Sets.{set-of-hosts}

-- no event changes what is adopted
after-adopted : (w : WorldState) (es : List Event) → (after_all w es).adopted ≡ w.adopted
after-adopted w [] = refl
after-adopted w (e ∷ es) = after-adopted (step w e).1 es ∙ step-adopted w e

pub later-adopted : (w v : WorldState) → IsLater w v → v.adopted ≡ w.adopted
later-adopted w v (es, is) = ap (λ u. u.adopted) is ∙ after-adopted w es

step-hosts : (w : WorldState) (e : Event) → IsMoment w → host_count (step w e).1 ≡ host_count w
step-hosts w e m = ((step-kept w e).world m.world).hosts ∙ ap length (acted-kept w (Happens e)).hosts ∙ sym m.world.hosts

-- adopted routes are still of the hosts where both stay as they were
pub set-stays : (hosts now : ℕ) (o p : Option Adoption) → now ≡ hosts → p ≡ o → IfSome o (IsSetOfHosts hosts) → IfSome p (IsSetOfHosts now)
set-stays hosts now o p e f is = subst (λ k. IfSome p (IsSetOfHosts k)) (sym e) (subst (λ q. IfSome q (IsSetOfHosts hosts)) (sym f) is)

pub step-moment : (w : WorldState) (e : Event) → IsMoment w → IsMoment (step w e).1
step-moment w e m = record {
  history = (acted-kept w (Happens e)).history m.history;
  fabric = now_is_fabric (step w e).1.links.cables ((acted-kept w (Happens e)).history m.history);
  world = (step-kept w e).world m.world;
  senders = (step-kept w e).senders m.senders;
  plan = step-plan w e m.plan;
  adopted = set-stays (host_count w) (host_count (step w e).1) w.adopted (step w e).1.adopted (step-hosts w e m) (step-adopted w e) m.adopted;
}

after-moment : (w : WorldState) (es : List Event) → IsMoment w → IsMoment (after_all w es)
after-moment w [] m = m
after-moment w (e ∷ es) m = after-moment (step w e).1 es (step-moment w e m)

pub later-moment : (w v : WorldState) → IsMoment w → IsLater w v → IsMoment v
later-moment w v m (es, is) = subst IsMoment (sym is) (after-moment w es m)

after-cables : (w : WorldState) (es : List Event) → CablesKept w (after_all w es)
after-cables w [] = kept-same w
after-cables w (e ∷ es) = kept-both w (step w e).1 (after_all (step w e).1 es) (acted-kept w (Happens e)) (after-cables (step w e).1 es)

-- cables go on
pub later-cables : (w v : WorldState) → IsLater w v → CablesKept w v
later-cables w v (es, is) = subst (CablesKept w) (sym is) (after-cables w es)

pub later-hosts : (w v : WorldState) → IsMoment w → IsLater w v → host_count v ≡ host_count w
later-hosts w v m l = (later-moment w v m l).world.hosts ∙ ap length (later-cables w v l).hosts ∙ sym m.world.hosts

-- the world after a step, or after one that ran out of memory
pub step-later : {E : Type 0} (w v : WorldState) (e : Event) (r : Result Effect E) → IfOk r (λ x. step w e ≡ (x, v)) → OnErr r (v ≡ w) → IsLater w v
step-later w v e (Ok x) is err = (e ∷ [], sym (ap (λ p. p.1) is))
step-later w v e (Err y) is err = ([], err)

new-history : (n : Network) → IsFabric n → IsHistory (first_history n)
new-history n f = let few = few_cables n f in first_is_history n f (omega (arith, few))

pub new-moment : (n : Network) → IsFabric n → IsMoment (new_world n)
new-moment n f = record { history = new-history n f; fabric = subst IsFabric (sym (first_stands n 0).0) f; world = new-world n; senders = new-senders n; plan = tt; adopted = tt }

pub planned-moment : (w : WorldState) (ahead : ℕ) (fault : Fault) → IsByteFault fault → IsMoment w → IsMoment (planned w ahead fault).1
planned-moment w ahead fault low m = record { history = m.history; fabric = m.fabric; world = planned-world w ahead fault m.world; senders = planned-senders w ahead fault m.senders; plan = with-all (w.injected + ahead) fault w.plan low m.plan; adopted = m.adopted }

-- the world after a plan, or after one that ran out of memory
pub plan-later : {E : Type 0} (w v : WorldState) (ahead : ℕ) (fault : Fault) (r : Result ℕ E) → IsByteFault fault → IsMoment w → IfOk r (λ number. planned w ahead fault ≡ (number, v)) → OnErr r (v ≡ w) → IsMoment v × (fabric_of v ≡ fabric_of w)
plan-later w v ahead fault (Ok number) low m is err =
    let same : (planned w ahead fault).1 ≡ v = ap (λ p. p.1) is in
    (subst IsMoment same (planned-moment w ahead fault low m), sym (ap fabric_of same))
plan-later w v ahead fault (Err e) low m is err = (subst IsMoment (sym err) m, ap fabric_of err)

adopted-hosts : (w : WorldState) (mapper : ℕ) (routes : List Route) → host_count (adopted_by w mapper routes) ≡ host_count w
adopted-hosts w mapper routes = length-set w.nodes mapper (record (node_at w mapper) { table = whole_table routes mapper (adoption_of w mapper routes).epoch })

accepted-history : (s : LinkState) (b : Bool) → IsHistory s.cables → IsHistory (if b then s else accept s).cables
accepted-history s true is = is
accepted-history s false is = accept_keeps s.cables is

accepted-fabric : (s : LinkState) (b : Bool) → fabric_now (if b then s else accept s).cables ≡ fabric_now s.cables
accepted-fabric s true = refl
accepted-fabric s false = refl

accepted-channels : (s : LinkState) (b : Bool) → length (if b then s else accept s).channels ≡ length s.channels
accepted-channels s true = refl
accepted-channels s false = refl

adopted-moment : (w : WorldState) (mapper : ℕ) (routes : List Route) → IsMoment w → mapper < host_count w → AreRising routes → AreShort routes → IsAdoptable (fabric_of w) mapper routes → IsMoment (adopted_by w mapper routes)
adopted-moment w mapper routes m low up short may =
    let a : Adoption = adoption_of w mapper routes in
    record {
      history = accepted-history w.links (keeps_epoch w routes) m.history;
      fabric = subst IsFabric (sym (accepted-fabric w.links (keeps_epoch w routes))) m.fabric;
      world = adopted-world w mapper routes m.world;
      senders = adopted-senders w mapper routes m.senders;
      plan = m.plan;
      adopted = subst (λ k. IsSetOfHosts k a) (sym (adopted-hosts w mapper routes)) (set-of-hosts (fabric_of w) (host_count w) mapper a.epoch a.at routes m.fabric m.world.hosts low up short may);
    }

-- What an adoption leaves, refused or not: a moment of the same fabric.
pub record IsAdopting (w v : WorldState) : Type 0 where
  pub moment : IsMoment v
  pub fabric : fabric_of v ≡ fabric_of w
  pub hosts : host_count v ≡ host_count w
  pub channels : length v.links.channels ≡ length w.links.channels

pub adopt-leaves : {A E : Type 0} (w v : WorldState) (mapper : ℕ) (routes : List Route) (r : Result A E) → IsMoment w → mapper < host_count w → AreRising routes → AreShort routes → IsAdoptable (fabric_of w) mapper routes
    → OnOk r (v ≡ adopted_by w mapper routes) → OnErr r (v ≡ w) → IsAdopting w v
adopt-leaves w v mapper routes (Ok a) m low up short may is err = record {
  moment = subst IsMoment (sym is) (adopted-moment w mapper routes m low up short may);
  fabric = ap fabric_of is ∙ accepted-fabric w.links (keeps_epoch w routes);
  hosts = ap host_count is ∙ adopted-hosts w mapper routes;
  channels = ap (λ u. length u.links.channels) is ∙ accepted-channels w.links (keeps_epoch w routes);
}
adopt-leaves w v mapper routes (Err e) m low up short may is err =
    record { moment = subst IsMoment (sym err) m; fabric = ap fabric_of err; hosts = ap host_count err; channels = ap (λ u. length u.links.channels) err }
