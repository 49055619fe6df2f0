-- No fault is found exactly where all routes lead to their hosts and the ranks are a certificate.
use Rattle.std.proofs.Common.{◌≡◌, ℕ, zero, suc, List, [], ◌∷◌, Bool, true, false, Option, Some, None, is_some, refl, ap, sym, ◌∙◌, subst, if◌then◌else◌}
use Rattle.std.specs.Prelude.{slice_get}
use Rattle.std.specs.List.{AllByRecursion}
use Rattle.std.proofs.lemmas.Bool.{false≢true}
use Rattle.net_defs.specs.declared.route.Route.{Route}
use Rattle.net_defs.specs.Building.{first_of_two}
use Rattle.map_defs.specs.declared.rank.RankEntry.{RankEntry}
use Rattle.map_defs.specs.NetMap.{NetMap, MapPort, IsMap}
use Rattle.map_defs.specs.Routing.{LeadsTo, IsLeastLegal, led_to, channels_on, port_of_host}
use Rattle.net_defs.specs.Dependencies.{IsBefore}
use Rattle.map_defs.specs.Ranks.{Rises, IsCertificate, rank_of, channels_of_routes}
use Rattle.map_defs.proofs.Ports.{same_port-true, same_port-refl}
use Rattle.map_defs.proofs.Certifying.{ranks_certify}
use Rattle.rank_cert.specs.declared.fault.CheckFault.TheVariants.{BadRoute}
use Rattle.rank_cert.specs.Checking.{are_one, leads, fault_along, route_fault, first_fault, AreOfOneOrder}
use Rattle.rank_cert.proofs.Along.{all-ranked, next-rises, no-fault}

-- the test of where a route leads
pub leads-to : (m : NetMap) (r : Route) → leads m r ≡ true → LeadsTo m r.from r.to r.walk
leads-to m r e = by (led_to m (port_of_host m r.from) r.walk) (port_of_host m r.to) refl refl e
  where
    by : (o p : Option MapPort) → led_to m (port_of_host m r.from) r.walk ≡ o → port_of_host m r.to ≡ p → are_one o p ≡ true → LeadsTo m r.from r.to r.walk
    by None p f g t = absurd (false≢true t)
    by (Some d) None f g t = absurd (false≢true t)
    by (Some d) (Some x) f g t = record { at = x; is_at = g; led = f ∙ ap Some (same_port-true d x t) }

pub to-leads : (m : NetMap) (r : Route) → LeadsTo m r.from r.to r.walk → leads m r ≡ true
to-leads m r l = rw (l.led, l.is_at) (same_port-refl l.at)

-- the faults of one route
record Fine (m : NetMap) (ks : List RankEntry) (r : Route) : Type 0 where
  pub led : LeadsTo m r.from r.to r.walk
  pub along : fault_along ks None (channels_on m (port_of_host m r.from) r.walk) ≡ None

route-fine : (m : NetMap) (ks : List RankEntry) (r : Route) → route_fault m ks r ≡ None → Fine m ks r
route-fine m ks r e = by (leads m r) refl e
  where
    by : (b : Bool) → leads m r ≡ b → (if b then fault_along ks None (channels_on m (port_of_host m r.from) r.walk) else Some (BadRoute r.from r.to)) ≡ None → Fine m ks r
    by true l f = record { led = leads-to m r l; along = f }
    by false l f = cc

fine-route : (m : NetMap) (ks : List RankEntry) (r : Route) → Fine m ks r → route_fault m ks r ≡ None
fine-route m ks r f = rw (to-leads m r f.led) f.along

both-none : {X : Type 0} (o p : Option X) → first_of_two o p ≡ None → (o ≡ None) × (p ≡ None)
both-none None p e = (refl, e)
both-none (Some x) p e = cc

all-fine : (m : NetMap) (ks : List RankEntry) (rs : List Route) → first_fault m ks rs ≡ None → AllByRecursion (Fine m ks) rs
all-fine m ks [] e = tt
all-fine m ks (r ∷ rs) e =
    let two = both-none (route_fault m ks r) (first_fault m ks rs) e in
    (route-fine m ks r two.0, all-fine m ks rs two.1)

fine-all : (m : NetMap) (ks : List RankEntry) (rs : List Route) → AllByRecursion (Fine m ks) rs → first_fault m ks rs ≡ None
fine-all m ks [] all = refl
fine-all m ks (r ∷ rs) all = rw (fine-route m ks r all.0) (fine-all m ks rs all.1)

-- what fine routes have
led-all : (m : NetMap) (ks : List RankEntry) (rs : List Route) → AllByRecursion (Fine m ks) rs → AllByRecursion (λ r. LeadsTo m r.from r.to r.walk) rs
led-all m ks [] all = tt
led-all m ks (r ∷ rs) all = (all.0.led, led-all m ks rs all.1)

ranked-all : (m : NetMap) (ks : List RankEntry) (rs : List Route) → AllByRecursion (Fine m ks) rs → AllByRecursion (λ cs. AllByRecursion (λ c. is_some (rank_of ks c) ≡ true) cs) (channels_of_routes m rs)
ranked-all m ks [] all = tt
ranked-all m ks (r ∷ rs) all = (all-ranked ks None (channels_on m (port_of_host m r.from) r.walk) all.0.along, ranked-all m ks rs all.1)

fine-at : (m : NetMap) (ks : List RankEntry) (rs : List Route) (k : ℕ) (cs : List MapPort) → AllByRecursion (Fine m ks) rs → slice_get (channels_of_routes m rs) k ≡ Some cs → fault_along ks None cs ≡ None
fine-at m ks [] k cs all e = cc
fine-at m ks (r ∷ rs) zero cs all e = let one : channels_on m (port_of_host m r.from) r.walk ≡ cs = cc in subst (λ l. fault_along ks None l ≡ None) one all.0.along
fine-at m ks (r ∷ rs) (suc k) cs all e = fine-at m ks rs k cs all.1 e

pub certified : (m : NetMap) (ks : List RankEntry) (rs : List Route) → first_fault m ks rs ≡ None → AllByRecursion (λ r. LeadsTo m r.from r.to r.walk) rs × IsCertificate m rs ks
certified m ks rs e =
    let all = all-fine m ks rs e in (
      led-all m ks rs all,
      record { ranked = ranked-all m ks rs all; rising = λ c d b. next-rises ks c d b.route None (fine-at m ks rs b.place b.route all b.there) b.next },
    )

-- a certificate leaves each route fine
certificate-fine : (m : NetMap) (ks : List RankEntry) (rs : List Route) → AllByRecursion (λ r. LeadsTo m r.from r.to r.walk) rs → AllByRecursion (λ cs. AllByRecursion (λ c. is_some (rank_of ks c) ≡ true) cs) (channels_of_routes m rs) → ((c d : MapPort) → IsBefore (channels_of_routes m rs) c d → Rises ks c d) → AllByRecursion (Fine m ks) rs
certificate-fine m ks [] led all rise = tt
certificate-fine m ks (r ∷ rs) led all rise = (
  record { led = led.0; along = no-fault ks (channels_on m (port_of_host m r.from) r.walk) all.0 (λ c d n. rise c d (record { place = 0; route = channels_on m (port_of_host m r.from) r.walk; there = refl; next = n })) },
  certificate-fine m ks rs led.1 all.1 (λ c d b. rise c d (record { place = suc b.place; route = b.route; there = b.there; next = b.next })),
)

pub from-certificate : (m : NetMap) (ks : List RankEntry) (rs : List Route) → AllByRecursion (λ r. LeadsTo m r.from r.to r.walk) rs × IsCertificate m rs ks → first_fault m ks rs ≡ None
from-certificate m ks rs h = fine-all m ks rs (certificate-fine m ks rs h.0 h.1.ranked h.1.rising)

pub some-none : {X : Type 0} (o : Option X) (x : X) → o ≡ Some x → o ≡ None → ⊥
some-none o x e f = let g : Some x ≡ None = sym e ∙ f in cc

-- the routes and ranks of a map by one order leave no fault
least-leads : (m : NetMap) (order : List ℕ) (rs : List Route) → AllByRecursion (λ r. IsLeastLegal m order r.from r.to r.walk) rs → AllByRecursion (λ r. LeadsTo m r.from r.to r.walk) rs
least-leads m order [] all = tt
least-leads m order (r ∷ rs) all = (all.0.leads, least-leads m order rs all.1)

pub one_order-certified : (m : NetMap) (ks : List RankEntry) (rs : List Route) → IsMap m → AreOfOneOrder m rs ks → AllByRecursion (λ r. LeadsTo m r.from r.to r.walk) rs × IsCertificate m rs ks
one_order-certified m ks rs is a = (
  least-leads m a.order rs a.routes_of.least,
  subst (IsCertificate m rs) (sym a.ranks_are) (ranks_certify m a.order rs is a.is_order a.routes_of.least),
)

pub one_order-faultless : (m : NetMap) (ks : List RankEntry) (rs : List Route) → IsMap m → AreOfOneOrder m rs ks → first_fault m ks rs ≡ None
one_order-faultless m ks rs is a = from-certificate m ks rs (one_order-certified m ks rs is a)
