-- Numbers that rise along the routes of the adopted set rise along the installed routes, so these have no cycle.
use Rattle.std.proofs.Common.{◌≡◌, ◌<◌, ℕ, zero, suc, ℤ, List, [], ◌∷◌, ◌++◌, map, Option, Some, None, IfSome, refl, sym, ap, subst, arith}
use Rattle.std.specs.List.{AllByRecursion, slice_get}
use Rattle.std.proofs.lemmas.Bool.Decides.{nat_tests}
use Rattle.std.proofs.lemmas.Option.{same_Some}
use Rattle.net_defs.specs.declared.route.Route.{Route}
use Rattle.net_defs.specs.Network.{Network}
use Rattle.net_defs.specs.Route.{host_port}
use Rattle.world_defs.specs.History.{CableHistory, fabric_at, stood_at}
use Rattle.world_defs.specs.Crossed.{channels_at}
use Rattle.world_defs.proofs.CablesStanding.{compact, channels-compact}
use Rattle.packet_defs.specs.declared.kind.Kind.{Kind}
use Rattle.world_defs.specs.Mapping.{RouteEntry}
use Rattle.net_defs.specs.Dependencies.{IsNext, IsBefore, HasNoCycle}
use Rattle.net_defs.proofs.Cycles.{no_cycle-rising}
use Rattle.world_defs.specs.Table.{Adoption, ActiveTable, at_in, entries_from}
use Rattle.world_defs.specs.World.{WorldState, node_at, addresses}
use Rattle.world_defs.specs.Traffic.{route_channels}
use Rattle.world_defs.specs.Sound.{entries_in, channels_from, channels_from_all, installed_channels}
use Rattle.net_defs.specs.RouteSet.{channels_of_all}
use Rattle.table_laws.specs.Set.{IsActive, IsActiveOfSet}
use Rattle.world_defs.specs.Acts.{IsReached}
use Rattle.table_laws.specs.Acts.{CablesAreHistory, TablesAreOfSet, ActiveIsOfSet, AdoptedIsAdoptable, LinksAreOfEpoch, PartsAreOfSet, InstalledHasNoCycle}
use Rattle.world_defs.proofs.Reaching.{reached-has}
use Rattle.world_defs.proofs.Cables.{reached-cables}
use Rattle.table_laws.proofs.Medium.{honest-read}
use Rattle.table_laws.proofs.Sets.{entries-all}
use Rattle.table_laws.specs.Bodies.{IsBody}
use Rattle.table_laws.specs.Packets.{IsHonest}
use Rattle.table_laws.proofs.Steps.{IsOfSet, IsAdopted, hosts-active, acted-of, new-of}

pub reached-of : (n : Network) (w : WorldState) → IsReached n w → IsOfSet n w
reached-of n w is = reached-has (IsOfSet n) n (new-of n) (λ w a r may. acted-of n w a (reached-cables n w r) may) w is

pub cables-are_history : CablesAreHistory
cables-are_history n w r = let is = reached-cables n w r in record { history = is.history; first = is.first; accepted = is.accepted; began = is.began }

pub tables-of_set : TablesAreOfSet
tables-of_set n w r h low = let is = reached-of n w r in (is.hosts h (subst (λ k. h < k) is.count low)).table

pub active-of_set : ActiveIsOfSet
active-of_set n w h t r e = subst (λ o. IfSome o (IsActive w.adopted h)) e (hosts-active n w (reached-of n w r) h)

pub links-of_epoch : LinksAreOfEpoch
links-of_epoch n w r = (reached-of n w r).epoch

pub adopted-adoptable : AdoptedIsAdoptable
adopted-adoptable n w a r e =
    let is : IsAdopted w.links.cables a = subst (λ o. IfSome o (IsAdopted w.links.cables)) e (reached-of n w r).adopted in
    ((is.some, is.limit), is.adoptable)

pub parts-of_set : PartsAreOfSet
parts-of_set n w c held payload p r e d m =
    let is : IsHonest (IsBody w.adopted) held = subst (λ o. IfSome o (IsHonest (IsBody w.adopted))) e ((reached-of n w r).links.in_channels c) in
    (honest-read (IsBody w.adopted) held Kind.Mapping payload is d).part p refl m

-- numbers rise along channels
abbrev Rises : (ℕ → ℕ) → List ℕ → Type 0
Rises number cs = (c d : ℕ) → IsNext c d cs → number c < number d

pub rise-all : (number : ℕ → ℕ) (css : List (List ℕ)) → ((c d : ℕ) → IsBefore css c d → number c < number d) → AllByRecursion (Rises number) css
rise-all number [] f = tt
rise-all number (cs ∷ css) f = (
  (λ c d x. f c d (record { place = 0; route = cs; there = refl; next = x })),
  rise-all number css (λ c d x. f c d (record { place = suc x.place; route = x.route; there = x.there; next = x.next })),
)

pub rise-at : (number : ℕ → ℕ) (css : List (List ℕ)) (k : ℕ) (cs : List ℕ) → AllByRecursion (Rises number) css → slice_get css k ≡ Some cs → Rises number cs
rise-at number [] k cs all e = cc
rise-at number (x ∷ css) zero cs all e = subst (Rises number) (same_Some x cs e) all.0
rise-at number (x ∷ css) (suc k) cs all e = rise-at number css k cs all.1 e

-- so they rise along channels by their numbers for life, where they rise along those of the fabric as it stood
next-map : (f : ℕ → ℕ) {c d : ℕ} {cs : List ℕ} → IsNext c d cs → IsNext (f c) (f d) (map f cs)
next-map f IsNext.here = IsNext.here
next-map f (IsNext.later n) = IsNext.later (next-map f n)

rises-mapped : (number f : ℕ → ℕ) (cs : List ℕ) → Rises number (map f cs) → Rises (λ c. number (f c)) cs
rises-mapped number f cs rises c d n = rises (f c) (f d) (next-map f n)

-- channels that walks cross
module _ (cross : ℕ → List ℤ → List ℕ) (number : ℕ → ℕ) where
  mapped-rise : (h : ℕ) (es : List RouteEntry) → AllByRecursion (λ e. Rises number (cross h e.walk)) es → AllByRecursion (Rises number) (map (λ e. cross h e.walk) es)
  mapped-rise h [] all = tt
  mapped-rise h (e ∷ es) all = (all.0, mapped-rise h es all.1)

  entries-rise : (h : ℕ) (routes : List Route) → AllByRecursion (λ r. Rises number (cross r.from r.walk)) routes → AllByRecursion (Rises number) (map (λ e. cross h e.walk) (entries_from routes h))
  entries-rise h routes all =
      mapped-rise h (entries_from routes h)
      (entries-all (λ r. Rises number (cross r.from r.walk)) (λ e. Rises number (cross h e.walk)) h routes
      (λ r t rises. let from : r.from ≡ h = grind (arith, nat_tests) in subst (λ k. Rises number (cross k r.walk)) from rises)
      all)

  active-rise : (h : ℕ) (a : Adoption) (t : Option ActiveTable) → AllByRecursion (λ r. Rises number (cross r.from r.walk)) a.routes → IfSome t (IsActiveOfSet a.epoch a.routes h) → AllByRecursion (Rises number) (map (λ e. cross h e.walk) (entries_in t))
  active-rise h a None all is = tt
  active-rise h a (Some t) all is = subst (λ es. AllByRecursion (Rises number) (map (λ e. cross h e.walk) es)) (sym is.entries) (entries-rise h a.routes all)

  none-rise : (h : ℕ) (t : Option ActiveTable) → IfSome t (IsActive None h) → AllByRecursion (Rises number) (map (λ e. cross h e.walk) (entries_in t))
  none-rise h None is = tt
  none-rise h (Some t) is = absurd is

-- the channels of the routes of a set, each by its number for life
pub routes-rise : (h : CableHistory) (k : ℕ) (number : ℕ → ℕ) (routes : List Route) → AllByRecursion (Rises number) (channels_of_all (fabric_at h k) routes)
    → AllByRecursion (λ r. Rises (λ c. number (compact (stood_at k) h.wires c)) (channels_at h k r.from r.walk)) routes
routes-rise h k number [] all = tt
routes-rise h k number (r ∷ routes) all =
    let same = channels-compact h (stood_at k) (Some (host_port r.from)) r.walk in
    let here : Rises number (map (compact (stood_at k) h.wires) (channels_at h k r.from r.walk)) = subst (Rises number) same all.0 in
    (rises-mapped number (compact (stood_at k) h.wires) (channels_at h k r.from r.walk) here, routes-rise h k number routes all.1)

append-all : (P : List ℕ → Type 0) (xs ys : List (List ℕ)) → AllByRecursion P xs → AllByRecursion P ys → AllByRecursion P (xs ++ ys)
append-all P [] ys a b = b
append-all P (x ∷ xs) ys a b = (a.0, append-all P xs ys a.1 b)

hosts-rise : (w : WorldState) (number : ℕ → ℕ) (hs : List ℕ) → ((h : ℕ) → AllByRecursion (Rises number) (channels_from w h)) → AllByRecursion (Rises number) (channels_from_all w hs)
hosts-rise w number [] f = tt
hosts-rise w number (h ∷ hs) f = append-all (Rises number) (channels_from w h) (channels_from_all w hs) (f h) (hosts-rise w number hs f)

no_cycle-by : (w : WorldState) (number : ℕ → ℕ) → ((h : ℕ) → AllByRecursion (Rises number) (channels_from w h)) → HasNoCycle (IsBefore (installed_channels w))
no_cycle-by w number f =
    let all : AllByRecursion (Rises number) (installed_channels w) = hosts-rise w number (addresses w) f in
    no_cycle-rising (IsBefore (installed_channels w)) number (λ c d b. rise-at number (installed_channels w) b.place b.route all b.there c d b.next)

no_cycle-of : (n : Network) (w : WorldState) (o : Option Adoption) → w.adopted ≡ o → IsOfSet n w → HasNoCycle (IsBefore (installed_channels w))
no_cycle-of n w None e is =
    no_cycle-by w (λ c. c) (λ h. none-rise (route_channels w) (λ c. c) h (node_at w h).table.active (subst (λ o. IfSome (node_at w h).table.active (IsActive o h)) e (hosts-active n w is h)))
no_cycle-of n w (Some a) e is =
    let it : IsAdopted w.links.cables a = subst (λ o. IfSome o (IsAdopted w.links.cables)) e is.adopted in
    let number : ℕ → ℕ = λ c. it.adoptable.number (compact (stood_at a.at) w.links.cables.wires c) in
    let all : AllByRecursion (Rises it.adoptable.number) (channels_of_all (fabric_at w.links.cables a.at) a.routes) = rise-all it.adoptable.number (channels_of_all (fabric_at w.links.cables a.at) a.routes) it.adoptable.rises in
    let there : AllByRecursion (λ r. Rises number (channels_at w.links.cables a.at r.from r.walk)) a.routes = routes-rise w.links.cables a.at it.adoptable.number a.routes all in
    let here : AllByRecursion (λ r. Rises number (route_channels w r.from r.walk)) a.routes = subst (λ k. AllByRecursion (λ r. Rises number (channels_at w.links.cables k r.from r.walk)) a.routes) (sym (ap at_in e)) there in
    no_cycle-by w number (λ h. active-rise (route_channels w) number h a (node_at w h).table.active here (subst (λ o. IfSome (node_at w h).table.active (IsActive o h)) e (hosts-active n w is h)))

pub installed-no_cycle : InstalledHasNoCycle
installed-no_cycle n w r = no_cycle-of n w w.adopted refl (reached-of n w r)
