-- The ranks by an order rise along every route that is least among the legal ones.
use Rattle.std.proofs.Common.{◌≡◌, ◌≢◌, ◌<◌, ◌+◌, ◌-◌, ℕ, zero, suc, List, [], ◌∷◌, map, length, Bool, true, false, Option, Some, None, is_some, sym, ◌∙◌, subst, ap, true≢false, refl, arith, ◌⊎◌, inl, inr, nat_lt, if◌then◌else◌}
use Rattle.std.specs.Prelude.{ℤ, pos, slice_get, slice_index}
use Rattle.std.specs.List.{AllByRecursion}
use Rattle.std.proofs.lemmas.Bool.{false≢true}
use Rattle.std.proofs.lemmas.Bool.Decides.{nat_tests}
use Rattle.net_defs.specs.Network.{Apart}
use Rattle.journal_defs.proofs.Order.{below-shorter}
use Rattle.journal_defs.proofs.Members.{IsMember, all-from-members, all-member}
use Rattle.map_defs.specs.declared.vertex.MapCable.{MapCable}
use Rattle.net_defs.specs.declared.route.Route.{Route}
use Rattle.map_defs.specs.NetMap.{NetMap, MapPort, IsMap, IsCabled, map_far, map_ends, first_end, second_end, host_of_vertex}
use Rattle.map_defs.specs.NetMap.IsCabled.{forth, back}
use Rattle.map_defs.specs.Orientation.{is_up, falls, falls_to, IsOrder}
use Rattle.map_defs.specs.Routing.{LeadsTo, IsLeastLegal, is_legal, led_to, port_of_host, channels_on, no_up_after_down}
use Rattle.net_defs.specs.Dependencies.{IsNext}
use Rattle.map_defs.specs.Ranks.{Rises, rank_of, rank_by, ranks_of, channels_of_routes}
use Rattle.map_defs.specs.Laws.{RanksCertify}
use Rattle.map_defs.proofs.Ports.{far_is_cabled}
use Rattle.map_defs.proofs.Leading.{far-end}
use Rattle.map_defs.proofs.Channels.{next-passes, crossed-cabled, next-members, legal-next, sub-legal}
use Rattle.map_defs.proofs.Shortening.{Loops, Shorter, shorten}
use Rattle.map_defs.proofs.Ranking.{channel-rank, host-port-at, host-no_switch}

-- no port is cabled to itself
place-apart : (cs : List MapCable) (k : ℕ) (c : MapCable) → Apart (map_ends cs) → slice_get cs k ≡ Some c → first_end c ≢ second_end c
place-apart [] k c apart e = cc
place-apart (x ∷ cs) zero c apart e = let one : x ≡ c = cc in subst (λ y. first_end y ≢ second_end y) one apart.0.0
place-apart (x ∷ cs) (suc k) c apart e = place-apart cs k c apart.1.1 e

cabled-apart : (m : NetMap) (d e : MapPort) → IsMap m → IsCabled m d e → d ≢ e
cabled-apart m d e r (forth k {c = c} p) same = place-apart m.cables k c r.ports_once p same
cabled-apart m d e r (back k {c = c} p) same = place-apart m.cables k c r.ports_once p (sym same)

-- a host's cable comes from elsewhere
host-straight : (m : NetMap) (d : MapPort) (a : ℕ) → IsMap m → host_of_vertex m d.v ≡ Some a → ¬ Loops m d
host-straight m d a r host l =
    let other = (far_is_cabled m l.entered d r).1 (turn_back l.far) in
    let end = far-end m.cables l.entered d other in
    let own = far-end m.cables d l.entered l.far in
    let port : l.entered.p ≡ pos 0 = all-member (λ (x : MapPort). (h : ℕ) → host_of_vertex m x.v ≡ Some h → x.p ≡ pos 0) l.entered (map_ends m.cables) r.host_ports end a (ap (host_of_vertex m) l.vertex ∙ host) in
    let mine : d.p ≡ pos 0 = all-member (λ (x : MapPort). (h : ℕ) → host_of_vertex m x.v ≡ Some h → x.p ≡ pos 0) d (map_ends m.cables) r.host_ports own a host in
    let v = l.vertex in
    let p : l.entered.p ≡ d.p = port ∙ sym mine in
    cabled-apart m d l.entered r ((far_is_cabled m d l.entered r).0 l.far) (λ i. record { v = sym v i; p = sym p i })
  where
    turned : (x y : MapPort) → IsCabled m x y → IsCabled m y x
    turned x y (forth k p) = back k p
    turned x y (back k p) = forth k p

    turn_back : map_far m d ≡ Some l.entered → IsCabled m l.entered d
    turn_back f = turned d l.entered ((far_is_cabled m d l.entered r).0 f)

-- a least legal route crosses no loop
least-straight : (m : NetMap) (order : List ℕ) (a b : ℕ) (turns : List ℤ) (d c : MapPort) → IsMap m → IsLeastLegal m order a b turns → port_of_host m a ≡ Some d → IsMember c (channels_on m (Some d) turns) → ¬ Loops m c
least-straight m order a b turns d c r least start i l =
    let at = least.leads.at in
    let host = host-port-at m b at least.leads.is_at in
    let own = host-port-at m a d start in
    let led : led_to m (Some d) turns ≡ Some at = ap (λ o. led_to m o turns) (sym start) ∙ least.leads.led in
    by own.0 own.1 (shorten m d at turns c (host-no_switch m at.v host.0 host.1) led i l)
  where
    by : (h : ℕ) → host_of_vertex m d.v ≡ Some h → (d ≡ c) ⊎ Shorter m d turns least.leads.at → ⊥
    by h own (inl p) = host-straight m d h r own (subst (Loops m) (sym p) l)
    by h own (inr s) =
        let leads : LeadsTo m a b s.way = record { at = least.leads.at; is_at = least.leads.is_at; led = ap (λ o. led_to m o s.way) start ∙ s.led } in
        let legal : is_legal m order a s.way ≡ true = ap (λ o. no_up_after_down (map (is_up m order) (channels_on m o s.way))) start ∙ sub-legal (is_up m order) (channels_on m (Some d) s.way) (channels_on m (Some d) turns) s.sub (ap (λ o. no_up_after_down (map (is_up m order) (channels_on m o turns))) (sym start) ∙ least.legal) in
        true≢false (sym (below-shorter s.way turns s.short) ∙ least.least s.way leads legal)

-- places in an order
index-below : (n : ℕ) (xs : List ℕ) (v : ℕ) → AllByRecursion (λ k. k < n) xs → v < length xs → slice_index xs v < n
index-below n [] v all l = absurd (omega arith)
index-below n (x ∷ xs) zero all l = all.0
index-below n (x ∷ xs) (suc v) all l = index-below n xs v all.1 (omega arith)

index-holds : (P : ℕ → Type 0) (xs : List ℕ) (v : ℕ) → AllByRecursion P xs → v < length xs → P (slice_index xs v)
index-holds P [] v all l = absurd (omega arith)
index-holds P (x ∷ xs) zero all l = all.0
index-holds P (x ∷ xs) (suc v) all l = index-holds P xs v all.1 (omega arith)

index-apart : (xs : List ℕ) (v w : ℕ) → Apart xs → v < length xs → w < length xs → v ≢ w → slice_index xs v ≢ slice_index xs w
index-apart [] v w apart l k d = absurd (omega arith)
index-apart (x ∷ xs) zero zero apart l k d = absurd (d refl)
index-apart (x ∷ xs) zero (suc w) apart l k d = index-holds (λ y. x ≢ y) xs w apart.0 (omega arith)
index-apart (x ∷ xs) (suc v) zero apart l k d = λ e. index-holds (λ y. x ≢ y) xs v apart.0 (omega arith) (sym e)
index-apart (x ∷ xs) (suc v) (suc w) apart l k d = index-apart xs v w apart.1 (omega arith) (omega arith) (λ e. d (ap suc e))

-- the ranks of two neighbours, by their places
ranks-rise : (n x y : ℕ) (up next_up : Bool) → up ≡ nat_lt y x → x < n → y < n → x ≢ y → (next_up ≡ true → up ≡ true) → (if up then n - 1 - x else n + x) < (if next_up then n - 1 - y else n + y)
ranks-rise n x y true true e l k d u = let less : y < x = grind (arith, nat_tests) in omega arith
ranks-rise n x y true false e l k d u = omega arith
ranks-rise n x y false true e l k d u = absurd (false≢true (u refl))
ranks-rise n x y false false e l k d u = let less : x < y = grind (arith, nat_tests) in omega arith

-- what a route from a port says of two neighbouring channels
rises : (m : NetMap) (order : List ℕ) (d : MapPort) (turns : List ℤ) (b c : MapPort) → IsMap m → IsOrder order (length m.vertices) → no_up_after_down (map (is_up m order) (channels_on m (Some d) turns)) ≡ true → IsNext b c (channels_on m (Some d) turns) → ¬ Loops m b → Rises (ranks_of m order) b c
rises m order d turns b c r o legal n straight =
    let pass = next-passes m d turns b c n in
    let members = next-members b c (channels_on m (Some d) turns) n in
    let far_c = crossed-cabled m d turns c members.1 in
    let v_b : b.v < length m.vertices = all-member (λ (x : MapPort). x.v < length m.vertices) b (map_ends m.cables) r.cabled_vertices (far-end m.cables b pass.entered pass.far) in
    let v_c : c.v < length m.vertices = all-member (λ (x : MapPort). x.v < length m.vertices) c (map_ends m.cables) r.cabled_vertices (far-end m.cables c far_c.0 far_c.1) in
    let n_b : b.v < length order = (let e = o.one_each in omega arith) in
    let n_c : c.v < length order = (let e = o.one_each in omega arith) in
    let differ : b.v ≢ c.v = λ e. straight (record { entered = pass.entered; far = pass.far; vertex = sym pass.vertex ∙ sym e }) in
    let up : is_up m order b ≡ nat_lt (slice_index order c.v) (slice_index order b.v) = ap (falls_to order b.v) pass.far ∙ ap (falls order b.v) (sym pass.vertex) in
    record {
      low = rank_by m order b;
      high = rank_by m order c;
      is_low = channel-rank m order b pass.entered r pass.far;
      is_high = channel-rank m order c far_c.0 r far_c.1;
      rises = ranks-rise (length m.vertices) (slice_index order b.v) (slice_index order c.v) (is_up m order b) (is_up m order c) up (index-below (length m.vertices) order b.v o.below n_b) (index-below (length m.vertices) order c.v o.below n_c) (index-apart order b.v c.v o.once n_b n_c differ) (legal-next (is_up m order) b c (channels_on m (Some d) turns) legal n);
    }

-- a route that is least begins at a host's port
started : (m : NetMap) (order : List ℕ) (a b : ℕ) (turns : List ℤ) → IsLeastLegal m order a b turns → (d : MapPort) × (port_of_host m a ≡ Some d)
started m order a b turns least = by (port_of_host m a) refl least.leads.led
  where
    by : (o : Option MapPort) → port_of_host m a ≡ o → led_to m o turns ≡ Some least.leads.at → (d : MapPort) × (port_of_host m a ≡ Some d)
    by None e f = cc
    by (Some d) e f = (d, e)

route-rises : (m : NetMap) (order : List ℕ) (a b : ℕ) (turns : List ℤ) (c e : MapPort) → IsMap m → IsOrder order (length m.vertices) → IsLeastLegal m order a b turns → IsNext c e (channels_on m (port_of_host m a) turns) → Rises (ranks_of m order) c e
route-rises m order a b turns c e r o least n =
    let start = started m order a b turns least in
    let next : IsNext c e (channels_on m (Some start.0) turns) = subst (λ p. IsNext c e (channels_on m p turns)) start.1 n in
    let legal : no_up_after_down (map (is_up m order) (channels_on m (Some start.0) turns)) ≡ true = ap (λ p. no_up_after_down (map (is_up m order) (channels_on m p turns))) (sym start.1) ∙ least.legal in
    rises m order start.0 turns c e r o legal next (least-straight m order a b turns start.0 c r least start.1 (next-members c e (channels_on m (Some start.0) turns) next).0)

-- every channel that a route crosses has a rank
crossed-ranked : (m : NetMap) (order : List ℕ) (p : Option MapPort) (turns : List ℤ) (c : MapPort) → IsMap m → IsMember c (channels_on m p turns) → is_some (rank_of (ranks_of m order) c) ≡ true
crossed-ranked m order None turns c r i = absurd i
crossed-ranked m order (Some d) turns c r i = let f = crossed-cabled m d turns c i in ap is_some (channel-rank m order c f.0 r f.1)

all-ranked : (m : NetMap) (order : List ℕ) (routes : List Route) → IsMap m → AllByRecursion (λ cs. AllByRecursion (λ c. is_some (rank_of (ranks_of m order) c) ≡ true) cs) (channels_of_routes m routes)
all-ranked m order [] r = tt
all-ranked m order (x ∷ xs) r = (all-from-members (λ c. is_some (rank_of (ranks_of m order) c) ≡ true) (channels_on m (port_of_host m x.from) x.walk) (λ c i. crossed-ranked m order (port_of_host m x.from) x.walk c r i), all-ranked m order xs r)

all-rise : (m : NetMap) (order : List ℕ) (routes : List Route) (k : ℕ) (l : List MapPort) (c d : MapPort) → IsMap m → IsOrder order (length m.vertices) → AllByRecursion (λ x. IsLeastLegal m order x.from x.to x.walk) routes → slice_get (channels_of_routes m routes) k ≡ Some l → IsNext c d l → Rises (ranks_of m order) c d
all-rise m order [] k l c d r o all e n = cc
all-rise m order (x ∷ xs) zero l c d r o all e n =
    let one : channels_on m (port_of_host m x.from) x.walk ≡ l = cc in
    route-rises m order x.from x.to x.walk c d r o all.0 (subst (IsNext c d) (sym one) n)
all-rise m order (x ∷ xs) (suc k) l c d r o all e n = all-rise m order xs k l c d r o all.1 e n

pub ranks_certify : RanksCertify
ranks_certify m order routes r o all = record {
  ranked = all-ranked m order routes r;
  rising = λ c d b. all-rise m order routes b.place b.route c d r o all b.there b.next;
}
