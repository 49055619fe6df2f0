-- A map in memory stays one when it grows.
use Rattle.std.proofs.Common.{◌≡◌, ◌≢◌, ◌<◌, ℕ, zero, suc, List, [], ◌∷◌, ◌++◌, Bool, true, false, not, ◌&&◌, ◌||◌, length, nat_lt, nat_eq, Option, Some, None, IfSome, OnOk, Result, Ok, Err, is_err, is_some, refl, ap, sym, ◌∙◌, subst, true≢false, arith, if◌then◌else◌, ◌⊎◌, inl, inr}
use Rattle.std.specs.Prelude.{pos, slice_get}
use Rattle.std.specs.Ordering.{int_eq}
use Rattle.std.specs.List.{AllByRecursion, list_any}
use Rattle.std.proofs.lemmas.Bool.{false≢true, and_parts, or_cases}
use Rattle.std.proofs.lemmas.Bool.Decides.{nat_tests, Decides-eqb, Decides-int_eq}
use Rattle.net_defs.specs.Network.{Apart}
use Rattle.net_defs.specs.Turn.{is_turn, IsTurn}
use Rattle.net_defs.proofs.Distinct.{all-weaker, all-push, apart-push}
use Rattle.journal_defs.specs.Counting.{numbers_below}
use Rattle.map_defs.specs.declared.vertex.MapVertex.{MapVertex}
use Rattle.map_defs.specs.declared.vertex.MapVertex.TheVariants.{Host, Switch}
use Rattle.map_defs.specs.declared.vertex.MapCable.{MapCable}
use Rattle.map_defs.specs.NetMap.{NetMap, MapPort, IsMap, first_end, second_end, same_port, map_far, map_ends, host_at, switch_at, host_of_vertex, is_switch_vertex, hosts_of, switches_of, IsNearPort, AreNearPorts}
use Rattle.map_defs.specs.Routing.{is_host_named}
use Rattle.map_defs.proofs.Ports.{same_port-refl}
use Rattle.fabric_map.specs.declared.fault.MapFault.TheVariants.{HostTaken, Full, NoVertex, PortRange, PortUsed}
use Rattle.fabric_map.specs.Growing.{IsFabricMap, with_host, with_switch, with_cable, has_host, host_refusal, switch_refusal, cable_refusal, is_full, is_near, are_near, may_have, is_used}
use Rattle.fabric_map.specs.Table.{far_pair}
use Rattle.fabric_map.proofs.Ends.{far-holds, far_port-unused, map_ends-push, near-port, near-all, near-push}
use Rattle.fabric_map.proofs.Listings.{switches_of-host, switches_of-switch}

-- what a refusal that isn't there says
not_full : (n : ℕ) → is_full n ≡ false → n < 4294967295
not_full n e = grind (arith, nat_tests)

pub record HasRoom (m : NetMap) (h : ℕ) : Type 0 where
  pub new : has_host m h ≡ false
  pub room : length m.vertices < 4294967295

pub host-free : (m : NetMap) (h : ℕ) → host_refusal m h ≡ None → HasRoom m h
host-free m h e = by (has_host m h) (is_full (length m.vertices)) refl refl e
  where
    by : (t f : Bool) → has_host m h ≡ t → is_full (length m.vertices) ≡ f → (if t then Some HostTaken else if f then Some Full else None) ≡ None → HasRoom m h
    by true f p q r = cc
    by false true p q r = cc
    by false false p q r = record { new = p; room = not_full (length m.vertices) q }

pub switch-free : (m : NetMap) → switch_refusal m ≡ None → length m.vertices < 4294967295
switch-free m e = by (is_full (length m.vertices)) refl e
  where
    by : (f : Bool) → is_full (length m.vertices) ≡ f → (if f then Some Full else None) ≡ None → length m.vertices < 4294967295
    by true q r = cc
    by false q r = not_full (length m.vertices) q

-- a vertex more leaves the others
vertex-old : (vs : List MapVertex) (x : MapVertex) (v : ℕ) → v < length vs → slice_get (vs ++ x ∷ []) v ≡ slice_get vs v
vertex-old [] x v l = absurd (omega arith)
vertex-old (y ∷ ys) x zero l = refl
vertex-old (y ∷ ys) x (suc v) l = vertex-old ys x v (omega arith)

core-old : (bs : List Bool) (b : Bool) (v : ℕ) → slice_get bs v ≡ Some true → slice_get (bs ++ b ∷ []) v ≡ Some true
core-old [] b v e = cc
core-old (y ∷ ys) b zero e = e
core-old (y ∷ ys) b (suc v) e = core-old ys b v e

core-new : (bs : List Bool) (b : Bool) (v : ℕ) → v ≡ length bs → slice_get (bs ++ b ∷ []) v ≡ Some b
core-new [] b v e = subst (λ n. slice_get (b ∷ []) n ≡ Some b) (sym e) refl
core-new (y ∷ ys) b zero e = absurd (omega arith)
core-new (y ∷ ys) b (suc v) e = core-new ys b v (omega arith)

-- where the vertex is one of a longer list, it is an old one, the new one or none
host-where : (vs : List MapVertex) (x : MapVertex) (v h : ℕ) → host_at (slice_get (vs ++ x ∷ []) v) ≡ Some h → (host_at (slice_get vs v) ≡ Some h) ⊎ ((v ≡ length vs) × (host_at (Some x) ≡ Some h))
host-where [] x zero h e = inr (refl, e)
host-where [] x (suc v) h e = cc
host-where (y ∷ ys) x zero h e = inl e
host-where (y ∷ ys) x (suc v) h e = by (host-where ys x v h e)
  where
    by : (host_at (slice_get ys v) ≡ Some h) ⊎ ((v ≡ length ys) × (host_at (Some x) ≡ Some h)) → (host_at (slice_get ys v) ≡ Some h) ⊎ ((suc v ≡ suc (length ys)) × (host_at (Some x) ≡ Some h))
    by (inl p) = inl p
    by (inr p) = inr (ap suc p.0, p.1)

marked : (vs : List MapVertex) (core : List Bool) (x : MapVertex) (mark : Bool) → length core ≡ length vs → ((v h : ℕ) → host_at (slice_get vs v) ≡ Some h → slice_get core v ≡ Some true) → ((h : ℕ) → host_at (Some x) ≡ Some h → mark ≡ true)
    → (v h : ℕ) → host_at (slice_get (vs ++ x ∷ []) v) ≡ Some h → slice_get (core ++ mark ∷ []) v ≡ Some true
marked vs core x mark long old new v h e = by (host-where vs x v h e)
  where
    by : (host_at (slice_get vs v) ≡ Some h) ⊎ ((v ≡ length vs) × (host_at (Some x) ≡ Some h)) → slice_get (core ++ mark ∷ []) v ≡ Some true
    by (inl p) = core-old core mark v (old v h p)
    by (inr p) = core-new core mark v (p.0 ∙ sym long) ∙ ap Some (new h p.1)

length-more : {X : Type 0} (xs : List X) (x : X) → length (xs ++ x ∷ []) ≡ suc (length xs)
length-more [] x = refl
length-more (y ∷ ys) x = ap suc (length-more ys x)

below-more : (vs : List MapVertex) (x : MapVertex) (d : MapPort) → d.v < length vs → d.v < length (vs ++ x ∷ [])
below-more vs x d l = let e = length-more vs x in omega arith

-- a host's port is 0, also with a vertex more
ports-kept : (vs : List MapVertex) (x : MapVertex) (ds : List MapPort) → AllByRecursion (λ d. d.v < length vs) ds → AllByRecursion (λ d. (h : ℕ) → host_at (slice_get vs d.v) ≡ Some h → d.p ≡ pos 0) ds → AllByRecursion (λ d. (h : ℕ) → host_at (slice_get (vs ++ x ∷ []) d.v) ≡ Some h → d.p ≡ pos 0) ds
ports-kept vs x [] low all = tt
ports-kept vs x (d ∷ ds) low all = ((λ h e. all.0 h (ap host_at (sym (vertex-old vs x d.v low.0)) ∙ e)), ports-kept vs x ds low.1 all.1)

-- the addresses with a host more
hosts_of-host : (vs : List MapVertex) (h : ℕ) → hosts_of (vs ++ Host h ∷ []) ≡ hosts_of vs ++ h ∷ []
hosts_of-host [] h = refl
hosts_of-host (Host g ∷ vs) h = ap (λ l. g ∷ l) (hosts_of-host vs h)
hosts_of-host (Switch s ∷ vs) h = hosts_of-host vs h

hosts_of-switch : (vs : List MapVertex) (s : ℕ) → hosts_of (vs ++ Switch s ∷ []) ≡ hosts_of vs
hosts_of-switch [] h = refl
hosts_of-switch (Host g ∷ vs) h = ap (λ l. g ∷ l) (hosts_of-switch vs h)
hosts_of-switch (Switch s ∷ vs) h = hosts_of-switch vs h

new_host : (vs : List MapVertex) (h : ℕ) → list_any (is_host_named h) vs ≡ false → AllByRecursion (λ g. h ≢ g) (hosts_of vs)
new_host [] h e = tt
new_host (Host g ∷ vs) h e = by (nat_eq g h) refl e (new_host vs h)
  where
    by : (b : Bool) → nat_eq g h ≡ b → (b || list_any (is_host_named h) vs) ≡ false → (list_any (is_host_named h) vs ≡ false → AllByRecursion (λ k. h ≢ k) (hosts_of vs)) → AllByRecursion (λ k. h ≢ k) (g ∷ hosts_of vs)
    by true p f rest = absurd (true≢false f)
    by false p f rest = ((λ same. true≢false (sym ((Decides-eqb g h).1 (sym same)) ∙ p)), rest f)
new_host (Switch s ∷ vs) h e = new_host vs h e

-- a map with a host more
pub map-host : (m : NetMap) (h : ℕ) → IsFabricMap m → host_refusal m h ≡ None → IsFabricMap (with_host m h)
map-host m h f e =
    let free = host-free m h e in
    let room = free.room in
    let long = length-more m.vertices (Host h) in
    let r = f.is_map in
    record {
      is_map = record {
        hosts_once = subst Apart (sym (hosts_of-host m.vertices h)) (apart-push (hosts_of m.vertices) h r.hosts_once (new_host m.vertices h free.new));
        switches_numbered = subst (λ l. l ≡ numbers_below (length l)) (sym (switches_of-host m.vertices h)) r.switches_numbered;
        one_mark_each = length-more m.core true ∙ ap suc r.one_mark_each ∙ sym long;
        hosts_marked = marked m.vertices m.core (Host h) true r.one_mark_each r.hosts_marked (λ g p. refl);
        cabled_vertices = all-weaker (λ d. d.v < length m.vertices) (λ d. d.v < length (m.vertices ++ Host h ∷ [])) (map_ends m.cables) (below-more m.vertices (Host h)) r.cabled_vertices;
        ports_once = r.ports_once;
        host_ports = ports-kept m.vertices (Host h) (map_ends m.cables) r.cabled_vertices r.host_ports;
        ports_in_range = r.ports_in_range;
        ports_near = r.ports_near;
      };
      few_vertices = (let l : length (m.vertices ++ Host h ∷ []) < 4294967296 = omega arith in l);
      few_cables = f.few_cables;
    }

-- a map with a switch more
pub map-switch : (m : NetMap) (mark : Bool) → IsFabricMap m → switch_refusal m ≡ None → IsFabricMap (with_switch m mark)
map-switch m mark f e =
    let room = switch-free m e in
    let x : MapVertex = Switch (length (switches_of m.vertices)) in
    let long = length-more m.vertices x in
    let r = f.is_map in
    record {
      is_map = record {
        hosts_once = subst Apart (sym (hosts_of-switch m.vertices (length (switches_of m.vertices)))) r.hosts_once;
        switches_numbered = numbered (switches_of m.vertices) (switches_of (m.vertices ++ x ∷ [])) (switches_of-switch m.vertices (length (switches_of m.vertices))) r.switches_numbered;
        one_mark_each = length-more m.core mark ∙ ap suc r.one_mark_each ∙ sym long;
        hosts_marked = marked m.vertices m.core x mark r.one_mark_each r.hosts_marked (λ g p. cc);
        cabled_vertices = all-weaker (λ d. d.v < length m.vertices) (λ d. d.v < length (m.vertices ++ x ∷ [])) (map_ends m.cables) (below-more m.vertices x) r.cabled_vertices;
        ports_once = r.ports_once;
        host_ports = ports-kept m.vertices x (map_ends m.cables) r.cabled_vertices r.host_ports;
        ports_in_range = r.ports_in_range;
        ports_near = r.ports_near;
      };
      few_vertices = (let l : length (m.vertices ++ x ∷ []) < 4294967296 = omega arith in l);
      few_cables = f.few_cables;
    }
  where
    numbered : (old new : List ℕ) → new ≡ old ++ length old ∷ [] → old ≡ numbers_below (length old) → new ≡ numbers_below (length new)
    numbered old new p q =
        let long : length new ≡ suc (length old) = ap length p ∙ length-more old (length old) in
        p ∙ ap (λ l. l ++ length old ∷ []) q ∙ sym (ap numbers_below long)

-- what a cable finds that is not refused
pub record IsFree (m : NetMap) (c : MapCable) : Type 0 where
  pub vertex_a : c.v < length m.vertices
  pub vertex_b : c.w < length m.vertices
  pub port_a : may_have m (first_end c) ≡ true
  pub port_b : may_have m (second_end c) ≡ true
  pub near : is_near (first_end c) (second_end c) ≡ true
  pub far_a : map_far m (first_end c) ≡ None
  pub far_b : map_far m (second_end c) ≡ None
  pub two : first_end c ≢ second_end c
  pub room : length m.cables < 4294967295

no_some : {X : Type 0} (o : Option X) → is_some o ≡ false → o ≡ None
no_some None e = refl
no_some (Some x) e = absurd (true≢false e)

unused-parts : (m : NetMap) (c : MapCable) → is_used m c ≡ false → (map_far m (first_end c) ≡ None) × (map_far m (second_end c) ≡ None) × (first_end c ≢ second_end c)
unused-parts m c e = by (is_some (map_far m (first_end c))) (is_some (map_far m (second_end c))) (same_port (first_end c) (second_end c)) refl refl refl e
  where
    by : (s t u : Bool) → is_some (map_far m (first_end c)) ≡ s → is_some (map_far m (second_end c)) ≡ t → same_port (first_end c) (second_end c) ≡ u → (s || t || u) ≡ false → (map_far m (first_end c) ≡ None) × (map_far m (second_end c) ≡ None) × (first_end c ≢ second_end c)
    by true t u p q r e = absurd (true≢false e)
    by false true u p q r e = absurd (true≢false e)
    by false false true p q r e = absurd (true≢false e)
    by false false false p q r e = (no_some _ p, no_some _ q, (λ same. true≢false (sym (same_port-refl (first_end c)) ∙ ap (same_port (first_end c)) same ∙ r)))

below : (k n : ℕ) → nat_lt k n ≡ true → k < n
below k n e = grind (arith, nat_tests)

pub cable-free : (m : NetMap) (c : MapCable) → cable_refusal m c ≡ None → IsFree m c
cable-free m c e = by (nat_lt c.v (length m.vertices)) (nat_lt c.w (length m.vertices)) (may_have m (first_end c)) (may_have m (second_end c)) (is_near (first_end c) (second_end c)) (is_used m c) (is_full (length m.cables)) refl refl refl refl refl refl refl e
  where
    by : (u v p q n w f : Bool) → nat_lt c.v (length m.vertices) ≡ u → nat_lt c.w (length m.vertices) ≡ v → may_have m (first_end c) ≡ p → may_have m (second_end c) ≡ q → is_near (first_end c) (second_end c) ≡ n → is_used m c ≡ w → is_full (length m.cables) ≡ f → (if not u then Some NoVertex else if not v then Some NoVertex else if not p then Some PortRange else if not q then Some PortRange else if not n then Some PortRange else if w then Some PortUsed else if f then Some Full else None) ≡ None → IsFree m c
    by false v p q n w f a b g h i j k e = cc
    by true false p q n w f a b g h i j k e = cc
    by true true false q n w f a b g h i j k e = cc
    by true true true false n w f a b g h i j k e = cc
    by true true true true false w f a b g h i j k e = cc
    by true true true true true true f a b g h i j k e = cc
    by true true true true true false true a b g h i j k e = cc
    by true true true true true false false a b g h i j k e =
        let parts = unused-parts m c j in
        record { vertex_a = below c.v (length m.vertices) a; vertex_b = below c.w (length m.vertices) b; port_a = g; port_b = h; near = i; far_a = parts.0; far_b = parts.1; two = parts.2; room = not_full (length m.cables) k }

-- the parts of a port that a vertex may have
pub may-turn : (m : NetMap) (d : MapPort) → may_have m d ≡ true → IsTurn d.p
may-turn m d e = (and_parts (is_turn d.p) ((is_switch_vertex m d.v || int_eq d.p (pos 0)) && are_near m.cables d) e).0

may-near : (m : NetMap) (d : MapPort) → may_have m d ≡ true → are_near m.cables d ≡ true
may-near m d e = (and_parts (is_switch_vertex m d.v || int_eq d.p (pos 0)) (are_near m.cables d) (and_parts (is_turn d.p) ((is_switch_vertex m d.v || int_eq d.p (pos 0)) && are_near m.cables d) e).1).1

may-host : (m : NetMap) (d : MapPort) → may_have m d ≡ true → (h : ℕ) → host_of_vertex m d.v ≡ Some h → d.p ≡ pos 0
may-host m d e h host = by (or_cases (is_switch_vertex m d.v) (int_eq d.p (pos 0)) (and_parts (is_switch_vertex m d.v || int_eq d.p (pos 0)) (are_near m.cables d) (and_parts (is_turn d.p) ((is_switch_vertex m d.v || int_eq d.p (pos 0)) && are_near m.cables d) e).1).0)
  where
    no_switch : (o : Option MapVertex) → host_at o ≡ Some h → switch_at o ≡ true → ⊥
    no_switch None p q = false≢true q
    no_switch (Some (Host g)) p q = false≢true q
    no_switch (Some (Switch s)) p q = cc

    by : (is_switch_vertex m d.v ≡ true) ⊎ (int_eq d.p (pos 0) ≡ true) → d.p ≡ pos 0
    by (inl p) = absurd (no_switch (slice_get m.vertices d.v) host p)
    by (inr p) = (Decides-int_eq d.p (pos 0)).0 p

-- a map with a cable more
pub map-cable : (m : NetMap) (c : MapCable) → IsFabricMap m → cable_refusal m c ≡ None → IsFabricMap (with_cable m c)
map-cable m c f e =
    let free = cable-free m c e in
    let room = free.room in
    let long = length-more m.cables c in
    let r = f.is_map in
    let a = first_end c in
    let b = second_end c in
    let ends = map_ends m.cables in
    let more = map_ends-push m.cables c in
    let both : (P : MapPort → Type 0) → AllByRecursion P ends → P a → P b → AllByRecursion P (map_ends (m.cables ++ c ∷ [])) = λ P all x y. subst (AllByRecursion P) (sym more) (all-push P (ends ++ a ∷ []) b (all-push P ends a all x) y) in
    let Low : MapPort → Type 0 = λ d. d.v < length m.vertices in
    let Own : MapPort → Type 0 = λ d. (h : ℕ) → host_of_vertex m d.v ≡ Some h → d.p ≡ pos 0 in
    let Turn : MapPort → Type 0 = λ d. IsTurn d.p in
    let once : Apart (ends ++ a ∷ []) = apart-push ends a r.ports_once (far_port-unused m.cables a free.far_a) in
    let new : AllByRecursion (λ d. b ≢ d) (ends ++ a ∷ []) = all-push (λ d. b ≢ d) ends a (far_port-unused m.cables b free.far_b) (λ same. free.two (sym same)) in
    let near_a : AreNearPorts (ends ++ a ∷ []) = near-push ends a r.ports_near (near-all ends a (may-near m a free.port_a)) in
    let near_b : AllByRecursion (λ d. IsNearPort d b) (ends ++ a ∷ []) = all-push (λ d. IsNearPort d b) ends a (near-all ends b (may-near m b free.port_b)) (near-port a b free.near) in
    record {
      is_map = record {
        hosts_once = r.hosts_once;
        switches_numbered = r.switches_numbered;
        one_mark_each = r.one_mark_each;
        hosts_marked = r.hosts_marked;
        cabled_vertices = both Low r.cabled_vertices free.vertex_a free.vertex_b;
        ports_once = subst Apart (sym more) (apart-push (ends ++ a ∷ []) b once new);
        host_ports = both Own r.host_ports (may-host m a free.port_a) (may-host m b free.port_b);
        ports_in_range = both Turn r.ports_in_range (may-turn m a free.port_a) (may-turn m b free.port_b);
        ports_near = subst AreNearPorts (sym more) (near-push (ends ++ a ∷ []) b near_a near_b);
      };
      few_vertices = f.few_vertices;
      few_cables = (let l : length (m.cables ++ c ∷ []) < 4294967296 = omega arith in l);
    }

-- a far end is a port of the map
pub far-there : (m : NetMap) (d : MapPort) → IsMap m → IfSome (far_pair (map_far m d)) (λ e. (e.0 < length m.vertices) × IsTurn e.1)
far-there m d r = by (map_far m d) refl
  where
    by : (o : Option MapPort) → map_far m d ≡ o → IfSome (far_pair o) (λ e. (e.0 < length m.vertices) × IsTurn e.1)
    by None f = tt
    by (Some e) f = (far-holds (λ x. x.v < length m.vertices) m.cables d e r.cabled_vertices f, far-holds (λ x. IsTurn x.p) m.cables d e r.ports_in_range f)

-- what a call that didn't fail has done
pub on_ok : {T E : Type 0} (r : Result T E) (P : Type 0) → false ≡ is_err r → OnOk r P → P
on_ok (Ok x) P e h = h
on_ok (Err x) P e h = absurd (true≢false (sym e))
