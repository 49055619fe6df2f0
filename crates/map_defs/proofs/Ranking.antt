-- The ranks by an order certify routes that are least among the legal ones.
use Rattle.std.proofs.Common.{◌≡◌, ◌<◌, ℕ, zero, suc, List, [], ◌∷◌, ◌++◌, map, length, Bool, true, false, cond, Option, Some, None, is_some, sym, ◌∙◌, subst, ap, refl, arith, ◌⊎◌, inl, inr, if◌then◌else◌, get_or}
use Rattle.std.specs.Prelude.{ℤ, pos, negsuc, slice_get, position, option_map}
use Rattle.std.specs.List.{filter}
use Rattle.std.proofs.lemmas.Bool.{false≢true, cases_order}
use Rattle.std.proofs.lemmas.Bool.Decides.{nat_tests}
use Rattle.std.proofs.lemmas.List.Quantifiers.{position-Some}
use Rattle.net_defs.specs.Turn.{is_turn, IsTurn}
use Rattle.journal_defs.specs.Counting.{numbers_below}
use Rattle.journal_defs.specs.Walks.{falling_turns}
use Rattle.journal_defs.proofs.Members.{IsMember, all-member, member-left, member-map, member-right, number-member}
use Rattle.map_defs.specs.declared.vertex.MapVertex.{MapVertex}
use Rattle.map_defs.specs.declared.vertex.MapVertex.TheVariants.{Host, Switch}
use Rattle.map_defs.specs.NetMap.{NetMap, MapPort, IsMap, map_far, map_ends, same_port, host_of_vertex, host_at, switch_at, is_switch_vertex}
use Rattle.map_defs.specs.Routing.{port_of_host, vertex_of_host, is_host_named}
use Rattle.map_defs.specs.Ranks.{rank_of, rank_by, ranks_of, ports_at, ports_at_all, channels_in}
use Rattle.map_defs.proofs.Ports.{same_port-true, same_port-refl}
use Rattle.map_defs.proofs.Leading.{far-end}

-- a port with a cable is one of the channels
falling-member : (n k : ℕ) → k < n → IsMember (negsuc k) (falling_turns n)
falling-member zero k l = absurd (omega arith)
falling-member (suc n) k l = by (cases_order k n) (falling-member n k)
  where
    by : (k ≡ n) ⊎ ((k < n) ⊎ (n < k)) → (k < n → IsMember (negsuc k) (falling_turns n)) → IsMember (negsuc k) (negsuc n ∷ falling_turns n)
    by (inl e) rest = inl (ap negsuc e)
    by (inr (inl a)) rest = inr (rest a)
    by (inr (inr a)) rest = absurd (omega arith)

turn-member : (p : ℤ) → IsTurn p → IsMember p (falling_turns 15 ++ map pos (numbers_below 16))
turn-member (pos k) t = member-right (pos k) (falling_turns 15) (map pos (numbers_below 16)) (member-map pos k (numbers_below 16) (number-member 16 k (small k t)))
  where
    small : (k : ℕ) → is_turn (pos k) ≡ true → k < 16
    small k e = grind (arith, nat_tests)
turn-member (negsuc k) t = member-left (negsuc k) (falling_turns 15) (map pos (numbers_below 16)) (falling-member 15 k (small k t))
  where
    small : (k : ℕ) → is_turn (negsuc k) ≡ true → k < 15
    small k e = grind (arith, nat_tests)

ports-member : (v : ℕ) (d : MapPort) (vs : List ℕ) → IsMember d.v vs → IsTurn d.p → IsMember d (ports_at_all vs)
ports-member v d [] m t = absurd m
ports-member v d (w ∷ vs) (inl e) t =
    let here : IsMember d (ports_at d.v) = member-map (λ p. record { v = d.v; p = p }) d.p (falling_turns 15 ++ map pos (numbers_below 16)) (turn-member d.p t) in
    member-left d (ports_at w) (ports_at_all vs) (subst (λ z. IsMember d (ports_at z)) e here)
ports-member v d (w ∷ vs) (inr m) t = member-right d (ports_at w) (ports_at_all vs) (ports-member v d vs m t)

member-filter : (test : MapPort → Bool) (d : MapPort) (ds : List MapPort) → test d ≡ true → IsMember d ds → IsMember d (filter test ds)
member-filter test d [] e m = m
member-filter test d (x ∷ xs) e (inl p) = rw (ap test (sym p) ∙ e) (inl p)
member-filter test d (x ∷ xs) e (inr m) = by (test x) (member-filter test d xs e m)
  where
    by : (b : Bool) → IsMember d (filter test xs) → IsMember d (cond b (x ∷ filter test xs) (filter test xs))
    by true k = inr k
    by false k = k

pub channel-member : (m : NetMap) (d e : MapPort) → IsMap m → map_far m d ≡ Some e → IsMember d (channels_in m)
channel-member m d e r f =
    let end = far-end m.cables d e f in
    let vertex : d.v < length m.vertices = all-member (λ (x : MapPort). x.v < length m.vertices) d (map_ends m.cables) r.cabled_vertices end in
    let turn : IsTurn d.p = all-member (λ (x : MapPort). IsTurn x.p) d (map_ends m.cables) r.ports_in_range end in
    member-filter (λ x. is_some (map_far m x)) d (ports_at_all (numbers_below (length m.vertices))) (ap is_some f) (ports-member d.v d (numbers_below (length m.vertices)) (number-member (length m.vertices) d.v vertex) turn)

-- a channel finds its own rank
rank-found : (rank : MapPort → ℕ) (d : MapPort) (ds : List MapPort) → IsMember d ds → rank_of (map (λ x. record { v = x.v; p = x.p; rank = rank x }) ds) d ≡ Some (rank d)
rank-found rank d [] m = absurd m
rank-found rank d (x ∷ xs) m = by (same_port (record { v = x.v; p = x.p }) d) refl m (rank-found rank d xs)
  where
    by : (b : Bool) → same_port (record { v = x.v; p = x.p }) d ≡ b → IsMember d (x ∷ xs) → (IsMember d xs → rank_of (map (λ x. record { v = x.v; p = x.p; rank = rank x }) xs) d ≡ Some (rank d)) → (if b then Some (rank x) else rank_of (map (λ x. record { v = x.v; p = x.p; rank = rank x }) xs) d) ≡ Some (rank d)
    by true e k rest = ap (λ z. Some (rank z)) (same_port-true x d e)
    by false e (inl p) rest = absurd (false≢true (sym e ∙ ap (λ z. same_port z d) (sym p) ∙ same_port-refl d))
    by false e (inr k) rest = rest k

pub channel-rank : (m : NetMap) (order : List ℕ) (d e : MapPort) → IsMap m → map_far m d ≡ Some e → rank_of (ranks_of m order) d ≡ Some (rank_by m order d)
channel-rank m order d e r f = rank-found (rank_by m order) d (channels_in m) (channel-member m d e r f)

-- the vertex of a host is a host
named-at : (h : ℕ) (vs : List MapVertex) (v : ℕ) → position (is_host_named h) vs ≡ Some v → (a : ℕ) × (host_at (slice_get vs v) ≡ Some a)
named-at h vs v e = named vs v (position-Some (is_host_named h) vs v (Switch 0) e).0 (position-Some (is_host_named h) vs v (Switch 0) e).1
  where
    host : (x : MapVertex) → is_host_named h x ≡ true → (a : ℕ) × (host_at (Some x) ≡ Some a)
    host (Host a) p = (a, refl)
    host (Switch s) p = absurd (false≢true p)

    named : (us : List MapVertex) (k : ℕ) → k < length us → is_host_named h (get_or us k (Switch 0)) ≡ true → (a : ℕ) × (host_at (slice_get us k) ≡ Some a)
    named [] k l p = absurd (omega arith)
    named (x ∷ us) zero l p = host x p
    named (x ∷ us) (suc k) l p = named us k (omega arith) p

pub host-port-at : (m : NetMap) (h : ℕ) (d : MapPort) → port_of_host m h ≡ Some d → (a : ℕ) × (host_of_vertex m d.v ≡ Some a) × (d.p ≡ pos 0)
host-port-at m h d e = by (vertex_of_host m h) refl e
  where
    by : (o : Option ℕ) → vertex_of_host m h ≡ o → option_map (λ v. record { v = v; p = pos 0 }) o ≡ Some d → (a : ℕ) × (host_of_vertex m d.v ≡ Some a) × (d.p ≡ pos 0)
    by None f g = cc
    by (Some v) f g =
        let one : ◌≡◌ {A = MapPort} (record { v = v; p = pos 0 }) d = cc in
        let host = named-at h m.vertices v f in
        (host.0, ap (λ (z : MapPort). host_of_vertex m z.v) (sym one) ∙ host.1, ap (λ (z : MapPort). z.p) (sym one))

pub host-no_switch : (m : NetMap) (v a : ℕ) → host_of_vertex m v ≡ Some a → is_switch_vertex m v ≡ false
host-no_switch m v a e = by (slice_get m.vertices v) e
  where
    by : (o : Option MapVertex) → host_at o ≡ Some a → switch_at o ≡ false
    by None f = refl
    by (Some (Host h)) f = refl
    by (Some (Switch s)) f = cc
