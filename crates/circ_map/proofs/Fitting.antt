-- The vertices of a map that are kept, and the cables between them, are never refused.
use Rattle.std.proofs.Common.{◌≡◌, ◌≢◌, ◌<◌, ◌≤◌, ℕ, zero, suc, List, [], ◌∷◌, ◌++◌, length, map, take, Bool, true, false, not, ◌&&◌, ◌||◌, Option, Some, None, IfSome, sym, ◌∙◌, subst, ap, refl, arith, inl, inr, if◌then◌else◌, nat_eq, nat_lt, is_some}
use Rattle.std.specs.Prelude.{pos, ◌-ℤ◌, slice_get}
use Rattle.std.specs.Ordering.{int_eq}
use Rattle.std.specs.List.{AllByRecursion, list_any}
use Rattle.std.proofs.lemmas.Bool.Decides.{Decides-eqb, nat_tests}
use Rattle.std.proofs.lemmas.List.{length-map}
use Rattle.std.proofs.lemmas.Option.{slice_get_within}
use Rattle.net_defs.specs.Network.{Apart}
use Rattle.net_defs.specs.Turn.{is_turn, IsTurn}
use Rattle.journal_defs.proofs.Members.{IsMember, all-member}
use Rattle.map_defs.specs.declared.vertex.MapVertex.{MapVertex}
use Rattle.map_defs.specs.declared.vertex.MapVertex.TheVariants.{Host, Switch}
use Rattle.map_defs.specs.declared.vertex.MapCable.{MapCable}
use Rattle.map_defs.specs.NetMap.{NetMap, MapPort, IsNearPort, AreNearPorts, far_port, first_end, second_end, map_ends, host_at, host_of_vertex, hosts_of, is_switch_vertex, same_port, switch_at}
use Rattle.map_defs.specs.Quotient.{named}
use Rattle.map_defs.specs.Routing.{is_host_named}
use Rattle.map_defs.proofs.Ports.{same_port-false}
use Rattle.map_laws.proofs.Least.{named-length}
use Rattle.fabric_map.specs.Growing.{IsFabricMap, are_near, cable_refusal, is_full, is_near, is_used, may_have}
use Rattle.fabric_map.specs.declared.fault.MapFault.TheVariants.{HostTaken, Full, NoVertex, PortRange, PortUsed}
use Rattle.fabric_map.proofs.Ends.{near-from}
use Rattle.circ_map.specs.Inside.{IsRising, bare, cables_in, number_in, renumbered, vertex_refusal}
use Rattle.circ_map.proofs.Without.{number-there}

-- an address stands once
host-member : (vs : List MapVertex) (v h : ℕ) → host_at (slice_get vs v) ≡ Some h → IsMember h (hosts_of vs)
host-member [] v h e = cc
host-member (Host g ∷ vs) zero h e = inl (let one : h ≡ g = cc in one)
host-member (Host g ∷ vs) (suc v) h e = inr (host-member vs v h e)
host-member (Switch s ∷ vs) zero h e = cc
host-member (Switch s ∷ vs) (suc v) h e = host-member vs v h e

host-one : (vs : List MapVertex) (v w h : ℕ) → Apart (hosts_of vs) → host_at (slice_get vs v) ≡ Some h → host_at (slice_get vs w) ≡ Some h → v ≡ w
host-one [] v w h apart a b = cc
host-one (Host g ∷ vs) zero zero h apart a b = refl
host-one (Host g ∷ vs) zero (suc w) h apart a b = absurd (all-member (λ y. g ≢ y) h (hosts_of vs) apart.0 (host-member vs w h b) (let one : g ≡ h = cc in one))
host-one (Host g ∷ vs) (suc v) zero h apart a b = absurd (all-member (λ y. g ≢ y) h (hosts_of vs) apart.0 (host-member vs v h a) (let one : g ≡ h = cc in one))
host-one (Host g ∷ vs) (suc v) (suc w) h apart a b = ap suc (host-one vs v w h apart.1 a b)
host-one (Switch s ∷ vs) zero w h apart a b = cc
host-one (Switch s ∷ vs) (suc v) zero h apart a b = cc
host-one (Switch s ∷ vs) (suc v) (suc w) h apart a b = ap suc (host-one vs v w h apart a b)

-- what stands in the image of the first elements
record CameOf (f : ℕ → Option ℕ) (xs : List ℕ) (i j : ℕ) (y : Option ℕ) : Type 0 where
  pub x : ℕ
  pub low : j < i
  pub there : slice_get xs j ≡ Some x
  pub is : f x ≡ y

came-of : (f : ℕ → Option ℕ) (xs : List ℕ) (i j : ℕ) (y : Option ℕ) → slice_get (map f (take i xs)) j ≡ Some y → CameOf f xs i j y
came-of f [] zero j y e = cc
came-of f [] (suc i) j y e = cc
came-of f (x ∷ xs) zero j y e = cc
came-of f (x ∷ xs) (suc i) zero y e = record { x = x; low = omega arith; there = refl; is = (let one : f x ≡ y = cc in one) }
came-of f (x ∷ xs) (suc i) (suc j) y e = let c = came-of f xs i j y e in record { x = c.x; low = (let l = c.low in omega arith); there = c.there; is = c.is }

no-host : (os : List (Option ℕ)) (s h : ℕ) → ((j : ℕ) → slice_get os j ≡ Some (Some h) → ⊥) → list_any (is_host_named h) (named s os) ≡ false
no-host [] s h none = refl
no-host (None ∷ os) s h none = no-host os (suc s) h (λ j e. none (suc j) e)
no-host (Some g ∷ os) s h none = by (nat_eq g h) refl (no-host os s h (λ j e. none (suc j) e))
  where
    by : (b : Bool) → nat_eq g h ≡ b → list_any (is_host_named h) (named s os) ≡ false → (b || list_any (is_host_named h) (named s os)) ≡ false
    by true p r = absurd (none 0 (ap (λ k. Some (Some k)) ((Decides-eqb g h).0 p)))
    by false p r = r

take-length : (xs : List ℕ) (i : ℕ) → length (take i xs) ≤ i
take-length [] zero = omega arith
take-length [] (suc i) = omega arith
take-length (x ∷ xs) zero = omega arith
take-length (x ∷ xs) (suc i) = let l = take-length xs i in omega arith

-- a vertex that is kept is new
pub vertex-fits : (m : NetMap) (kept : List ℕ) (i u : ℕ) (now : NetMap) (a : Option ℕ) → IsFabricMap m → IsRising kept → length kept ≤ length m.vertices → slice_get kept i ≡ Some u → now ≡ bare m (take i kept) → a ≡ host_of_vertex m u → vertex_refusal now a ≡ None
vertex-fits m kept i u now a f rise few there is at = subst (λ z. vertex_refusal z a ≡ None) (sym is) (by a at)
  where
    count : length (named 0 (map (host_of_vertex m) (take i kept))) ≤ i
    count =
        let l = take-length kept i in
        let e : length (named 0 (map (host_of_vertex m) (take i kept))) ≡ length (take i kept) = named-length 0 (map (host_of_vertex m) (take i kept)) ∙ length-map (take i kept) (host_of_vertex m) in
        omega arith

    room : is_full (length (named 0 (map (host_of_vertex m) (take i kept)))) ≡ false
    room =
        let l = slice_get_within kept i u there in
        let c = count in
        let v = f.few_vertices in
        let low : length (named 0 (map (host_of_vertex m) (take i kept))) < 4294967295 = omega arith in
        grind (arith, nat_tests)

    by : (a : Option ℕ) → a ≡ host_of_vertex m u → vertex_refusal (bare m (take i kept)) a ≡ None
    by None e = λ k. if room k then Some Full else None
    by (Some h) e =
        let new : list_any (is_host_named h) (named 0 (map (host_of_vertex m) (take i kept))) ≡ false = no-host (map (host_of_vertex m) (take i kept)) 0 h none in
        λ k. if new k then Some HostTaken else if room k then Some Full else None
      where
        none : (j : ℕ) → slice_get (map (host_of_vertex m) (take i kept)) j ≡ Some (Some h) → ⊥
        none j p =
            let c = came-of (host_of_vertex m) kept i j (Some h) p in
            let less : c.x < u = rise j i c.x u c.low c.there there in
            let same : c.x ≡ u = host-one m.vertices c.x u h f.is_map.hosts_once c.is (sym e) in
            omega arith

-- how each end among some stands to those after it
abbrev Pairs : (R : MapPort → MapPort → Type 0) → List MapPort → Type 0
Pairs R [] = Unit {0}
Pairs R (d ∷ ds) = AllByRecursion (R d) ds × Pairs R ds

apart-pairs : (ds : List MapPort) → Apart ds → Pairs (λ d e. d ≢ e) ds
apart-pairs [] all = tt
apart-pairs (d ∷ ds) all = (all.0, apart-pairs ds all.1)

near-pairs : (ds : List MapPort) → AreNearPorts ds → Pairs IsNearPort ds
near-pairs [] all = tt
near-pairs (d ∷ ds) all = (all.0, near-pairs ds all.1)

ends-at : (P : MapPort → Type 0) (cs : List MapCable) (k : ℕ) (c : MapCable) → AllByRecursion P (map_ends cs) → slice_get cs k ≡ Some c → P (first_end c) × P (second_end c)
ends-at P [] k c all e = cc
ends-at P (x ∷ cs) zero c all e = let one : x ≡ c = cc in subst (λ z. P (first_end z) × P (second_end z)) one (all.0, all.1.0)
ends-at P (x ∷ cs) (suc k) c all e = ends-at P cs k c all.1.1 e

-- how the ends of the cables before one stand to its ends
record StandsAfter (R : MapPort → MapPort → Type 0) (cs : List MapCable) (k : ℕ) (c : MapCable) : Type 0 where
  pub to_first : AllByRecursion (λ e. R e (first_end c)) (map_ends (take k cs))
  pub to_second : AllByRecursion (λ e. R e (second_end c)) (map_ends (take k cs))
  pub own : R (first_end c) (second_end c)

stands-after : (R : MapPort → MapPort → Type 0) (cs : List MapCable) (k : ℕ) (c : MapCable) → Pairs R (map_ends cs) → slice_get cs k ≡ Some c → StandsAfter R cs k c
stands-after R [] k c all e = cc
stands-after R (x ∷ cs) zero c all e = let one : x ≡ c = cc in record { to_first = tt; to_second = tt; own = subst (λ z. R (first_end z) (second_end z)) one all.0.0 }
stands-after R (x ∷ cs) (suc k) c all e =
    let rest = stands-after R cs k c all.1.1 e in
    let first = ends-at (R (first_end x)) cs k c all.0.1 e in
    let second = ends-at (R (second_end x)) cs k c all.1.0 e in
    record { to_first = (first.0, (second.0, rest.to_first)); to_second = (first.1, (second.1, rest.to_second)); own = rest.own }

-- a port of a vertex that is kept, by the vertex's number
record IsRenumbered (kept : List ℕ) (y x : MapPort) : Type 0 where
  pub vertex : number_in kept y.v ≡ Some x.v
  pub port : y.p ≡ x.p

same-vertex : (kept : List ℕ) (a b y x : MapPort) → IsRenumbered kept a b → IsRenumbered kept y x → b.v ≡ x.v → a.v ≡ y.v
same-vertex kept a b y x r s e =
    let two : Some a.v ≡ Some y.v = sym (number-there kept a.v b.v r.vertex) ∙ ap (slice_get kept) e ∙ number-there kept y.v x.v s.vertex in
    cc

same-port : (kept : List ℕ) (a b y x : MapPort) → IsRenumbered kept a b → IsRenumbered kept y x → b ≡ x → a ≡ y
same-port kept a b y x r s e =
    let v : a.v ≡ y.v = same-vertex kept a b y x r s (ap (λ (z : MapPort). z.v) e) in
    let p : a.p ≡ y.p = r.port ∙ ap (λ (z : MapPort). z.p) e ∙ sym s.port in
    λ i. record { v = v i; p = p i }

-- what holds of the ends of cables holds of those that are kept
all-in : (kept : List ℕ) (P Q : MapPort → Type 0) (cs : List MapCable) → ((y x : MapPort) → IsRenumbered kept y x → P y → Q x) → AllByRecursion P (map_ends cs) → AllByRecursion Q (map_ends (cables_in kept cs))
all-in kept P Q [] f all = tt
all-in kept P Q (c ∷ cs) f all = by (number_in kept c.v) refl (number_in kept c.w) refl (all-in kept P Q cs f all.1.1)
  where
    by : (a : Option ℕ) → number_in kept c.v ≡ a → (b : Option ℕ) → number_in kept c.w ≡ b → AllByRecursion Q (map_ends (cables_in kept cs)) → AllByRecursion Q (map_ends (renumbered c a b ++ cables_in kept cs))
    by None p b q r = r
    by (Some v) p None q r = r
    by (Some v) p (Some w) q r = (
      f (first_end c) (record { v = v; p = c.p }) (record { vertex = p; port = refl }) all.0,
      (f (second_end c) (record { v = w; p = c.q }) (record { vertex = q; port = refl }) all.1.0, r),
    )

unused : (cs : List MapCable) (x : MapPort) → AllByRecursion (λ e. e ≢ x) (map_ends cs) → far_port cs x ≡ None
unused [] x all = refl
unused (c ∷ cs) x all = rw (same_port-false (first_end c) x all.0, same_port-false (second_end c) x all.1.0) (unused cs x all.1.1)

few-in : (kept : List ℕ) (cs : List MapCable) → length (cables_in kept cs) ≤ length cs
few-in kept [] = omega arith
few-in kept (c ∷ cs) = by (number_in kept c.v) (number_in kept c.w) (few-in kept cs)
  where
    by : (a b : Option ℕ) → length (cables_in kept cs) ≤ length cs → length (renumbered c a b ++ cables_in kept cs) ≤ suc (length cs)
    by None b l = omega arith
    by (Some v) None l = omega arith
    by (Some v) (Some w) l = omega arith

cables-length : (cs : List MapCable) (k : ℕ) → length (take k cs) ≤ k
cables-length [] zero = omega arith
cables-length [] (suc k) = omega arith
cables-length (c ∷ cs) zero = omega arith
cables-length (c ∷ cs) (suc k) = let l = cables-length cs k in omega arith

named-switch : (s : ℕ) (os : List (Option ℕ)) (v : ℕ) → slice_get os v ≡ Some None → switch_at (slice_get (named s os) v) ≡ true
named-switch s [] v e = cc
named-switch s (Some h ∷ os) zero e = cc
named-switch s (None ∷ os) zero e = refl
named-switch s (Some h ∷ os) (suc v) e = named-switch s os v e
named-switch s (None ∷ os) (suc v) e = named-switch (suc s) os v e

get-map : (f : ℕ → Option ℕ) (xs : List ℕ) (v x : ℕ) → slice_get xs v ≡ Some x → slice_get (map f xs) v ≡ Some (f x)
get-map f [] v x e = cc
get-map f (y ∷ ys) zero x e = let one : y ≡ x = cc in ap (λ z. Some (f z)) one
get-map f (y ∷ ys) (suc v) x e = get-map f ys v x e

module _ (m : NetMap) (kept : List ℕ) (k : ℕ) (c : MapCable) (f : IsFabricMap m) (there : slice_get m.cables k ≡ Some c) where
  fresh : StandsAfter (λ d e. d ≢ e) m.cables k c
  fresh = stands-after (λ d e. d ≢ e) m.cables k c (apart-pairs (map_ends m.cables) f.is_map.ports_once) there

  near : StandsAfter IsNearPort m.cables k c
  near = stands-after IsNearPort m.cables k c (near-pairs (map_ends m.cables) f.is_map.ports_near) there

  turns : IsTurn c.p × IsTurn c.q
  turns = ends-at (λ d. IsTurn d.p) m.cables k c f.is_map.ports_in_range there

  hosts : ((h : ℕ) → host_of_vertex m c.v ≡ Some h → c.p ≡ pos 0) × ((h : ℕ) → host_of_vertex m c.w ≡ Some h → c.q ≡ pos 0)
  hosts = ends-at (λ d. (h : ℕ) → host_of_vertex m d.v ≡ Some h → d.p ≡ pos 0) m.cables k c f.is_map.host_ports there

  low : (v u : ℕ) → number_in kept u ≡ Some v → nat_lt v (length (named 0 (map (host_of_vertex m) kept))) ≡ true
  low v u e =
      let l = slice_get_within kept v u (number-there kept u v e) in
      let n : length (named 0 (map (host_of_vertex m) kept)) ≡ length kept = named-length 0 (map (host_of_vertex m) kept) ∙ length-map kept (host_of_vertex m) in
      let less : v < length (named 0 (map (host_of_vertex m) kept)) = omega arith in
      grind (arith, nat_tests)

  -- a vertex may have the port
  kind : (y x : MapPort) → IsRenumbered kept y x → ((h : ℕ) → host_of_vertex m y.v ≡ Some h → y.p ≡ pos 0) → (switch_at (slice_get (named 0 (map (host_of_vertex m) kept)) x.v) || int_eq x.p (pos 0)) ≡ true
  kind y x r zero_port = by (host_of_vertex m y.v) refl
    where
      get : (o : Option ℕ) → host_of_vertex m y.v ≡ o → slice_get (map (host_of_vertex m) kept) x.v ≡ Some o
      get o e = get-map (host_of_vertex m) kept x.v y.v (number-there kept y.v x.v r.vertex) ∙ ap Some e

      any : (a b : Bool) → b ≡ true → (a || b) ≡ true
      any true b e = refl
      any false b e = e

      by : (o : Option ℕ) → host_of_vertex m y.v ≡ o → (switch_at (slice_get (named 0 (map (host_of_vertex m) kept)) x.v) || int_eq x.p (pos 0)) ≡ true
      by None e = ap (λ b. b || int_eq x.p (pos 0)) (named-switch 0 (map (host_of_vertex m) kept) x.v (get None e))
      by (Some h) e =
          let p : x.p ≡ pos 0 = sym r.port ∙ zero_port h e in
          any (switch_at (slice_get (named 0 (map (host_of_vertex m) kept)) x.v)) (int_eq x.p (pos 0)) (ap (λ z. int_eq z (pos 0)) p)

  close : (y x : MapPort) → IsRenumbered kept y x → AllByRecursion (λ e. IsNearPort e y) (map_ends (take k m.cables)) → are_near (cables_in kept (take k m.cables)) x ≡ true
  close y x r all = near-from (map_ends (cables_in kept (take k m.cables))) x (all-in kept (λ e. IsNearPort e y) (λ e. e.v ≡ x.v → is_turn (e.p -ℤ x.p) ≡ true) (take k m.cables) to all)
    where
      to : (a b : MapPort) → IsRenumbered kept a b → IsNearPort a y → b.v ≡ x.v → is_turn (b.p -ℤ x.p) ≡ true
      to a b s n e = subst (λ z. is_turn (z -ℤ x.p) ≡ true) s.port (subst (λ z. is_turn (a.p -ℤ z) ≡ true) r.port (n (same-vertex kept a b y x s r e)))

  new : (y x : MapPort) → IsRenumbered kept y x → AllByRecursion (λ e. e ≢ y) (map_ends (take k m.cables)) → far_port (cables_in kept (take k m.cables)) x ≡ None
  new y x r all = unused (cables_in kept (take k m.cables)) x (all-in kept (λ e. e ≢ y) (λ e. e ≢ x) (take k m.cables) (λ a b s differ same. differ (same-port kept a b y x s r same)) all)

  room : is_full (length (cables_in kept (take k m.cables))) ≡ false
  room =
      let l = slice_get_within m.cables k c there in
      let a = few-in kept (take k m.cables) in
      let b = cables-length m.cables k in
      let g = f.few_cables in
      let few : length (cables_in kept (take k m.cables)) < 4294967295 = omega arith in
      grind (arith, nat_tests)

  -- a cable between two vertices that are kept
  pub cable-fits : (v w : ℕ) (now : NetMap) → number_in kept c.v ≡ Some v → number_in kept c.w ≡ Some w → now.vertices ≡ named 0 (map (host_of_vertex m) kept) → now.cables ≡ cables_in kept (take k m.cables) → cable_refusal now (record { v = v; p = c.p; w = w; q = c.q }) ≡ None
  cable-fits v w now a b vs cs =
      λ i. if not (low_v i) then Some NoVertex else if not (low_w i) then Some NoVertex else if not (may_v i) then Some PortRange else if not (may_w i) then Some PortRange else if not (apart i) then Some PortRange else if used i then Some PortUsed else if full i then Some Full else None
    where
      first : IsRenumbered kept (first_end c) (record { v = v; p = c.p })
      first = record { vertex = a; port = refl }

      second : IsRenumbered kept (second_end c) (record { v = w; p = c.q })
      second = record { vertex = b; port = refl }

      low_v : nat_lt v (length now.vertices) ≡ true
      low_v = ap (λ l. nat_lt v (length l)) vs ∙ low v c.v a

      low_w : nat_lt w (length now.vertices) ≡ true
      low_w = ap (λ l. nat_lt w (length l)) vs ∙ low w c.w b

      may : (z d : MapPort) → IsRenumbered kept d z → is_turn z.p ≡ true → ((h : ℕ) → host_of_vertex m d.v ≡ Some h → d.p ≡ pos 0) → AllByRecursion (λ e. IsNearPort e d) (map_ends (take k m.cables)) → may_have now z ≡ true
      may z d r t h n =
          let of_kind : (is_switch_vertex now z.v || int_eq z.p (pos 0)) ≡ true = ap (λ l. switch_at (slice_get l z.v) || int_eq z.p (pos 0)) vs ∙ kind d z r h in
          let of_range : are_near now.cables z ≡ true = ap (λ l. are_near l z) cs ∙ close d z r n in
          λ i. t i && (of_kind i && of_range i)

      may_v : may_have now (record { v = v; p = c.p }) ≡ true
      may_v = may (record { v = v; p = c.p }) (first_end c) first turns.0 hosts.0 near.to_first

      may_w : may_have now (record { v = w; p = c.q }) ≡ true
      may_w = may (record { v = w; p = c.q }) (second_end c) second turns.1 hosts.1 near.to_second

      apart : is_near (record { v = v; p = c.p }) (record { v = w; p = c.q }) ≡ true
      apart = by (nat_eq v w) refl
        where
          by : (s : Bool) → nat_eq v w ≡ s → (not s || is_turn (c.p -ℤ c.q)) ≡ true
          by true e = near.own (same-vertex kept (first_end c) (record { v = v; p = c.p }) (second_end c) (record { v = w; p = c.q }) first second ((Decides-eqb v w).0 e))
          by false e = refl

      used : is_used now (record { v = v; p = c.p; w = w; q = c.q }) ≡ false
      used =
          let one : is_some (far_port now.cables (record { v = v; p = c.p })) ≡ false = ap (λ l. is_some (far_port l (record { v = v; p = c.p }))) cs ∙ ap is_some (new (first_end c) (record { v = v; p = c.p }) first fresh.to_first) in
          let two : is_some (far_port now.cables (record { v = w; p = c.q })) ≡ false = ap (λ l. is_some (far_port l (record { v = w; p = c.q }))) cs ∙ ap is_some (new (second_end c) (record { v = w; p = c.q }) second fresh.to_second) in
          let three : same_port (record { v = v; p = c.p }) (record { v = w; p = c.q }) ≡ false = same_port-false (record { v = v; p = c.p }) (record { v = w; p = c.q }) (λ e. fresh.own (same-port kept (first_end c) (record { v = v; p = c.p }) (second_end c) (record { v = w; p = c.q }) first second e)) in
          λ i. (one i || two i) || three i

      full : is_full (length now.cables) ≡ false
      full = ap (λ l. is_full (length l)) cs ∙ room

  -- the same where they may be none
  pub joins-fit : (v w : Option ℕ) (now : NetMap) → v ≡ number_in kept c.v → w ≡ number_in kept c.w → now.vertices ≡ named 0 (map (host_of_vertex m) kept) → now.cables ≡ cables_in kept (take k m.cables) → IfSome v (λ i. IfSome w (λ j. cable_refusal now (record { v = i; p = c.p; w = j; q = c.q }) ≡ None))
  joins-fit None w now a b vs cs = tt
  joins-fit (Some i) None now a b vs cs = tt
  joins-fit (Some i) (Some j) now a b vs cs = cable-fits i j now (sym a) (sym b) vs cs
