-- On a connected map a legal way leads from each host to each other: up to the root, then down.
use Rattle.std.proofs.Common.{◌≡◌, ◌≢◌, ◌<◌, ◌≤◌, ◌+◌, ℕ, zero, suc, List, [], ◌∷◌, length, Bool, true, false, not, ◌&&◌, Option, Some, is_some, refl, ap, sym, ◌∙◌, subst, arith, ◌⊎◌, inl, inr}
use Rattle.std.specs.Prelude.{ℤ, pos, slice_get}
use Rattle.std.proofs.lemmas.Bool.{false≢true, or_cases, and_parts}
use Rattle.std.proofs.lemmas.Bool.Decides.{Decides-eqb}
use Rattle.journal_defs.specs.Edges.{IsEdge, Steps}
use Rattle.journal_defs.specs.Edges.Steps.{start, step}
use Rattle.map_defs.specs.declared.vertex.MapVertex.{MapVertex}
use Rattle.map_defs.specs.declared.vertex.MapVertex.TheVariants.{Host, Switch}
use Rattle.map_defs.specs.declared.vertex.MapCable.{MapCable}
use Rattle.map_defs.specs.NetMap.{NetMap, MapPort, IsMap, IsCabled, IsConnected, map_far, map_edges, host_at, host_of_vertex, switch_at, is_switch_vertex}
use Rattle.map_defs.specs.NetMap.IsCabled.{forth, back}
use Rattle.map_defs.specs.Orientation.{root, level, order_of, is_up}
use Rattle.map_defs.proofs.Levels.{levels_are_distances}
use Rattle.map_defs.proofs.Ports.{far_is_cabled}
use Rattle.fabric_map.proofs.Ends.{port-holds}
use Rattle.route_calc.specs.Reaching.{may_go, reaches, least_exit}
use Rattle.route_calc.proofs.Reached.{reaches-free, reaches-over}
use Rattle.route_calc.proofs.Rising.{up-channel, down-channel}

-- Two vertices with a cable between them.
pub record Joined (m : NetMap) (u v : ℕ) : Type 0 where
  pub p : ℤ
  pub q : ℤ
  pub there : map_far m (record { v = u; p = p }) ≡ Some (record { v = v; p = q })
  pub back_again : map_far m (record { v = v; p = q }) ≡ Some (record { v = u; p = p })

-- A cable of a list joins two vertices.
record Ends (cs : List MapCable) (u v : ℕ) : Type 0 where
  pub at : ℕ
  pub cable : MapCable
  pub there : slice_get cs at ≡ Some cable
  pub ends : ((cable.v ≡ u) × (cable.w ≡ v)) ⊎ ((cable.w ≡ u) × (cable.v ≡ v))

edge-ends : (cs : List MapCable) (u v : ℕ) → IsEdge (map_edges cs) u v → Ends cs u v
edge-ends [] u v e = absurd e
edge-ends (c ∷ cs) u v (inl p) = record { at = 0; cable = c; there = refl; ends = inl p }
edge-ends (c ∷ cs) u v (inr (inl p)) = record { at = 0; cable = c; there = refl; ends = inr p }
edge-ends (c ∷ cs) u v (inr (inr e)) = let r = edge-ends cs u v e in record { at = suc r.at; cable = r.cable; there = r.there; ends = r.ends }

joined-by : (m : NetMap) (u v : ℕ) (p q : ℤ) → IsMap m → IsCabled m (record { v = u; p = p }) (record { v = v; p = q }) → IsCabled m (record { v = v; p = q }) (record { v = u; p = p }) → Joined m u v
joined-by m u v p q r a b = record { p = p; q = q; there = (far_is_cabled m (record { v = u; p = p }) (record { v = v; p = q }) r).1 a; back_again = (far_is_cabled m (record { v = v; p = q }) (record { v = u; p = p }) r).1 b }

edge-joined : (m : NetMap) (u v : ℕ) → IsMap m → IsEdge (map_edges m.cables) u v → Joined m u v
edge-joined m u v r e = let s = edge-ends m.cables u v e in by s s.ends
  where
    by : (s : Ends m.cables u v) → ((s.cable.v ≡ u) × (s.cable.w ≡ v)) ⊎ ((s.cable.w ≡ u) × (s.cable.v ≡ v)) → Joined m u v
    by s (inl p) = subst (λ z. Joined m u z) p.1 (subst (λ z. Joined m z s.cable.w) p.0 (joined-by m s.cable.v s.cable.w s.cable.p s.cable.q r (forth s.at s.there) (back s.at s.there)))
    by s (inr p) = subst (λ z. Joined m u z) p.1 (subst (λ z. Joined m z s.cable.v) p.0 (joined-by m s.cable.w s.cable.v s.cable.q s.cable.p r (back s.at s.there) (forth s.at s.there)))

-- A vertex that is one level lower, beside another.
pub record Lower (m : NetMap) (v : ℕ) : Type 0 where
  pub u : ℕ
  pub joined : Joined m u v
  pub there : u < length m.vertices
  pub lower : level m u + 1 ≡ level m v

joined-there : (m : NetMap) (u v : ℕ) → IsMap m → Joined m u v → u < length m.vertices
joined-there m u v r j = port-holds (λ (d : MapPort). d.v < length m.vertices) m.cables (record { v = u; p = j.p }) (record { v = v; p = j.q }) r.cabled_vertices j.there

-- the last step of a path
record Last (m : NetMap) (x k v : ℕ) : Type 0 where
  pub before : ℕ
  pub path : Steps (map_edges m.cables) x k before
  pub edge : IsEdge (map_edges m.cables) before v

abbrev Last_of : NetMap → ℕ → ℕ → ℕ → Type 0
Last_of m x zero v = x ≡ v
Last_of m x (suc k) v = Last m x k v

last-of : (m : NetMap) (x k v : ℕ) → Steps (map_edges m.cables) x k v → Last_of m x k v
last-of m x k v start = refl
last-of m x k v (step {v = u} p e) = record { before = u; path = p; edge = e }

lower-from : (m : NetMap) (v k : ℕ) → IsMap m → IsConnected m → v < length m.vertices → level m v ≡ k → Last_of m (root m) k v → (v ≡ root m) ⊎ Lower m v
lower-from m v zero r c l e s = inl (sym s)
lower-from m v (suc k) r c l e s =
    let j = edge-joined m s.before v r s.edge in
    let there = joined-there m s.before v r j in
    let here = levels_are_distances m v r c l in
    let before = levels_are_distances m s.before r c there in
    let most : level m s.before ≤ k = before.least k s.path in
    let least : level m v ≤ suc (level m s.before) = here.least (suc (level m s.before)) (step before.path s.edge) in
    inr (record { u = s.before; joined = j; there = there; lower = (let n : level m s.before + 1 ≡ level m v = omega arith in n) })

pub lower : (m : NetMap) (v : ℕ) → IsMap m → IsConnected m → v < length m.vertices → (v ≡ root m) ⊎ Lower m v
lower m v r c l = lower-from m v (level m v) r c l refl (last-of m (root m) (level m v) v (levels_are_distances m v r c l).path)

-- a vertex that is no switch is a host
kind : (vs : List MapVertex) (v : ℕ) → v < length vs → switch_at (slice_get vs v) ≡ false → (h : ℕ) × (host_at (slice_get vs v) ≡ Some h)
kind [] v l e = absurd (omega arith)
kind (Host h ∷ vs) zero l e = (h, refl)
kind (Switch s ∷ vs) zero l e = absurd (false≢true (sym e))
kind (x ∷ vs) (suc v) l e = kind vs v (omega arith) e

-- a host has one port
pub host-port : (m : NetMap) (u : ℕ) (p : ℤ) (e : MapPort) → IsMap m → is_switch_vertex m u ≡ false → map_far m (record { v = u; p = p }) ≡ Some e → p ≡ pos 0
host-port m u p e r plain far =
    let there : u < length m.vertices = port-holds (λ (d : MapPort). d.v < length m.vertices) m.cables (record { v = u; p = p }) e r.cabled_vertices far in
    let h = kind m.vertices u there plain in
    port-holds (λ (d : MapPort). (g : ℕ) → host_of_vertex m d.v ≡ Some g → d.p ≡ pos 0) m.cables (record { v = u; p = p }) e r.host_ports far h.0 h.1

-- and one neighbour
pub one-beside : (m : NetMap) (u v w : ℕ) → IsMap m → is_switch_vertex m u ≡ false → Joined m u v → Joined m u w → v ≡ w
one-beside m u v w r plain a b =
    let p : a.p ≡ pos 0 = host-port m u a.p (record { v = v; p = a.q }) r plain a.there in
    let q : b.p ≡ pos 0 = host-port m u b.p (record { v = w; p = b.q }) r plain b.there in
    let f : map_far m (record { v = u; p = pos 0 }) ≡ Some (record { v = v; p = a.q }) = subst (λ z. map_far m (record { v = u; p = z }) ≡ Some (record { v = v; p = a.q })) p a.there in
    let g : map_far m (record { v = u; p = pos 0 }) ≡ Some (record { v = w; p = b.q }) = subst (λ z. map_far m (record { v = u; p = z }) ≡ Some (record { v = w; p = b.q })) q b.there in
    let same : ◌≡◌ {A = Option MapPort} (Some (record { v = v; p = a.q })) (Some (record { v = w; p = b.q })) = sym f ∙ g in
    let ports : ◌≡◌ {A = MapPort} (record { v = v; p = a.q }) (record { v = w; p = b.q }) = cc in
    ap (λ (z : MapPort). z.v) ports

joined-back : (m : NetMap) (u v : ℕ) → Joined m u v → Joined m v u
joined-back m u v j = record { p = j.q; q = j.p; there = j.back_again; back_again = j.there }

-- a host with a vertex above it is the root
pub host-root : (m : NetMap) (u v : ℕ) → IsMap m → IsConnected m → is_switch_vertex m u ≡ false → u < length m.vertices → Joined m u v → level m u + 1 ≡ level m v → u ≡ root m
host-root m u v r c plain there j above = by (lower m u r c there)
  where
    by : (u ≡ root m) ⊎ Lower m u → u ≡ root m
    by (inl e) = e
    by (inr l) =
        let same : v ≡ l.u = one-beside m u v l.u r plain j (joined-back m l.u u l.joined) in
        let levels : level m v ≡ level m l.u = ap (level m) same in
        let low = l.lower in
        absurd (omega arith)

-- only a switch leads on
pub leads-on : (m : NetMap) (order : List ℕ) (to k v : ℕ) (down : Bool) → is_switch_vertex m v ≡ false → reaches m order to k v down ≡ true → v ≡ to
leads-on m order to zero v down plain e = (Decides-eqb v to).0 e
leads-on m order to (suc k) v down plain e = by (or_cases (reaches m order to k v down) _ e) (leads-on m order to k v down plain)
  where
    by : (reaches m order to k v down ≡ true) ⊎ ((is_switch_vertex m v && is_some (least_exit m order (reaches m order to k) v down)) ≡ true) → (reaches m order to k v down ≡ true → v ≡ to) → v ≡ to
    by (inl p) rest = rest p
    by (inr p) rest = absurd (false≢true (sym plain ∙ (and_parts (is_switch_vertex m v) (is_some (least_exit m order (reaches m order to k) v down)) p).0))

-- A legal way leads from a vertex, down alone or not.
pub record Leads (m : NetMap) (to v : ℕ) (down : Bool) : Type 0 where
  pub channels : ℕ
  pub near : reaches m (order_of m) to channels v down ≡ true

pub leads-free : (m : NetMap) (to v : ℕ) (down : Bool) → Leads m to v true → Leads m to v down
leads-free m to v true l = l
leads-free m to v false l = record { channels = l.channels; near = reaches-free m (order_of m) to l.channels v l.near }

leads-over : (m : NetMap) (to : ℕ) (down : Bool) (d e : MapPort) → IsMap m → is_switch_vertex m d.v ≡ true → map_far m d ≡ Some e → may_go down (is_up m (order_of m) d) ≡ true → Leads m to e.v (not (is_up m (order_of m) d)) → Leads m to d.v down
leads-over m to down d e r switch far go l = record { channels = suc l.channels; near = reaches-over m (order_of m) to l.channels down d e r switch far go l.near }

-- a channel down leads from a switch
down-from : (m : NetMap) (to v : ℕ) (l : Lower m v) → IsMap m → v < length m.vertices → is_switch_vertex m l.u ≡ true → Leads m to v true → Leads m to l.u true
down-from m to v l r there switch w =
    let less = l.lower in
    let down : is_up m (order_of m) (record { v = l.u; p = l.joined.p }) ≡ false = down-channel m (record { v = l.u; p = l.joined.p }) (record { v = v; p = l.joined.q }) l.joined.there there l.there (let n : level m l.u < level m v = omega arith in n) in
    leads-over m to true (record { v = l.u; p = l.joined.p }) (record { v = v; p = l.joined.q }) r switch l.joined.there (ap (may_go true) down) (subst (λ b. Leads m to v (not b)) (sym down) w)

-- a channel up leads from a switch
up-from : (m : NetMap) (to v : ℕ) (l : Lower m v) → IsMap m → v < length m.vertices → is_switch_vertex m v ≡ true → Leads m to l.u false → Leads m to v false
up-from m to v l r there switch w =
    let less = l.lower in
    let up : is_up m (order_of m) (record { v = v; p = l.joined.q }) ≡ true = up-channel m (record { v = v; p = l.joined.q }) (record { v = l.u; p = l.joined.p }) l.joined.back_again l.there there (let n : level m l.u < level m v = omega arith in n) in
    leads-over m to false (record { v = v; p = l.joined.q }) (record { v = l.u; p = l.joined.p }) r switch l.joined.back_again (ap (may_go false) up) (subst (λ b. Leads m to l.u (not b)) (sym up) w)

-- The neighbour of a root that is a host.
pub record Below (m : NetMap) (to : ℕ) : Type 0 where
  pub host : is_switch_vertex m (root m) ≡ false
  pub v : ℕ
  pub joined : Joined m (root m) v
  pub leads : Leads m to v true

-- down from the root, or from the one neighbour of a root that is a host
abbrev pub FromTop : NetMap → ℕ → Type 0
FromTop m to = Leads m to (root m) true ⊎ Below m to

top-from : (m : NetMap) (to k v : ℕ) → IsMap m → IsConnected m → v < length m.vertices → level m v ≡ k → Leads m to v true → FromTop m to
top-from m to zero v r c there e w = by (lower m v r c there)
  where
    by : (v ≡ root m) ⊎ Lower m v → FromTop m to
    by (inl p) = inl (subst (λ z. Leads m to z true) p w)
    by (inr l) = let low = l.lower in absurd (omega arith)
top-from m to (suc k) v r c there e w = by (lower m v r c there) (λ u l f x. top-from m to k u r c l f x)
  where
    on : (l : Lower m v) (b : Bool) → is_switch_vertex m l.u ≡ b → ((u : ℕ) → u < length m.vertices → level m u ≡ k → Leads m to u true → FromTop m to) → FromTop m to
    on l true switch rest = rest l.u l.there (let low = l.lower in let n : level m l.u ≡ k = omega arith in n) (down-from m to v l r there switch w)
    on l false plain rest =
        let is_root = host-root m l.u v r c plain l.there l.joined l.lower in
        inr (record { host = subst (λ z. is_switch_vertex m z ≡ false) is_root plain; v = v; joined = subst (λ z. Joined m z v) is_root l.joined; leads = w })

    by : (v ≡ root m) ⊎ Lower m v → ((u : ℕ) → u < length m.vertices → level m u ≡ k → Leads m to u true → FromTop m to) → FromTop m to
    by (inl p) rest = inl (subst (λ z. Leads m to z true) p w)
    by (inr l) rest = on l (is_switch_vertex m l.u) refl rest

pub from-top : (m : NetMap) (to : ℕ) → IsMap m → IsConnected m → to < length m.vertices → FromTop m to
from-top m to r c there = top-from m to (level m to) to r c there refl (record { channels = 0; near = (Decides-eqb to to).1 refl })

-- up from a switch
switch-from : (m : NetMap) (to k v : ℕ) → IsMap m → IsConnected m → FromTop m to → v < length m.vertices → level m v ≡ k → is_switch_vertex m v ≡ true → Leads m to v false
switch-from m to zero v r c top there e switch = by (lower m v r c there) top
  where
    by : (v ≡ root m) ⊎ Lower m v → FromTop m to → Leads m to v false
    by (inl p) (inl w) = leads-free m to v false (subst (λ z. Leads m to z true) (sym p) w)
    by (inl p) (inr b) = absurd (false≢true (sym b.host ∙ ap (is_switch_vertex m) (sym p) ∙ switch))
    by (inr l) t = let low = l.lower in absurd (omega arith)
switch-from m to (suc k) v r c top there e switch = by (lower m v r c there) top (λ u l f s. switch-from m to k u r c top l f s)
  where
    beside : (l : Lower m v) → is_switch_vertex m l.u ≡ false → FromTop m to → Leads m to v false
    beside l plain (inl w) =
        let is_root = host-root m l.u v r c plain l.there l.joined l.lower in
        up-from m to v l r there switch (leads-free m to l.u false (subst (λ z. Leads m to z true) (sym is_root) w))
    beside l plain (inr b) =
        let is_root = host-root m l.u v r c plain l.there l.joined l.lower in
        let same : b.v ≡ v = one-beside m (root m) b.v v r b.host b.joined (subst (λ z. Joined m z v) is_root l.joined) in
        leads-free m to v false (subst (λ z. Leads m to z true) same b.leads)

    on : (l : Lower m v) (b : Bool) → is_switch_vertex m l.u ≡ b → FromTop m to → ((u : ℕ) → u < length m.vertices → level m u ≡ k → is_switch_vertex m u ≡ true → Leads m to u false) → Leads m to v false
    on l true s t rest = up-from m to v l r there switch (rest l.u l.there (let low = l.lower in let n : level m l.u ≡ k = omega arith in n) s)
    on l false plain t rest = beside l plain t

    by : (v ≡ root m) ⊎ Lower m v → FromTop m to → ((u : ℕ) → u < length m.vertices → level m u ≡ k → is_switch_vertex m u ≡ true → Leads m to u false) → Leads m to v false
    by (inl p) (inl w) rest = leads-free m to v false (subst (λ z. Leads m to z true) (sym p) w)
    by (inl p) (inr b) rest = absurd (false≢true (sym b.host ∙ ap (is_switch_vertex m) (sym p) ∙ switch))
    by (inr l) t rest = on l (is_switch_vertex m l.u) refl t rest

-- A host's cable, and a legal way from where it leads.
pub record Starts (m : NetMap) (to v : ℕ) : Type 0 where
  pub entered : MapPort
  pub far : map_far m (record { v = v; p = pos 0 }) ≡ Some entered
  pub leads : Leads m to entered.v (not (is_up m (order_of m) (record { v = v; p = pos 0 })))

pub host-starts : (m : NetMap) (to v : ℕ) → IsMap m → IsConnected m → to < length m.vertices → v < length m.vertices → is_switch_vertex m v ≡ false → v ≢ to → Starts m to v
host-starts m to v r c target there plain differ = by (lower m v r c there) (from-top m to r c target)
  where
    zero_port : (u : ℕ) (j : Joined m v u) → map_far m (record { v = v; p = pos 0 }) ≡ Some (record { v = u; p = j.q })
    zero_port u j = subst (λ z. map_far m (record { v = v; p = z }) ≡ Some (record { v = u; p = j.q })) (host-port m v j.p (record { v = u; p = j.q }) r plain j.there) j.there

    up_leads : (u : ℕ) (j : Joined m v u) → is_up m (order_of m) (record { v = v; p = pos 0 }) ≡ true → Leads m to u false → Starts m to v
    up_leads u j up w = record { entered = record { v = u; p = j.q }; far = zero_port u j; leads = subst (λ b. Leads m to u (not b)) (sym up) w }

    lower_leads : (l : Lower m v) → Leads m to l.u false → Starts m to v
    lower_leads l w =
        let less = l.lower in
        let j = joined-back m l.u v l.joined in
        up_leads l.u j (up-channel m (record { v = v; p = pos 0 }) (record { v = l.u; p = j.q }) (zero_port l.u j) l.there there (let n : level m l.u < level m v = omega arith in n)) w

    host_beside : (l : Lower m v) → is_switch_vertex m l.u ≡ false → FromTop m to → Starts m to v
    host_beside l none (inl w) =
        let is_root = host-root m l.u v r c none l.there l.joined l.lower in
        lower_leads l (leads-free m to l.u false (subst (λ z. Leads m to z true) (sym is_root) w))
    host_beside l none (inr b) =
        let is_root = host-root m l.u v r c none l.there l.joined l.lower in
        let same : b.v ≡ v = one-beside m (root m) b.v v r b.host b.joined (subst (λ z. Joined m z v) is_root l.joined) in
        let w = subst (λ z. Leads m to z true) same b.leads in
        absurd (differ (leads-on m (order_of m) to w.channels v true plain w.near))

    on : (l : Lower m v) (b : Bool) → is_switch_vertex m l.u ≡ b → FromTop m to → Starts m to v
    on l true s t = lower_leads l (switch-from m to (level m l.u) l.u r c t l.there refl s)
    on l false none t = host_beside l none t

    by : (v ≡ root m) ⊎ Lower m v → FromTop m to → Starts m to v
    by (inl p) (inl w) = absurd (differ (leads-on m (order_of m) to w.channels v true plain (subst (λ z. reaches m (order_of m) to w.channels z true ≡ true) (sym p) w.near)))
    by (inl p) (inr b) =
        let j = subst (λ z. Joined m z b.v) (sym p) b.joined in
        record { entered = record { v = b.v; p = j.q }; far = zero_port b.v j; leads = leads-free m to b.v (not (is_up m (order_of m) (record { v = v; p = pos 0 }))) b.leads }
    by (inr l) t = on l (is_switch_vertex m l.u) refl t
