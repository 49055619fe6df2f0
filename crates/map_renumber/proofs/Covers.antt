-- The search begins at vertex 0 and finds every vertex of a connected map.
use Rattle.std.proofs.Common.{◌≡◌, ◌<◌, ◌⊎◌, inl, inr, ℕ, zero, suc, List, [], ◌∷◌, Bool, true, false, length, set, replicate, Option, Some, None, refl, ap, sym, ◌∙◌, subst, true≢false, arith}
use Rattle.std.specs.Prelude.{ℤ, pos, ◌+ℤ◌, ◌-ℤ◌, slice_get}
use Rattle.std.proofs.Math.ListN.{length-set}
use Rattle.std.proofs.lemmas.Int.{ints}
use Rattle.std.proofs.lemmas.List.{length-replicate}
use Rattle.journal_defs.specs.Edges.{IsEdge, Steps}
use Rattle.journal_defs.specs.Edges.Steps.{start, step}
use Rattle.journal_defs.specs.Tree.{Node, node_below}
use Rattle.journal_defs.specs.Tree.Node.{Mapper, Reached}
use Rattle.journal_defs.proofs.Members.{IsMember}
use Rattle.map_defs.specs.declared.vertex.MapVertex.{MapVertex}
use Rattle.map_defs.specs.declared.vertex.MapVertex.TheVariants.{Host, Switch}
use Rattle.map_defs.specs.declared.vertex.MapCable.{MapCable}
use Rattle.map_defs.specs.NetMap.{NetMap, MapPort, IsMap, IsCabled, IsConnected, first_end, second_end, host_at, switch_at, host_of_vertex, is_switch_vertex, map_far, map_ends, map_edges}
use Rattle.map_defs.specs.NetMap.IsCabled.{forth, back}
use Rattle.map_defs.proofs.Leading.{far-end}
use Rattle.map_defs.proofs.Ports.{far_is_cabled}
use Rattle.map_laws.proofs.Least.{below-get}
use Rattle.fabric_map.proofs.Ends.{port-holds}
use Rattle.map_renumber.specs.Canon.{entered, start_port}
use Rattle.map_renumber.specs.Search.{HasNumber, turn_at, free, IsDone, IsBehind, IsSearch}
use Rattle.map_quotient.proofs.Places.{one-there, set-other, set-same, get-less, replicate-only}
use Rattle.map_renumber.proofs.Levels.{far-back, near-both, turn-place, port-at}
use Rattle.map_renumber.proofs.Finds.{free-set, free-replicate}

abbrev no_numbers : ℕ → List (Option ℕ)
no_numbers n = replicate n None

replicate-there : (n i : ℕ) → i < n → slice_get (no_numbers n) i ≡ Some None
replicate-there zero i l = absurd (omega arith)
replicate-there (suc n) zero l = refl
replicate-there (suc n) (suc i) l = replicate-there n i (omega arith)

only : {X : Type 0} (x y : X) (v : ℕ) → slice_get (x ∷ []) v ≡ Some y → (v ≡ 0) × (x ≡ y)
only x y zero e = (refl, (let one : x ≡ y = cc in one))
only x y (suc v) e = cc

-- vertex 0 alone
pub search-begin : (m : NetMap) (numbers : List (Option ℕ)) → 0 < length m.vertices → numbers ≡ set (replicate (length m.vertices) None) 0 (Some 0) → IsSearch m (start_port ∷ []) numbers (Mapper ∷ []) 0 0
search-begin m numbers l is = record {
  counted = ap length is ∙ length-set (replicate (length m.vertices) None) 0 (Some 0) ∙ length-replicate (length m.vertices) None;
  left = (let a = free-set (replicate (length m.vertices) None) 0 0 (replicate-there (length m.vertices) 0 l) in let b = free-replicate (length m.vertices) in let c = ap free is in omega arith);
  one_each = refl;
  start_way = refl;
  start_entry = refl;
  placed = λ v d e. placed v d (only start_port d v e);
  named = λ x v e. named x v e;
  enters = λ v u d a b. (let p = only Mapper u v a in let q = only start_port d v b in sym (ap (entered m) p.1) ∙ ap Some q.1);
  least = λ v u d x q a b e. (let p = only Mapper u v a in subst (λ (y : Node). node_below x y ≡ false) p.1 (no_less x));
  rising = λ v w u x less a b. absurd (let p = (only Mapper u v a).0 in let q = (only Mapper x w b).0 in omega arith);
  behind = λ v u d a b. inl (only Mapper u v a).0;
  closed = λ v s d e done. absurd (none v s done);
}
  where
    own : HasNumber numbers 0 0
    own = ap (λ (os : List (Option ℕ)). slice_get os 0) is ∙ set-same (replicate (length m.vertices) None) 0 (Some 0) (let e : length (no_numbers (length m.vertices)) ≡ length m.vertices = length-replicate (length m.vertices) None in omega arith)

    placed : (v : ℕ) (d : MapPort) → (v ≡ 0) × (start_port ≡ d) → HasNumber numbers d.v v
    placed v d p = subst (λ n. HasNumber numbers d.v n) (sym p.0) (subst (λ (y : MapPort). HasNumber numbers y.v 0) p.1 own)

    named : (x v : ℕ) → HasNumber numbers x v → (p : ℤ) × (slice_get (start_port ∷ []) v ≡ Some (record { v = x; p = p }))
    named zero v e = let one : Some v ≡ Some 0 = one-there numbers 0 (Some v) (Some 0) e own in let is0 : v ≡ 0 = cc in (pos 0, ap (slice_get (start_port ∷ [])) is0)
    named (suc x) v e =
        let other : slice_get (replicate (length m.vertices) None) (suc x) ≡ Some (Some v) = sym (set-other (replicate (length m.vertices) None) 0 (Some 0) (suc x) (λ q. (let z = q in omega arith))) ∙ ap (λ (os : List (Option ℕ)). slice_get os (suc x)) (sym is) ∙ e in
        let f : None ≡ Some v = replicate-only (length m.vertices) None (suc x) (Some v) other in
        cc

    no_less : (x : Node) → node_below x Mapper ≡ false
    no_less Mapper = refl
    no_less (Reached w) = refl

    none : (v s : ℕ) → IsDone v s 0 0 → ⊥
    none v s (inl q) = omega arith
    none v s (inr (a, b)) = omega arith

-- an edge is a cable between ports
record IsJoint (m : NetMap) (v w : ℕ) : Type 0 where
  pub d : MapPort
  pub e : MapPort
  pub cabled : IsCabled m d e
  pub is_v : d.v ≡ v
  pub is_w : e.v ≡ w

edge-cabled : (m : NetMap) (cs : List MapCable) (v w : ℕ) → ((k : ℕ) (c : MapCable) → slice_get cs k ≡ Some c → (i : ℕ) × (slice_get m.cables i ≡ Some c)) → IsEdge (map_edges cs) v w → IsJoint m v w
edge-cabled m [] v w all e = absurd e
edge-cabled m (c ∷ cs) v w all (inl e) = let p = all 0 c refl in record { d = first_end c; e = second_end c; cabled = forth p.0 p.1; is_v = e.0; is_w = e.1 }
edge-cabled m (c ∷ cs) v w all (inr (inl e)) = let p = all 0 c refl in record { d = second_end c; e = first_end c; cabled = back p.0 p.1; is_v = e.0; is_w = e.1 }
edge-cabled m (c ∷ cs) v w all (inr (inr e)) = edge-cabled m cs v w (λ k x s. all (suc k) x s) e

a_host : (o : Option MapVertex) → switch_at o ≡ false → (x : MapVertex) → o ≡ Some x → (h : ℕ) × (host_at o ≡ Some h)
a_host (Some (Host h)) e x q = (h, refl)
a_host (Some (Switch n)) e x q = absurd (true≢false e)
a_host None e x q = cc

module _ (m : NetMap) (is_map : IsMap m) (h : ℕ) (host : host_of_vertex m 0 ≡ Some h) (found : List MapPort) (numbers : List (Option ℕ)) (ways : List Node) (s : IsSearch m found numbers ways (length m.vertices) 0) where
  -- all that were found were gone on from
  done : (v t : ℕ) (d : MapPort) → slice_get found v ≡ Some d → IsDone v t (length m.vertices) 0
  done v t d e = inl (let l = get-less found v d e in let c = s.left in omega arith)

  abbrev IsFound : ℕ → Type 0
  IsFound x = (v : ℕ) × HasNumber numbers x v

  -- over a cable of a vertex that was found there is one that was found
  crossed : (d e : MapPort) → map_far m d ≡ Some e → IsFound d.v → IsFound e.v
  crossed d e far f = by f.0 (s.named d.v f.0 f.1).0 (s.named d.v f.0 f.1).1 refl
    where
      low : d.v < length m.vertices
      low = port-holds (λ x. x.v < length m.vertices) m.cables d e is_map.cabled_vertices far

      at_host : (a : ℕ) → host_of_vertex m d.v ≡ Some a → d.p ≡ pos 0
      at_host a is = port-holds (λ x. (g : ℕ) → host_of_vertex m x.v ≡ Some g → x.p ≡ pos 0) m.cables d e is_map.host_ports far a is

      start_far : d.v ≡ 0 → map_far m start_port ≡ Some e
      start_far z = ap (map_far m) (let p = at_host h (ap (host_of_vertex m) z ∙ host) in λ i. record { v = sym z i; p = sym p i }) ∙ far

      -- from a switch by the turn to the port
      by_turn : (v : ℕ) (p : ℤ) → slice_get found v ≡ Some (record { v = d.v; p = p }) → is_switch_vertex m d.v ≡ true → IsMember (record { v = d.v; p = p }) (map_ends m.cables) → IsFound e.v
      by_turn v p at switch cabled =
          let t = turn-place (d.p -ℤ p) (near-both (map_ends m.cables) d (record { v = d.v; p = p }) is_map.ports_near (far-end m.cables d e far) cabled refl) in
          s.closed v t.0 (record { v = d.v; p = p }) e (done v t.0 (record { v = d.v; p = p }) at) t.1 at (inr switch) (ap (map_far m) (port-at d.v (p +ℤ turn_at t.0) d.p (ap (λ z. p +ℤ z) (sym t.2) ∙ sum p d.p)) ∙ far)
        where
          sum : (a b : ℤ) → a +ℤ (b -ℤ a) ≡ b
          sum a b = omega (arith, ints)

      -- from a host back to where it was found from
      by_host : (v : ℕ) (p : ℤ) (u : Node) → slice_get found v ≡ Some (record { v = d.v; p = p }) → IsBehind m found ways (length m.vertices) 0 u (record { v = d.v; p = p }) → (a : ℕ) → host_of_vertex m d.v ≡ Some a → IsFound e.v
      by_host v p u at b a is =
          let back_far = far-back m (record { v = b.entry.v; p = b.entry.p +ℤ turn_at b.place }) (record { v = d.v; p = p }) is_map b.far in
          let zero_p : p ≡ pos 0 = port-holds (λ x. (g : ℕ) → host_of_vertex m x.v ≡ Some g → x.p ≡ pos 0) m.cables (record { v = d.v; p = p }) (record { v = b.entry.v; p = b.entry.p +ℤ turn_at b.place }) is_map.host_ports back_far a is in
          let same : ◌≡◌ {A = MapPort} (record { v = d.v; p = p }) d = port-at d.v p d.p (zero_p ∙ sym (at_host a is)) in
          let two : Some (record { v = b.entry.v; p = b.entry.p +ℤ turn_at b.place }) ≡ Some e = sym back_far ∙ ap (map_far m) same ∙ far in
          let one : ◌≡◌ {A = MapPort} (record { v = b.entry.v; p = b.entry.p +ℤ turn_at b.place }) e = cc in
          (b.vertex, subst (λ (y : MapPort). HasNumber numbers y.v b.vertex) one (s.placed b.vertex b.entry b.is_entry))

      by_way : (v : ℕ) (p : ℤ) (u : Node) → slice_get found v ≡ Some (record { v = d.v; p = p }) → (v ≡ 0) ⊎ IsBehind m found ways (length m.vertices) 0 u (record { v = d.v; p = p }) → (b : Bool) → is_switch_vertex m d.v ≡ b → IsFound e.v
      by_way v p u at (inl z) b q =
          let one : ◌≡◌ {A = MapPort} (record { v = d.v; p = p }) start_port = one-there found 0 (record { v = d.v; p = p }) start_port (subst (λ n. slice_get found n ≡ Some (record { v = d.v; p = p })) z at) s.start_entry in
          s.closed 0 15 start_port e (done 0 15 start_port s.start_entry) (omega arith) s.start_entry (inl refl) (start_far (ap (λ (y : MapPort). y.v) one))
      by_way v p u at (inr b) true q = by_turn v p at q (far-end m.cables (record { v = d.v; p = p }) (record { v = b.entry.v; p = b.entry.p +ℤ turn_at b.place }) (far-back m (record { v = b.entry.v; p = b.entry.p +ℤ turn_at b.place }) (record { v = d.v; p = p }) is_map b.far))
      by_way v p u at (inr b) false q =
          let x = below-get m.vertices d.v low in
          let a = a_host (slice_get m.vertices d.v) q x.0 x.1 in
          by_host v p u at b a.0 a.1

      by : (v : ℕ) (p : ℤ) → slice_get found v ≡ Some (record { v = d.v; p = p }) → v ≡ v → IsFound e.v
      by v p at r =
          let u = below-get ways v (let l = get-less found v (record { v = d.v; p = p }) at in let n = s.one_each in omega arith) in
          by_way v p u.0 at (s.behind v u.0 (record { v = d.v; p = p }) u.1 at) (is_switch_vertex m d.v) refl

  reached-found : (n x : ℕ) → Steps (map_edges m.cables) 0 n x → IsFound x
  reached-found n x start = (0, s.placed 0 start_port s.start_entry)
  reached-found n x (step {m = k} {v = y} {w = z} before edge) =
      let j = edge-cabled m m.cables y z (λ i c q. (i, q)) edge in
      let f : IsFound j.d.v = subst IsFound (sym j.is_v) (reached-found k y before) in
      subst IsFound j.is_w (crossed j.d j.e ((far_is_cabled m j.d j.e is_map).1 j.cabled) f)

  pub all-found : IsConnected m → (x : ℕ) → x < length m.vertices → (v : ℕ) × (p : ℤ) × (slice_get found v ≡ Some (record { v = x; p = p }))
  all-found connected x l =
      let r = connected x l in
      let f = reached-found r.cables x r.path in
      let n = s.named x f.0 f.1 in
      (f.0, n.0, n.1)
