-- The map of a grown journal is connected: each node hangs on its parent.
use Rattle.std.proofs.Common.{◌≡◌, ◌<◌, ℕ, zero, suc, List, [], ◌∷◌, length, true, false, Some, sym, ◌∙◌, subst, ap, true≢false, refl, arith, inl, inr}
use Rattle.std.specs.Prelude.{ℤ, pos, ◌+ℤ◌, neg_ℤ, slice_get}
use Rattle.journal_defs.specs.declared.entry.Entry.{Entry}
use Rattle.journal_defs.specs.Edges.{IsEdge, Steps}
use Rattle.journal_defs.specs.Edges.Steps.{start, step}
use Rattle.journal_defs.specs.Tree.{Node, IsNode, Leads, is_asked, node_below}
use Rattle.journal_defs.specs.Tree.Node.{Mapper, Reached}
use Rattle.journal_defs.specs.Tree.Leads.{onward, out}
use Rattle.journal_defs.specs.Replicates.Replicates.{same, turned as other_way}
use Rattle.journal_defs.proofs.Reach.{edge-back}
use Rattle.map_defs.specs.declared.vertex.MapCable.{MapCable}
use Rattle.map_defs.specs.NetMap.{NetMap, MapPort, IsCabled, IsReached, IsConnected, map_edges}
use Rattle.map_defs.specs.NetMap.IsCabled.{forth, back}
use Rattle.map_defs.specs.Quotient.{IsQuotient, IsOfVertex}
use Rattle.map_laws.proofs.Asks.{HasTree, growing-tree, ByLast, by_last, push-length, switch-node}
use Rattle.map_laws.proofs.Asks.ByLast.{empty, pushed}
use Rattle.map_laws.proofs.Truly.{node-asked}
use Rattle.map_laws.specs.Certificate.{QuotientIsConnected}
use Rattle.map_laws.proofs.Least.{below-get, get-below, below-vertex}

place-edge : (cs : List MapCable) (k : ℕ) (c : MapCable) → slice_get cs k ≡ Some c → IsEdge (map_edges cs) c.v c.w
place-edge [] k c e = cc
place-edge (x ∷ cs) zero c e = let one : x ≡ c = cc in inl (ap (λ (y : MapCable). y.v) one, ap (λ (y : MapCable). y.w) one)
place-edge (x ∷ cs) (suc k) c e = inr (inr (place-edge cs k c e))

-- the vertices of a cable are joined
pub cabled-edge : (m : NetMap) (d e : MapPort) → IsCabled m d e → IsEdge (map_edges m.cables) d.v e.v
cabled-edge m d e (forth k {c = c} p) = place-edge m.cables k c p
cabled-edge m d e (back k {c = c} p) = edge-back (map_edges m.cables) c.v c.w (place-edge m.cables k c p)

module _ (host : ℕ) (j : List Entry) (m : NetMap) (tree : HasTree j) (q : IsQuotient host j m) where
  -- what a reached vertex leads to is reached
  lead-reached : (u x : Node) (p i : ℤ) (v w : ℕ) (k l : ℤ) → Leads j u p x i → IsOfVertex host j q.least u v k → IsOfVertex host j q.least x w l → IsReached m v → IsReached m w
  lead-reached u x p i v w k l leads a b r =
      let d : MapPort = record { v = v; p = p +ℤ k } in
      let e : MapPort = record { v = w; p = i +ℤ l } in
      let cable = (q.cabled d e).1 (record { from = u; to = x; p = p; i = i; offset_from = k; offset_to = l; leads = leads; is_from = a; is_to = b; leaves = refl; enters = refl }) in
      record { cables = suc r.cables; path = step r.path (cabled-edge m d e cable) }

  -- the mapper's host is vertex 0
  mapper-first : (v : ℕ) → slice_get q.least v ≡ Some Mapper → v ≡ 0
  mapper-first zero e = refl
  mapper-first (suc v) e =
      let l = get-below q.least (suc v) Mapper e in
      let first = below-get q.least 0 (omega arith) in
      absurd (true≢false (sym (q.in_order 0 (suc v) first.0 Mapper (omega arith) first.1 e) ∙ none first.0))
    where
      none : (u : Node) → node_below u Mapper ≡ false
      none Mapper = refl
      none (Reached w) = refl

  mapper-reached : (v : ℕ) (k : ℤ) → IsOfVertex host j q.least Mapper v k → IsReached m v
  mapper-reached v k a =
      let least = q.each_least v a.least_node a.there in
      let own : a.least_node ≡ Mapper = by a.least_node (least.least Mapper (neg_ℤ k) (other_way a.one_class)) in
      let zeroth : v ≡ 0 = mapper-first v (a.there ∙ ap Some own) in
      record { cables = 0; path = subst (λ i. Steps (map_edges m.cables) 0 0 i) (sym zeroth) start }
    where
      by : (u : Node) → node_below Mapper u ≡ false → u ≡ Mapper
      by Mapper e = refl
      by (Reached w) e = absurd (true≢false e)

  node-reached : (fuel : ℕ) (w : List ℤ) → length w < fuel → IsNode j (Reached w) → (v : ℕ) (k : ℤ) → IsOfVertex host j q.least (Reached w) v k → IsReached m v
  node-reached zero w l node v k a = absurd (omega arith)
  node-reached (suc fuel) w l node v k a = by (by_last w) (λ u b n. node-reached fuel u b n)
    where
      by : ByLast w → ((u : List ℤ) → length u < fuel → IsNode j (Reached u) → (x : ℕ) (i : ℤ) → IsOfVertex host j q.least (Reached u) x i → IsReached m x) → IsReached m v
      by (empty e) rest =
          let root : IsNode j (Reached []) = subst (λ u. IsNode j (Reached u)) e node in
          let h = q.covered Mapper refl in
          lead-reached Mapper (Reached []) (pos 0) (pos 0) h.vertex v h.offset k (out root) h.is_of (subst (λ u. IsOfVertex host j q.least (Reached u) v k) e a) (mapper-reached h.vertex h.offset h.is_of)
      by (pushed u t e) rest =
          let parent = switch-node j u (tree.parent u t (subst (λ x. is_asked j x ≡ true) e (node-asked j w node))).switch in
          let above = q.covered (Reached u) parent in
          let shorter : length w ≡ suc (length u) = ap length e ∙ push-length u t in
          lead-reached (Reached u) (Reached w) t (pos 0) above.vertex v above.offset k (onward parent node e) above.is_of a (rest u (omega arith) parent above.vertex above.offset above.is_of)

  pub connected : IsConnected m
  connected v l =
      let u = below-vertex host j m q v l in
      by u.0 u.1 (q.each_least v u.0 u.1).node
    where
      by : (u : Node) → slice_get q.least v ≡ Some u → IsNode j u → IsReached m v
      by Mapper e n = mapper-reached v (pos 0) (record { least_node = Mapper; there = e; one_class = same n })
      by (Reached w) e n = node-reached (suc (length w)) w (omega arith) n v (pos 0) (record { least_node = Reached w; there = e; one_class = same n })

pub quotient_is_connected : QuotientIsConnected
quotient_is_connected host depth j m grown q = connected host j m (growing-tree host depth j grown.growing) q
