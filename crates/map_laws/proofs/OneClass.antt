-- A closed journal has a node over each vertex of the part, and the nodes over one vertex are one class.
use Rattle.std.proofs.Common.{◌≡◌, ℕ, List, Some, sym, ◌∙◌, subst, ap, refl, ◌⊎◌, inl, inr}
use Rattle.net_defs.specs.declared.vertex.Vertex.{Vertex}
use Rattle.net_defs.specs.declared.vertex.Vertex.TheVariants.{Host, Switch}
use Rattle.net_defs.specs.declared.vertex.End.{End}
use Rattle.net_defs.specs.Network.{Network, IsFabric, far}
use Rattle.net_defs.specs.Route.{host_port}
use Rattle.journal_defs.specs.declared.entry.Entry.{Entry}
use Rattle.journal_defs.specs.Tree.{Node, IsNode}
use Rattle.journal_defs.specs.Tree.Node.{Mapper}
use Rattle.journal_defs.specs.Truth.{IsTrueJournal, standing}
use Rattle.journal_defs.specs.Growth.{IsClosed, HasExpanded}
use Rattle.journal_defs.specs.Part.{Path}
use Rattle.journal_defs.specs.Part.Path.{here, over as by_cable}
use Rattle.net_defs.proofs.Cabling.{far-back}
use Rattle.journal_defs.proofs.Standing.{leads-to}
use Rattle.map_laws.proofs.Truly.{node-switch}
use Rattle.map_laws.proofs.Full.{AreOne, Step, host-member, expanded-member, over-member, before-cable, two-hosts}
use Rattle.map_laws.proofs.Rooted.{IsRooted}

-- Which nodes lead over all cables where they stand: hosts, and those whose class has an expanded member.
abbrev pub HasWay : ℕ → List Entry → Node → Vertex → Type 0
HasWay host j u v = ((h : ℕ) × (v ≡ Host h)) ⊎ HasExpanded host j u

-- over a cable at the vertex where such a node stands, some node of its class leads to a node at the other end
pub cross : (n : Network) (host : ℕ) (j : List Entry) (u : Node) (at : End) (p : ℕ) (over : End) → IsFabric n → IsTrueJournal n host j → IsRooted j → IsNode j u → standing n host u ≡ Some at → HasWay host j u at.v → far n (record { v = at.v; p = p }) ≡ Some over → Step n host j u at p over
cross n host j u at p over f all root node s (inl h) c = over-member n host j u at over p f all root.tree root.rooted (host-member n host j u at h.0 node s h.1) c
cross n host j u at p over f all root node s (inr x) c = over-member n host j u at over p f all root.tree root.rooted (expanded-member n host j u at x.member x.offset f all s x.one_class x.expanded) c

-- all nodes lead over all cables
abbrev pub HasWays : Network → ℕ → List Entry → Type 0
HasWays n host j = (u : Node) (d : End) → IsNode j u → standing n host u ≡ Some d → HasWay host j u d.v

pub closed-ways : (n : Network) (host : ℕ) (j : List Entry) → IsTrueJournal n host j → IsClosed host j → HasWays n host j
closed-ways n host j all closed u d node s = by d.v refl
  where
    by : (v : Vertex) → d.v ≡ v → HasWay host j u v
    by (Host h) e = inl (h, refl)
    by (Switch k) e = let a = node-switch n host j u d k all node s e in inr (subst (HasExpanded host j) (sym a.is) (closed.expanded a.walk a.switch))

-- a node over a vertex
pub record Covers (n : Network) (host : ℕ) (j : List Entry) (x : Vertex) : Type 0 where
  pub node : Node
  pub is_node : IsNode j node
  pub at : End
  pub stands : standing n host node ≡ Some at
  pub vertex : at.v ≡ x

-- each vertex to which a path leads has one
pub covered : (n : Network) (host : ℕ) (j : List Entry) (m : ℕ) (x : Vertex) → IsFabric n → IsTrueJournal n host j → IsRooted j → HasWays n host j → Path n (Host host) m x → Covers n host j x
covered n host j m x f all root ways (here) = record { node = Mapper; is_node = refl; at = host_port host; stands = refl; vertex = refl }
covered n host j m x f all root ways (by_cable {m = k} {v = v} {w = w} path p q c) =
    let before = covered n host j k v f all root ways path in
    let onward : far n (record { v = before.at.v; p = p }) ≡ Some (record { v = w; p = q }) = ap (λ y. far n (record { v = y; p = p })) before.vertex ∙ c in
    let s = cross n host j before.node before.at p (record { v = w; p = q }) f all root before.is_node before.stands (ways before.node before.at before.is_node before.stands) onward in
    record { node = s.to.next; is_node = leads-to j s.from.node s.to.next s.to.turn s.to.port s.to.leads; at = s.to.at; stands = s.to.stands; vertex = s.to.there }

-- the nodes over one vertex are one class
pub one_class : (n : Network) (host : ℕ) (j : List Entry) (m : ℕ) (x : Vertex) (u v : Node) (d e : End) → IsFabric n → IsTrueJournal n host j → IsRooted j → HasWays n host j → Path n (Host host) m x → IsNode j u → IsNode j v → standing n host u ≡ Some d → standing n host v ≡ Some e → d.v ≡ x → e.v ≡ x → AreOne host j u v
one_class n host j m x u v d e f all root ways (here) a b s t p q = two-hosts n host j u v d e host all a b s t p q
one_class n host j m x u v d e f all root ways (by_cable {m = k} {v = y} {w = w} path i o c) a b s t p q =
    let back_over = far-back n (record { v = y; p = i }) (record { v = w; p = o }) f c in
    let from_u : far n (record { v = d.v; p = o }) ≡ Some (record { v = y; p = i }) = ap (λ z. far n (record { v = z; p = o })) p ∙ back_over in
    let from_v : far n (record { v = e.v; p = o }) ≡ Some (record { v = y; p = i }) = ap (λ z. far n (record { v = z; p = o })) q ∙ back_over in
    let over_u = cross n host j u d o (record { v = y; p = i }) f all root a s (ways u d a s) from_u in
    let over_v = cross n host j v e o (record { v = y; p = i }) f all root b t (ways v e b t) from_v in
    let before = one_class n host j k y over_u.to.next over_v.to.next over_u.to.at over_v.to.at f all root ways path (leads-to j over_u.from.node over_u.to.next over_u.to.turn over_u.to.port over_u.to.leads) (leads-to j over_v.from.node over_v.to.next over_v.to.turn over_v.to.port over_v.to.leads) over_u.to.stands over_v.to.stands over_u.to.there over_v.to.there in
    before-cable n host j u v d e (record { v = y; p = i }) o f all over_u over_v before
