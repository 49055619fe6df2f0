-- A journal that is full to so many cables has one class over each vertex, as far as a host lies within them.
use Rattle.std.proofs.Common.{◌≡◌, ◌<◌, ◌≤◌, ◌+◌, ℕ, suc, List, [], length, true, Some, sym, ◌∙◌, subst, ap, refl, arith}
use Rattle.std.specs.Prelude.{ℤ, pos, ◌+ℤ◌, ◌-ℤ◌, neg_ℤ}
use Rattle.std.proofs.lemmas.Int.{ints}
use Rattle.net_defs.specs.declared.vertex.Vertex.{Vertex}
use Rattle.net_defs.specs.declared.vertex.Vertex.TheVariants.{Host, Switch}
use Rattle.net_defs.specs.declared.vertex.End.{End}
use Rattle.net_defs.specs.Network.{Network, IsFabric, far}
use Rattle.net_defs.specs.Route.{host_port}
use Rattle.journal_defs.specs.declared.entry.Entry.{Entry}
use Rattle.journal_defs.specs.Tree.{Node, Leads, IsNode, IsSwitchNode, is_asked}
use Rattle.journal_defs.specs.Tree.Node.{Mapper, Reached}
use Rattle.journal_defs.specs.Tree.Leads.{onward, back, out, home}
use Rattle.journal_defs.specs.Replicates.{Replicates}
use Rattle.journal_defs.specs.Replicates.Replicates.{same, turned as other_way, along, one_host, behind}
use Rattle.journal_defs.specs.Growth.{IsGrowing, IsExpanded, HasExpanded, crossed}
use Rattle.journal_defs.specs.Truth.{IsTrueJournal, standing}
use Rattle.journal_defs.specs.Part.{Path}
use Rattle.journal_defs.specs.Part.Path.{here, over}
use Rattle.net_defs.proofs.Cabling.{far-back}
use Rattle.journal_defs.proofs.Standing.{stand, same_end-of, replicates-nodes, leads-to, plus_zero}
use Rattle.map_laws.proofs.Asks.{HasTree, growing-tree}
use Rattle.map_laws.proofs.Phases.{HasShort, no_longer}
use Rattle.map_laws.proofs.Truly.{true-where, node-host, node-switch}
use Rattle.map_laws.proofs.Crossing.{cables, CanCross, LeadsTo, cross}
use Rattle.map_laws.proofs.Crossing.CanCross.{at_host, expanded}

-- A journal of true answers that grows, where each switch that is reached over fewer than so many cables has an expanded member in its class.
pub record IsFull (n : Network) (host depth : ℕ) (j : List Entry) (k : ℕ) : Type 0 where
  pub fabric : IsFabric n
  pub truth : IsTrueJournal n host j
  pub growing : IsGrowing host depth j
  pub started : is_asked j [] ≡ true
  pub expanded : (w : List ℤ) → IsSwitchNode j w → crossed w < k → HasExpanded host j (Reached w)

-- a member of a node's class by which a cable of its vertex can be crossed
pub record Member (n : Network) (host : ℕ) (j : List Entry) (u : Node) (d : End) : Type 0 where
  pub node : Node
  pub offset : ℤ
  pub one_class : Replicates host j u node offset
  pub at : End
  pub stands : standing n host node ≡ Some at
  pub there : at.v ≡ d.v
  pub apart : pos d.p ≡ pos at.p +ℤ offset
  pub can : CanCross j node at

-- a node at a host is one itself
abbrev pub host-member : (n : Network) (host : ℕ) (j : List Entry) (u : Node) (d : End) (a : ℕ) → IsNode j u → standing n host u ≡ Some d → d.v ≡ Host a → Member n host j u d
host-member n host j u d a node is p = record { node = u; offset = pos 0; one_class = same node; at = d; stands = is; there = refl; apart = plus_zero d.p; can = at_host a p }

-- and so is an expanded node of its class
abbrev pub expanded-member : (n : Network) (host : ℕ) (j : List Entry) (u : Node) (d : End) (w : List ℤ) (k : ℤ) → IsFabric n → IsTrueJournal n host j → standing n host u ≡ Some d → Replicates host j u (Reached w) k → IsExpanded j w → Member n host j u d
expanded-member n host j u d w k f all is one ex =
    let s = stand n host j u (Reached w) k f (true-where n host j all) one in
    let own : s.at_u ≡ d = same_end-of n host u s.at_u d s.is_at_u is in
    record { node = Reached w; offset = k; one_class = one; at = s.at_v; stands = s.is_at_v; there = sym s.one_vertex ∙ ap (λ (x : End). x.v) own; apart = ap (λ (x : End). pos x.p) (sym own) ∙ s.apart; can = expanded w refl ex }

-- in a full journal each node of few cables has one of no more
pub member : (n : Network) (host depth : ℕ) (j : List Entry) (k : ℕ) (u : Node) (d : End) → IsFull n host depth j k → IsNode j u → standing n host u ≡ Some d → cables u < k → (m : Member n host j u d) × (cables m.node ≤ cables u)
member n host depth j k u d full node is l = by d.v refl
  where
    short : (w : List ℤ) → u ≡ Reached w → HasShort host j w → (m : Member n host j u d) × (cables m.node ≤ cables u)
    short w p h =
        let one : Replicates host j u (Reached h.member) h.offset = subst (λ x. Replicates host j x (Reached h.member) h.offset) (sym p) h.one_class in
        let count : cables u ≡ suc (length w) = ap cables p in
        let few = h.short in
        (expanded-member n host j u d h.member h.offset full.fabric full.truth is one h.expanded, omega arith)

    by : (v : Vertex) → d.v ≡ v → (m : Member n host j u d) × (cables m.node ≤ cables u)
    by (Host a) p = (host-member n host j u d a node is p, omega arith)
    by (Switch s) p =
        let w = node-switch n host j u d s full.truth node is p in
        let count : cables u ≡ suc (length w.walk) = ap cables w.is in
        short w.walk w.is (no_longer host depth j w.walk full.growing w.switch (full.expanded w.walk w.switch (omega arith)))

-- over a cable of the vertex at which a node stands: from a member of its class the journal leads to a node that stands there
pub record Step (n : Network) (host : ℕ) (j : List Entry) (u : Node) (d : End) (p : ℕ) (x : End) : Type 0 where
  pub from : Member n host j u d
  pub to : LeadsTo n host j from.node from.at p x

abbrev pub over-member : (n : Network) (host : ℕ) (j : List Entry) (u : Node) (d x : End) (p : ℕ) → IsFabric n → IsTrueJournal n host j → HasTree j → is_asked j [] ≡ true → Member n host j u d → far n (record { v = d.v; p = p }) ≡ Some x → Step n host j u d p x
over-member n host j u d x p f all tree started m c = record {
  from = m;
  to = cross n host j m.node m.at x p f all tree started (replicates-nodes host j u m.node m.offset m.one_class).1 m.stands (ap (λ v. far n (record { v = v; p = p })) m.there ∙ c) m.can;
}

pub step : (n : Network) (host depth : ℕ) (j : List Entry) (k : ℕ) (u : Node) (d x : End) (p : ℕ) → IsFull n host depth j k → IsNode j u → standing n host u ≡ Some d → cables u < k → far n (record { v = d.v; p = p }) ≡ Some x → (s : Step n host j u d p x) × (cables s.to.next ≤ suc (cables u))
step n host depth j k u d x p full node is l c =
    let m = member n host depth j k u d full node is l in
    let s = over-member n host j u d x p full.fabric full.truth (growing-tree host depth j full.growing) full.started m.0 c in
    let few = m.1 in
    let on = s.to.few in
    (s, omega arith)

pub leads-back : (j : List Entry) (u x : Node) (p i : ℤ) → Leads j u p x i → Leads j x i u p
leads-back j u x p i (onward {w = w} {x = y} {p = t} a b is) = back a b is
leads-back j u x p i (back {w = w} {x = y} {p = t} a b is) = onward a b is
leads-back j u x p i (out a) = home a
leads-back j u x p i (home a) = out a

-- two nodes are replicates
pub record AreOne (host : ℕ) (j : List Entry) (u v : Node) : Type 0 where
  pub offset : ℤ
  pub one_class : Replicates host j u v offset

other-port : (x a b : ℕ) (i l k : ℤ) → pos x ≡ pos a +ℤ i → pos x ≡ pos b +ℤ l → pos a ≡ pos b +ℤ k → l ≡ i +ℤ k
other-port x a b i l k e f g = omega (arith, ints)

-- one port of a vertex, counted from two replicates
pub same-port : (n : Network) (host : ℕ) (j : List Entry) (u v : Node) (k : ℤ) (d e : End) (p : ℕ) (t s : ℤ) → IsFabric n → IsTrueJournal n host j → Replicates host j u v k → standing n host u ≡ Some d → standing n host v ≡ Some e → pos p ≡ pos d.p +ℤ t → pos p ≡ pos e.p +ℤ s → s ≡ t +ℤ k
same-port n host j u v k d e p t s f all one at_u at_v by_u by_v =
    let at = stand n host j u v k f (true-where n host j all) one in
    let own_u : at.at_u ≡ d = same_end-of n host u at.at_u d at.is_at_u at_u in
    let own_v : at.at_v ≡ e = same_end-of n host v at.at_v e at.is_at_v at_v in
    let apart : pos d.p ≡ pos e.p +ℤ k = ap (λ (x : End). pos x.p) (sym own_u) ∙ at.apart ∙ ap (λ (x : End). pos x.p +ℤ k) own_v in
    other-port p d.p e.p t s k by_u by_v apart

pub join : (host : ℕ) (j : List Entry) (u v w : Node) → AreOne host j u v → AreOne host j v w → AreOne host j u w
join host j u v w a b = record { offset = a.offset +ℤ b.offset; one_class = along {v = v} a.one_class b.one_class }

pub flip : (host : ℕ) (j : List Entry) (u v : Node) → AreOne host j u v → AreOne host j v u
flip host j u v a = record { offset = neg_ℤ a.offset; one_class = other_way a.one_class }

-- what lies behind one port of two replicates is one class
pub behind-port : (host : ℕ) (j : List Entry) (u v x y : Node) (k t s i l : ℤ) → Replicates host j u v k → Leads j u t x i → Leads j v s y l → s ≡ t +ℤ k → AreOne host j x y
behind-port host j u v x y k t s i l one a b e = record { offset = l -ℤ i; one_class = behind one a (subst (λ z. Leads j v z y l) e b) }

-- where what lies over one cable is one class, so is what lies before it
pub before-cable : (n : Network) (host : ℕ) (j : List Entry) (u v : Node) (d e x : End) (p : ℕ) → IsFabric n → IsTrueJournal n host j → (s : Step n host j u d p x) (t : Step n host j v e p x) → AreOne host j s.to.next t.to.next → AreOne host j u v
before-cable n host j u v d e x p f all s t one =
    let port = same-port n host j s.to.next t.to.next one.offset s.to.at t.to.at x.p s.to.port t.to.port f all one.one_class s.to.stands t.to.stands s.to.enters t.to.enters in
    let first = leads-back j s.from.node s.to.next s.to.turn s.to.port s.to.leads in
    let second = leads-back j t.from.node t.to.next t.to.turn t.to.port t.to.leads in
    let middle : AreOne host j s.from.node t.from.node = behind-port host j s.to.next t.to.next s.from.node t.from.node one.offset s.to.port t.to.port s.to.turn t.to.turn one.one_class first second port in
    let before : AreOne host j u s.from.node = record { offset = s.from.offset; one_class = s.from.one_class } in
    let after : AreOne host j v t.from.node = record { offset = t.from.offset; one_class = t.from.one_class } in
    join host j u s.from.node v before (join host j s.from.node t.from.node v middle (flip host j v t.from.node after))

pub two-hosts : (n : Network) (host : ℕ) (j : List Entry) (u v : Node) (d e : End) (a : ℕ) → IsTrueJournal n host j → IsNode j u → IsNode j v → standing n host u ≡ Some d → standing n host v ≡ Some e → d.v ≡ Host a → e.v ≡ Host a → AreOne host j u v
two-hosts n host j u v d e a all node other is at p q = record { offset = pos 0; one_class = one_host (node-host n host j u d a all node is p) (node-host n host j v e a all other at q) }

-- two nodes over one vertex are replicates, where the cables to either and from there to a host are at most those that the journal is full to
pub one_class : (n : Network) (host depth : ℕ) (j : List Entry) (k a q : ℕ) (x : Vertex) (u v : Node) (d e : End) → IsFull n host depth j k → Path n (Host a) q x → IsNode j u → IsNode j v → standing n host u ≡ Some d → standing n host v ≡ Some e → d.v ≡ x → e.v ≡ x → cables u + q ≤ k → cables v + q ≤ k → AreOne host j u v
one_class n host depth j k a q x u v d e full (here) node other is at p r lu lv = two-hosts n host j u v d e a full.truth node other is at p r
one_class n host depth j k a q x u v d e full (over {m = m} {v = y} {w = z} path from to cable) node other is at p r lu lv =
    let behind_it = far-back n (record { v = y; p = from }) (record { v = z; p = to }) full.fabric cable in
    let back_d : far n (record { v = d.v; p = to }) ≡ Some (record { v = y; p = from }) = ap (λ i. far n (record { v = i; p = to })) p ∙ behind_it in
    let back_e : far n (record { v = e.v; p = to }) ≡ Some (record { v = y; p = from }) = ap (λ i. far n (record { v = i; p = to })) r ∙ behind_it in
    let by_u = step n host depth j k u d (record { v = y; p = from }) to full node is (omega arith) back_d in
    let by_v = step n host depth j k v e (record { v = y; p = from }) to full other at (omega arith) back_e in
    let s = by_u.0 in
    let t = by_v.0 in
    let few_s : cables s.to.next ≤ suc (cables u) = by_u.1 in
    let few_t : cables t.to.next ≤ suc (cables v) = by_v.1 in
    before-cable n host j u v d e (record { v = y; p = from }) to full.fabric full.truth s t
    (one_class n host depth j k a m y s.to.next t.to.next s.to.at t.to.at full path
    (leads-to j s.from.node s.to.next s.to.turn s.to.port s.to.leads) (leads-to j t.from.node t.to.next t.to.turn t.to.port t.to.leads)
    s.to.stands t.to.stands s.to.there t.to.there (omega arith) (omega arith))

-- a node over a vertex
pub record IsOver (n : Network) (host : ℕ) (j : List Entry) (x : Vertex) (m : ℕ) : Type 0 where
  pub node : Node
  pub is_node : IsNode j node
  pub at : End
  pub stands : standing n host node ≡ Some at
  pub there : at.v ≡ x
  pub few : cables node ≤ m

-- a path of so many cables leads to a vertex over which there is a node of no more cables
pub reach : (n : Network) (host depth : ℕ) (j : List Entry) (k m : ℕ) (x : Vertex) → IsFull n host depth j k → Path n (Host host) m x → m ≤ k → IsOver n host j x m
reach n host depth j k m x full (here) l = record { node = Mapper; is_node = refl; at = host_port host; stands = refl; there = refl; few = omega arith }
reach n host depth j k m x full (over {m = i} {v = y} {w = z} path from to cable) l =
    let o = reach n host depth j k i y full path (omega arith) in
    let c : far n (record { v = o.at.v; p = from }) ≡ Some (record { v = z; p = to }) = ap (λ v. far n (record { v = v; p = from })) o.there ∙ cable in
    let few = o.few in
    let by_o = step n host depth j k o.node o.at (record { v = z; p = to }) from full o.is_node o.stands (omega arith) c in
    let s = by_o.0 in
    let few_s : cables s.to.next ≤ suc (cables o.node) = by_o.1 in
    record { node = s.to.next; is_node = leads-to j s.from.node s.to.next s.to.turn s.to.port s.to.leads; at = s.to.at; stands = s.to.stands; there = s.to.there; few = omega arith }
