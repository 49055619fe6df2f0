-- A journal that is full to Q + D + 1 cables is closed.
use Rattle.std.proofs.Common.{◌≡◌, ◌+◌, ◌<◌, ◌≤◌, ℕ, zero, suc, List, [], ◌∷◌, length, true, Option, Some, None, sym, ◌∙◌, subst, ap, refl, arith}
use Rattle.std.specs.Prelude.{ℤ, pos, ◌+ℤ◌}
use Rattle.net_defs.specs.declared.vertex.Vertex.{Vertex}
use Rattle.net_defs.specs.declared.vertex.Vertex.TheVariants.{Host, Switch}
use Rattle.net_defs.specs.declared.vertex.End.{End}
use Rattle.net_defs.specs.Network.{Network, IsFabric, far, has_vertex}
use Rattle.net_defs.specs.Route.{entered_after, turned, host_port}
use Rattle.journal_defs.specs.declared.entry.Entry.{Entry}
use Rattle.journal_defs.specs.Tree.{Node, Leads, IsNode, IsSwitchNode, is_asked}
use Rattle.journal_defs.specs.Tree.Node.{Mapper, Reached}
use Rattle.journal_defs.specs.Tree.Leads.{onward}
use Rattle.journal_defs.specs.Replicates.{Replicates}
use Rattle.journal_defs.specs.Replicates.Replicates.{along}
use Rattle.journal_defs.specs.Growth.{HasExpanded, IsClosed}
use Rattle.journal_defs.specs.Truth.{StandTogether, standing}
use Rattle.journal_defs.specs.Part.{Path, IsInPart, edges_of, distance, farthest, host_distance}
use Rattle.journal_defs.specs.Part.Path.{here, over}
use Rattle.journal_defs.proofs.Distance.{distance_is_shortest, part_is_near, hosts_are_near, path-steps, steps-path}
use Rattle.journal_defs.proofs.Reach.{steps-back}
use Rattle.journal_defs.proofs.Standing.{stand, same_end-of, leads-to, node-stands, turn-crosses, leads-crosses}
use Rattle.journal_defs.specs.Depth.{enough_depth}
use Rattle.journal_defs.proofs.Counted.{stuck}
use Rattle.map_laws.proofs.Asks.{growing-tree, ByLast, by_last, push-length, switch-node}
use Rattle.map_laws.proofs.Asks.ByLast.{empty, pushed}
use Rattle.map_laws.proofs.Truly.{true-where, IsWalk, node-switch, switch-stands, node-asked}
use Rattle.map_laws.proofs.Crossing.{cables}
use Rattle.map_laws.proofs.Full.{IsFull, AreOne, Step, step, reach, one_class, same-port, behind-port, join}

-- a walk is a path of a cable for each turn
walk-path : (n : Network) (x : Vertex) (m : ℕ) (e d : End) (w : List ℤ) → Path n x m e.v → entered_after n (Some e) w ≡ Some d → Path n x (length w + m) d.v
walk-path n x m e d [] p is = let one : e ≡ d = cc in subst (λ i. Path n x i d.v) (let s : m ≡ 0 + m = omega arith in s) (subst (λ (y : End). Path n x m y.v) one p)
walk-path n x m e d (t ∷ w) p is = by (turned n (Some e) t) refl is (λ c. walk-path n x (suc m) c d w)
  where
    longer : Path n x (length w + suc m) d.v → Path n x (length (t ∷ w) + m) d.v
    longer q = subst (λ i. Path n x i d.v) (let s : length w + suc m ≡ suc (length w) + m = omega arith in s) q

    by : (o : Option End) → turned n (Some e) t ≡ o → entered_after n o w ≡ Some d → ((c : End) → Path n x (suc m) c.v → entered_after n (Some c) w ≡ Some d → Path n x (length w + suc m) d.v) → Path n x (length (t ∷ w) + m) d.v
    by None q r rest = let none : None ≡ Some d = sym (stuck n w) ∙ r in cc
    by (Some c) q r rest = let over_it = turn-crosses n e c t q in longer (rest c (over p over_it.leaves over_it.enters over_it.cable) r)

-- a node stands at the end of a path of as many cables as lead to it
pub node-path : (n : Network) (host : ℕ) (u : Node) (d : End) → standing n host u ≡ Some d → Path n (Host host) (cables u) d.v
node-path n host Mapper d is = let own : host_port host ≡ d = cc in subst (λ (y : End). Path n (Host host) 0 y.v) own here
node-path n host (Reached w) d is = by (far n (host_port host)) refl is
  where
    by : (o : Option End) → far n (host_port host) ≡ o → entered_after n o w ≡ Some d → Path n (Host host) (suc (length w)) d.v
    by None p q = let none : None ≡ Some d = sym (stuck n w) ∙ q in cc
    by (Some e) p q = subst (λ i. Path n (Host host) i d.v) (let s : length w + 1 ≡ suc (length w) = omega arith in s) (walk-path n (Host host) 1 e d w (over here 0 e.p p) q)

-- so it stands in the mapper's part
pub in-part : (n : Network) (host : ℕ) (u : Node) (d : End) → standing n host u ≡ Some d → IsInPart n host d.v
in-part n host u d is = record { cables = cables u; path = node-path n host u d is }

-- a host within so many cables of a vertex, with the path from it
record FromHost (n : Network) (x : Vertex) (most : ℕ) : Type 0 where
  pub address : ℕ
  pub count : ℕ
  pub path : Path n (Host address) count x
  pub few : count ≤ most

from-host : (n : Network) (host : ℕ) (x : Vertex) → IsFabric n → has_vertex n (Host host) ≡ true → IsInPart n host x → FromHost n x (host_distance n host)
from-host n host (Host a) f h i = record { address = a; count = 0; path = here; few = omega arith }
from-host n host (Switch s) f h i =
    let near = hosts_are_near n host s f h i in
    let back = steps-back (edges_of n.cables) (Switch s) (Host near.address) near.cables (path-steps n (Switch s) (Host near.address) near.cables near.path) in
    record { address = near.address; count = near.cables; path = steps-path n (Host near.address) (Switch s) near.cables f back; few = near.few }

-- a node of few cables in the class of a node
pub record IsSmall (host : ℕ) (j : List Entry) (u : Node) (most : ℕ) : Type 0 where
  pub node : Node
  pub is_node : IsNode j node
  pub one : AreOne host j u node
  pub few : cables node ≤ most

-- a node of at most D + 1 cables has one of at most D in its class
near-class : (n : Network) (host depth : ℕ) (j : List Entry) (k : ℕ) (u : Node) (d : End) → IsFull n host depth j k → has_vertex n (Host host) ≡ true → enough_depth n host ≤ k → IsNode j u → standing n host u ≡ Some d → cables u ≤ suc (farthest n host) → IsSmall host j u (farthest n host)
near-class n host depth j k u d full h deep node is l =
    let part = in-part n host u d is in
    let near = part_is_near n host d.v full.fabric h part in
    let shortest = distance_is_shortest n (Host host) d.v part.cables full.fabric h part.path in
    let o = reach n host depth j k (distance n (Host host) d.v) d.v full shortest.path (omega arith) in
    let host_near = from-host n host d.v full.fabric h part in
    let few_q = host_near.few in
    let few_o = o.few in
    record {
      node = o.node;
      is_node = o.is_node;
      one = one_class n host depth j k host_near.address host_near.count d.v u o.node d o.at full host_near.path node o.is_node is o.stands refl o.there (omega arith) (omega arith);
      few = omega arith;
    }

-- a node in the class of what a node leads to, by another of its class
record Beyond (n : Network) (host : ℕ) (j : List Entry) (w : Node) (most : ℕ) : Type 0 where
  pub node : Node
  pub is_node : IsNode j node
  pub one : AreOne host j w node
  pub at : End
  pub stands : standing n host node ≡ Some at
  pub few : cables node ≤ most

beyond-step : (n : Network) (host depth : ℕ) (j : List Entry) (k : ℕ) (v w z : Node) (t : ℤ) (c d : End) (p : ℕ) (x : End) → IsFull n host depth j k → Leads j v t w (pos 0) → standing n host v ≡ Some c → pos p ≡ pos c.p +ℤ t → AreOne host j v z → (s : Step n host j z d p x) → cables s.to.next ≤ suc (cables z) → Beyond n host j w (suc (cables z))
beyond-step n host depth j k v w z t c d p x full leads at_v by_port one s few =
    let whole = join host j v z s.from.node one (record { offset = s.from.offset; one_class = s.from.one_class }) in
    let turn = same-port n host j v s.from.node whole.offset c s.from.at p t s.to.turn full.fabric full.truth whole.one_class at_v s.from.stands by_port s.to.leaves in
    record {
      node = s.to.next;
      is_node = leads-to j s.from.node s.to.next s.to.turn s.to.port s.to.leads;
      one = behind-port host j v s.from.node w s.to.next whole.offset t s.to.turn (pos 0) s.to.port whole.one_class leads s.to.leads turn;
      at = s.to.at;
      stands = s.to.stands;
      few = few;
    }

beyond : (n : Network) (host depth : ℕ) (j : List Entry) (k : ℕ) (v w z : Node) (t : ℤ) (c d : End) → IsFull n host depth j k → Leads j v t w (pos 0) → standing n host v ≡ Some c → standing n host w ≡ Some d → IsNode j z → AreOne host j v z → cables z < k → Beyond n host j w (suc (cables z))
beyond n host depth j k v w z t c d full leads at_v at_w node one l =
    let over_it = leads-crosses n host j v w t (pos 0) c d full.fabric leads at_v at_w in
    let together = stand n host j v z one.offset full.fabric (true-where n host j full.truth) one.one_class in
    let own : together.at_u ≡ c = same_end-of n host v together.at_u c together.is_at_u at_v in
    let vertex : together.at_v.v ≡ c.v = sym together.one_vertex ∙ ap (λ (y : End). y.v) own in
    let x : End = record { v = d.v; p = over_it.enters } in
    let cable : far n (record { v = together.at_v.v; p = over_it.leaves }) ≡ Some x = ap (λ y. far n (record { v = y; p = over_it.leaves })) vertex ∙ over_it.cable in
    let s = step n host depth j k z together.at_v x over_it.leaves full node together.is_at_v l cable in
    beyond-step n host depth j k v w z t c together.at_v over_it.leaves x full leads at_v over_it.leaves_by one s.0 s.1

-- where a node has one of at most D cables in its class, so has what it leads to
on-from : (n : Network) (host depth : ℕ) (j : List Entry) (k : ℕ) (v w : Node) (t : ℤ) → IsFull n host depth j k → has_vertex n (Host host) ≡ true → enough_depth n host ≤ k → IsNode j v → IsNode j w → Leads j v t w (pos 0) → IsSmall host j v (farthest n host) → IsSmall host j w (farthest n host)
on-from n host depth j k v w t full h deep node_v node_w leads small =
    let at_v = node-stands n host j v (true-where n host j full.truth) node_v in
    let at_w = node-stands n host j w (true-where n host j full.truth) node_w in
    let few_small = small.few in
    let b = beyond n host depth j k v w small.node t at_v.at at_w.at full leads at_v.is at_w.is small.is_node small.one (omega arith) in
    let few_b = b.few in
    let near = near-class n host depth j k b.node b.at full h deep b.is_node b.stands (omega arith) in
    record { node = near.node; is_node = near.is_node; one = join host j w b.node near.node b.one near.one; few = near.few }

-- the node behind the mapper's cable has one of at most D cables in its class
small-first : (n : Network) (host depth : ℕ) (j : List Entry) (k : ℕ) (w : List ℤ) → IsFull n host depth j k → has_vertex n (Host host) ≡ true → enough_depth n host ≤ k → IsNode j (Reached w) → w ≡ [] → IsSmall host j (Reached w) (farthest n host)
small-first n host depth j k w full h deep node e =
    let at = node-stands n host j (Reached w) (true-where n host j full.truth) node in
    let none : length w ≡ 0 = ap length e in
    near-class n host depth j k (Reached w) at.at full h deep node at.is (omega arith)

-- so has each node
small : (n : Network) (host depth : ℕ) (j : List Entry) (k m : ℕ) (w : List ℤ) → IsFull n host depth j k → has_vertex n (Host host) ≡ true → enough_depth n host ≤ k → IsNode j (Reached w) → length w ≤ m → IsSmall host j (Reached w) (farthest n host)
small n host depth j k zero w full h deep node l = by (by_last w)
  where
    by : ByLast w → IsSmall host j (Reached w) (farthest n host)
    by (empty e) = small-first n host depth j k w full h deep node e
    by (pushed v t e) = let long : length w ≡ suc (length v) = ap length e ∙ push-length v t in absurd (omega arith)
small n host depth j k (suc m) w full h deep node l = by (by_last w) (λ v. small n host depth j k m v full h deep)
  where
    by : ByLast w → ((v : List ℤ) → IsNode j (Reached v) → length v ≤ m → IsSmall host j (Reached v) (farthest n host)) → IsSmall host j (Reached w) (farthest n host)
    by (empty e) rest = small-first n host depth j k w full h deep node e
    by (pushed v t e) rest =
        let long : length w ≡ suc (length v) = ap length e ∙ push-length v t in
        let tree = growing-tree host depth j full.growing in
        let up = switch-node j v (tree.parent v t (subst (λ x. is_asked j x ≡ true) e (node-asked j w node))).switch in
        on-from n host depth j k (Reached v) (Reached w) t full h deep up node (onward up node e) (rest v up (omega arith))

-- a switch with one of at most D cables in its class
small-expanded : (n : Network) (host depth : ℕ) (j : List Entry) (k : ℕ) (w : List ℤ) → IsFull n host depth j k → enough_depth n host ≤ k → IsSwitchNode j w → IsSmall host j (Reached w) (farthest n host) → HasExpanded host j (Reached w)
small-expanded n host depth j k w full deep s small =
    by (stand n host j (Reached w) small.node small.one.offset full.fabric (true-where n host j full.truth) small.one.one_class)
  where
    member : IsWalk j small.node → HasExpanded host j (Reached w)
    member v =
        let few = small.few in
        let count : cables small.node ≡ suc (length v.walk) = ap cables v.is in
        let x = full.expanded v.walk v.switch (omega arith) in
        record { member = x.member; offset = small.one.offset +ℤ x.offset; one_class = along (subst (λ u. Replicates host j (Reached w) u small.one.offset) v.is small.one.one_class) x.one_class; expanded = x.expanded }

    vertex : (d e : End) (x : Vertex) → standing n host (Reached w) ≡ Some d → standing n host small.node ≡ Some e → d.v ≡ e.v → d.v ≡ x → HasExpanded host j (Reached w)
    vertex d e (Host a) p q r t = absurd (switch-stands n host j w d a full.truth s p t)
    vertex d e (Switch a) p q r t = member (node-switch n host j small.node e a full.truth small.is_node q (sym r ∙ t))

    by : StandTogether n host (Reached w) small.node small.one.offset → HasExpanded host j (Reached w)
    by at = vertex at.at_u at.at_v at.at_u.v at.is_at_u at.is_at_v at.one_vertex refl

-- so each switch has an expanded member in its class
pub closing : (n : Network) (host depth : ℕ) (j : List Entry) (k : ℕ) → IsFull n host depth j k → has_vertex n (Host host) ≡ true → enough_depth n host ≤ k → IsClosed host j
closing n host depth j k full h deep = record { expanded = λ w s. by w s (small n host depth j k (length w) w full h deep (switch-node j w s) (omega arith)) }
  where
    by : (w : List ℤ) → IsSwitchNode j w → IsSmall host j (Reached w) (farthest n host) → HasExpanded host j (Reached w)
    by w s small = small-expanded n host depth j k w full deep s small
