-- From the parts to the map of a journal.
use Rattle.std.proofs.Common.{◌≡◌, ◌<◌, ◌+◌, ◌*◌, ℕ, List, [], ◌∷◌, ◌++◌, map, Bool, true, false, length, is_some, Option, Some, None, refl, ap, sym, ◌∙◌, subst, arith, if◌then◌else◌}
use Rattle.std.specs.Prelude.{ℤ, pos, slice_get}
use Rattle.journal_defs.specs.declared.entry.Entry.{Entry}
use Rattle.journal_defs.specs.Tree.{Node, IsJournal, IsNode, host_of, nodes}
use Rattle.journal_defs.specs.Tree.Node.{Reached}
use Rattle.journal_defs.specs.Tree.Leads.{onward}
use Rattle.journal_defs.proofs.Standing.{node-stands, leads-crosses, port-below, turn-between}
use Rattle.map_defs.specs.declared.vertex.MapCable.{MapCable}
use Rattle.map_defs.specs.declared.vertex.MapVertex.{MapVertex}
use Rattle.map_defs.specs.NetMap.{NetMap, IsMap, IsCabled, AreInOrder, first_end, map_far}
use Rattle.map_defs.specs.Quotient.{IsQuotient, named}
use Rattle.map_laws.proofs.Truly.{port-there}
use Rattle.map_laws.proofs.Crossing.{below-ports}
use Rattle.fabric_map.specs.Growing.{with_cable}
use Rattle.replicate_merge.specs.Table.{ClassTable, IsTrueOfOne}
use Rattle.replicate_merge.specs.Ways.{node_at}
use Rattle.replicate_merge.specs.Nodes.{nodes_of}
use Rattle.replicate_merge.proofs.Nodes.{at-node}
use Rattle.replicate_merge.proofs.Telling.{walk-node, count-nodes}
use Rattle.replicate_merge.proofs.Finding.{few-walks}
use Rattle.map_quotient.specs.Numbering.{AreVertices}
use Rattle.map_quotient.specs.Naming.{bare_map, vertices_of}
use Rattle.map_quotient.specs.Joining.{joined_by, JoinsBelow, HaveVertices, EndInTurns}
use Rattle.map_quotient.specs.Joining.JoinsBelow.{start, next}
use Rattle.map_quotient.specs.InOrder.{in_order}
use Rattle.map_quotient.proofs.Ordered.{below-in_order, ordered-only, ordered-each}
use Rattle.map_quotient.proofs.Standing.{AreOf, least_nodes, each_least, in_order as in_node_order, covered}
use Rattle.map_quotient.proofs.Told.{told-only, told-whole}

-- cables leave vertices and marks
joined-frame : (m : NetMap) (o : Option MapCable) → ((joined_by m o).vertices ≡ m.vertices) × ((joined_by m o).core ≡ m.core)
joined-frame m None = (refl, refl)
joined-frame m (Some c) = by (is_some (map_far m (first_end c)))
  where
    by : (b : Bool) → ((if b then m else with_cable m c).vertices ≡ m.vertices) × ((if b then m else with_cable m c).core ≡ m.core)
    by true = (refl, refl)
    by false = (refl, refl)

pub joins-frame : (walks : List (List ℤ)) (c : ClassTable) (vertices : List (Option ℕ)) (first : NetMap) (k : ℕ) (m : NetMap) → JoinsBelow walks c vertices first k m → (m.vertices ≡ first.vertices) × (m.core ≡ first.core)
joins-frame walks c vertices first k m (start x is) = (ap (λ (y : NetMap). y.vertices) is, ap (λ (y : NetMap). y.core) is)
joins-frame walks c vertices first k m (next i at old new w o z before s told is) =
    let rest = joins-frame walks c vertices first at old before in
    let own = joined-frame old o in
    (ap (λ (y : NetMap). y.vertices) is ∙ own.0 ∙ rest.0, ap (λ (y : NetMap). y.core) is ∙ own.1 ∙ rest.1)

-- numbers of nodes fit
pub few-nodes : (j : List Entry) (walks : List (List ℤ)) → nodes_of walks ≡ nodes j → length j < 4294967295 → length walks + 1 < 4294967296
few-nodes j walks e few = let l = few-walks j walks e in omega arith

pub few-in-table : (j : List Entry) (walks : List (List ℤ)) (ns : List Node) → nodes_of walks ≡ nodes j → ns ≡ nodes j → length j < 4294967295 → length ns < 4294967296
few-in-table j walks ns e is few = let l = few-walks j walks e in let c = count-nodes walks in let n : length ns ≡ length (nodes_of walks) = ap length (is ∙ sym e) in omega arith

pub vertices-of-all : (c : ClassTable) (least : List ℕ) (vertices : List (Option ℕ)) → AreVertices c least vertices → HaveVertices c vertices
vertices-of-all c least vertices a n l = let h = a.whole n l in (h.vertex, h.is_vertex)

-- what a walk ends with is a turn: a fabric's ports are fewer than 16
pub end-in-turns : (host : ℕ) (j : List Entry) (walks : List (List ℤ)) → IsTrueOfOne host j → IsJournal j → nodes_of walks ≡ nodes j → EndInTurns walks
end-in-turns host j walks t once e at m front turn a b =
    let w = front ++ turn ∷ [] in
    let node = there at w a in
    let before = there m front b in
    let from = node-stands t.fabric host j (Reached front) t.told before in
    let to = node-stands t.fabric host j (Reached w) t.told node in
    let over = leads-crosses t.fabric host j (Reached front) (Reached w) turn (pos 0) from.at to.at t.is_fabric (onward before node refl) from.is to.is in
    let port = port-there t.fabric (record { v = from.at.v; p = over.leaves }) (record { v = to.at.v; p = over.enters }) t.is_fabric over.cable in
    turn-between over.leaves from.at.p turn (below-ports t.fabric (record { v = from.at.v; p = over.leaves }) t.is_fabric port) (port-below t.fabric host (Reached front) from.at t.is_fabric from.is) over.leaves_by
  where
    there : (k : ℕ) (w : List ℤ) → slice_get walks k ≡ Some w → IsNode j (Reached w)
    there k w s =
        let p = subst (λ (ns : List Node). (k + 1 < length ns) × (node_at ns (k + 1) ≡ Reached w)) e (walk-node walks k w s) in
        subst (IsNode j) p.1 (at-node j once (k + 1) p.0)

pub map-twice : (f : Node → Option ℕ) (g : ℕ → Node) (ns : List ℕ) → map (λ n. f (g n)) ns ≡ map f (map g ns)
map-twice f g [] = refl
map-twice f g (n ∷ ns) = ap (λ l. f (g n) ∷ l) (map-twice f g ns)

pub is-quotient : (host : ℕ) (j : List Entry) (walks : List (List ℤ)) (c : ClassTable) (least : List ℕ) (vertices : List (Option ℕ)) (g : AreOf host j c least vertices) → (walked : nodes_of walks ≡ c.nodes) → (bare loose m : NetMap) → bare ≡ bare_map (vertices_of host j walks least) → JoinsBelow walks c vertices bare (length walks) loose → IsMap loose → m ≡ in_order loose → IsQuotient host j m
is-quotient host j walks c least vertices g walked bare loose m is joins is_map ordered = record {
  least = least_nodes host j c least vertices g;
  each_least = each_least host j c least vertices g;
  in_order = in_node_order host j c least vertices g;
  covered = covered host j c least vertices g;
  vertices = all_vertices ∙ ap (named 0) (map-twice (host_of host j) (λ n. node_at (nodes_of walks) n) least ∙ ap (λ (ns : List Node). map (host_of host j) (map (λ n. node_at ns n) least)) walked);
  cabled = λ d e. (
    (λ q. told-only host j walks c least vertices g walked bare no_cables (length walks) loose joins d e (ordered-only loose is_map d e (subst (λ (y : NetMap). IsCabled y d e) ordered q))),
    (λ l. subst (λ (y : NetMap). IsCabled y d e) (sym ordered) (ordered-each loose is_map d e (told-whole host j walks c least vertices g walked bare no_cables loose joins d e l))),
  );
  cables_in_order = subst AreInOrder (sym (ap (λ (y : NetMap). y.cables) ordered)) (below-in_order loose (31 * length loose.vertices));
  unmarked = ap (λ (y : NetMap). y.core) ordered ∙ frame.1 ∙ ap (λ (y : NetMap). y.core) is ∙ ap (map (λ (v : MapVertex). true)) (sym all_vertices);
}
  where
    no_cables : bare.cables ≡ []
    no_cables = ap (λ (y : NetMap). y.cables) is

    frame : (loose.vertices ≡ bare.vertices) × (loose.core ≡ bare.core)
    frame = joins-frame walks c vertices bare (length walks) loose joins

    all_vertices : m.vertices ≡ vertices_of host j walks least
    all_vertices = ap (λ (y : NetMap). y.vertices) ordered ∙ frame.0 ∙ ap (λ (y : NetMap). y.vertices) is
