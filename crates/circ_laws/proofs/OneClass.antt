-- Two nodes that stand at one vertex of the core are replicates.
use Rattle.std.proofs.Common.{◌≡◌, ℕ, List, [], ◌∷◌, ◌++◌, Some, sym, ◌∙◌, subst, ap, refl, arith, length}
use Rattle.std.specs.Prelude.{ℤ}
use Rattle.net_defs.specs.declared.vertex.Vertex.{Vertex}
use Rattle.net_defs.specs.declared.vertex.Vertex.TheVariants.{Host, Switch}
use Rattle.net_defs.specs.declared.vertex.End.{End}
use Rattle.net_defs.specs.Network.{Network, IsFabric}
use Rattle.net_defs.specs.Route.{host_port}
use Rattle.journal_defs.specs.declared.entry.Entry.{Entry}
use Rattle.journal_defs.specs.Tree.{Node, IsNode, IsSwitchNode}
use Rattle.journal_defs.specs.Tree.Node.{Mapper, Reached}
use Rattle.journal_defs.specs.Truth.{standing}
use Rattle.map_laws.proofs.Asks.{ByLast, by_last, switch-node}
use Rattle.map_laws.proofs.Asks.ByLast.{empty, pushed}
use Rattle.circ_laws.specs.ClassLaws.{CoreVertexHasOneClass}
use Rattle.circ_laws.proofs.Lifts.{Lift}
use Rattle.circ_laws.proofs.Tracing.{Trace, node-switch-circuit, parent-of, pushed-on, switch-apart, trace-empty, trace-of}
use Rattle.circ_laws.proofs.Telling.{circuit-true}
use Rattle.circ_laws.proofs.Listed.{list-sheet}
use Rattle.circ_laws.proofs.Sheets.{one-class}
use Rattle.circ_defs.specs.Ways.{AreAmong, IsOneOf, IsWay, Step, cables_on}
use Rattle.circ_defs.specs.Cores.{IsCore, IsCoreCable, IsCutOff}
use Rattle.circ_defs.specs.Circuit.{IsWholeTree, are_apart}
use Rattle.circ_defs.specs.PathList.{cables_of}
use Rattle.circ_defs.proofs.Ways.{ArePassed}
use Rattle.circ_defs.proofs.Sides.{all-kept, beside-host, host-kept, own-part, passed-core, passed-part}

passed-push : (P : Vertex → Type 0) (ss : List Step) (s : Step) → ArePassed P ss → P s.out.v → P s.into.v → ArePassed P (ss ++ s ∷ [])
passed-push P [] s a b c = (b, c, tt)
passed-push P (i ∷ ss) s a b c = (a.0, a.1, passed-push P ss s a.2 b c)

-- a trace over the core
pub record CoreTrace (n : Network) (host : ℕ) (j : List Entry) (gs : List ℕ) (u : Node) (x : Vertex) : Type 0 where
  pub steps : List Step
  pub way : IsWay n (Host host) steps x
  pub lift : Lift n host j Mapper steps u
  pub among : AreAmong (cables_on steps) gs

switch-kept : (n : Network) (host depth : ℕ) (j : List Entry) (w : List ℤ) (d : End) → IsFabric n → IsWholeTree n host depth j → IsSwitchNode j w → standing n host (Reached w) ≡ Some d → ¬ IsCutOff n d.v → (r : Trace n host j w d) × ArePassed (λ v. ¬ IsCutOff n v) r.steps
switch-kept n host depth j w d f tree s is kept =
    let r = trace-of n host depth j (length w) w d f tree (switch-node j w s) is (omega arith) in
    (r, all-kept n host (Host host) d.v [] r.steps refl r.way (ap are_apart r.cables ∙ switch-apart n host j w d tree.circuit s is) kept)

core-of : (n : Network) (host depth : ℕ) (j : List Entry) (gs : List ℕ) (w : List ℤ) (d : End) → IsFabric n → IsWholeTree n host depth j → ((k : ℕ) → IsCoreCable n host k → IsOneOf k gs) → (r : Trace n host j w d) → ArePassed (λ v. ¬ IsCutOff n v) r.steps → CoreTrace n host j gs (Reached w) d.v
core-of n host depth j gs w d f tree all r kept = record {
  steps = r.steps;
  way = r.way;
  lift = r.lift;
  among = passed-core n host (Host host) d.v gs r.steps r.way (passed-part n host (Host host) d.v r.steps f (own-part n host) r.way) kept all;
}

-- a node at a host was reached from a switch that isn't cut off, or is the first
host-trace : (n : Network) (host depth : ℕ) (j : List Entry) (gs : List ℕ) (w : List ℤ) (d : End) (h : ℕ) → IsFabric n → IsWholeTree n host depth j → ((k : ℕ) → IsCoreCable n host k → IsOneOf k gs) → IsNode j (Reached w) → standing n host (Reached w) ≡ Some d → d.v ≡ Host h → CoreTrace n host j gs (Reached w) d.v
host-trace n host depth j gs w d h f tree all node is v = by (by_last w)
  where
    there : ¬ IsCutOff n d.v
    there = subst (λ y. ¬ IsCutOff n y) (sym v) (host-kept n h)

    by : ByLast w → CoreTrace n host j gs (Reached w) d.v
    by (empty e) =
        let r = trace-empty n host j w d f node is e in
        core-of n host depth j gs w d f tree all r.trace (subst (ArePassed (λ y. ¬ IsCutOff n y)) (sym r.steps) (subst (λ y. ¬ IsCutOff n y) (sym r.out) (host-kept n host), subst (λ y. ¬ IsCutOff n y) (sym r.into) there, tt))
    by (pushed before t e) =
        let p = parent-of n host depth j w before t tree node e in
        let r = trace-of n host depth j (length p.before) p.before p.at f tree (switch-node j p.before p.switch) p.stands (omega arith) in
        let q = pushed-on n host j w d f node is p r in
        let up : ¬ IsCutOff n p.at.v = beside-host n p.at.v q.step h q.is_step q.out (q.into ∙ v) in
        let k = all-kept n host (Host host) p.at.v [] r.steps refl r.way (ap are_apart r.cables ∙ switch-apart n host j p.before p.at tree.circuit p.switch p.stands) up in
        core-of n host depth j gs w d f tree all q.trace (subst (ArePassed (λ y. ¬ IsCutOff n y)) (sym q.steps) (passed-push (λ y. ¬ IsCutOff n y) r.steps q.step k (subst (λ y. ¬ IsCutOff n y) (sym q.out) up) (subst (λ y. ¬ IsCutOff n y) (sym q.into) there)))

-- each node that stands in the core came over the core
pub core-trace : (n : Network) (host depth : ℕ) (j : List Entry) (gs : List ℕ) (u : Node) (d : End) → IsFabric n → IsWholeTree n host depth j → ((k : ℕ) → IsCoreCable n host k → IsOneOf k gs) → IsNode j u → standing n host u ≡ Some d → IsCore n host d.v → CoreTrace n host j gs u d.v
core-trace n host depth j gs Mapper d f tree all node is core =
    let own : host_port host ≡ d = cc in
    record { steps = []; way = ap (λ (e : End). e.v) own; lift = refl; among = tt }
core-trace n host depth j gs (Reached w) d f tree all node is core = by d.v refl
  where
    by : (v : Vertex) → d.v ≡ v → CoreTrace n host j gs (Reached w) d.v
    by (Host h) e = host-trace n host depth j gs w d h f tree all node is e
    by (Switch s) e =
        let told = node-switch-circuit n host j w d s tree.circuit node is e in
        let k = switch-kept n host depth j w d f tree told is core.kept in
        core-of n host depth j gs w d f tree all k.0 k.1

pub core_vertex_has_one_class : CoreVertexHasOneClass
core_vertex_has_one_class n host depth j es u v d e f tree list deep a b is at one core =
    let x = core-trace n host depth j (cables_of es) u d f tree list.all a is core in
    let y = core-trace n host depth j (cables_of es) v e f tree list.all b at (subst (IsCore n host) one core) in
    let sheet = list-sheet n host depth j es f tree list.list deep in
    let r = one-class n host j (cables_of es) x.steps y.steps d.v u v f (circuit-true n host j tree.circuit) sheet x.way x.lift x.among (subst (IsWay n (Host host) y.steps) (sym one) y.way) y.lift y.among in
    (r.offset, r.one_class)
