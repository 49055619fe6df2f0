-- Each node of the whole tree stands at the end of a way over different cables, over which the tree leads to it.
use Rattle.std.proofs.Common.{◌≡◌, ◌≤◌, ℕ, zero, suc, List, [], ◌∷◌, ◌++◌, Bool, true, false, Some, None, Option, sym, ◌∙◌, subst, ap, refl, arith, if◌then◌else◌, length, is_some}
use Rattle.std.specs.Prelude.{ℤ, pos, ◌+ℤ◌, map, option_and_then}
use Rattle.net_defs.specs.declared.vertex.Vertex.{Vertex}
use Rattle.net_defs.specs.declared.vertex.Vertex.TheVariants.{Host, Switch}
use Rattle.net_defs.specs.declared.vertex.End.{End}
use Rattle.net_defs.specs.Network.{Network, IsFabric, far}
use Rattle.net_defs.specs.declared.place.Place.TheVariants.{Host as AtHost, Switch as AtSwitch, Nothing as Stuck}
use Rattle.net_defs.specs.declared.place.Answer.TheVariants.{Switch as IsSwitch}
use Rattle.net_defs.specs.Route.{host_port, turned, exit_at, channels_of, crossing, answer_at, place_at, place_at_vertex}
use Rattle.journal_defs.specs.declared.entry.Entry.{Entry}
use Rattle.journal_defs.specs.Tree.{IsNode, IsSwitchNode, is_asked, answered, is_found, has_found}
use Rattle.journal_defs.specs.Tree.Node.{Mapper, Reached}
use Rattle.journal_defs.specs.Tree.Leads.{onward, out}
use Rattle.journal_defs.specs.Truth.{standing}
use Rattle.journal_defs.proofs.Standing.{answered-true, node-stands, entered-push, plus_zero}
use Rattle.net_defs.proofs.Cabling.{exit-leaves}
use Rattle.map_laws.proofs.Asks.{ByLast, by_last, push-length, switch-node}
use Rattle.map_laws.proofs.Asks.ByLast.{empty, pushed}
use Rattle.map_laws.proofs.Truly.{node-asked}
use Rattle.map_laws.proofs.Keeping.{found-answer}
use Rattle.circ_laws.proofs.Lifts.{Crossed, Lift, lift-push}
use Rattle.circ_laws.proofs.Walking.{asked-circuit}
use Rattle.circ_laws.proofs.Telling.{circuit-true}
use Rattle.circ_defs.specs.Circuit.{IsCircuitJournal, IsWholeTree, are_apart, cable_of, circuit_answer, held_place}
use Rattle.circ_defs.specs.Ways.{IsStep, IsWay, Step, cables_on}
use Rattle.circ_defs.proofs.Cables.{cable_of-push, channels-push, far-joins, joins-channel}
use Rattle.circ_defs.proofs.Ways.{cables-push, way-push}

-- the way to a node
pub record Trace (n : Network) (host : ℕ) (j : List Entry) (w : List ℤ) (d : End) : Type 0 where
  pub steps : List Step
  pub way : IsWay n (Host host) steps d.v
  pub lift : Lift n host j Mapper steps (Reached w)
  pub cables : cables_on steps ≡ map cable_of (channels_of n host w)

-- a trace with one step more
pub record Pushed (n : Network) (host : ℕ) (j : List Entry) (v w : List ℤ) (d e : End) (before : List Step) : Type 0 where
  pub step : Step
  pub is_step : IsStep n step
  pub out : step.out.v ≡ d.v
  pub into : step.into.v ≡ e.v
  pub trace : Trace n host j w e
  pub steps : trace.steps ≡ before ++ step ∷ []

-- the end by which a turn leaves
record Leaves (n : Network) (d e : End) (t : ℤ) : Type 0 where
  pub by : End
  pub exit : exit_at n d.v d.p t ≡ Some by
  pub vertex : by.v ≡ d.v
  pub sum : pos by.p ≡ pos d.p +ℤ t
  pub cable : far n by ≡ Some e

leaves-by : (n : Network) (d e : End) (t : ℤ) → turned n (Some d) t ≡ Some e → Leaves n d e t
leaves-by n d e t f = by (exit_at n d.v d.p t) refl f
  where
    by : (x : Option End) → exit_at n d.v d.p t ≡ x → option_and_then (far n) x ≡ Some e → Leaves n d e t
    by None p g = cc
    by (Some y) p g =
        let l = exit-leaves n d.v d.p t y p in
        record { by = y; exit = p; vertex = ap (λ (x : End). x.v) l.is; sum = ap (λ (x : End). pos x.p) l.is ∙ l.sum; cable = g }

trace-first : (n : Network) (host : ℕ) (j : List Entry) (d : End) → IsFabric n → IsNode j (Reached []) → standing n host (Reached []) ≡ Some d → Pushed n host j [] [] (host_port host) d []
trace-first n host j d f node is =
    let k = far-joins n (host_port host) d is in
    let c = joins-channel n k.cable (host_port host) d f k.joins in
    let s : Step = record { cable = k.cable; out = host_port host; into = d } in
    let over : Crossed n host j Mapper s.out (Reached []) s.into = record { turn = pos 0; port = pos 0; leads = out node; at_from = host_port host; at_to = d; from_stands = refl; to_stands = is; from_there = refl; to_there = refl; leaves = refl; enters = plus_zero d.p } in
    let crosses : channels_of n host [] ≡ c.channel ∷ [] = rw c.is refl in
    record { step = s; is_step = k.joins; out = refl; into = refl; steps = refl; trace = record { steps = s ∷ []; way = (k.joins, refl, refl); lift = (Reached [], over, refl); cables = ap (λ i. i ∷ []) (sym c.half_is) ∙ ap (map cable_of) (sym crosses) } }

pub trace-push : (n : Network) (host : ℕ) (j : List Entry) (v : List ℤ) (t : ℤ) (d e : End) → IsFabric n → (r : Trace n host j v d) → IsNode j (Reached v) → IsNode j (Reached (v ++ t ∷ [])) → standing n host (Reached v) ≡ Some d → standing n host (Reached (v ++ t ∷ [])) ≡ Some e → Pushed n host j v (v ++ t ∷ []) d e r.steps
trace-push n host j v t d e f r node child is at =
    let l = leaves-by n d e t (ap (λ o. turned n o t) (sym is) ∙ sym (entered-push n (far n (host_port host)) v t) ∙ at) in
    let k = far-joins n l.by e l.cable in
    let c = joins-channel n k.cable l.by e f k.joins in
    let s : Step = record { cable = k.cable; out = l.by; into = e } in
    let over : Crossed n host j (Reached v) s.out (Reached (v ++ t ∷ [])) s.into = record { turn = t; port = pos 0; leads = onward node child refl; at_from = d; at_to = e; from_stands = is; to_stands = at; from_there = sym l.vertex; to_there = refl; leaves = l.sum; enters = plus_zero e.p } in
    let crosses : crossing n (Some l.by) ≡ c.channel ∷ [] = rw c.is refl in
    let channels : channels_of n host (v ++ t ∷ []) ≡ channels_of n host v ++ c.channel ∷ [] =
    channels-push n (Some (host_port host)) v t
    ∙ ap (λ o. channels_of n host v ++ crossing n (option_and_then (λ x. exit_at n x.v x.p t) o)) is
    ∙ ap (λ o. channels_of n host v ++ crossing n o) l.exit
    ∙ ap (λ i. channels_of n host v ++ i) crosses in
    record {
      step = s;
      is_step = k.joins;
      out = l.vertex;
      into = refl;
      steps = refl;
      trace = record {
        steps = r.steps ++ s ∷ [];
        way = way-push n (Host host) r.steps s (subst (IsWay n (Host host) r.steps) (sym l.vertex) r.way) k.joins;
        lift = lift-push n host j Mapper r.steps s (Reached v) (Reached (v ++ t ∷ [])) r.lift over;
        cables = cables-push r.steps s ∙ ap (λ i. i ++ k.cable ∷ []) r.cables ∙ ap (λ i. map cable_of (channels_of n host v) ++ i ∷ []) (sym c.half_is) ∙ sym (cable_of-push (channels_of n host v) c.channel) ∙ ap (map cable_of) (sym channels);
      };
    }

-- the parent of a node
pub record Parent (n : Network) (host : ℕ) (j : List Entry) (w : List ℤ) : Type 0 where
  pub before : List ℤ
  pub turn : ℤ
  pub is : w ≡ before ++ turn ∷ []
  pub shorter : length w ≡ suc (length before)
  pub switch : IsSwitchNode j before
  pub at : End
  pub stands : standing n host (Reached before) ≡ Some at

pub parent-of : (n : Network) (host depth : ℕ) (j : List Entry) (w v : List ℤ) (t : ℤ) → IsWholeTree n host depth j → IsNode j (Reached w) → w ≡ v ++ t ∷ [] → Parent n host j w
parent-of n host depth j w v t tree node e =
    let up = tree.only v t (subst (λ x. is_asked j x ≡ true) e (node-asked j w node)) in
    let at = node-stands n host j (Reached v) (circuit-true n host j tree.circuit) (switch-node j v up.0) in
    record { before = v; turn = t; is = e; shorter = ap length e ∙ push-length v t; switch = up.0; at = at.at; stands = at.is }

pub pushed-on : (n : Network) (host : ℕ) (j : List Entry) (w : List ℤ) (d : End) → IsFabric n → IsNode j (Reached w) → standing n host (Reached w) ≡ Some d → (p : Parent n host j w) → (r : Trace n host j p.before p.at) → Pushed n host j p.before w p.at d r.steps
pushed-on n host j w d f node is p r =
    subst (λ x. Pushed n host j p.before x p.at d r.steps) (sym p.is) (trace-push n host j p.before p.turn p.at d f r (switch-node j p.before p.switch) (subst (λ x. IsNode j (Reached x)) p.is node) p.stands (subst (λ x. standing n host (Reached x) ≡ Some d) p.is is))

trace-on : (n : Network) (host : ℕ) (j : List Entry) (w : List ℤ) (d : End) → IsFabric n → IsNode j (Reached w) → standing n host (Reached w) ≡ Some d → (p : Parent n host j w) → Trace n host j p.before p.at → Trace n host j w d
trace-on n host j w d f node is p before =
    (pushed-on n host j w d f node is p before).trace

pub trace-empty : (n : Network) (host : ℕ) (j : List Entry) (w : List ℤ) (d : End) → IsFabric n → IsNode j (Reached w) → standing n host (Reached w) ≡ Some d → w ≡ [] → Pushed n host j [] w (host_port host) d []
trace-empty n host j w d f node is e = subst (λ x. Pushed n host j [] x (host_port host) d []) (sym e) (trace-first n host j d f (subst (λ x. IsNode j (Reached x)) e node) (subst (λ x. standing n host (Reached x) ≡ Some d) e is))

pub trace-of : (n : Network) (host depth : ℕ) (j : List Entry) (m : ℕ) (w : List ℤ) (d : End) → IsFabric n → IsWholeTree n host depth j → IsNode j (Reached w) → standing n host (Reached w) ≡ Some d → length w ≤ m → Trace n host j w d
trace-of n host depth j zero w d f tree node is l = by (by_last w)
  where
    by : ByLast w → Trace n host j w d
    by (empty e) = (trace-empty n host j w d f node is e).trace
    by (pushed v t e) = let long : length w ≡ suc (length v) = ap length e ∙ push-length v t in absurd (omega arith)
trace-of n host depth j (suc m) w d f tree node is l = by (by_last w) (λ v e. trace-of n host depth j m v e f tree)
  where
    by : ByLast w → ((v : List ℤ) (e : End) → IsNode j (Reached v) → standing n host (Reached v) ≡ Some e → length v ≤ m → Trace n host j v e) → Trace n host j w d
    by (empty e) rest = (trace-empty n host j w d f node is e).trace
    by (pushed v t e) rest =
        let long : length w ≡ suc (length v) = ap length e ∙ push-length v t in
        let p = parent-of n host depth j w v t tree node e in
        let short = p.shorter in
        trace-on n host j w d f node is p (rest p.before p.at (switch-node j p.before p.switch) p.stands (omega arith))

-- a switch that was told was reached over different cables
pub switch-apart : (n : Network) (host : ℕ) (j : List Entry) (w : List ℤ) (d : End) → IsCircuitJournal n host j → IsSwitchNode j w → standing n host (Reached w) ≡ Some d → are_apart (map cable_of (channels_of n host w)) ≡ true
switch-apart n host j w d all s is =
    let told : Some IsSwitch ≡ Some (circuit_answer n host w) = sym s ∙ asked-circuit n host j w all (ap is_some s) in
    let one : circuit_answer n host w ≡ IsSwitch = cc in
    by d.v (sym (ap (λ o. answer_at (held_place (channels_of n host w) (place_at o))) is) ∙ one)
  where
    by : (v : Vertex) → answer_at (held_place (channels_of n host w) (place_at_vertex v d.p)) ≡ IsSwitch → are_apart (map cable_of (channels_of n host w)) ≡ true
    by (Host h) e = not_host (are_apart (channels_of n host w)) e
      where
        not_host : (b : Bool) → answer_at (if b then AtHost h else Stuck) ≡ IsSwitch → are_apart (map cable_of (channels_of n host w)) ≡ true
        not_host true e = cc
        not_host false e = cc
    by (Switch k) e = held_so (are_apart (map cable_of (channels_of n host w))) refl e
      where
        held_so : (b : Bool) → are_apart (map cable_of (channels_of n host w)) ≡ b → answer_at (if b then AtSwitch k d.p else Stuck) ≡ IsSwitch → are_apart (map cable_of (channels_of n host w)) ≡ true
        held_so true p e = p
        held_so false p e = cc

-- a node at a switch was told a switch
pub node-switch-circuit : (n : Network) (host : ℕ) (j : List Entry) (w : List ℤ) (d : End) (s : ℕ) → IsCircuitJournal n host j → IsNode j (Reached w) → standing n host (Reached w) ≡ Some d → d.v ≡ Switch s → IsSwitchNode j w
node-switch-circuit n host j w d s all node is e =
    let told = found-answer (answered j w) node in
    let found : is_found told.0 ≡ true = ap has_found (sym told.1) ∙ node in
    told.1 ∙ ap Some (answered-true n host j w told.0 (circuit-true n host j all) told.1 found ∙ ap (λ o. answer_at (place_at o)) is ∙ ap (λ y. answer_at (place_at_vertex y d.p)) e)
