-- What true answers say of nodes.
use Rattle.std.proofs.Common.{◌≡◌, ◌≢◌, ℕ, List, [], ◌∷◌, Bool, true, false, Option, Some, None, is_some, sym, ◌∙◌, subst, ap, refl, if◌then◌else◌}
use Rattle.std.specs.Prelude.{ℤ}
use Rattle.std.proofs.lemmas.Bool.{false≢true}
use Rattle.net_defs.specs.declared.vertex.Vertex.{Vertex}
use Rattle.net_defs.specs.declared.vertex.Vertex.TheVariants.{Host, Switch}
use Rattle.net_defs.specs.declared.vertex.End.{End}
use Rattle.net_defs.specs.declared.place.Answer.TheVariants.{Host as IsHost, Switch as IsSwitch, Nothing as IsNothing}
use Rattle.net_defs.specs.Network.{Network, IsFabric, far, has_port}
use Rattle.net_defs.specs.Route.{answer, answer_at, place_at, place_at_vertex, entered_after, host_port, IsEntered}
use Rattle.net_defs.proofs.Distinct.{all-weaker}
use Rattle.net_defs.proofs.Places.{far-there}
use Rattle.journal_defs.specs.declared.entry.Entry.{Entry}
use Rattle.net_defs.specs.Turn.{same_turns}
use Rattle.journal_defs.specs.Tree.{Node, IsNode, IsSwitchNode, answered, is_asked, host_of, host_in, is_found, has_found}
use Rattle.journal_defs.specs.Tree.Node.{Mapper, Reached}
use Rattle.journal_defs.specs.Truth.{IsTrueJournal, IsTrueWhereFound, standing}
use Rattle.net_defs.proofs.Turns.{same_turns-true}
use Rattle.net_defs.proofs.Cabling.{far-back}
use Rattle.journal_defs.proofs.Counted.{stuck}
use Rattle.map_laws.proofs.Keeping.{found-answer}

pub true-where : (n : Network) (host : ℕ) (j : List Entry) → IsTrueJournal n host j → IsTrueWhereFound n host j
true-where n host j all = all-weaker (λ e. e.answer ≡ answer n host e.walk) (λ e. e.answer ≢ IsNothing → e.answer ≡ answer n host e.walk) j (λ e p q. p) all

-- what was asked was answered truly
pub asked-true : (n : Network) (host : ℕ) (j : List Entry) (w : List ℤ) → IsTrueJournal n host j → is_asked j w ≡ true → answered j w ≡ Some (answer n host w)
asked-true n host [] w all e = absurd (false≢true e)
asked-true n host (x ∷ j) w all e = by (same_turns x.walk w) refl e (asked-true n host j w all.1)
  where
    by : (b : Bool) → same_turns x.walk w ≡ b → is_some (if b then Some x.answer else answered j w) ≡ true → (is_asked j w ≡ true → answered j w ≡ Some (answer n host w)) → (if b then Some x.answer else answered j w) ≡ Some (answer n host w)
    by true s f rest = ap Some (all.0 ∙ ap (answer n host) (same_turns-true x.walk w s))
    by false s f rest = rest f

pub node-asked : (j : List Entry) (w : List ℤ) → IsNode j (Reached w) → is_asked j w ≡ true
node-asked j w node = ap is_some (found-answer (answered j w) node).1

-- the answer to a walk that ends at a vertex
answer-there : (n : Network) (host : ℕ) (w : List ℤ) (d : End) (v : Vertex) → standing n host (Reached w) ≡ Some d → d.v ≡ v → answer n host w ≡ answer_at (place_at_vertex v d.p)
answer-there n host w d v is e = ap (λ o. answer_at (place_at o)) is ∙ ap (λ x. answer_at (place_at_vertex x d.p)) e

-- a walk that was asked and ends at a vertex is a node
pub stands-node : (n : Network) (host : ℕ) (j : List Entry) (w : List ℤ) (d : End) → IsTrueJournal n host j → is_asked j w ≡ true → standing n host (Reached w) ≡ Some d → IsNode j (Reached w)
stands-node n host j w d all e is = by d.v refl
  where
    by : (v : Vertex) → d.v ≡ v → IsNode j (Reached w)
    by (Host h) q = ap has_found (asked-true n host j w all e) ∙ ap is_found (answer-there n host w d (Host h) is q)
    by (Switch s) q = ap has_found (asked-true n host j w all e) ∙ ap is_found (answer-there n host w d (Switch s) is q)

-- a node at a host is a host, and one at a switch a switch
pub node-host : (n : Network) (host : ℕ) (j : List Entry) (u : Node) (d : End) (a : ℕ) → IsTrueJournal n host j → IsNode j u → standing n host u ≡ Some d → d.v ≡ Host a → host_of host j u ≡ Some a
node-host n host j Mapper d a all node is q = let own : host_port host ≡ d = cc in let v : Host host ≡ Host a = ap (λ (e : End). e.v) own ∙ q in let one : host ≡ a = cc in ap Some one
node-host n host j (Reached w) d a all node is q = ap host_in (asked-true n host j w all (node-asked j w node)) ∙ ap (λ x. host_in (Some x)) (answer-there n host w d (Host a) is q)

-- a node at a switch was reached by a walk
pub record IsWalk (j : List Entry) (u : Node) : Type 0 where
  pub walk : List ℤ
  pub is : u ≡ Reached walk
  pub switch : IsSwitchNode j walk

pub node-switch : (n : Network) (host : ℕ) (j : List Entry) (u : Node) (d : End) (s : ℕ) → IsTrueJournal n host j → IsNode j u → standing n host u ≡ Some d → d.v ≡ Switch s → IsWalk j u
node-switch n host j Mapper d s all node is q = let own : host_port host ≡ d = cc in let v : Host host ≡ Switch s = ap (λ (e : End). e.v) own ∙ q in cc
node-switch n host j (Reached w) d s all node is q = record { walk = w; is = refl; switch = asked-true n host j w all (node-asked j w node) ∙ ap Some (answer-there n host w d (Switch s) is q) }

-- and the other way: a switch node stands at a switch
pub switch-stands : (n : Network) (host : ℕ) (j : List Entry) (w : List ℤ) (d : End) (a : ℕ) → IsTrueJournal n host j → IsSwitchNode j w → standing n host (Reached w) ≡ Some d → d.v ≢ Host a
switch-stands n host j w d a all s is q =
    let told : Some IsSwitch ≡ Some (IsHost a) = sym s ∙ asked-true n host j w all (ap is_some s) ∙ ap Some (answer-there n host w d (Host a) is q) in
    cc

-- both ends of a cable are ports of the fabric
pub port-there : (n : Network) (d e : End) → IsFabric n → far n d ≡ Some e → has_port n d ≡ true
port-there n d e f c = subst (IsEntered n) (far-back n d e f c) (far-there n e f)

-- where a node stands beyond the mapper's host, the host's cable leads to a node
pub first-stands : (n : Network) (host : ℕ) (j : List Entry) (w : List ℤ) (d : End) → IsTrueJournal n host j → is_asked j [] ≡ true → standing n host (Reached w) ≡ Some d → IsNode j (Reached [])
first-stands n host j w d all started is = by (far n (host_port host)) refl is
  where
    by : (o : Option End) → far n (host_port host) ≡ o → entered_after n o w ≡ Some d → IsNode j (Reached [])
    by None p q = let none : None ≡ Some d = sym (stuck n w) ∙ q in cc
    by (Some e) p q = stands-node n host j [] e all started p
