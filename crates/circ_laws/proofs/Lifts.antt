-- Ways of the fabric that are ways of a journal's tree, and how what lies over one cable is one class.
use Rattle.std.proofs.Common.{◌≡◌, ℕ, List, [], ◌∷◌, ◌++◌, true, Some, sym, ◌∙◌, subst, ap, refl, arith}
use Rattle.std.specs.Prelude.{ℤ, pos, ◌+ℤ◌}
use Rattle.std.proofs.lemmas.Int.{ints}
use Rattle.net_defs.specs.declared.vertex.Vertex.TheVariants.{Host}
use Rattle.net_defs.specs.declared.vertex.End.{End}
use Rattle.net_defs.specs.declared.place.Answer.{Answer}
use Rattle.net_defs.specs.Network.{Network, IsFabric}
use Rattle.net_defs.specs.Route.{host_port, answer, answer_at, place_at, place_at_vertex}
use Rattle.journal_defs.specs.declared.entry.Entry.{Entry}
use Rattle.journal_defs.specs.Tree.{Node, Leads, IsNode, answered, host_of, host_in, has_found, is_found}
use Rattle.journal_defs.specs.Tree.Node.{Mapper, Reached}
use Rattle.journal_defs.specs.Replicates.Replicates.{one_host}
use Rattle.journal_defs.specs.Truth.{IsTrueWhereFound, standing}
use Rattle.journal_defs.proofs.Standing.{stand, same_end-of, answered-true}
use Rattle.map_laws.proofs.Full.{AreOne, leads-back, behind-port}
use Rattle.map_laws.proofs.Keeping.{found-answer}
use Rattle.circ_defs.specs.Ways.{Step}

-- A journal leads from a node to another over a cable of the fabric: out of one end, into the other.
pub record Crossed (n : Network) (host : ℕ) (j : List Entry) (u : Node) (d : End) (v : Node) (e : End) : Type 0 where
  pub turn : ℤ
  pub port : ℤ
  pub leads : Leads j u turn v port
  pub at_from : End
  pub at_to : End
  pub from_stands : standing n host u ≡ Some at_from
  pub to_stands : standing n host v ≡ Some at_to
  pub from_there : at_from.v ≡ d.v
  pub to_there : at_to.v ≡ e.v
  pub leaves : pos d.p ≡ pos at_from.p +ℤ turn
  pub enters : pos e.p ≡ pos at_to.p +ℤ port

pub crossed-back : (n : Network) (host : ℕ) (j : List Entry) (u v : Node) (d e : End) → Crossed n host j u d v e → Crossed n host j v e u d
crossed-back n host j u v d e c = record {
  turn = c.port;
  port = c.turn;
  leads = leads-back j u v c.turn c.port c.leads;
  at_from = c.at_to;
  at_to = c.at_from;
  from_stands = c.to_stands;
  to_stands = c.from_stands;
  from_there = c.to_there;
  to_there = c.from_there;
  leaves = c.enters;
  enters = c.leaves;
}

other-port : (x a b : ℕ) (i l k : ℤ) → pos x ≡ pos a +ℤ i → pos x ≡ pos b +ℤ l → pos a ≡ pos b +ℤ k → l ≡ i +ℤ k
other-port x a b i l k e f g = omega (arith, ints)

-- what lies over one cable of two replicates is one class
pub over-one : (n : Network) (host : ℕ) (j : List Entry) (u v a b : Node) (d e : End) → IsFabric n → IsTrueWhereFound n host j → Crossed n host j u d v e → Crossed n host j a d b e → AreOne host j u a → AreOne host j v b
over-one n host j u v a b d e f all s t one =
    let at = stand n host j u a one.offset f all one.one_class in
    let own_u : at.at_u ≡ s.at_from = same_end-of n host u at.at_u s.at_from at.is_at_u s.from_stands in
    let own_a : at.at_v ≡ t.at_from = same_end-of n host a at.at_v t.at_from at.is_at_v t.from_stands in
    let apart : pos s.at_from.p ≡ pos t.at_from.p +ℤ one.offset = ap (λ (x : End). pos x.p) (sym own_u) ∙ at.apart ∙ ap (λ (x : End). pos x.p +ℤ one.offset) own_a in
    behind-port host j u a v b one.offset s.turn t.turn s.port t.port one.one_class s.leads t.leads (other-port d.p s.at_from.p t.at_from.p s.turn t.turn one.offset s.leaves t.leaves apart)

-- a way of the tree over cables of the fabric
abbrev pub Lift : Network → ℕ → List Entry → Node → List Step → Node → Type 0
Lift n host j u [] w = u ≡ w
Lift n host j u (s ∷ ss) w = (v : Node) × Crossed n host j u s.out v s.into × Lift n host j v ss w

-- a node at a host is that host
pub node-host : (n : Network) (host : ℕ) (j : List Entry) (u : Node) (d : End) (a : ℕ) → IsTrueWhereFound n host j → IsNode j u → standing n host u ≡ Some d → d.v ≡ Host a → host_of host j u ≡ Some a
node-host n host j Mapper d a all node is q = let own : host_port host ≡ d = cc in let v : Host host ≡ Host a = ap (λ (e : End). e.v) own ∙ q in let one : host ≡ a = cc in ap Some one
node-host n host j (Reached w) d a all node is q = by (found-answer (answered j w) node)
  where
    by : (x : Answer) × (answered j w ≡ Some x) → host_of host j (Reached w) ≡ Some a
    by x =
        let found : is_found x.0 ≡ true = ap has_found (sym x.1) ∙ node in
        ap host_in x.1 ∙ ap (λ y. host_in (Some y)) (answered-true n host j w x.0 all x.1 found) ∙ told
      where
        told : host_in (Some (answer n host w)) ≡ Some a
        told = ap (λ o. host_in (Some (answer_at (place_at o)))) is ∙ ap (λ y. host_in (Some (answer_at (place_at_vertex y d.p)))) q

pub one-host : (n : Network) (host : ℕ) (j : List Entry) (u v : Node) (d e : End) (a : ℕ) → IsTrueWhereFound n host j → IsNode j u → IsNode j v → standing n host u ≡ Some d → standing n host v ≡ Some e → d.v ≡ Host a → e.v ≡ Host a → AreOne host j u v
one-host n host j u v d e a all node other is at p q = record { offset = pos 0; one_class = one_host (node-host n host j u d a all node is p) (node-host n host j v e a all other at q) }

pub lift-push : (n : Network) (host : ℕ) (j : List Entry) (u : Node) (ss : List Step) (s : Step) (v w : Node) → Lift n host j u ss v → Crossed n host j v s.out w s.into → Lift n host j u (ss ++ s ∷ []) w
lift-push n host j u [] s v w a c = (w, subst (λ y. Crossed n host j y s.out w s.into) (sym a) c, refl)
lift-push n host j u (i ∷ ss) s v w a c = (a.0, a.1, lift-push n host j a.0 ss s v w a.2 c)

-- a way of the tree, cut in two
pub lift-parts : (n : Network) (host : ℕ) (j : List Entry) (u : Node) (ss ts : List Step) (w : Node) → Lift n host j u (ss ++ ts) w → (v : Node) × Lift n host j u ss v × Lift n host j v ts w
lift-parts n host j u [] ts w lift = (u, refl, lift)
lift-parts n host j u (s ∷ ss) ts w lift = let rest = lift-parts n host j lift.0 ss ts w lift.2 in (rest.0, (lift.0, lift.1, rest.1), rest.2)
