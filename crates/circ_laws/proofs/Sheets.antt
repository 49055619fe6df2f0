-- A sheet: a node for each vertex, such that the tree leads over each of some cables between replicates of these nodes.
use Rattle.std.proofs.Common.{◌≡◌, ◌≢◌, ℕ, List, [], ◌∷◌, ◌++◌, Bool, true, false, Some, sym, ◌∙◌, subst, refl, inl, inr, if◌then◌else◌}
use Rattle.std.specs.Prelude.{pos}
use Rattle.std.specs.List.{AllByRecursion}
use Rattle.net_defs.specs.declared.vertex.Vertex.{Vertex}
use Rattle.net_defs.specs.declared.vertex.Vertex.TheVariants.{Host}
use Rattle.net_defs.specs.declared.vertex.End.{End}
use Rattle.net_defs.specs.Network.{Network, IsFabric, same_vertex}
use Rattle.net_defs.specs.Route.{host_port}
use Rattle.net_defs.proofs.Ends.{same_vertex-true, same_vertex-refl}
use Rattle.journal_defs.specs.declared.entry.Entry.{Entry}
use Rattle.journal_defs.specs.Tree.{Node, IsNode}
use Rattle.journal_defs.specs.Tree.Node.{Mapper}
use Rattle.journal_defs.specs.Replicates.Replicates.{same}
use Rattle.journal_defs.specs.Truth.{IsTrueWhereFound, standing}
use Rattle.journal_defs.proofs.Standing.{leads-to, leads-from}
use Rattle.map_laws.proofs.Full.{AreOne, join, flip}
use Rattle.circ_laws.proofs.Lifts.{Crossed, Lift, crossed-back, lift-parts, one-host, over-one}
use Rattle.circ_defs.specs.Ways.{AreAmong, IsNewWay, IsOneOf, IsTouched, IsWay, Joins, Step, cables_on}
use Rattle.circ_defs.specs.PathList.{Ear, IsEar, IsFirstEar, IsPathList, cables_of, return_walk}
use Rattle.circ_defs.proofs.Cables.{SameCable, joins-back, same-cable}
use Rattle.circ_defs.proofs.Numbers.{all-among, one-of-middle}
use Rattle.circ_defs.proofs.Ways.{first-walk, own_step, new-way}
use Rattle.circ_defs.proofs.Cables.SameCable.{one_way, other_way}

-- the tree leads over a cable between replicates of the nodes of its two vertices
pub record OnSheet (n : Network) (host : ℕ) (j : List Entry) (at : Vertex → Node) (d e : End) : Type 0 where
  pub from : Node
  pub to : Node
  pub crossed : Crossed n host j from d to e
  pub one_from : AreOne host j from (at d.v)
  pub one_to : AreOne host j to (at e.v)

pub on-back : (n : Network) (host : ℕ) (j : List Entry) (at : Vertex → Node) (d e : End) → OnSheet n host j at d e → OnSheet n host j at e d
on-back n host j at d e s = record { from = s.to; to = s.from; crossed = crossed-back n host j s.from s.to d e s.crossed; one_from = s.one_to; one_to = s.one_from }

pub record IsSheet (n : Network) (host : ℕ) (j : List Entry) (ks : List ℕ) (at : Vertex → Node) : Type 0 where
  pub over : (k : ℕ) (d e : End) → IsOneOf k ks → Joins n k d e → OnSheet n host j at d e

-- a way of the tree over its cables stays on the sheet, on and back
pub lift-on : (n : Network) (host : ℕ) (j : List Entry) (gs : List ℕ) (at : Vertex → Node) (u : Node) (x : Vertex) (ss : List Step) (z : Vertex) (w : Node) → IsFabric n → IsTrueWhereFound n host j → IsSheet n host j gs at → IsWay n x ss z → Lift n host j u ss w → AreAmong (cables_on ss) gs → AreOne host j u (at x) → AreOne host j w (at z)
lift-on n host j gs at u x [] z w f all sheet way lift among one = subst (λ y. AreOne host j w (at y)) way (subst (λ y. AreOne host j y (at x)) lift one)
lift-on n host j gs at u x (i ∷ ss) z w f all sheet way lift among one =
    let v = lift.0 in
    let c = lift.1 in
    let s = sheet.over i.cable i.out i.into among.0 way.0 in
    let here : AreOne host j u (at i.out.v) = subst (λ y. AreOne host j u (at y)) (sym way.1) one in
    let first : AreOne host j u s.from = join host j u (at i.out.v) s.from here (flip host j s.from (at i.out.v) s.one_from) in
    let next : AreOne host j v s.to = over-one n host j u v s.from s.to i.out i.into f all c s.crossed first in
    lift-on n host j gs at v i.into.v ss z w f all sheet way.2 lift.2 among.1 (join host j v s.to (at i.into.v) next s.one_to)

pub lift-back : (n : Network) (host : ℕ) (j : List Entry) (gs : List ℕ) (at : Vertex → Node) (u : Node) (x : Vertex) (ss : List Step) (z : Vertex) (w : Node) → IsFabric n → IsTrueWhereFound n host j → IsSheet n host j gs at → IsWay n x ss z → Lift n host j u ss w → AreAmong (cables_on ss) gs → AreOne host j w (at z) → AreOne host j u (at x)
lift-back n host j gs at u x [] z w f all sheet way lift among one = subst (λ y. AreOne host j u (at y)) (sym way) (subst (λ y. AreOne host j y (at z)) (sym lift) one)
lift-back n host j gs at u x (i ∷ ss) z w f all sheet way lift among one =
    let v = lift.0 in
    let c = lift.1 in
    let before = lift-back n host j gs at v i.into.v ss z w f all sheet way.2 lift.2 among.1 one in
    let s = sheet.over i.cable i.out i.into among.0 way.0 in
    let first : AreOne host j v s.to = join host j v (at i.into.v) s.to before (flip host j s.to (at i.into.v) s.one_to) in
    let next : AreOne host j u s.from = over-one n host j v u s.to s.from i.into i.out f all (crossed-back n host j u v i.out i.into c) (crossed-back n host j s.from s.to i.out i.into s.crossed) first in
    subst (λ y. AreOne host j u (at y)) way.1 (join host j u s.from (at i.out.v) next s.one_from)

-- the node of a touched vertex stands there
pub record StandsAt (n : Network) (host : ℕ) (j : List Entry) (u : Node) (x : Vertex) : Type 0 where
  pub is_node : IsNode j u
  pub at : End
  pub stands : standing n host u ≡ Some at
  pub there : at.v ≡ x

-- a node for one vertex more
abbrev pub with_node : (Vertex → Node) → Vertex → Node → Vertex → Node
with_node at y v x = if same_vertex x y then v else at x

pub with-here : (at : Vertex → Node) (y : Vertex) (v : Node) → with_node at y v y ≡ v
with-here at y v = rw (same_vertex-refl y) refl

pub with-other : (at : Vertex → Node) (y : Vertex) (v : Node) (x : Vertex) → x ≢ y → with_node at y v x ≡ at x
with-other at y v x other = by (same_vertex x y) refl
  where
    by : (b : Bool) → same_vertex x y ≡ b → (if b then v else at x) ≡ at x
    by true e = absurd (other (same_vertex-true x y e))
    by false e = refl

own-class : (host : ℕ) (j : List Entry) (u : Node) → IsNode j u → AreOne host j u u
own-class host j u node = record { offset = pos 0; one_class = same node }

-- a cable between two nodes that are on the sheet
pub close-sheet : (n : Network) (host : ℕ) (j : List Entry) (gs : List ℕ) (at : Vertex → Node) (k : ℕ) (d e : End) (u v : Node) → IsSheet n host j gs at → Joins n k d e → Crossed n host j u d v e → AreOne host j u (at d.v) → AreOne host j v (at e.v) → IsSheet n host j (k ∷ gs) at
close-sheet n host j gs at k d e u v sheet joins c a b = record { over = by }
  where
    here : OnSheet n host j at d e
    here = record { from = u; to = v; crossed = c; one_from = a; one_to = b }

    at_ends : (x y : End) → SameCable x y d e → OnSheet n host j at x y
    at_ends x y (one_way p q) = subst (λ i. OnSheet n host j at i y) (sym p) (subst (OnSheet n host j at d) (sym q) here)
    at_ends x y (other_way p q) = subst (λ i. OnSheet n host j at i y) (sym p) (subst (OnSheet n host j at e) (sym q) (on-back n host j at d e here))

    by : (l : ℕ) (x y : End) → IsOneOf l (k ∷ gs) → Joins n l x y → OnSheet n host j at x y
    by l x y (inl p) m = at_ends x y (same-cable n k x y d e (subst (λ i. Joins n i x y) p m) joins)
    by l x y (inr p) m = sheet.over l x y p m

-- the sheet with another node for a vertex that it doesn't touch
moved-on : (n : Network) (host : ℕ) (j : List Entry) (at to : Vertex → Node) (d e : End) → to d.v ≡ at d.v → to e.v ≡ at e.v → OnSheet n host j at d e → OnSheet n host j to d e
moved-on n host j at to d e p q s = record { from = s.from; to = s.to; crossed = s.crossed; one_from = subst (AreOne host j s.from) (sym p) s.one_from; one_to = subst (AreOne host j s.to) (sym q) s.one_to }

pub move-sheet : (n : Network) (host : ℕ) (j : List Entry) (gs : List ℕ) (at : Vertex → Node) (y : Vertex) (v : Node) → IsSheet n host j gs at → ¬ IsTouched n gs y → IsSheet n host j gs (with_node at y v)
move-sheet n host j gs at y v sheet fresh = record {
  over = λ k d e i m. moved-on n host j at (with_node at y v) d e
      (with-other at y v d.v (λ p. fresh (record { cable = k; from = d; to = e; one_of = i; joins = m; there = p })))
      (with-other at y v e.v (λ p. fresh (record { cable = k; from = e; to = d; one_of = i; joins = joins-back n k d e m; there = p })))
      (sheet.over k d e i m);
}

-- a cable to a new vertex
pub grow-sheet : (n : Network) (host : ℕ) (j : List Entry) (gs : List ℕ) (at : Vertex → Node) (k : ℕ) (d e : End) (u v : Node) → IsSheet n host j gs at → Joins n k d e → Crossed n host j u d v e → AreOne host j u (at d.v) → IsTouched n gs d.v → ¬ IsTouched n gs e.v → IsSheet n host j (k ∷ gs) (with_node at e.v v)
grow-sheet n host j gs at k d e u v sheet joins c a here new =
    let apart : d.v ≢ e.v = λ p. new (subst (IsTouched n gs) p here) in
    close-sheet n host j gs (with_node at e.v v) k d e u v (move-sheet n host j gs at e.v v sheet new) joins c
    (subst (AreOne host j u) (sym (with-other at e.v v d.v apart)) a)
    (subst (AreOne host j v) (sym (with-here at e.v v)) (own-class host j v (leads-to j u v c.turn c.port c.leads)))

-- fewer cables
pub fewer-sheet : (n : Network) (host : ℕ) (j : List Entry) (gs ks : List ℕ) (at : Vertex → Node) → IsSheet n host j gs at → ((k : ℕ) → IsOneOf k ks → IsOneOf k gs) → IsSheet n host j ks at
fewer-sheet n host j gs ks at sheet some = record { over = λ k d e i m. sheet.over k d e (some k i) m }

-- a sheet over some cables
pub record HasSheet (n : Network) (host : ℕ) (j : List Entry) (gs : List ℕ) : Type 0 where
  pub at : Vertex → Node
  pub sheet : IsSheet n host j gs at

-- a node at a host may stand for it on any sheet
pub stand-move : (n : Network) (host : ℕ) (j : List Entry) (at : Vertex → Node) (h : ℕ) (w u : Node) (x : Vertex) → IsTrueWhereFound n host j → StandsAt n host j w (Host h) → StandsAt n host j u x → AreOne host j u (at x) → AreOne host j u (with_node at (Host h) w x)
stand-move n host j at h w u x all c s one = by (same_vertex x (Host h)) refl
  where
    by : (b : Bool) → same_vertex x (Host h) ≡ b → AreOne host j u (if b then w else at x)
    by true e = one-host n host j u w s.at c.at h all s.is_node c.is_node s.stands c.stands (s.there ∙ same_vertex-true x (Host h) e) c.there
    by false e = one

pub from-stands : (n : Network) (host : ℕ) (j : List Entry) (u v : Node) (d e : End) → Crossed n host j u d v e → StandsAt n host j u d.v
from-stands n host j u v d e c = record { is_node = leads-from j u v c.turn c.port c.leads; at = c.at_from; stands = c.from_stands; there = c.from_there }

pub to-stands : (n : Network) (host : ℕ) (j : List Entry) (u v : Node) (d e : End) → Crossed n host j u d v e → StandsAt n host j v e.v
to-stands n host j u v d e c = record { is_node = leads-to j u v c.turn c.port c.leads; at = c.at_to; stands = c.to_stands; there = c.to_there }

host-on : (n : Network) (host : ℕ) (j : List Entry) (at : Vertex → Node) (h : ℕ) (w : Node) (d e : End) → IsTrueWhereFound n host j → StandsAt n host j w (Host h) → OnSheet n host j at d e → OnSheet n host j (with_node at (Host h) w) d e
host-on n host j at h w d e all c s = record {
  from = s.from;
  to = s.to;
  crossed = s.crossed;
  one_from = stand-move n host j at h w s.from d.v all c (from-stands n host j s.from s.to d e s.crossed) s.one_from;
  one_to = stand-move n host j at h w s.to e.v all c (to-stands n host j s.from s.to d e s.crossed) s.one_to;
}

pub host-sheet : (n : Network) (host : ℕ) (j : List Entry) (gs : List ℕ) (at : Vertex → Node) (h : ℕ) (w : Node) → IsTrueWhereFound n host j → StandsAt n host j w (Host h) → IsSheet n host j gs at → IsSheet n host j gs (with_node at (Host h) w)
host-sheet n host j gs at h w all c sheet = record { over = λ k d e i m. host-on n host j at h w d e all c (sheet.over k d e i m) }

pub grow-path : (n : Network) (host : ℕ) (j : List Entry) (gs : List ℕ) (at : Vertex → Node) (u : Node) (x : Vertex) (ss : List Step) (z : Vertex) (v : Node) (after : List Step) (h : ℕ) (w : Node) → IsFabric n → IsTrueWhereFound n host j → IsSheet n host j gs at → IsNewWay n gs x ss z → Lift n host j u ss v → AreOne host j u (at x) → IsTouched n gs x → IsWay n z after (Host h) → Lift n host j v after w → AreAmong (cables_on after) gs → StandsAt n host j w (Host h) → HasSheet n host j (cables_on ss ++ gs)
grow-path n host j gs at u x [] z v after h w f all sheet way lift one here home onward among c = absurd way
grow-path n host j gs at u x (i ∷ []) z v after h w f all sheet way lift one here home onward among c =
    let own = host-sheet n host j gs at h w all c sheet in
    let end : AreOne host j w (with_node at (Host h) w (Host h)) = subst (AreOne host j w) (sym (with-here at (Host h) w)) (own-class host j w c.is_node) in
    let behind : AreOne host j v (with_node at (Host h) w z) = lift-back n host j gs (with_node at (Host h) w) v z after (Host h) w f all own home onward among end in
    let last_to : AreOne host j lift.0 (with_node at (Host h) w i.into.v) = subst (λ y. AreOne host j y (with_node at (Host h) w i.into.v)) (sym lift.2) (subst (λ y. AreOne host j v (with_node at (Host h) w y)) (sym way.2) behind) in
    let first : AreOne host j u (at i.out.v) = subst (λ y. AreOne host j u (at y)) (sym way.1) one in
    let last_from : AreOne host j u (with_node at (Host h) w i.out.v) = stand-move n host j at h w u i.out.v all c (from-stands n host j u lift.0 i.out i.into lift.1) first in
    record { at = with_node at (Host h) w; sheet = close-sheet n host j gs (with_node at (Host h) w) i.cable i.out i.into u lift.0 own way.0 lift.1 last_from last_to }
grow-path n host j gs at u x (i ∷ l ∷ ss) z v after h w f all sheet way lift one here home onward among c =
    let y = lift.0 in
    let first : AreOne host j u (at i.out.v) = subst (λ y. AreOne host j u (at y)) (sym way.1) one in
    let touched : IsTouched n gs i.out.v = subst (IsTouched n gs) (sym way.1) here in
    let grown = grow-sheet n host j gs at i.cable i.out i.into u y sheet way.0 lift.1 first touched way.2 in
    let node = leads-to j u y lift.1.turn lift.1.port lift.1.leads in
    let next : AreOne host j y (with_node at i.into.v y i.into.v) = subst (AreOne host j y) (sym (with-here at i.into.v y)) (own-class host j y node) in
    let there : IsTouched n (i.cable ∷ gs) i.into.v = record { cable = i.cable; from = i.into; to = i.out; one_of = inl refl; joins = joins-back n i.cable i.out i.into way.0; there = refl } in
    let rest = grow-path n host j (i.cable ∷ gs) (with_node at i.into.v y) y i.into.v (l ∷ ss) z v after h w f all grown way.3 lift.2 next there home onward (all-among (cables_on after) gs (i.cable ∷ gs) (λ k m. inr m) among) c in
    record { at = rest.at; sheet = fewer-sheet n host j (cables_on (l ∷ ss) ++ i.cable ∷ gs) (cables_on (i ∷ l ∷ ss) ++ gs) rest.at rest.sheet (λ k m. one-of-middle k i.cable (cables_on (l ∷ ss)) gs m) }

-- a return walk stands in the tree
pub record IsWalked (n : Network) (host : ℕ) (j : List Entry) (ss : List Step) : Type 0 where
  pub end : Node
  pub lift : Lift n host j Mapper ss end

pub mapper-stands : (n : Network) (host : ℕ) (j : List Entry) → StandsAt n host j Mapper (Host host)
mapper-stands n host j = record { is_node = refl; at = host_port host; stands = refl; there = refl }

-- the node to which a way leads stands where the way leads
pub lift-stands : (n : Network) (host : ℕ) (j : List Entry) (u : Node) (x : Vertex) (ss : List Step) (z : Vertex) (w : Node) → StandsAt n host j u x → IsWay n x ss z → Lift n host j u ss w → StandsAt n host j w z
lift-stands n host j u x [] z w c way lift = subst (StandsAt n host j w) way (subst (λ y. StandsAt n host j y x) lift c)
lift-stands n host j u x (s ∷ ss) z w c way lift = lift-stands n host j lift.0 s.into.v ss z w (to-stands n host j u lift.0 s.out s.into lift.1) way.2 lift.2

-- one ear more
pub grow-ear : (n : Network) (host : ℕ) (j : List Entry) (old : List ℕ) (ear : Ear) → IsFabric n → IsTrueWhereFound n host j → HasSheet n host j old → IsEar n host old ear → IsWalked n host j (return_walk ear) → HasSheet n host j (cables_on ear.path ++ old)
grow-ear n host j old ear f all has e walked =
    let first = lift-parts n host j Mapper ear.before (ear.path ++ ear.after) walked.end walked.lift in
    let rest = lift-parts n host j first.0 ear.path ear.after walked.end first.2 in
    let own = host-sheet n host j old has.at host Mapper all (mapper-stands n host j) has.sheet in
    let at = with_node has.at (Host host) Mapper in
    let start : AreOne host j Mapper (at (Host host)) = subst (AreOne host j Mapper) (sym (with-here has.at (Host host) Mapper)) (own-class host j Mapper refl) in
    let on : AreOne host j first.0 (at e.start) = lift-on n host j old at Mapper (Host host) ear.before e.start first.0 f all own e.there first.1 e.before_old start in
    let s = lift-stands n host j Mapper (Host host) ear.before e.start first.0 (mapper-stands n host j) e.there first.1 in
    let t = lift-stands n host j first.0 e.start ear.path e.end rest.0 s (new-way n old e.start ear.path e.end e.across) rest.1 in
    let c = lift-stands n host j rest.0 e.end ear.after (Host e.last) walked.end t e.home rest.2 in
    grow-path n host j old at first.0 e.start ear.path e.end rest.0 ear.after e.last walked.end f all own e.across rest.1 on e.starts e.home rest.2 e.after_old c

-- the mapper's own cable
pub first-sheet : (n : Network) (host : ℕ) (j : List Entry) (ear : Ear) → IsTrueWhereFound n host j → IsFirstEar n host ear → IsWalked n host j (return_walk ear) → HasSheet n host j (cables_on ear.path ++ [])
first-sheet n host j ear all e walked = subst (λ p. HasSheet n host j (cables_on p ++ [])) (sym e.own.is) (by (subst (IsWalked n host j) (first-walk n host ear e) walked))
  where
    by : IsWalked n host j (own_step host e.own.cable e.own.into ∷ []) → HasSheet n host j (e.own.cable ∷ [])
    by k =
        let v = k.lift.0 in
        let c : Crossed n host j Mapper (host_port host) v e.own.into = k.lift.1 in
        let none : IsSheet n host j [] (λ x. v) = record { over = λ k d e i m. absurd i } in
        let own = host-sheet n host j [] (λ x. v) host Mapper all (mapper-stands n host j) none in
        let t = to-stands n host j Mapper v (host_port host) e.own.into c in
        let to : AreOne host j v (with_node (λ x. v) (Host host) Mapper e.own.into.v) = stand-move n host j (λ x. v) host Mapper v e.own.into.v all (mapper-stands n host j) t (own-class host j v t.is_node) in
        let from : AreOne host j Mapper (with_node (λ x. v) (Host host) Mapper (Host host)) = subst (AreOne host j Mapper) (sym (with-here (λ x. v) (Host host) Mapper)) (own-class host j Mapper refl) in
        record { at = with_node (λ x. v) (Host host) Mapper; sheet = close-sheet n host j [] (with_node (λ x. v) (Host host) Mapper) e.own.cable (host_port host) e.own.into Mapper v own e.own.joins c from to }

-- all return walks stand in the tree
abbrev pub AreWalked : Network → ℕ → List Entry → List Ear → Type 0
AreWalked n host j es = AllByRecursion (λ e. IsWalked n host j (return_walk e)) es

-- a path list has a sheet over all its cables
pub path-sheet : (n : Network) (host : ℕ) (j : List Entry) (es : List Ear) → IsFabric n → IsTrueWhereFound n host j → IsPathList n host es → AreWalked n host j es → HasSheet n host j (cables_of es)
path-sheet n host j [] f all list walked = record { at = λ x. Mapper; sheet = record { over = λ k d e i m. absurd i } }
path-sheet n host j (e ∷ []) f all list walked = first-sheet n host j e all list walked.0
path-sheet n host j (e ∷ g ∷ es) f all list walked = grow-ear n host j (cables_of (g ∷ es)) e f all (path-sheet n host j (g ∷ es) f all list.1 walked.1) list.0 walked.0

-- so two nodes that ways over its cables reach, and that stand at one vertex, are one class
pub one-class : (n : Network) (host : ℕ) (j : List Entry) (gs : List ℕ) (ss ts : List Step) (z : Vertex) (v w : Node) → IsFabric n → IsTrueWhereFound n host j → HasSheet n host j gs → IsWay n (Host host) ss z → Lift n host j Mapper ss v → AreAmong (cables_on ss) gs → IsWay n (Host host) ts z → Lift n host j Mapper ts w → AreAmong (cables_on ts) gs → AreOne host j v w
one-class n host j gs ss ts z v w f all has a la ma b lb mb =
    let own = host-sheet n host j gs has.at host Mapper all (mapper-stands n host j) has.sheet in
    let at = with_node has.at (Host host) Mapper in
    let start : AreOne host j Mapper (at (Host host)) = subst (AreOne host j Mapper) (sym (with-here has.at (Host host) Mapper)) (own-class host j Mapper refl) in
    join host j v (at z) w
    (lift-on n host j gs at Mapper (Host host) ss z v f all own a la ma start)
    (flip host j w (at z) (lift-on n host j gs at Mapper (Host host) ts z w f all own b lb mb start))
