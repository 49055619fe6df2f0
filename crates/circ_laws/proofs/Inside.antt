-- A vertex of the map that stands over the core is not outside: its return walk leads to a host both ways.
use Rattle.std.proofs.Common.{true≢false, ◌≡◌, ◌≢◌, ◌+◌, ℕ, List, [], ◌∷◌, ◌++◌, Bool, true, false, sym, ◌∙◌, subst, ap, refl, ◌⊎◌, inl, inr}
use Rattle.std.specs.Prelude.{slice_get}
use Rattle.net_defs.specs.declared.vertex.Vertex.{Vertex}
use Rattle.net_defs.specs.declared.vertex.Vertex.TheVariants.{Host, Switch}
use Rattle.net_defs.specs.declared.vertex.End.{End}
use Rattle.net_defs.specs.Network.{Network}
use Rattle.net_defs.specs.Route.{host_port}
use Rattle.journal_defs.specs.declared.entry.Entry.{Entry}
use Rattle.journal_defs.specs.Tree.{Node}
use Rattle.journal_defs.specs.Tree.Node.{Mapper}
use Rattle.journal_defs.proofs.Reach.{steps-back, steps-join}
use Rattle.journal_defs.proofs.Standing.{stand, same_end-of}
use Rattle.map_defs.specs.NetMap.{NetMap, MapPort, first_end, second_end, map_edges, is_switch_vertex}
use Rattle.map_defs.specs.Quotient.{HasVertex}
use Rattle.map_defs.specs.Core.{without, is_outside}
use Rattle.map_laws.proofs.Meeting.{host-not_switch}
use Rattle.circ_laws.proofs.Sheets.{AreWalked, IsWalked, StandsAt, lift-stands, mapper-stands}
use Rattle.circ_laws.proofs.Lifts.{Lift, lift-parts}
use Rattle.circ_laws.proofs.Listed.{all-walked}
use Rattle.circ_defs.specs.PathList.{CrossesOnce, Ear, IsEar, IsFirstEar, IsPathList, cables_of, return_walk}
use Rattle.circ_defs.specs.Cores.{IsCore}
use Rattle.circ_defs.specs.Ways.{IsOneOf, IsStep, IsTouched, IsWay, Joins, Step, cables_on}
use Rattle.circ_defs.proofs.Cables.{SameCable, joins-back, same-cable}
use Rattle.circ_defs.proofs.Numbers.{either-in, is-one}
use Rattle.circ_defs.proofs.Ways.{first-walk, own_step, Split, left-of, new-way, right-of, split-at, way-join}
use Rattle.circ_defs.proofs.Sides.{core-touched}
use Rattle.circ_defs.proofs.Cables.SameCable.{one_way, other_way}
use Rattle.circ_laws.proofs.Ends.{FabricCable, FabricEnd, OverEnd, Setting, cable-link, core-number, found, number-cabled, over-host, rules}
use Rattle.circ_laws.proofs.Sides.{Joined, OutsideBy, outside-means}
use Rattle.circ_laws.proofs.Outside.{Standing, chain-joined}

-- a cable that is crossed again is the mapper's own
pub record IsHome (n : Network) (host k : ℕ) : Type 0 where
  pub step : Step
  pub is_step : IsStep n step
  pub cable : step.cable ≡ k
  pub into : step.into ≡ host_port host

crossed-again : (n : Network) (host last : ℕ) (ks : List ℕ) (x z : Vertex) (ss : List Step) (k : ℕ) → IsWay n x ss z → CrossesOnce host last ks ss → IsOneOf k ks → IsOneOf k (cables_on ss) → IsHome n host k
crossed-again n host last ks x z [] k way once i m = absurd m
crossed-again n host last ks x z (s ∷ ss) k way (inl go) i (inl e) = absurd (go.0 (subst (λ l. IsOneOf l ks) e i))
crossed-again n host last ks x z (s ∷ ss) k way (inl go) i (inr m) = crossed-again n host s.cable (s.cable ∷ ks) s.into.v z ss k way.2 go.1 (inr i) m
crossed-again n host last ks x z (s ∷ ss) k way (inr go) i (inl e) = record { step = s; is_step = way.0; cable = sym e; into = go.0 }
crossed-again n host last ks x z (s ∷ ss) k way (inr go) i (inr m) = absurd (subst (λ (l : List Step). IsOneOf k (cables_on l)) go.2 m)

once-parts : (n : Network) (host last : ℕ) (ks : List ℕ) (x z : Vertex) (ss ts : List Step) (k : ℕ) → IsWay n x (ss ++ ts) z → CrossesOnce host last ks (ss ++ ts) → IsOneOf k (cables_on ss) → IsOneOf k (cables_on ts) → IsHome n host k
once-parts n host last ks x z [] ts k way once i m = absurd i
once-parts n host last ks x z (s ∷ ss) ts k way (inl go) (inl e) m = crossed-again n host s.cable (s.cable ∷ ks) s.into.v z (ss ++ ts) k way.2 go.1 (inl e) (right-of k ss ts m)
once-parts n host last ks x z (s ∷ ss) ts k way (inl go) (inr i) m = once-parts n host s.cable (s.cable ∷ ks) s.into.v z ss ts k way.2 go.1 i m
once-parts n host last ks x z (s ∷ ss) ts k way (inr go) i m = absurd (subst (λ (l : List Step). IsOneOf k (cables_on l)) go.2 (right-of k ss ts m))

-- a cable of paths is crossed by a return walk, of which each cable between switches stands on one side of a vertex
pub record Back (n : Network) (host : ℕ) (j : List Entry) (k : ℕ) : Type 0 where
  pub steps : List Step
  pub end : Vertex
  pub node : Node
  pub way : IsWay n (Host host) steps end
  pub lift : Lift n host j Mapper steps node
  pub holds : IsOneOf k (cables_on steps)
  pub either : (ss ts : List Step) (b : ℕ) → ss ++ ts ≡ steps → (¬ IsHome n host b) → (¬ IsOneOf b (cables_on ss)) ⊎ ((¬ IsOneOf b (cables_on ts)) × ((h : ℕ) × (end ≡ Host h)))

sides-once : (n : Network) (host : ℕ) (z : Vertex) (f : Step) (r ss ts : List Step) (b : ℕ) → IsWay n (Host host) (ss ++ ts) z → ss ++ ts ≡ f ∷ r → CrossesOnce host f.cable (f.cable ∷ []) r → (¬ IsHome n host b) → IsOneOf b (cables_on ss) → ¬ IsOneOf b (cables_on ts)
sides-once n host z f r [] ts b way e once other i m = i
sides-once n host z f r (s ∷ ss) ts b way e once other i m =
    let head : s ≡ f = cc in
    let tail : ss ++ ts ≡ r = cc in
    let go : CrossesOnce host s.cable (s.cable ∷ []) (ss ++ ts) = subst (λ (x : Step). CrossesOnce host x.cable (x.cable ∷ []) (ss ++ ts)) (sym head) (subst (CrossesOnce host f.cable (f.cable ∷ [])) (sym tail) once) in
    by go i
  where
    by : CrossesOnce host s.cable (s.cable ∷ []) (ss ++ ts) → IsOneOf b (cables_on (s ∷ ss)) → ⊥
    by go (inl e) = other (crossed-again n host s.cable (s.cable ∷ []) s.into.v z (ss ++ ts) b way.2 go (inl e) (right-of b ss ts m))
    by go (inr i) = other (once-parts n host s.cable (s.cable ∷ []) s.into.v z ss ts b way.2 go i m)

ear-back : (n : Network) (host : ℕ) (j : List Entry) (old : List ℕ) (ear : Ear) (k : ℕ) → IsEar n host old ear → IsWalked n host j (return_walk ear) → IsOneOf k (cables_on ear.path) → Back n host j k
ear-back n host j old ear k e walked m = record {
  steps = return_walk ear;
  end = Host e.last;
  node = walked.end;
  way = whole;
  lift = walked.lift;
  holds = right-of k ear.before (ear.path ++ ear.after) (left-of k ear.path ear.after m);
  either = λ ss ts b p other. by ss ts b p other (is-one b (cables_on ss));
}
  where
    whole : IsWay n (Host host) (return_walk ear) (Host e.last)
    whole = way-join n (Host host) e.start (Host e.last) ear.before (ear.path ++ ear.after) e.there (way-join n e.start e.end (Host e.last) ear.path ear.after (new-way n old e.start ear.path e.end e.across) e.home)

    by : (ss ts : List Step) (b : ℕ) → ss ++ ts ≡ return_walk ear → (¬ IsHome n host b) → IsOneOf b (cables_on ss) ⊎ (¬ IsOneOf b (cables_on ss)) → (¬ IsOneOf b (cables_on ss)) ⊎ ((¬ IsOneOf b (cables_on ts)) × ((h : ℕ) × (Host e.last ≡ Host h)))
    by ss ts b p other (inr i) = inl i
    by ss ts b p other (inl i) = inr (sides-once n host (Host e.last) e.first e.rest ss ts b (subst (λ l. IsWay n (Host host) l (Host e.last)) (sym p) whole) (p ∙ e.begins) e.once other i, (e.last, refl))

first-back : (n : Network) (host : ℕ) (j : List Entry) (ear : Ear) (k : ℕ) → IsFirstEar n host ear → IsWalked n host j (return_walk ear) → IsOneOf k (cables_on ear.path) → Back n host j k
first-back n host j ear k e walked m = by (subst (IsWalked n host j) (first-walk n host ear e) walked) (subst (λ (l : List Step). IsOneOf k (cables_on l)) e.own.is m)
  where
    own : Step
    own = own_step host e.own.cable e.own.into

    home : Step
    home = record { cable = e.own.cable; out = e.own.into; into = host_port host }

    alone : (ss ts : List Step) (b : ℕ) → ss ++ ts ≡ own ∷ [] → (¬ IsHome n host b) → ¬ IsOneOf b (cables_on ss)
    alone [] ts b p other i = i
    alone (s ∷ ss) ts b p other i =
        let all : IsOneOf b (cables_on (own ∷ [])) = subst (λ (l : List Step). IsOneOf b (cables_on l)) p (left-of b (s ∷ ss) ts i) in
        last all
      where
        last : IsOneOf b (cables_on (own ∷ [])) → ⊥
        last (inl q) = other (record { step = home; is_step = joins-back n e.own.cable (host_port host) e.own.into e.own.joins; cable = sym q; into = refl })
        last (inr q) = q

    by : IsWalked n host j (own ∷ []) → IsOneOf k (cables_on (own ∷ [])) → Back n host j k
    by w i = record {
      steps = own ∷ [];
      end = e.own.into.v;
      node = w.end;
      way = (e.own.joins, refl, refl);
      lift = w.lift;
      holds = i;
      either = λ ss ts b p other. inl (alone ss ts b p other);
    }

pub back-of : (n : Network) (host : ℕ) (j : List Entry) (es : List Ear) (k : ℕ) → IsPathList n host es → AreWalked n host j es → IsOneOf k (cables_of es) → Back n host j k
back-of n host j [] k list walked m = absurd m
back-of n host j (e ∷ []) k list walked m = by (either-in k (cables_on e.path) [] m)
  where
    by : IsOneOf k (cables_on e.path) ⊎ IsOneOf k [] → Back n host j k
    by (inl i) = first-back n host j e k list walked.0 i
    by (inr i) = absurd i
back-of n host j (e ∷ g ∷ es) k list walked m = by (either-in k (cables_on e.path) (cables_of (g ∷ es)) m) (back-of n host j (g ∷ es) k list.1 walked.1)
  where
    by : IsOneOf k (cables_on e.path) ⊎ IsOneOf k (cables_of (g ∷ es)) → (IsOneOf k (cables_of (g ∷ es)) → Back n host j k) → Back n host j k
    by (inl i) rest = ear-back n host j (cables_of (g ∷ es)) e k list.0 walked.0 i
    by (inr i) rest = rest i

module _ (n : Network) (host depth : ℕ) (j : List Entry) (es : List Ear) (m : NetMap) (s : Setting n host depth j es m) where
  walks : AreWalked n host j es
  walks = all-walked n host depth j es s.fabric s.tree s.paths.list s.deep

  -- a node over a vertex of the core, with a way of the tree through it
  pub record Through (x : Vertex) : Type 0 where
    pub cable : ℕ
    pub back : Back n host j cable
    pub split : Split n (Host host) x back.end back.steps
    pub node : Node
    pub before : Lift n host j Mapper split.first node
    pub after : Lift n host j node split.rest back.node
    pub stands : StandsAt n host j node x

  pub through : (x : Vertex) → IsTouched n (cables_of es) x → Through x
  through x t =
      let b = back-of n host j es t.cable s.paths.list walks t.one_of in
      let c : Split n (Host host) x b.end b.steps = subst (λ y. Split n (Host host) y b.end b.steps) t.there (split-at n (Host host) b.end b.steps t.cable t.to t.from b.way b.holds (joins-back n t.cable t.from t.to t.joins)) in
      let l = lift-parts n host j Mapper c.first c.rest b.node (subst (λ ss. Lift n host j Mapper ss b.node) (sym c.whole) b.lift) in
      record { cable = t.cable; back = b; split = c; node = l.0; before = l.1; after = l.2; stands = lift-stands n host j Mapper (Host host) c.first x l.0 (mapper-stands n host j) c.there l.1 }

  -- a number for a node, over the vertex at which it stands
  pub record Numbered (u : Node) (x : Vertex) : Type 0 where
    pub has : HasVertex host j s.quotient.least u
    pub at : End
    pub over : OverEnd n host depth j es m s has.vertex at
    pub vertex : at.v ≡ x

  pub numbered : (u : Node) (x : Vertex) → StandsAt n host j u x → Numbered u x
  numbered u x c =
      let h = s.quotient.covered u c.is_node in
      let p = stand n host j u h.is_of.least_node h.offset s.fabric (found n host depth j es m s) h.is_of.one_class in
      let own : p.at_u ≡ c.at = same_end-of n host u p.at_u c.at p.is_at_u c.stands in
      record { has = h; at = p.at_v; over = record { node = h.is_of.least_node; there = h.is_of.there; stands = p.is_at_v }; vertex = sym p.one_vertex ∙ ap (λ (e : End). e.v) own ∙ c.there }

  -- a cable of the map between switches stands over none of a host
  switch-over : (v : ℕ) (d : End) (p : MapPort) (h : ℕ) → p.v ≡ v → is_switch_vertex m v ≡ true → FabricEnd n host depth j es m s p d → d.v ≡ Host h → ⊥
  switch-over v d p h e sw at g =
      let host_is = over-host n host depth j es m s p.v h at.at at.over (sym at.vertex ∙ g) in
      true≢false (sym (subst (λ i. is_switch_vertex m i ≡ true) (sym e) sw) ∙ host-not_switch (slice_get m.vertices p.v) h host_is)

  join-paths : (k v w x : ℕ) → Joined m k v w → Joined m k w x → Joined m k v x
  join-paths k v w x a b = record { count = b.count + a.count; path = steps-join (map_edges (without m.cables k)) v w x a.count b.count a.path b.path }

  back-path : (k v w : ℕ) → Joined m k v w → Joined m k w v
  back-path k v w a = record { count = a.count; path = steps-back (map_edges (without m.cables k)) v w a.count a.path }

  -- the case of a switch
  switch-inside : (v : ℕ) (a : End) → OverEnd n host depth j es m s v a → IsCore n host a.v → Host host ≢ a.v → OutsideBy m v → ⊥
  switch-inside v a o core other out = by (t.back.either t.split.first t.split.rest link.cable t.split.whole no_home)
    where
      t : Through a.v
      t = through a.v (core-touched n host es a.v s.fabric s.paths core other)

      here : Numbered t.node a.v
      here = numbered t.node a.v t.stands

      one : here.has.vertex ≡ v
      one = core-number n host depth j es m s here.has.vertex v here.at a here.over o here.vertex (subst (IsCore n host) (sym here.vertex) core)

      link : FabricCable n host depth j es m s (first_end out.c) (second_end out.c)
      link = cable-link n host depth j es m s (first_end out.c) (second_end out.c) (number-cabled m out.number (first_end out.c) (second_end out.c) (record { c = out.c; there = out.there; ends = inl (refl, refl) }))

      under : Standing n host depth j es m s out.number link.cable link.from link.to
      under = record { from = first_end out.c; to = second_end out.c; cabled = record { c = out.c; there = out.there; ends = inl (refl, refl) }; joins = link.joins; from_end = link.from_end; to_end = link.to_end }

      no_home : ¬ IsHome n host link.cable
      no_home h = ends (same-cable n link.cable h.step.out h.step.into link.from link.to (subst (λ k. Joins n k h.step.out h.step.into) h.cable h.is_step) link.joins)
        where
          ends : SameCable h.step.out h.step.into link.from link.to → ⊥
          ends (one_way p q) = switch-over out.c.w link.to (second_end out.c) host refl out.second_switch link.to_end (ap (λ (e : End). e.v) (sym q ∙ h.into))
          ends (other_way p q) = switch-over out.c.v link.from (first_end out.c) host refl out.first_switch link.from_end (ap (λ (e : End). e.v) (sym q ∙ h.into))

      found_host : (w : ℕ) (b : End) (h : ℕ) → OverEnd n host depth j es m s w b → b.v ≡ Host h → Joined m out.number v w → ⊥
      found_host w b h p e path = out.hostless w h (join-paths out.number out.from v w out.joined path) (over-host n host depth j es m s w h b p e)

      by : (¬ IsOneOf link.cable (cables_on t.split.first)) ⊎ ((¬ IsOneOf link.cable (cables_on t.split.rest)) × ((h : ℕ) × (t.back.end ≡ Host h))) → ⊥
      by (inl beside) =
          let start = numbered Mapper (Host host) (mapper-stands n host j) in
          let path = chain-joined n host depth j es m s out.number link.cable link.from link.to Mapper t.node (Host host) a.v t.split.first start.has.vertex here.has.vertex start.has.offset here.has.offset under t.split.there t.before beside refl start.has.is_of here.has.is_of in
          found_host start.has.vertex start.at host start.over start.vertex (subst (λ i. Joined m out.number i start.has.vertex) one (back-path out.number start.has.vertex here.has.vertex path))
      by (inr beside) =
          let last_stands = lift-stands n host j t.node a.v t.split.rest t.back.end t.back.node t.stands t.split.on t.after in
          let last = numbered t.back.node t.back.end last_stands in
          let path = chain-joined n host depth j es m s out.number link.cable link.from link.to t.node t.back.node a.v t.back.end t.split.rest here.has.vertex last.has.vertex here.has.offset last.has.offset under t.split.on t.after beside.0 t.stands.is_node here.has.is_of last.has.is_of in
          found_host last.has.vertex last.at beside.1.0 last.over (last.vertex ∙ beside.1.1) (subst (λ i. Joined m out.number i last.has.vertex) one path)

  pub core-inside : (v : ℕ) (a : End) → OverEnd n host depth j es m s v a → IsCore n host a.v → is_outside m v ≡ false
  core-inside v a o core = by (is_outside m v) refl
    where
      contrary : OutsideBy m v → (x : Vertex) → a.v ≡ x → ⊥
      contrary out (Host h) e = out.hostless v h out.joined (over-host n host depth j es m s v h a o e)
      contrary out (Switch b) e = switch-inside v a o core (λ p. (let two : Host host ≡ Switch b = p ∙ e in cc)) out

      by : (b : Bool) → is_outside m v ≡ b → b ≡ false
      by true p = absurd (contrary (outside-means m v (rules n host depth j es m s) p) a.v refl)
      by false p = refl
