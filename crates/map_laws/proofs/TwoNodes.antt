-- The map of a journal whose nodes are the mapper's host and what its cable leads to: two vertices and one cable.
use Rattle.std.proofs.Common.{◌≡◌, ◌≢◌, ◌<◌, ℕ, zero, suc, List, [], ◌∷◌, ◌++◌, map, true, Some, sym, ◌∙◌, subst, ap, refl, arith, ◌⊎◌, inl, inr}
use Rattle.std.specs.Prelude.{ℤ, pos, ◌+ℤ◌, slice_get}
use Rattle.std.proofs.lemmas.Int.{ints}
use Rattle.net_defs.specs.declared.vertex.End.{End}
use Rattle.net_defs.specs.Network.{Network, IsFabric}
use Rattle.journal_defs.specs.declared.entry.Entry.{Entry}
use Rattle.journal_defs.specs.Tree.{Node, IsNode, Leads, host_of, node_below}
use Rattle.journal_defs.specs.Tree.Node.{Mapper, Reached}
use Rattle.journal_defs.specs.Tree.Leads.{onward, back as go_back, out, home}
use Rattle.journal_defs.specs.Replicates.{Replicates}
use Rattle.journal_defs.specs.Replicates.Replicates.{same}
use Rattle.journal_defs.specs.Truth.{IsTrueWhereFound, standing}
use Rattle.journal_defs.proofs.Standing.{stand, own_offset_is_zero, replicates-nodes, leads-from, leads-to}
use Rattle.map_defs.specs.declared.vertex.MapCable.{MapCable}
use Rattle.map_defs.specs.NetMap.{NetMap, MapPort, IsCabled, AreInOrder, first_end, second_end}
use Rattle.map_defs.specs.NetMap.IsCabled.{forth, back}
use Rattle.map_defs.specs.Quotient.{IsQuotient, IsLeastNode, IsOfVertex, HasVertex, IsLed, named}
use Rattle.map_defs.specs.Examples.{cable, port}
use Rattle.map_defs.proofs.TwoHosts.{itself_not_below}
use Rattle.map_laws.proofs.Asks.{not_empty}

-- a node is one of two
abbrev pub IsOneOf : Node → Type 0
IsOneOf u = (u ≡ Mapper) ⊎ (u ≡ Reached [])

abbrev pub both : List Node
both = Mapper ∷ Reached [] ∷ []

abbrev pub own_cable : MapCable
own_cable = cable 0 (pos 0) 1 (pos 0)

-- Such a journal: the two stand at two vertices of a fabric.
pub record IsShort (n : Network) (host : ℕ) (j : List Entry) : Type 0 where
  pub fabric : IsFabric n
  pub found : IsTrueWhereFound n host j
  pub only : (u : Node) → IsNode j u → IsOneOf u
  pub root : IsNode j (Reached [])
  pub at_mapper : End
  pub at_root : End
  pub mapper_stands : standing n host Mapper ≡ Some at_mapper
  pub root_stands : standing n host (Reached []) ≡ Some at_root
  pub differ : at_mapper.v ≢ at_root.v

-- and its map
pub record IsShortMap (host : ℕ) (j : List Entry) (m : NetMap) : Type 0 where
  pub vertices : m.vertices ≡ named 0 (map (host_of host j) both)
  pub cables : m.cables ≡ own_cable ∷ []
  pub core : m.core ≡ map (λ v. true) m.vertices

place_of : (u : Node) (v : ℕ) → slice_get both v ≡ Some u → (u ≡ Mapper → v ≡ 0) × (u ≡ Reached [] → v ≡ 1)
place_of u zero e = let one : Mapper ≡ u = cc in ((λ f. refl), (λ f. cc))
place_of u (suc zero) e = let one : Reached [] ≡ u = cc in ((λ f. cc), (λ f. refl))
place_of u (suc (suc v)) e = cc

in_order : (v w : ℕ) (u x : Node) → v < w → slice_get both v ≡ Some u → slice_get both w ≡ Some x → node_below u x ≡ true
in_order v zero u x l e f = absurd (omega arith)
in_order zero (suc zero) u x l e f = let a : Mapper ≡ u = cc in let b : Reached [] ≡ x = cc in rw (← a, ← b) refl
in_order (suc v) (suc zero) u x l e f = absurd (omega arith)
in_order v (suc (suc w)) u x l e f = cc

same_sum : (a p k : ℤ) → a ≡ p +ℤ k → k ≡ pos 0 → a ≡ p
same_sum a p k e f = omega (arith, ints)

module _ (n : Network) (host : ℕ) (j : List Entry) (m : NetMap) (s : IsShort n host j) (t : IsShortMap host j m) where
  apart : (u v : Node) (k : ℤ) (d e : End) → standing n host u ≡ Some d → standing n host v ≡ Some e → d.v ≢ e.v → ¬ Replicates host j u v k
  apart u v k d e p q differ r =
      let pair = stand n host j u v k s.fabric s.found r in
      let at_u : d ≡ pair.at_u = (let two : Some d ≡ Some pair.at_u = sym p ∙ pair.is_at_u in cc) in
      let at_v : e ≡ pair.at_v = (let two : Some e ≡ Some pair.at_v = sym q ∙ pair.is_at_v in cc) in
      differ (ap (λ (x : End). x.v) at_u ∙ pair.one_vertex ∙ ap (λ (x : End). x.v) (sym at_v))

  -- so a node is a replicate of itself alone
  replicate_is_itself : (u v : Node) (k : ℤ) → Replicates host j u v k → u ≡ v
  replicate_is_itself u v k r = by (s.only u (replicates-nodes host j u v k r).0) (s.only v (replicates-nodes host j u v k r).1)
    where
      never : (a b : Node) (d e : End) → standing n host a ≡ Some d → standing n host b ≡ Some e → d.v ≢ e.v → u ≡ a → v ≡ b → u ≡ v
      never a b d e p q differ f g = absurd (apart u v k d e (ap (standing n host) f ∙ p) (ap (standing n host) g ∙ q) differ r)

      by : IsOneOf u → IsOneOf v → u ≡ v
      by (inl e) (inl f) = e ∙ sym f
      by (inl e) (inr f) = never Mapper (Reached []) s.at_mapper s.at_root s.mapper_stands s.root_stands s.differ e f
      by (inr e) (inl f) = never (Reached []) Mapper s.at_root s.at_mapper s.root_stands s.mapper_stands (λ z. s.differ (sym z)) e f
      by (inr e) (inr f) = e ∙ sym f

  by_nothing : (u v : Node) (k : ℤ) → Replicates host j u v k → k ≡ pos 0
  by_nothing u v k r = own_offset_is_zero n host j u k s.fabric s.found (subst (λ w. Replicates host j u w k) (sym (replicate_is_itself u v k r)) r)

  least_of : (u : Node) → IsNode j u → IsLeastNode host j u
  least_of u node = record { node = node; least = λ v k r. ap (λ w. node_below w u) (sym (replicate_is_itself u v k r)) ∙ itself_not_below u }

  each_least : (v : ℕ) (u : Node) → slice_get both v ≡ Some u → IsLeastNode host j u
  each_least zero u e = let one : Mapper ≡ u = cc in subst (IsLeastNode host j) one (least_of Mapper refl)
  each_least (suc zero) u e = let one : Reached [] ≡ u = cc in subst (IsLeastNode host j) one (least_of (Reached []) s.root)
  each_least (suc (suc v)) u e = cc

  own_vertex : (u : Node) (v : ℕ) → slice_get both v ≡ Some u → IsNode j u → IsOfVertex host j both u v (pos 0)
  own_vertex u v e node = record { least_node = u; there = e; one_class = same node }

  covered : (u : Node) → IsNode j u → HasVertex host j both u
  covered u node = by (s.only u node)
    where
      by : IsOneOf u → HasVertex host j both u
      by (inl e) = record { vertex = 0; offset = pos 0; is_of = own_vertex u 0 (ap Some (sym e)) node }
      by (inr e) = record { vertex = 1; offset = pos 0; is_of = own_vertex u 1 (ap Some (sym e)) node }

  led : (u x : Node) (v w : ℕ) → Leads j u (pos 0) x (pos 0) → slice_get both v ≡ Some u → slice_get both w ≡ Some x → IsLed host j both (port v (pos 0)) (port w (pos 0))
  led u x v w l e f = record {
    from = u;
    to = x;
    p = pos 0;
    i = pos 0;
    offset_from = pos 0;
    offset_to = pos 0;
    leads = l;
    is_from = own_vertex u v e (leads-from j u x (pos 0) (pos 0) l);
    is_to = own_vertex x w f (leads-to j u x (pos 0) (pos 0) l);
    leaves = refl;
    enters = refl;
  }

  -- the one cable is the host's own
  one_led : (k : ℕ) (c : MapCable) → slice_get (own_cable ∷ []) k ≡ Some c → IsLed host j both (first_end c) (second_end c) × IsLed host j both (second_end c) (first_end c)
  one_led zero c p =
      let one : own_cable ≡ c = cc in
      subst (λ c. IsLed host j both (first_end c) (second_end c) × IsLed host j both (second_end c) (first_end c)) one (led Mapper (Reached []) 0 1 (out s.root) refl refl, led (Reached []) Mapper 1 0 (home s.root) refl refl)
  one_led (suc k) c p = cc

  cabled-led : (d e : MapPort) → IsCabled m d e → IsLed host j both d e
  cabled-led d e (forth k {c = c} p) = (one_led k c (ap (λ cs. slice_get cs k) (sym t.cables) ∙ p)).0
  cabled-led d e (back k {c = c} p) = (one_led k c (ap (λ cs. slice_get cs k) (sym t.cables) ∙ p)).1

  no_turn : (w x : List ℤ) (p : ℤ) → IsNode j (Reached x) → x ≡ w ++ p ∷ [] → ⊥
  no_turn w x p node e = by (s.only (Reached x) node)
    where
      by : IsOneOf (Reached x) → ⊥
      by (inl f) = cc
      by (inr f) = let empty : x ≡ [] = cc in not_empty w p (sym e ∙ empty)

  joined-moved : (v w x y : ℕ) (p i q k : ℤ) → v ≡ x → p ≡ q → w ≡ y → i ≡ k → IsCabled m (port x q) (port y k) → IsCabled m (port v p) (port w i)
  joined-moved v w x y p i q k a b c d h = subst (λ z. IsCabled m (port v p) (port w z)) (sym d) (subst (λ z. IsCabled m (port v p) (port z k)) (sym c) (subst (λ z. IsCabled m (port v z) (port y k)) (sym b) (subst (λ z. IsCabled m (port z q) (port y k)) (sym a) h)))

  there : slice_get m.cables 0 ≡ Some own_cable
  there = ap (λ cs. slice_get cs 0) t.cables

  leads-joined : (u x : Node) (p i : ℤ) (v w : ℕ) → Leads j u p x i → slice_get both v ≡ Some u → slice_get both w ≡ Some x → IsCabled m (port v p) (port w i)
  leads-joined u x p i v w (onward {w = a} {x = b} {p = q} y z e) f g = absurd (no_turn a b q z e)
  leads-joined u x p i v w (go_back {w = a} {x = b} {p = q} y z e) f g = absurd (no_turn a b q z e)
  leads-joined u x p i v w (out y) f g = joined-moved v w 0 1 (pos 0) (pos 0) (pos 0) (pos 0) ((place_of Mapper v f).0 refl) refl ((place_of (Reached []) w g).1 refl) refl (forth 0 there)
  leads-joined u x p i v w (home y) f g = joined-moved v w 1 0 (pos 0) (pos 0) (pos 0) (pos 0) ((place_of (Reached []) v f).1 refl) refl ((place_of Mapper w g).0 refl) refl (back 0 there)

  led-cabled : (d e : MapPort) → IsLed host j both d e → IsCabled m d e
  led-cabled d e l =
      let from : l.from ≡ l.is_from.least_node = replicate_is_itself l.from l.is_from.least_node l.offset_from l.is_from.one_class in
      let to : l.to ≡ l.is_to.least_node = replicate_is_itself l.to l.is_to.least_node l.offset_to l.is_to.one_class in
      let joined = leads-joined l.from l.to l.p l.i d.v e.v l.leads (l.is_from.there ∙ ap Some (sym from)) (l.is_to.there ∙ ap Some (sym to)) in
      joined-moved d.v e.v d.v e.v d.p e.p l.p l.i refl (same_sum d.p l.p l.offset_from l.leaves (by_nothing l.from l.is_from.least_node l.offset_from l.is_from.one_class)) refl (same_sum e.p l.i l.offset_to l.enters (by_nothing l.to l.is_to.least_node l.offset_to l.is_to.one_class)) joined

  pub short_quotient : IsQuotient host j m
  short_quotient = record {
    least = both;
    each_least = each_least;
    in_order = in_order;
    covered = covered;
    vertices = t.vertices;
    cabled = λ d e. (cabled-led d e, led-cabled d e);
    cables_in_order = subst AreInOrder (sym t.cables) (refl, tt, tt);
    unmarked = t.core;
  }
