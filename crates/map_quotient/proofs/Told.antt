-- The cables that the walks show are those of the map, and no others.
use Rattle.std.proofs.Common.{◌≡◌, ◌≢◌, ◌<◌, ◌+◌, ◌⊎◌, inl, inr, ℕ, suc, List, [], ◌∷◌, ◌++◌, Bool, true, false, length, Option, Some, None, is_some, refl, ap, sym, ◌∙◌, subst, arith, if◌then◌else◌}
use Rattle.std.specs.Prelude.{ℤ, pos, slice_get}
use Rattle.std.proofs.lemmas.Bool.{cases_eq}
use Rattle.std.proofs.lemmas.Option.{slice_get_within}
use Rattle.net_defs.specs.Network.{Apart}
use Rattle.journal_defs.specs.declared.entry.Entry.{Entry}
use Rattle.journal_defs.specs.Tree.{Node, IsNode, Leads}
use Rattle.journal_defs.specs.Tree.Node.{Mapper, Reached}
use Rattle.journal_defs.specs.Tree.Leads.{onward, back as backward, out, home}
use Rattle.map_defs.specs.declared.vertex.MapCable.{MapCable}
use Rattle.map_defs.specs.NetMap.{NetMap, MapPort, IsCabled, first_end, second_end, same_port, far_port, map_far}
use Rattle.map_defs.specs.NetMap.IsCabled.{forth, back}
use Rattle.map_defs.specs.Quotient.{IsLed}
use Rattle.map_defs.proofs.Ports.{same_port-true}
use Rattle.fabric_map.specs.Growing.{with_cable}
use Rattle.replicate_merge.specs.Table.{ClassTable}
use Rattle.replicate_merge.specs.Ways.{node_at}
use Rattle.replicate_merge.specs.Nodes.{nodes_of}
use Rattle.replicate_merge.proofs.Nodes.{apart-once, nodes-apart}
use Rattle.replicate_merge.proofs.Telling.{last-turn, not-empty, walk-node, no-walk, node-walk, IsWalked}
use Rattle.map_quotient.specs.Joining.{port_of, cable_between, TellsCable, joined, joined_by, JoinsBelow}
use Rattle.map_quotient.specs.Joining.TellsCable.{from_mapper, from_node, from_none}
use Rattle.map_quotient.specs.Joining.JoinsBelow.{start, next}
use Rattle.map_quotient.proofs.Places.{one-there, push-cases, push-old, push-new}
use Rattle.map_quotient.proofs.Standing.{AreOf, is_node, least_nodes, led-from, led-to, one-far, AreEnds}

-- what a port leads to is joined to it
far-among : (m : NetMap) (cs : List MapCable) (d e : MapPort) → ((k : ℕ) (c : MapCable) → slice_get cs k ≡ Some c → (i : ℕ) × (slice_get m.cables i ≡ Some c)) → far_port cs d ≡ Some e → IsCabled m d e
far-among m [] d e all g = cc
far-among m (c ∷ cs) d e all g = by (same_port (first_end c) d) (same_port (second_end c) d) refl refl g (far-among m cs d e (λ k x s. all (suc k) x s))
  where
    place : (i : ℕ) × (slice_get m.cables i ≡ Some c)
    place = all 0 c refl

    by : (s t : Bool) → same_port (first_end c) d ≡ s → same_port (second_end c) d ≡ t → (if s then Some (second_end c) else if t then Some (first_end c) else far_port cs d) ≡ Some e → (far_port cs d ≡ Some e → IsCabled m d e) → IsCabled m d e
    by true t p q h rest = let one : second_end c ≡ e = cc in subst (λ x. IsCabled m x e) (same_port-true (first_end c) d p) (subst (IsCabled m (first_end c)) one (forth place.0 place.1))
    by false true p q h rest = let one : first_end c ≡ e = cc in subst (λ x. IsCabled m x e) (same_port-true (second_end c) d q) (subst (IsCabled m (second_end c)) one (back place.0 place.1))
    by false false p q h rest = rest h

pub far-cabled : (m : NetMap) (d e : MapPort) → map_far m d ≡ Some e → IsCabled m d e
far-cabled m d e f = far-among m m.cables d e (λ k c s. (k, s)) f

-- with one cable more
cabled-old : (m : NetMap) (c : MapCable) (d e : MapPort) → IsCabled m d e → IsCabled (with_cable m c) d e
cabled-old m c d e (forth k {c = x} s) = forth k (push-old m.cables c k x s)
cabled-old m c d e (back k {c = x} s) = back k (push-old m.cables c k x s)

-- a cable joins these ports, one way or the other
abbrev Joins : MapCable → MapPort → MapPort → Type 0
Joins c d e = ((first_end c ≡ d) × (second_end c ≡ e)) ⊎ ((second_end c ≡ d) × (first_end c ≡ e))

cabled-cases : (m : NetMap) (c : MapCable) (d e : MapPort) → IsCabled (with_cable m c) d e → IsCabled m d e ⊎ Joins c d e
cabled-cases m c d e (forth k {c = x} s) = by (push-cases m.cables c k x s)
  where
    by : (slice_get m.cables k ≡ Some x) ⊎ ((k ≡ length m.cables) × (c ≡ x)) → IsCabled m (first_end x) (second_end x) ⊎ Joins c (first_end x) (second_end x)
    by (inl p) = inl (forth k p)
    by (inr p) = inr (inl (ap first_end p.1, ap second_end p.1))
cabled-cases m c d e (back k {c = x} s) = by (push-cases m.cables c k x s)
  where
    by : (slice_get m.cables k ≡ Some x) ⊎ ((k ≡ length m.cables) × (c ≡ x)) → IsCabled m (second_end x) (first_end x) ⊎ Joins c (second_end x) (first_end x)
    by (inl p) = inl (back k p)
    by (inr p) = inr (inr (ap second_end p.1, ap first_end p.1))

module _ (host : ℕ) (j : List Entry) (walks : List (List ℤ)) (c : ClassTable) (least : List ℕ) (vertices : List (Option ℕ)) (g : AreOf host j c least vertices) (walked : nodes_of walks ≡ c.nodes) where
  abbrev Led : MapPort → MapPort → Type 0
  Led d e = IsLed host j (least_nodes host j c least vertices g) d e

  node-of : (at : ℕ) (w : List ℤ) → slice_get walks at ≡ Some w → (at + 1 < length c.nodes) × (node_at c.nodes (at + 1) ≡ Reached w)
  node-of at w s = subst (λ (ns : List Node). (at + 1 < length ns) × (node_at ns (at + 1) ≡ Reached w)) walked (walk-node walks at w s)

  walk-of : (n : ℕ) (w : List ℤ) → n < length c.nodes → node_at c.nodes n ≡ Reached w → IsWalked walks n w
  walk-of n w l e = node-walk walks n w (subst (λ (ns : List Node). n < length ns) (sym walked) l) (subst (λ (ns : List Node). node_at ns n ≡ Reached w) (sym walked) e)

  mapper-first : (0 < length c.nodes) × (node_at c.nodes 0 ≡ Mapper)
  mapper-first = subst (λ (ns : List Node). (0 < length ns) × (node_at ns 0 ≡ Mapper)) walked (omega arith, refl)

  same-number : (m n : ℕ) → m < length c.nodes → n < length c.nodes → node_at c.nodes m ≡ node_at c.nodes n → m ≡ n
  same-number m n k l e = apart-once c.nodes (subst Apart (sym g.stands.numbered) (nodes-apart j g.once)) m n k l e

  there : (n : ℕ) (u : Node) → n < length c.nodes → node_at c.nodes n ≡ u → IsNode j u
  there n u l e = subst (IsNode j) e (is_node host j c least vertices g n l)

  -- the ends of a cable that is shown are joined, both ways
  pub told-led : (at : ℕ) (w : List ℤ) (o : Option MapCable) (x : MapCable) → slice_get walks at ≡ Some w → TellsCable walks c vertices w (at + 1) o → o ≡ Some x → Led (first_end x) (second_end x) × Led (second_end x) (first_end x)
  told-led at w o x s (from_mapper e is) q =
      let n = node-of at w s in
      let first : node_at c.nodes (at + 1) ≡ Reached [] = n.1 ∙ ap Reached e in
      let root = there (at + 1) (Reached []) n.0 first in
      let one : cable_between c vertices 0 (pos 0) (at + 1) ≡ x = cc in
      let leads : Leads j (node_at c.nodes 0) (pos 0) (node_at c.nodes (at + 1)) (pos 0) = subst (λ u. Leads j u (pos 0) (node_at c.nodes (at + 1)) (pos 0)) (sym mapper-first.1) (subst (λ u. Leads j Mapper (pos 0) u (pos 0)) (sym first) (out root)) in
      let returns : Leads j (node_at c.nodes (at + 1)) (pos 0) (node_at c.nodes 0) (pos 0) = subst (λ u. Leads j (node_at c.nodes (at + 1)) (pos 0) u (pos 0)) (sym mapper-first.1) (subst (λ u. Leads j u (pos 0) Mapper (pos 0)) (sym first) (home root)) in
      subst (λ y. Led (first_end y) (second_end y) × Led (second_end y) (first_end y)) one (led-from host j c least vertices g 0 (at + 1) (pos 0) (pos 0) mapper-first.0 n.0 leads, led-from host j c least vertices g (at + 1) 0 (pos 0) (pos 0) n.0 mapper-first.0 returns)
  told-led at w o x s (from_node front turn m e f is) q =
      let n = node-of at w s in
      let k = node-of m front f in
      let one : cable_between c vertices (m + 1) turn (at + 1) ≡ x = cc in
      let a = there (m + 1) (Reached front) k.0 k.1 in
      let b = there (at + 1) (Reached w) n.0 n.1 in
      let leads : Leads j (node_at c.nodes (m + 1)) turn (node_at c.nodes (at + 1)) (pos 0) = subst (λ u. Leads j u turn (node_at c.nodes (at + 1)) (pos 0)) (sym k.1) (subst (λ u. Leads j (Reached front) turn u (pos 0)) (sym n.1) (onward a b e)) in
      let returns : Leads j (node_at c.nodes (at + 1)) (pos 0) (node_at c.nodes (m + 1)) turn = subst (λ u. Leads j (node_at c.nodes (at + 1)) (pos 0) u turn) (sym k.1) (subst (λ u. Leads j u (pos 0) (Reached front) turn) (sym n.1) (backward a b e)) in
      subst (λ y. Led (first_end y) (second_end y) × Led (second_end y) (first_end y)) one (led-from host j c least vertices g (m + 1) (at + 1) turn (pos 0) k.0 n.0 leads, led-from host j c least vertices g (at + 1) (m + 1) (pos 0) turn n.0 k.0 returns)
  told-led at w o x s (from_none front turn e f is) q = cc

  module _ (first : NetMap) (bare : first.cables ≡ []) where
    -- only joined ports are cabled
    pub told-only : (k : ℕ) (m : NetMap) → JoinsBelow walks c vertices first k m → (d e : MapPort) → IsCabled m d e → Led d e
    told-only k m (start x is) d e q = absurd (none first bare d e (subst (λ y. IsCabled y d e) is q))
      where
        none : (y : NetMap) → y.cables ≡ [] → (a b : MapPort) → IsCabled y a b → ⊥
        none y z a b (forth i {c = x} s) = let t : None ≡ Some x = sym (ap (λ (l : List MapCable). slice_get l i) z) ∙ s in cc
        none y z a b (back i {c = x} s) = let t : None ≡ Some x = sym (ap (λ (l : List MapCable). slice_get l i) z) ∙ s in cc
    told-only k m (next i at old new w o z before s told is) d e q = by o refl (subst (λ y. IsCabled y d e) is q) (told-only at old before)
      where
        joins : (x : MapCable) → o ≡ Some x → Joins x d e → Led d e
        joins x p (inl a) = subst (λ y. Led y e) a.0 (subst (Led (first_end x)) a.1 (told-led at w o x s told p).0)
        joins x p (inr a) = subst (λ y. Led y e) a.0 (subst (Led (second_end x)) a.1 (told-led at w o x s told p).1)

        more : (x : MapCable) → o ≡ Some x → (b : Bool) → IsCabled (if b then old else with_cable old x) d e → ((d e : MapPort) → IsCabled old d e → Led d e) → Led d e
        more x p true r rest = rest d e r
        more x p false r rest = either (cabled-cases old x d e r)
          where
            either : IsCabled old d e ⊎ Joins x d e → Led d e
            either (inl a) = rest d e a
            either (inr a) = joins x p a

        by : (y : Option MapCable) → o ≡ y → IsCabled (joined_by old y) d e → ((d e : MapPort) → IsCabled old d e → Led d e) → Led d e
        by None p r rest = rest d e r
        by (Some x) p r rest = more x p (is_some (map_far old (first_end x))) r rest

    -- a cable that is there stays
    stays : (m : NetMap) (o : Option MapCable) (d e : MapPort) → IsCabled m d e → IsCabled (joined_by m o) d e
    stays m None d e q = q
    stays m (Some x) d e q = by (is_some (map_far m (first_end x)))
      where
        by : (b : Bool) → IsCabled (if b then m else with_cable m x) d e
        by true = q
        by false = cabled-old m x d e q

    -- the cable that a walk shows is there
    record IsTold (m : NetMap) (at : ℕ) : Type 0 where
      pub walk : List ℤ
      pub told : Option MapCable
      pub there_walk : slice_get walks at ≡ Some walk
      pub tells : TellsCable walks c vertices walk (at + 1) told
      pub cabled : (x : MapCable) → told ≡ Some x → IsCabled m (first_end x) (second_end x)

    told-each : (k : ℕ) (m : NetMap) → JoinsBelow walks c vertices first k m → (at : ℕ) → at < k → IsTold m at
    told-each k m (start x is) at l = absurd (omega arith)
    told-each k m (next i p old new w o z before s told is) at l = by (cases_eq at p) (told-each p old before at)
      where
        later : IsTold old at → IsTold m at
        later t = record { walk = t.walk; told = t.told; there_walk = t.there_walk; tells = t.tells; cabled = λ x q. subst (λ y. IsCabled y (first_end x) (second_end x)) (sym is) (stays old o (first_end x) (second_end x) (t.cabled x q)) }

        now : (x : MapCable) → o ≡ Some x → IsCabled (joined old x) (first_end x) (second_end x)
        now x q = far (map_far old (first_end x)) refl
          where
            far : (f : Option MapPort) → map_far old (first_end x) ≡ f → IsCabled (if is_some f then old else with_cable old x) (first_end x) (second_end x)
            far None r = forth (length old.cables) (push-new old.cables x)
            far (Some e) r =
                let own = (told-led p w o x s told q).0 in
                let cabled = far-cabled old (first_end x) e r in
                let other = told-only p old before (first_end x) e cabled in
                subst (IsCabled old (first_end x)) (one-far host j c least vertices g (first_end x) e (second_end x) other own) cabled

        here : IsTold m p
        here = record { walk = w; told = o; there_walk = s; tells = told; cabled = λ x q. subst (λ y. IsCabled y (first_end x) (second_end x)) (sym (is ∙ ap (joined_by old) q)) (now x q) }

        by : (at ≡ p) ⊎ (at ≢ p) → (at < p → IsTold old at) → IsTold m at
        by (inl e) rest = subst (IsTold m) (sym e) here
        by (inr d) rest = later (rest (omega arith))

    -- and so all joined ports are cabled
    module _ (m : NetMap) (all : JoinsBelow walks c vertices first (length walks) m) where
      told-at : (n : ℕ) (w : List ℤ) (k : IsWalked walks n w) → IsTold m k.place
      told-at n w k = told-each (length walks) m all k.place (slice_get_within walks k.place w k.walk)

      number-is : (n : ℕ) (w : List ℤ) (k : IsWalked walks n w) → k.place + 1 ≡ n
      number-is n w k = sym k.number

      -- from a node to one with a turn more
      turn-cabled : (a b : ℕ) (w x : List ℤ) (p : ℤ) → a < length c.nodes → b < length c.nodes → node_at c.nodes a ≡ Reached w → node_at c.nodes b ≡ Reached x → x ≡ w ++ p ∷ [] → IsCabled m (port_of c vertices a p) (port_of c vertices b (pos 0))
      turn-cabled a b w x p la lb ea eb e = from t.tells
        where
          k : IsWalked walks b x
          k = walk-of b x lb eb

          front_at : IsWalked walks a w
          front_at = walk-of a w la ea

          t : IsTold m k.place
          t = told-at b x k

          same : t.walk ≡ w ++ p ∷ []
          same = one-there walks k.place t.walk x t.there_walk k.walk ∙ e

          from : TellsCable walks c vertices t.walk (k.place + 1) t.told → IsCabled m (port_of c vertices a p) (port_of c vertices b (pos 0))
          from (from_mapper f is) = absurd (not-empty w p (sym same ∙ f))
          from (from_none other turn f none is) = let ends = last-turn w other p turn (sym same ∙ f) in absurd (no-walk walks other none front_at.place (front_at.walk ∙ ap Some ends.0))
          from (from_node other turn i f s is) =
              let ends = last-turn w other p turn (sym same ∙ f) in
              let n = node-of i other s in
              let number : i + 1 ≡ a = same-number (i + 1) a n.0 la (n.1 ∙ ap Reached (sym ends.0) ∙ sym ea) in
              let q = t.cabled (cable_between c vertices (i + 1) turn (k.place + 1)) is in
              subst (λ y. IsCabled m (port_of c vertices a p) (port_of c vertices y (pos 0))) (sym k.number) (subst (λ y. IsCabled m (port_of c vertices a y) (port_of c vertices (k.place + 1) (pos 0))) (sym ends.1) (subst (λ y. IsCabled m (port_of c vertices y turn) (port_of c vertices (k.place + 1) (pos 0))) number q))

      -- from the mapper's host
      root-cabled : (a b : ℕ) → a < length c.nodes → b < length c.nodes → node_at c.nodes a ≡ Mapper → node_at c.nodes b ≡ Reached [] → IsCabled m (port_of c vertices a (pos 0)) (port_of c vertices b (pos 0))
      root-cabled a b la lb ea eb = from t.tells
        where
          k : IsWalked walks b []
          k = walk-of b [] lb eb

          t : IsTold m k.place
          t = told-at b [] k

          same : t.walk ≡ []
          same = one-there walks k.place t.walk [] t.there_walk k.walk

          first_number : 0 ≡ a
          first_number = same-number 0 a mapper-first.0 la (mapper-first.1 ∙ sym ea)

          from : TellsCable walks c vertices t.walk (k.place + 1) t.told → IsCabled m (port_of c vertices a (pos 0)) (port_of c vertices b (pos 0))
          from (from_mapper f is) =
              let q = t.cabled (cable_between c vertices 0 (pos 0) (k.place + 1)) is in
              subst (λ y. IsCabled m (port_of c vertices a (pos 0)) (port_of c vertices y (pos 0))) (sym k.number) (subst (λ y. IsCabled m (port_of c vertices y (pos 0)) (port_of c vertices (k.place + 1) (pos 0))) first_number q)
          from (from_none other turn f none is) = absurd (not-empty other turn (sym f ∙ same))
          from (from_node other turn i f s is) = absurd (not-empty other turn (sym f ∙ same))

      turned-back : (d e : MapPort) → IsCabled m d e → IsCabled m e d
      turned-back d e (forth k s) = back k s
      turned-back d e (back k s) = forth k s

      leads-cabled : (u x : Node) (p i : ℤ) → Leads j u p x i → (a b : ℕ) → a < length c.nodes → b < length c.nodes → node_at c.nodes a ≡ u → node_at c.nodes b ≡ x → IsCabled m (port_of c vertices a p) (port_of c vertices b i)
      leads-cabled u x p i (onward {w = w} {x = y} {p = t} f h e) a b la lb ea eb = turn-cabled a b w y t la lb ea eb e
      leads-cabled u x p i (backward {w = w} {x = y} {p = t} f h e) a b la lb ea eb = turned-back (port_of c vertices b t) (port_of c vertices a (pos 0)) (turn-cabled b a w y t lb la eb ea e)
      leads-cabled u x p i (out f) a b la lb ea eb = root-cabled a b la lb ea eb
      leads-cabled u x p i (home f) a b la lb ea eb = turned-back (port_of c vertices b (pos 0)) (port_of c vertices a (pos 0)) (root-cabled b a lb la eb ea)

      pub told-whole : (d e : MapPort) → Led d e → IsCabled m d e
      told-whole d e l = by (led-to host j c least vertices g d e l)
        where
          by : AreEnds host j c least vertices g d e → IsCabled m d e
          by x = subst (λ y. IsCabled m y e) (sym x.is_d) (subst (IsCabled m (port_of c vertices x.m x.p)) (sym x.is_e) (leads-cabled (node_at c.nodes x.m) (node_at c.nodes x.n) x.p x.i x.leads x.m x.n x.m_below x.n_below refl refl))
