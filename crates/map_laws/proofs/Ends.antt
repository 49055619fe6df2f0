-- Where each switch has a host, two nodes that entered a switch by one port are one class at rest; so at most 1,024 nodes are begun.
use Rattle.std.proofs.Common.{◌≡◌, ◌<◌, ◌≤◌, ◌+◌, ◌*◌, ℕ, suc, List, [], ◌∷◌, ◌++◌, map, length, Bool, true, false, Option, Some, None, if◌then◌else◌, sym, ◌∙◌, subst, ap, refl, arith, ◌⊎◌, inl, inr}
use Rattle.std.specs.Prelude.{ℤ, pos, negsuc, ◌+ℤ◌, neg_ℤ}
use Rattle.std.proofs.lemmas.Bool.{false≢true}
use Rattle.std.proofs.lemmas.Bool.Decides.{nat_tests}
use Rattle.std.proofs.lemmas.Int.{ints}
use Rattle.std.proofs.lemmas.List.{length-map}
use Rattle.net_defs.specs.declared.vertex.Vertex.{Vertex}
use Rattle.net_defs.specs.declared.vertex.Vertex.TheVariants.{Host, Switch}
use Rattle.net_defs.specs.declared.vertex.End.{End}
use Rattle.net_defs.specs.Network.{Network, IsFabric, far, has_port, has_vertex}
use Rattle.net_defs.specs.Route.{host_port}
use Rattle.net_defs.proofs.Distinct.{all-weaker}
use Rattle.net_defs.proofs.Places.{place_at-there}
use Rattle.journal_defs.specs.declared.entry.Entry.{Entry}
use Rattle.journal_defs.specs.Tree.{Leads, IsNode, IsSwitchNode, is_asked, is_found, nodes}
use Rattle.journal_defs.specs.Tree.Node.{Reached}
use Rattle.journal_defs.specs.Tree.Leads.{onward}
use Rattle.journal_defs.specs.Replicates.Replicates.{same, turned as other_way}
use Rattle.journal_defs.specs.Growth.{IsGrowing, IsBegun, IsExpanded, IsAtRest, IsChosen, NextAsk, HasExpanded, node_limit}
use Rattle.journal_defs.specs.Growth.IsGrowing.{nothing, more}
use Rattle.journal_defs.specs.Growth.NextAsk.{first, goes_on, begins}
use Rattle.journal_defs.specs.Truth.{IsTrueJournal, standing}
use Rattle.journal_defs.specs.Part.{Path, IsInPart}
use Rattle.journal_defs.specs.Part.Path.{here, over}
use Rattle.net_defs.proofs.Cabling.{far-back}
use Rattle.journal_defs.proofs.Standing.{leads-to, node-stands, standing-there, leads-crosses}
use Rattle.journal_defs.proofs.Members.{all-map}
use Rattle.journal_defs.specs.Depth.{EachSwitchHasAHost}
use Rattle.map_laws.proofs.Asks.{HasTree, growing-tree, ByLast, by_last, first-unbegun, switch-node, expanded-has}
use Rattle.map_laws.proofs.Asks.ByLast.{empty, pushed}
use Rattle.map_laws.proofs.Phases.{begun-push}
use Rattle.map_laws.proofs.Truly.{true-where, switch-stands, node-asked}
use Rattle.map_laws.proofs.Crossing.{below-ports}
use Rattle.map_laws.proofs.Full.{AreOne, Step, expanded-member, over-member, before-cable, two-hosts, same-port, behind-port}
use Rattle.map_laws.proofs.Closing.{in-part}
use Rattle.map_laws.proofs.OneJournal.{true-parts}
use Rattle.map_laws.proofs.Pigeons.{few-below, member-map-all}
use Rattle.map_laws.proofs.Few.{AreBegun, are-begun, asks-of-begun, found_walks, found-length}
use Rattle.map_laws.proofs.Near.{switch-started}

-- a path of one cable is a cable
record IsCabled (n : Network) (s a : ℕ) : Type 0 where
  pub from : ℕ
  pub to : ℕ
  pub cable : far n (record { v = Switch s; p = from }) ≡ Some (record { v = Host a; p = to })

cable-of : (n : Network) (x y : Vertex) (s a m : ℕ) → x ≡ Switch s → y ≡ Host a → Path n x m y → m ≤ 1 → IsCabled n s a
cable-of n x y s a m p q (here) l = let e : Switch s ≡ Host a = sym p ∙ q in cc
cable-of n x y s a m p q (over (here) from to c) l = record { from = from; to = to; cable = ap (λ v. far n (record { v = v; p = from })) (sym p) ∙ c ∙ ap (λ v. Some (record { v = v; p = to })) q }
cable-of n x y s a m p q (over (over path b d e) from to c) l = absurd (omega arith)

-- an expanded node is a member of its own class by which its vertex's cables are crossed
own-step : (n : Network) (host : ℕ) (j : List Entry) (w : List ℤ) (d x : End) (p : ℕ) → IsFabric n → IsTrueJournal n host j → HasTree j → is_asked j [] ≡ true → IsNode j (Reached w) → IsExpanded j w → standing n host (Reached w) ≡ Some d → far n (record { v = d.v; p = p }) ≡ Some x → Step n host j (Reached w) d p x
own-step n host j w d x p f all tree started node ex is c = over-member n host j (Reached w) d x p f all tree started (expanded-member n host j (Reached w) d w (pos 0) f all is (same node) ex) c

-- two expanded nodes over a switch with a host are one class
over-a-host : (n : Network) (host : ℕ) (j : List Entry) (v w : List ℤ) (d e : End) (s a : ℕ) → IsFabric n → IsTrueJournal n host j → HasTree j → is_asked j [] ≡ true → IsNode j (Reached v) → IsNode j (Reached w) → IsExpanded j v → IsExpanded j w → standing n host (Reached v) ≡ Some d → standing n host (Reached w) ≡ Some e → d.v ≡ Switch s → e.v ≡ Switch s → IsCabled n s a → AreOne host j (Reached v) (Reached w)
over-a-host n host j v w d e s a f all tree started node_v node_w ex_v ex_w is_v is_w at_v at_w c =
    let x : End = record { v = Host a; p = c.to } in
    let from_v = own-step n host j v d x c.from f all tree started node_v ex_v is_v (ap (λ y. far n (record { v = y; p = c.from })) at_v ∙ c.cable) in
    let from_w = own-step n host j w e x c.from f all tree started node_w ex_w is_w (ap (λ y. far n (record { v = y; p = c.from })) at_w ∙ c.cable) in
    before-cable n host j (Reached v) (Reached w) d e x c.from f all from_v from_w
    (two-hosts n host j from_v.to.next from_w.to.next from_v.to.at from_w.to.at a all
    (leads-to j from_v.from.node from_v.to.next from_v.to.turn from_v.to.port from_v.to.leads) (leads-to j from_w.from.node from_w.to.next from_w.to.turn from_w.to.port from_w.to.leads)
    from_v.to.stands from_w.to.stands from_v.to.there from_w.to.there)

-- what stands before a node that was entered by a port
record Before (n : Network) (host : ℕ) (j : List Entry) (w v : List ℤ) (t : ℤ) (d : End) : Type 0 where
  pub switch : IsSwitchNode j v
  pub at : End
  pub stands : standing n host (Reached v) ≡ Some at
  pub leaves : ℕ
  pub by_port : pos leaves ≡ pos at.p +ℤ t
  pub cable : far n d ≡ Some (record { v = at.v; p = leaves })
  pub begun : IsBegun j v
  pub leads : Leads j (Reached v) t (Reached w) (pos 0)

same-number : (a b : ℕ) → pos a ≡ pos b +ℤ pos 0 → a ≡ b
same-number a b e = omega (arith, ints)

before : (n : Network) (host : ℕ) (j : List Entry) (w v : List ℤ) (t : ℤ) (d : End) → IsFabric n → IsTrueJournal n host j → HasTree j → IsNode j (Reached w) → standing n host (Reached w) ≡ Some d → w ≡ v ++ t ∷ [] → Before n host j w v t d
before n host j w v t d f all tree node is e =
    let asked = subst (λ x. is_asked j x ≡ true) e (node-asked j w node) in
    let up = tree.parent v t asked in
    let node_v = switch-node j v up.switch in
    let at = node-stands n host j (Reached v) (true-where n host j all) node_v in
    let leads : Leads j (Reached v) t (Reached w) (pos 0) = onward node_v node e in
    let over_it = leads-crosses n host j (Reached v) (Reached w) t (pos 0) at.at d f leads at.is is in
    let enters : over_it.enters ≡ d.p = same-number over_it.enters d.p over_it.enters_by in
    let cable : far n (record { v = at.at.v; p = over_it.leaves }) ≡ Some d = over_it.cable ∙ ap (λ p. Some (record { v = d.v; p = p })) enters in
    record {
      switch = up.switch;
      at = at.at;
      stands = at.is;
      leaves = over_it.leaves;
      by_port = over_it.leaves_by;
      cable = far-back n (record { v = at.at.v; p = over_it.leaves }) d f cable;
      begun = record { node = node_v; turn = t; onward = up.onward; asked = asked };
      leads = leads;
    }

one-end-of : (n : Network) (d a b : End) → far n d ≡ Some a → far n d ≡ Some b → a ≡ b
one-end-of n d a b p q = let both : Some a ≡ Some b = sym p ∙ q in cc

-- the first walk's end is no other's
first-alone : (n : Network) (host : ℕ) (j : List Entry) (w v : List ℤ) (t : ℤ) (d : End) → IsFabric n → IsTrueJournal n host j → standing n host (Reached []) ≡ Some d → Before n host j w v t d → ⊥
first-alone n host j w v t d f all is b =
    let back = far-back n (host_port host) d f is in
    let one = one-end-of n d (host_port host) (record { v = b.at.v; p = b.leaves }) back b.cable in
    switch-stands n host j v b.at host all b.switch b.stands (sym (ap (λ (e : End). e.v) one))

same-before : (n : Network) (host : ℕ) (j : List Entry) (u w v y : List ℤ) (t s : ℤ) (d : End) (b : Before n host j u v t d) (c : Before n host j w y s d) → ◌≡◌ {A = End} (record { v = b.at.v; p = b.leaves }) (record { v = c.at.v; p = c.leaves })
same-before n host j u w v y t s d b c = one-end-of n d (record { v = b.at.v; p = b.leaves }) (record { v = c.at.v; p = c.leaves }) b.cable c.cable

-- where what stands before two nodes at one end is one class, so are they
after-cable : (n : Network) (host : ℕ) (j : List Entry) (u w v y : List ℤ) (t s : ℤ) (d : End) → IsFabric n → IsTrueJournal n host j → (b : Before n host j u v t d) (c : Before n host j w y s d) → AreOne host j (Reached v) (Reached y) → AreOne host j (Reached u) (Reached w)
after-cable n host j u w v y t s d f all b c one =
    let port : b.leaves ≡ c.leaves = ap (λ (x : End). x.p) (same-before n host j u w v y t s d b c) in
    let turn = same-port n host j (Reached v) (Reached y) one.offset b.at c.at b.leaves t s f all one.one_class b.stands c.stands b.by_port (ap pos port ∙ c.by_port) in
    behind-port host j (Reached v) (Reached y) (Reached u) (Reached w) one.offset t s (pos 0) (pos 0) one.one_class b.leads c.leads turn

same-vertex : (n : Network) (host : ℕ) (j : List Entry) (u w v y : List ℤ) (t s : ℤ) (d : End) (b : Before n host j u v t d) (c : Before n host j w y s d) → b.at.v ≡ c.at.v
same-vertex n host j u w v y t s d b c = ap (λ (x : End). x.v) (same-before n host j u w v y t s d b c)

-- two nodes at one end, at rest, are one class, since what stands before them is
merged-after : (n : Network) (host : ℕ) (j : List Entry) (u w v y : List ℤ) (t s : ℤ) (d : End) → IsFabric n → IsTrueJournal n host j → HasTree j → is_asked j [] ≡ true → IsAtRest j → EachSwitchHasAHost n host → (b : Before n host j u v t d) (c : Before n host j w y s d) → AreOne host j (Reached u) (Reached w)
merged-after n host j u w v y t s d f all tree started rest hosts b c = by b.at.v refl
  where
    at_switch : (x : ℕ) → b.at.v ≡ Switch x → AreOne host j (Reached u) (Reached w)
    at_switch x p =
        let near = hosts x (subst (IsInPart n host) p (in-part n host (Reached v) b.at b.stands)) in
        let cable = cable-of n (Switch x) (Host near.address) x near.address near.cables refl refl near.path near.few in
        after-cable n host j u w v y t s d f all b c
        (over-a-host n host j v y b.at c.at x near.address f all tree started (switch-node j v b.switch) (switch-node j y c.switch) (rest.expanded v b.begun) (rest.expanded y c.begun) b.stands c.stands p (sym (same-vertex n host j u w v y t s d b c) ∙ p) cable)

    by : (x : Vertex) → b.at.v ≡ x → AreOne host j (Reached u) (Reached w)
    by (Host a) p = absurd (switch-stands n host j v b.at a all b.switch b.stands p)
    by (Switch x) p = at_switch x p

merged : (n : Network) (host : ℕ) (j : List Entry) (u w : List ℤ) (d : End) → IsFabric n → IsTrueJournal n host j → HasTree j → is_asked j [] ≡ true → IsAtRest j → EachSwitchHasAHost n host → IsNode j (Reached u) → IsNode j (Reached w) → standing n host (Reached u) ≡ Some d → standing n host (Reached w) ≡ Some d → (u ≡ w) ⊎ AreOne host j (Reached u) (Reached w)
merged n host j u w d f all tree started rest hosts node_u node_w is_u is_w = by (by_last u) (by_last w)
  where
    by : ByLast u → ByLast w → (u ≡ w) ⊎ AreOne host j (Reached u) (Reached w)
    by (empty p) (empty q) = inl (p ∙ sym q)
    by (empty p) (pushed y s q) = absurd (first-alone n host j w y s d f all (ap (λ x. standing n host (Reached x)) (sym p) ∙ is_u) (before n host j w y s d f all tree node_w is_w q))
    by (pushed v t p) (empty q) = absurd (first-alone n host j u v t d f all (ap (λ x. standing n host (Reached x)) (sym q) ∙ is_w) (before n host j u v t d f all tree node_u is_u p))
    by (pushed v t p) (pushed y s q) = inr (merged-after n host j u w v y t s d f all tree started rest hosts (before n host j u v t d f all tree node_u is_u p) (before n host j w y s d f all tree node_w is_w q))

-- so a node that is chosen stands at an end of its own
chosen-alone : (n : Network) (host depth : ℕ) (j : List Entry) (u w : List ℤ) (d : End) → IsFabric n → IsTrueJournal n host j → IsGrowing host depth j → EachSwitchHasAHost n host → IsAtRest j → IsChosen host depth j w → IsBegun j u → standing n host (Reached u) ≡ Some d → standing n host (Reached w) ≡ Some d → ⊥
chosen-alone n host depth j u w d f all g hosts rest c b is_u is_w =
    by (merged n host j u w d f all (growing-tree host depth j g) (switch-started host depth j w g c.switch) rest hosts b.node (switch-node j w c.switch) is_u is_w)
  where
    by : (u ≡ w) ⊎ AreOne host j (Reached u) (Reached w) → ⊥
    by (inl p) = c.fresh (subst (λ x. HasExpanded host j (Reached x)) p (expanded-has host j u b.node (rest.expanded u b)))
    by (inr o) = c.fresh (record { member = u; offset = neg_ℤ o.offset; one_class = other_way o.one_class; expanded = rest.expanded u b })

-- nodes that are begun stand at ends of their own
record AreAlone (n : Network) (host : ℕ) (j : List Entry) : Type 0 where
  pub alone : (u w : List ℤ) (d : End) → IsBegun j u → IsBegun j w → standing n host (Reached u) ≡ Some d → standing n host (Reached w) ≡ Some d → u ≡ w

alone-push : (n : Network) (host depth : ℕ) (j : List Entry) (e : Entry) → HasTree j → AreAlone n host j → (IsAtRest j → (w u : List ℤ) (d : End) → IsChosen host depth j w → IsBegun j u → standing n host (Reached u) ≡ Some d → standing n host (Reached w) ≡ Some d → ⊥) → NextAsk host depth j e.walk → AreAlone n host (j ++ e ∷ [])
alone-push n host depth j e tree a chosen (first p q) = record { alone = λ u w d b c x y. absurd (first-unbegun j e u p q b) }
alone-push n host depth j e tree a chosen (goes_on v t c l least is) = record { alone = λ u w d b o x y. a.alone u w d (back u (begun-push j e v u t tree is b)) (back w (begun-push j e v w t tree is o)) x y }
  where
    back : (w : List ℤ) → IsBegun j w ⊎ (w ≡ v) → IsBegun j w
    back w (inl b) = b
    back w (inr p) = subst (IsBegun j) (sym p) c
alone-push n host depth j e tree a chosen (begins v rest c is) = record { alone = λ u w d b o x y. by u w d (begun-push j e v u (negsuc 14) tree is b) (begun-push j e v w (negsuc 14) tree is o) x y }
  where
    by : (u w : List ℤ) (d : End) → IsBegun j u ⊎ (u ≡ v) → IsBegun j w ⊎ (w ≡ v) → standing n host (Reached u) ≡ Some d → standing n host (Reached w) ≡ Some d → u ≡ w
    by u w d (inl b) (inl o) x y = a.alone u w d b o x y
    by u w d (inl b) (inr p) x y = absurd (chosen rest v u d c b x (ap (λ z. standing n host (Reached z)) (sym p) ∙ y))
    by u w d (inr p) (inl o) x y = absurd (chosen rest v w d c o y (ap (λ z. standing n host (Reached z)) (sym p) ∙ x))
    by u w d (inr p) (inr q) x y = p ∙ sym q

are-alone : (n : Network) (host depth : ℕ) (j : List Entry) → IsFabric n → IsTrueJournal n host j → EachSwitchHasAHost n host → IsGrowing host depth j → AreAlone n host j
are-alone n host depth j f all hosts (nothing) = record { alone = λ u w d b c x y. absurd (false≢true b.asked) }
are-alone n host depth j f all hosts (more start e g ask is) =
    let first_part = (true-parts n host start (e ∷ []) (subst (IsTrueJournal n host) is all)).0 in
    subst (AreAlone n host) (sym is) (alone-push n host depth start e (growing-tree host depth start g) (are-alone n host depth start f first_part hosts g) (λ rest w u d c b x y. chosen-alone n host depth start u w d f first_part g hosts rest c b x y) ask)

-- the number of an end of a switch
abbrev vertex_number : Vertex → ℕ → ℕ
vertex_number (Host h) p = 0
vertex_number (Switch s) p = 16 * s + p

abbrev end_number : Option End → ℕ
end_number None = 0
end_number (Some e) = vertex_number e.v e.p

abbrev number_of : Network → ℕ → List ℤ → ℕ
number_of n host w = end_number (standing n host (Reached w))

-- the end at which a node stands that is begun
record StandsAt (n : Network) (host : ℕ) (w : List ℤ) : Type 0 where
  pub at : End
  pub stands : standing n host (Reached w) ≡ Some at
  pub number : ℕ
  pub is : at.v ≡ Switch number
  pub few : number < 64
  pub low : at.p < 16

few-switches : (n : Network) (s : ℕ) → IsFabric n → has_vertex n (Switch s) ≡ true → s < 64
few-switches n s f h = let most = f.few_switches in grind (arith, nat_tests)

begun-switch : (j : List Entry) (w : List ℤ) → HasTree j → IsBegun j w → IsSwitchNode j w
begun-switch j w tree b = (tree.parent w b.turn b.asked).switch

stands-at : (n : Network) (host : ℕ) (j : List Entry) (w : List ℤ) → IsFabric n → IsTrueJournal n host j → HasTree j → IsBegun j w → StandsAt n host w
stands-at n host j w f all tree b =
    let at = node-stands n host j (Reached w) (true-where n host j all) b.node in
    by at.at at.at.v at.is refl
  where
    by : (d : End) (v : Vertex) → standing n host (Reached w) ≡ Some d → d.v ≡ v → StandsAt n host w
    by d (Host a) is p = absurd (switch-stands n host j w d a all (begun-switch j w tree b) is p)
    by d (Switch s) is p =
        let port = standing-there n host w d f is in
        let there : has_port n (record { v = Switch s; p = d.p }) ≡ true = subst (λ x. has_port n (record { v = x; p = d.p }) ≡ true) p port in
        record { at = d; stands = is; number = s; is = p; few = few-switches n s f (place_at-there n (Some (record { v = Switch s; p = d.p })) there); low = below-ports n d f port }

number-is : (n : Network) (host : ℕ) (w : List ℤ) (s : StandsAt n host w) → number_of n host w ≡ 16 * s.number + s.at.p
number-is n host w s = ap end_number s.stands ∙ ap (λ v. vertex_number v s.at.p) s.is

small-number : (s p k : ℕ) → s < 64 → p < 16 → k ≡ 16 * s + p → k < 1024
small-number s p k a b e = omega arith

one-number : (s p r q k l : ℕ) → p < 16 → q < 16 → k ≡ 16 * s + p → l ≡ 16 * r + q → k ≡ l → (s ≡ r) × (p ≡ q)
one-number s p r q k l a b e f g = (omega arith, omega arith)

-- nodes that are begun have numbers of their own
numbers-apart : (n : Network) (host depth : ℕ) (j : List Entry) → IsFabric n → IsTrueJournal n host j → EachSwitchHasAHost n host → IsGrowing host depth j → (u w : List ℤ) → IsBegun j u → IsBegun j w → number_of n host u ≡ number_of n host w → u ≡ w
numbers-apart n host depth j f all hosts g u w b c e =
    let tree = growing-tree host depth j g in
    let at_u = stands-at n host j u f all tree b in
    let at_w = stands-at n host j w f all tree c in
    let same = one-number at_u.number at_u.at.p at_w.number at_w.at.p (number_of n host u) (number_of n host w) at_u.low at_w.low (number-is n host u at_u) (number-is n host w at_w) e in
    let vertex : at_u.at.v ≡ at_w.at.v = at_u.is ∙ ap Switch same.0 ∙ sym at_w.is in
    let one : at_u.at ≡ at_w.at = one_end at_u.at at_w.at vertex same.1 in
    (are-alone n host depth j f all hosts g).alone u w at_u.at b c at_u.stands (at_w.stands ∙ ap Some (sym one))
  where
    one_end : (d e : End) → d.v ≡ e.v → d.p ≡ e.p → d ≡ e
    one_end d e p q = λ i. record { v = p i; p = q i }

few-begun : (n : Network) (host depth : ℕ) (j : List Entry) (ws : List (List ℤ)) → IsFabric n → IsTrueJournal n host j → EachSwitchHasAHost n host → IsGrowing host depth j → AreBegun j ws → length ws ≤ 1024
few-begun n host depth j ws f all hosts g begun =
    let tree = growing-tree host depth j g in
    let apart = member-map-all (IsBegun j) (number_of n host) ws begun.once begun.each (numbers-apart n host depth j f all hosts g) in
    let below = all-map (λ q. q < 1024) (number_of n host) ws (all-weaker (IsBegun j) (λ w. number_of n host w < 1024) ws (λ w b. (let at = stands-at n host j w f all tree b in small-number at.number at.at.p (number_of n host w) at.few at.low (number-is n host w at))) begun.each) in
    let most = few-below 1024 (map (number_of n host) ws) apart below in
    let same = length-map ws (number_of n host) in
    omega arith

found-few : (j : List Entry) → length (found_walks j) ≤ length j
found-few [] = omega arith
found-few (e ∷ j) = by (is_found e.answer) (found-few j)
  where
    by : (b : Bool) → length (found_walks j) ≤ length j → length (if b then e.walk ∷ found_walks j else found_walks j) ≤ suc (length j)
    by true l = omega arith
    by false l = omega arith

pub few-by-hosts : (n : Network) (host depth : ℕ) (j : List Entry) → IsFabric n → IsTrueJournal n host j → EachSwitchHasAHost n host → IsGrowing host depth j → length (nodes j) ≤ node_limit
few-by-hosts n host depth j f all hosts g =
    let begun = are-begun host depth j g in
    let few = few-begun n host depth j begun.0 f all hosts g begun.1 in
    let asks = asks-of-begun host depth j begun.0 g begun.1 in
    let found = found-few j in
    let same = found-length j in
    omega arith
