-- The two walks that are made are two walks, and the return walk that they give a path is one.
use Rattle.std.proofs.Common.{◌≡◌, ◌≢◌, ◌<◌, ◌≤◌, ◌+◌, ℕ, zero, suc, List, [], ◌∷◌, ◌++◌, length, map, take, drop, get_or, Bool, true, false, not, ◌||◌, Option, Some, None, sym, ◌∙◌, subst, ap, true≢false, refl, arith, ◌⊎◌, inl, inr, if◌then◌else◌, nat_eq, nat_le, is_some}
use Rattle.std.specs.Prelude.{reverse}
use Rattle.std.specs.List.{list_any, position}
use Rattle.std.proofs.lemmas.Bool.{false≢true}
use Rattle.std.proofs.lemmas.Bool.Decides.{Decides-eqb, nat_tests}
use Rattle.std.proofs.lemmas.List.{append-nil, reverse-append, take-append-drop}
use Rattle.std.proofs.lemmas.List.Quantifiers.{position-Some}
use Rattle.net_defs.specs.declared.vertex.Vertex.{Vertex}
use Rattle.net_defs.specs.declared.vertex.Vertex.TheVariants.{Host, Switch}
use Rattle.net_defs.specs.declared.vertex.End.{End}
use Rattle.net_defs.specs.Network.{Network, IsFabric, same_vertex}
use Rattle.net_defs.specs.Route.{host_port}
use Rattle.net_defs.proofs.Ends.{same_vertex-true, same_vertex-refl}
use Rattle.journal_defs.specs.Part.{is_host}
use Rattle.journal_defs.proofs.Order.{or-left, or-right}
use Rattle.port_graph.proofs.Fabrics.{is_some-position}
use Rattle.circ_defs.specs.Circuit.{are_apart}
use Rattle.circ_defs.specs.PathList.{Ear, IsEar}
use Rattle.circ_defs.specs.Ways.{AreAmong, AreNone, ArePaths, IsOneOf, IsPath, IsTouched, IsWay, Joins, Step, cables_in, cables_on}
use Rattle.circ_defs.proofs.Cables.{joins-back}
use Rattle.circ_defs.proofs.Numbers.{either-in, left-in, right-in, none-from, none-to}
use Rattle.circ_defs.proofs.Ways.{Split, back-apart, back-one, backwards, cables-join, new-way, split-at, turned_round, way-back}
use Rattle.circ_ears.specs.TwoWalks.{HasTwo}
use Rattle.circ_ears.proofs.Inner.{new-back}
use Rattle.circ_ears.proofs.Returns.{EarOf, HasOwn, make-ear, own-old}
use Rattle.circ_ears.proofs.TwoWalks.{Part, back-part, go-both, on-there, own-end, own-two, parts, paths_have_two_walks, to-host}
use Rattle.circ_ears.specs.Trails.{back_over, begins_at, crossed_back, end_from, end_of, ends_at_host, one_more, start_of, steps_to}
use Rattle.circ_ears.specs.TwoWays.{Two, along, apart_at_host, between, both, ear_by, ear_of, extended, far_end_of, first_before, flipped, over_path, own_two, second_before, two_of}
use Rattle.circ_ears.proofs.Searching.{way-end}

back-over-is : (ss : List Step) → back_over ss ≡ backwards ss
back-over-is [] = refl
back-over-is (s ∷ ss) = reverse-append (crossed_back s ∷ []) (map crossed_back ss) ∙ ap (λ l. l ++ crossed_back s ∷ []) (back-over-is ss)

-- these are two walks to two vertices, in this order
pub record IsTwo (n : Network) (host : ℕ) (gs : List ℕ) (x y : Vertex) (t : Two) : Type 0 where
  pub two : HasTwo n host gs x y
  pub there : two.there ≡ t.there
  pub body : two.body ≡ t.body
  pub tail : two.tail ≡ t.tail

-- these are two walks to two vertices, in the order that they say
pub data AreTwo (n : Network) (host : ℕ) (gs : List ℕ) (x y : Vertex) (t : Two) : Type 0 where
  straight : t.swapped ≡ false → IsTwo n host gs x y t → AreTwo n host gs x y t
  crossed : t.swapped ≡ true → IsTwo n host gs y x t → AreTwo n host gs x y t

flipped-two : (n : Network) (host : ℕ) (gs : List ℕ) (x y : Vertex) (t : Two) → AreTwo n host gs x y t → AreTwo n host gs y x (flipped t)
flipped-two n host gs x y t (straight e r) = crossed (ap not e) (record { two = r.two; there = r.there; body = r.body; tail = r.tail })
flipped-two n host gs x y t (crossed e r) = straight (ap not e) (record { two = r.two; there = r.there; body = r.body; tail = r.tail })

-- steps that are new
record IsNew (old gs : List ℕ) (a : List Step) : Type 0 where
  pub apart : are_apart (cables_on a) ≡ true
  pub new : AreNone (cables_on a) old
  pub among : AreAmong (cables_on a) gs

none-new : (old gs : List ℕ) → IsNew old gs []
none-new old gs = record { apart = refl; new = tt; among = tt }

module _ (n : Network) (host : ℕ) (old gs : List ℕ) (some : (k : ℕ) → IsOneOf k old → IsOneOf k gs) where
  both-two : (x y z w : Vertex) (a b : List Step) (t : Two) → AreTwo n host old x y t → IsWay n x a z → IsWay n w b y → IsNew old gs a → IsNew old gs b → IsNew old gs (backwards a) → IsNew old gs (backwards b) → ((k : ℕ) → IsOneOf k (cables_on a) → IsOneOf k (cables_on b) → ⊥) → AreTwo n host gs z w (both a b t)
  both-two x y z w a b t (straight e r) wa wb na nb ma mb none =
      subst (λ s. AreTwo n host gs z w (if s then extended (back_over b) (back_over a) t else extended a b t)) (sym e) (straight e (record {
        two = go-both n host old gs x y z w a b r.two wa wb na.apart nb.apart na.new nb.new none some na.among nb.among;
        there = ap (λ l. l ++ a) r.there;
        body = ap (λ l. b ++ l) r.body;
        tail = r.tail;
      }))
  both-two x y z w a b t (crossed e r) wa wb na nb ma mb none =
      subst (λ s. AreTwo n host gs z w (if s then extended (back_over b) (back_over a) t else extended a b t)) (sym e) (crossed e (record {
        two = go-both n host old gs y x w z (backwards b) (backwards a) r.two (way-back n w y b wb) (way-back n x z a wa) mb.apart ma.apart mb.new ma.new (λ k m i. none k (back-one k a i) (back-one k b m)) some mb.among ma.among;
        there = ap (λ l. l ++ backwards b) r.there ∙ ap (λ l. t.there ++ l) (sym (back-over-is b));
        body = ap (λ l. backwards a ++ l) r.body ∙ ap (λ l. l ++ t.body) (sym (back-over-is a));
        tail = r.tail;
      }))

  -- two walks to one vertex lead on to a vertex, and from another to a host
  host-two : (x z w : Vertex) (a d : List Step) (h : ℕ) (t : Two) → AreTwo n host old x x t → IsWay n x a z → IsWay n w d (Host h) → IsNew old gs a → IsNew old gs d → ((k : ℕ) → IsOneOf k (cables_on a) → IsOneOf k (cables_on d) → ⊥) → AreTwo n host gs z w (apart_at_host a d t)
  host-two x z w a d h t two wa wd na nd none = by two
    where
      from : IsTwo n host old x x t → AreTwo n host gs z w (apart_at_host a d t)
      from r = straight refl (record {
        two = to-host n host old gs x x z w a d h r.two wa wd na.apart nd.apart na.new nd.new none some na.among nd.among;
        there = ap (λ l. l ++ a) r.there;
        body = refl;
        tail = refl;
      })

      by : AreTwo n host old x x t → AreTwo n host gs z w (apart_at_host a d t)
      by (straight e r) = from r
      by (crossed e r) = from r

-- where a vertex is on a path
pub data IsPlaced (n : Network) (start end : Vertex) (p : List Step) (old : List ℕ) (x : Vertex) : Option ℕ → Type 0 where
  on_path : (i : ℕ) → IsWay n start (take i p) x → IsWay n x (drop i p) end → IsPlaced n start end p old x (Some i)
  before_path : IsTouched n old x → IsPlaced n start end p old x None

-- a way that is cut after a step
cut-after : (n : Network) (x z : Vertex) (p : List Step) (i : ℕ) (d : Step) → IsWay n x p z → i < length p → IsWay n x (take (suc i) p) (get_or p i d).into.v × IsWay n (get_or p i d).into.v (drop (suc i) p) z
cut-after n x z [] i d way l = absurd (omega arith)
cut-after n x z (s ∷ p) zero d way l = ((way.0, way.1, none-taken p), dropped p way.2)
  where
    none-taken : (p : List Step) → IsWay n s.into.v (take zero p) s.into.v
    none-taken [] = refl
    none-taken (t ∷ p) = refl

    dropped : (p : List Step) → IsWay n s.into.v p z → IsWay n s.into.v (drop zero p) z
    dropped [] w = w
    dropped (t ∷ p) w = w
cut-after n x z (s ∷ p) (suc i) d way l = let r = cut-after n s.into.v z p i d way.2 (omega arith) in ((way.0, way.1, r.0), r.1)

passes-any : (n : Network) (v x : Vertex) (first rest : List Step) → IsWay n v first x → (v ≡ x) ⊎ (list_any (λ s. same_vertex s.into.v x) (first ++ rest) ≡ true)
passes-any n v x [] rest way = inl way
passes-any n v x (s ∷ ss) rest way = by (passes-any n s.into.v x ss rest way.2)
  where
    by : (s.into.v ≡ x) ⊎ (list_any (λ s. same_vertex s.into.v x) (ss ++ rest) ≡ true) → (v ≡ x) ⊎ (list_any (λ s. same_vertex s.into.v x) (s ∷ (ss ++ rest)) ≡ true)
    by (inl e) = inr (or-left (same_vertex s.into.v x) (list_any (λ s. same_vertex s.into.v x) (ss ++ rest)) (subst (λ y. same_vertex s.into.v y ≡ true) e (same_vertex-refl s.into.v)))
    by (inr e) = inr (or-right (same_vertex s.into.v x) (list_any (λ s. same_vertex s.into.v x) (ss ++ rest)) e)

begun-at : (n : Network) (start end x : Vertex) (p : List Step) → IsWay n start p end → begins_at p x ≡ true → start ≡ x
begun-at n start end x [] way e = absurd (false≢true e)
begun-at n start end x (s ∷ ss) way e = sym way.1 ∙ same_vertex-true s.out.v x e

at-begun : (n : Network) (start end x : Vertex) (s : Step) (ss : List Step) → IsWay n start (s ∷ ss) end → start ≡ x → begins_at (s ∷ ss) x ≡ true
at-begun n start end x s ss way e = subst (λ y. same_vertex s.out.v y ≡ true) (way.1 ∙ e) (same_vertex-refl s.out.v)

placed : (n : Network) (start end x : Vertex) (s : Step) (ss : List Step) (old : List ℕ) → IsWay n start (s ∷ ss) end → IsTouched n (cables_on (s ∷ ss) ++ old) x → IsPlaced n start end (s ∷ ss) old x (steps_to (s ∷ ss) x)
placed n start end x s ss old way t = by (begins_at (s ∷ ss) x) refl
  where
    off : begins_at (s ∷ ss) x ≡ false → position (λ s. same_vertex s.into.v x) (s ∷ ss) ≡ None → IsPlaced n start end (s ∷ ss) old x None
    off p q = which (either-in t.cable (cables_on (s ∷ ss)) old t.one_of)
      where
        split : Split n start t.from.v end (s ∷ ss) → ⊥
        split c = at (passes-any n start t.from.v c.first c.rest c.there)
          where
            at : (start ≡ t.from.v) ⊎ (list_any (λ s. same_vertex s.into.v t.from.v) (c.first ++ c.rest) ≡ true) → ⊥
            at (inl e) = true≢false (sym (at-begun n start end x s ss way (e ∙ t.there)) ∙ p)
            at (inr e) = true≢false (sym (subst (λ y. list_any (λ s. same_vertex s.into.v y) (s ∷ ss) ≡ true) t.there (ap (λ l. list_any (λ s. same_vertex s.into.v t.from.v) l) (sym c.whole) ∙ e)) ∙ sym (is_some-position (λ s. same_vertex s.into.v x) (s ∷ ss)) ∙ ap is_some q)

        which : IsOneOf t.cable (cables_on (s ∷ ss)) ⊎ IsOneOf t.cable old → IsPlaced n start end (s ∷ ss) old x None
        which (inl m) = absurd (split (split-at n start end (s ∷ ss) t.cable t.to t.from way m (joins-back n t.cable t.from t.to t.joins)))
        which (inr m) = before_path (record { cable = t.cable; from = t.from; to = t.to; one_of = m; joins = t.joins; there = t.there })

    at : (i : ℕ) → position (λ s. same_vertex s.into.v x) (s ∷ ss) ≡ Some i → IsPlaced n start end (s ∷ ss) old x (Some (i + 1))
    at i q =
        let f = position-Some (λ s. same_vertex s.into.v x) (s ∷ ss) i s q in
        let c = cut-after n start end (s ∷ ss) i s way f.0 in
        let v : (get_or (s ∷ ss) i s).into.v ≡ x = same_vertex-true (get_or (s ∷ ss) i s).into.v x f.1 in
        let more : suc i ≡ i + 1 = omega arith in
        subst (λ k. IsPlaced n start end (s ∷ ss) old x (Some k)) more (on_path (suc i) (subst (IsWay n start (take (suc i) (s ∷ ss))) v c.0) (subst (λ y. IsWay n y (drop (suc i) (s ∷ ss)) end) v c.1))

    later : begins_at (s ∷ ss) x ≡ false → (o : Option ℕ) → position (λ s. same_vertex s.into.v x) (s ∷ ss) ≡ o → IsPlaced n start end (s ∷ ss) old x (one_more o)
    later p None q = off p q
    later p (Some i) q = at i q

    by : (b : Bool) → begins_at (s ∷ ss) x ≡ b → IsPlaced n start end (s ∷ ss) old x (if b then Some 0 else one_more (position (λ s. same_vertex s.into.v x) (s ∷ ss)))
    by true p = on_path 0 (begun-at n start end x (s ∷ ss) way p) (subst (λ y. IsWay n y (s ∷ ss) end) (begun-at n start end x (s ∷ ss) way p) way)
    by false p = later p (position (λ s. same_vertex s.into.v x) (s ∷ ss)) refl

-- a later rest is part of an earlier one
later-part : (p : List Step) (i j k : ℕ) → i ≤ j → IsOneOf k (cables_on (drop j p)) → IsOneOf k (cables_on (drop i p))
later-part [] i j k l m = at i j m
  where
    at : (i j : ℕ) → IsOneOf k (cables_on (drop j [])) → IsOneOf k (cables_on (drop i []))
    at zero zero m = m
    at zero (suc j) m = m
    at (suc i) zero m = m
    at (suc i) (suc j) m = m
later-part (s ∷ p) zero zero k l m = m
later-part (s ∷ p) zero (suc j) k l m = inr (whole p (later-part p 0 j k (omega arith) m))
  where
    whole : (p : List Step) → IsOneOf k (cables_on (drop 0 p)) → IsOneOf k (cables_on p)
    whole [] i = i
    whole (t ∷ p) i = i
later-part (s ∷ p) (suc i) zero k l m = absurd (omega arith)
later-part (s ∷ p) (suc i) (suc j) k l m = later-part p i j k (omega arith) m

-- where a way ends
end-is : (n : Network) (start end : Vertex) (s : Step) (ss : List Step) → IsWay n start (s ∷ ss) end → end_of (s ∷ ss) ≡ end
end-is n start end s ss way = way-end n s.into.v end ss way.2

host-of : (v : Vertex) → is_host v ≡ true → (h : ℕ) × (v ≡ Host h)
host-of (Host h) e = (h, refl)
host-of (Switch s) e = absurd (false≢true e)

module _ (n : Network) (host : ℕ) (q : List Step) (ps : List (List Step)) (s : Step) (ss : List Step) (e : IsPath n (cables_in (q ∷ ps)) (s ∷ ss)) (are : ArePaths n host (q ∷ ps)) where
  way : IsWay n e.start (s ∷ ss) e.end
  way = new-way n (cables_in (q ∷ ps)) e.start (s ∷ ss) e.end e.across

  some : (k : ℕ) → IsOneOf k (cables_in (q ∷ ps)) → IsOneOf k (cables_on (s ∷ ss) ++ cables_in (q ∷ ps))
  some k m = right-in k (cables_on (s ∷ ss)) (cables_in (q ∷ ps)) m

  start-is : start_of (s ∷ ss) ≡ e.start
  start-is = way.1

  record HasParts (i : ℕ) : Type 0 where
    pub front : IsNew (cables_in (q ∷ ps)) (cables_on (s ∷ ss) ++ cables_in (q ∷ ps)) (take i (s ∷ ss))
    pub front_back : IsNew (cables_in (q ∷ ps)) (cables_on (s ∷ ss) ++ cables_in (q ∷ ps)) (backwards (take i (s ∷ ss)))
    pub rest : IsNew (cables_in (q ∷ ps)) (cables_on (s ∷ ss) ++ cables_in (q ∷ ps)) (drop i (s ∷ ss))
    pub rest_back : IsNew (cables_in (q ∷ ps)) (cables_on (s ∷ ss) ++ cables_in (q ∷ ps)) (backwards (drop i (s ∷ ss)))
    pub none : (k : ℕ) → IsOneOf k (cables_on (take i (s ∷ ss))) → IsOneOf k (cables_on (drop i (s ∷ ss))) → ⊥

  parts-at : (i : ℕ) → HasParts i
  parts-at i =
      let two = λ (x y : Vertex) (a : IsTouched n (cables_in (q ∷ ps)) x) (b : IsTouched n (cables_in (q ∷ ps)) y). paths_have_two_walks n host (q ∷ ps) x y are a b in
      let r = parts n host (cables_in (q ∷ ps)) (s ∷ ss) e two (take i (s ∷ ss)) (drop i (s ∷ ss)) (take-append-drop i (s ∷ ss)) in
      let a = back-part n host (cables_in (q ∷ ps)) (s ∷ ss) e two (take i (s ∷ ss)) r.0 in
      let d = back-part n host (cables_in (q ∷ ps)) (s ∷ ss) e two (drop i (s ∷ ss)) r.1 in
      record {
        front = record { apart = r.0.apart; new = r.0.new; among = r.0.among };
        front_back = record { apart = a.apart; new = a.new; among = a.among };
        rest = record { apart = r.1.apart; new = r.1.new; among = r.1.among };
        rest_back = record { apart = d.apart; new = d.new; among = d.among };
        none = r.2;
      }

  -- one vertex on the path, the other before it
  one-two : (x y : Vertex) (i : ℕ) (t : Two) → AreTwo n host (cables_in (q ∷ ps)) (start_of (s ∷ ss)) y t → IsWay n e.start (take i (s ∷ ss)) x → AreTwo n host (cables_on (s ∷ ss) ++ cables_in (q ∷ ps)) x y (both (take i (s ∷ ss)) [] t)
  one-two x y i t two there =
      let r = parts-at i in
      let empty = none-new (cables_in (q ∷ ps)) (cables_on (s ∷ ss) ++ cables_in (q ∷ ps)) in
      both-two n host (cables_in (q ∷ ps)) (cables_on (s ∷ ss) ++ cables_in (q ∷ ps)) some e.start y x y (take i (s ∷ ss)) [] t (subst (λ v. AreTwo n host (cables_in (q ∷ ps)) v y t) start-is two) there refl r.front empty r.front_back empty (λ k m i. i)

  -- both on the path, the first before the second
  along-two : (x y : Vertex) (i j : ℕ) (t : Two) → i ≤ j → AreTwo n host (cables_in (q ∷ ps)) (start_of (s ∷ ss)) (far_end_of (s ∷ ss)) t → IsWay n e.start (take i (s ∷ ss)) x → IsWay n y (drop j (s ∷ ss)) e.end → AreTwo n host (cables_on (s ∷ ss) ++ cables_in (q ∷ ps)) x y (along (s ∷ ss) i j t)
  along-two x y i j t low two there on = by (ends_at_host (s ∷ ss)) refl two
    where
      none : (k : ℕ) → IsOneOf k (cables_on (take i (s ∷ ss))) → IsOneOf k (cables_on (drop j (s ∷ ss))) → ⊥
      none k m o = (parts-at i).none k m (later-part (s ∷ ss) i j k low o)

      by : (b : Bool) → ends_at_host (s ∷ ss) ≡ b → AreTwo n host (cables_in (q ∷ ps)) (start_of (s ∷ ss)) (if b then start_of (s ∷ ss) else end_of (s ∷ ss)) t → AreTwo n host (cables_on (s ∷ ss) ++ cables_in (q ∷ ps)) x y (if b then apart_at_host (take i (s ∷ ss)) (drop j (s ∷ ss)) t else both (take i (s ∷ ss)) (drop j (s ∷ ss)) t)
      by true p w =
          let h = host-of (end_of (s ∷ ss)) p in
          host-two n host (cables_in (q ∷ ps)) (cables_on (s ∷ ss) ++ cables_in (q ∷ ps)) some e.start x y (take i (s ∷ ss)) (drop j (s ∷ ss)) h.0 t (subst (λ v. AreTwo n host (cables_in (q ∷ ps)) v v t) start-is w) there (subst (IsWay n y (drop j (s ∷ ss))) (sym (end-is n e.start e.end s ss way) ∙ h.1) on) (parts-at i).front (parts-at j).rest none
      by false p w =
          both-two n host (cables_in (q ∷ ps)) (cables_on (s ∷ ss) ++ cables_in (q ∷ ps)) some e.start e.end x y (take i (s ∷ ss)) (drop j (s ∷ ss)) t (subst (λ v. AreTwo n host (cables_in (q ∷ ps)) v e.end t) start-is (subst (λ v. AreTwo n host (cables_in (q ∷ ps)) (start_of (s ∷ ss)) v t) (end-is n e.start e.end s ss way) w)) there on (parts-at i).front (parts-at j).rest (parts-at i).front_back (parts-at j).rest_back none

  -- before the path's walks, those to its own ends
  start-touched : IsTouched n (cables_in (q ∷ ps)) (start_of (s ∷ ss))
  start-touched = subst (IsTouched n (cables_in (q ∷ ps))) (sym start-is) e.starts

  pub far-touched : IsTouched n (cables_in (q ∷ ps)) (far_end_of (s ∷ ss))
  far-touched = by (ends_at_host (s ∷ ss)) refl
    where
      end : is_host (end_of (s ∷ ss)) ≡ false → IsTouched n (cables_in (q ∷ ps)) e.end ⊎ ((h : ℕ) × (e.end ≡ Host h)) → IsTouched n (cables_in (q ∷ ps)) (end_of (s ∷ ss))
      end p (inl t) = subst (IsTouched n (cables_in (q ∷ ps))) (sym (end-is n e.start e.end s ss way)) t
      end p (inr h) = absurd (true≢false (sym (ap is_host (end-is n e.start e.end s ss way ∙ h.1)) ∙ p))

      by : (b : Bool) → ends_at_host (s ∷ ss) ≡ b → IsTouched n (cables_in (q ∷ ps)) (if b then start_of (s ∷ ss) else end_of (s ∷ ss))
      by true p = start-touched
      by false p = end p e.ends

  pub path-two : (x y : Vertex) (i j : Option ℕ) (ask : (v w : Vertex) → IsTouched n (cables_in (q ∷ ps)) v → IsTouched n (cables_in (q ∷ ps)) w → AreTwo n host (cables_in (q ∷ ps)) v w (two_of (q ∷ ps) v w)) → IsPlaced n e.start e.end (s ∷ ss) (cables_in (q ∷ ps)) x i → IsPlaced n e.start e.end (s ∷ ss) (cables_in (q ∷ ps)) y j → AreTwo n host (cables_on (s ∷ ss) ++ cables_in (q ∷ ps)) x y (over_path (s ∷ ss) i j (two_of (q ∷ ps) (first_before (s ∷ ss) i j x) (second_before (s ∷ ss) i j x y)))
  path-two x y i j ask (before_path a) (before_path b) = more (ask x y a b)
    where
      more : AreTwo n host (cables_in (q ∷ ps)) x y (two_of (q ∷ ps) x y) → AreTwo n host (cables_on (s ∷ ss) ++ cables_in (q ∷ ps)) x y (two_of (q ∷ ps) x y)
      more (straight f r) = straight f (wider x y r)
        where
          wider : (x y : Vertex) {t : Two} → IsTwo n host (cables_in (q ∷ ps)) x y t → IsTwo n host (cables_on (s ∷ ss) ++ cables_in (q ∷ ps)) x y t
          wider x y r = record { two = on-there n host (cables_in (q ∷ ps)) (cables_on (s ∷ ss) ++ cables_in (q ∷ ps)) x y x [] r.two refl refl tt some tt; there = append-nil r.two.there ∙ r.there; body = r.body; tail = r.tail }
      more (crossed f r) = crossed f (record { two = on-there n host (cables_in (q ∷ ps)) (cables_on (s ∷ ss) ++ cables_in (q ∷ ps)) y x y [] r.two refl refl tt some tt; there = append-nil r.two.there ∙ r.there; body = r.body; tail = r.tail })
  path-two x y i j ask (on_path k there on) (before_path b) = one-two x y k (two_of (q ∷ ps) (start_of (s ∷ ss)) y) (ask (start_of (s ∷ ss)) y start-touched b) there
  path-two x y i j ask (before_path a) (on_path k there on) =
      flipped-two n host (cables_on (s ∷ ss) ++ cables_in (q ∷ ps)) y x (both (take k (s ∷ ss)) [] (two_of (q ∷ ps) (start_of (s ∷ ss)) x)) (one-two y x k (two_of (q ∷ ps) (start_of (s ∷ ss)) x) (ask (start_of (s ∷ ss)) x start-touched a) there)
  path-two x y i j ask (on_path k there on) (on_path l here off) = by (nat_le k l) refl
    where
      t : Two
      t = two_of (q ∷ ps) (start_of (s ∷ ss)) (far_end_of (s ∷ ss))

      two : AreTwo n host (cables_in (q ∷ ps)) (start_of (s ∷ ss)) (far_end_of (s ∷ ss)) (two_of (q ∷ ps) (start_of (s ∷ ss)) (far_end_of (s ∷ ss)))
      two = ask (start_of (s ∷ ss)) (far_end_of (s ∷ ss)) start-touched far-touched

      by : (b : Bool) → nat_le k l ≡ b → AreTwo n host (cables_on (s ∷ ss) ++ cables_in (q ∷ ps)) x y (if b then along (s ∷ ss) k l (two_of (q ∷ ps) (start_of (s ∷ ss)) (far_end_of (s ∷ ss))) else flipped (along (s ∷ ss) l k (two_of (q ∷ ps) (start_of (s ∷ ss)) (far_end_of (s ∷ ss)))))
      by true p = along-two x y k l (two_of (q ∷ ps) (start_of (s ∷ ss)) (far_end_of (s ∷ ss))) (let m : k ≤ l = grind (arith, nat_tests) in m) two there off
      by false p = flipped-two n host (cables_on (s ∷ ss) ++ cables_in (q ∷ ps)) y x (along (s ∷ ss) l k (two_of (q ∷ ps) (start_of (s ∷ ss)) (far_end_of (s ∷ ss)))) (along-two y x l k (two_of (q ∷ ps) (start_of (s ∷ ss)) (far_end_of (s ∷ ss))) (let m : l ≤ k = grind (arith, nat_tests) in m) two here on)

-- two walks over the mapper's own cable
own-are : (n : Network) (host k : ℕ) (into : End) (x y : Vertex) → Joins n k (host_port host) into → IsTouched n (k ∷ []) x → IsTouched n (k ∷ []) y → AreTwo n host (k ∷ []) x y (own_two (record { cable = k; out = host_port host; into = into } ∷ []) x y)
own-are n host k into x y joins a b = by (same_vertex (Host host) x) refl (same_vertex (Host host) y) refl
  where
    at : (z : Vertex) → IsTouched n (k ∷ []) z → same_vertex (Host host) z ≡ false → z ≡ into.v
    at z t e = which (own-end n host k into z joins t)
      where
        which : (z ≡ Host host) ⊎ (z ≡ into.v) → z ≡ into.v
        which (inl p) = absurd (true≢false (sym (subst (λ v. same_vertex (Host host) v ≡ true) (sym p) (same_vertex-refl (Host host))) ∙ e))
        which (inr p) = p

    home : (z : Vertex) → same_vertex (Host host) z ≡ true → z ≡ Host host
    home z e = sym (same_vertex-true (Host host) z e)

    own : Step
    own = record { cable = k; out = host_port host; into = into }

    by : (s : Bool) → same_vertex (Host host) x ≡ s → (t : Bool) → same_vertex (Host host) y ≡ t → AreTwo n host (k ∷ []) x y (record { there = if s then [] else record { cable = k; out = host_port host; into = into } ∷ []; body = []; tail = if t then [] else back_over (record { cable = k; out = host_port host; into = into } ∷ []); swapped = false })
    by true p true q = straight refl (record { two = own-two n host k into x y joins (inl (home x p)) (inl (home y q)); there = refl; body = refl; tail = refl })
    by true p false q = straight refl (record { two = own-two n host k into x y joins (inl (home x p)) (inr (at y b q)); there = refl; body = refl; tail = refl })
    by false p true q = straight refl (record { two = own-two n host k into x y joins (inr (at x a p)) (inl (home y q)); there = refl; body = refl; tail = refl })
    by false p false q = straight refl (record { two = own-two n host k into x y joins (inr (at x a p)) (inr (at y b q)); there = refl; body = refl; tail = refl })

not-none : (k : ℕ) → nat_eq (suc k) 0 ≡ false
not-none k = by (nat_eq (suc k) 0) refl
  where
    by : (b : Bool) → nat_eq (suc k) 0 ≡ b → b ≡ false
    by true e = let z : suc k ≡ 0 = (Decides-eqb (suc k) 0).0 e in absurd (omega arith)
    by false e = refl

-- the two walks that are made are two walks
pub two-are : (n : Network) (host : ℕ) (ps : List (List Step)) (x y : Vertex) → ArePaths n host ps → IsTouched n (cables_in ps) x → IsTouched n (cables_in ps) y → AreTwo n host (cables_in ps) x y (two_of ps x y)
two-are n host [] x y are a b = absurd are
two-are n host (p ∷ []) x y are a b = by p are.is a b
  where
    by : (p : List Step) → p ≡ record { cable = are.cable; out = host_port host; into = are.into } ∷ [] → IsTouched n (cables_on p ++ []) x → IsTouched n (cables_on p ++ []) y → AreTwo n host (cables_on p ++ []) x y (own_two p x y)
    by p e a b = subst (λ l. AreTwo n host (cables_on l ++ []) x y (own_two l x y)) (sym e) (own-are n host are.cable are.into x y are.joins (subst (λ l. IsTouched n (cables_on l ++ []) x) e a) (subst (λ l. IsTouched n (cables_on l ++ []) y) e b))
two-are n host ([] ∷ q ∷ ps) x y are a b = absurd are.0.across
two-are n host ((s ∷ ss) ∷ q ∷ ps) x y are a b =
    let way = new-way n (cables_in (q ∷ ps)) are.0.start (s ∷ ss) are.0.end are.0.across in
    subst (λ one. AreTwo n host (cables_on (s ∷ ss) ++ cables_in (q ∷ ps)) x y (if one then own_two (s ∷ ss) x y else over_path (s ∷ ss) (steps_to (s ∷ ss) x) (steps_to (s ∷ ss) y) (two_of (q ∷ ps) (first_before (s ∷ ss) (steps_to (s ∷ ss) x) (steps_to (s ∷ ss) y) x) (second_before (s ∷ ss) (steps_to (s ∷ ss) x) (steps_to (s ∷ ss) y) x y)))) (sym (not-none (length ps)))
    (path-two n host q ps s ss are.0 are.1 x y (steps_to (s ∷ ss) x) (steps_to (s ∷ ss) y) (λ v w c d. two-are n host (q ∷ ps) v w are.1 c d)
    (placed n are.0.start are.0.end x s ss (cables_in (q ∷ ps)) way a) (placed n are.0.start are.0.end y s ss (cables_in (q ∷ ps)) way b))

by-two : (ps : List (List Step)) (p : List Step) → ear_of ps p ≡ ear_by p (two_of ps (start_of p) (far_end_of p))
unfolding ear_of
by-two ps p = refl

-- so the return walk that they give a path is one
pub record IsEarOf (n : Network) (host : ℕ) (ps : List (List Step)) (p : List Step) : Type 0 where
  pub own : EarOf n host (cables_in ps) p
  pub is : own.ear ≡ ear_of ps p

pub ear-is : (n : Network) (host : ℕ) (q : List Step) (ps : List (List Step)) (p : List Step) → IsFabric n → ArePaths n host (q ∷ ps) → IsPath n (cables_in (q ∷ ps)) p → IsEarOf n host (q ∷ ps) p
ear-is n host q ps [] f are e = absurd e.across
ear-is n host q ps (s ∷ ss) f are e = by (two-are n host (q ∷ ps) (start_of (s ∷ ss)) (far_end_of (s ∷ ss)) are (subst (IsTouched n (cables_in (q ∷ ps))) (sym way.1) e.starts) (far-touched n host q ps s ss e are))
  where
    old : List ℕ
    old = cables_in (q ∷ ps)

    way : IsWay n e.start (s ∷ ss) e.end
    way = new-way n (cables_in (q ∷ ps)) e.start (s ∷ ss) e.end e.across

    own : HasOwn n host (cables_in (q ∷ ps))
    own = own-old n host (q ∷ ps) are

    t : Two
    t = two_of (q ∷ ps) (start_of (s ∷ ss)) (far_end_of (s ∷ ss))

    ends : end_of (s ∷ ss) ≡ e.end
    ends = end-is n e.start e.end s ss way

    alone : is_host (end_of (s ∷ ss)) ≡ true → (x y : Vertex) → x ≡ e.start → (t : Two) → IsTwo n host (cables_in (q ∷ ps)) x y t → (r : EarOf n host (cables_in (q ∷ ps)) (s ∷ ss)) × (r.ear ≡ record { before = t.there; path = s ∷ ss; after = [] })
    alone p x y same t r =
        let h = host-of (end_of (s ∷ ss)) p in (
          record {
            ear = record { before = r.two.there; path = s ∷ ss; after = [] ++ [] };
            is_ear = make-ear n host (cables_in (q ∷ ps)) e.start e.end (s ∷ ss) r.two.there [] [] h.0 f own e.across e.starts e.is_new e.apart (subst (IsWay n (Host host) r.two.there) same r.two.way_there) (sym ends ∙ h.1) r.two.there_among tt r.two.there_apart refl tt tt;
            path_is = inl refl;
          },
          ap (λ l. record { before = l; path = s ∷ ss; after = [] }) r.there,
        )

    along-path : (x y : Vertex) → x ≡ e.start → y ≡ e.end → (t : Two) → IsTwo n host (cables_in (q ∷ ps)) x y t → (r : EarOf n host (cables_in (q ∷ ps)) (s ∷ ss)) × (r.ear ≡ record { before = t.there; path = s ∷ ss; after = t.body ++ t.tail })
    along-path x y px py t r = (
      record {
        ear = record { before = r.two.there; path = s ∷ ss; after = r.two.body ++ r.two.tail };
        is_ear = make-ear n host (cables_in (q ∷ ps)) e.start e.end (s ∷ ss) r.two.there r.two.body r.two.tail r.two.h f own e.across e.starts e.is_new e.apart (subst (IsWay n (Host host) r.two.there) px r.two.way_there) (subst (λ v. IsWay n v (r.two.body ++ r.two.tail) (Host r.two.h)) py r.two.way_home) r.two.there_among r.two.home_among r.two.there_apart r.two.body_apart r.two.disjoint r.two.homeward;
        path_is = inl refl;
      },
      ap (λ l. record { before = l; path = s ∷ ss; after = r.two.body ++ r.two.tail }) r.there ∙ ap (λ l. record { before = t.there; path = s ∷ ss; after = l ++ r.two.tail }) r.body ∙ ap (λ l. record { before = t.there; path = s ∷ ss; after = t.body ++ l }) r.tail,
    )

    against-path : IsTouched n (cables_in (q ∷ ps)) e.end → (x y : Vertex) → x ≡ e.end → y ≡ e.start → (t : Two) → IsTwo n host (cables_in (q ∷ ps)) x y t → (r : EarOf n host (cables_in (q ∷ ps)) (s ∷ ss)) × (r.ear ≡ record { before = t.there; path = back_over (s ∷ ss); after = t.body ++ t.tail })
    against-path here x y px py t r = (
      record {
        ear = record { before = r.two.there; path = backwards (s ∷ ss); after = r.two.body ++ r.two.tail };
        is_ear = make-ear n host (cables_in (q ∷ ps)) e.end e.start (backwards (s ∷ ss)) r.two.there r.two.body r.two.tail r.two.h f own (new-back n (cables_in (q ∷ ps)) e.start (s ∷ ss) e.end here e.across) here (none-from (cables_on (backwards (s ∷ ss))) (cables_in (q ∷ ps)) (λ k m i. none-to k (cables_on (s ∷ ss)) (cables_in (q ∷ ps)) e.is_new (back-one k (s ∷ ss) m) i)) (back-apart (s ∷ ss) e.apart) (subst (IsWay n (Host host) r.two.there) px r.two.way_there) (subst (λ v. IsWay n v (r.two.body ++ r.two.tail) (Host r.two.h)) py r.two.way_home) r.two.there_among r.two.home_among r.two.there_apart r.two.body_apart r.two.disjoint r.two.homeward;
        path_is = inr refl;
      },
      ap (λ l. record { before = l; path = backwards (s ∷ ss); after = r.two.body ++ r.two.tail }) r.there ∙ ap (λ l. record { before = t.there; path = backwards (s ∷ ss); after = l ++ r.two.tail }) r.body ∙ ap (λ l. record { before = t.there; path = backwards (s ∷ ss); after = t.body ++ l }) r.tail ∙ ap (λ l. record { before = t.there; path = l; after = t.body ++ t.tail }) (sym (back-over-is (s ∷ ss))),
    )

    touched-end : is_host (end_of (s ∷ ss)) ≡ false → IsTouched n (cables_in (q ∷ ps)) e.end ⊎ ((h : ℕ) × (e.end ≡ Host h)) → IsTouched n (cables_in (q ∷ ps)) e.end
    touched-end p (inl i) = i
    touched-end p (inr h) = absurd (true≢false (sym (ap is_host (ends ∙ h.1)) ∙ p))

    at : (b : Bool) → ends_at_host (s ∷ ss) ≡ b → (t : Two) → AreTwo n host (cables_in (q ∷ ps)) (start_of (s ∷ ss)) (if b then start_of (s ∷ ss) else end_of (s ∷ ss)) t → (r : EarOf n host (cables_in (q ∷ ps)) (s ∷ ss)) × (r.ear ≡ (if b then record { before = t.there; path = s ∷ ss; after = [] } else record { before = t.there; path = if t.swapped then back_over (s ∷ ss) else s ∷ ss; after = t.body ++ t.tail }))
    at true p t (straight g r) = alone p (start_of (s ∷ ss)) (start_of (s ∷ ss)) way.1 t r
    at true p t (crossed g r) = alone p (start_of (s ∷ ss)) (start_of (s ∷ ss)) way.1 t r
    at false p t (straight g r) = subst (λ b. (r : EarOf n host (cables_in (q ∷ ps)) (s ∷ ss)) × (r.ear ≡ record { before = t.there; path = if b then back_over (s ∷ ss) else s ∷ ss; after = t.body ++ t.tail })) (sym g) (along-path (start_of (s ∷ ss)) (end_of (s ∷ ss)) way.1 ends t r)
    at false p t (crossed g r) = subst (λ b. (r : EarOf n host (cables_in (q ∷ ps)) (s ∷ ss)) × (r.ear ≡ record { before = t.there; path = if b then back_over (s ∷ ss) else s ∷ ss; after = t.body ++ t.tail })) (sym g) (against-path (touched-end p e.ends) (end_of (s ∷ ss)) (start_of (s ∷ ss)) ends way.1 t r)

    by : AreTwo n host (cables_in (q ∷ ps)) (start_of (s ∷ ss)) (far_end_of (s ∷ ss)) (two_of (q ∷ ps) (start_of (s ∷ ss)) (far_end_of (s ∷ ss))) → IsEarOf n host (q ∷ ps) (s ∷ ss)
    by two =
        let r = at (ends_at_host (s ∷ ss)) refl (two_of (q ∷ ps) (start_of (s ∷ ss)) (far_end_of (s ∷ ss))) two in
        record { own = r.0; is = r.1 ∙ sym (by-two (q ∷ ps) (s ∷ ss)) }
