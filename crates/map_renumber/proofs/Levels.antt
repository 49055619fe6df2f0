-- A search by levels finds vertices in the order of their least walks.
use Rattle.std.proofs.Common.{◌≡◌, ◌<◌, ◌≤◌, ◌⊎◌, inl, inr, ℕ, zero, suc, List, [], ◌∷◌, ◌++◌, Bool, true, false, length, length-append, Option, Some, None, refl, ap, sym, ◌∙◌, subst, true≢false, arith}
use Rattle.std.specs.Prelude.{ℤ, pos, ◌+ℤ◌, ◌-ℤ◌, neg_ℤ, nat_abs, slice_get}
use Rattle.std.proofs.lemmas.Bool.{false≢true, cases_order}
use Rattle.std.proofs.lemmas.Int.{ints}
use Rattle.net_defs.specs.Turn.{is_turn, IsTurn}
use Rattle.journal_defs.specs.Tree.{Node, node_below}
use Rattle.journal_defs.specs.Tree.Node.{Mapper, Reached}
use Rattle.journal_defs.proofs.Members.{IsMember, all-member}
use Rattle.map_defs.specs.declared.vertex.MapVertex.{MapVertex}
use Rattle.map_defs.specs.declared.vertex.MapVertex.TheVariants.{Host, Switch}
use Rattle.map_defs.specs.NetMap.{NetMap, IsCabled, MapPort, IsMap, AreNearPorts, IsNearPort, host_at, switch_at, host_of_vertex, is_switch_vertex, map_far, map_ends}
use Rattle.map_defs.specs.NetMap.IsCabled.{forth, back}
use Rattle.map_defs.specs.Routing.{led_to}
use Rattle.map_defs.proofs.Leading.{far-end}
use Rattle.map_defs.proofs.Ports.{far_is_cabled}
use Rattle.fabric_map.proofs.Ends.{port-holds}
use Rattle.fabric_map.proofs.Tables.{shift}
use Rattle.replicate_merge.proofs.Nodes.{node_below-irrefl, not_below, not_below-trans}
use Rattle.map_renumber.specs.Canon.{entered, start_port}
use Rattle.map_renumber.specs.Search.{HasNumber, turn_at, after, IsDone, GoesOn, IsBehind, IsSearch}
use Rattle.map_quotient.proofs.Places.{one-there, get-less}
use Rattle.map_renumber.proofs.Ways.{after-below, after-later, after-self, turns-rise, led-on, came-from, CameFrom, IsWalkBy, no_turns, last, walk-by}
use Rattle.map_laws.proofs.Least.{below-get, not_apart-nodes}

-- two cabled ports of one vertex are a turn apart
pub near-both : (ds : List MapPort) (d e : MapPort) → AreNearPorts ds → IsMember d ds → IsMember e ds → d.v ≡ e.v → IsTurn (d.p -ℤ e.p)
near-both [] d e near a b v = absurd a
near-both (x ∷ ds) d e near (inl a) (inl b) v = subst (λ z. IsTurn (z -ℤ e.p)) (ap (λ (y : MapPort). y.p) (b ∙ sym a)) (same e.p)
  where
    same : (p : ℤ) → IsTurn (p -ℤ p)
    same p = ap is_turn (let z : p -ℤ p ≡ pos 0 = omega (arith, ints) in z)
near-both (x ∷ ds) d e near (inl a) (inr b) v = subst (λ (y : MapPort). IsTurn (y.p -ℤ e.p)) (sym a) (all-member (IsNearPort x) e ds near.0 b (sym (ap (λ (y : MapPort). y.v) a) ∙ v))
near-both (x ∷ ds) d e near (inr a) (inl b) v = turned (e.p -ℤ d.p) (d.p -ℤ e.p) (omega (arith, ints)) (subst (λ (y : MapPort). IsTurn (y.p -ℤ d.p)) (sym b) (all-member (IsNearPort x) d ds near.0 a (sym (ap (λ (y : MapPort). y.v) b) ∙ sym v)))
  where
    turned : (a b : ℤ) → b ≡ neg_ℤ a → IsTurn a → IsTurn b
    turned a b e t = grind (arith, ints)
near-both (x ∷ ds) d e near (inr a) (inr b) v = near-both ds d e near.1 a b v

-- the place of a turn
pub turn-place : (t : ℤ) → IsTurn t → (k : ℕ) × (k < 31) × (t ≡ turn_at k)
turn-place t i = let s = shift t i in (nat_abs (t +ℤ pos 15), s.0, s.1)

pub no_host : (o : Option MapVertex) → switch_at o ≡ true → (h : ℕ) → host_at o ≡ Some h → ⊥
no_host None s h e = absurd (false≢true s)
no_host (Some (Host g)) s h e = absurd (false≢true s)
no_host (Some (Switch n)) s h e = cc

pub port-at : (v : ℕ) (p q : ℤ) → p ≡ q → ◌≡◌ {A = MapPort} (record { v = v; p = p }) (record { v = v; p = q })
port-at v p q e = λ i. record { v = v; p = e i }

turn-left : (p s : ℤ) → (p +ℤ s) -ℤ p ≡ s
turn-left p s = omega (arith, ints)

pub turn-back : (p q s : ℤ) → q +ℤ ((p +ℤ s) -ℤ q) ≡ p +ℤ s
turn-back p q s = omega (arith, ints)

cabled-back : (m : NetMap) (d e : MapPort) → IsCabled m d e → IsCabled m e d
cabled-back m d e (forth i q) = back i q
cabled-back m d e (back i q) = forth i q

-- a far end's far end is where it came from
pub far-back : (m : NetMap) (d e : MapPort) → IsMap m → map_far m d ≡ Some e → map_far m e ≡ Some d
far-back m d e r f = (far_is_cabled m e d r).1 (cabled-back m d e ((far_is_cabled m d e r).0 f))

-- the port that a walk enters has a cable
pub entered-cabled : (m : NetMap) → IsMap m → (w : List ℤ) (d : MapPort) → entered m (Reached w) ≡ Some d → IsMember d (map_ends m.cables)
entered-cabled m r w d e = by (walk-by w)
  where
    by : IsWalkBy w → IsMember d (map_ends m.cables)
    by (no_turns none) = far-end m.cables d start_port (far-back m start_port d r (ap (led_to m (Some start_port)) (sym none) ∙ e))
    by (last front turn is) =
        let f = came-from m (Some start_port) front turn d (ap (led_to m (Some start_port)) (sym is) ∙ e) in
        far-end m.cables d (record { v = f.entry.v; p = f.entry.p +ℤ turn }) (far-back m (record { v = f.entry.v; p = f.entry.p +ℤ turn }) d r f.far)

module _ (m : NetMap) (is_map : IsMap m) (h : ℕ) (host : host_of_vertex m 0 ≡ Some h) where
  -- no turn leads on from vertex 0
  start-is_host : is_switch_vertex m 0 ≡ true → ⊥
  start-is_host s = no_host _ s h host

  module _ (found : List MapPort) (numbers : List (Option ℕ)) (ways : List Node) (next k : ℕ) (s : IsSearch m found numbers ways next k) where
    -- a vertex that was found has a way
    way-of : (v : ℕ) (d : MapPort) → slice_get found v ≡ Some d → (u : Node) × (slice_get ways v ≡ Some u)
    way-of v d e = below-get ways v (let l = get-less found v d e in let n = s.one_each in omega arith)

    -- A port that the search hasn't come to, at a vertex that it goes on from, behind which lies no greater node than this one.
    record IsOpen (y : Node) : Type 0 where
      pub vertex : ℕ
      pub place : ℕ
      pub way : Node
      pub inside : place < 31
      pub is_way : slice_get ways vertex ≡ Some way
      pub to_come : IsDone vertex place next k → ⊥
      pub first : vertex ≡ 0 → place ≡ 15
      pub lesser : node_below y (after way (turn_at place)) ≡ false

    -- a walk to a vertex that wasn't found goes past such a port, where shorter ones do
    passed : (n : ℕ) (w : List ℤ) (e : MapPort) → length w ≤ n → entered m (Reached w) ≡ Some e → ((x : ℕ) → HasNumber numbers e.v x → ⊥) → ((front : List ℤ) (d : MapPort) → length front < n → entered m (Reached front) ≡ Some d → ((x : ℕ) → HasNumber numbers d.v x → ⊥) → IsOpen (Reached front)) → IsOpen (Reached w)
    passed n w e small enters missing rest = by (walk-by w)
      where
        at_start : w ≡ [] → IsOpen (Reached w)
        at_start none = record {
          vertex = 0;
          place = 15;
          way = Mapper;
          inside = omega arith;
          is_way = s.start_way;
          to_come = λ done. (let x = s.closed 0 15 start_port e done (omega arith) s.start_entry (inl refl) (ap (λ (l : List ℤ). led_to m (Some start_port) l) (sym none) ∙ enters) in missing x.0 x.1);
          first = λ z. refl;
          lesser = ap (λ (l : List ℤ). node_below (Reached l) (Reached [])) none ∙ node_below-irrefl (Reached []);
        }

        -- the vertex that the last turn leaves was found, by this walk
        from_walk : (front : List ℤ) (turn : ℤ) → w ≡ front ++ turn ∷ [] → (f : CameFrom m (Some start_port) front turn e) → (v : ℕ) (p : ℤ) → slice_get found v ≡ Some (record { v = f.entry.v; p = p }) → (x : List ℤ) → slice_get ways v ≡ Some (Reached x) → IsOpen (Reached w)
        from_walk front turn is f v p at x way = record {
          vertex = v;
          place = t.0;
          way = Reached x;
          inside = t.1;
          is_way = way;
          to_come = λ done. (let y = s.closed v t.0 (record { v = f.entry.v; p = p }) e done t.1 at (inr f.switch) (ap (map_far m) same_port ∙ f.far) in missing y.0 y.1);
          first = λ zero_is. absurd (start-is_host (subst (λ z. is_switch_vertex m z ≡ true) (at_zero zero_is) f.switch));
          lesser = ap (λ l. node_below (Reached l) (Reached (x ++ turn_at t.0 ∷ []))) is ∙ lesser (node_below (Reached x) (Reached front)) refl;
        }
          where
            enters_x : entered m (Reached x) ≡ Some (record { v = f.entry.v; p = p })
            enters_x = s.enters v (Reached x) (record { v = f.entry.v; p = p }) way at

            between : IsTurn ((f.entry.p +ℤ turn) -ℤ p)
            between = near-both (map_ends m.cables) (record { v = f.entry.v; p = f.entry.p +ℤ turn }) (record { v = f.entry.v; p = p }) is_map.ports_near (far-end m.cables (record { v = f.entry.v; p = f.entry.p +ℤ turn }) e f.far) (entered-cabled m is_map x (record { v = f.entry.v; p = p }) enters_x) refl

            t : (n : ℕ) × (n < 31) × ((f.entry.p +ℤ turn) -ℤ p ≡ turn_at n)
            t = turn-place ((f.entry.p +ℤ turn) -ℤ p) between

            same_port : ◌≡◌ {A = MapPort} (record { v = f.entry.v; p = p +ℤ turn_at t.0 }) (record { v = f.entry.v; p = f.entry.p +ℤ turn })
            same_port = port-at f.entry.v (p +ℤ turn_at t.0) (f.entry.p +ℤ turn) (ap (λ z. p +ℤ z) (sym t.2) ∙ turn-back f.entry.p p turn)

            at_zero : v ≡ 0 → f.entry.v ≡ 0
            at_zero z = ap (λ (y : MapPort). y.v) (one-there found 0 (record { v = f.entry.v; p = p }) start_port (subst (λ n. slice_get found n ≡ Some (record { v = f.entry.v; p = p })) z at) s.start_entry)

            no_less : node_below (Reached front) (Reached x) ≡ false
            no_less = s.least v (Reached x) (record { v = f.entry.v; p = p }) (Reached front) f.entry.p way at f.led

            lesser : (b : Bool) → node_below (Reached x) (Reached front) ≡ b → node_below (Reached (front ++ turn ∷ [])) (Reached (x ++ turn_at t.0 ∷ [])) ≡ false
            lesser true q = not_below (Reached (x ++ turn_at t.0 ∷ [])) (Reached (front ++ turn ∷ [])) (after-below (Reached x) (Reached front) (turn_at t.0) turn q)
            lesser false q =
                let one : Reached x ≡ Reached front = not_apart-nodes (Reached x) (Reached front) q no_less in
                let ports : Some (record { v = f.entry.v; p = p }) ≡ Some f.entry = sym enters_x ∙ ap (entered m) one ∙ f.led in
                let entry : ◌≡◌ {A = MapPort} (record { v = f.entry.v; p = p }) f.entry = cc in
                let same_turn : turn_at t.0 ≡ turn = sym t.2 ∙ ap (λ (y : MapPort). (f.entry.p +ℤ turn) -ℤ y.p) entry ∙ turn-left f.entry.p turn in
                ap (λ z. node_below (Reached (front ++ turn ∷ [])) (after z (turn_at t.0))) one ∙ ap (λ z. node_below (Reached (front ++ turn ∷ [])) (Reached (front ++ z ∷ []))) same_turn ∙ node_below-irrefl (Reached (front ++ turn ∷ []))

        from_found : (front : List ℤ) (turn : ℤ) → w ≡ front ++ turn ∷ [] → (f : CameFrom m (Some start_port) front turn e) → (v : ℕ) → HasNumber numbers f.entry.v v → IsOpen (Reached w)
        from_found front turn is f v at =
            let d = s.named f.entry.v v at in
            let u = way-of v (record { v = f.entry.v; p = d.0 }) d.1 in
            by_node u.0 u.1 d.0 d.1
          where
            by_node : (u : Node) → slice_get ways v ≡ Some u → (p : ℤ) → slice_get found v ≡ Some (record { v = f.entry.v; p = p }) → IsOpen (Reached w)
            by_node Mapper way p there =
                let ports : Some start_port ≡ Some (record { v = f.entry.v; p = p }) = s.enters v Mapper (record { v = f.entry.v; p = p }) way there in
                let zero_is : 0 ≡ f.entry.v = ap (λ (y : MapPort). y.v) (let one : ◌≡◌ {A = MapPort} start_port (record { v = f.entry.v; p = p }) = cc in one) in
                absurd (start-is_host (subst (λ z. is_switch_vertex m z ≡ true) (sym zero_is) f.switch))
            by_node (Reached x) way p there = from_walk front turn is f v p there x way

        not_yet : (front : List ℤ) (turn : ℤ) → w ≡ front ++ turn ∷ [] → IsOpen (Reached front) → IsOpen (Reached w)
        not_yet front turn is o = record {
          vertex = o.vertex;
          place = o.place;
          way = o.way;
          inside = o.inside;
          is_way = o.is_way;
          to_come = o.to_come;
          first = o.first;
          lesser = not_below-trans (Reached w) (Reached front) (after o.way (turn_at o.place)) (not_below (Reached front) (Reached w) (subst (λ l. node_below (Reached front) (Reached l) ≡ true) (sym is) (after-self front turn))) o.lesser;
        }

        by : IsWalkBy w → IsOpen (Reached w)
        by (no_turns none) = at_start none
        by (last front turn is) = cases (slice_get numbers f.entry.v) refl
          where
            f : CameFrom m (Some start_port) front turn e
            f = came-from m (Some start_port) front turn e (ap (led_to m (Some start_port)) (sym is) ∙ enters)

            shorter : length front < n
            shorter = let a = ap length is in let b = length-append front (turn ∷ []) in omega arith

            cases : (o : Option (Option ℕ)) → slice_get numbers f.entry.v ≡ o → IsOpen (Reached w)
            cases (Some (Some v)) q = from_found front turn is f v q
            cases (Some None) q = not_yet front turn is (rest front f.entry shorter f.led (λ x r. (let z : Some (Some x) ≡ Some None = sym r ∙ q in cc)))
            cases None q = not_yet front turn is (rest front f.entry shorter f.led (λ x r. (let z : Some (Some x) ≡ None = sym r ∙ q in cc)))

    -- and so each does
    passes : (size : ℕ) (w : List ℤ) (e : MapPort) → length w ≤ size → entered m (Reached w) ≡ Some e → ((x : ℕ) → HasNumber numbers e.v x → ⊥) → IsOpen (Reached w)
    passes zero w e small enters missing = passed 0 w e small enters missing (λ front d l. absurd (omega arith))
    passes (suc n) w e small enters missing = passed (suc n) w e small enters missing (λ front d l. passes n front d (omega arith))

    -- what is behind the port that the search has come to is no greater than what is behind one that it hasn't
    module _ (u : Node) (d e : MapPort) (below : k < 31) (way : slice_get ways next ≡ Some u) (entry : slice_get found next ≡ Some d) (far : map_far m (record { v = d.v; p = d.p +ℤ turn_at k }) ≡ Some e) (goes : GoesOn m next d) where
      -- from vertex 0 only port 0 leads on
      pub at_start : u ≡ Mapper → (next ≡ 0) × (k ≡ 15) × (map_far m start_port ≡ Some e)
      at_start is = (first, place, there)
        where
          first : next ≡ 0
          first = by (cases_order next 0)
            where
              by : (next ≡ 0) ⊎ ((next < 0) ⊎ (0 < next)) → next ≡ 0
              by (inl z) = z
              by (inr (inl l)) = absurd (omega arith)
              by (inr (inr l)) = absurd (true≢false (sym (s.rising 0 next Mapper Mapper l s.start_way (way ∙ ap Some is)) ∙ refl))

          is_start : d ≡ start_port
          is_start = one-there found 0 d start_port (subst (λ n. slice_get found n ≡ Some d) first entry) s.start_entry

          port : d.p +ℤ turn_at k ≡ pos 0
          port = port-holds (λ x. (a : ℕ) → host_of_vertex m x.v ≡ Some a → x.p ≡ pos 0) m.cables (record { v = d.v; p = d.p +ℤ turn_at k }) e is_map.host_ports far h (ap (λ (y : MapPort). host_of_vertex m y.v) is_start ∙ host)

          place : k ≡ 15
          place = let z : pos 0 +ℤ turn_at k ≡ pos 0 = ap (λ (y : MapPort). y.p +ℤ turn_at k) (sym is_start) ∙ port in omega (arith, ints)

          there : map_far m start_port ≡ Some e
          there = ap (map_far m) ((λ i. record { v = (sym is_start i).v; p = sym port i })) ∙ far

      pub enters-new : entered m (after u (turn_at k)) ≡ Some e
      enters-new = by u refl
        where
          by : (x : Node) → u ≡ x → entered m (after x (turn_at k)) ≡ Some e
          by Mapper q = (at_start q).2
          by (Reached w) q = led-on m (Some start_port) w (turn_at k) d e (s.enters next (Reached w) d (way ∙ ap Some q) entry) (switch goes) far
            where
              switch : GoesOn m next d → is_switch_vertex m d.v ≡ true
              switch (inr t) = t
              switch (inl z) =
                  let two : Some (Reached w) ≡ Some Mapper = sym (subst (λ n. slice_get ways n ≡ Some (Reached w)) z (way ∙ ap Some q)) ∙ s.start_way in
                  cc

      not-greater : (y : Node) (o : IsOpen y) → node_below (after o.way (turn_at o.place)) (after u (turn_at k)) ≡ false
      not-greater y o = by (cases_order o.vertex next)
        where
          same_vertex : o.vertex ≡ next → ((o.place ≡ k) ⊎ ((o.place < k) ⊎ (k < o.place))) → o.way ≡ u → (x : Node) → u ≡ x → node_below (after x (turn_at o.place)) (after x (turn_at k)) ≡ false
          same_vertex v (inl e) w x q = ap (λ n. node_below (after x (turn_at n)) (after x (turn_at k))) e ∙ node_below-irrefl (after x (turn_at k))
          same_vertex v (inr (inl l)) w x q = absurd (o.to_come (inr (v, l)))
          same_vertex v (inr (inr l)) w Mapper q = node_below-irrefl (Reached [])
          same_vertex v (inr (inr l)) w (Reached z) q = not_below (after (Reached z) (turn_at k)) (after (Reached z) (turn_at o.place)) (after-later z (turn_at k) (turn_at o.place) (turns-rise k o.place l))

          by : (o.vertex ≡ next) ⊎ ((o.vertex < next) ⊎ (next < o.vertex)) → node_below (after o.way (turn_at o.place)) (after u (turn_at k)) ≡ false
          by (inl v) =
              let one : o.way ≡ u = one-there ways next o.way u (subst (λ n. slice_get ways n ≡ Some o.way) v o.is_way) way in
              ap (λ z. node_below (after z (turn_at o.place)) (after u (turn_at k))) one ∙ same_vertex v (cases_order o.place k) one u refl
          by (inr (inl l)) = absurd (o.to_come (inl l))
          by (inr (inr l)) = not_below (after u (turn_at k)) (after o.way (turn_at o.place)) (after-below u o.way (turn_at k) (turn_at o.place) (s.rising next o.vertex u o.way l way o.is_way))

      module _ (missing : (x : ℕ) → HasNumber numbers e.v x → ⊥) where
        pub least-new : (x : Node) (q : ℤ) → entered m x ≡ Some (record { v = e.v; p = q }) → node_below x (after u (turn_at k)) ≡ false
        least-new Mapper q f =
            let one : ◌≡◌ {A = MapPort} start_port (record { v = e.v; p = q }) = cc in
            absurd (missing 0 (ap (slice_get numbers) (sym (ap (λ (y : MapPort). y.v) one)) ∙ s.placed 0 start_port s.start_entry))
        least-new (Reached w) q f =
            let o = passes (length w) w (record { v = e.v; p = q }) (omega arith) f missing in
            not_below-trans (Reached w) (after o.way (turn_at o.place)) (after u (turn_at k)) o.lesser (not-greater (Reached w) o)

        -- what was found before stands before it
        pub rising-new : (v : ℕ) (x : Node) (f : MapPort) → slice_get ways v ≡ Some x → slice_get found v ≡ Some f → node_below x (after u (turn_at k)) ≡ true
        rising-new v x f a b = by (s.behind v x f a b)
          where
            mapper-before : (y : Node) → node_below Mapper (after y (turn_at k)) ≡ true
            mapper-before Mapper = refl
            mapper-before (Reached w) = refl

            later : (g : IsBehind m found ways next k x f) → (y : Node) → u ≡ y → g.vertex ≡ next → g.place < k → node_below (after y (turn_at g.place)) (after y (turn_at k)) ≡ true
            later g Mapper q v l = absurd (let t = at_start q in let z = g.at_start (v ∙ t.0) in omega arith)
            later g (Reached w) q v l = after-later w (turn_at g.place) (turn_at k) (turns-rise g.place k l)

            from : (g : IsBehind m found ways next k x f) → IsDone g.vertex g.place next k → node_below x (after u (turn_at k)) ≡ true
            from g (inl l) = ap (λ z. node_below z (after u (turn_at k))) g.is_after ∙ after-below g.way u (turn_at g.place) (turn_at k) (s.rising g.vertex next g.way u l g.is_way way)
            from g (inr (v, l)) =
                let one : g.way ≡ u = one-there ways next g.way u (subst (λ n. slice_get ways n ≡ Some g.way) v g.is_way) way in
                ap (λ z. node_below z (after u (turn_at k))) (g.is_after ∙ ap (λ z. after z (turn_at g.place)) one) ∙ later g u refl v l

            by : (v ≡ 0) ⊎ IsBehind m found ways next k x f → node_below x (after u (turn_at k)) ≡ true
            by (inl z) =
                let one : x ≡ Mapper = one-there ways 0 x Mapper (subst (λ n. slice_get ways n ≡ Some x) z a) s.start_way in
                ap (λ y. node_below y (after u (turn_at k))) one ∙ mapper-before u
            by (inr g) = from g g.done
