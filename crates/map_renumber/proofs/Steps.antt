-- The steps of a search as the code takes them, with pairs for ports.
use Rattle.std.proofs.Common.{◌≡◌, ◌<◌, ◌+◌, ◌⊎◌, inl, inr, ℕ, List, [], ◌∷◌, ◌++◌, map, true, length, get_or, set, replicate, Option, Some, None, is_some, refl, ap, sym, ◌∙◌, subst, arith, w8, to_z, of_z, FitsSigned}
use Rattle.std.specs.Prelude.{ℤ, pos, ◌+ℤ◌, ◌-ℤ◌, slice_get}
use Rattle.std.proofs.lemmas.Bool.{false≢true}
use Rattle.std.proofs.lemmas.Bool.Decides.{nat_tests}
use Rattle.std.proofs.lemmas.Int.{ints, to_z-of_z}
use Rattle.std.proofs.lemmas.List.{map-append, length-map}
use Rattle.std.proofs.lemmas.Option.{slice_get-get_or, get_or_from_slice_get}
use Rattle.net_defs.specs.Turn.{IsTurn, is_turn}
use Rattle.journal_defs.specs.Tree.{Node}
use Rattle.journal_defs.specs.Tree.Node.{Mapper}
use Rattle.map_defs.specs.declared.vertex.MapCable.{MapCable}
use Rattle.map_defs.specs.NetMap.{NetMap, MapPort, IsMap, IsCabled, IsConnected, first_end, second_end, host_of_vertex, map_far}
use Rattle.map_defs.specs.NetMap.IsCabled.{forth, back}
use Rattle.map_defs.proofs.Ports.{far_is_cabled}
use Rattle.map_laws.proofs.Least.{below-get, get-map}
use Rattle.fabric_map.specs.Table.{far_pair, pair_of}
use Rattle.fabric_map.proofs.Ends.{port-holds}
use Rattle.fabric_map.proofs.Tables.{shift}
use Rattle.map_renumber.specs.Canon.{start_port, is_of_core}
use Rattle.map_renumber.specs.Search.{HasNumber, GoesOn, GoesOnFrom, IsBehind, IsSearch, IsSearchTo, IsKnown, after, turn_at, port_of_pair, entry_of}
use Rattle.map_quotient.proofs.Places.{one-there, push-old, get-less}
use Rattle.map_renumber.proofs.Levels.{far-back}
use Rattle.map_renumber.proofs.Finds.{search-skip, search-row, search-past, search-find}
use Rattle.map_renumber.proofs.Covers.{search-begin, all-found}
use Rattle.map_quotient.proofs.Vertices.{map-place}

-- what was read by an index stands there
pub read-there : {X : Type 0} (xs : List X) (n : ℕ) (x : X) → n < length xs → x ≡ get_or xs n x → slice_get xs n ≡ Some x
read-there xs n x l e = slice_get-get_or xs n x l ∙ ap Some (sym e)

-- a far end as a pair
pub far-some : (o : Option MapPort) (e : ℕ × ℤ) → far_pair o ≡ Some e → o ≡ Some (port_of_pair e)
far-some None e q = cc
far-some (Some d) e q = let one : pair_of d ≡ e = cc in ap (λ x. Some (port_of_pair x)) one

pub far-none : (o : Option MapPort) (e : MapPort) → far_pair o ≡ None → o ≡ Some e → ⊥
far-none None e q r = cc
far-none (Some d) e q r = cc

-- a turn fits in eight bits
pub turn-fits : (t : ℤ) → IsTurn t → FitsSigned w8 t
turn-fits t e = grind (arith, ints, nat_tests)

-- the port to which a turn leads, as the code computes it
pub turned-by : (p : ℤ) (place : ℕ) (r : ℤ) → IsTurn p → place < 31 → r ≡ to_z w8 (of_z w8 p) +ℤ turn_at place → to_z w8 (of_z w8 r) ≡ p +ℤ turn_at place
turned-by p place r t below is =
    let same : to_z w8 (of_z w8 p) ≡ p = to_z-of_z w8 p (turn-fits p t) in
    let sum : r ≡ p +ℤ turn_at place = is ∙ ap (λ z. z +ℤ turn_at place) same in
    let k = shift p t in
    let low = k.0 in
    let at = k.1 in
    let fits : FitsSigned w8 r = grind (arith, ints) in
    to_z-of_z w8 r fits ∙ sum

-- a port counted from an entry port, as the code computes it
pub less-entry : (p x a : ℤ) → IsTurn p → IsTurn a → x ≡ a → to_z w8 (of_z w8 (to_z w8 (of_z w8 p) -ℤ to_z w8 (of_z w8 x))) ≡ p -ℤ a
less-entry p x a t u is =
    let k = shift p t in
    let low_p = k.0 in
    let at_p = k.1 in
    let l = shift a u in
    let low_a = l.0 in
    let at_a = l.1 in
    let fits : FitsSigned w8 (p -ℤ a) = grind (arith, ints) in
    ap (λ z. to_z w8 (of_z w8 (z -ℤ to_z w8 (of_z w8 x)))) (to_z-of_z w8 p (turn-fits p t))
    ∙ ap (λ z. to_z w8 (of_z w8 (p -ℤ to_z w8 (of_z w8 z)))) is
    ∙ ap (λ z. to_z w8 (of_z w8 (p -ℤ z))) (to_z-of_z w8 a (turn-fits a u))
    ∙ to_z-of_z w8 (p -ℤ a) fits

pub begins : (m : NetMap) (items : List (ℕ × ℤ)) (numbers : List (Option ℕ)) → 0 < length m.vertices → items ≡ (0, pos 0) ∷ [] → numbers ≡ set (replicate (length m.vertices) None) 0 (Some 0) → IsSearchTo m items numbers 0 0
begins m items numbers l a b = record { ways = Mapper ∷ []; search = subst (λ (ps : List (ℕ × ℤ)). IsSearch m (map port_of_pair ps) numbers (Mapper ∷ []) 0 0) (sym a) (search-begin m numbers l b) }

module _ (m : NetMap) (items : List (ℕ × ℤ)) (numbers : List (Option ℕ)) (next k : ℕ) (s : IsSearchTo m items numbers next k) where
  abbrev found : List MapPort
  found = map port_of_pair items

  -- entry ports are turns from port 0
  pub entry-turn : IsMap m → (v : ℕ) (d : ℕ × ℤ) → slice_get items v ≡ Some d → IsTurn d.1
  entry-turn is_map v d at = by (s.search.behind v w.0 (port_of_pair d) w.1 there)
    where
      there : slice_get found v ≡ Some (port_of_pair d)
      there = get-map port_of_pair items v d at

      w : (u : Node) × (slice_get s.ways v ≡ Some u)
      w = below-get s.ways v (let l = get-less found v (port_of_pair d) there in let n = s.search.one_each in omega arith)

      by : (v ≡ 0) ⊎ IsBehind m found s.ways next k w.0 (port_of_pair d) → IsTurn d.1
      by (inl z) = ap (λ (y : MapPort). is_turn y.p) (one-there found 0 (port_of_pair d) start_port (subst (λ n. slice_get found n ≡ Some (port_of_pair d)) z there) s.search.start_entry)
      by (inr b) = port-holds (λ (y : MapPort). IsTurn y.p) m.cables (port_of_pair d) (record { v = b.entry.v; p = b.entry.p +ℤ turn_at b.place }) is_map.ports_in_range (far-back m (record { v = b.entry.v; p = b.entry.p +ℤ turn_at b.place }) (port_of_pair d) is_map b.far)

  -- a port behind which nothing is new
  pub skips : (d : ℕ × ℤ) → slice_get items next ≡ Some d → ((e : MapPort) → map_far m (record { v = d.0; p = d.1 +ℤ turn_at k }) ≡ Some e → (x : ℕ) × HasNumber numbers e.v x) → IsSearchTo m items numbers next (k + 1)
  skips d at known = record { ways = s.ways; search = search-skip m found numbers s.ways next k s.search (port_of_pair d) (get-map port_of_pair items next d at) known }

  -- no cable
  pub skips-none : (d : ℕ × ℤ) → slice_get items next ≡ Some d → far_pair (map_far m (record { v = d.0; p = d.1 +ℤ turn_at k })) ≡ None → IsSearchTo m items numbers next (k + 1)
  skips-none d at none = skips d at (λ e far. absurd (far-none (map_far m (record { v = d.0; p = d.1 +ℤ turn_at k })) e none far))

  -- a vertex that was found
  pub skips-found : (d e : ℕ × ℤ) → slice_get items next ≡ Some d → far_pair (map_far m (record { v = d.0; p = d.1 +ℤ turn_at k })) ≡ Some e → (o : Option ℕ) → slice_get numbers e.0 ≡ Some o → is_some o ≡ true → IsSearchTo m items numbers next (k + 1)
  skips-found d e at far None q some = absurd (false≢true some)
  skips-found d e at far (Some x) q some = skips d at (λ f there. (x, ap (λ (y : MapPort). slice_get numbers y.v) (same f there) ∙ q))
    where
      same : (f : MapPort) → map_far m (record { v = d.0; p = d.1 +ℤ turn_at k }) ≡ Some f → f ≡ port_of_pair e
      same f there = let two : Some f ≡ Some (port_of_pair e) = sym there ∙ far-some (map_far m (record { v = d.0; p = d.1 +ℤ turn_at k })) e far in let one : f ≡ port_of_pair e = cc in one

  -- a new one
  pub finds : IsMap m → (h : ℕ) → host_of_vertex m 0 ≡ Some h → k < 31 → (d e : ℕ × ℤ) → slice_get items next ≡ Some d → GoesOn m next (port_of_pair d) → far_pair (map_far m (record { v = d.0; p = d.1 +ℤ turn_at k })) ≡ Some e → slice_get numbers e.0 ≡ Some None → (count : ℕ) → count ≡ length items → (more : List (ℕ × ℤ)) → more ≡ items ++ e ∷ [] → IsSearchTo m more (set numbers e.0 (Some count)) next (k + 1)
  finds is_map h host below d e at goes far vacant count is_count more is_more =
      let there = get-map port_of_pair items next d at in
      let w = below-get s.ways next (let l = get-less found next (port_of_pair d) there in let n = s.search.one_each in omega arith) in
      let new_ways : List Node = s.ways ++ after w.0 (turn_at k) ∷ [] in
      let step : IsSearch m (found ++ port_of_pair e ∷ []) (set numbers e.0 (Some (length found))) new_ways next (k + 1) = search-find m found numbers s.ways next k s.search is_map h host w.0 (port_of_pair d) (port_of_pair e) below w.1 there (far-some (map_far m (record { v = d.0; p = d.1 +ℤ turn_at k })) e far) goes vacant in
      let counted : IsSearch m (found ++ port_of_pair e ∷ []) (set numbers e.0 (Some count)) new_ways next (k + 1) = subst (λ n. IsSearch m (found ++ port_of_pair e ∷ []) (set numbers e.0 (Some n)) new_ways next (k + 1)) (length-map items port_of_pair ∙ sym is_count) step in
      let list : found ++ port_of_pair e ∷ [] ≡ map port_of_pair more = sym (map-append port_of_pair items (e ∷ [])) ∙ ap (map port_of_pair) (sym is_more) in
      record { ways = new_ways; search = subst (λ (ps : List MapPort). IsSearch m ps (set numbers e.0 (Some count)) new_ways next (k + 1)) list counted }

  -- all ports of a vertex
  pub row-done : k ≡ 31 → IsSearchTo m items numbers (next + 1) 0
  row-done all = record { ways = s.ways; search = search-row m found numbers s.ways next k s.search all }

  -- a vertex from which the search doesn't go on, or none
  pub passes-by : k ≡ 0 → ((d : ℕ × ℤ) → slice_get items next ≡ Some d → GoesOn m next (port_of_pair d) → ⊥) → IsSearchTo m items numbers (next + 1) 0
  passes-by none stops = record { ways = s.ways; search = search-past m found numbers s.ways next k s.search none (λ e at goes. stopped e (map-place port_of_pair items next e at) goes) }
    where
      stopped : (e : MapPort) → (d : ℕ × ℤ) × (slice_get items next ≡ Some d) × (port_of_pair d ≡ e) → GoesOn m next e → ⊥
      stopped e x goes = stops x.0 x.1 (subst (GoesOn m next) (sym x.2) goes)

pub still-goes : (m : NetMap) (items more : List (ℕ × ℤ)) (next : ℕ) (e : ℕ × ℤ) → GoesOnFrom m items next → more ≡ items ++ e ∷ [] → GoesOnFrom m more next
still-goes m items more next e g is = record { entry = g.entry; there = ap (λ (l : List (ℕ × ℤ)). slice_get l next) is ∙ push-old items e next g.entry g.there; goes = g.goes }

-- the port by which a number's vertex was entered
pub entry-is : (items : List (ℕ × ℤ)) (n : ℕ) (d : ℕ × ℤ) → slice_get items n ≡ Some d → entry_of (map port_of_pair items) n ≡ d.1
entry-is items n d at = ap (λ (y : MapPort). y.p) (get_or_from_slice_get (map port_of_pair items) n (port_of_pair d) start_port (get-map port_of_pair items n d at))

-- the addresses are those of the entry ports' vertices
pub addresses-of : (m : NetMap) (items : List (ℕ × ℤ)) → map (λ d. host_of_vertex m d.0) items ≡ map (λ (d : MapPort). host_of_vertex m d.v) (map port_of_pair items)
addresses-of m [] = refl
addresses-of m (d ∷ items) = ap (λ l. host_of_vertex m d.0 ∷ l) (addresses-of m items)

-- and so are the marks
pub marks-of : (m : NetMap) (items : List (ℕ × ℤ)) → map (λ d. is_of_core m d.0) items ≡ map (λ (d : MapPort). is_of_core m d.v) (map port_of_pair items)
marks-of m [] = refl
marks-of m (d ∷ items) = ap (λ l. is_of_core m d.0 ∷ l) (marks-of m items)

module _ (m : NetMap) (is_map : IsMap m) (h : ℕ) (host : host_of_vertex m 0 ≡ Some h) (connected : IsConnected m) (items : List (ℕ × ℤ)) (numbers : List (Option ℕ)) (s : IsSearchTo m items numbers (length m.vertices) 0) where
  -- each port of a vertex is known
  known-at : (d : MapPort) → d.v < length m.vertices → IsTurn d.p → IsKnown items numbers d
  known-at d low turn =
      let f = all-found m is_map h host (map port_of_pair items) numbers s.ways s.search connected d.v low in
      let x = map-place port_of_pair items f.0 (record { v = d.v; p = f.1 }) f.2 in
      record { number = f.0; is_number = s.search.placed f.0 (record { v = d.v; p = f.1 }) f.2; entry = x.0; there = x.1; in_range = turn; entry_in_range = entry-turn m items numbers (length m.vertices) 0 s is_map f.0 x.0 x.1 }

  known-end : (d e : MapPort) → IsCabled m d e → IsKnown items numbers d
  known-end d e c =
      let far = (far_is_cabled m d e is_map).1 c in
      known-at d (port-holds (λ (x : MapPort). x.v < length m.vertices) m.cables d e is_map.cabled_vertices far) (port-holds (λ (x : MapPort). IsTurn x.p) m.cables d e is_map.ports_in_range far)

  pub known-ends : (c : MapCable) (k : ℕ) → slice_get m.cables k ≡ Some c → IsKnown items numbers (first_end c) × IsKnown items numbers (second_end c)
  known-ends c k at = (known-end (first_end c) (second_end c) (forth k at), known-end (second_end c) (first_end c) (back k at))
