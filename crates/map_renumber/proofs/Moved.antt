-- The vertices of a search, and the cables by its numbers, are refused for nothing.
use Rattle.std.proofs.Common.{◌≡◌, ◌≢◌, ◌<◌, ◌^◌, ◌||◌, ◌⊎◌, inl, inr, ℕ, zero, suc, List, [], ◌∷◌, ◌++◌, map, take, Bool, true, false, length, nat_lt, Option, Some, None, is_some, refl, ap, sym, ◌∙◌, subst, arith}
use Rattle.std.specs.Prelude.{ℤ, pos, ◌+ℤ◌, ◌-ℤ◌, slice_get}
use Rattle.std.specs.Ordering.{int_eq}
use Rattle.std.proofs.lemmas.Bool.{and_from, and_parts, lt-ltb}
use Rattle.std.proofs.lemmas.Bool.Decides.{Decides-int_eq}
use Rattle.std.proofs.lemmas.Int.{ints}
use Rattle.std.proofs.lemmas.List.{length-map}
use Rattle.std.proofs.lemmas.Option.{slice_get_within}
use Rattle.net_defs.specs.Network.{Apart}
use Rattle.net_defs.specs.Turn.{IsTurn, is_turn}
use Rattle.journal_defs.specs.Tree.{Node}
use Rattle.journal_defs.proofs.Members.{IsMember, all-member, member-place}
use Rattle.map_defs.specs.declared.vertex.MapCable.{MapCable}
use Rattle.map_defs.specs.declared.vertex.MapVertex.{MapVertex}
use Rattle.map_defs.specs.NetMap.{NetMap, MapPort, IsMap, IsCabled, IsConnected, far_port, first_end, second_end, host_of_vertex, is_switch_vertex, map_ends, map_far, switch_at}
use Rattle.map_defs.specs.NetMap.IsCabled.{forth, back}
use Rattle.map_defs.specs.Quotient.{named}
use Rattle.map_defs.proofs.Leading.{far-end}
use Rattle.map_defs.proofs.Ports.{far_is_cabled, same_port-false}
use Rattle.map_laws.proofs.Least.{below-get, get-map, named-length}
use Rattle.map_laws.proofs.Listed.{all-ends}
use Rattle.fabric_map.specs.Growing.{are_near, cable_refusal, is_near, may_have}
use Rattle.fabric_map.proofs.Ends.{near-from, port-holds}
use Rattle.map_quotient.specs.Naming.{HaveOwnAddresses}
use Rattle.map_quotient.proofs.Joined.{ends-member, unused-port}
use Rattle.map_quotient.proofs.Ordered.{ends-differ}
use Rattle.map_quotient.proofs.Places.{get-less, one-there, place-member}
use Rattle.map_quotient.proofs.Taken.{not-full, taken}
use Rattle.map_quotient.proofs.Vertices.{map-place, named-switch, take-short, take-there}
use Rattle.map_renumber.specs.Canon.{start_port}
use Rattle.map_renumber.specs.Search.{AreTaken, IsBehind, IsSearch, IsSearchTo, entry_of, moved_cable, moved_port, number_of, port_of_pair, turn_at, with_moved}
use Rattle.map_renumber.proofs.Images.{host-one}
use Rattle.map_renumber.proofs.Levels.{far-back, near-both}
use Rattle.map_renumber.proofs.Renumbered.{cabled-low, host-entry, image-there}

-- the ends of two cables differ
record EndsDiffer (x c : MapCable) : Type 0 where
  pub firsts : first_end x ≢ first_end c
  pub first_second : first_end x ≢ second_end c
  pub second_first : second_end x ≢ first_end c
  pub seconds : second_end x ≢ second_end c

apart-ends : (cs : List MapCable) (i k : ℕ) (x c : MapCable) → Apart (map_ends cs) → i < k → slice_get cs i ≡ Some x → slice_get cs k ≡ Some c → EndsDiffer x c
apart-ends [] i k x c apart l a b = cc
apart-ends (y ∷ cs) zero zero x c apart l a b = absurd (omega arith)
apart-ends (y ∷ cs) (suc i) zero x c apart l a b = absurd (omega arith)
apart-ends (y ∷ cs) zero (suc k) x c apart l a b =
    let one : y ≡ x = cc in
    let m = ends-member cs c (place-member cs k c b) in
    subst (λ z. EndsDiffer z c) one (record {
      firsts = all-member (λ z. first_end y ≢ z) (first_end c) (map_ends cs) apart.0.1 m.0;
      first_second = all-member (λ z. first_end y ≢ z) (second_end c) (map_ends cs) apart.0.1 m.1;
      second_first = all-member (λ z. second_end y ≢ z) (first_end c) (map_ends cs) apart.1.0 m.0;
      seconds = all-member (λ z. second_end y ≢ z) (second_end c) (map_ends cs) apart.1.0 m.1;
    })
apart-ends (y ∷ cs) (suc i) (suc k) x c apart l a b = apart-ends cs i k x c apart.1.1 (omega arith) a b

one_port : (p q a b : ℤ) → p -ℤ a ≡ q -ℤ b → a ≡ b → p ≡ q
one_port p q a b e f = omega (arith, ints)

less_zero : (p a : ℤ) → a ≡ pos 0 → p -ℤ a ≡ p
less_zero p a e = omega (arith, ints)

no_port : (p a : ℤ) → p ≡ pos 0 → a ≡ pos 0 → p -ℤ a ≡ pos 0
no_port p a e f = omega (arith, ints)

same_entry : (p q a b : ℤ) → a ≡ b → (p -ℤ a) -ℤ (q -ℤ b) ≡ p -ℤ q
same_entry p q a b e = omega (arith, ints)

-- where one address stands
pub own-addresses : (m : NetMap) (items : List (ℕ × ℤ)) (numbers : List (Option ℕ)) (next k : ℕ) → IsMap m → IsSearchTo m items numbers next k → HaveOwnAddresses (map (λ d. host_of_vertex m d.0) items)
own-addresses m items numbers next k is_map s v w h a b =
    let d = map-place (λ (x : ℕ × ℤ). host_of_vertex m x.0) items v (Some h) a in
    let e = map-place (λ (x : ℕ × ℤ). host_of_vertex m x.0) items w (Some h) b in
    let vertex : d.0.0 ≡ e.0.0 = host-one m.vertices d.0.0 e.0.0 h is_map.hosts_once d.2 e.2 in
    let first = s.search.placed v (port_of_pair d.0) (get-map port_of_pair items v d.0 d.1) in
    let second = s.search.placed w (port_of_pair e.0) (get-map port_of_pair items w e.0 e.1) in
    let two : Some (Some v) ≡ Some (Some w) = sym first ∙ ap (slice_get numbers) vertex ∙ second in
    let one : v ≡ w = cc in
    one

-- as many as there are vertices at most
pub few-found : (m : NetMap) (items : List (ℕ × ℤ)) (numbers : List (Option ℕ)) (next k : ℕ) → length m.vertices < 2 ^ 32 → IsSearchTo m items numbers next k → length items < 2 ^ 32
few-found m items numbers next k few s = let a = s.search.left in let b = length-map items port_of_pair in omega arith

module _ (m : NetMap) (is_map : IsMap m) (h : ℕ) (host : host_of_vertex m 0 ≡ Some h) (connected : IsConnected m) (found : List MapPort) (numbers : List (Option ℕ)) (ways : List Node) (s : IsSearch m found numbers ways (length m.vertices) 0) where
  abbrev image : ℕ → ℕ
  image = number_of numbers

  abbrev entry : ℕ → ℤ
  entry v = entry_of found (image v)

  abbrev moved : MapPort → MapPort
  moved d = moved_port found numbers d

  there : (x : ℕ) → x < length m.vertices → slice_get found (image x) ≡ Some (record { v = x; p = entry x })
  there x l = image-there m is_map h host connected found numbers ways s x l

  low : (d e : MapPort) → IsCabled m d e → d.v < length m.vertices
  low d e q = cabled-low m is_map h host connected found numbers ways s d e q

  member : (d e : MapPort) → IsCabled m d e → IsMember d (map_ends m.cables)
  member d e q = far-end m.cables d e ((far_is_cabled m d e is_map).1 q)

  -- a vertex has one number
  one-vertex : (x y : ℕ) → x < length m.vertices → y < length m.vertices → image x ≡ image y → x ≡ y
  one-vertex x y l k e =
      let one : ◌≡◌ {A = MapPort} (record { v = x; p = entry x }) (record { v = y; p = entry y }) = one-there found (image y) (record { v = x; p = entry x }) (record { v = y; p = entry y }) (subst (λ n. slice_get found n ≡ Some (record { v = x; p = entry x })) e (there x l)) (there y k) in
      ap (λ (z : MapPort). z.v) one

  -- two ports stay two
  moved-differ : (d e f g : MapPort) → IsCabled m d f → IsCabled m e g → d ≢ e → moved d ≢ moved e
  moved-differ d e f g a b differ same =
      let v : d.v ≡ e.v = one-vertex d.v e.v (low d f a) (low e g b) (ap (λ (z : MapPort). z.v) same) in
      let p : d.p ≡ e.p = one_port d.p e.p (entry d.v) (entry e.v) (ap (λ (z : MapPort). z.p) same) (ap entry v) in
      differ (λ i. record { v = v i; p = p i })

  -- and near ports stay near
  moved-near : (d e f g : MapPort) → IsCabled m d f → IsCabled m e g → image d.v ≡ image e.v → is_turn ((moved d).p -ℤ (moved e).p) ≡ true
  moved-near d e f g a b same =
      let v : d.v ≡ e.v = one-vertex d.v e.v (low d f a) (low e g b) same in
      ap is_turn (same_entry d.p e.p (entry d.v) (entry e.v) (ap entry v)) ∙ near-both (map_ends m.cables) d e is_map.ports_near (member d f a) (member e g b) v

  -- a port counted from the entry port is from -15 to 15
  moved-turn : (d e : MapPort) → IsCabled m d e → is_turn (moved d).p ≡ true
  moved-turn d e q = by u.0 (s.behind (image d.v) u.0 at u.1 (there d.v (low d e q)))
    where
      at : MapPort
      at = record { v = d.v; p = entry d.v }

      u : (w : Node) × (slice_get ways (image d.v) ≡ Some w)
      u = below-get ways (image d.v) (let b = get-less found (image d.v) at (there d.v (low d e q)) in let n = s.one_each in omega arith)

      by : (w : Node) → (image d.v ≡ 0) ⊎ IsBehind m found ways (length m.vertices) 0 w at → is_turn (moved d).p ≡ true
      by w (inl z) =
          let one : at ≡ start_port = one-there found 0 at start_port (subst (λ n. slice_get found n ≡ Some at) z (there d.v (low d e q))) s.start_entry in
          ap is_turn (less_zero d.p (entry d.v) (ap (λ (y : MapPort). y.p) one)) ∙ port-holds (λ (y : MapPort). IsTurn y.p) m.cables d e is_map.ports_in_range ((far_is_cabled m d e is_map).1 q)
      by w (inr b) =
          let other : MapPort = record { v = b.entry.v; p = b.entry.p +ℤ turn_at b.place } in
          near-both (map_ends m.cables) d at is_map.ports_near (member d e q) (far-end m.cables at other (far-back m other at is_map b.far)) refl

  module _ (bare : NetMap) (vertices : bare.vertices ≡ named 0 (map (λ (d : MapPort). host_of_vertex m d.v) found)) (empty : bare.cables ≡ []) (few : length m.cables < 2 ^ 32) (i : ℕ) (c : MapCable) (at : slice_get m.cables i ≡ Some c) where
    abbrev address : MapPort → Option ℕ
    address d = host_of_vertex m d.v

    abbrev now : NetMap
    now = with_moved bare found numbers (take i m.cables)

    cables : now.cables ≡ map (moved_cable found numbers) (take i m.cables)
    cables = ap (λ (l : List MapCable). l ++ map (moved_cable found numbers) (take i m.cables)) empty

    below : (d e : MapPort) → IsCabled m d e → nat_lt (image d.v) (length bare.vertices) ≡ true
    below d e q =
        let count : length bare.vertices ≡ length found = ap length vertices ∙ named-length 0 (map address found) ∙ length-map found address in
        let l = slice_get_within found (image d.v) (record { v = d.v; p = entry d.v }) (there d.v (low d e q)) in
        lt-ltb (image d.v) (length bare.vertices) (omega arith)

    -- a host's port is 0 still
    kind : (d e : MapPort) → IsCabled m d e → (is_switch_vertex bare (image d.v) || int_eq (moved d).p (pos 0)) ≡ true
    kind d e q = by (host_of_vertex m d.v) refl
      where
        any : (a b : Bool) → b ≡ true → (a || b) ≡ true
        any true b f = refl
        any false b f = f

        by : (o : Option ℕ) → host_of_vertex m d.v ≡ o → (is_switch_vertex bare (image d.v) || int_eq (moved d).p (pos 0)) ≡ true
        by None f =
            let stands : slice_get (map address found) (image d.v) ≡ Some None = get-map address found (image d.v) (record { v = d.v; p = entry d.v }) (there d.v (low d e q)) ∙ ap Some f in
            let switch : is_switch_vertex bare (image d.v) ≡ true = ap (λ (vs : List MapVertex). switch_at (slice_get vs (image d.v))) vertices ∙ named-switch 0 (map address found) (image d.v) stands in
            ap (λ b. b || int_eq (moved d).p (pos 0)) switch
        by (Some a) f =
            let zero_port : d.p ≡ pos 0 = port-holds (λ (y : MapPort). (g : ℕ) → host_of_vertex m y.v ≡ Some g → y.p ≡ pos 0) m.cables d e is_map.host_ports ((far_is_cabled m d e is_map).1 q) a f in
            let zero_entry : entry d.v ≡ pos 0 = host-entry m is_map h host connected found numbers ways s d.v a (low d e q) f in
            any (is_switch_vertex bare (image d.v)) (int_eq (moved d).p (pos 0)) ((Decides-int_eq (moved d).p (pos 0)).1 (no_port d.p (entry d.v) zero_port zero_entry))

    -- a cable that was moved before
    record WasMoved (y : MapCable) : Type 0 where
      pub cable : MapCable
      pub place : ℕ
      pub before : place < i
      pub there_cable : slice_get m.cables place ≡ Some cable
      pub is : moved_cable found numbers cable ≡ y

    was-moved : (y : MapCable) → IsMember y (map (moved_cable found numbers) (take i m.cables)) → WasMoved y
    was-moved y p =
        let k = member-place y (map (moved_cable found numbers) (take i m.cables)) p in
        let x = map-place (moved_cable found numbers) (take i m.cables) k.0 y k.1 in
        let t = take-there m.cables i k.0 x.0 x.1 in
        record { cable = x.0; place = k.0; before = t.0; there_cable = t.1; is = x.2 }

    near : (d e : MapPort) → IsCabled m d e → are_near now.cables (moved d) ≡ true
    near d e q =
        ap (λ (l : List MapCable). are_near l (moved d)) cables
        ∙ near-from (map_ends (map (moved_cable found numbers) (take i m.cables))) (moved d)
        (all-ends (λ x. x.v ≡ image d.v → is_turn (x.p -ℤ (moved d).p) ≡ true) (map (moved_cable found numbers) (take i m.cables)) (λ y p. by y (was-moved y p)))
      where
        by : (y : MapCable) → WasMoved y → ((first_end y).v ≡ image d.v → is_turn ((first_end y).p -ℤ (moved d).p) ≡ true) × ((second_end y).v ≡ image d.v → is_turn ((second_end y).p -ℤ (moved d).p) ≡ true)
        by y w = subst (λ (z : MapCable). ((first_end z).v ≡ image d.v → is_turn ((first_end z).p -ℤ (moved d).p) ≡ true) × ((second_end z).v ≡ image d.v → is_turn ((second_end z).p -ℤ (moved d).p) ≡ true)) w.is (
          (λ v. moved-near (first_end w.cable) d (second_end w.cable) e (forth w.place w.there_cable) q v),
          (λ v. moved-near (second_end w.cable) d (first_end w.cable) e (back w.place w.there_cable) q v),
        )

    may : (d e : MapPort) → IsCabled m d e → may_have now (moved d) ≡ true
    may d e q = and_from (is_turn (moved d).p) _ (moved-turn d e q) (and_from (is_switch_vertex bare (image d.v) || int_eq (moved d).p (pos 0)) _ (kind d e q) (near d e q))

    -- an end of the cable is none of those before
    free : (d e : MapPort) → IsCabled m d e → ((x : MapCable) → EndsDiffer x c → (first_end x ≢ d) × (second_end x ≢ d)) → map_far now (moved d) ≡ None
    free d e q differ =
        ap (λ (l : List MapCable). far_port l (moved d)) cables
        ∙ unused-port (map (moved_cable found numbers) (take i m.cables)) (moved d) (λ y p. by y (was-moved y p))
      where
        by : (y : MapCable) → WasMoved y → (first_end y ≢ moved d) × (second_end y ≢ moved d)
        by y w =
            let two = differ w.cable (apart-ends m.cables w.place i w.cable c is_map.ports_once w.before w.there_cable at) in
            subst (λ (z : MapCable). (first_end z ≢ moved d) × (second_end z ≢ moved d)) w.is (
              moved-differ (first_end w.cable) d (second_end w.cable) e (forth w.place w.there_cable) q two.0,
              moved-differ (second_end w.cable) d (first_end w.cable) e (back w.place w.there_cable) q two.1,
            )

    over : IsCabled m (first_end c) (second_end c)
    over = forth i at

    back_over : IsCabled m (second_end c) (first_end c)
    back_over = back i at

    near-two : is_near (moved (first_end c)) (moved (second_end c)) ≡ true
    near-two = (and_parts (is_near (moved (first_end c)) (moved (second_end c))) true (near-from (moved (first_end c) ∷ []) (moved (second_end c)) ((λ v. moved-near (first_end c) (second_end c) (second_end c) (first_end c) over back_over v), tt))).0

    two : moved (first_end c) ≢ moved (second_end c)
    two = moved-differ (first_end c) (second_end c) (second_end c) (first_end c) over back_over (ends-differ m.cables i c is_map.ports_once at)

    room : length now.cables < 4294967295
    room =
        let count : length now.cables ≡ length (take i m.cables) = ap length cables ∙ length-map (take i m.cables) (moved_cable found numbers) in
        let short = take-short m.cables i in
        let below = slice_get_within m.cables i c at in
        omega arith

    next-taken : cable_refusal now (moved_cable found numbers c) ≡ None
    next-taken =
        taken now (moved_cable found numbers c) (below (first_end c) (second_end c) over) (below (second_end c) (first_end c) back_over) (may (first_end c) (second_end c) over) (may (second_end c) (first_end c) back_over) near-two
        (λ k. is_some (free (first_end c) (second_end c) over (λ x d. (d.firsts, d.second_first)) k) || is_some (free (second_end c) (first_end c) back_over (λ x d. (d.first_second, d.seconds)) k) || same_port-false (moved (first_end c)) (moved (second_end c)) two k)
        (not-full (length now.cables) room)

  -- each cable by the new numbers is refused for nothing
  pub moved-taken : (bare : NetMap) → bare.vertices ≡ named 0 (map (λ (d : MapPort). host_of_vertex m d.v) found) → bare.cables ≡ [] → length m.cables < 2 ^ 32 → AreTaken bare found numbers m.cables
  moved-taken bare vertices empty few i c at = next-taken bare vertices empty few i c at
