-- Bodies of the mapper's protocol: each is read as what was written, and was written as what is read.
use Rattle.std.proofs.Common.{◌≡◌, ◌<◌, ◌≤◌, ◌^◌, ℕ, zero, suc, ℤ, Bool, true, false, ◌&&◌, nat_eq, nat_lt, nat_le, List, [], ◌∷◌, ◌++◌, map, length, take, drop, Option, Some, None, option_map, refl, sym, ap, ◌∙◌, subst, append_assoc, arith, if◌then◌else◌}
use Rattle.std.specs.Prelude.{option_and_then}
use Rattle.std.specs.List.{list_all}
use Rattle.std.specs.Int.{Width, w16, w32, w64, to_be_bytes}
use Rattle.std.proofs.lemmas.Bool.Decides.{nat_tests}
use Rattle.std.proofs.lemmas.Option.{same_Some, none-some}
use Rattle.std.proofs.lemmas.List.{append-nil, take-append-drop, length-take-le, length-append, length-map, take_at, drop_at}
use Rattle.net_defs.specs.Turn.{is_turn}
use Rattle.packet_defs.specs.RouteByte.{route_byte, turn_of, turns_of}
use Rattle.packet_defs.proofs.RouteBytes.{turn_of-route_byte, turn_of-only}
use Rattle.world_defs.specs.Mapping.{RouteEntry, RoutePart, MappingBody, HostProbe, HostReply, Loopback, Part, PartAck, route_bytes, entry_bytes, mapping_bytes, is_route, are_entries, is_part, is_mapping, Front, number_front, byte_front, turns_front, route_front, entry_front, entries_front, whole, two_front, with_entries, with_back, with_parts, with_dst, part_front, ack_front, probe_front, of_kind, by_the_rules, decode_mapping}
use Rattle.gm_defs.specs.Laws.{AreBytes}
use Rattle.world_defs.specs.BodyLaws.{MappingIsRead, MappingWasWritten}
use Rattle.gm_defs.proofs.Choices.{both, if-some, map-some, then-some}
use Rattle.world_defs.proofs.Fronts.{IsFront, front, front-front, front-16, front-32, front-64, read-16, read-32, read-64}

below : (a b : ℕ) → nat_lt a b ≡ true → a < b
below a b e = grind (arith, nat_tests)

-- the byte in front
front-byte : (bytes : List ℕ) (n : ℕ) (rest : List ℕ) → AreBytes bytes → byte_front bytes ≡ Some (n, rest) → IsFront (n ∷ []) rest bytes
front-byte [] n rest h e = absurd cc
front-byte (b ∷ bytes) n rest h e =
    let same = same_Some (b, bytes) (n, rest) e in
    front (n ∷ []) rest (b ∷ bytes) h (λ i. (same i).0 ∷ (same i).1)

-- turns, as they are read
turns_read : (bytes : List ℕ) (turns : List ℤ) → turns_of bytes ≡ Some turns → bytes ≡ map route_byte turns
turns_read [] turns e = ap (map route_byte) (same_Some [] turns e)
turns_read (b ∷ bytes) turns e =
    let t = then-some (λ turn. option_map (λ rest. turn ∷ rest) (turns_of bytes)) (turn_of b) turns e in
    let m = map-some (λ rest. t.0 ∷ rest) (turns_of bytes) turns t.1.1 in
    let here : b ≡ route_byte t.0 = (turn_of-only b t.0 t.1.0).1 in
    let later : bytes ≡ map route_byte m.0 = turns_read bytes m.0 m.1.0 in
    (λ i. here i ∷ later i) ∙ ap (map route_byte) m.1.1

-- and as they are written
turns_written : (turns : List ℤ) → list_all is_turn turns ≡ true → turns_of (map route_byte turns) ≡ Some turns
turns_written [] e = refl
turns_written (turn ∷ turns) e =
    let b = both (is_turn turn) (list_all is_turn turns) e in
    ap (option_and_then (λ t. option_map (λ rest. t ∷ rest) (turns_of (map route_byte turns)))) (turn_of-route_byte turn b.0)
    ∙ ap (option_map (λ rest. turn ∷ rest)) (turns_written turns b.1)

front-turns : (n : ℕ) (bytes : List ℕ) (turns : List ℤ) (rest : List ℕ) → turns_front n bytes ≡ Some (turns, rest) → (n ≡ length turns) × (bytes ≡ map route_byte turns ++ rest)
front-turns n bytes turns rest e =
    let p = if-some (nat_le n 64 && nat_le n (length bytes)) (option_map (λ ts. (ts, drop n bytes)) (turns_of (take n bytes))) (turns, rest) e in
    let room : n ≤ length bytes = let t = (both (nat_le n 64) (nat_le n (length bytes)) p.0).1 in grind (arith, nat_tests) in
    let m = map-some (λ ts. (ts, drop n bytes)) (turns_of (take n bytes)) (turns, rest) p.1 in
    let same : m.0 ≡ turns = ap (λ q. q.0) m.1.1 in
    let behind : drop n bytes ≡ rest = ap (λ q. q.1) m.1.1 in
    let taken : take n bytes ≡ map route_byte turns = turns_read (take n bytes) m.0 m.1.0 ∙ ap (map route_byte) same in (
      sym (length-take-le n bytes room) ∙ ap length taken ∙ length-map turns route_byte,
      sym (take-append-drop n bytes) ∙ (λ i. taken i ++ behind i),
    )

front-route : (bytes : List ℕ) (walk : List ℤ) (rest : List ℕ) → AreBytes bytes → route_front bytes ≡ Some (walk, rest) → IsFront (route_bytes walk) rest bytes
front-route [] walk rest h e = absurd cc
front-route (b ∷ bytes) walk rest h e =
    let t = front-turns b bytes walk rest e in
    front (route_bytes walk) rest (b ∷ bytes) h (λ i. t.0 i ∷ t.1 i)

read-route : (walk : List ℤ) (rest : List ℕ) → is_route walk ≡ true → route_front (route_bytes walk ++ rest) ≡ Some (walk, rest)
read-route walk rest e =
    let b = both (nat_le (length walk) 64) (list_all is_turn walk) e in
    let bytes = map route_byte walk in
    let l : length bytes ≡ length walk = length-map walk route_byte in
    let room : nat_le (length walk) (length (bytes ++ rest)) ≡ true = let all = length-append bytes rest in grind (arith, nat_tests) in
    let read : route_front (route_bytes walk ++ rest) ≡ option_map (λ ts. (ts, rest)) (turns_of bytes) =
    λ i. if b.0 i && room i then option_map (λ ts. (ts, drop_at bytes rest (length walk) l i)) (turns_of (take_at bytes rest (length walk) l i)) else None in
    read ∙ ap (option_map (λ ts. (ts, rest))) (turns_written walk b.1)

-- an entry
abbrev one_entry : RouteEntry → List ℕ
one_entry e = to_be_bytes w16 e.to ++ route_bytes e.walk

front-entry : (bytes : List ℕ) (e : RouteEntry) (rest : List ℕ) → AreBytes bytes → entry_front bytes ≡ Some (e, rest) → IsFront (one_entry e) rest bytes
front-entry bytes e rest h q =
    let t = then-some (λ to. option_map (λ walk. (record { to = to.0; walk = walk.0 }, walk.1)) (route_front to.1)) (number_front w16 2 bytes) (e, rest) q in
    let number = front-16 bytes t.0.0 t.0.1 h t.1.0 in
    let m = map-some (λ walk. (record { to = t.0.0; walk = walk.0 }, walk.1)) (route_front t.0.1) (e, rest) t.1.1 in
    let route = front-route t.0.1 m.0.0 m.0.1 number.behind m.1.0 in
    let all : IsFront (one_entry (record { to = t.0.0; walk = m.0.0 })) m.0.1 bytes = front-front (to_be_bytes w16 t.0.0) (route_bytes m.0.0) t.0.1 m.0.1 bytes number route in
    subst (λ p. IsFront (one_entry p.0) p.1 bytes) m.1.1 all

read-entry : (e : RouteEntry) (rest : List ℕ) → e.to < 2 ^ 16 → is_route e.walk ≡ true → entry_front (one_entry e ++ rest) ≡ Some (e, rest)
read-entry e rest fits r =
    let f : ℕ × List ℕ → Front RouteEntry = λ to. option_map (λ walk. (record { to = to.0; walk = walk.0 }, walk.1)) (route_front to.1) in
    let number : entry_front (one_entry e ++ rest) ≡ f (e.to, route_bytes e.walk ++ rest) = ap (option_and_then f) (read-16 e.to (route_bytes e.walk ++ rest) fits) in
    number ∙ ap (option_map (λ walk. (record { to = e.to; walk = walk.0 }, walk.1))) (read-route e.walk rest r)

-- so many entries
front-entries : (k : ℕ) (bytes : List ℕ) (es : List RouteEntry) (rest : List ℕ) → AreBytes bytes → entries_front k bytes ≡ Some (es, rest) → (k ≡ length es) × IsFront (entry_bytes es) rest bytes
front-entries zero bytes es rest h q =
    let same = same_Some ([], bytes) (es, rest) q in
    subst (λ p. (0 ≡ length p.0) × IsFront (entry_bytes p.0) p.1 bytes) same (refl, front [] bytes bytes h refl)
front-entries (suc k) bytes es rest h q =
    let t = then-some (λ e. option_map (λ more. (e.0 ∷ more.0, more.1)) (entries_front k e.1)) (entry_front bytes) (es, rest) q in
    let here = front-entry bytes t.0.0 t.0.1 h t.1.0 in
    let m = map-some (λ more. (t.0.0 ∷ more.0, more.1)) (entries_front k t.0.1) (es, rest) t.1.1 in
    let later = front-entries k t.0.1 m.0.0 m.0.1 here.behind m.1.0 in
    let all : IsFront (entry_bytes (t.0.0 ∷ m.0.0)) m.0.1 bytes = front-front (one_entry t.0.0) (entry_bytes m.0.0) t.0.1 m.0.1 bytes here later.1 in
    subst (λ p. (suc k ≡ length p.0) × IsFront (entry_bytes p.0) p.1 bytes) m.1.1 (ap suc later.0, all)

read-entries : (es : List RouteEntry) (rest : List ℕ) → are_entries es ≡ true → entries_front (length es) (entry_bytes es ++ rest) ≡ Some (es, rest)
read-entries [] rest e = refl
read-entries (d ∷ es) rest e =
    let last = both ((nat_lt d.to (2 ^ 16) && is_route d.walk) && list_all (λ o. nat_lt d.to o.to) es) (are_entries es) e in
    let two = both (nat_lt d.to (2 ^ 16) && is_route d.walk) (list_all (λ o. nat_lt d.to o.to) es) last.0 in
    let one = both (nat_lt d.to (2 ^ 16)) (is_route d.walk) two.0 in
    let f : RouteEntry × List ℕ → Front (List RouteEntry) = λ x. option_map (λ more. (x.0 ∷ more.0, more.1)) (entries_front (length es) x.1) in
    let apart : entry_bytes (d ∷ es) ++ rest ≡ one_entry d ++ (entry_bytes es ++ rest) = append_assoc (one_entry d) (entry_bytes es) rest in
    let here : entries_front (suc (length es)) (entry_bytes (d ∷ es) ++ rest) ≡ f (d, entry_bytes es ++ rest) =
    ap (λ l. option_and_then f (entry_front l)) apart ∙ ap (option_and_then f) (read-entry d (entry_bytes es ++ rest) (below d.to (2 ^ 16) one.0) one.1) in
    here ∙ ap (option_map (λ more. (d ∷ more.0, more.1))) (read-entries es rest last.1)

-- two numbers, of which the second has two bytes
two-16 : (w : Width) (count : ℕ) (bytes : List ℕ) (n m : ℕ) (rest : List ℕ)
    → ((bytes : List ℕ) (n : ℕ) (rest : List ℕ) → AreBytes bytes → number_front w count bytes ≡ Some (n, rest) → IsFront (to_be_bytes w n) rest bytes)
    → AreBytes bytes → two_front w count bytes ≡ Some ((n, m), rest) → IsFront (to_be_bytes w n ++ to_be_bytes w16 m) rest bytes
two-16 w count bytes n m rest first h q =
    let t = then-some (λ a. option_map (λ b. ((a.0, b.0), b.1)) (number_front w16 2 a.1)) (number_front w count bytes) ((n, m), rest) q in
    let one = first bytes t.0.0 t.0.1 h t.1.0 in
    let b = map-some (λ b. ((t.0.0, b.0), b.1)) (number_front w16 2 t.0.1) ((n, m), rest) t.1.1 in
    let two = front-16 t.0.1 b.0.0 b.0.1 one.behind b.1.0 in
    let all = front-front (to_be_bytes w t.0.0) (to_be_bytes w16 b.0.0) t.0.1 b.0.1 bytes one two in
    subst (λ p. IsFront (to_be_bytes w p.0.0 ++ to_be_bytes w16 p.0.1) p.1 bytes) b.1.1 all

read_two : (w : Width) (count : ℕ) (n m : ℕ) (rest : List ℕ) → ((rest : List ℕ) → number_front w count (to_be_bytes w n ++ rest) ≡ Some (n, rest)) → m < 2 ^ 16
    → two_front w count (to_be_bytes w n ++ (to_be_bytes w16 m ++ rest)) ≡ Some ((n, m), rest)
read_two w count n m rest first fits =
    let f : ℕ × List ℕ → Front (ℕ × ℕ) = λ a. option_map (λ b. ((a.0, b.0), b.1)) (number_front w16 2 a.1) in
    ap (option_and_then f) (first (to_be_bytes w16 m ++ rest)) ∙ ap (option_map (λ b. ((n, b.0), b.1))) (read-16 m rest fits)

-- a route part, from its end to its begin: what stands before is kept
abbrev from_entries : RoutePart → List ℕ
from_entries p = length p.entries ∷ entry_bytes p.entries

front-with_entries : (p q : RoutePart) (bytes rest : List ℕ) → AreBytes bytes → with_entries p bytes ≡ Some (q, rest)
    → (record p { entries = q.entries } ≡ q) × IsFront (from_entries q) rest bytes
front-with_entries p q bytes rest h e =
    let t = then-some (λ n. option_map (λ es. (record p { entries = es.0 }, es.1)) (entries_front n.0 n.1)) (byte_front bytes) (q, rest) e in
    let count = front-byte bytes t.0.0 t.0.1 h t.1.0 in
    let m = map-some (λ es. (record p { entries = es.0 }, es.1)) (entries_front t.0.0 t.0.1) (q, rest) t.1.1 in
    let es = front-entries t.0.0 t.0.1 m.0.0 m.0.1 count.behind m.1.0 in
    let all : IsFront (t.0.0 ∷ entry_bytes m.0.0) m.0.1 bytes = front-front (t.0.0 ∷ []) (entry_bytes m.0.0) t.0.1 m.0.1 bytes count es.1 in
    let counted : IsFront (length m.0.0 ∷ entry_bytes m.0.0) m.0.1 bytes = subst (λ n. IsFront (n ∷ entry_bytes m.0.0) m.0.1 bytes) es.0 all in
    subst (λ x. (record p { entries = x.0.entries } ≡ x.0) × IsFront (from_entries x.0) x.1 bytes) m.1.1 (refl, counted)

read-with_entries : (p : RoutePart) (rest : List ℕ) → are_entries p.entries ≡ true → (q : RoutePart) → record q { entries = p.entries } ≡ p → with_entries q (from_entries p ++ rest) ≡ Some (p, rest)
read-with_entries p rest e q same =
    ap (option_map (λ es. (record q { entries = es.0 }, es.1))) (read-entries p.entries rest e) ∙ ap (λ x. Some (x, rest)) same

abbrev from_back : RoutePart → List ℕ
from_back p = route_bytes p.back ++ from_entries p

front-with_back : (p q : RoutePart) (bytes rest : List ℕ) → AreBytes bytes → with_back p bytes ≡ Some (q, rest)
    → (record p { back = q.back; entries = q.entries } ≡ q) × IsFront (from_back q) rest bytes
front-with_back p q bytes rest h e =
    let t = then-some (λ back. with_entries (record p { back = back.0 }) back.1) (route_front bytes) (q, rest) e in
    let route = front-route bytes t.0.0 t.0.1 h t.1.0 in
    let later = front-with_entries (record p { back = t.0.0 }) q t.0.1 rest route.behind t.1.1 in
    let back : t.0.0 ≡ q.back = ap (λ x. x.back) later.0 in
    let all : IsFront (route_bytes t.0.0 ++ from_entries q) rest bytes = front-front (route_bytes t.0.0) (from_entries q) t.0.1 rest bytes route later.1 in
    (ap (λ b. record p { back = b; entries = q.entries }) (sym back) ∙ later.0, subst (λ b. IsFront (route_bytes b ++ from_entries q) rest bytes) back all)

read-with_back : (p : RoutePart) (rest : List ℕ) → is_route p.back ≡ true → are_entries p.entries ≡ true → (q : RoutePart) → record q { back = p.back; entries = p.entries } ≡ p
    → with_back q (from_back p ++ rest) ≡ Some (p, rest)
read-with_back p rest r e q same =
    ap (with_back q) (append_assoc (route_bytes p.back) (from_entries p) rest)
    ∙ ap (option_and_then (λ back. with_entries (record q { back = back.0 }) back.1)) (read-route p.back (from_entries p ++ rest) r)
    ∙ read-with_entries p rest e (record q { back = p.back }) same

abbrev from_parts : RoutePart → List ℕ
from_parts p = p.part ∷ p.parts ∷ from_back p

front-with_parts : (p q : RoutePart) (bytes rest : List ℕ) → AreBytes bytes → with_parts p bytes ≡ Some (q, rest)
    → (record p { part = q.part; parts = q.parts; back = q.back; entries = q.entries } ≡ q) × IsFront (from_parts q) rest bytes
front-with_parts p q [] rest h e = absurd cc
front-with_parts p q (a ∷ []) rest h e = absurd cc
front-with_parts p q (a ∷ b ∷ bytes) rest h e =
    let later = front-with_back (record p { part = a; parts = b }) q bytes rest (λ i. h (suc (suc i))) e in
    let part : a ≡ q.part = ap (λ x. x.part) later.0 in
    let parts : b ≡ q.parts = ap (λ x. x.parts) later.0 in (
      (λ i. record p { part = sym part i; parts = sym parts i; back = q.back; entries = q.entries }) ∙ later.0,
      record { whole = λ i. part i ∷ parts i ∷ later.1.whole i; behind = later.1.behind },
    )

abbrev from_dst : RoutePart → List ℕ
from_dst p = to_be_bytes w16 p.dst ++ from_parts p

front-with_dst : (p q : RoutePart) (bytes rest : List ℕ) → AreBytes bytes → with_dst p bytes ≡ Some (q, rest)
    → (record p { dst = q.dst; part = q.part; parts = q.parts; back = q.back; entries = q.entries } ≡ q) × IsFront (from_dst q) rest bytes
front-with_dst p q bytes rest h e =
    let t = then-some (λ dst. with_parts (record p { dst = dst.0 }) dst.1) (number_front w16 2 bytes) (q, rest) e in
    let number = front-16 bytes t.0.0 t.0.1 h t.1.0 in
    let later = front-with_parts (record p { dst = t.0.0 }) q t.0.1 rest number.behind t.1.1 in
    let dst : t.0.0 ≡ q.dst = ap (λ x. x.dst) later.0 in
    let all : IsFront (to_be_bytes w16 t.0.0 ++ from_parts q) rest bytes = front-front (to_be_bytes w16 t.0.0) (from_parts q) t.0.1 rest bytes number later.1 in (
      ap (λ d. record p { dst = d; part = q.part; parts = q.parts; back = q.back; entries = q.entries }) (sym dst) ∙ later.0,
      subst (λ d. IsFront (to_be_bytes w16 d ++ from_parts q) rest bytes) dst all,
    )

-- a part, whole
abbrev empty_part : ℕ → ℕ → RoutePart
empty_part epoch mapper = record { epoch = epoch; mapper = mapper; dst = 0; part = 0; parts = 0; back = []; entries = [] }

front-part : (q : RoutePart) (bytes rest : List ℕ) → AreBytes bytes → part_front bytes ≡ Some (q, rest) → IsFront ((to_be_bytes w32 q.epoch ++ to_be_bytes w16 q.mapper) ++ from_dst q) rest bytes
front-part q bytes rest h e =
    let t = then-some (λ two. with_dst (empty_part two.0.0 two.0.1) two.1) (two_front w32 4 bytes) (q, rest) e in
    let two = two-16 w32 4 bytes t.0.0.0 t.0.0.1 t.0.1 front-32 h t.1.0 in
    let later = front-with_dst (empty_part t.0.0.0 t.0.0.1) q t.0.1 rest two.behind t.1.1 in
    let epoch : t.0.0.0 ≡ q.epoch = ap (λ x. x.epoch) later.0 in
    let mapper : t.0.0.1 ≡ q.mapper = ap (λ x. x.mapper) later.0 in
    let all = front-front (to_be_bytes w32 t.0.0.0 ++ to_be_bytes w16 t.0.0.1) (from_dst q) t.0.1 rest bytes two later.1 in
    let first : IsFront ((to_be_bytes w32 q.epoch ++ to_be_bytes w16 t.0.0.1) ++ from_dst q) rest bytes =
    subst (λ n. IsFront ((to_be_bytes w32 n ++ to_be_bytes w16 t.0.0.1) ++ from_dst q) rest bytes) epoch all in
    subst (λ n. IsFront ((to_be_bytes w32 q.epoch ++ to_be_bytes w16 n) ++ from_dst q) rest bytes) mapper first

read-part : (p : RoutePart) → is_part p ≡ true → part_front (to_be_bytes w32 p.epoch ++ (to_be_bytes w16 p.mapper ++ (to_be_bytes w16 p.dst ++ (from_parts p ++ [])))) ≡ Some (p, [])
read-part p e =
    let a = both (nat_lt p.epoch (2 ^ 32) && nat_lt p.mapper (2 ^ 16) && nat_lt p.dst (2 ^ 16) && nat_lt p.part p.parts && nat_le p.parts 16 && is_route p.back && nat_le 1 (length p.entries) && nat_le (length p.entries) 8) (are_entries p.entries) e in
    let b = both (nat_lt p.epoch (2 ^ 32) && nat_lt p.mapper (2 ^ 16) && nat_lt p.dst (2 ^ 16) && nat_lt p.part p.parts && nat_le p.parts 16 && is_route p.back && nat_le 1 (length p.entries)) (nat_le (length p.entries) 8) a.0 in
    let c = both (nat_lt p.epoch (2 ^ 32) && nat_lt p.mapper (2 ^ 16) && nat_lt p.dst (2 ^ 16) && nat_lt p.part p.parts && nat_le p.parts 16 && is_route p.back) (nat_le 1 (length p.entries)) b.0 in
    let d = both (nat_lt p.epoch (2 ^ 32) && nat_lt p.mapper (2 ^ 16) && nat_lt p.dst (2 ^ 16) && nat_lt p.part p.parts && nat_le p.parts 16) (is_route p.back) c.0 in
    let f = both (nat_lt p.epoch (2 ^ 32) && nat_lt p.mapper (2 ^ 16) && nat_lt p.dst (2 ^ 16) && nat_lt p.part p.parts) (nat_le p.parts 16) d.0 in
    let g = both (nat_lt p.epoch (2 ^ 32) && nat_lt p.mapper (2 ^ 16) && nat_lt p.dst (2 ^ 16)) (nat_lt p.part p.parts) f.0 in
    let k = both (nat_lt p.epoch (2 ^ 32) && nat_lt p.mapper (2 ^ 16)) (nat_lt p.dst (2 ^ 16)) g.0 in
    let l = both (nat_lt p.epoch (2 ^ 32)) (nat_lt p.mapper (2 ^ 16)) k.0 in
    let q = empty_part p.epoch p.mapper in
    let tail = from_parts p ++ [] in
    ap (option_and_then (λ two. with_dst (empty_part two.0.0 two.0.1) two.1)) (read_two w32 4 p.epoch p.mapper (to_be_bytes w16 p.dst ++ tail) (λ rest. read-32 p.epoch rest (below p.epoch (2 ^ 32) l.0)) (below p.mapper (2 ^ 16) l.1))
    ∙ ap (option_and_then (λ dst. with_parts (record q { dst = dst.0 }) dst.1)) (read-16 p.dst tail (below p.dst (2 ^ 16) k.1))
    ∙ read-with_back p [] d.1 a.1 (record q { dst = p.dst; part = p.part; parts = p.parts }) refl

-- what is read whole, and by the rules
whole-some : {A : Type 0} (f : Front A) (a : A) → whole f ≡ Some a → f ≡ Some (a, [])
whole-some None a e = absurd cc
whole-some (Some (b, [])) a e = ap (λ x. Some (x, [])) (same_Some b a e)
whole-some (Some (b, byte ∷ bytes)) a e = absurd cc

rules-some : (o : Option MappingBody) (b : MappingBody) → by_the_rules o ≡ Some b → (o ≡ Some b) × (is_mapping b ≡ true)
rules-some None b e = absurd cc
rules-some (Some c) b e =
    let p = if-some (is_mapping c) (Some c) b e in
    (p.1, subst (λ x. is_mapping x ≡ true) (same_Some c b p.1) p.0)

-- the body of each kind: its bytes, and what is after them
front-probe : (b : MappingBody) (bytes rest : List ℕ) → AreBytes bytes → probe_front bytes ≡ Some (b, rest) → 1 ∷ bytes ≡ mapping_bytes b ++ rest
front-probe b bytes rest h e =
    let t = then-some (λ two. option_map (λ back. (HostProbe two.0.0 two.0.1 back.0, back.1)) (route_front two.1)) (two_front w64 8 bytes) (b, rest) e in
    let two = two-16 w64 8 bytes t.0.0.0 t.0.0.1 t.0.1 front-64 h t.1.0 in
    let m = map-some (λ back. (HostProbe t.0.0.0 t.0.0.1 back.0, back.1)) (route_front t.0.1) (b, rest) t.1.1 in
    let route = front-route t.0.1 m.0.0 m.0.1 two.behind m.1.0 in
    let all = front-front (to_be_bytes w64 t.0.0.0 ++ to_be_bytes w16 t.0.0.1) (route_bytes m.0.0) t.0.1 m.0.1 bytes two route in
    subst (λ x. 1 ∷ bytes ≡ mapping_bytes x.0 ++ x.1) m.1.1 (ap (λ l. 1 ∷ l) all.whole)

front-reply : (b : MappingBody) (bytes rest : List ℕ) → AreBytes bytes → option_map {U = MappingBody × List ℕ} (λ two. (HostReply two.0.0 two.0.1, two.1)) (two_front w64 8 bytes) ≡ Some (b, rest) → 2 ∷ bytes ≡ mapping_bytes b ++ rest
front-reply b bytes rest h e =
    let m = map-some (λ two. (HostReply two.0.0 two.0.1, two.1)) (two_front w64 8 bytes) (b, rest) e in
    let two = two-16 w64 8 bytes m.0.0.0 m.0.0.1 m.0.1 front-64 h m.1.0 in
    subst (λ x. 2 ∷ bytes ≡ mapping_bytes x.0 ++ x.1) m.1.1 (ap (λ l. 2 ∷ l) two.whole)

front-loop : (b : MappingBody) (bytes rest : List ℕ) → AreBytes bytes → option_map {U = MappingBody × List ℕ} (λ two. (Loopback two.0.0 two.0.1, two.1)) (two_front w64 8 bytes) ≡ Some (b, rest) → 3 ∷ bytes ≡ mapping_bytes b ++ rest
front-loop b bytes rest h e =
    let m = map-some (λ two. (Loopback two.0.0 two.0.1, two.1)) (two_front w64 8 bytes) (b, rest) e in
    let two = two-16 w64 8 bytes m.0.0.0 m.0.0.1 m.0.1 front-64 h m.1.0 in
    subst (λ x. 3 ∷ bytes ≡ mapping_bytes x.0 ++ x.1) m.1.1 (ap (λ l. 3 ∷ l) two.whole)

front-of_part : (b : MappingBody) (bytes rest : List ℕ) → AreBytes bytes → option_map {U = MappingBody × List ℕ} (λ p. (Part p.0, p.1)) (part_front bytes) ≡ Some (b, rest) → 4 ∷ bytes ≡ mapping_bytes b ++ rest
front-of_part b bytes rest h e =
    let m = map-some (λ p. (Part p.0, p.1)) (part_front bytes) (b, rest) e in
    let all = front-part m.0.0 bytes m.0.1 h m.1.0 in
    subst (λ x. 4 ∷ bytes ≡ mapping_bytes x.0 ++ x.1) m.1.1 (ap (λ l. 4 ∷ l) all.whole)

front-ack : (b : MappingBody) (bytes rest : List ℕ) → AreBytes bytes → ack_front bytes ≡ Some (b, rest) → 5 ∷ bytes ≡ mapping_bytes b ++ rest
front-ack b bytes rest h e =
    let t = then-some (λ two. option_map (λ part. (PartAck two.0.0 two.0.1 part.0, part.1)) (byte_front two.1)) (two_front w32 4 bytes) (b, rest) e in
    let two = two-16 w32 4 bytes t.0.0.0 t.0.0.1 t.0.1 front-32 h t.1.0 in
    let m = map-some (λ part. (PartAck t.0.0.0 t.0.0.1 part.0, part.1)) (byte_front t.0.1) (b, rest) t.1.1 in
    let part = front-byte t.0.1 m.0.0 m.0.1 two.behind m.1.0 in
    let all = front-front (to_be_bytes w32 t.0.0.0 ++ to_be_bytes w16 t.0.0.1) (m.0.0 ∷ []) t.0.1 m.0.1 bytes two part in
    subst (λ x. 5 ∷ bytes ≡ mapping_bytes x.0 ++ x.1) m.1.1 (ap (λ l. 5 ∷ l) all.whole)

equal : (a b : ℕ) → nat_eq a b ≡ true → a ≡ b
equal a b e = grind (arith, nat_tests)

front-kind : (kind : ℕ) (bytes : List ℕ) (b : MappingBody) (rest : List ℕ) → AreBytes bytes → of_kind kind bytes ≡ Some (b, rest) → kind ∷ bytes ≡ mapping_bytes b ++ rest
front-kind kind bytes b rest h e = first (nat_eq kind 1) refl
  where
    at : (k : ℕ) → nat_eq kind k ≡ true → k ∷ bytes ≡ mapping_bytes b ++ rest → kind ∷ bytes ≡ mapping_bytes b ++ rest
    at k t w = ap (λ n. n ∷ bytes) (equal kind k t) ∙ w

    none : nat_eq kind 1 ≡ false → nat_eq kind 2 ≡ false → nat_eq kind 3 ≡ false → nat_eq kind 4 ≡ false → (t : Bool) → nat_eq kind 5 ≡ t → kind ∷ bytes ≡ mapping_bytes b ++ rest
    none n1 n2 n3 n4 true t = let r : ack_front bytes ≡ Some (b, rest) = rw (n1, n2, n3, n4, t) at e in at 5 t (front-ack b bytes rest h r)
    none n1 n2 n3 n4 false t = absurd (none-some (b, rest) (rw (n1, n2, n3, n4, t) at e))

    fourth : nat_eq kind 1 ≡ false → nat_eq kind 2 ≡ false → nat_eq kind 3 ≡ false → (t : Bool) → nat_eq kind 4 ≡ t → kind ∷ bytes ≡ mapping_bytes b ++ rest
    fourth n1 n2 n3 true t = at 4 t (front-of_part b bytes rest h (rw (n1, n2, n3, t) at e))
    fourth n1 n2 n3 false t = none n1 n2 n3 t (nat_eq kind 5) refl

    third : nat_eq kind 1 ≡ false → nat_eq kind 2 ≡ false → (t : Bool) → nat_eq kind 3 ≡ t → kind ∷ bytes ≡ mapping_bytes b ++ rest
    third n1 n2 true t = at 3 t (front-loop b bytes rest h (rw (n1, n2, t) at e))
    third n1 n2 false t = fourth n1 n2 t (nat_eq kind 4) refl

    second : nat_eq kind 1 ≡ false → (t : Bool) → nat_eq kind 2 ≡ t → kind ∷ bytes ≡ mapping_bytes b ++ rest
    second n1 true t = at 2 t (front-reply b bytes rest h (rw (n1, t) at e))
    second n1 false t = third n1 t (nat_eq kind 3) refl

    first : (t : Bool) → nat_eq kind 1 ≡ t → kind ∷ bytes ≡ mapping_bytes b ++ rest
    first true t = at 1 t (front-probe b bytes rest h (rw t at e))
    first false t = second t (nat_eq kind 2) refl

pub mapping-written : MappingWasWritten
mapping-written [] b h e = absurd cc
mapping-written (kind ∷ bytes) b h e =
    let r = rules-some (whole (of_kind kind bytes)) b e in
    (front-kind kind bytes b [] (λ i. h (suc i)) (whole-some (of_kind kind bytes) b r.0) ∙ append-nil (mapping_bytes b), r.1)

-- what is read whole and by the rules is the body
read-rules : (b : MappingBody) (bytes : List ℕ) (kind : ℕ) → is_mapping b ≡ true → mapping_bytes b ++ [] ≡ kind ∷ bytes → of_kind kind bytes ≡ Some (b, []) → decode_mapping (mapping_bytes b) ≡ Some b
read-rules b bytes kind rules same e =
    let decoded : decode_mapping (mapping_bytes b) ≡ by_the_rules (whole (of_kind kind bytes)) = ap decode_mapping (sym (append-nil (mapping_bytes b)) ∙ same) in
    let chosen : by_the_rules (Some b) ≡ Some b = λ i. if rules i then Some b else None in
    decoded ∙ ap (λ f. by_the_rules (whole f)) e ∙ chosen

pub mapping-read : MappingIsRead
mapping-read (HostProbe number mapper back) e =
    let a = both (nat_lt number (2 ^ 64) && nat_lt mapper (2 ^ 16)) (is_route back) e in
    let b = both (nat_lt number (2 ^ 64)) (nat_lt mapper (2 ^ 16)) a.0 in
    let rest = route_bytes back ++ [] in
    read-rules (HostProbe number mapper back) (to_be_bytes w64 number ++ (to_be_bytes w16 mapper ++ rest)) 1 e refl
    (ap (option_and_then (λ two. option_map (λ back. (HostProbe two.0.0 two.0.1 back.0, back.1)) (route_front two.1)))
    (read_two w64 8 number mapper rest (λ rest. read-64 number rest (below number (2 ^ 64) b.0)) (below mapper (2 ^ 16) b.1))
    ∙ ap (option_map (λ back. (HostProbe number mapper back.0, back.1))) (read-route back [] a.1))
mapping-read (HostReply number host) e =
    let b = both (nat_lt number (2 ^ 64)) (nat_lt host (2 ^ 16)) e in
    read-rules (HostReply number host) (to_be_bytes w64 number ++ (to_be_bytes w16 host ++ [])) 2 e refl
    (ap (option_map (λ two. (HostReply two.0.0 two.0.1, two.1))) (read_two w64 8 number host [] (λ rest. read-64 number rest (below number (2 ^ 64) b.0)) (below host (2 ^ 16) b.1)))
mapping-read (Loopback number mapper) e =
    let b = both (nat_lt number (2 ^ 64)) (nat_lt mapper (2 ^ 16)) e in
    read-rules (Loopback number mapper) (to_be_bytes w64 number ++ (to_be_bytes w16 mapper ++ [])) 3 e refl
    (ap (option_map (λ two. (Loopback two.0.0 two.0.1, two.1))) (read_two w64 8 number mapper [] (λ rest. read-64 number rest (below number (2 ^ 64) b.0)) (below mapper (2 ^ 16) b.1)))
mapping-read (Part p) e =
    read-rules (Part p) (to_be_bytes w32 p.epoch ++ (to_be_bytes w16 p.mapper ++ (to_be_bytes w16 p.dst ++ (from_parts p ++ [])))) 4 e refl
    (ap (option_map (λ x. (Part x.0, x.1))) (read-part p e))
mapping-read (PartAck epoch host part) e =
    let a = both (nat_lt epoch (2 ^ 32) && nat_lt host (2 ^ 16)) (nat_lt part 256) e in
    let b = both (nat_lt epoch (2 ^ 32)) (nat_lt host (2 ^ 16)) a.0 in
    read-rules (PartAck epoch host part) (to_be_bytes w32 epoch ++ (to_be_bytes w16 host ++ part ∷ [])) 5 e refl
    (ap (option_and_then (λ two. option_map (λ part. (PartAck two.0.0 two.0.1 part.0, part.1)) (byte_front two.1)))
    (read_two w32 4 epoch host (part ∷ []) (λ rest. read-32 epoch rest (below epoch (2 ^ 32) b.0)) (below host (2 ^ 16) b.1)))
