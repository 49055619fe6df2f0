-- The bytes of a part fit into a packet.
use Rattle.std.proofs.Common.{◌≡◌, ◌≤◌, ◌+◌, ◌*◌, ◌^◌, ℕ, suc, List, [], ◌∷◌, ◌++◌, Bool, true, ◌&&◌, map, length, nat_lt, nat_le, refl, arith}
use Rattle.std.specs.Prelude.{ℤ}
use Rattle.std.specs.List.{list_all}
use Rattle.std.specs.Int.{w16, w32, to_be_bytes}
use Rattle.std.proofs.lemmas.Bool.{and_parts}
use Rattle.std.proofs.lemmas.Bool.Decides.{nat_tests}
use Rattle.std.proofs.lemmas.List.{length-append, length-map}
use Rattle.net_defs.specs.Turn.{is_turn}
use Rattle.packet_defs.specs.RouteByte.{route_byte}
use Rattle.world_defs.specs.Mapping.{RouteEntry, RoutePart, mapping_bytes, is_part, is_route, are_entries, entry_bytes, route_bytes}
use Rattle.world_defs.specs.Mapping.MappingBody.{Part}

-- the bytes of a route
pub route-short : (walk : List ℤ) → length walk ≤ 64 → length (route_bytes walk) ≤ 65
route-short walk few =
    let one : length (route_bytes walk) ≡ suc (length (map route_byte walk)) = refl in
    let same = length-map walk route_byte in
    omega arith

route-length : (walk : List ℤ) → is_route walk ≡ true → length walk ≤ 64
route-length walk h = let t = (and_parts (nat_le (length walk) 64) (list_all is_turn walk) h).0 in grind (arith, nat_tests)

-- an entry has at most 67 bytes
entries-short : (es : List RouteEntry) → are_entries es ≡ true → length (entry_bytes es) ≤ 67 * length es
entries-short [] h = omega arith
entries-short (e ∷ es) h =
    let a = and_parts (nat_lt e.to (2 ^ 16) && is_route e.walk && list_all (λ d. nat_lt e.to d.to) es) (are_entries es) h in
    let b = and_parts (nat_lt e.to (2 ^ 16) && is_route e.walk) (list_all (λ d. nat_lt e.to d.to) es) a.0 in
    let c = and_parts (nat_lt e.to (2 ^ 16)) (is_route e.walk) b.0 in
    let route : length (route_bytes e.walk) ≤ 65 = route-short e.walk (route-length e.walk c.1) in
    let rest : length (entry_bytes es) ≤ 67 * length es = entries-short es a.1 in
    let two : length (to_be_bytes w16 e.to) ≡ 2 = refl in
    let all : length (entry_bytes (e ∷ es)) ≡ length (to_be_bytes w16 e.to ++ route_bytes e.walk) + length (entry_bytes es) = length-append (to_be_bytes w16 e.to ++ route_bytes e.walk) (entry_bytes es) in
    let front : length (to_be_bytes w16 e.to ++ route_bytes e.walk) ≡ length (to_be_bytes w16 e.to) + length (route_bytes e.walk) = length-append (to_be_bytes w16 e.to) (route_bytes e.walk) in
    let count : length (e ∷ es) ≡ suc (length es) = refl in
    omega arith

-- the rules of a part's numbers
abbrev numbers_ruled : RoutePart → Bool
numbers_ruled p = nat_lt p.epoch (2 ^ 32) && nat_lt p.mapper (2 ^ 16) && nat_lt p.dst (2 ^ 16) && nat_lt p.part p.parts && nat_le p.parts 16

-- its numbers after the kind
abbrev numbers_of : RoutePart → List ℕ
numbers_of p = 4 ∷ to_be_bytes w32 p.epoch ++ to_be_bytes w16 p.mapper ++ to_be_bytes w16 p.dst ++ p.part ∷ p.parts ∷ []

-- so the bytes of a part by the rules are a payload
pub part-short : (p : RoutePart) → is_part p ≡ true → length (mapping_bytes (Part p)) ≤ 1040
part-short p h =
    let a = and_parts (numbers_ruled p && is_route p.back && nat_le 1 (length p.entries) && nat_le (length p.entries) 8) (are_entries p.entries) h in
    let b = and_parts (numbers_ruled p && is_route p.back && nat_le 1 (length p.entries)) (nat_le (length p.entries) 8) a.0 in
    let c = and_parts (numbers_ruled p && is_route p.back) (nat_le 1 (length p.entries)) b.0 in
    let d = and_parts (numbers_ruled p) (is_route p.back) c.0 in
    let few : length p.entries ≤ 8 = let t = b.1 in grind (arith, nat_tests) in
    let entries : length (entry_bytes p.entries) ≤ 67 * length p.entries = entries-short p.entries a.1 in
    let back : length (route_bytes p.back) ≤ 65 = route-short p.back (route-length p.back d.1) in
    let eleven : length (numbers_of p) ≡ 11 = refl in
    let whole : length (mapping_bytes (Part p)) ≡ length (numbers_of p) + length (route_bytes p.back ++ length p.entries ∷ entry_bytes p.entries) = length-append (numbers_of p) (route_bytes p.back ++ length p.entries ∷ entry_bytes p.entries) in
    let behind : length (route_bytes p.back ++ length p.entries ∷ entry_bytes p.entries) ≡ length (route_bytes p.back) + length (length p.entries ∷ entry_bytes p.entries) =
    length-append (route_bytes p.back) (length p.entries ∷ entry_bytes p.entries) in
    let one : length (length p.entries ∷ entry_bytes p.entries) ≡ suc (length (entry_bytes p.entries)) = refl in
    omega arith
