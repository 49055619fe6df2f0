-- The ranks of a map's channels, taken one place after the other.
use Rattle.std.proofs.Common.{◌≡◌, ◌<◌, ◌+◌, ◌*◌, ◌/◌, ◌%◌, ℕ, zero, suc, List, [], ◌∷◌, ◌++◌, map, length, Bool, true, false, cond, Some, None, is_some, refl, ap, sym, ◌∙◌, arith, if◌then◌else◌, append_assoc, append-nil, add-one}
use Rattle.std.specs.Prelude.{pos, ◌-ℤ◌, option_to_list}
use Rattle.std.specs.List.{AllByRecursion, filter}
use Rattle.std.proofs.lemmas.List.{map-append}
use Rattle.journal_defs.specs.Counting.{numbers_below}
use Rattle.map_defs.specs.declared.rank.RankEntry.{RankEntry}
use Rattle.map_defs.specs.NetMap.{NetMap, MapPort, map_far}
use Rattle.map_defs.specs.Ranks.{ports_at, ports_at_all, ranks_of}
use Rattle.map_defs.proofs.Places.{all-numbers}
use Rattle.rank_cert.specs.Listing.{port_at, entry_of, entry_at}

numbers-plus : (a b : ℕ) → numbers_below (a + b) ≡ numbers_below a ++ map (λ k. a + k) (numbers_below b)
numbers-plus a zero = ap numbers_below (let e : a + 0 ≡ a = omega arith in e) ∙ sym (append-nil (numbers_below a))
numbers-plus a (suc b) =
    ap numbers_below (let e : a + suc b ≡ suc (a + b) = omega arith in e)
    ∙ ap (λ l. l ++ (a + b) ∷ []) (numbers-plus a b)
    ∙ append_assoc (numbers_below a) (map (λ k. a + k) (numbers_below b)) ((a + b) ∷ [])
    ∙ ap (λ l. numbers_below a ++ l) (sym (map-append (λ k. a + k) (numbers_below b) (b ∷ [])))

map-map : {X Y Z : Type 0} (f : Y → Z) (g : X → Y) (xs : List X) → map f (map g xs) ≡ map (λ x. f (g x)) xs
map-map f g [] = refl
map-map f g (x ∷ xs) = ap (λ l. f (g x) ∷ l) (map-map f g xs)

map-same : {X Y : Type 0} (f g : X → Y) (xs : List X) → AllByRecursion (λ x. f x ≡ g x) xs → map f xs ≡ map g xs
map-same f g [] all = refl
map-same f g (x ∷ xs) all = λ i. all.0 i ∷ map-same f g xs all.1 i

ports-append : (vs : List ℕ) (v : ℕ) → ports_at_all (vs ++ v ∷ []) ≡ ports_at_all vs ++ ports_at v
ports-append [] v = append-nil (ports_at v)
ports-append (w ∷ vs) v = ap (λ l. ports_at w ++ l) (ports-append vs v) ∙ sym (append_assoc (ports_at w) (ports_at_all vs) (ports_at v))

quotient : (v a : ℕ) → a < 31 → (31 * v + a) / 31 ≡ v
quotient v a l = omega arith

remainder : (v a : ℕ) → a < 31 → (31 * v + a) % 31 ≡ a
remainder v a l = omega arith

pub port_within : (v k : ℕ) → k < 31 → port_at (31 * v + k) ≡ record { v = v; p = pos k -ℤ pos 15 }
port_within v k l = let a = quotient v k l in let b = remainder v k l in λ i. record { v = a i; p = pos (b i) -ℤ pos 15 }

row : (v : ℕ) → map port_at (map (λ k. 31 * v + k) (numbers_below 31)) ≡ ports_at v
row v =
    map-map port_at (λ k. 31 * v + k) (numbers_below 31)
    ∙ map-same (λ k. port_at (31 * v + k)) (λ k. record { v = v; p = pos k -ℤ pos 15 }) (numbers_below 31) (all-numbers (λ k. port_at (31 * v + k) ≡ record { v = v; p = pos k -ℤ pos 15 }) 31 (port_within v))
    ∙ refl

-- the ports of all vertices, by places
pub ports-by_place : (n : ℕ) → map port_at (numbers_below (31 * n)) ≡ ports_at_all (numbers_below n)
ports-by_place zero = refl
ports-by_place (suc n) =
    ap (λ k. map port_at (numbers_below k)) (let e : 31 * suc n ≡ 31 * n + 31 = omega arith in e)
    ∙ ap (map port_at) (numbers-plus (31 * n) 31)
    ∙ map-append port_at (numbers_below (31 * n)) (map (λ k. 31 * n + k) (numbers_below 31))
    ∙ ap (λ l. l ++ map port_at (map (λ k. 31 * n + k) (numbers_below 31))) (ports-by_place n)
    ∙ ap (λ l. ports_at_all (numbers_below n) ++ l) (row n)
    ∙ sym (ports-append (numbers_below n) n)

-- the entries of the cabled ones of these ports
abbrev pub entries_among : NetMap → List ℕ → List MapPort → List RankEntry
entries_among m order ds = map (entry_of m order) (filter (λ d. is_some (map_far m d)) ds)

entries-push : (m : NetMap) (order : List ℕ) (ds : List MapPort) (d : MapPort) → entries_among m order (ds ++ d ∷ []) ≡ entries_among m order ds ++ entries_among m order (d ∷ [])
entries-push m order [] d = refl
entries-push m order (x ∷ xs) d = by (is_some (map_far m x)) (entries-push m order xs d)
  where
    by : (b : Bool) → entries_among m order (xs ++ d ∷ []) ≡ entries_among m order xs ++ entries_among m order (d ∷ []) → map (entry_of m order) (cond b (x ∷ filter (λ d. is_some (map_far m d)) (xs ++ d ∷ [])) (filter (λ d. is_some (map_far m d)) (xs ++ d ∷ []))) ≡ map (entry_of m order) (cond b (x ∷ filter (λ d. is_some (map_far m d)) xs) (filter (λ d. is_some (map_far m d)) xs)) ++ entries_among m order (d ∷ [])
    by true e = ap (λ l. entry_of m order x ∷ l) e
    by false e = e

abbrev pub entries_below : NetMap → List ℕ → ℕ → List RankEntry
entries_below m order k = entries_among m order (map port_at (numbers_below k))

entries-more : (m : NetMap) (order : List ℕ) (k : ℕ) → entries_below m order (k + 1) ≡ entries_below m order k ++ entries_among m order (port_at k ∷ [])
entries-more m order k =
    ap (λ l. entries_among m order (map port_at l)) (ap numbers_below (add-one k))
    ∙ ap (entries_among m order) (map-append port_at (numbers_below k) (k ∷ []))
    ∙ entries-push m order (map port_at (numbers_below k)) (port_at k)

pub entries-next : (m : NetMap) (order : List ℕ) (k : ℕ) → entries_below m order (k + 1) ≡ entries_below m order k ++ option_to_list (entry_at m order k)
entries-next m order k = entries-more m order k ∙ ap (λ l. entries_below m order k ++ l) (by (is_some (map_far m (port_at k))))
  where
    by : (b : Bool) → map (entry_of m order) (cond b (port_at k ∷ []) []) ≡ option_to_list (if b then Some (entry_of m order (port_at k)) else None)
    by true = refl
    by false = refl

pub entries-all : (m : NetMap) (order : List ℕ) → entries_below m order (31 * length m.vertices) ≡ ranks_of m order
entries-all m order = ap (entries_among m order) (ports-by_place (length m.vertices))
