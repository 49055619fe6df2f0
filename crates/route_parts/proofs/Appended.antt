-- A part after other bytes: its numbers, its route back, and its entries, one after the other.
use Rattle.std.proofs.Common.{ℕ, ◌≡◌, List, [], ◌∷◌, ◌++◌, map, length, ap, ◌∙◌, append_assoc}
use Rattle.std.specs.Prelude.{ℤ}
use Rattle.std.specs.Int.{w16, w32, to_be_bytes}
use Rattle.packet_defs.specs.RouteByte.{route_byte}
use Rattle.world_defs.specs.Mapping.{RouteEntry, RoutePart, mapping_bytes, entry_bytes, route_bytes}
use Rattle.world_defs.specs.Mapping.MappingBody.{Part}

-- four lists after one, as they were written
abbrev pub four_behind : (old a b c d : List ℕ) → List ℕ
four_behind old a b c d = (((old ++ a) ++ b) ++ c) ++ d

four-joined : (old a b c d : List ℕ) → four_behind old a b c d ≡ old ++ (a ++ (b ++ (c ++ d)))
four-joined old a b c d = append_assoc ((old ++ a) ++ b) c d ∙ append_assoc (old ++ a) b (c ++ d) ∙ append_assoc old a (b ++ (c ++ d))

-- the kind and the epoch of a part, and its place among others
abbrev epoch_of : RoutePart → List ℕ
epoch_of p = 4 ∷ to_be_bytes w32 p.epoch

abbrev place_of : RoutePart → List ℕ
place_of p = p.part ∷ p.parts ∷ []

-- its kind and its numbers
abbrev numbers_of : RoutePart → List ℕ
numbers_of p = epoch_of p ++ (to_be_bytes w16 p.mapper ++ (to_be_bytes w16 p.dst ++ place_of p))

-- its numbers, its route back and its entries after other bytes are its bytes after them
pub appended : (old : List ℕ) (p : RoutePart) (walk : List ℤ) (es : List RouteEntry) {t u v : List ℕ} → walk ≡ p.back → es ≡ p.entries
    → t ≡ four_behind old (4 ∷ to_be_bytes w32 p.epoch) (to_be_bytes w16 p.mapper) (to_be_bytes w16 p.dst) (p.part ∷ p.parts ∷ [])
    → u ≡ t ++ length walk ∷ map route_byte walk
    → v ≡ u ++ length es ∷ entry_bytes es
    → v ≡ old ++ mapping_bytes (Part p)
appended old p walk es same whole e f g =
    g
    ∙ ap (λ l. l ++ length es ∷ entry_bytes es)
    (f ∙ ap (λ l. l ++ length walk ∷ map route_byte walk) (e ∙ four-joined old (epoch_of p) (to_be_bytes w16 p.mapper) (to_be_bytes w16 p.dst) (place_of p)))
    ∙ append_assoc (old ++ numbers_of p) (route_bytes walk) (length es ∷ entry_bytes es)
    ∙ append_assoc old (numbers_of p) (route_bytes walk ++ length es ∷ entry_bytes es)
    ∙ (λ i. old ++ (numbers_of p ++ (route_bytes (same i) ++ length (whole i) ∷ entry_bytes (whole i))))
