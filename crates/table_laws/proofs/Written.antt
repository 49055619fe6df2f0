-- A part that is read is the part that was written.
use Rattle.std.proofs.Common.{◌≡◌, ℕ, ℤ, Bool, true, false, ◌&&◌, nat_le, List, [], ◌∷◌, ◌++◌, map, length, take, drop, Some, None, option_map, refl, sym, ap, ◌∙◌, append_assoc, if◌then◌else◌}
use Rattle.std.specs.Prelude.{option_and_then}
use Rattle.std.specs.List.{list_all, AllByRecursion}
use Rattle.std.specs.Int.{w16, w32, to_be_bytes}
use Rattle.std.proofs.lemmas.Option.{same_Some}
use Rattle.std.proofs.lemmas.List.{append-nil, length-map, take_at, drop_at}
use Rattle.net_defs.specs.Turn.{is_turn}
use Rattle.packet_defs.specs.RouteByte.{route_byte, turns_of}
use Rattle.packet_defs.proofs.RouteBytes.{turn_of-route_byte}
use Rattle.world_defs.specs.Mapping.{RouteEntry, RoutePart, Part, route_bytes, entry_bytes, is_mapping, Front, number_front, route_front, entry_front, entries_front, whole, two_front, with_entries, with_back, with_parts, with_dst, part_front, by_the_rules}
use Rattle.gm_defs.proofs.Choices.{both, if-some, map-some, then-some}
use Rattle.world_defs.proofs.Fronts.{read-16, read-32}
use Rattle.table_laws.specs.Set.{IsFit, IsFitPart}
use Rattle.table_laws.specs.Laws.{PartIsReadAsWritten}

turns_written : (turns : List ℤ) → list_all is_turn turns ≡ true → turns_of (map route_byte turns) ≡ Some turns
turns_written [] e = refl
turns_written (turn ∷ turns) e =
    let b = both (is_turn turn) (list_all is_turn turns) e in
    ap (option_and_then (λ t. option_map (λ rest. t ∷ rest) (turns_of (map route_byte turns)))) (turn_of-route_byte turn b.0)
    ∙ ap (option_map (λ rest. turn ∷ rest)) (turns_written turns b.1)

-- what is read in front as a route is the one that was written there
route-read : (walk : List ℤ) (rest : List ℕ) (x : List ℤ × List ℕ) → list_all is_turn walk ≡ true → route_front (route_bytes walk ++ rest) ≡ Some x → x ≡ (walk, rest)
route-read walk rest x turns e =
    let bytes = map route_byte walk in
    let l : length bytes ≡ length walk = length-map walk route_byte in
    let p = if-some (nat_le (length walk) 64 && nat_le (length walk) (length (bytes ++ rest))) (option_map (λ ts. (ts, drop (length walk) (bytes ++ rest))) (turns_of (take (length walk) (bytes ++ rest)))) x e in
    let read : option_map (λ ts. (ts, drop (length walk) (bytes ++ rest))) (turns_of (take (length walk) (bytes ++ rest))) ≡ option_map (λ ts. (ts, rest)) (turns_of bytes) =
    λ i. option_map (λ ts. (ts, drop_at bytes rest (length walk) l i)) (turns_of (take_at bytes rest (length walk) l i)) in
    same_Some x (walk, rest) (sym p.1 ∙ read ∙ ap (option_map (λ ts. (ts, rest))) (turns_written walk turns))

abbrev one_entry : RouteEntry → List ℕ
one_entry e = to_be_bytes w16 e.to ++ route_bytes e.walk

entry-read : (d : RouteEntry) (rest : List ℕ) (x : RouteEntry × List ℕ) → IsFit d → entry_front (one_entry d ++ rest) ≡ Some x → x ≡ (d, rest)
entry-read d rest x fit e =
    let f : ℕ × List ℕ → Front RouteEntry = λ to. option_map (λ walk. (record { to = to.0; walk = walk.0 }, walk.1)) (route_front to.1) in
    let number : entry_front (one_entry d ++ rest) ≡ f (d.to, route_bytes d.walk ++ rest) = ap (option_and_then f) (read-16 d.to (route_bytes d.walk ++ rest) fit.to) in
    let g : List ℤ × List ℕ → RouteEntry × List ℕ = λ walk. (record { to = d.to; walk = walk.0 }, walk.1) in
    let m = map-some g (route_front (route_bytes d.walk ++ rest)) x (sym number ∙ e) in
    sym m.1.1 ∙ ap g (route-read d.walk rest m.0 fit.turns m.1.0)

entries-read : (es : List RouteEntry) (rest : List ℕ) (x : List RouteEntry × List ℕ) → AllByRecursion IsFit es → entries_front (length es) (entry_bytes es ++ rest) ≡ Some x → x ≡ (es, rest)
entries-read [] rest x fit e = sym (same_Some ([], rest) x e)
entries-read (d ∷ es) rest x fit e =
    let f : RouteEntry × List ℕ → Front (List RouteEntry) = λ y. option_map (λ more. (y.0 ∷ more.0, more.1)) (entries_front (length es) y.1) in
    let apart : entry_bytes (d ∷ es) ++ rest ≡ one_entry d ++ (entry_bytes es ++ rest) = append_assoc (one_entry d) (entry_bytes es) rest in
    let seen : option_and_then f (entry_front (one_entry d ++ (entry_bytes es ++ rest))) ≡ Some x = (λ i. option_and_then f (entry_front (sym apart i))) ∙ e in
    let t = then-some f (entry_front (one_entry d ++ (entry_bytes es ++ rest))) x seen in
    let here : t.0 ≡ (d, entry_bytes es ++ rest) = entry-read d (entry_bytes es ++ rest) t.0 fit.0 t.1.0 in
    let g : List RouteEntry × List ℕ → List RouteEntry × List ℕ = λ more. (d ∷ more.0, more.1) in
    let m = map-some g (entries_front (length es) (entry_bytes es ++ rest)) x (sym (ap f here) ∙ t.1.1) in
    sym m.1.1 ∙ ap g (entries-read es rest m.0 fit.1 m.1.0)

abbrev from_entries : RoutePart → List ℕ
from_entries p = length p.entries ∷ entry_bytes p.entries

with_entries-read : (p q : RoutePart) (x : RoutePart × List ℕ) → AllByRecursion IsFit p.entries → with_entries q (from_entries p) ≡ Some x → x ≡ (record q { entries = p.entries }, [])
with_entries-read p q x fit e =
    let g : List RouteEntry × List ℕ → RoutePart × List ℕ = λ es. (record q { entries = es.0 }, es.1) in
    let m = map-some g (entries_front (length p.entries) (entry_bytes p.entries)) x e in
    sym m.1.1 ∙ ap g (entries-read p.entries [] m.0 fit (ap (entries_front (length p.entries)) (append-nil (entry_bytes p.entries)) ∙ m.1.0))

with_back-read : (p q : RoutePart) (x : RoutePart × List ℕ) → list_all is_turn p.back ≡ true → AllByRecursion IsFit p.entries → with_back q (route_bytes p.back ++ from_entries p) ≡ Some x → x ≡ (record q { back = p.back; entries = p.entries }, [])
with_back-read p q x turns fit e =
    let f : List ℤ × List ℕ → Front RoutePart = λ back. with_entries (record q { back = back.0 }) back.1 in
    let t = then-some f (route_front (route_bytes p.back ++ from_entries p)) x e in
    let here : t.0 ≡ (p.back, from_entries p) = route-read p.back (from_entries p) t.0 turns t.1.0 in
    with_entries-read p (record q { back = p.back }) x fit (sym (ap f here) ∙ t.1.1)

abbrev from_parts : RoutePart → List ℕ
from_parts p = p.part ∷ p.parts ∷ (route_bytes p.back ++ from_entries p)

abbrev empty_part : ℕ → ℕ → RoutePart
empty_part epoch mapper = record { epoch = epoch; mapper = mapper; dst = 0; part = 0; parts = 0; back = []; entries = [] }

with_dst-read : (p q : RoutePart) (x : RoutePart × List ℕ) → IsFitPart p → with_dst q (to_be_bytes w16 p.dst ++ from_parts p) ≡ Some x
    → x ≡ (record q { dst = p.dst; part = p.part; parts = p.parts; back = p.back; entries = p.entries }, [])
with_dst-read p q x fit e =
    let f : ℕ × List ℕ → Front RoutePart = λ dst. with_parts (record q { dst = dst.0 }) dst.1 in
    let number : option_and_then f (number_front w16 2 (to_be_bytes w16 p.dst ++ from_parts p)) ≡ f (p.dst, from_parts p) = ap (option_and_then f) (read-16 p.dst (from_parts p) fit.dst) in
    with_back-read p (record q { dst = p.dst; part = p.part; parts = p.parts }) x fit.back fit.entries (sym number ∙ e)

part-front : (p : RoutePart) (x : RoutePart × List ℕ) → IsFitPart p → part_front (to_be_bytes w32 p.epoch ++ to_be_bytes w16 p.mapper ++ to_be_bytes w16 p.dst ++ from_parts p) ≡ Some x → x ≡ (p, [])
part-front p x fit e =
    let rest : List ℕ = to_be_bytes w16 p.dst ++ from_parts p in
    let g : ℕ × List ℕ → Front (ℕ × ℕ) = λ a. option_map (λ b. ((a.0, b.0), b.1)) (number_front w16 2 a.1) in
    let two : two_front w32 4 (to_be_bytes w32 p.epoch ++ (to_be_bytes w16 p.mapper ++ rest)) ≡ Some ((p.epoch, p.mapper), rest) =
    ap (option_and_then g) (read-32 p.epoch (to_be_bytes w16 p.mapper ++ rest) fit.epoch) ∙ ap (option_map (λ b. ((p.epoch, b.0), b.1))) (read-16 p.mapper rest fit.mapper) in
    let f : (ℕ × ℕ) × List ℕ → Front RoutePart = λ two. with_dst (empty_part two.0.0 two.0.1) two.1 in
    with_dst-read p (empty_part p.epoch p.mapper) x fit (sym (ap (option_and_then f) two) ∙ e)

same_part : (p q : RoutePart) → Part p ≡ Part q → p ≡ q
same_part p q e = cc

pub part-read : PartIsReadAsWritten
part-read p q fit e = by (part_front bytes) (λ x. part-front p x fit) e
  where
    bytes : List ℕ
    bytes = to_be_bytes w32 p.epoch ++ to_be_bytes w16 p.mapper ++ to_be_bytes w16 p.dst ++ from_parts p

    ruled : (b : Bool) → (if b then Some (Part p) else None) ≡ Some (Part q) → p ≡ q
    ruled true d = same_part p q (same_Some (Part p) (Part q) d)
    ruled false d = cc

    by : (o : Front RoutePart) → ((x : RoutePart × List ℕ) → o ≡ Some x → x ≡ (p, [])) → by_the_rules (whole (option_map (λ x. (Part x.0, x.1)) o)) ≡ Some (Part q) → p ≡ q
    by None same d = cc
    by (Some x) same d = ruled (is_mapping (Part p)) (sym (ap (λ y. by_the_rules (whole (Some (Part y.0, y.1)))) (same x refl)) ∙ d)
