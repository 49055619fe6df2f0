-- A part of a table in front of bytes: its numbers, its way back, its entries, and the rules.
use Rattle.std.proofs.Common.{◌≡◌, ◌<◌, ◌≤◌, ◌^◌, ℕ, zero, suc, List, [], ◌∷◌, Bool, true, false, ◌&&◌, length, nat_lt, nat_le, Option, Some, None, is_some, option_map, ◌⊎◌, inl, inr, refl, ap, sym, ◌∙◌, arith, if◌then◌else◌}
use Rattle.std.specs.Prelude.{ℤ, option_and_then, Result, Ok, Err, IfOk}
use Rattle.std.specs.List.{list_all}
use Rattle.std.specs.Int.{w16, w32}
use Rattle.std.proofs.lemmas.Option.{same_Some}
use Rattle.std.proofs.lemmas.Bool.{and_parts}
use Rattle.std.proofs.lemmas.Bool.Decides.{nat_tests}
use Rattle.world_defs.specs.Mapping.{RouteEntry, RoutePart, MappingBody, Front, number_front, byte_front, two_front, route_front, entry_front, entries_front, whole, with_entries, with_back, part_front, by_the_rules, is_part, is_route, are_entries, decode_mapping}
use Rattle.packet_defs.specs.RouteByte.{turns_of}
use Rattle.world_defs.specs.Mapping.MappingBody.{HostProbe, HostReply, Loopback, Part, PartAck}
use Rattle.route_parts.specs.declared.head.Head.{Head}
use Rattle.route_parts.specs.declared.fault.BodyFault.{BodyFault}
use Rattle.route_parts.specs.declared.fault.BodyFault.TheVariants.{Malformed, NoMemory}
use Rattle.route_parts.specs.Reading.{of_part, part_in, missing, bytes_front, numbers_front, part_of, ruled, part_behind, are_risen, rise_from}
use Rattle.route_parts.specs.Viewing.{route_viewed, part_with, part_viewed, is_ruled}
use Rattle.route_parts.proofs.Entries.{read-route, whole-changed}

-- a body that is a part, by the rules of both
part-ruled : (o : Front RoutePart) → of_part (by_the_rules (whole (option_map (λ p. (Part p.0, p.1)) o))) ≡ ruled (whole o)
part-ruled None = refl
part-ruled (Some (p, [])) = by (is_part p)
  where
    by : (b : Bool) → of_part (if b then Some (Part p) else None) ≡ (if b then Some p else None)
    by true = refl
    by false = refl
part-ruled (Some (p, x ∷ xs)) = refl

-- a part after its kind: its numbers, and its routes
pub part-read : (bytes : List ℕ) → part_in (4 ∷ bytes) ≡ option_and_then (λ (h : Head × List ℕ). part_behind h.0 h.1) (numbers_front bytes)
part-read bytes = part-ruled (part_front bytes) ∙ by (two_front w32 4 bytes)
  where
    last : (two : ℕ × ℕ) (dst part : ℕ) (o : Front ℕ)
        → ruled (whole (option_and_then (λ parts. with_back (record { epoch = two.0; mapper = two.1; dst = dst; part = part; parts = parts.0; back = []; entries = [] }) parts.1) o))
        ≡ option_and_then (λ (h : Head × List ℕ). part_behind h.0 h.1) (option_map (λ (ps : (ℕ × ℕ) × List ℕ). (record { epoch = two.0; mapper = two.1; dst = dst; part = ps.0.0; parts = ps.0.1 }, ps.1)) (option_map (λ m. ((part, m.0), m.1)) o))
    last two dst part None = refl
    last two dst part (Some m) = refl

    parts : (two : ℕ × ℕ) (dst : ℕ) (o : Front ℕ)
        → ruled (whole (option_and_then (λ part. option_and_then (λ parts. with_back (record { epoch = two.0; mapper = two.1; dst = dst; part = part.0; parts = parts.0; back = []; entries = [] }) parts.1) (byte_front part.1)) o))
        ≡ option_and_then (λ (h : Head × List ℕ). part_behind h.0 h.1) (option_map (λ (ps : (ℕ × ℕ) × List ℕ). (record { epoch = two.0; mapper = two.1; dst = dst; part = ps.0.0; parts = ps.0.1 }, ps.1)) (option_and_then (λ n. option_map (λ m. ((n.0, m.0), m.1)) (byte_front n.1)) o))
    parts two dst None = refl
    parts two dst (Some n) = last two dst n.0 (byte_front n.1)

    dsts : (two : ℕ × ℕ) (o : Front ℕ)
        → ruled (whole (option_and_then (λ dst. option_and_then (λ part. option_and_then (λ parts. with_back (record { epoch = two.0; mapper = two.1; dst = dst.0; part = part.0; parts = parts.0; back = []; entries = [] }) parts.1) (byte_front part.1)) (byte_front dst.1)) o))
        ≡ option_and_then (λ (h : Head × List ℕ). part_behind h.0 h.1) (option_and_then (λ dst. option_map (λ ps. (record { epoch = two.0; mapper = two.1; dst = dst.0; part = ps.0.0; parts = ps.0.1 }, ps.1)) (bytes_front dst.1)) o)
    dsts two None = refl
    dsts two (Some d) = parts two d.0 (byte_front d.1)

    by : (o : Front (ℕ × ℕ))
        → ruled (whole (option_and_then (λ two. option_and_then (λ dst. option_and_then (λ part. option_and_then (λ parts. with_back (record { epoch = two.0.0; mapper = two.0.1; dst = dst.0; part = part.0; parts = parts.0; back = []; entries = [] }) parts.1) (byte_front part.1)) (byte_front dst.1)) (number_front w16 2 two.1)) o))
        ≡ option_and_then (λ (h : Head × List ℕ). part_behind h.0 h.1) (option_and_then (λ two. option_and_then (λ dst. option_map (λ ps. (record { epoch = two.0.0; mapper = two.0.1; dst = dst.0; part = ps.0.0; parts = ps.0.1 }, ps.1)) (bytes_front dst.1)) (number_front w16 2 two.1)) o)
    by None = refl
    by (Some two) = dsts two.0 (number_front w16 2 two.1)

-- the routes of a part, by their bytes
pub behind-no_route : (h : Head) (bytes : List ℕ) → route_front bytes ≡ None → part_behind h bytes ≡ None
behind-no_route h bytes e = ap (λ (o : Front (List ℤ)). ruled (whole (option_and_then (λ b. with_entries (record (part_of h) { back = b.0 }) b.1) o))) e

pub behind-viewed : (h : Head) (bytes back rest entries : List ℕ) (count : ℕ) → route_viewed (Some (back, rest)) ≡ route_front bytes → byte_front rest ≡ Some (count, entries) → part_behind h bytes ≡ ruled (part_viewed h back count entries)
behind-viewed h bytes back rest entries count e f = by (turns_of back) refl
  where
    put : (walk : List ℤ) (o : Option (List RouteEntry)) → option_map (λ es. record (record (part_of h) { back = walk }) { entries = es }) o ≡ part_with h (Some walk) o
    put walk None = refl
    put walk (Some es) = refl

    by : (o : Option (List ℤ)) → turns_of back ≡ o → part_behind h bytes ≡ ruled (part_with h o (whole (entries_front count entries)))
    by None t = behind-no_route h bytes (sym e ∙ ap (option_map (λ (w : List ℤ). (w, rest))) t)
    by (Some walk) t =
        let front : route_front bytes ≡ Some (walk, rest) = sym e ∙ ap (option_map (λ (w : List ℤ). (w, rest))) t in
        ap ruled
        (ap (λ (o : Front (List ℤ)). whole (option_and_then (λ b. with_entries (record (part_of h) { back = b.0 }) b.1) o)) front
        ∙ ap (λ (o : Front ℕ). whole (option_and_then (λ n. option_map (λ es. (record (record (part_of h) { back = walk }) { entries = es.0 }, es.1)) (entries_front n.0 n.1)) o)) f
        ∙ whole-changed (λ es. record (record (part_of h) { back = walk }) { entries = es }) (entries_front count entries)
        ∙ put walk (whole (entries_front count entries)))

-- so many entries were read
entries-count : (k : ℕ) (bytes : List ℕ) (es : List RouteEntry) (rest : List ℕ) → entries_front k bytes ≡ Some (es, rest) → length es ≡ k
entries-count zero bytes es rest e = ap (λ (q : List RouteEntry × List ℕ). length q.0) (sym (same_Some ([], bytes) (es, rest) e))
entries-count (suc k) bytes es rest e = by (entry_front bytes) (λ d fs r. entries-count k d fs r) e
  where
    after : (d : RouteEntry) (o : Front (List RouteEntry)) → ((fs : List RouteEntry) (r : List ℕ) → o ≡ Some (fs, r) → length fs ≡ k) → option_map {U = List RouteEntry × List ℕ} (λ (fs : List RouteEntry × List ℕ). (d ∷ fs.0, fs.1)) o ≡ Some (es, rest) → length es ≡ suc k
    after d None h f = cc
    after d (Some fs) h f = ap (λ (q : List RouteEntry × List ℕ). length q.0) (sym (same_Some (d ∷ fs.0, fs.1) (es, rest) f)) ∙ ap (λ n. suc n) (h fs.0 fs.1 refl)

    by : (o : Front RouteEntry) → ((bs : List ℕ) (fs : List RouteEntry) (r : List ℕ) → entries_front k bs ≡ Some (fs, r) → length fs ≡ k) → option_and_then (λ (d : RouteEntry × List ℕ). option_map {U = List RouteEntry × List ℕ} (λ (fs : List RouteEntry × List ℕ). (d.0 ∷ fs.0, fs.1)) (entries_front k d.1)) o ≡ Some (es, rest) → length es ≡ suc k
    by None h f = cc
    by (Some d) h f = after d.0 (entries_front k d.1) (h d.1) f

pub whole-count : (k : ℕ) (bytes : List ℕ) (es : List RouteEntry) → whole (entries_front k bytes) ≡ Some es → length es ≡ k
whole-count k bytes es e = by (entries_front k bytes) refl e
  where
    by : (o : Front (List RouteEntry)) → entries_front k bytes ≡ o → whole o ≡ Some es → length es ≡ k
    by None f g = cc
    by (Some (fs, [])) f g = let same : fs ≡ es = cc in ap length (sym same) ∙ entries-count k bytes fs [] f
    by (Some (fs, x ∷ xs)) f g = cc

all-true : (es : List RouteEntry) → list_all (λ e. true) es ≡ true
all-true [] = refl
all-true (e ∷ es) = all-true es

-- where the numbers and the bytes are by the rules, so is the part
pub part-by_rules : (h : Head) (back bytes : List ℕ) (count : ℕ) → h.epoch < 2 ^ 32 → h.mapper < 2 ^ 16 → h.dst < 2 ^ 16 → length back ≤ 64 → is_ruled h count ≡ true → rise_from None count bytes ≡ true → ruled (part_viewed h back count bytes) ≡ part_viewed h back count bytes
part-by_rules h back bytes count a b c few rules rise = by (turns_of back) (whole (entries_front count bytes)) refl refl
  where
    by : (o : Option (List ℤ)) (p : Option (List RouteEntry)) → turns_of back ≡ o → whole (entries_front count bytes) ≡ p → ruled (part_with h o p) ≡ part_with h o p
    by None p t w = refl
    by (Some walk) None t w = refl
    by (Some walk) (Some es) t w =
        let n : length es ≡ count = whole-count count bytes es w in
        let risen : (list_all (λ e. true) es && are_entries es) ≡ true = sym (ap (are_risen None) w) ∙ rise in
        let entries : are_entries es ≡ true = (and_parts (list_all (λ e. true) es) (are_entries es) risen).1 in
        let route : is_route walk ≡ true = read-route back walk few t in
        let x : nat_lt h.epoch (2 ^ 32) ≡ true = grind (arith, nat_tests) in
        let y : nat_lt h.mapper (2 ^ 16) ≡ true = grind (arith, nat_tests) in
        let z : nat_lt h.dst (2 ^ 16) ≡ true = grind (arith, nat_tests) in
        let r3 = and_parts (nat_lt h.part h.parts && nat_le h.parts 16 && nat_le 1 count) (nat_le count 8) rules in
        let r2 = and_parts (nat_lt h.part h.parts && nat_le h.parts 16) (nat_le 1 count) r3.0 in
        let r1 = and_parts (nat_lt h.part h.parts) (nat_le h.parts 16) r2.0 in
        let low : nat_le 1 (length es) ≡ true = ap (nat_le 1) n ∙ r2.1 in
        let high : nat_le (length es) 8 ≡ true = ap (λ m. nat_le m 8) n ∙ r3.1 in
        rw (x, y, z, r1.0, r1.1, route, low, high, entries) refl

-- else there is none
pub part-not_ruled : (h : Head) (back bytes : List ℕ) (count : ℕ) → is_ruled h count ≡ false → ruled (part_viewed h back count bytes) ≡ None
part-not_ruled h back bytes count rules = by (turns_of back) (whole (entries_front count bytes)) refl
  where
    off : (m : RoutePart) → is_part m ≡ false → ruled (Some m) ≡ None
    off m e = ap (λ t. if t then Some m else None) e

    by : (o : Option (List ℤ)) (p : Option (List RouteEntry)) → whole (entries_front count bytes) ≡ p → ruled (part_with h o p) ≡ None
    by None p w = refl
    by (Some walk) None w = refl
    by (Some walk) (Some es) w =
        let n : length es ≡ count = whole-count count bytes es w in
        let here : (nat_lt h.part h.parts && nat_le h.parts 16 && nat_le 1 (length es) && nat_le (length es) 8) ≡ false = ap (λ m. nat_lt h.part h.parts && nat_le h.parts 16 && nat_le 1 m && nat_le m 8) n ∙ rules in
        off (record { epoch = h.epoch; mapper = h.mapper; dst = h.dst; part = h.part; parts = h.parts; back = walk; entries = es })
        (all-false (nat_lt h.epoch (2 ^ 32)) (nat_lt h.mapper (2 ^ 16)) (nat_lt h.dst (2 ^ 16)) (nat_lt h.part h.parts) (nat_le h.parts 16) (is_route walk) (nat_le 1 (length es)) (nat_le (length es) 8) (are_entries es) here)
      where
        end : (d e f g h i : Bool) → (d && e && g && h) ≡ false → (d && e && f && g && h && i) ≡ false
        end false e f g h i r = refl
        end true false f g h i r = refl
        end true true false g h i r = refl
        end true true true false h i r = refl
        end true true true true false i r = refl
        end true true true true true i r = cc

        all-false : (a b c d e f g h i : Bool) → (d && e && g && h) ≡ false → (a && b && c && d && e && f && g && h && i) ≡ false
        all-false false b c d e f g h i r = refl
        all-false true false c d e f g h i r = refl
        all-false true true false d e f g h i r = refl
        all-false true true true d e f g h i r = end d e f g h i r

pub part-not_risen : (h : Head) (back bytes : List ℕ) (count : ℕ) → rise_from None count bytes ≡ false → ruled (part_viewed h back count bytes) ≡ None
part-not_risen h back bytes count rise = by (turns_of back) (whole (entries_front count bytes)) refl
  where
    off : (m : RoutePart) → is_part m ≡ false → ruled (Some m) ≡ None
    off m e = ap (λ t. if t then Some m else None) e

    behind : (b : Bool) → (b && false) ≡ false
    behind true = refl
    behind false = refl

    by : (o : Option (List ℤ)) (p : Option (List RouteEntry)) → whole (entries_front count bytes) ≡ p → ruled (part_with h o p) ≡ None
    by None p w = refl
    by (Some walk) None w = refl
    by (Some walk) (Some es) w =
        let risen : (list_all (λ e. true) es && are_entries es) ≡ false = sym (ap (are_risen None) w) ∙ rise in
        let none : are_entries es ≡ false = sym (ap (λ b. b && are_entries es) (all-true es)) ∙ risen in
        off (record { epoch = h.epoch; mapper = h.mapper; dst = h.dst; part = h.part; parts = h.parts; back = walk; entries = es })
        (rw none (behind (nat_lt h.epoch (2 ^ 32) && nat_lt h.mapper (2 ^ 16) && nat_lt h.dst (2 ^ 16) && nat_lt h.part h.parts && nat_le h.parts 16 && is_route walk && nat_le 1 (length es) && nat_le (length es) 8)))

pub byte-front : (bytes rest : List ℕ) (byte : ℕ) → Some (byte, rest) ≡ byte_front bytes → bytes ≡ byte ∷ rest
byte-front [] rest byte e = cc
byte-front (b ∷ bs) rest byte e = let same = same_Some (byte, rest) (b, bs) e in λ i. (sym same i).0 ∷ (sym same i).1

-- a body that begins with these numbers
pub part-numbered : (bytes rest behind : List ℕ) (h : Head) → Some (4, rest) ≡ byte_front bytes → Some (h, behind) ≡ numbers_front rest → part_in bytes ≡ part_behind h behind
part-numbered bytes rest behind h e f =
    ap part_in (byte-front bytes rest 4 e) ∙ part-read rest ∙ ap (option_and_then (λ (x : Head × List ℕ). part_behind x.0 x.1)) (sym f)

-- what a body says, where it says a part
pub part-said : (o : Option MappingBody) (p : RoutePart) → of_part o ≡ Some p → o ≡ Some (Part p)
part-said None p e = cc
part-said (Some (HostProbe a b c)) p e = cc
part-said (Some (HostReply a b)) p e = cc
part-said (Some (Loopback a b)) p e = cc
part-said (Some (Part q)) p e = cc
part-said (Some (PartAck a b c)) p e = cc

-- bytes that are a part, and bytes that are none
pub part-there : (h : Head) (back bytes : List ℕ) (count : ℕ) → (is_some (turns_of back) && rise_from None count bytes) ≡ true → missing (part_viewed h back count bytes) ≡ None
part-there h back bytes count both = by (turns_of back) (whole (entries_front count bytes)) both
  where
    by : (o : Option (List ℤ)) (p : Option (List RouteEntry)) → (is_some o && are_risen None p) ≡ true → missing (part_with h o p) ≡ None
    by None p t = cc
    by (Some walk) None t = cc
    by (Some walk) (Some es) t = refl

pub part-not_there : (h : Head) (back bytes : List ℕ) (count : ℕ) → (is_some (turns_of back) && rise_from None count bytes) ≡ false → ruled (part_viewed h back count bytes) ≡ None
part-not_there h back bytes count both = by (turns_of back) refl both
  where
    by : (o : Option (List ℤ)) → turns_of back ≡ o → (is_some o && rise_from None count bytes) ≡ false → ruled (part_viewed h back count bytes) ≡ None
    by None t e = ap (λ o. ruled (part_with h o (whole (entries_front count bytes)))) t
    by (Some walk) t e = part-not_risen h back bytes count e

-- why nothing is read where memory runs out
pub part-refused : (h : Head) (back bytes : List ℕ) (count : ℕ) (f : BodyFault) → ((is_some (turns_of back) && rise_from None count bytes) ≡ true → ruled (part_viewed h back count bytes) ≡ part_viewed h back count bytes) → f ≡ (if is_some (turns_of back) && rise_from None count bytes then NoMemory else Malformed) → (missing (ruled (part_viewed h back count bytes)) ≡ Some f) ⊎ ((missing (ruled (part_viewed h back count bytes)) ≡ None) × (f ≡ NoMemory))
part-refused h back bytes count f rules e = by (is_some (turns_of back) && rise_from None count bytes) refl e
  where
    by : (b : Bool) → (is_some (turns_of back) && rise_from None count bytes) ≡ b → f ≡ (if b then NoMemory else Malformed) → (missing (ruled (part_viewed h back count bytes)) ≡ Some f) ⊎ ((missing (ruled (part_viewed h back count bytes)) ≡ None) × (f ≡ NoMemory))
    by true t g = inr (ap missing (rules t) ∙ part-there h back bytes count t, g)
    by false t g = inl (ap missing (part-not_there h back bytes count t) ∙ ap Some (sym g))

-- what is read is by the rules
pub behind-ruled : (h : Head) (bytes : List ℕ) (p : RoutePart) → part_behind h bytes ≡ Some p → is_part p ≡ true
behind-ruled h bytes p e = by (whole (with_back (part_of h) bytes)) e
  where
    each : (q : RoutePart) (b : Bool) → is_part q ≡ b → (if b then Some q else None) ≡ Some p → is_part p ≡ true
    each q true r e = ap is_part (sym (same_Some q p e)) ∙ r
    each q false r e = cc

    by : (o : Option RoutePart) → ruled o ≡ Some p → is_part p ≡ true
    by None e = cc
    by (Some q) e = each q (is_part q) refl e

-- a part that was read, if one was
pub read-said : (r : Result RoutePart BodyFault) (bytes behind : List ℕ) (h : Head) → part_in bytes ≡ part_behind h behind → IfOk r (λ p. part_behind h behind ≡ Some p) → IfOk r (λ p. decode_mapping bytes ≡ Some (Part p))
read-said (Ok p) bytes behind h e ok = part-said (decode_mapping bytes) p (e ∙ ok)
read-said (Err f) bytes behind h e ok = tt
