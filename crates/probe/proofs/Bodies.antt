-- Bodies of probes: what decoding them answers, by the parts that are read one after another.
use Rattle.std.proofs.Common.{◌≡◌, ◌≢◌, ◌<◌, ◌≤◌, ◌-◌, ◌^◌, ℕ, suc, List, [], ◌∷◌, ◌++◌, Bool, true, false, ◌&&◌, length, map, take, drop, nat_eq, nat_le, nat_lt, Option, Some, None, option_map, refl, ap, sym, ◌∙◌, true≢false, arith, if◌then◌else◌}
use Rattle.std.specs.Prelude.{ℤ, option_and_then}
use Rattle.std.specs.List.{list_all}
use Rattle.std.specs.Int.{w16, w32, w64, to_be_bytes}
use Rattle.std.proofs.lemmas.Bool.{and_parts}
use Rattle.std.proofs.lemmas.Bool.Decides.{nat_tests}
use Rattle.std.proofs.lemmas.List.{take_all, drop_all, length-drop}
use Rattle.std.proofs.lemmas.Nat.{from_be_bytes-to_be_bytes_2, from_be_bytes-to_be_bytes_8}
use Rattle.net_defs.specs.Turn.{is_turn}
use Rattle.packet_defs.specs.RouteByte.{route_byte, turns_of}
use Rattle.packet_defs.proofs.RouteBytes.{turn_of-route_byte}
use Rattle.packet_defs.proofs.Reading.{turns_of-turns}
use Rattle.world_defs.specs.Mapping.{MappingBody, RoutePart, Front, number_front, two_front, byte_front, route_front, whole, probe_front, part_front, ack_front, by_the_rules, is_mapping, is_route, decode_mapping, mapping_bytes, route_bytes}
use Rattle.world_defs.specs.Mapping.MappingBody.{HostProbe, HostReply, Loopback, Part, PartAck}
use Rattle.probe.specs.Body.{of_probe, probe_in, missing}

-- a value that is read whole, changed
whole-map : {A B : Type 0} (f : A → B) (o : Front A) → whole (option_map (λ p. (f p.0, p.1)) o) ≡ option_map f (whole o)
whole-map f None = refl
whole-map f (Some (a, [])) = refl
whole-map f (Some (a, byte ∷ bytes)) = refl

-- a route that is all of the bytes: its number of turns, and their bytes
pub whole_route-cons : (n : ℕ) (rest : List ℕ) → n ≡ length rest → n ≤ 64 → whole (route_front (n ∷ rest)) ≡ turns_of rest
whole_route-cons n rest e few = by (nat_le n 64 && nat_le n (length rest)) (grind (arith, nat_tests))
  where
    back : (o : Option (List ℤ)) → whole (option_map (λ turns. (turns, [])) o) ≡ o
    back None = refl
    back (Some ts) = refl

    by : (b : Bool) → b ≡ true → whole (if b then option_map (λ turns. (turns, drop n rest)) (turns_of (take n rest)) else None) ≡ turns_of rest
    by true p =
        let t : take n rest ≡ rest = take_all n rest (omega arith) in
        let d : drop n rest ≡ [] = drop_all n rest (omega arith) in
        (λ i. whole (option_map (λ turns. (turns, d i)) (turns_of (t i)))) ∙ back (turns_of rest)
    by false p = absurd (true≢false (sym p))

pub whole_route-long : (n : ℕ) (rest : List ℕ) → 64 < n → whole (route_front (n ∷ rest)) ≡ None
whole_route-long n rest h = by (nat_le n 64 && nat_le n (length rest)) (grind (arith, nat_tests))
  where
    by : (b : Bool) → b ≡ false → whole (if b then option_map (λ turns. (turns, drop n rest)) (turns_of (take n rest)) else None) ≡ None
    by true p = absurd (true≢false p)
    by false p = refl

short : (n l d : ℕ) → n ≢ l → (nat_le n 64 && nat_le n l) ≡ true → d ≡ l - n → d ≡ 0 → ⊥
short n l d h p e z =
    let below : n ≤ l = grind (arith, nat_tests) in
    omega arith

pub whole_route-apart : (n : ℕ) (rest : List ℕ) → n ≢ length rest → whole (route_front (n ∷ rest)) ≡ None
whole_route-apart n rest h = by (nat_le n 64 && nat_le n (length rest)) refl (drop n rest) refl
  where
    left : (o : Option (List ℤ)) (b : ℕ) (bs : List ℕ) → whole (option_map (λ turns. (turns, b ∷ bs)) o) ≡ None
    left None b bs = refl
    left (Some ts) b bs = refl

    by : (b : Bool) → (nat_le n 64 && nat_le n (length rest)) ≡ b → (d : List ℕ) → drop n rest ≡ d → whole (if b then option_map (λ turns. (turns, d)) (turns_of (take n rest)) else None) ≡ None
    by true p [] q = absurd (short n (length rest) (length (drop n rest)) h p (length-drop n rest) (ap length q))
    by true p (b ∷ bs) q = left (turns_of (take n rest)) b bs
    by false p d q = refl

-- a route that was read is one
route-cons : (n : ℕ) (rest : List ℕ) (back : List ℤ) → whole (route_front (n ∷ rest)) ≡ Some back → is_route back ≡ true
route-cons n rest back e = by (nat_eq n (length rest)) (nat_le n 64) refl refl
  where
    by : (b c : Bool) → nat_eq n (length rest) ≡ b → nat_le n 64 ≡ c → is_route back ≡ true
    by true true p q =
        let same : n ≡ length rest = grind (arith, nat_tests) in
        let few : n ≤ 64 = grind (arith, nat_tests) in
        let turns = turns_of-turns rest back (sym (whole_route-cons n rest same few) ∙ e) in
        let count : length back ≡ length rest = turns.1 in
        let short : nat_le (length back) 64 ≡ true = grind (arith, nat_tests) in
        rw short turns.0
    by true false p q = let none = whole_route-long n rest (grind (arith, nat_tests)) in cc
    by false c p q = let none = whole_route-apart n rest (grind (arith, nat_tests)) in cc

pub route-is_route : (bytes : List ℕ) (back : List ℤ) → whole (route_front bytes) ≡ Some back → is_route back ≡ true
route-is_route [] back e = cc
route-is_route (n ∷ rest) back e = route-cons n rest back e

-- a body by the rules is itself
ruled : (b : MappingBody) → is_mapping b ≡ true → by_the_rules (Some b) ≡ Some b
ruled b e = ap (λ t. if t then Some b else None) e

in_range : (n k : ℕ) → n < k → nat_lt n k ≡ true
in_range n k h = grind (arith, nat_tests)

-- what is read of a host probe
probe-decoded : (bytes rest : List ℕ) (n m : ℕ) (back : List ℤ) → two_front w64 8 bytes ≡ Some ((n, m), rest) → n < 2 ^ 64 → m < 2 ^ 16 → whole (route_front rest) ≡ Some back → decode_mapping (1 ∷ bytes) ≡ Some (HostProbe n m back)
probe-decoded bytes rest n m back two k l route =
    let front : probe_front bytes ≡ option_map (λ p. (HostProbe n m p.0, p.1)) (route_front rest) = ap (option_and_then (λ (t : (ℕ × ℕ) × List ℕ). option_map (λ (p : List ℤ × List ℕ). (HostProbe t.0.0 t.0.1 p.0, p.1)) (route_front t.1))) two in
    let said : whole (probe_front bytes) ≡ Some (HostProbe n m back) = ap whole front ∙ whole-map (HostProbe n m) (route_front rest) ∙ ap (option_map (HostProbe n m)) route in
    let rules : is_mapping (HostProbe n m back) ≡ true = rw (in_range n (2 ^ 64) k, in_range m (2 ^ 16) l) (route-is_route rest back route) in
    ap by_the_rules said ∙ ruled (HostProbe n m back) rules

pub probe-read : (bytes rest : List ℕ) (n m : ℕ) (back : List ℤ) → two_front w64 8 bytes ≡ Some ((n, m), rest) → n < 2 ^ 64 → m < 2 ^ 16 → whole (route_front rest) ≡ Some back → probe_in (1 ∷ bytes) ≡ Some (HostProbe n m back)
probe-read bytes rest n m back two k l route = ap of_probe (probe-decoded bytes rest n m back two k l route)

pub probe-none : (bytes : List ℕ) → two_front w64 8 bytes ≡ None → probe_in (1 ∷ bytes) ≡ None
probe-none bytes e = ap (λ (o : Front (ℕ × ℕ)). of_probe (by_the_rules (whole (option_and_then (λ (t : (ℕ × ℕ) × List ℕ). option_map (λ (p : List ℤ × List ℕ). (HostProbe t.0.0 t.0.1 p.0, p.1)) (route_front t.1)) o)))) e

pub probe-no_route : (bytes rest : List ℕ) (n m : ℕ) → two_front w64 8 bytes ≡ Some ((n, m), rest) → whole (route_front rest) ≡ None → probe_in (1 ∷ bytes) ≡ None
probe-no_route bytes rest n m two route =
    let front : probe_front bytes ≡ option_map (λ p. (HostProbe n m p.0, p.1)) (route_front rest) = ap (option_and_then (λ (t : (ℕ × ℕ) × List ℕ). option_map (λ (p : List ℤ × List ℕ). (HostProbe t.0.0 t.0.1 p.0, p.1)) (route_front t.1))) two in
    ap (λ o. of_probe (by_the_rules o)) (ap whole front ∙ whole-map (HostProbe n m) (route_front rest) ∙ ap (option_map (HostProbe n m)) route)

-- of a reply and of a loopback probe
pub reply-read : (bytes : List ℕ) (n m : ℕ) → whole (two_front w64 8 bytes) ≡ Some (n, m) → n < 2 ^ 64 → m < 2 ^ 16 → probe_in (2 ∷ bytes) ≡ Some (HostReply n m)
reply-read bytes n m two k l =
    let rules : is_mapping (HostReply n m) ≡ true = rw (in_range n (2 ^ 64) k) (in_range m (2 ^ 16) l) in
    ap (λ o. of_probe (by_the_rules o)) (whole-map (λ (t : ℕ × ℕ). HostReply t.0 t.1) (two_front w64 8 bytes) ∙ ap (option_map (λ (t : ℕ × ℕ). HostReply t.0 t.1)) two) ∙ ap of_probe (ruled (HostReply n m) rules)

pub reply-none : (bytes : List ℕ) → whole (two_front w64 8 bytes) ≡ None → probe_in (2 ∷ bytes) ≡ None
reply-none bytes two = ap (λ o. of_probe (by_the_rules o)) (whole-map (λ (t : ℕ × ℕ). HostReply t.0 t.1) (two_front w64 8 bytes) ∙ ap (option_map (λ (t : ℕ × ℕ). HostReply t.0 t.1)) two)

pub loop-read : (bytes : List ℕ) (n m : ℕ) → whole (two_front w64 8 bytes) ≡ Some (n, m) → n < 2 ^ 64 → m < 2 ^ 16 → probe_in (3 ∷ bytes) ≡ Some (Loopback n m)
loop-read bytes n m two k l =
    let rules : is_mapping (Loopback n m) ≡ true = rw (in_range n (2 ^ 64) k) (in_range m (2 ^ 16) l) in
    ap (λ o. of_probe (by_the_rules o)) (whole-map (λ (t : ℕ × ℕ). Loopback t.0 t.1) (two_front w64 8 bytes) ∙ ap (option_map (λ (t : ℕ × ℕ). Loopback t.0 t.1)) two) ∙ ap of_probe (ruled (Loopback n m) rules)

pub loop-none : (bytes : List ℕ) → whole (two_front w64 8 bytes) ≡ None → probe_in (3 ∷ bytes) ≡ None
loop-none bytes two = ap (λ o. of_probe (by_the_rules o)) (whole-map (λ (t : ℕ × ℕ). Loopback t.0 t.1) (two_front w64 8 bytes) ∙ ap (option_map (λ (t : ℕ × ℕ). Loopback t.0 t.1)) two)

-- bytes of no other kind are read here
pub other-kind : (kind : ℕ) (bytes : List ℕ) → kind ≢ 1 → kind ≢ 2 → kind ≢ 3 → probe_in (kind ∷ bytes) ≡ None
other-kind kind bytes a b c = by (nat_eq kind 1) (nat_eq kind 2) (nat_eq kind 3) (nat_eq kind 4) (nat_eq kind 5) refl refl refl
  where
    part : (o : Front RoutePart) → of_probe (by_the_rules (whole (option_map (λ p. (Part p.0, p.1)) o))) ≡ None
    part None = refl
    part (Some (p, [])) = ruled_out (is_mapping (Part p))
      where
        ruled_out : (t : Bool) → of_probe (if t then Some (Part p) else None) ≡ None
        ruled_out true = refl
        ruled_out false = refl
    part (Some (p, x ∷ xs)) = refl

    ack : (o : Front (ℕ × ℕ)) → of_probe (by_the_rules (whole (option_and_then (λ two. option_map (λ part. (PartAck two.0.0 two.0.1 part.0, part.1)) (byte_front two.1)) o))) ≡ None
    ack None = refl
    ack (Some (two, [])) = refl
    ack (Some (two, p ∷ [])) = ruled_out (is_mapping (PartAck two.0 two.1 p))
      where
        ruled_out : (t : Bool) → of_probe (if t then Some (PartAck two.0 two.1 p) else None) ≡ None
        ruled_out true = refl
        ruled_out false = refl
    ack (Some (two, p ∷ x ∷ xs)) = refl

    by : (d e f g h : Bool) → nat_eq kind 1 ≡ d → nat_eq kind 2 ≡ e → nat_eq kind 3 ≡ f
        → of_probe (by_the_rules (whole (if d then probe_front bytes else if e then option_map (λ two. (HostReply two.0.0 two.0.1, two.1)) (two_front w64 8 bytes) else if f then option_map (λ two. (Loopback two.0.0 two.0.1, two.1)) (two_front w64 8 bytes) else if g then option_map (λ p. (Part p.0, p.1)) (part_front bytes) else if h then ack_front bytes else None))) ≡ None
    by true e f g h p q r = absurd (grind (arith, nat_tests))
    by false true f g h p q r = absurd (grind (arith, nat_tests))
    by false false true g h p q r = absurd (grind (arith, nat_tests))
    by false false false true h p q r = part (part_front bytes)
    by false false false false true p q r = ack (two_front w32 4 bytes)
    by false false false false false p q r = refl

-- numbers that were written
number-written : (n : ℕ) (rest : List ℕ) → n < 2 ^ 64 → number_front w64 8 (to_be_bytes w64 n ++ rest) ≡ Some (n, rest)
number-written n rest h =
    let long : nat_le 8 (length (to_be_bytes w64 n ++ rest)) ≡ true = grind (arith, nat_tests) in
    rw long (ap (λ x. Some (x, rest)) (from_be_bytes-to_be_bytes_8 n h))

host-written : (m : ℕ) (rest : List ℕ) → m < 2 ^ 16 → number_front w16 2 (to_be_bytes w16 m ++ rest) ≡ Some (m, rest)
host-written m rest h =
    let long : nat_le 2 (length (to_be_bytes w16 m ++ rest)) ≡ true = grind (arith, nat_tests) in
    rw long (ap (λ x. Some (x, rest)) (from_be_bytes-to_be_bytes_2 m h))

two-written : (n m : ℕ) (rest : List ℕ) → n < 2 ^ 64 → m < 2 ^ 16 → two_front w64 8 (to_be_bytes w64 n ++ (to_be_bytes w16 m ++ rest)) ≡ Some ((n, m), rest)
two-written n m rest h k =
    ap (option_and_then (λ (p : ℕ × List ℕ). option_map (λ (q : ℕ × List ℕ). ((p.0, q.0), q.1)) (number_front w16 2 p.1))) (number-written n (to_be_bytes w16 m ++ rest) h)
    ∙ ap (option_map (λ (q : ℕ × List ℕ). ((n, q.0), q.1))) (host-written m rest k)

-- turns that were written
turns-written : (turns : List ℤ) → list_all is_turn turns ≡ true → turns_of (map route_byte turns) ≡ Some turns
turns-written [] all = refl
turns-written (t ∷ ts) all =
    let two = and_parts (is_turn t) (list_all is_turn ts) all in
    let rest = turns-written ts two.1 in
    ap (λ o. option_and_then (λ turn. option_map (λ turns. turn ∷ turns) (turns_of (map route_byte ts))) o) (turn_of-route_byte t two.0)
    ∙ ap (option_map (λ turns. t ∷ turns)) rest

length-map-bytes : (turns : List ℤ) → length (map route_byte turns) ≡ length turns
length-map-bytes [] = refl
length-map-bytes (t ∷ ts) = ap (λ n. suc n) (length-map-bytes ts)

route-written : (back : List ℤ) → is_route back ≡ true → whole (route_front (route_bytes back)) ≡ Some back
route-written back e =
    let two = and_parts (nat_le (length back) 64) (list_all is_turn back) e in
    let short : nat_le (length back) 64 ≡ true = two.0 in
    let few : length back ≤ 64 = grind (arith, nat_tests) in
    whole_route-cons (length back) (map route_byte back) (sym (length-map-bytes back)) few ∙ turns-written back two.1

-- a host probe that was written is read as what it is
pub probe-written : (number mapper : ℕ) (back : List ℤ) → number < 2 ^ 64 → mapper < 2 ^ 16 → is_route back ≡ true → decode_mapping (mapping_bytes (HostProbe number mapper back)) ≡ Some (HostProbe number mapper back)
probe-written number mapper back h k e =
    probe-decoded (to_be_bytes w64 number ++ (to_be_bytes w16 mapper ++ route_bytes back)) (route_bytes back) number mapper back (two-written number mapper (route_bytes back) h k) h k (route-written back e)

pub probe-missing : (bytes rest : List ℕ) (n m : ℕ) → two_front w64 8 bytes ≡ Some ((n, m), rest) → n < 2 ^ 64 → m < 2 ^ 16 → missing (probe_in (1 ∷ bytes)) ≡ missing (whole (route_front rest))
probe-missing bytes rest n m two k l = by (whole (route_front rest)) refl
  where
    by : (o : Option (List ℤ)) → whole (route_front rest) ≡ o → missing (probe_in (1 ∷ bytes)) ≡ missing o
    by None e = ap missing (probe-no_route bytes rest n m two e)
    by (Some back) e = ap missing (probe-read bytes rest n m back two k l e)
