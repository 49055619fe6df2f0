-- A way back that is written turn after turn, and the heads of probes piece after piece.
use Rattle.std.proofs.Common.{◌≡◌, ◌<◌, ◌+◌, ◌-◌, ◌*◌, ℕ, List, [], ◌∷◌, ◌++◌, take, map, set, get_or, length, append_assoc, sym, ap, ◌∙◌, arith}
use Rattle.std.specs.Prelude.{ℤ, pos, neg_ℤ, reverse}
use Rattle.std.proofs.lemmas.List.{take_more, take_more_set, get_or-map, get_or-reverse, length-map, length-reverse, map-append}
use Rattle.std.proofs.lemmas.Bool.Decides.{nat_tests}
use Rattle.std.proofs.lemmas.Int.{ints, to_z-of_z}
use mir.Syntax.{w8}
use mir.Val.{to_z, of_z, SFits}
use Rattle.net_defs.specs.Turn.{IsTurn}
use Rattle.packet_defs.specs.declared.kind.Kind.TheVariants.{Mapping}
use Rattle.packet_defs.specs.RouteByte.{route_byte}
use Rattle.packet_defs.specs.Packet.{head_of}
use Rattle.world_defs.specs.Node.{way_back}

pub opposite_turn : (turn result : ℤ) → IsTurn turn → result ≡ neg_ℤ turn → IsTurn result
opposite_turn turn result h e = grind (arith, ints, nat_tests)

-- a turn is kept in eight bits
pub turn-kept : (turn : ℤ) → IsTurn turn → to_z w8 (of_z w8 turn) ≡ turn
turn-kept turn h = to_z-of_z w8 turn (fits turn h)
  where
    fits : (t : ℤ) → IsTurn t → SFits w8 t
    fits t e = grind (arith, ints, nat_tests)

pub way-length : (turns : List ℤ) → length (way_back turns) ≡ length turns
way-length turns = length-map (reverse turns) neg_ℤ ∙ length-reverse turns

-- the route byte of one turn more of the way back
pub way-written : (bytes : List ℕ) (turns : List ℤ) (place put : ℕ) (turn : ℤ) → place < length bytes → place < length turns → put ≡ route_byte turn → turn ≡ neg_ℤ (get_or turns (length turns - 1 - place) (pos 0))
    → take place bytes ≡ take place (map route_byte (way_back turns)) → take (place + 1) (set bytes place put) ≡ take (place + 1) (map route_byte (way_back turns))
way-written bytes turns place put turn room low same is before =
    let way = way_back turns in
    let long : place < length (reverse turns) = omega (arith, low, length-reverse turns) in
    let far : place < length way = omega (arith, low, way-length turns) in
    let end : place < length (map route_byte way) = omega (arith, far, length-map way route_byte) in
    let here : turn ≡ get_or way place (pos 0) = is ∙ ap neg_ℤ (sym (get_or-reverse turns place (pos 0) low)) ∙ sym (get_or-map neg_ℤ (reverse turns) place (pos 0) (pos 0) long) in
    take_more_set bytes place put room
    ∙ ap (λ l. l ++ put ∷ []) before
    ∙ ap (λ x. take place (map route_byte way) ++ x ∷ []) (same ∙ ap route_byte here ∙ sym (get_or-map route_byte way place (pos 0) 0 far))
    ∙ sym (take_more (map route_byte way) place 0 end)

pub way-bytes-length : (turns : List ℤ) → length (map route_byte (way_back turns)) ≡ length turns
way-bytes-length turns = length-map (way_back turns) route_byte ∙ way-length turns

-- what is written piece after piece is the head of a host probe
pub host-laid : (turns back : List ℤ) (front body one two three four : List ℕ) (n : ℕ) → take (0 + n) one ≡ map route_byte turns → take (n + 2) two ≡ take n one ++ 0 ∷ 5 ∷ []
    → take (n + 2 + 12) three ≡ take (n + 2) two ++ front → take (n + 14 + n) four ≡ take (n + 14) three ++ map route_byte back → front ++ map route_byte back ≡ body
    → take (2 * n + 14) four ≡ head_of turns Mapping body
host-laid turns back front body one two three four n a b c d e =
    let route = map route_byte turns in
    let bytes = map route_byte back in
    let none : n ≡ 0 + n = omega arith in
    let fourteen : n + 14 ≡ n + 2 + 12 = omega arith in
    let all : 2 * n + 14 ≡ n + 14 + n = omega arith in
    let typed : take (n + 2) two ≡ route ++ 0 ∷ 5 ∷ [] = b ∙ ap (λ l. l ++ 0 ∷ 5 ∷ []) (ap (λ k. take k one) none ∙ a) in
    let kind : take (n + 14) three ≡ (route ++ 0 ∷ 5 ∷ []) ++ front = ap (λ k. take k three) fourteen ∙ c ∙ ap (λ l. l ++ front) typed in
    ap (λ k. take k four) all ∙ d ∙ ap (λ l. l ++ bytes) kind
    ∙ append_assoc (route ++ 0 ∷ 5 ∷ []) front bytes
    ∙ append_assoc route (0 ∷ 5 ∷ []) (front ++ bytes)
    ∙ ap (λ l. route ++ 0 ∷ 5 ∷ l) e

-- and that of a probe that returns
pub loop-laid : (turns back : List ℤ) (body one two three four five : List ℕ) (n : ℕ) → take (0 + n) one ≡ map route_byte turns → take (n + 1) two ≡ take n one ++ route_byte (pos 0) ∷ []
    → take (n + 1 + n) three ≡ take (n + 1) two ++ map route_byte back → take (2 * n + 1 + 2) four ≡ take (2 * n + 1) three ++ 0 ∷ 5 ∷ [] → take (2 * n + 3 + 11) five ≡ take (2 * n + 3) four ++ body
    → take (2 * n + 14) five ≡ head_of (turns ++ pos 0 ∷ back) Mapping body
loop-laid turns back body one two three four five n a b c d e =
    let route = map route_byte turns in
    let bytes = map route_byte back in
    let zero_turn = route_byte (pos 0) in
    let none : n ≡ 0 + n = omega arith in
    let there : 2 * n + 1 ≡ n + 1 + n = omega arith in
    let typed : 2 * n + 3 ≡ 2 * n + 1 + 2 = omega arith in
    let all : 2 * n + 14 ≡ 2 * n + 3 + 11 = omega arith in
    let out : take (n + 1) two ≡ route ++ zero_turn ∷ [] = b ∙ ap (λ l. l ++ zero_turn ∷ []) (ap (λ k. take k one) none ∙ a) in
    let home : take (2 * n + 1) three ≡ (route ++ zero_turn ∷ []) ++ bytes = ap (λ k. take k three) there ∙ c ∙ ap (λ l. l ++ bytes) out in
    let kind : take (2 * n + 3) four ≡ ((route ++ zero_turn ∷ []) ++ bytes) ++ 0 ∷ 5 ∷ [] = ap (λ k. take k four) typed ∙ d ∙ ap (λ l. l ++ 0 ∷ 5 ∷ []) home in
    let whole : (route ++ zero_turn ∷ []) ++ bytes ≡ map route_byte (turns ++ pos 0 ∷ back) = append_assoc route (zero_turn ∷ []) bytes ∙ sym (map-append route_byte turns (pos 0 ∷ back)) in
    ap (λ k. take k five) all ∙ e ∙ ap (λ l. l ++ body) kind
    ∙ append_assoc ((route ++ zero_turn ∷ []) ++ bytes) (0 ∷ 5 ∷ []) body
    ∙ ap (λ l. l ++ 0 ∷ 5 ∷ body) whole
