-- A look into the table of hops is the next channel.
use Rattle.std.proofs.Common.{◌≡◌, ◌<◌, ◌≤◌, ◌+◌, ◌-◌, ◌*◌, ⊎_elim, ℕ, zero, suc, true, false, ◌&&◌, nat_le, nat_lt, List, [], ◌∷◌, length, get_or, Option, Some, None, refl, sym, ap, ◌∙◌, arith}
use Rattle.std.specs.Prelude.{ℤ, pos, negsuc, ◌+ℤ◌, ◌-ℤ◌, option_and_then}
use Rattle.std.specs.List.{slice_get}
use Rattle.std.specs.Option.{option_map_or}
use Rattle.std.proofs.lemmas.Bool.{cases_lt}
use Rattle.std.proofs.lemmas.Bool.Decides.{nat_tests}
use Rattle.std.proofs.lemmas.Int.{ints}
use Rattle.net_defs.specs.declared.vertex.Vertex.{Vertex}
use Rattle.net_defs.specs.declared.vertex.Vertex.TheVariants.{Host, Switch}
use Rattle.net_defs.specs.declared.vertex.End.{End}
use Rattle.net_defs.specs.Network.{NamedSwitch, IsFabric, has_port}
use Rattle.world_defs.specs.History.{CableHistory, fabric_now}
use Rattle.world_defs.specs.Crossed.{leaving, life_head}
use Rattle.packet_defs.specs.RouteByte.{turn_of}
use Rattle.port_graph.specs.Table.{is_possible}
use Rattle.port_graph.proofs.Possible.{has_port-possible}
use Rattle.fabric_wiring.specs.Hops.{IsHopTable, turned_from, next_channel, hops_from}
use Rattle.fabric_wiring.specs.Tables.{IsPortTable}
use Rattle.fabric_wiring.proofs.Turned.{turned-by, turned-none, leaving-is, leaving-past, leaving-below}

-- ---- a byte
above : (i : ℕ) → i < 16 → turn_of (128 + i) ≡ Some (pos i)
above i low =
    let first : nat_le 128 (128 + i) ≡ true = grind (arith, nat_tests) in
    let second : nat_le (128 + i) 143 ≡ true = grind (arith, nat_tests) in
    let same : pos (128 + i) -ℤ pos 128 ≡ pos i = omega (arith, ints) in
    rw (first, second, same) refl

between : (i : ℕ) → 16 ≤ i → i < 49 → turn_of (128 + i) ≡ None
between i high low =
    let first : nat_le (128 + i) 143 ≡ false = grind (arith, nat_tests) in
    let second : nat_le 177 (128 + i) ≡ false = grind (arith, nat_tests) in
    let any : nat_le 128 (128 + i) ≡ true = grind (arith, nat_tests) in
    rw (any, first, second) refl

below : (i : ℕ) → 49 ≤ i → i < 64 → turn_of (128 + i) ≡ Some (pos (128 + i) -ℤ pos 192)
below i high low =
    let first : nat_le (128 + i) 143 ≡ false = grind (arith, nat_tests) in
    let second : nat_le 177 (128 + i) ≡ true = grind (arith, nat_tests) in
    let third : nat_le (128 + i) 191 ≡ true = grind (arith, nat_tests) in
    let any : nat_le 128 (128 + i) ≡ true = grind (arith, nat_tests) in
    rw (any, first, second, third) refl

-- ---- a hop at a switch
module _ (h : CableHistory) (out hops : List (Option ℕ)) (s p : ℕ) (f : IsFabric (fabric_now h)) (table : IsPortTable h.wires out) (jumps : IsHopTable out (length h.switches) hops) (there : has_port (fabric_now h) (record { v = Switch s; p = p }) ≡ true) (here : s < length h.switches) where
  abbrev end : End
  end = record { v = Switch s; p = p }

  possible : is_possible end ≡ true
  possible = has_port-possible (fabric_now h) end f there

  few : s < 64
  few = let two : (nat_lt s 64 && nat_lt p 16) ≡ true = possible in grind (arith, nat_tests)

  pub small : p < 16
  small = let two : (nat_lt s 64 && nat_lt p 16) ≡ true = possible in grind (arith, nat_tests)

  by_port : (port : ℕ) → port < 16 → get_or out (128 + 16 * s + port) None ≡ leaving h (record { v = Switch s; p = port })
  by_port port low =
      let may : is_possible (record { v = Switch s; p = port }) ≡ true = let a = few in let two : (nat_lt s 64 && nat_lt port 16) ≡ true = grind (arith, nat_tests) in two in
      table.channels (record { v = Switch s; p = port }) may

  hop-above : (i : ℕ) → i < 16 → get_or hops (80 * s + (p + i)) None ≡ turned_from h end (pos i)
  hop-above i low = ⊎_elim there_is past (cases_lt (p + i) 16)
    where
      there_is : p + i < 16 → get_or hops (80 * s + (p + i)) None ≡ turned_from h end (pos i)
      there_is less =
          jumps.first s (p + i) here less ∙ by_port (p + i) less ∙ sym (turned-by h s p (p + i) (pos i) f (leaving-is p (p + i) (pos i) (omega (arith, ints)) less))

      past : 16 ≤ p + i → get_or hops (80 * s + (p + i)) None ≡ turned_from h end (pos i)
      past more =
          let a = small in
          jumps.gap s (p + i) here more (omega (arith, a, low)) ∙ sym (turned-none h s p (pos i) f (leaving-past p (p + i) (pos i) (omega (arith, ints)) more))

  hop-below : (i : ℕ) → 49 ≤ i → i < 64 → get_or hops (80 * s + (p + i)) None ≡ turned_from h end (pos (128 + i) -ℤ pos 192)
  hop-below i high low = ⊎_elim before there_is (cases_lt (p + i) 64)
    where
      turn : ℤ
      turn = pos (128 + i) -ℤ pos 192

      before : p + i < 64 → get_or hops (80 * s + (p + i)) None ≡ turned_from h end (pos (128 + i) -ℤ pos 192)
      before less =
          let sum : pos p +ℤ (pos (128 + i) -ℤ pos 192) ≡ negsuc (63 - (p + i)) = omega (arith, ints, less) in
          jumps.gap s (p + i) here (omega (arith, high)) less ∙ sym (turned-none h s p turn f (leaving-below p (63 - (p + i)) turn sum))

      there_is : 64 ≤ p + i → get_or hops (80 * s + (p + i)) None ≡ turned_from h end (pos (128 + i) -ℤ pos 192)
      there_is more =
          let a = small in
          let sum : pos p +ℤ (pos (128 + i) -ℤ pos 192) ≡ pos ((p + i) - 64) = omega (arith, ints, more) in
          let less : (p + i) - 64 < 16 = omega (arith, a, low) in
          let at : 80 * s + (p + i) ≡ 80 * s + ((p + i) - 64) + 64 = omega (arith, more) in
          ap (λ j. get_or hops j None) at ∙ jumps.second s ((p + i) - 64) here less ∙ by_port ((p + i) - 64) less ∙ sym (turned-by h s p ((p + i) - 64) turn f (leaving-is p ((p + i) - 64) turn sum less))

  pub hop-at : (i : ℕ) → i < 64 → get_or hops (80 * s + (p + i)) None ≡ option_and_then (turned_from h end) (turn_of (128 + i))
  hop-at i low = ⊎_elim first later (cases_lt i 16)
    where
      first : i < 16 → get_or hops (80 * s + (p + i)) None ≡ option_and_then (turned_from h end) (turn_of (128 + i))
      first less = hop-above i less ∙ sym (ap (option_and_then (turned_from h end)) (above i less))

      last : 49 ≤ i → get_or hops (80 * s + (p + i)) None ≡ option_and_then (turned_from h end) (turn_of (128 + i))
      last more = hop-below i more low ∙ sym (ap (option_and_then (turned_from h end)) (below i more low))

      later : 16 ≤ i → get_or hops (80 * s + (p + i)) None ≡ option_and_then (turned_from h end) (turn_of (128 + i))
      later high = ⊎_elim gap last (cases_lt i 49)
        where
          gap : i < 49 → get_or hops (80 * s + (p + i)) None ≡ option_and_then (turned_from h end) (turn_of (128 + i))
          gap less =
              let a = small in
              jumps.gap s (p + i) here (omega (arith, high)) (omega (arith, a, less)) ∙ sym (ap (option_and_then (turned_from h end)) (between i high less))

-- a switch that has a port is one of the fabric
pub switch-there : (ws : List NamedSwitch) (s p : ℕ) → nat_lt p (option_map_or (λ w. w.ports) (slice_get ws s) 0) ≡ true → s < length ws
switch-there [] s p h = absurd (grind (arith, nat_tests))
switch-there (w ∷ ws) zero p h = omega arith
switch-there (w ∷ ws) (suc s) p h = let k : s < length ws = switch-there ws s p h in omega (arith, k)

-- ---- a hop from any end
nothing : (h : CableHistory) (a p : ℕ) (o : Option ℤ) → option_and_then (turned_from h (record { v = Host a; p = p })) o ≡ None
nothing h a p None = refl
nothing h a p (Some turn) = refl

from-vertex : (h : CableHistory) (v : Vertex) (p : ℕ) (out hops : List (Option ℕ)) (i : ℕ) → IsFabric (fabric_now h) → IsPortTable h.wires out → IsHopTable out (length h.switches) hops → has_port (fabric_now h) (record { v = v; p = p }) ≡ true → i < 64
    → get_or hops (hops_from (length h.switches) v p + i) None ≡ option_and_then (turned_from h (record { v = v; p = p })) (turn_of (128 + i))
from-vertex h (Host a) p out hops i f table jumps there low = jumps.last i low ∙ sym (nothing h a p (turn_of (128 + i)))
from-vertex h (Switch s) p out hops i f table jumps there low =
    let here : s < length h.switches = switch-there h.switches s p there in
    let place : (80 * s + p) + i ≡ 80 * s + (p + i) = omega arith in
    ap (λ j. get_or hops j None) place ∙ hop-at h out hops s p f table jumps there here i low

pub hop-is : (h : CableHistory) (e : End) (out hops : List (Option ℕ)) (byte base : ℕ) → IsFabric (fabric_now h) → IsPortTable h.wires out → IsHopTable out (length h.switches) hops → has_port (fabric_now h) e ≡ true → base ≡ hops_from (length h.switches) e.v e.p
    → 128 ≤ byte → byte < 192 → get_or hops (base + (byte - 128)) None ≡ option_and_then (turned_from h e) (turn_of byte)
hop-is h e out hops byte base f table jumps there from high low =
    let back : 128 + (byte - 128) ≡ byte = omega (arith, high) in
    ap (λ b. get_or hops (b + (byte - 128)) None) from
    ∙ from-vertex h e.v e.p out hops (byte - 128) f table jumps there (omega (arith, high, low))
    ∙ ap (λ b. option_and_then (turned_from h e) (turn_of b)) back

place-low : (h : CableHistory) (v : Vertex) (p i : ℕ) → IsFabric (fabric_now h) → has_port (fabric_now h) (record { v = v; p = p }) ≡ true → i < 64 → hops_from (length h.switches) v p + i < 80 * length h.switches + 64
place-low h (Host a) p i f there low = omega (arith, low)
place-low h (Switch s) p i f there low =
    let here : s < length h.switches = switch-there h.switches s p there in
    let two : (nat_lt s 64 && nat_lt p 16) ≡ true = has_port-possible (fabric_now h) (record { v = Switch s; p = p }) f there in
    let port : p < 16 = grind (arith, nat_tests) in
    omega (arith, here, port, low)

pub hop-low : (h : CableHistory) (e : End) (out hops : List (Option ℕ)) (byte base : ℕ) → IsFabric (fabric_now h) → IsHopTable out (length h.switches) hops → has_port (fabric_now h) e ≡ true → base ≡ hops_from (length h.switches) e.v e.p
    → 128 ≤ byte → byte < 192 → base + (byte - 128) < length hops
hop-low h e out hops byte base f jumps there from high low =
    let size = jumps.size in
    let place = place-low h e.v e.p (byte - 128) f there (omega (arith, high, low)) in
    omega (arith, size, place, from)

-- the next channel by the end that a channel enters
pub hopped : (h : CableHistory) (c : ℕ) (e : End) (byte : ℕ) → life_head h c ≡ Some e → next_channel h c byte ≡ option_and_then (turned_from h e) (turn_of byte)
hopped h c e byte head = ap (option_and_then (λ d. option_and_then (turned_from h d) (turn_of byte))) head

-- by a byte that is no route byte there is none
pub hopped-none : (h : CableHistory) (c byte : ℕ) → turn_of byte ≡ None → next_channel h c byte ≡ None
hopped-none h c byte without = by (life_head h c)
  where
    by : (o : Option End) → option_and_then (λ e. option_and_then (turned_from h e) (turn_of byte)) o ≡ None
    by None = refl
    by (Some e) = ap (option_and_then (turned_from h e)) without
