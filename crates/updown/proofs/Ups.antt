-- The table of up channels says what the definition says.
use Rattle.std.proofs.Common.{◌≡◌, ◌<◌, ◌≤◌, ◌+◌, ◌*◌, ◌/◌, ◌%◌, ℕ, List, map, length, get_or, Bool, true, false, Option, Some, None, refl, ap, sym, ◌∙◌, arith, if◌then◌else◌, ◌⊎◌, inl, inr}
use Rattle.std.specs.Prelude.{pos, ◌+ℤ◌, ◌-ℤ◌, nat_abs}
use Rattle.std.proofs.lemmas.Bool.{cases_lt}
use Rattle.std.proofs.lemmas.List.{length-map, get_or_past}
use Rattle.net_defs.specs.Turn.{is_turn, IsTurn}
use Rattle.journal_defs.specs.Counting.{numbers_below}
use Rattle.journal_defs.proofs.Members.{all-member, length-numbers}
use Rattle.map_defs.specs.NetMap.{NetMap, MapPort, IsMap, map_far, map_ends}
use Rattle.map_defs.specs.Orientation.{order_of, is_up, falls_to}
use Rattle.map_defs.proofs.Leading.{far-end}
use Rattle.fabric_map.specs.Table.{place_of_port}
use Rattle.fabric_map.proofs.Tables.{shift, far-outside}
use Rattle.updown.specs.Oriented.{Oriented, port_at, orientation_of, up_in}
use Rattle.updown.proofs.Filters.{map-at}

quotient : (v a : ℕ) → a < 31 → (31 * v + a) / 31 ≡ v
quotient v a l = omega arith

remainder : (v a : ℕ) → a < 31 → (31 * v + a) % 31 ≡ a
remainder v a l = omega arith

pub port_at-place : (d : MapPort) → IsTurn d.p → port_at (place_of_port d) ≡ d
port_at-place d t =
    let s = shift d.p t in
    let v : place_of_port d / 31 ≡ d.v = quotient d.v (nat_abs (d.p +ℤ pos 15)) s.0 in
    let p : pos (place_of_port d % 31) -ℤ pos 15 ≡ d.p = ap (λ n. pos n -ℤ pos 15) (remainder d.v (nat_abs (d.p +ℤ pos 15)) s.0) ∙ sym s.1 in
    λ i. record { v = v i; p = p i }

-- a port without cable is not up
uncabled : (m : NetMap) (order : List ℕ) (d : MapPort) → map_far m d ≡ None → is_up m order d ≡ false
uncabled m order d f = ap (falls_to order d.v) f

vertex-outside : (m : NetMap) (d : MapPort) → IsMap m → length m.vertices ≤ d.v → map_far m d ≡ None
vertex-outside m d r l = by (map_far m d) refl
  where
    by : (o : Option MapPort) → map_far m d ≡ o → map_far m d ≡ None
    by None f = f
    by (Some e) f = let low : d.v < length m.vertices = all-member (λ (x : MapPort). x.v < length m.vertices) d (map_ends m.cables) r.cabled_vertices (far-end m.cables d e f) in absurd (omega arith)

pub up-of_map : (m : NetMap) (d : MapPort) → IsMap m → up_in (orientation_of m) d ≡ is_up m (order_of m) d
up-of_map m d r = by (is_turn d.p) refl
  where
    at : IsTurn d.p → (d.v < length m.vertices) ⊎ (length m.vertices ≤ d.v) → get_or (map (λ k. is_up m (order_of m) (port_at k)) (numbers_below (31 * length m.vertices))) (place_of_port d) false ≡ is_up m (order_of m) d
    at t (inl l) =
        let a = (shift d.p t).0 in
        map-at (λ k. is_up m (order_of m) (port_at k)) (31 * length m.vertices) (place_of_port d) false (omega arith) ∙ ap (is_up m (order_of m)) (port_at-place d t)
    at t (inr l) =
        let long : length (map (λ k. is_up m (order_of m) (port_at k)) (numbers_below (31 * length m.vertices))) ≡ 31 * length m.vertices = length-map (numbers_below (31 * length m.vertices)) (λ k. is_up m (order_of m) (port_at k)) ∙ length-numbers (31 * length m.vertices) in
        get_or_past (map (λ k. is_up m (order_of m) (port_at k)) (numbers_below (31 * length m.vertices))) (place_of_port d) false (omega arith) ∙ sym (uncabled m (order_of m) d (vertex-outside m d r l))

    by : (b : Bool) → is_turn d.p ≡ b → (if b then get_or (map (λ k. is_up m (order_of m) (port_at k)) (numbers_below (31 * length m.vertices))) (place_of_port d) false else false) ≡ is_up m (order_of m) d
    by true t = at t (cases_lt d.v (length m.vertices))
    by false t = sym (uncabled m (order_of m) d (far-outside m.cables d r.ports_in_range t))

pub up_in-port : (o : Oriented) (d : MapPort) → is_turn d.p ≡ true → up_in o d ≡ get_or o.ups (place_of_port d) false
up_in-port o d e = rw e refl

pub up_in-none : (o : Oriented) (d : MapPort) → is_turn d.p ≡ false → up_in o d ≡ false
up_in-none o d e = rw e refl
