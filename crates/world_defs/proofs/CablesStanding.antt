-- The channels that a walk crosses over the cables of a test are its channels in the fabric of these cables, each by its
-- place there in place of its number for life.
use Rattle.std.proofs.Common.{◌≡◌, ◌+◌, ◌*◌, ◌/◌, ◌%◌, ℕ, zero, suc, ℤ, Bool, true, false, ◌&&◌, List, [], ◌∷◌, ◌++◌, map, Option, Some, None, refl, sym, ap, ◌∙◌, arith, if◌then◌else◌}
use Rattle.std.specs.List.{filter}
use Rattle.std.specs.Option.{option_and_then}
use Rattle.std.specs.Prelude.{option_to_list}
use Rattle.net_defs.specs.declared.vertex.End.{End}
use Rattle.net_defs.specs.Network.{same_end}
use Rattle.net_defs.specs.Route.{channel_out, channel_from, crossing, next_exit, channels_after}
use Rattle.world_defs.specs.declared.wire.Wire.{Wire}
use Rattle.world_defs.specs.History.{CableHistory, fabric_by}
use Rattle.world_defs.specs.Crossed.{channel_by, channels_by}
use Rattle.world_defs.proofs.Fewer.{kept, kept_if}

-- how many of the cables before a number pass a test
abbrev pub rank : (Wire → Bool) → List Wire → ℕ → ℕ
rank test [] i = 0
rank test (w ∷ ws) zero = 0
rank test (w ∷ ws) (suc i) = (if test w then 1 else 0) + rank test ws i

-- the place of a channel among those of the cables that pass
abbrev pub compact : (Wire → Bool) → List Wire → ℕ → ℕ
compact test ws c = 2 * rank test ws (c / 2) + c % 2

half-later : (p : ℕ) → (2 + p) / 2 ≡ suc (p / 2)
half-later p = omega arith

odd-later : (p : ℕ) → (2 + p) % 2 ≡ p % 2
odd-later p = omega arith

compact-later : (test : Wire → Bool) (w : Wire) (ws : List Wire) (p : ℕ) → compact test (w ∷ ws) (2 + p) ≡ 2 * (if test w then 1 else 0) + compact test ws p
compact-later test w ws p = (λ i. 2 * rank test (w ∷ ws) (half-later p i) + odd-later p i) ∙ by (if test w then 1 else 0) (rank test ws (p / 2)) (p % 2)
  where
    by : (a r m : ℕ) → 2 * (a + r) + m ≡ 2 * a + (2 * r + m)
    by a r m = omega arith

-- one channel, counted from the first of these cables, and the same in the fabric of those that pass
record IsAt (test : Wire → Bool) (k j : ℕ) (ws : List Wire) (c : ℕ) (o : Option ℕ) : Type 0 where
  place : ℕ
  life : c ≡ 2 * j + place
  there : o ≡ Some (2 * k + compact test ws place)

abbrev Agrees : (Wire → Bool) → ℕ → ℕ → List Wire → Option ℕ → Option ℕ → Type 0
Agrees test k j ws None o = o ≡ None
Agrees test k j ws (Some c) o = IsAt test k j ws c o

module _ (test : Wire → Bool) where
  agrees-later : (k j m : ℕ) (w : Wire) (ws : List Wire) (a b : Option ℕ) → m ≡ k + (if test w then 1 else 0) → Agrees test m (j + 1) ws a b → Agrees test k j (w ∷ ws) a b
  agrees-later k j m w ws None b up is = is
  agrees-later k j m w ws (Some c) b up is =
      let n = is.life in
      let step = compact-later test w ws is.place in
      let same : 2 * m + compact test ws is.place ≡ 2 * k + compact test (w ∷ ws) (2 + is.place) = by (if test w then 1 else 0) (compact test ws is.place) (compact test (w ∷ ws) (2 + is.place)) up step in
      record { place = 2 + is.place; life = omega (arith, n); there = is.there ∙ ap Some same }
    where
      by : (a x y : ℕ) → m ≡ k + a → y ≡ 2 * a + x → 2 * m + x ≡ 2 * k + y
      by a x y p q = omega (arith, p, q)

  out-agrees : (k j : ℕ) (ws : List Wire) (e : End) → Agrees test k j ws (channel_by test j ws e) (channel_out k (kept test ws) e)
  out-agrees k j [] e = refl
  out-agrees k j (w ∷ ws) e = by (test w) (same_end w.cable.a e) (same_end w.cable.b e) refl refl refl (λ m. out-agrees m (j + 1) ws e)
    where
      first : (n : ℕ) → 2 * n ≡ 2 * n + 0
      first n = omega arith

      by : (b s t : Bool) → test w ≡ b → same_end w.cable.a e ≡ s → same_end w.cable.b e ≡ t → ((m : ℕ) → Agrees test m (j + 1) ws (channel_by test (j + 1) ws e) (channel_out m (kept test ws) e))
          → Agrees test k j (w ∷ ws) (if b && s then Some (2 * j) else if b && t then Some (2 * j + 1) else channel_by test (j + 1) ws e) (channel_out k (kept_if b w (filter test ws)) e)
      by true true t o p q rest = rw p (record { place = 0; life = first j; there = ap Some (first k) })
      by true false true o p q rest = rw (p, q) (record { place = 1; life = refl; there = refl })
      by true false false o p q rest = rw (p, q) (agrees-later k j (k + 1) w ws (channel_by test (j + 1) ws e) (channel_out (k + 1) (kept test ws) e) (rw o refl) (rest (k + 1)))
      by false s t o p q rest = agrees-later k j k w ws (channel_by test (j + 1) ws e) (channel_out k (kept test ws) e) (rw o (zero-more k)) (rest k)
        where
          zero-more : (n : ℕ) → n ≡ n + 0
          zero-more n = omega arith

map-append : (f : ℕ → ℕ) (xs ys : List ℕ) → map f (xs ++ ys) ≡ map f xs ++ map f ys
map-append f [] ys = refl
map-append f (x ∷ xs) ys = ap (λ l. f x ∷ l) (map-append f xs ys)

module _ (h : CableHistory) (test : Wire → Bool) where
  crossing-by : (a b : Option ℕ) → Agrees test 0 0 h.wires a b → option_to_list b ≡ map (compact test h.wires) (option_to_list a)
  crossing-by None b is = ap option_to_list is
  crossing-by (Some c) b is =
      let life = is.life in
      let same : is.place ≡ c = omega (arith, life) in
      let zero_more : 2 * 0 + compact test h.wires is.place ≡ compact test h.wires c = by (compact test h.wires is.place) ∙ ap (compact test h.wires) same in
      ap option_to_list (is.there ∙ ap Some zero_more)
    where
      by : (n : ℕ) → 2 * 0 + n ≡ n
      by n = omega arith

  crossing-compact : (exit : Option End) → crossing (fabric_by h test) exit ≡ map (compact test h.wires) (option_to_list (option_and_then (channel_by test 0 h.wires) exit))
  crossing-compact None = refl
  crossing-compact (Some e) = crossing-by (channel_by test 0 h.wires e) (channel_from (fabric_by h test) e) (out-agrees test 0 0 h.wires e)

  pub channels-compact : (exit : Option End) (turns : List ℤ) → channels_after (fabric_by h test) exit turns ≡ map (compact test h.wires) (channels_by h test exit turns)
  channels-compact exit [] = crossing-compact exit
  channels-compact exit (turn ∷ turns) =
      let next : Option End = next_exit (fabric_by h test) exit turn in
      let one = crossing-compact exit in
      let rest = channels-compact next turns in
      (λ i. one i ++ rest i) ∙ sym (map-append (compact test h.wires) (option_to_list (option_and_then (channel_by test 0 h.wires) exit)) (channels_by h test next turns))
