-- Nodes behind ports of nodes, in the order of nodes; where turns lead on a map.
use Rattle.std.proofs.Common.{◌≡◌, ◌<◌, ◌⊎◌, inl, inr, ℕ, suc, List, [], ◌∷◌, ◌++◌, Bool, true, false, ◌&&◌, nat_lt, nat_eq, length, length-append, Option, Some, None, option_and_then, refl, ap, sym, ◌∙◌, arith, if◌then◌else◌}
use Rattle.std.specs.Prelude.{ℤ, ◌+ℤ◌, int_lt}
use Rattle.std.specs.Ordering.{int_eq}
use Rattle.std.proofs.lemmas.Bool.{false≢true, or_cases, and_parts, and_from, eq-eqb}
use Rattle.std.proofs.lemmas.Bool.Decides.{Decides-int_eq}
use Rattle.std.proofs.lemmas.Int.{ints}
use Rattle.journal_defs.specs.Walks.{turns_below, walk_below}
use Rattle.journal_defs.specs.Tree.{Node, node_below}
use Rattle.journal_defs.specs.Tree.Node.{Mapper, Reached}
use Rattle.journal_defs.proofs.Order.{or-left, or-right, below-parts, below-shorter}
use Rattle.map_defs.specs.NetMap.{NetMap, MapPort, map_far, is_switch_vertex}
use Rattle.map_defs.specs.Routing.{led_to, next_port, turned_to}
use Rattle.map_renumber.specs.Search.{after, turn_at}

turns-push : (v w : List ℤ) (s t : ℤ) → turns_below v w ≡ true → turns_below (v ++ s ∷ []) (w ++ t ∷ []) ≡ true
turns-push [] w s t e = absurd (false≢true e)
turns-push (a ∷ vs) [] s t e = absurd (false≢true e)
turns-push (a ∷ vs) (b ∷ ws) s t e = by (or_cases (int_lt a b) _ e) (turns-push vs ws s t)
  where
    by : (int_lt a b ≡ true) ⊎ ((int_eq a b && turns_below vs ws) ≡ true) → (turns_below vs ws ≡ true → turns_below (vs ++ s ∷ []) (ws ++ t ∷ []) ≡ true) → turns_below (a ∷ (vs ++ s ∷ [])) (b ∷ (ws ++ t ∷ [])) ≡ true
    by (inl l) rest = or-left (int_lt a b) _ l
    by (inr r) rest = let two = and_parts (int_eq a b) (turns_below vs ws) r in or-right (int_lt a b) _ (and_from (int_eq a b) (turns_below (vs ++ s ∷ []) (ws ++ t ∷ [])) two.0 (rest two.1))

turns-last : (w : List ℤ) (s t : ℤ) → int_lt s t ≡ true → turns_below (w ++ s ∷ []) (w ++ t ∷ []) ≡ true
turns-last [] s t l = or-left (int_lt s t) _ l
turns-last (a ∷ w) s t l = or-right (int_lt a a) _ (and_from (int_eq a a) (turns_below (w ++ s ∷ []) (w ++ t ∷ [])) ((Decides-int_eq a a).1 refl) (turns-last w s t l))

same-length : (v w : List ℤ) → length v ≡ length w → turns_below v w ≡ true → walk_below v w ≡ true
same-length v w l e = or-right (nat_lt (length v) (length w)) _ (and_from (nat_eq (length v) (length w)) (turns_below v w) (eq-eqb (length v) (length w) l) e)

longer : (w : List ℤ) (t : ℤ) → length (w ++ t ∷ []) ≡ suc (length w)
longer w t = let e = length-append w (t ∷ []) in omega arith

walk-push : (v w : List ℤ) (s t : ℤ) → walk_below v w ≡ true → walk_below (v ++ s ∷ []) (w ++ t ∷ []) ≡ true
walk-push v w s t e = by (below-parts v w e)
  where
    by : (length v < length w) ⊎ ((length v ≡ length w) × (turns_below v w ≡ true)) → walk_below (v ++ s ∷ []) (w ++ t ∷ []) ≡ true
    by (inl l) = let a = longer v s in let b = longer w t in below-shorter (v ++ s ∷ []) (w ++ t ∷ []) (omega arith)
    by (inr r) = same-length (v ++ s ∷ []) (w ++ t ∷ []) (longer v s ∙ ap suc r.0 ∙ sym (longer w t)) (turns-push v w s t r.1)

-- what is behind a lesser node stands before what is behind a greater one
pub after-below : (u x : Node) (s t : ℤ) → node_below u x ≡ true → node_below (after u s) (after x t) ≡ true
after-below u Mapper s t e = absurd (false≢true e)
after-below Mapper (Reached w) s t e = let b = longer w t in below-shorter [] (w ++ t ∷ []) (omega arith)
after-below (Reached v) (Reached w) s t e = walk-push v w s t e

-- and what is behind a lesser turn
pub after-later : (w : List ℤ) (s t : ℤ) → int_lt s t ≡ true → node_below (after (Reached w) s) (after (Reached w) t) ≡ true
after-later w s t l = same-length (w ++ s ∷ []) (w ++ t ∷ []) (longer w s ∙ sym (longer w t)) (turns-last w s t l)

-- a node stands before what is behind it
pub after-self : (w : List ℤ) (t : ℤ) → node_below (Reached w) (Reached (w ++ t ∷ [])) ≡ true
after-self w t = let b = longer w t in below-shorter w (w ++ t ∷ []) (omega arith)

pub turns-rise : (s k : ℕ) → s < k → int_lt (turn_at s) (turn_at k) ≡ true
turns-rise s k l = grind (arith, ints)

-- one turn more: from the port entered, where that is at a switch
abbrev onward : NetMap → ℤ → MapPort → Option MapPort
onward m t e = option_and_then (map_far m) (turned_to m e t)

pub led-push : (m : NetMap) (o : Option MapPort) (w : List ℤ) (t : ℤ) → led_to m o (w ++ t ∷ []) ≡ option_and_then (onward m t) (led_to m o w)
led-push m None w t = refl
led-push m (Some d) [] t = by (map_far m d)
  where
    by2 : (o : Option MapPort) → led_to m o [] ≡ option_and_then (map_far m) o
    by2 None = refl
    by2 (Some x) = refl

    by : (o : Option MapPort) → led_to m (option_and_then (λ e. turned_to m e t) o) [] ≡ option_and_then (onward m t) o
    by None = refl
    by (Some e) = by2 (turned_to m e t)
led-push m (Some d) (s ∷ w) t = led-push m (next_port m d s) w t

-- where a turn leads from a port that was entered at a switch
pub led-on : (m : NetMap) (o : Option MapPort) (w : List ℤ) (t : ℤ) (d e : MapPort) → led_to m o w ≡ Some d → is_switch_vertex m d.v ≡ true → map_far m (record { v = d.v; p = d.p +ℤ t }) ≡ Some e → led_to m o (w ++ t ∷ []) ≡ Some e
led-on m o w t d e led switch far =
    led-push m o w t
    ∙ ap (option_and_then (onward m t)) led
    ∙ ap (λ b. option_and_then (map_far m) (if b then Some (record { v = d.v; p = d.p +ℤ t }) else None)) switch
    ∙ far

-- and back: what a walk with one turn more came from
pub record CameFrom (m : NetMap) (o : Option MapPort) (w : List ℤ) (t : ℤ) (e : MapPort) : Type 0 where
  pub entry : MapPort
  pub led : led_to m o w ≡ Some entry
  pub switch : is_switch_vertex m entry.v ≡ true
  pub far : map_far m (record { v = entry.v; p = entry.p +ℤ t }) ≡ Some e

pub came-from : (m : NetMap) (o : Option MapPort) (w : List ℤ) (t : ℤ) (e : MapPort) → led_to m o (w ++ t ∷ []) ≡ Some e → CameFrom m o w t e
came-from m o w t e led = by (led_to m o w) refl (sym (led-push m o w t) ∙ led)
  where
    at : (d : MapPort) (b : Bool) → led_to m o w ≡ Some d → is_switch_vertex m d.v ≡ b → option_and_then (map_far m) (if b then Some (record { v = d.v; p = d.p +ℤ t }) else None) ≡ Some e → CameFrom m o w t e
    at d true p q r = record { entry = d; led = p; switch = q; far = r }
    at d false p q r = cc

    by : (x : Option MapPort) → led_to m o w ≡ x → option_and_then (onward m t) x ≡ Some e → CameFrom m o w t e
    by None p r = cc
    by (Some d) p r = at d (is_switch_vertex m d.v) p refl r

-- a walk is empty, or it has a last turn
pub data IsWalkBy (w : List ℤ) : Type 0 where
  no_turns : w ≡ [] → IsWalkBy w
  last : (front : List ℤ) (turn : ℤ) → w ≡ front ++ turn ∷ [] → IsWalkBy w

pub walk-by : (w : List ℤ) → IsWalkBy w
walk-by [] = no_turns refl
walk-by (t ∷ w) = by (walk-by w)
  where
    by : IsWalkBy w → IsWalkBy (t ∷ w)
    by (no_turns e) = last [] t (ap (λ l. t ∷ l) e)
    by (last front turn e) = last (t ∷ front) turn (ap (λ l. t ∷ l) e)
