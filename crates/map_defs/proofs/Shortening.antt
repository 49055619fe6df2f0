-- A least legal route crosses no cable from a vertex to itself.
use Rattle.std.proofs.Common.{◌≡◌, ◌<◌, List, [], ◌∷◌, ◌++◌, length, false, Option, Some, None, sym, ◌∙◌, subst, ap, refl, arith, ◌⊎◌, inl, inr}
use Rattle.std.specs.Prelude.{ℤ, ◌+ℤ◌, ◌-ℤ◌}
use Rattle.std.proofs.lemmas.Bool.{false≢true}
use Rattle.std.proofs.lemmas.Int.{ints}
use Rattle.journal_defs.proofs.Members.{IsMember}
use Rattle.map_defs.specs.NetMap.{NetMap, MapPort, map_far, is_switch_vertex}
use Rattle.map_defs.specs.Routing.{led_to, next_port, channel_at, channels_on}
use Rattle.map_defs.proofs.Channels.{Onward, next-onward, onward-next, channel-one, Ending, ending, Crossed, crossed, Sub, sub-itself}
use Rattle.map_defs.proofs.Channels.Ending.{uncabled, ends}
use Rattle.map_defs.proofs.Channels.Crossed.{unled, stops, goes}
use Rattle.map_defs.proofs.Channels.Sub.{keep, drop}

-- a channel that comes back to the vertex that it leaves
pub record Loops (m : NetMap) (c : MapPort) : Type 0 where
  pub entered : MapPort
  pub far : map_far m c ≡ Some entered
  pub vertex : entered.v ≡ c.v

-- a shorter way to the same port, over some of the same channels
pub record Shorter (m : NetMap) (d : MapPort) (turns : List ℤ) (at : MapPort) : Type 0 where
  pub way : List ℤ
  pub short : length way < length turns
  pub led : led_to m (Some d) way ≡ Some at
  pub sub : Sub (channels_on m (Some d) way) (channels_on m (Some d) turns)

pub onward-channels : (m : NetMap) (d x : MapPort) (t : ℤ) (ts : List ℤ) → Onward m d t x → channels_on m (Some d) (t ∷ ts) ≡ d ∷ channels_on m (Some x) ts
onward-channels m d x t ts o = ap (λ l. l ++ channels_on m (next_port m d t) ts) (channel-one m d o.entered o.far) ∙ ap (λ p. d ∷ channels_on m p ts) (onward-next m d x t o)

pub onward-led : (m : NetMap) (d x : MapPort) (t : ℤ) (ts : List ℤ) → Onward m d t x → led_to m (Some d) (t ∷ ts) ≡ led_to m (Some x) ts
onward-led m d x t ts o = ap (λ p. led_to m p ts) (onward-next m d x t o)

turn_to : (p q : ℤ) → p +ℤ (q -ℤ p) ≡ q
turn_to p q = omega (arith, ints)

-- a loop is left out: the turn before it and the turn after it are one
left_out : (m : NetMap) (d x at : MapPort) (t : ℤ) (ts : List ℤ) → is_switch_vertex m at.v ≡ false → Onward m d t x → Loops m x → led_to m (Some x) ts ≡ Some at → Shorter m d (t ∷ ts) at
left_out m d x at t [] host o l led =
    let one : l.entered ≡ at = (let two : Some l.entered ≡ Some at = sym l.far ∙ led in cc) in
    let vertex : at.v ≡ o.entered.v = ap (λ (z : MapPort). z.v) (sym one) ∙ l.vertex ∙ ap (λ (z : MapPort). z.v) o.leaves in
    absurd (false≢true (sym host ∙ ap (is_switch_vertex m) vertex ∙ o.switch))
left_out m d x at t (u ∷ us) host o l led = by (next_port m x u) refl led
  where
    by : (p : Option MapPort) → next_port m x u ≡ p → led_to m p us ≡ Some at → Shorter m d (t ∷ u ∷ us) at
    by None e f = cc
    by (Some y) e f =
        let next = next-onward m x y u e in
        let one : l.entered ≡ next.entered = (let two : Some l.entered ≡ Some next.entered = sym l.far ∙ next.far in cc) in
        let vertex : next.entered.v ≡ o.entered.v = ap (λ (z : MapPort). z.v) (sym one) ∙ l.vertex ∙ ap (λ (z : MapPort). z.v) o.leaves in
        let y_vertex : y.v ≡ o.entered.v = ap (λ (z : MapPort). z.v) next.leaves ∙ vertex in
        let direct : Onward m d (y.p -ℤ o.entered.p) y = record { entered = o.entered; far = o.far; switch = o.switch; leaves = (let a = sym y_vertex in let b = turn_to o.entered.p y.p in λ i. record { v = sym a i; p = sym b i }) } in
        let short : channels_on m (Some d) ((y.p -ℤ o.entered.p) ∷ us) ≡ d ∷ channels_on m (Some y) us = onward-channels m d y (y.p -ℤ o.entered.p) us direct in
        let long : channels_on m (Some d) (t ∷ u ∷ us) ≡ d ∷ x ∷ channels_on m (Some y) us = onward-channels m d x t (u ∷ us) o ∙ ap (λ l. d ∷ l) (onward-channels m x y u us next) in
        record {
          way = (y.p -ℤ o.entered.p) ∷ us;
          short = omega arith;
          led = onward-led m d y (y.p -ℤ o.entered.p) us direct ∙ f;
          sub = subst (λ l. Sub l (channels_on m (Some d) (t ∷ u ∷ us))) (sym short) (subst (λ l. Sub (d ∷ channels_on m (Some y) us) l) (sym long) (keep (drop (sub-itself (channels_on m (Some y) us)))));
        }

longer : (m : NetMap) (d x at : MapPort) (t : ℤ) (ts : List ℤ) → Onward m d t x → Shorter m x ts at → Shorter m d (t ∷ ts) at
longer m d x at t ts o s = record {
  way = t ∷ s.way;
  short = (let g = s.short in omega arith);
  led = onward-led m d x t s.way o ∙ s.led;
  sub = subst (λ l. Sub l (channels_on m (Some d) (t ∷ ts))) (sym (onward-channels m d x t s.way o)) (subst (λ l. Sub (d ∷ channels_on m (Some x) s.way) l) (sym (onward-channels m d x t ts o)) (keep s.sub));
}

-- a route to a host that crosses a loop after its first channel has a shorter way
pub shorten : (m : NetMap) (d at : MapPort) (turns : List ℤ) (c : MapPort) → is_switch_vertex m at.v ≡ false → led_to m (Some d) turns ≡ Some at → IsMember c (channels_on m (Some d) turns) → Loops m c → (d ≡ c) ⊎ Shorter m d turns at
shorten m d at [] c host led i l = by (channel_at m d) (ending m d) i
  where
    by : (ls : List MapPort) → Ending m d ls → IsMember c ls → (d ≡ c) ⊎ Shorter m d [] at
    by ls (uncabled f) k = absurd k
    by ls (ends f) (inl p) = inl (sym p)
    by ls (ends f) (inr k) = absurd k
shorten m d at (t ∷ ts) c host led i l = by (channels_on m (Some d) (t ∷ ts)) (crossed m d t ts) i (λ x f k. shorten m x at ts c host f k l)
  where
    third : (x : MapPort) → Onward m d t x → led_to m (Some x) ts ≡ Some at → (x ≡ c) ⊎ Shorter m x ts at → Shorter m d (t ∷ ts) at
    third x o f (inl p) = left_out m d x at t ts host o (subst (Loops m) (sym p) l) f
    third x o f (inr s) = longer m d x at t ts o s

    by : (ls : List MapPort) → Crossed m d t ts ls → IsMember c ls → ((x : MapPort) → led_to m (Some x) ts ≡ Some at → IsMember c (channels_on m (Some x) ts) → (x ≡ c) ⊎ Shorter m x ts at) → (d ≡ c) ⊎ Shorter m d (t ∷ ts) at
    by ls (unled f) k rest = absurd k
    by ls (stops f g) (inl p) rest = inl (sym p)
    by ls (stops f g) (inr k) rest = absurd k
    by ls (goes {x = x} o) (inl p) rest = inl (sym p)
    by ls (goes {x = x} o) (inr k) rest = let f = sym (onward-led m d x t ts o) ∙ led in inr (third x o f (rest x f k))
