-- Legal ways on a map, turn by turn.
use Rattle.std.proofs.Common.{◌≡◌, ℕ, List, [], ◌∷◌, map, Bool, true, false, not, Option, Some, None, refl, ap, sym, ◌∙◌}
use Rattle.std.specs.Prelude.{ℤ}
use Rattle.std.specs.List.{list_all}
use Rattle.std.proofs.lemmas.Bool.{false≢true}
use Rattle.map_defs.specs.NetMap.{NetMap, MapPort, map_far}
use Rattle.map_defs.specs.Orientation.{is_up}
use Rattle.map_defs.specs.Routing.{led_to, next_port, channels_on, no_up_after_down}
use Rattle.map_defs.proofs.Channels.{Onward, next-onward, channel-one}
use Rattle.map_defs.proofs.Shortening.{onward-channels, onward-led}
use Rattle.route_calc.specs.Reaching.{may_go}

-- A legal way from a port on, after channels that went down or didn't.
pub data Goes (m : NetMap) (order : List ℕ) : Bool → MapPort → List ℤ → MapPort → Type 0 where
  over : {down : Bool} {d e : MapPort} → map_far m d ≡ Some e → may_go down (is_up m order d) ≡ true → Goes m order down d [] e
  then : {down : Bool} {d x f : MapPort} {t : ℤ} {ts : List ℤ} → may_go down (is_up m order d) ≡ true → Onward m d t x → Goes m order (not (is_up m order d)) x ts f → Goes m order down d (t ∷ ts) f

-- where a legal way leads
pub goes-led : (m : NetMap) (order : List ℕ) (down : Bool) (d e : MapPort) (ts : List ℤ) → Goes m order down d ts e → led_to m (Some d) ts ≡ Some e
goes-led m order down d e ts (over f g) = f
goes-led m order down d e ts (then {x = x} {t = t} {ts = us} g o w) = onward-led m d x t us o ∙ goes-led m order (not (is_up m order d)) x e us w

-- channels that go on legally after some that went down or didn't
abbrev pub is_legal_after : Bool → List Bool → Bool
is_legal_after false ups = no_up_after_down ups
is_legal_after true ups = list_all not ups

after-more : (down up : Bool) (ups : List Bool) → may_go down up ≡ true → is_legal_after (not up) ups ≡ true → is_legal_after down (up ∷ ups) ≡ true
after-more false true ups g e = e
after-more false false ups g e = e
after-more true true ups g e = absurd (false≢true g)
after-more true false ups g e = e

after-none : (up : Bool) → is_legal_after (not up) [] ≡ true
after-none true = refl
after-none false = refl

-- its channels are legal
pub goes-legal : (m : NetMap) (order : List ℕ) (down : Bool) (d e : MapPort) (ts : List ℤ) → Goes m order down d ts e → is_legal_after down (map (is_up m order) (channels_on m (Some d) ts)) ≡ true
goes-legal m order down d e ts (over {e = f} far g) =
    ap (λ l. is_legal_after down (map (is_up m order) l)) (channel-one m d f far) ∙ after-more down (is_up m order d) [] g (after-none (is_up m order d))
goes-legal m order down d e ts (then {x = x} {t = t} {ts = us} g o w) =
    ap (λ l. is_legal_after down (map (is_up m order) l)) (onward-channels m d x t us o)
    ∙ after-more down (is_up m order d) (map (is_up m order) (channels_on m (Some x) us)) g (goes-legal m order (not (is_up m order d)) x e us w)

-- and every legal way is one
legal-split : (down up : Bool) (ups : List Bool) → is_legal_after down (up ∷ ups) ≡ true → (may_go down up ≡ true) × (is_legal_after (not up) ups ≡ true)
legal-split false true ups e = (refl, e)
legal-split false false ups e = (refl, e)
legal-split true true ups e = absurd (false≢true e)
legal-split true false ups e = (refl, e)

pub led-goes : (m : NetMap) (order : List ℕ) (down : Bool) (d e : MapPort) (ts : List ℤ) → led_to m (Some d) ts ≡ Some e → is_legal_after down (map (is_up m order) (channels_on m (Some d) ts)) ≡ true → Goes m order down d ts e
led-goes m order down d e [] led legal = over led (legal-split down (is_up m order d) [] (sym (ap (λ l. is_legal_after down (map (is_up m order) l)) (channel-one m d e led)) ∙ legal)).0
led-goes m order down d e (t ∷ ts) led legal = by (next_port m d t) refl led (λ x g l. led-goes m order (not (is_up m order d)) x e ts g l)
  where
    by : (o : Option MapPort) → next_port m d t ≡ o → led_to m o ts ≡ Some e → ((x : MapPort) → led_to m (Some x) ts ≡ Some e → is_legal_after (not (is_up m order d)) (map (is_up m order) (channels_on m (Some x) ts)) ≡ true → Goes m order (not (is_up m order d)) x ts e) → Goes m order down d (t ∷ ts) e
    by None f g rest = cc
    by (Some x) f g rest =
        let o = next-onward m d x t f in
        let two = legal-split down (is_up m order d) (map (is_up m order) (channels_on m (Some x) ts)) (sym (ap (λ l. is_legal_after down (map (is_up m order) l)) (onward-channels m d x t ts o)) ∙ legal) in
        then two.0 o (rest x g two.1)
