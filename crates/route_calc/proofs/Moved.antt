-- Two hosts at one switch: the least legal walk to the one is that to the other, with another last turn.
use Rattle.std.proofs.Common.{◌≡◌, ◌<◌, ◌-◌, ℕ, List, [], ◌∷◌, ◌++◌, length, take, map, Bool, true, false, not, ◌&&◌, nat_lt, nat_eq, Option, Some, refl, ap, sym, ◌∙◌, subst, suc, arith, ◌⊎◌, inl, inr}
use Rattle.std.specs.Prelude.{ℤ, pos, ◌+ℤ◌, ◌-ℤ◌, int_lt, slice_get}
use Rattle.std.specs.Ordering.{int_eq}
use Rattle.std.specs.List.{list_all}
use Rattle.std.proofs.lemmas.Bool.{false≢true, true≢false, or_cases, and_parts, and_from, eq-eqb}
use Rattle.std.proofs.lemmas.Bool.Decides.{nat_tests}
use Rattle.std.proofs.lemmas.Int.{ints}
use Rattle.net_defs.specs.Turn.{is_turn, IsTurn}
use Rattle.journal_defs.specs.Walks.{turns_below, walk_below}
use Rattle.journal_defs.proofs.Order.{below-parts, below-shorter, or-left, or-right}
use Rattle.map_defs.specs.NetMap.{NetMap, MapPort, IsMap, map_far, map_ends, is_switch_vertex}
use Rattle.map_defs.specs.Orientation.{falls, falls_to, is_up}
use Rattle.map_defs.specs.Routing.{vertex_of_host, led_to, channels_on, no_up_after_down, LeadsTo, is_legal, IsLeastLegal}
use Rattle.map_defs.proofs.Channels.{Onward}
use Rattle.map_defs.proofs.Leading.{far-end}
use Rattle.route_calc.specs.declared.entered.Entered.{Entered}
use Rattle.route_calc.specs.Beside.{turn_moved, turns_moved}
use Rattle.route_calc.specs.Reaching.{may_go}
use Rattle.route_calc.specs.Ways.{entered_by}
use Rattle.route_calc.proofs.Best.{goes-far}
use Rattle.route_calc.proofs.Going.{Goes, goes-led, goes-legal}
use Rattle.route_calc.proofs.Going.Goes.{over, then}
use Rattle.route_calc.proofs.Hanging.{leads-back}
use Rattle.route_calc.proofs.Least.{host-at, host-port, host_start, near-ports, other-way}
use Rattle.route_calc.proofs.Starting.{arrived}

-- A port whose channel leads down to a host's vertex, which no other channel enters.
pub record Falls (m : NetMap) (order : List ℕ) (x : MapPort) (v : ℕ) : Type 0 where
  pub leads : map_far m x ≡ Some (host_start v)
  pub down : is_up m order x ≡ false
  pub alone : (d : MapPort) → map_far m d ≡ Some (host_start v) → d ≡ x

falls-back : (order : List ℕ) (v w : ℕ) → falls order v w ≡ true → falls order w v ≡ false
falls-back order v w e = grind (arith, nat_tests)

not-so : (b : Bool) → not b ≡ false → b ≡ true
not-so true e = refl
not-so false e = absurd (true≢false e)

falls-there : (m : NetMap) (order : List ℕ) (v : ℕ) (x : MapPort) → IsMap m → map_far m (host_start v) ≡ Some x → is_up m order (host_start v) ≡ true → Falls m order x v
falls-there m order v x r far up =
    let leads = leads-back m (host_start v) x r far in
    record {
      leads = leads;
      down = ap (falls_to order x.v) leads ∙ falls-back order v x.v (sym (ap (falls_to order v) far) ∙ up);
      alone = λ d f. (let both : ◌≡◌ {A = Option MapPort} (Some d) (Some x) = sym (leads-back m d (host_start v) r f) ∙ far in cc);
    }

pub falls-from : (m : NetMap) (order : List ℕ) (v : ℕ) (p : Entered) → IsMap m → entered_by m order (host_start v) ≡ Some p → p.down ≡ false → Falls m order (record { v = p.v; p = p.port }) v
falls-from m order v p r e low =
    let x = arrived m order (host_start v) p e in
    subst (λ (z : Entered). z.down ≡ false → Falls m order (record { v = z.v; p = z.port }) v) x.is (λ d. falls-there m order v x.entered r x.far (not-so (is_up m order (host_start v)) d)) low

-- a legal way to the one is a legal way to the other, with another last turn
may-fall : (down up : Bool) → up ≡ false → may_go down up ≡ true
may-fall true up e = rw e refl
may-fall false up e = refl

add-apart : (e t p q more : ℤ) → p ≡ e +ℤ t → q ≡ p +ℤ more → q ≡ e +ℤ (t +ℤ more)
add-apart e t p q more a b = omega (arith, ints)

pub goes-moved : (m : NetMap) (order : List ℕ) (more : ℤ) (down : Bool) (d x y : MapPort) (v w : ℕ) (t : ℤ) (ts : List ℤ) → Falls m order x v → Falls m order y w → y.v ≡ x.v → y.p ≡ x.p +ℤ more → Goes m order down d (t ∷ ts) (host_start v) → Goes m order down d (turn_moved more t ts) (host_start w)
goes-moved m order more down d x y v w t [] fx fy at apart (then {x = z} g o (over far h)) =
    let same : x ≡ record { v = o.entered.v; p = o.entered.p +ℤ t } = sym (fx.alone z far) ∙ o.leaves in
    let port : y.p ≡ o.entered.p +ℤ (t +ℤ more) = add-apart o.entered.p t x.p y.p more (ap (λ (c : MapPort). c.p) same) apart in
    let vertex : y.v ≡ o.entered.v = at ∙ ap (λ (c : MapPort). c.v) same in
    let on : Onward m d (t +ℤ more) y = record { entered = o.entered; far = o.far; switch = o.switch; leaves = λ i. record { v = vertex i; p = port i } } in
    then g on (over fy.leads (may-fall (not (is_up m order d)) (is_up m order y) fy.down))
goes-moved m order more down d x y v w t (u ∷ us) fx fy at apart (then {x = z} g o way) = then g o (goes-moved m order more (not (is_up m order d)) z x y v w u us fx fy at apart way)

-- turns of a legal way are turns
turn-there : (e t z : ℤ) → z ≡ e +ℤ t → z -ℤ e ≡ t
turn-there e t z a = omega (arith, ints)

pub goes-turns : (m : NetMap) (order : List ℕ) (down : Bool) (d e : MapPort) (ts : List ℤ) → IsMap m → Goes m order down d ts e → list_all is_turn ts ≡ true
goes-turns m order down d e ts r (over far g) = refl
goes-turns m order down d e ts r (then {x = z} {t = t} {ts = us} g o way) =
    let on = goes-far m order (not (is_up m order d)) z e us way in
    let back = leads-back m d o.entered r o.far in
    let near = near-ports (map_ends m.cables) z o.entered r.ports_near (far-end m.cables z on.0 on.1) (far-end m.cables o.entered d back) (ap (λ (c : MapPort). c.v) o.leaves) in
    let turn : IsTurn t = subst IsTurn (turn-there o.entered.p t z.p (ap (λ (c : MapPort). c.p) o.leaves)) near in
    and_from (is_turn t) (list_all is_turn us) turn (goes-turns m order (not (is_up m order d)) z e us r way)

-- the order of walks stays
moved-long : (more t : ℤ) (ts : List ℤ) → length (turn_moved more t ts) ≡ suc (length ts)
moved-long more t [] = refl
moved-long more t (u ∷ us) = ap suc (moved-long more u us)

lt-back : (s t more less : ℤ) → more +ℤ less ≡ pos 0 → int_lt s (t +ℤ more) ≡ true → int_lt (s +ℤ less) t ≡ true
lt-back s t more less z e = grind (arith, ints)

turns-back : (more less s t : ℤ) (ss ts : List ℤ) → more +ℤ less ≡ pos 0 → length ss ≡ length ts → turns_below (s ∷ ss) (turn_moved more t ts) ≡ true → turns_below (turn_moved less s ss) (t ∷ ts) ≡ true
turns-back more less s t [] [] z long e = by (or_cases (int_lt s (t +ℤ more)) _ e)
  where
    by : (int_lt s (t +ℤ more) ≡ true) ⊎ ((int_eq s (t +ℤ more) && false) ≡ true) → turns_below ((s +ℤ less) ∷ []) (t ∷ []) ≡ true
    by (inl l) = or-left (int_lt (s +ℤ less) t) _ (lt-back s t more less z l)
    by (inr r) = absurd (false≢true (and_parts (int_eq s (t +ℤ more)) false r).1)
turns-back more less s t [] (u ∷ us) z long e = absurd (omega arith)
turns-back more less s t (r ∷ rs) [] z long e = absurd (omega arith)
turns-back more less s t (r ∷ rs) (u ∷ us) z long e = by (or_cases (int_lt s t) _ e) (turns-back more less r u rs us z (omega arith))
  where
    by : (int_lt s t ≡ true) ⊎ ((int_eq s t && turns_below (r ∷ rs) (turn_moved more u us)) ≡ true) → (turns_below (r ∷ rs) (turn_moved more u us) ≡ true → turns_below (turn_moved less r rs) (u ∷ us) ≡ true) → turns_below (s ∷ turn_moved less r rs) (t ∷ u ∷ us) ≡ true
    by (inl l) rest = or-left (int_lt s t) _ l
    by (inr p) rest =
        let two = and_parts (int_eq s t) (turns_below (r ∷ rs) (turn_moved more u us)) p in
        or-right (int_lt s t) _ (and_from (int_eq s t) (turns_below (turn_moved less r rs) (u ∷ us)) two.0 (rest two.1))

below-back : (more less s t : ℤ) (ss ts : List ℤ) → more +ℤ less ≡ pos 0 → walk_below (s ∷ ss) (turn_moved more t ts) ≡ true → walk_below (turn_moved less s ss) (t ∷ ts) ≡ true
below-back more less s t ss ts z e = by (below-parts (s ∷ ss) (turn_moved more t ts) e)
  where
    by : (length (s ∷ ss) < length (turn_moved more t ts)) ⊎ ((length (s ∷ ss) ≡ length (turn_moved more t ts)) × (turns_below (s ∷ ss) (turn_moved more t ts) ≡ true)) → walk_below (turn_moved less s ss) (t ∷ ts) ≡ true
    by (inl l) =
        let a = moved-long more t ts in
        let b = moved-long less s ss in
        below-shorter (turn_moved less s ss) (t ∷ ts) (omega arith)
    by (inr p) =
        let a = moved-long more t ts in
        let b = moved-long less s ss in
        let n = p.0 in
        or-right (nat_lt (length (turn_moved less s ss)) (suc (length ts))) _ (and_from (nat_eq (length (turn_moved less s ss)) (suc (length ts))) _ (eq-eqb (length (turn_moved less s ss)) (suc (length ts)) (omega arith)) (turns-back more less s t ss ts z (omega arith) p.1))

-- a legal way between hosts is a legal route
record IsRoute (m : NetMap) (order : List ℕ) (a b : ℕ) (ts : List ℤ) : Type 0 where
  pub leads : LeadsTo m a b ts
  pub legal : is_legal m order a ts ≡ true

way-route : (m : NetMap) (order : List ℕ) (va vb a b : ℕ) (ts : List ℤ) → vertex_of_host m a ≡ Some va → vertex_of_host m b ≡ Some vb → Goes m order false (host_start va) ts (host_start vb) → IsRoute m order a b ts
way-route m order va vb a b ts is_a is_b way = record {
  leads = record { at = host_start vb; is_at = host-port m b vb is_b; led = ap (λ o. led_to m o ts) (host-port m a va is_a) ∙ goes-led m order false (host_start va) (host_start vb) ts way };
  legal = ap (λ o. no_up_after_down (map (is_up m order) (channels_on m o ts))) (host-port m a va is_a) ∙ goes-legal m order false (host_start va) (host_start vb) ts way;
}

-- no host has its cable at a host that hangs at a switch
not-straight : (m : NetMap) (order : List ℕ) (a va v : ℕ) (x : MapPort) → vertex_of_host m a ≡ Some va → is_switch_vertex m x.v ≡ true → Falls m order x v → Goes m order false (host_start va) [] (host_start v) → ⊥
not-straight m order a va v x is_a switch f (over far g) =
    false≢true (sym (host-at m a va is_a).plain ∙ ap (λ (c : MapPort). is_switch_vertex m c.v) (f.alone (host_start va) far) ∙ switch)

-- Where both hang: the ports of their switch, so far apart.
pub record AreAtOne (m : NetMap) (order : List ℕ) (x y : MapPort) (v w : ℕ) (more : ℤ) : Type 0 where
  pub first : Falls m order x v
  pub second : Falls m order y w
  pub one : y.v ≡ x.v
  pub switch : is_switch_vertex m x.v ≡ true
  pub apart : y.p ≡ x.p +ℤ more

turned_back : (p q more : ℤ) → q ≡ p +ℤ more → p ≡ q +ℤ (pos 0 -ℤ more)
turned_back p q more e = omega (arith, ints)

none-more : (more : ℤ) → more +ℤ (pos 0 -ℤ more) ≡ pos 0
none-more more = omega (arith, ints)

-- the turns of a walk to the one, moved, lead to the other
route-moved : (m : NetMap) (order : List ℕ) (x y : MapPort) (va vb vc a b c : ℕ) (more : ℤ) (ts : List ℤ) → vertex_of_host m a ≡ Some va → vertex_of_host m b ≡ Some vb → AreAtOne m order x y vb vc more → LeadsTo m a b ts → is_legal m order a ts ≡ true → (t : ℤ) × (us : List ℤ) × (ts ≡ t ∷ us) × Goes m order false (host_start va) (turn_moved more t us) (host_start vc)
route-moved m order x y va vb vc a b c more ts is_a is_b s leads legal = by ts (other-way m order va vb a b ts is_a is_b leads legal)
  where
    by : (l : List ℤ) → Goes m order false (host_start va) l (host_start vb) → (t : ℤ) × (us : List ℤ) × (l ≡ t ∷ us) × Goes m order false (host_start va) (turn_moved more t us) (host_start vc)
    by [] way = absurd (not-straight m order a va vb x is_a s.switch s.first way)
    by (t ∷ us) way = (t, us, refl, goes-moved m order more false (host_start va) x y vb vc t us s.first s.second s.one s.apart way)

-- What the walk to one of two hosts at a switch shows of that to the other.
pub record IsMoved (m : NetMap) (order : List ℕ) (a c : ℕ) (more : ℤ) (ts : List ℤ) : Type 0 where
  pub some : 0 < length ts
  pub turns : list_all is_turn (turns_moved more ts) ≡ true
  pub least : IsLeastLegal m order a c (turns_moved more ts)

pub least-moved : (m : NetMap) (order : List ℕ) (x y : MapPort) (va vb vc a b c : ℕ) (more : ℤ) (ts : List ℤ) → IsMap m → vertex_of_host m a ≡ Some va → vertex_of_host m b ≡ Some vb → vertex_of_host m c ≡ Some vc → AreAtOne m order x y vb vc more → IsLeastLegal m order a b ts → IsMoved m order a c more ts
least-moved m order x y va vb vc a b c more ts r is_a is_b is_c s l = by (route-moved m order x y va vb vc a b c more ts is_a is_b s l.leads l.legal)
  where
    back : AreAtOne m order y x vc vb (pos 0 -ℤ more)
    back = record { first = s.second; second = s.first; one = sym s.one; switch = ap (is_switch_vertex m) s.one ∙ s.switch; apart = turned_back x.p y.p more s.apart }

    not-below : (t : ℤ) (us others : List ℤ) → ts ≡ t ∷ us → (o : ℤ) × (os : List ℤ) × (others ≡ o ∷ os) × Goes m order false (host_start va) (turn_moved (pos 0 -ℤ more) o os) (host_start vb) → (q : Bool) → walk_below others (turn_moved more t us) ≡ q → q ≡ false
    not-below t us others is (o, os, is_o, way) true e =
        let path = way-route m order va vb a b (turn_moved (pos 0 -ℤ more) o os) is_a is_b way in
        let below = below-back more (pos 0 -ℤ more) o t os us (none-more more) (ap (λ z. walk_below z (turn_moved more t us)) (sym is_o) ∙ e) in
        sym (sym (l.least (turn_moved (pos 0 -ℤ more) o os) path.leads path.legal) ∙ ap (walk_below (turn_moved (pos 0 -ℤ more) o os)) is ∙ below)
    not-below t us others is w false e = refl

    by : (t : ℤ) × (us : List ℤ) × (ts ≡ t ∷ us) × Goes m order false (host_start va) (turn_moved more t us) (host_start vc) → IsMoved m order a c more ts
    by (t, us, is, way) =
        let path = way-route m order va vc a c (turn_moved more t us) is_a is_c way in
        let all = goes-turns m order false (host_start va) (host_start vc) (turn_moved more t us) r way in
        subst (IsMoved m order a c more) (sym is) (record {
          some = omega arith;
          turns = all;
          least = record { leads = path.leads; legal = path.legal; least = λ others leads legal. not-below t us others is (route-moved m order y x va vc vb a c b (pos 0 -ℤ more) others is_a is_c back leads legal) (walk_below others (turn_moved more t us)) refl };
        })

-- the last turn alone is another
pub moved-last : (more t x : ℤ) (ts : List ℤ) → slice_get (t ∷ ts) (length ts) ≡ Some x → turn_moved more t ts ≡ take (length ts) (t ∷ ts) ++ (x +ℤ more) ∷ []
moved-last more t x [] e = let same : t ≡ x = cc in ap (λ z. (z +ℤ more) ∷ []) same
moved-last more t x (u ∷ us) e = ap (λ l. t ∷ l) (moved-last more u x us e)

last-turn : (more t x : ℤ) (ts : List ℤ) → slice_get (t ∷ ts) (length ts) ≡ Some x → list_all is_turn (turn_moved more t ts) ≡ true → IsTurn (x +ℤ more)
last-turn more t x [] e all = let same : t ≡ x = cc in subst (λ z. IsTurn (z +ℤ more)) same (and_parts (is_turn (t +ℤ more)) true all).0
last-turn more t x (u ∷ us) e all = last-turn more u x us e (and_parts (is_turn t) (list_all is_turn (turn_moved more u us)) all).1

pub last-moved : (more x : ℤ) (ts : List ℤ) → 0 < length ts → slice_get ts (length ts - 1) ≡ Some x → turns_moved more ts ≡ take (length ts - 1) ts ++ (x +ℤ more) ∷ []
last-moved more x [] l e = absurd (omega arith)
last-moved more x (t ∷ ts) l e =
    let n : length (t ∷ ts) - 1 ≡ length ts = omega arith in
    moved-last more t x ts (ap (slice_get (t ∷ ts)) (sym n) ∙ e) ∙ ap (λ k. take k (t ∷ ts) ++ (x +ℤ more) ∷ []) (sym n)

pub last-fits : (more x : ℤ) (ts : List ℤ) → slice_get ts (length ts - 1) ≡ Some x → list_all is_turn (turns_moved more ts) ≡ true → IsTurn (x +ℤ more)
last-fits more x [] e all = cc
last-fits more x (t ∷ ts) e all = let n : length (t ∷ ts) - 1 ≡ length ts = omega arith in last-turn more t x ts (ap (slice_get (t ∷ ts)) (sym n) ∙ e) all
