-- What leads to a vertex by so many legal channels.
use Rattle.std.proofs.Common.{◌≡◌, ◌<◌, ◌≤◌, ℕ, zero, suc, List, Bool, true, false, not, ◌&&◌, Option, Some, None, is_some, refl, ap, sym, ◌∙◌, subst, arith, ◌⊎◌, inl, inr}
use Rattle.std.specs.Prelude.{pos, ◌+ℤ◌, nat_abs}
use Rattle.std.proofs.lemmas.Bool.{false≢true, or_cases, and_parts, and_from, cases_order}
use Rattle.journal_defs.proofs.Order.{or-left, or-right}
use Rattle.net_defs.specs.Turn.{IsTurn}
use Rattle.map_defs.specs.NetMap.{NetMap, MapPort, IsMap, map_far, is_switch_vertex}
use Rattle.map_defs.specs.Orientation.{is_up}
use Rattle.fabric_map.proofs.Ends.{port-holds}
use Rattle.fabric_map.proofs.Tables.{shift}
use Rattle.route_calc.specs.Reaching.{may_go, leads_over, leads_near, port_of_place, least_exit, reaches}
use Rattle.route_calc.proofs.First.{First, first-there, first-some}

-- more channels lead no less far
pub reaches-more : (m : NetMap) (order : List ℕ) (to k v : ℕ) (down : Bool) → reaches m order to k v down ≡ true → reaches m order to (suc k) v down ≡ true
reaches-more m order to k v down e = or-left (reaches m order to k v down) _ e

pub reaches-later : (m : NetMap) (order : List ℕ) (to k j v : ℕ) (down : Bool) → k ≤ j → reaches m order to k v down ≡ true → reaches m order to j v down ≡ true
reaches-later m order to k zero v down l e = let z : k ≡ 0 = omega arith in subst (λ i. reaches m order to i v down ≡ true) z e
reaches-later m order to k (suc j) v down l e = by (cases_order k (suc j)) (λ a. reaches-later m order to k j v down a e)
  where
    by : (k ≡ suc j) ⊎ ((k < suc j) ⊎ (suc j < k)) → (k ≤ j → reaches m order to j v down ≡ true) → reaches m order to (suc j) v down ≡ true
    by (inl p) rest = subst (λ i. reaches m order to i v down ≡ true) p e
    by (inr (inl a)) rest = reaches-more m order to j v down (rest (omega arith))
    by (inr (inr a)) rest = absurd (omega arith)

-- what is allowed after a channel down is allowed before one too
over-free : (near : ℕ → Bool → Bool) (up : Bool) (o : Option MapPort) → leads_over near true up o ≡ true → leads_over near false up o ≡ true
over-free near up None e = e
over-free near true (Some f) e = absurd (false≢true e)
over-free near false (Some f) e = e

pub reaches-free : (m : NetMap) (order : List ℕ) (to k v : ℕ) → reaches m order to k v true ≡ true → reaches m order to k v false ≡ true
reaches-free m order to zero v e = e
reaches-free m order to (suc k) v e = by (or_cases (reaches m order to k v true) _ e) (reaches-free m order to k v)
  where
    by : (reaches m order to k v true ≡ true) ⊎ ((is_switch_vertex m v && is_some (least_exit m order (reaches m order to k) v true)) ≡ true) → (reaches m order to k v true ≡ true → reaches m order to k v false ≡ true) → reaches m order to (suc k) v false ≡ true
    by (inl p) rest = reaches-more m order to k v false (rest p)
    by (inr p) rest =
        let two = and_parts (is_switch_vertex m v) (is_some (least_exit m order (reaches m order to k) v true)) p in
        let there = first-there 31 (λ j. leads_near m order (reaches m order to k) true (port_of_place v j)) two.1 in
        let free = over-free (reaches m order to k) (is_up m order (port_of_place v there.at)) (map_far m (port_of_place v there.at)) there.passes in
        or-right (reaches m order to k v false) _ (and_from (is_switch_vertex m v) (is_some (least_exit m order (reaches m order to k) v false)) two.0 (first-some 31 there.at (λ j. leads_near m order (reaches m order to k) false (port_of_place v j)) there.low free))

-- a cabled port has a place
pub record Place (d : MapPort) : Type 0 where
  pub at : ℕ
  pub low : at < 31
  pub is : port_of_place d.v at ≡ d

pub placed : (m : NetMap) (d e : MapPort) → IsMap m → map_far m d ≡ Some e → Place d
placed m d e r f =
    let s = shift d.p (port-holds (λ (x : MapPort). IsTurn x.p) m.cables d e r.ports_in_range f) in
    record { at = nat_abs (d.p +ℤ pos 15); low = s.0; is = λ i. record { v = d.v; p = sym s.1 i } }

-- a switch leads on over each of its channels that is legal
pub reaches-over : (m : NetMap) (order : List ℕ) (to k : ℕ) (down : Bool) (d e : MapPort) → IsMap m → is_switch_vertex m d.v ≡ true → map_far m d ≡ Some e → may_go down (is_up m order d) ≡ true → reaches m order to k e.v (not (is_up m order d)) ≡ true → reaches m order to (suc k) d.v down ≡ true
reaches-over m order to k down d e r switch far go near =
    let p = placed m d e r far in
    let over : leads_over (reaches m order to k) down (is_up m order d) (map_far m d) ≡ true = ap (leads_over (reaches m order to k) down (is_up m order d)) far ∙ and_from (may_go down (is_up m order d)) (reaches m order to k e.v (not (is_up m order d))) go near in
    let at : leads_near m order (reaches m order to k) down (port_of_place d.v p.at) ≡ true = ap (leads_near m order (reaches m order to k) down) p.is ∙ over in
    or-right (reaches m order to k d.v down) _ (and_from (is_switch_vertex m d.v) (is_some (least_exit m order (reaches m order to k) d.v down)) switch (first-some 31 p.at (λ j. leads_near m order (reaches m order to k) down (port_of_place d.v j)) p.low at))

-- The least channel by which a vertex goes on.
pub record Exit (m : NetMap) (order : List ℕ) (near : ℕ → Bool → Bool) (v : ℕ) (down : Bool) : Type 0 where
  pub at : ℕ
  pub is : least_exit m order near v down ≡ Some at
  pub least : (i : ℕ) → i < at → leads_near m order near down (port_of_place v i) ≡ false
  pub switch : is_switch_vertex m v ≡ true
  pub far : MapPort
  pub leads : map_far m (port_of_place v at) ≡ Some far
  pub legal : may_go down (is_up m order (port_of_place v at)) ≡ true
  pub near_there : near far.v (not (is_up m order (port_of_place v at))) ≡ true

pub exit : (m : NetMap) (order : List ℕ) (to k v : ℕ) (down : Bool) → reaches m order to (suc k) v down ≡ true → reaches m order to k v down ≡ false → Exit m order (reaches m order to k) v down
exit m order to k v down e new = by (or_cases (reaches m order to k v down) _ e)
  where
    make : is_switch_vertex m v ≡ true → (f : First 31 (λ j. leads_near m order (reaches m order to k) down (port_of_place v j))) → (o : Option MapPort) → map_far m (port_of_place v f.at) ≡ o → leads_over (reaches m order to k) down (is_up m order (port_of_place v f.at)) o ≡ true → Exit m order (reaches m order to k) v down
    make switch f None far over = absurd (false≢true over)
    make switch f (Some x) far over =
        let two = and_parts (may_go down (is_up m order (port_of_place v f.at))) (reaches m order to k x.v (not (is_up m order (port_of_place v f.at)))) over in
        record { at = f.at; is = f.is; least = f.least; switch = switch; far = x; leads = far; legal = two.0; near_there = two.1 }

    by : (reaches m order to k v down ≡ true) ⊎ ((is_switch_vertex m v && is_some (least_exit m order (reaches m order to k) v down)) ≡ true) → Exit m order (reaches m order to k) v down
    by (inl p) = absurd (false≢true (sym new ∙ p))
    by (inr p) =
        let two = and_parts (is_switch_vertex m v) (is_some (least_exit m order (reaches m order to k) v down)) p in
        let f = first-there 31 (λ j. leads_near m order (reaches m order to k) down (port_of_place v j)) two.1 in
        make two.0 f (map_far m (port_of_place v f.at)) refl f.passes
