-- Two hosts at one switch: what is neither of them is as far from the one as from the other.
use Rattle.std.proofs.Common.{◌≡◌, ◌≢◌, ◌<◌, ◌-◌, ◌*◌, ℕ, zero, suc, List, [], ◌∷◌, length, get_or, set, Bool, true, false, not, ◌&&◌, ◌||◌, nat_eq, nat_le, Option, Some, None, IfSome, is_some, refl, ap, sym, ◌∙◌, subst, arith, ◌⊎◌, inl, inr, if◌then◌else◌, get_or-set_other, get_or-set_same}
use Rattle.std.specs.Prelude.{slice_get}
use Rattle.std.specs.List.{AllByRecursion, list_any}
use Rattle.std.proofs.Math.ListN.{length-set}
use Rattle.std.proofs.lemmas.Bool.{false≢true, or_cases, and_parts, and_from}
use Rattle.std.proofs.lemmas.Bool.Decides.{Decides-eqb, nat_tests}
use Rattle.journal_defs.proofs.Members.{IsMember, all-from-members}
use Rattle.map_defs.specs.NetMap.{NetMap, MapPort, IsMap, IsCabled, map_far, is_switch_vertex}
use Rattle.map_defs.specs.NetMap.IsCabled.{forth, back}
use Rattle.map_defs.specs.Orientation.{is_up}
use Rattle.map_defs.proofs.Levels.{switch-there}
use Rattle.map_defs.proofs.Ports.{far_is_cabled}
use Rattle.route_calc.specs.declared.entered.Exit.{Exit}
use Rattle.route_calc.specs.Beside.{are_hung, leads_down_to, far_beside, AreFirstsBeside}
use Rattle.route_calc.specs.Exits.{all_exits, exits_at, exits_of, is_open}
use Rattle.route_calc.specs.Far.{place_in, far_at, AreDistances}
use Rattle.route_calc.specs.First.{first_below}
use Rattle.route_calc.specs.Firsts.{IsFirst, AreFirst}
use Rattle.route_calc.specs.Hosts.{HostWays, AreWaysOf, ways_before}
use Rattle.route_calc.specs.Reaching.{may_go, leads_over, leads_near, port_of_place, least_exit, reaches}
use Rattle.route_calc.specs.Turning.{first_exit}
use Rattle.route_calc.proofs.First.{first-some}
use Rattle.route_calc.proofs.Least.{IsHostAt, host-at, entered-once}
use Rattle.route_calc.proofs.Listed.{exits-any}
use Rattle.route_calc.proofs.Lowered.{Channel, channel-of, place-low, place-once}
use Rattle.route_calc.proofs.Reached.{reaches-later}

-- a cable leads back
turned : (m : NetMap) (x y : MapPort) → IsCabled m x y → IsCabled m y x
turned m x y (forth k p) = back k p
turned m x y (back k p) = forth k p

pub leads-back : (m : NetMap) (d e : MapPort) → IsMap m → map_far m d ≡ Some e → map_far m e ≡ Some d
leads-back m d e r f = (far_is_cabled m e d r).1 (turned m d e ((far_is_cabled m d e r).0 f))

-- a host is entered from one port alone
entered-from : (m : NetMap) (h v : ℕ) (c f d e : MapPort) → IsMap m → IsHostAt m h v → map_far m c ≡ Some f → f.v ≡ v → map_far m d ≡ Some e → e.v ≡ v → c ≡ d
entered-from m h v c f d e r host far_c at_c far_d at_d =
    let one : f ≡ e = entered-once m h v r host c f far_c at_c ∙ sym (entered-once m h v r host d e far_d at_d) in
    let both : ◌≡◌ {A = Option MapPort} (Some c) (Some d) = sym (leads-back m c f r far_c) ∙ ap (map_far m) one ∙ leads-back m d e r far_d in
    let same : c ≡ d = cc in
    same

-- A channel down from a switch to a host, which has no other.
pub record Hangs (m : NetMap) (order : List ℕ) (s v : ℕ) : Type 0 where
  pub exit : Exit
  pub channel : Channel m order s true exit
  pub there : exit.next.v ≡ v
  pub plain : is_switch_vertex m v ≡ false
  pub alone : (d e : MapPort) → map_far m d ≡ Some e → e.v ≡ v → d.v ≡ s

record Found (p : Exit → Bool) (xs : List Exit) : Type 0 where
  pub exit : Exit
  pub member : IsMember exit xs
  pub passes : p exit ≡ true

found : (p : Exit → Bool) (xs : List Exit) → list_any p xs ≡ true → Found p xs
found p [] e = absurd (false≢true e)
found p (x ∷ xs) e = by (or_cases (p x) (list_any p xs) e) (found p xs)
  where
    by : (p x ≡ true) ⊎ (list_any p xs ≡ true) → (list_any p xs ≡ true → Found p xs) → Found p (x ∷ xs)
    by (inl q) rest = record { exit = x; member = inl refl; passes = q }
    by (inr q) rest = let f = rest q in record { exit = f.exit; member = inr f.member; passes = f.passes }

pub hangs : (m : NetMap) (order : List ℕ) (s h v : ℕ) → IsMap m → IsHostAt m h v → list_any (leads_down_to v) (exits_of m order s) ≡ true → Hangs m order s v
hangs m order s h v r host e =
    let f = found (leads_down_to v) (exits_of m order s) e in
    let two = and_parts f.exit.next.down (nat_eq f.exit.next.v v) f.passes in
    let at : f.exit.next.v ≡ v = (Decides-eqb f.exit.next.v v).0 two.1 in
    let c = channel-of m order s true f.exit f.member two.0 in
    record {
      exit = f.exit;
      channel = c;
      there = at;
      plain = host.plain;
      alone = λ d x far is. ap (λ (z : MapPort). z.v) (entered-from m h v d x (port_of_place s c.place) c.far r host far is c.leads (sym c.vertex ∙ at));
    }

differ-false : (x y : ℕ) → x ≢ y → nat_eq x y ≡ false
differ-false x y n = by (nat_eq x y) refl
  where
    by : (b : Bool) → nat_eq x y ≡ b → nat_eq x y ≡ false
    by true e = absurd (n ((Decides-eqb x y).0 e))
    by false e = e

differs : (x y : ℕ) → nat_eq x y ≡ false → x ≢ y
differs x y e same = false≢true (sym e ∙ (Decides-eqb x y).1 same)

-- a vertex leads to itself, and what is no switch to nothing else
itself : (m : NetMap) (order : List ℕ) (to k : ℕ) (phase : Bool) → reaches m order to k to phase ≡ true
itself m order to k phase = reaches-later m order to zero k to phase (omega arith) ((Decides-eqb to to).1 refl)

nowhere : (m : NetMap) (order : List ℕ) (to k v : ℕ) (phase : Bool) → is_switch_vertex m v ≡ false → v ≢ to → reaches m order to k v phase ≡ false
nowhere m order to zero v phase p n = differ-false v to n
nowhere m order to (suc k) v phase p n = λ i. nowhere m order to k v phase p n i || (p i && is_some (least_exit m order (reaches m order to k) v phase))

-- a channel down may be taken by all packets
may-after : (phase up : Bool) → may_go true up ≡ true → may_go phase up ≡ true
may-after true up e = e
may-after false up e = refl

-- at the switch a port leads to the host
at-switch : (m : NetMap) (order : List ℕ) (s v k : ℕ) (phase : Bool) → Hangs m order s v → is_some (least_exit m order (reaches m order v k) s phase) ≡ true
at-switch m order s v k phase h =
    let c = h.channel in
    let up : Bool = is_up m order (port_of_place s c.place) in
    let near : reaches m order v k c.far.v (not up) ≡ true = subst (λ z. reaches m order v k z (not up) ≡ true) (sym h.there ∙ c.vertex) (itself m order v k (not up)) in
    let passes : leads_near m order (reaches m order v k) phase (port_of_place s c.place) ≡ true =
    ap (leads_over (reaches m order v k) phase up) c.leads ∙ and_from (may_go phase up) (reaches m order v k c.far.v (not up)) (may-after phase up c.legal) near in
    first-some 31 c.place (λ j. leads_near m order (reaches m order v k) phase (port_of_place s j)) c.low passes

-- where as much is near, a vertex goes on to as much
exits-same : (m : NetMap) (order : List ℕ) (s a b k v : ℕ) (phase : Bool) → Hangs m order s a → Hangs m order s b → ((u : ℕ) (ph : Bool) → u ≢ a → u ≢ b → reaches m order a k u ph ≡ reaches m order b k u ph) → is_some (least_exit m order (reaches m order a k) v phase) ≡ is_some (least_exit m order (reaches m order b k) v phase)
exits-same m order s a b k v phase x y rest = by (nat_eq v s) refl
  where
    each : v ≢ s → (j : ℕ) (o : Option MapPort) → map_far m (port_of_place v j) ≡ o → leads_near m order (reaches m order a k) phase (port_of_place v j) ≡ leads_near m order (reaches m order b k) phase (port_of_place v j)
    each n j None f = ap (leads_over (reaches m order a k) phase (is_up m order (port_of_place v j))) f ∙ sym (ap (leads_over (reaches m order b k) phase (is_up m order (port_of_place v j))) f)
    each n j (Some z) f =
        ap (leads_over (reaches m order a k) phase (is_up m order (port_of_place v j))) f
        ∙ ap (λ t. may_go phase (is_up m order (port_of_place v j)) && t) (rest z.v (not (is_up m order (port_of_place v j))) (λ e. n (x.alone (port_of_place v j) z f e)) (λ e. n (y.alone (port_of_place v j) z f e)))
        ∙ sym (ap (leads_over (reaches m order b k) phase (is_up m order (port_of_place v j))) f)

    here : v ≡ s → is_some (least_exit m order (reaches m order a k) v phase) ≡ is_some (least_exit m order (reaches m order b k) v phase)
    here e = subst (λ z. is_some (least_exit m order (reaches m order a k) z phase) ≡ is_some (least_exit m order (reaches m order b k) z phase)) (sym e) (at-switch m order s a k phase x ∙ sym (at-switch m order s b k phase y))

    by : (t : Bool) → nat_eq v s ≡ t → is_some (least_exit m order (reaches m order a k) v phase) ≡ is_some (least_exit m order (reaches m order b k) v phase)
    by true e = here ((Decides-eqb v s).0 e)
    by false e = λ i. is_some (first_below 31 (λ j. each (differs v s e) j (map_far m (port_of_place v j)) refl i))

pub as-far : (m : NetMap) (order : List ℕ) (s a b k v : ℕ) (phase : Bool) → Hangs m order s a → Hangs m order s b → v ≢ a → v ≢ b → reaches m order a k v phase ≡ reaches m order b k v phase
as-far m order s a b zero v phase x y p q = differ-false v a p ∙ sym (differ-false v b q)
as-far m order s a b (suc k) v phase x y p q =
    let rest : (u : ℕ) (ph : Bool) → u ≢ a → u ≢ b → reaches m order a k u ph ≡ reaches m order b k u ph = λ u ph f g. as-far m order s a b k u ph x y f g in
    let on = exits-same m order s a b k v phase x y rest in
    λ i. rest v phase p q i || (is_switch_vertex m v && on i)

-- the distances that are put in the places of two vertices
apart : (u v : ℕ) (p q : Bool) → u ≢ v → place_in u p ≢ place_in v q
apart u v p q n e = n (place-once u v p q e).0

abbrev first_gone : List ℕ → ℕ → List ℕ
first_gone far a = set (set far (place_in a false) 255) (place_in a true) 255

gone-long : (far : List ℕ) (a : ℕ) → length (first_gone far a) ≡ length far
gone-long far a = length-set (set far (place_in a false) 255) (place_in a true) 255 ∙ length-set far (place_in a false) 255

pub far-long : (far : List ℕ) (a b : ℕ) → length (far_beside far a b) ≡ length far
far-long far a b = length-set (set (first_gone far a) (place_in b false) 0) (place_in b true) 0 ∙ length-set (first_gone far a) (place_in b false) 0 ∙ gone-long far a

pub firsts-long : (exits : List (List Exit)) (far : List ℕ) (s : ℕ) (old new : List ℕ) → AreFirstsBeside exits far s old new → length new ≡ length old
firsts-long exits far s old new f = ap length f.is ∙ length-set (set old (place_in s false) f.free) (place_in s true) f.down ∙ length-set old (place_in s false) f.free

far-second : (far : List ℕ) (a b : ℕ) (phase : Bool) → place_in b true < length far → far_at (far_beside far a b) b phase ≡ 0
far-second far a b true low =
    let long : length (set (first_gone far a) (place_in b false) 0) ≡ length far = length-set (first_gone far a) (place_in b false) 0 ∙ gone-long far a in
    get_or-set_same (set (first_gone far a) (place_in b false) 0) (place_in b true) 0 255 (subst (λ n. place_in b true < n) (sym long) low)
far-second far a b false low =
    let long = gone-long far a in
    let less : place_in b false < length (first_gone far a) = omega arith in
    get_or-set_other (set (first_gone far a) (place_in b false) 0) (place_in b true) (place_in b false) 0 255 (λ e. absurd (omega arith))
    ∙ get_or-set_same (first_gone far a) (place_in b false) 0 255 less

past-second : (far : List ℕ) (a b v : ℕ) (phase : Bool) → v ≢ b → far_at (far_beside far a b) v phase ≡ far_at (first_gone far a) v phase
past-second far a b v phase n =
    get_or-set_other (set (first_gone far a) (place_in b false) 0) (place_in b true) (place_in v phase) 0 255 (apart v b phase true n)
    ∙ get_or-set_other (first_gone far a) (place_in b false) (place_in v phase) 0 255 (apart v b phase false n)

far-first : (far : List ℕ) (a b : ℕ) (phase : Bool) → a ≢ b → place_in a true < length far → far_at (far_beside far a b) a phase ≡ 255
far-first far a b phase n low = past-second far a b a phase n ∙ by phase
  where
    by : (phase : Bool) → far_at (first_gone far a) a phase ≡ 255
    by true =
        let long : length (set far (place_in a false) 255) ≡ length far = length-set far (place_in a false) 255 in
        get_or-set_same (set far (place_in a false) 255) (place_in a true) 255 255 (subst (λ n. place_in a true < n) (sym long) low)
    by false =
        get_or-set_other (set far (place_in a false) 255) (place_in a true) (place_in a false) 255 255 (λ e. absurd (omega arith))
        ∙ get_or-set_same far (place_in a false) 255 255 (omega arith)

far-other : (far : List ℕ) (a b v : ℕ) (phase : Bool) → v ≢ a → v ≢ b → far_at (far_beside far a b) v phase ≡ far_at far v phase
far-other far a b v phase p q =
    past-second far a b v phase q
    ∙ get_or-set_other (set far (place_in a false) 255) (place_in a true) (place_in v phase) 255 255 (apart v a phase true p)
    ∙ get_or-set_other far (place_in a false) (place_in v phase) 255 255 (apart v a phase false p)

none-le : (k : ℕ) → nat_le 0 k ≡ true
none-le k = grind (arith, nat_tests)

far-le : (k : ℕ) → k < 255 → nat_le 255 k ≡ false
far-le k l = grind (arith, nat_tests)

-- the distances to the second host
pub distances-beside : (m : NetMap) (order : List ℕ) (s a b : ℕ) (far : List ℕ) → Hangs m order s a → Hangs m order s b → a ≢ b → place_in a true < length far → place_in b true < length far → AreDistances m order a far → AreDistances m order b (far_beside far a b)
distances-beside m order s a b far x y n low_a low_b d = record { each = λ k v down l. by k v down l (nat_eq v b) refl (nat_eq v a) refl }
  where
    second : (k : ℕ) (down : Bool) → nat_le (far_at (far_beside far a b) b down) k ≡ reaches m order b k b down
    second k down = ap (λ z. nat_le z k) (far-second far a b down low_b) ∙ none-le k ∙ sym (itself m order b k down)

    first : (k : ℕ) (down : Bool) → k < 255 → nat_le (far_at (far_beside far a b) a down) k ≡ reaches m order b k a down
    first k down l = ap (λ z. nat_le z k) (far-first far a b down n low_a) ∙ far-le k l ∙ sym (nowhere m order b k a down x.plain n)

    by : (k v : ℕ) (down : Bool) → k < 255 → (t : Bool) → nat_eq v b ≡ t → (u : Bool) → nat_eq v a ≡ u → nat_le (far_at (far_beside far a b) v down) k ≡ reaches m order b k v down
    by k v down l true e u f = subst (λ z. nat_le (far_at (far_beside far a b) z down) k ≡ reaches m order b k z down) (sym ((Decides-eqb v b).0 e)) (second k down)
    by k v down l false e true f = subst (λ z. nat_le (far_at (far_beside far a b) z down) k ≡ reaches m order b k z down) (sym ((Decides-eqb v a).0 f)) (first k down l)
    by k v down l false e false f =
        ap (λ z. nat_le z k) (far-other far a b v down (differs v a f) (differs v b e)) ∙ d.each k v down l ∙ as-far m order s a b k v down x y (differs v a f) (differs v b e)

-- ports that lead as far
first-same : (far new : List ℕ) (left : ℕ) (down : Bool) (xs : List Exit) → AllByRecursion (λ x. far_at new x.next.v x.next.down ≡ far_at far x.next.v x.next.down) xs → first_exit new left down xs ≡ first_exit far left down xs
first-same far new left down [] all = refl
first-same far new left down (x ∷ xs) all = λ i. if (is_open down x && nat_le (all.0 i) left) then Some x else first-same far new left down xs all.1 i

leads-same : (m : NetMap) (order : List ℕ) (s a b v : ℕ) (far : List ℕ) → Hangs m order s a → Hangs m order s b → v ≢ s → AllByRecursion (λ x. far_at (far_beside far a b) x.next.v x.next.down ≡ far_at far x.next.v x.next.down) (exits_of m order v)
leads-same m order s a b v far x y n = all-from-members (λ z. far_at (far_beside far a b) z.next.v z.next.down ≡ far_at far z.next.v z.next.down) (exits_of m order v) (λ z i. one z (channel-of m order v false z i refl))
  where
    one : (z : Exit) → Channel m order v false z → far_at (far_beside far a b) z.next.v z.next.down ≡ far_at far z.next.v z.next.down
    one z c = far-other far a b z.next.v z.next.down (λ e. n (x.alone (port_of_place v c.place) c.far c.leads (sym c.vertex ∙ e))) (λ e. n (y.alone (port_of_place v c.place) c.far c.leads (sym c.vertex ∙ e)))

-- the first ports to the second host
pub firsts-beside : (m : NetMap) (order : List ℕ) (s a b : ℕ) (far firsts new : List ℕ) → IsMap m → Hangs m order s a → Hangs m order s b → a ≢ b → place_in a true < length far → place_in b true < length far → place_in s true < length firsts → AreFirst (all_exits m order) far firsts → AreFirstsBeside (all_exits m order) (far_beside far a b) s firsts new → AreFirst (all_exits m order) (far_beside far a b) new
firsts-beside m order s a b far firsts new r x y n low_a low_b low_s old f v down = subst (λ (l : List ℕ). IsFirst (all_exits m order) (far_beside far a b) v down (get_or l (place_in v down) 0)) (sym f.is) (by (nat_eq v s) refl)
  where
    numbers : List ℕ
    numbers = set (set firsts (place_in s false) f.free) (place_in s true) f.down

    exits : List (List Exit)
    exits = all_exits m order

    at-s : (phase : Bool) → IsFirst exits (far_beside far a b) s phase (get_or numbers (place_in s phase) 0)
    at-s true =
        let long : length (set firsts (place_in s false) f.free) ≡ length firsts = length-set firsts (place_in s false) f.free in
        subst (IsFirst exits (far_beside far a b) s true) (sym (get_or-set_same (set firsts (place_in s false) f.free) (place_in s true) f.down 0 (subst (λ n. place_in s true < n) (sym long) low_s))) f.is_down
    at-s false =
        subst (IsFirst exits (far_beside far a b) s false)
        (sym
        (get_or-set_other (set firsts (place_in s false) f.free) (place_in s true) (place_in s false) f.down 0 (λ e. absurd (omega arith))
        ∙ get_or-set_same firsts (place_in s false) f.free 0 (omega arith)))
        f.is_free

    number : v ≢ s → get_or numbers (place_in v down) 0 ≡ get_or firsts (place_in v down) 0
    number q =
        get_or-set_other (set firsts (place_in s false) f.free) (place_in s true) (place_in v down) f.down 0 (apart v s down true q)
        ∙ get_or-set_other firsts (place_in s false) (place_in v down) f.free 0 (apart v s down false q)

    elsewhere : v ≢ s → v ≢ a → v ≢ b → IsFirst exits (far_beside far a b) v down (get_or numbers (place_in v down) 0)
    elsewhere q p t some few =
        let at : far_at (far_beside far a b) v down ≡ far_at far v down = far-other far a b v down p t in
        let all = subst (AllByRecursion (λ z. far_at (far_beside far a b) z.next.v z.next.down ≡ far_at far z.next.v z.next.down)) (sym (exits-any m order v r)) (leads-same m order s a b v far x y q) in
        ap (slice_get (exits_at exits v)) (number q)
        ∙ old v down (subst (λ z. 0 < z) at some) (subst (λ z. z < 255) at few)
        ∙ ap (λ z. first_exit far (z - 1) down (exits_at exits v)) (sym at)
        ∙ sym (first-same far (far_beside far a b) (far_at (far_beside far a b) v down - 1) down (exits_at exits v) all)

    past : v ≢ s → (t : Bool) → nat_eq v b ≡ t → (u : Bool) → nat_eq v a ≡ u → IsFirst exits (far_beside far a b) v down (get_or numbers (place_in v down) 0)
    past q true e u g some few =
        let none : far_at (far_beside far a b) v down ≡ 0 = subst (λ z. far_at (far_beside far a b) z down ≡ 0) (sym ((Decides-eqb v b).0 e)) (far-second far a b down low_b) in
        absurd (omega arith)
    past q false e true g some few =
        let most : far_at (far_beside far a b) v down ≡ 255 = subst (λ z. far_at (far_beside far a b) z down ≡ 255) (sym ((Decides-eqb v a).0 g)) (far-first far a b down n low_a) in
        absurd (omega arith)
    past q false e false g some few = elsewhere q (differs v a g) (differs v b e) some few

    by : (t : Bool) → nat_eq v s ≡ t → IsFirst exits (far_beside far a b) v down (get_or numbers (place_in v down) 0)
    by true e = subst (λ z. IsFirst exits (far_beside far a b) z down (get_or numbers (place_in z down) 0)) (sym ((Decides-eqb v s).0 e)) (at-s down)
    by false e = past (differs v s e) (nat_eq v b) refl (nat_eq v a) refl

pub slice-holds : {X : Type 0} (P : X → Type 0) (xs : List X) (k : ℕ) (x : X) → AllByRecursion P xs → slice_get xs k ≡ Some x → P x
slice-holds P [] k x all e = cc
slice-holds P (y ∷ ys) zero x all e = let one : y ≡ x = cc in subst P one all.0
slice-holds P (y ∷ ys) (suc k) x all e = slice-holds P ys k x all.1 e

-- the ways before those at a place
pub before-holds : (P : HostWays → Type 0) (ws : List HostWays) (k : ℕ) → AllByRecursion P ws → IfSome (ways_before ws k) P
before-holds P ws zero all = tt
before-holds P ws (suc k) all = by (slice_get ws k) refl
  where
    by : (o : Option HostWays) → slice_get ws k ≡ o → IfSome o P
    by None e = tt
    by (Some w) e = slice-holds P ws k w all e

pub before-there : (ws : List HostWays) (k : ℕ) → 0 < k → ways_before ws k ≡ slice_get ws (k - 1)
before-there ws zero l = absurd (omega arith)
before-there ws (suc k) l = let n : k ≡ suc k - 1 = omega arith in ap (slice_get ws) n

-- Two hosts that hang at one switch.
pub record AreBeside (m : NetMap) (order : List ℕ) (s a b : ℕ) : Type 0 where
  pub first : Hangs m order s a
  pub second : Hangs m order s b
  pub differ : a ≢ b
  pub there : s < length m.vertices

pub are-beside : (m : NetMap) (order : List ℕ) (s a b g h : ℕ) → IsMap m → IsHostAt m g a → IsHostAt m h b → are_hung m s a b (exits_at (all_exits m order) s) ≡ true → AreBeside m order s a b
are-beside m order s a b g h r x y e =
    let xs = exits_of m order s in
    let hung : are_hung m s a b xs ≡ true = sym (ap (are_hung m s a b) (exits-any m order s r)) ∙ e in
    let one = and_parts (not (nat_eq a b)) (is_switch_vertex m s && (list_any (leads_down_to a) xs && list_any (leads_down_to b) xs)) hung in
    let two = and_parts (is_switch_vertex m s) (list_any (leads_down_to a) xs && list_any (leads_down_to b) xs) one.1 in
    let three = and_parts (list_any (leads_down_to a) xs) (list_any (leads_down_to b) xs) two.1 in
    record {
      first = hangs m order s g a r x three.0;
      second = hangs m order s h b r y three.1;
      differ = λ same. false≢true (sym (ap not ((Decides-eqb a b).1 same)) ∙ one.0);
      there = switch-there m.vertices s two.0;
    }

pub has-room : (m : NetMap) (far : List ℕ) (v : ℕ) → length far ≡ 2 * length m.vertices → v < length m.vertices → place_in v true < length far
has-room m far v long low = subst (λ n. place_in v true < n) (sym long) (place-low (length m.vertices) v true low)

-- the ways to the second host
pub beside-distances : (m : NetMap) (order : List ℕ) (s b h : ℕ) (from : HostWays) → IsHostAt m h b → AreWaysOf m order from → AreBeside m order s from.vertex b → AreDistances m order b (far_beside from.far from.vertex b)
beside-distances m order s b h from host ways both =
    let low = (host-at m from.host from.vertex ways.is_vertex).there in
    distances-beside m order s from.vertex b from.far both.first both.second both.differ (has-room m from.far from.vertex ways.long low) (has-room m from.far b ways.long host.there) ways.are_distances

pub beside-firsts : (m : NetMap) (order : List ℕ) (s b h : ℕ) (from : HostWays) (new : List ℕ) → IsMap m → IsHostAt m h b → AreWaysOf m order from → AreBeside m order s from.vertex b → AreFirstsBeside (all_exits m order) (far_beside from.far from.vertex b) s from.firsts new → AreFirst (all_exits m order) (far_beside from.far from.vertex b) new
beside-firsts m order s b h from new r host ways both f =
    let low = (host-at m from.host from.vertex ways.is_vertex).there in
    firsts-beside m order s from.vertex b from.far from.firsts new r both.first both.second both.differ (has-room m from.far from.vertex ways.long low) (has-room m from.far b ways.long host.there) (has-room m from.firsts s (ways.firsts_long ∙ ways.long) both.there) ways.are_first f
