-- The search leads each way on to each vertex that is new, until one may end a path; where none may, no path begins with the first step.
use Rattle.std.proofs.Common.{◌≡◌, ◌≢◌, ◌<◌, ◌≤◌, ◌+◌, ◌*◌, ℕ, zero, suc, List, [], ◌∷◌, ◌++◌, length, map, Bool, true, false, not, ◌&&◌, ◌||◌, Option, Some, None, sym, ◌∙◌, subst, ap, true≢false, refl, arith, ◌⊎◌, inl, inr, nat_eq, nat_lt, if◌then◌else◌}
use Rattle.std.specs.Prelude.{slice_get, slice_index_or}
use Rattle.std.specs.List.{AllByRecursion, list_any}
use Rattle.std.proofs.lemmas.Bool.{false≢true, and_parts, cases_order, or_cases}
use Rattle.std.proofs.lemmas.Bool.Decides.{Decides-eqb, nat_tests}
use Rattle.std.proofs.lemmas.List.{length-append, map-append, append_assoc, append-nil}
use Rattle.std.proofs.lemmas.Option.{slice_get_within}
use Rattle.net_defs.specs.declared.vertex.Vertex.{Vertex}
use Rattle.net_defs.specs.declared.vertex.Vertex.TheVariants.{Host, Switch}
use Rattle.net_defs.specs.declared.vertex.End.{End}
use Rattle.net_defs.specs.declared.vertex.Cable.{Cable}
use Rattle.net_defs.specs.Network.{Network, IsFabric, Apart, has_vertex, same_vertex}
use Rattle.net_defs.proofs.Distinct.{all-push, apart-push, all-weaker}
use Rattle.net_defs.proofs.Ends.{same_vertex-true, same_vertex-refl}
use Rattle.journal_defs.specs.Counting.{numbers_below}
use Rattle.journal_defs.proofs.Members.{length-numbers, number-member}
use Rattle.journal_defs.proofs.Order.{or-left, or-right}
use Rattle.circ_defs.specs.Ways.{AreAmong, IsNewWay, IsOneOf, IsPath, IsStep, IsTouched, IsWay, Joins, Step, cables_on}
use Rattle.circ_defs.specs.Ways.Joins.{forth, back}
use Rattle.circ_defs.specs.Circuit.{are_apart}
use Rattle.circ_defs.proofs.Cables.{joins-back, joins-low}
use Rattle.circ_defs.proofs.Numbers.{apart-parts, are_apart-push, few}
use Rattle.circ_defs.proofs.Ways.{new-way, one-of-either, way-push}
use Rattle.circ_ears.proofs.Onward.{Stops, joins-vertex, outs, short-path}
use Rattle.circ_ears.specs.Search.{HasNoPathBy, IsBegunBy, is_reached, led_beside, led_on, led_over, led_over_all, may_end}
use Rattle.circ_ears.specs.Trails.{end_from, end_of}
use Rattle.circ_ears.proofs.Touched.{end-may, may-end, not-end}

-- a number for each vertex
abbrev number_of : Vertex → ℕ
number_of (Host h) = 2 * h
number_of (Switch s) = 2 * s + 1

same-number : (v w : Vertex) → number_of v ≡ number_of w → v ≡ w
same-number (Host g) (Host h) e = ap Host (let one : g ≡ h = omega arith in one)
same-number (Host g) (Switch s) e = absurd (omega arith)
same-number (Switch s) (Host h) e = absurd (omega arith)
same-number (Switch s) (Switch t) e = ap Switch (let one : s ≡ t = omega arith in one)

low-number : (n : Network) (v : Vertex) → IsFabric n → has_vertex n v ≡ true → number_of v < 256
low-number n (Host h) f e = let l : h < length n.hosts = grind (arith, nat_tests) in let m = f.few_hosts in omega arith
low-number n (Switch s) f e = let l : s < length n.switches = grind (arith, nat_tests) in let m = f.few_switches in omega arith

-- where steps lead, with a step more
end-push : (v : Vertex) (ss : List Step) (s : Step) → end_from v (ss ++ s ∷ []) ≡ s.into.v
end-push v [] s = refl
end-push v (x ∷ ss) s = end-push x.into.v ss s

pub way-end : (n : Network) (x z : Vertex) (ss : List Step) → IsWay n x ss z → end_from x ss ≡ z
way-end n x z [] way = way
way-end n x z (s ∷ ss) way = way-end n s.into.v z ss way.2

outs-push : (ss : List Step) (s : Step) → outs (ss ++ s ∷ []) ≡ outs ss ++ s.out.v ∷ []
outs-push [] s = refl
outs-push (x ∷ ss) s = ap (λ l. x.out.v ∷ l) (outs-push ss s)

-- a way that reaches a vertex
record ReachedBy (ws : List (List Step)) (v : Vertex) : Type 0 where
  pub place : ℕ
  pub way : List Step
  pub there : slice_get ws place ≡ Some way
  pub ends : end_of way ≡ v

reached-by : (ws : List (List Step)) (v : Vertex) → is_reached ws v ≡ true → ReachedBy ws v
reached-by [] v e = absurd (false≢true e)
reached-by (w ∷ ws) v e = by (or_cases (same_vertex (end_of w) v) (is_reached ws v) e) (reached-by ws v)
  where
    later : ReachedBy ws v → ReachedBy (w ∷ ws) v
    later r = record { place = suc r.place; way = r.way; there = r.there; ends = r.ends }

    by : (same_vertex (end_of w) v ≡ true) ⊎ (is_reached ws v ≡ true) → (is_reached ws v ≡ true → ReachedBy ws v) → ReachedBy (w ∷ ws) v
    by (inl p) rest = record { place = 0; way = w; there = refl; ends = same_vertex-true (end_of w) v p }
    by (inr p) rest = later (rest p)

reached-more : (ws more : List (List Step)) (v : Vertex) → is_reached ws v ≡ true → is_reached (ws ++ more) v ≡ true
reached-more [] more v e = absurd (false≢true e)
reached-more (w ∷ ws) more v e = by (or_cases (same_vertex (end_of w) v) (is_reached ws v) e) (reached-more ws more v)
  where
    by : (same_vertex (end_of w) v ≡ true) ⊎ (is_reached ws v ≡ true) → (is_reached ws v ≡ true → is_reached (ws ++ more) v ≡ true) → is_reached (w ∷ (ws ++ more)) v ≡ true
    by (inl p) rest = or-left (same_vertex (end_of w) v) (is_reached (ws ++ more) v) p
    by (inr p) rest = or-right (same_vertex (end_of w) v) (is_reached (ws ++ more) v) (rest p)

reached-last : (ws : List (List Step)) (w : List Step) (v : Vertex) → end_of w ≡ v → is_reached (ws ++ w ∷ []) v ≡ true
reached-last [] w v e = or-left (same_vertex (end_of w) v) false (subst (λ y. same_vertex (end_of w) y ≡ true) e (same_vertex-refl (end_of w)))
reached-last (x ∷ ws) w v e = or-right (same_vertex (end_of x) v) (is_reached (ws ++ w ∷ []) v) (reached-last ws w v e)

get-more : (ws more : List (List Step)) (i : ℕ) (w : List Step) → slice_get ws i ≡ Some w → slice_get (ws ++ more) i ≡ Some w
get-more [] more i w e = cc
get-more (x ∷ ws) more zero w e = e
get-more (x ∷ ws) more (suc i) w e = get-more ws more i w e

get-index : (ws : List (List Step)) (i : ℕ) (w : List Step) → slice_get ws i ≡ Some w → slice_index_or ws i [] ≡ w
get-index [] i w e = cc
get-index (x ∷ ws) zero w e = let one : x ≡ w = cc in one
get-index (x ∷ ws) (suc i) w e = get-index ws i w e

-- the ways so far, and perhaps a last one
data IsOldOrLast (ws : List (List Step)) (y w : List Step) (i : ℕ) : Type 0 where
  old_one : slice_get ws i ≡ Some w → IsOldOrLast ws y w i
  last_one : y ≡ w → IsOldOrLast ws y w i

get-push : (ws : List (List Step)) (y w : List Step) (i : ℕ) → slice_get (ws ++ y ∷ []) i ≡ Some w → IsOldOrLast ws y w i
get-push [] y w zero e = last_one (let one : y ≡ w = cc in one)
get-push [] y w (suc i) e = cc
get-push (x ∷ ws) y w zero e = old_one e
get-push (x ∷ ws) y w (suc i) e = by (get-push ws y w i e)
  where
    by : IsOldOrLast ws y w i → IsOldOrLast (x ∷ ws) y w (suc i)
    by (old_one p) = old_one p
    by (last_one p) = last_one p

-- a way from the first step to its end, over vertices that are reached and where no path may end, none twice
pub record IsLed (n : Network) (old : List ℕ) (first : Step) (ws : List (List Step)) (w : List Step) : Type 0 where
  pub rest : List Step
  pub is : w ≡ first ∷ rest
  pub way : IsWay n first.into.v rest (end_of w)
  pub goes_on : AllByRecursion (λ v. may_end n old v ≡ false) (outs rest)
  pub once : Apart (outs rest)
  pub ahead : AllByRecursion (λ v. v ≢ end_of w) (outs rest)
  pub beside : ¬ IsOneOf first.cable (cables_on rest)
  pub reached : AllByRecursion (λ v. is_reached ws v ≡ true) (outs rest)
  pub there : has_vertex n (end_of w) ≡ true

-- the ends of ways, by number
abbrev end_numbers : List (List Step) → List ℕ
end_numbers ws = map (λ w. number_of (end_of w)) ws

-- Ways that are led on, no two to one vertex.
pub record AreLed (n : Network) (old : List ℕ) (first : Step) (ws : List (List Step)) : Type 0 where
  pub each : (i : ℕ) (w : List Step) → slice_get ws i ≡ Some w → IsLed n old first ws w
  pub begun : is_reached ws first.into.v ≡ true
  pub apart : are_apart (end_numbers ws) ≡ true

one-number : (ws : List (List Step)) (v : Vertex) → IsOneOf (number_of v) (end_numbers ws) → is_reached ws v ≡ true
one-number [] v m = absurd m
one-number (w ∷ ws) v (inl e) = or-left (same_vertex (end_of w) v) (is_reached ws v) (subst (λ y. same_vertex (end_of w) y ≡ true) (sym (same-number v (end_of w) e)) (same_vertex-refl (end_of w)))
one-number (w ∷ ws) v (inr m) = or-right (same_vertex (end_of w) v) (is_reached ws v) (one-number ws v m)

-- what is reached isn't what isn't
other-vertex : (ws : List (List Step)) (v : Vertex) (vs : List Vertex) → is_reached ws v ≡ false → AllByRecursion (λ x. is_reached ws x ≡ true) vs → AllByRecursion (λ x. x ≢ v) vs
other-vertex ws v [] new all = tt
other-vertex ws v (x ∷ vs) new all = ((λ e. true≢false (sym all.0 ∙ ap (is_reached ws) e ∙ new)), other-vertex ws v vs new all.1)

all-turned : (v : Vertex) (vs : List Vertex) → AllByRecursion (λ x. x ≢ v) vs → AllByRecursion (λ x. v ≢ x) vs
all-turned v [] all = tt
all-turned v (x ∷ vs) all = ((λ e. all.0 (sym e)), all-turned v vs all.1)

module _ (n : Network) (old : List ℕ) (first : Step) (f : IsFabric n) where
  led-more : (ws more : List (List Step)) (w : List Step) → IsLed n old first ws w → IsLed n old first (ws ++ more) w
  led-more ws more w l = record { rest = l.rest; is = l.is; way = l.way; goes_on = l.goes_on; once = l.once; ahead = l.ahead; beside = l.beside; reached = all-weaker (λ v. is_reached ws v ≡ true) (λ v. is_reached (ws ++ more) v ≡ true) (outs l.rest) (λ v e. reached-more ws more v e) l.reached; there = l.there }

  -- a way with a step more to a vertex that is new
  led-step : (ws : List (List Step)) (at : ℕ) (w : List Step) (s : Step) → slice_get ws at ≡ Some w → IsLed n old first ws w → may_end n old (end_of w) ≡ false → IsStep n s → s.cable ≢ first.cable → end_of w ≡ s.out.v → is_reached ws s.into.v ≡ false → IsLed n old first ws (w ++ s ∷ [])
  led-step ws at w s here l goes step other from new = record {
    rest = l.rest ++ s ∷ [];
    is = ap (λ x. x ++ s ∷ []) l.is;
    way = subst (IsWay n first.into.v (l.rest ++ s ∷ [])) (sym ends) (way-push n first.into.v l.rest s (subst (IsWay n first.into.v l.rest) from l.way) step);
    goes_on = subst (AllByRecursion (λ v. may_end n old v ≡ false)) (sym (outs-push l.rest s)) (all-push (λ v. may_end n old v ≡ false) (outs l.rest) s.out.v l.goes_on (subst (λ v. may_end n old v ≡ false) from goes));
    once = subst Apart (sym (outs-push l.rest s)) (apart-push (outs l.rest) s.out.v l.once (all-turned s.out.v (outs l.rest) (subst (λ v. AllByRecursion (λ x. x ≢ v) (outs l.rest)) from l.ahead)));
    ahead = subst (λ v. AllByRecursion (λ x. x ≢ v) (outs (l.rest ++ s ∷ []))) (sym ends) (other-vertex ws s.into.v (outs (l.rest ++ s ∷ [])) new all);
    beside = λ m. by (one-of-either first.cable l.rest (s ∷ []) m);
    reached = all;
    there = subst (λ v. has_vertex n v ≡ true) (sym ends) (joins-vertex n s.cable s.into s.out f (joins-back n s.cable s.out s.into step));
  }
    where
      ends : end_of (w ++ s ∷ []) ≡ s.into.v
      ends = end-push (Host 0) w s

      all : AllByRecursion (λ v. is_reached ws v ≡ true) (outs (l.rest ++ s ∷ []))
      all = subst (AllByRecursion (λ v. is_reached ws v ≡ true)) (sym (outs-push l.rest s)) (all-push (λ v. is_reached ws v ≡ true) (outs l.rest) s.out.v l.reached (subst (λ v. is_reached ws v ≡ true) from (here-reached ws at w here)))
        where
          here-reached : (ws : List (List Step)) (at : ℕ) (w : List Step) → slice_get ws at ≡ Some w → is_reached ws (end_of w) ≡ true
          here-reached [] at w e = cc
          here-reached (x ∷ ws) zero w e = let one : x ≡ w = cc in or-left (same_vertex (end_of x) (end_of w)) (is_reached ws (end_of w)) (subst (λ y. same_vertex (end_of x) (end_of y) ≡ true) one (same_vertex-refl (end_of x)))
          here-reached (x ∷ ws) (suc at) w e = or-right (same_vertex (end_of x) (end_of w)) (is_reached ws (end_of w)) (here-reached ws at w e)

      by : IsOneOf first.cable (cables_on l.rest) ⊎ IsOneOf first.cable (s.cable ∷ []) → ⊥
      by (inl m) = l.beside m
      by (inr (inl e)) = other (sym e)
      by (inr (inr m)) = m

  -- What the ways become while one of them is led on.
  record AreLedOn (ws new : List (List Step)) : Type 0 where
    pub more : List (List Step)
    pub is : new ≡ ws ++ more
    pub led : AreLed n old first new

  push-led : (ws : List (List Step)) (y : List Step) → AreLed n old first ws → IsLed n old first ws y → is_reached ws (end_of y) ≡ false → AreLed n old first (ws ++ y ∷ [])
  push-led ws y a l new = record {
    each = λ i w e. each i w (get-push ws y w i e);
    begun = reached-more ws (y ∷ []) first.into.v a.begun;
    apart = subst (λ ks. are_apart ks ≡ true) (sym (map-append (λ w. number_of (end_of w)) ws (y ∷ []))) (are_apart-push (end_numbers ws) (number_of (end_of y)) a.apart (λ m. true≢false (sym (one-number ws (end_of y) m) ∙ new)));
  }
    where
      each : (i : ℕ) (w : List Step) → IsOldOrLast ws y w i → IsLed n old first (ws ++ y ∷ []) w
      each i w (old_one e) = led-more ws (y ∷ []) w (a.each i w e)
      each i w (last_one e) = subst (IsLed n old first (ws ++ y ∷ [])) e (led-more ws (y ∷ []) y l)

  none-more : (ws : List (List Step)) → AreLed n old first ws → AreLedOn ws ws
  none-more ws a = record { more = []; is = sym (append-nil ws); led = a }

  both-more : (ws new newer : List (List Step)) → AreLedOn ws new → AreLedOn new newer → AreLedOn ws newer
  both-more ws new newer a b = record { more = a.more ++ b.more; is = b.is ∙ ap (λ l. l ++ b.more) a.is ∙ append_assoc ws a.more b.more; led = b.led }

  -- led on over one step
  record IsLedTo (ws new : List (List Step)) (w : List Step) (s : Step) : Type 0 where
    pub on : AreLedOn ws new
    pub to : end_of w ≡ s.out.v → is_reached new s.into.v ≡ true

  led-on : (ws : List (List Step)) (at : ℕ) (w : List Step) (s : Step) → AreLed n old first ws → slice_get ws at ≡ Some w → may_end n old (end_of w) ≡ false → IsStep n s → s.cable ≢ first.cable → IsLedTo ws (led_on at s ws) w s
  led-on ws at w s a here goes step other = subst (λ x. IsLedTo ws (if same_vertex (end_of x) s.out.v && not (is_reached ws s.into.v) then ws ++ (x ++ s ∷ []) ∷ [] else ws) w s) (sym (get-index ws at w here)) (by (same_vertex (end_of w) s.out.v) refl (is_reached ws s.into.v) refl)
    where
      new-way-led : same_vertex (end_of w) s.out.v ≡ true → is_reached ws s.into.v ≡ false → IsLedTo ws (ws ++ (w ++ s ∷ []) ∷ []) w s
      new-way-led p q = record {
        on = record { more = (w ++ s ∷ []) ∷ []; is = refl; led = push-led ws (w ++ s ∷ []) a (led-step ws at w s here (a.each at w here) goes step other (same_vertex-true (end_of w) s.out.v p) q) (ap (is_reached ws) (end-push (Host 0) w s) ∙ q) };
        to = λ e. reached-last ws (w ++ s ∷ []) s.into.v (end-push (Host 0) w s);
      }

      by : (b : Bool) → same_vertex (end_of w) s.out.v ≡ b → (r : Bool) → is_reached ws s.into.v ≡ r → IsLedTo ws (if b && not r then ws ++ (w ++ s ∷ []) ∷ [] else ws) w s
      by true p false q = new-way-led p q
      by true p true q = record { on = none-more ws a; to = λ e. q }
      by false p r q = record { on = none-more ws a; to = λ e. absurd (true≢false (sym (subst (λ y. same_vertex (end_of w) y ≡ true) e (same_vertex-refl (end_of w))) ∙ p)) }

  -- led on over a cable
  record IsLedOver (ws new : List (List Step)) (w : List Step) (k : ℕ) : Type 0 where
    pub on : AreLedOn ws new
    pub to : (d e : End) → Joins n k d e → k ≢ first.cable → d.v ≡ end_of w → is_reached new e.v ≡ true

  led-cable : (ws : List (List Step)) (at : ℕ) (w : List Step) (k : ℕ) (c : Cable) → slice_get n.cables k ≡ Some c → AreLed n old first ws → slice_get ws at ≡ Some w → may_end n old (end_of w) ≡ false → k ≢ first.cable → IsLedOver ws (led_over at k (Some c) ws) w k
  led-cable ws at w k c p a here goes other =
      let one = led-on ws at w (record { cable = k; out = c.a; into = c.b }) a here goes (forth p) other in
      let mid = led_on at (record { cable = k; out = c.a; into = c.b }) ws in
      let there : slice_get mid at ≡ Some w = subst (λ l. slice_get l at ≡ Some w) (sym one.on.is) (get-more ws one.on.more at w here) in
      let two = led-on mid at w (record { cable = k; out = c.b; into = c.a }) one.on.led there goes (back p) other in
      record {
        on = both-more ws mid (led_on at (record { cable = k; out = c.b; into = c.a }) mid) one.on two.on;
        to = λ d e j o q. to d e j q one two;
      }
    where
      to : (d e : End) → Joins n k d e → d.v ≡ end_of w → IsLedTo ws (led_on at (record { cable = k; out = c.a; into = c.b }) ws) w (record { cable = k; out = c.a; into = c.b }) → IsLedTo (led_on at (record { cable = k; out = c.a; into = c.b }) ws) (led_on at (record { cable = k; out = c.b; into = c.a }) (led_on at (record { cable = k; out = c.a; into = c.b }) ws)) w (record { cable = k; out = c.b; into = c.a }) → is_reached (led_on at (record { cable = k; out = c.b; into = c.a }) (led_on at (record { cable = k; out = c.a; into = c.b }) ws)) e.v ≡ true
      to d e (forth {c = g} r) q one two =
          let same : g ≡ c = (let x : Some g ≡ Some c = sym r ∙ p in cc) in
          subst (λ l. is_reached l g.b.v ≡ true) (sym two.on.is) (reached-more (led_on at (record { cable = k; out = c.a; into = c.b }) ws) two.on.more g.b.v (subst (λ (y : Cable). is_reached (led_on at (record { cable = k; out = c.a; into = c.b }) ws) y.b.v ≡ true) (sym same) (one.to (sym q ∙ ap (λ (y : Cable). y.a.v) same))))
      to d e (back {c = g} r) q one two =
          let same : g ≡ c = (let x : Some g ≡ Some c = sym r ∙ p in cc) in
          subst (λ (y : Cable). is_reached (led_on at (record { cable = k; out = c.b; into = c.a }) (led_on at (record { cable = k; out = c.a; into = c.b }) ws)) y.a.v ≡ true) (sym same) (two.to (sym q ∙ ap (λ (y : Cable). y.b.v) same))

  led-beside : (ws : List (List Step)) (at : ℕ) (w : List Step) (k : ℕ) → AreLed n old first ws → slice_get ws at ≡ Some w → may_end n old (end_of w) ≡ false → IsLedOver ws (led_beside n first.cable at k ws) w k
  led-beside ws at w k a here goes = by (nat_eq k first.cable) refl (slice_get n.cables k) refl
    where
      none : ((d e : End) → Joins n k d e → k ≢ first.cable → ⊥) → IsLedOver ws ws w k
      none p = record { on = none-more ws a; to = λ d e j o q. absurd (p d e j o) }

      gone : slice_get n.cables k ≡ None → (d e : End) → Joins n k d e → ⊥
      gone p d e (forth q) = let two : ◌≡◌ {A = Option Cable} None (Some _) = sym p ∙ q in cc
      gone p d e (back q) = let two : ◌≡◌ {A = Option Cable} None (Some _) = sym p ∙ q in cc

      other : nat_eq k first.cable ≡ false → k ≢ first.cable
      other p e = true≢false (sym ((Decides-eqb k first.cable).1 e) ∙ p)

      by : (b : Bool) → nat_eq k first.cable ≡ b → (o : Option Cable) → slice_get n.cables k ≡ o → IsLedOver ws (if b then ws else led_over at k o ws) w k
      by true p o q = none (λ d e j r. r ((Decides-eqb k first.cable).0 p))
      by false p None q = none (λ d e j r. gone q d e j)
      by false p (Some c) q = led-cable ws at w k c q a here goes (other p)

  -- led on over all cables below a number
  record IsLedBelow (ws new : List (List Step)) (w : List Step) (m : ℕ) : Type 0 where
    pub on : AreLedOn ws new
    pub to : (k : ℕ) (d e : End) → k < m → Joins n k d e → k ≢ first.cable → d.v ≡ end_of w → is_reached new e.v ≡ true

  led-below : (ws : List (List Step)) (at : ℕ) (w : List Step) (m : ℕ) → AreLed n old first ws → slice_get ws at ≡ Some w → may_end n old (end_of w) ≡ false → IsLedBelow ws (led_over_all n first.cable at m ws) w m
  led-below ws at w zero a here goes = record { on = none-more ws a; to = λ k d e l j o q. absurd (omega arith) }
  led-below ws at w (suc m) a here goes =
      let r = led-below ws at w m a here goes in
      let there : slice_get (led_over_all n first.cable at m ws) at ≡ Some w = subst (λ l. slice_get l at ≡ Some w) (sym r.on.is) (get-more ws r.on.more at w here) in
      let s = led-beside (led_over_all n first.cable at m ws) at w m r.on.led there goes in
      record {
        on = both-more ws (led_over_all n first.cable at m ws) (led_beside n first.cable at m (led_over_all n first.cable at m ws)) r.on s.on;
        to = λ k d e l j o q. to r s k d e j o q (cases_order k m) l;
      }
    where
      to : (r : IsLedBelow ws (led_over_all n first.cable at m ws) w m) (s : IsLedOver (led_over_all n first.cable at m ws) (led_beside n first.cable at m (led_over_all n first.cable at m ws)) w m) (k : ℕ) (d e : End) → Joins n k d e → k ≢ first.cable → d.v ≡ end_of w → (k ≡ m) ⊎ ((k < m) ⊎ (m < k)) → k < suc m → is_reached (led_beside n first.cable at m (led_over_all n first.cable at m ws)) e.v ≡ true
      to r s k d e j o q (inl p) l = s.to d e (subst (λ i. Joins n i d e) p j) (λ g. o (p ∙ g)) q
      to r s k d e j o q (inr (inl p)) l = subst (λ x. is_reached x e.v ≡ true) (sym s.on.is) (reached-more (led_over_all n first.cable at m ws) s.on.more e.v (r.to k d e p j o q))
      to r s k d e j o q (inr (inr p)) l = absurd (omega arith)

-- The ways before a place are led on, and may not end a path.
pub record IsSearching (n : Network) (old : List ℕ) (first : Step) (ws : List (List Step)) (at : ℕ) : Type 0 where
  pub led : AreLed n old first ws
  pub goes_on : (i : ℕ) (w : List Step) → i < at → slice_get ws i ≡ Some w → may_end n old (end_of w) ≡ false
  pub closed : (i : ℕ) (w : List Step) (k : ℕ) (d e : End) → i < at → slice_get ws i ≡ Some w → Joins n k d e → k ≢ first.cable → d.v ≡ end_of w → is_reached ws e.v ≡ true
  pub within : at ≤ length ws

pub searching-first : (n : Network) (old : List ℕ) (first : Step) → IsFabric n → IsStep n first → IsSearching n old first ((first ∷ []) ∷ []) 0
searching-first n old first f step = record {
  led = record { each = λ i w e. each i w e; begun = or-left (same_vertex first.into.v first.into.v) false (same_vertex-refl first.into.v); apart = refl };
  goes_on = λ i w l e. absurd (omega arith);
  closed = λ i w k d e l p j o q. absurd (omega arith);
  within = omega arith;
}
  where
    own : IsLed n old first ((first ∷ []) ∷ []) (first ∷ [])
    own = record { rest = []; is = refl; way = refl; goes_on = tt; once = tt; ahead = tt; beside = λ m. m; reached = tt; there = joins-vertex n first.cable first.into first.out f (joins-back n first.cable first.out first.into step) }

    each : (i : ℕ) (w : List Step) → slice_get ((first ∷ []) ∷ []) i ≡ Some w → IsLed n old first ((first ∷ []) ∷ []) w
    each zero w e = let one : first ∷ [] ≡ w = cc in subst (IsLed n old first ((first ∷ []) ∷ [])) one own
    each (suc i) w e = cc

get-less : (ws more : List (List Step)) (i : ℕ) (w : List Step) → i < length ws → slice_get (ws ++ more) i ≡ Some w → slice_get ws i ≡ Some w
get-less [] more i w l e = absurd (omega arith)
get-less (x ∷ ws) more zero w l e = e
get-less (x ∷ ws) more (suc i) w l e = get-less ws more i w (omega arith) e

at-place : (ws : List (List Step)) (i : ℕ) → i < length ws → (w : List Step) × (slice_get ws i ≡ Some w)
at-place [] i l = absurd (omega arith)
at-place (x ∷ ws) zero l = (x, refl)
at-place (x ∷ ws) (suc i) l = at-place ws i (omega arith)

-- one way more is led on
pub searching-next : (n : Network) (old : List ℕ) (first : Step) (ws : List (List Step)) (at : ℕ) → IsFabric n → at < length ws → may_end n old (end_of (slice_index_or ws at [])) ≡ false → IsSearching n old first ws at → IsSearching n old first (led_over_all n first.cable at (length n.cables) ws) (at + 1)
searching-next n old first ws at f low ends s = by (at-place ws at low)
  where
    by : (w : List Step) × (slice_get ws at ≡ Some w) → IsSearching n old first (led_over_all n first.cable at (length n.cables) ws) (at + 1)
    by p =
        let goes : may_end n old (end_of p.0) ≡ false = subst (λ x. may_end n old (end_of x) ≡ false) (get-index ws at p.0 p.1) ends in
        done p.0 p.1 goes (led-below n old first f ws at p.0 (length n.cables) s.led p.1 goes)
      where
        done : (w : List Step) → slice_get ws at ≡ Some w → may_end n old (end_of w) ≡ false → IsLedBelow n old first f ws (led_over_all n first.cable at (length n.cables) ws) w (length n.cables) → IsSearching n old first (led_over_all n first.cable at (length n.cables) ws) (at + 1)
        done w here goes r = record {
          led = r.on.led;
          goes_on = λ i v l e. on i v (before i v l e) (cases_order i at) l;
          closed = λ i v k d e l p j o q. closed i v k d e j o q (before i v l p) (cases_order i at) l;
          within = (let e : length (led_over_all n first.cable at (length n.cables) ws) ≡ length ws + length r.on.more = ap length r.on.is ∙ length-append ws r.on.more in omega arith);
        }
          where
            before : (i : ℕ) (v : List Step) → i < at + 1 → slice_get (led_over_all n first.cable at (length n.cables) ws) i ≡ Some v → slice_get ws i ≡ Some v
            before i v l e = get-less ws r.on.more i v (omega arith) (subst (λ x. slice_get x i ≡ Some v) r.on.is e)

            one : (i : ℕ) (v : List Step) → slice_get ws i ≡ Some v → i ≡ at → v ≡ w
            one i v p e = let two : Some v ≡ Some w = sym (subst (λ k. slice_get ws k ≡ Some v) e p) ∙ here in cc

            on : (i : ℕ) (v : List Step) → slice_get ws i ≡ Some v → (i ≡ at) ⊎ ((i < at) ⊎ (at < i)) → i < at + 1 → may_end n old (end_of v) ≡ false
            on i v p (inl e) l = subst (λ x. may_end n old (end_of x) ≡ false) (sym (one i v p e)) goes
            on i v p (inr (inl m)) l = s.goes_on i v m p
            on i v p (inr (inr m)) l = absurd (omega arith)

            closed : (i : ℕ) (v : List Step) (k : ℕ) (d e : End) → Joins n k d e → k ≢ first.cable → d.v ≡ end_of v → slice_get ws i ≡ Some v → (i ≡ at) ⊎ ((i < at) ⊎ (at < i)) → i < at + 1 → is_reached (led_over_all n first.cable at (length n.cables) ws) e.v ≡ true
            closed i v k d e j o q p (inl g) l = r.to k d e (joins-low n k d e j) j o (q ∙ ap end_of (one i v p g))
            closed i v k d e j o q p (inr (inl m)) l = subst (λ x. is_reached x e.v ≡ true) (sym r.on.is) (reached-more ws r.on.more e.v (s.closed i v k d e m p j o q))
            closed i v k d e j o q p (inr (inr m)) l = absurd (omega arith)

-- apart numbers below a bound are at most as many
apart-few : (bound : ℕ) (ks : List ℕ) → are_apart ks ≡ true → ((k : ℕ) → IsOneOf k ks → k < bound) → length ks ≤ bound
apart-few bound ks apart low = let l = few ks (numbers_below bound) apart (all ks low) in let e = length-numbers bound in omega arith
  where
    all : (ks : List ℕ) → ((k : ℕ) → IsOneOf k ks → k < bound) → AreAmong ks (numbers_below bound)
    all [] low = tt
    all (k ∷ ks) low = (number-member bound k (low k (inl refl)), all ks (λ l m. low l (inr m)))

-- no more ways than there are vertices
pub searching-few : (n : Network) (old : List ℕ) (first : Step) (ws : List (List Step)) (at : ℕ) → IsFabric n → IsSearching n old first ws at → length ws ≤ 256
searching-few n old first ws at f s =
    let l = apart-few 256 (end_numbers ws) s.led.apart (λ k m. low ws k m (λ i w e. (s.led.each i w e).there)) in
    let m : length (end_numbers ws) ≡ length ws = same ws in
    omega arith
  where
    same : (ws : List (List Step)) → length (end_numbers ws) ≡ length ws
    same [] = refl
    same (w ∷ ws) = ap suc (same ws)

    low : (ws : List (List Step)) (k : ℕ) → IsOneOf k (end_numbers ws) → ((i : ℕ) (w : List Step) → slice_get ws i ≡ Some w → has_vertex n (end_of w) ≡ true) → k < 256
    low [] k m h = absurd m
    low (w ∷ ws) k (inl e) h = subst (λ z. z < 256) (sym e) (low-number n (end_of w) f (h 0 w refl))
    low (w ∷ ws) k (inr m) h = low ws k m (λ i v e. h (suc i) v e)

-- a way that may end a path is one
pub searching-found : (n : Network) (old : List ℕ) (first : Step) (ws : List (List Step)) (at : ℕ) → IsStep n first → ¬ IsOneOf first.cable old → IsTouched n old first.out.v → at < length ws → may_end n old (end_of (slice_index_or ws at [])) ≡ true → IsSearching n old first ws at → IsPath n old (slice_index_or ws at [])
searching-found n old first ws at step new touched low ends s = by (at-place ws at low)
  where
    on : (vs : List Vertex) → AllByRecursion (λ v. may_end n old v ≡ false) vs → AllByRecursion (λ v. ¬ Stops n old v) vs
    on vs all = all-weaker (λ v. may_end n old v ≡ false) (λ v. ¬ Stops n old v) vs (λ v e. not-end n old v e) all

    path : (w : List Step) → may_end n old (end_of w) ≡ true → IsLed n old first ws w → IsPath n old w
    path w e l = subst (IsPath n old) (sym l.is) (short-path n old first (end_of w) l.rest step new touched l.way (end-may n old (end_of w) e) (on (outs l.rest) l.goes_on) l.once l.beside)

    by : (w : List Step) × (slice_get ws at ≡ Some w) → IsPath n old (slice_index_or ws at [])
    by p = subst (IsPath n old) (sym (get-index ws at p.0 p.1)) (path p.0 (subst (λ x. may_end n old (end_of x) ≡ true) (get-index ws at p.0 p.1) ends) (s.led.each at p.0 p.1))

-- a way from a vertex that is reached stays among those that are
along-reached : (n : Network) (old : List ℕ) (first : Step) (ws : List (List Step)) (at : ℕ) (x z : Vertex) (ss : List Step) → length ws ≤ at → IsSearching n old first ws at → IsWay n x ss z → ¬ IsOneOf first.cable (cables_on ss) → is_reached ws x ≡ true → is_reached ws z ≡ true
along-reached n old first ws at x z [] all s way beside here = subst (λ v. is_reached ws v ≡ true) way here
along-reached n old first ws at x z (t ∷ ss) all s way beside here =
    along-reached n old first ws at t.into.v z ss all s way.2 (λ m. beside (inr m)) (on (reached-by ws x here))
  where
    on : ReachedBy ws x → is_reached ws t.into.v ≡ true
    on r = s.closed r.place r.way t.cable t.out t.into (let l = slice_get_within ws r.place r.way r.there in omega arith) r.there way.0 (λ e. beside (inl (sym e))) (way.1 ∙ sym r.ends)

-- where all ways are led on, no path begins with the first step
pub searching-none : (n : Network) (old : List ℕ) (first : Step) (ws : List (List Step)) (at : ℕ) → length ws ≤ at → IsSearching n old first ws at → HasNoPathBy n old first
searching-none n old first ws at all s p path begun =
    let way = subst (λ l. IsWay n path.start l path.end) begun.is (new-way n old path.start p path.end path.across) in
    let apart = apart-parts first.cable (cables_on begun.rest) (ap (λ l. are_apart (cables_on l)) (sym begun.is) ∙ path.apart) in
    stuck (reached-by ws path.end (along-reached n old first ws at first.into.v path.end begun.rest all s way.2 apart.0 s.led.begun))
  where
    stuck : ReachedBy ws path.end → ⊥
    stuck r = true≢false (sym (may-end n old path.end path.ends) ∙ ap (may_end n old) (sym r.ends) ∙ s.goes_on r.place r.way (let l = slice_get_within ws r.place r.way r.there in omega arith) r.there)
