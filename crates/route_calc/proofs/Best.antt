-- The best turns of a vertex are a legal way, and no other way over so many channels is less.
use Rattle.std.proofs.Common.{◌≡◌, ◌<◌, ◌≤◌, ℕ, zero, suc, List, [], ◌∷◌, length, Bool, true, false, not, ◌&&◌, Option, Some, refl, ap, sym, ◌∙◌, subst, arith, ◌⊎◌, inl, inr}
use Rattle.std.specs.Prelude.{ℤ, pos, ◌+ℤ◌, ◌-ℤ◌, int_lt}
use Rattle.std.specs.Ordering.{int_eq}
use Rattle.std.proofs.lemmas.Bool.{false≢true, or_cases, and_parts, and_from, cases_order}
use Rattle.std.proofs.lemmas.Bool.Decides.{Decides-int_eq, Decides-eqb}
use Rattle.std.proofs.lemmas.Int.{ints}
use Rattle.journal_defs.specs.Walks.{turns_below}
use Rattle.map_defs.specs.NetMap.{NetMap, MapPort, IsMap, map_far, is_switch_vertex}
use Rattle.map_defs.specs.Orientation.{is_up}
use Rattle.map_defs.proofs.Channels.{Onward}
use Rattle.route_calc.specs.declared.entered.Entered.{Entered}
use Rattle.route_calc.specs.Reaching.{may_go, leads_over, leads_near, port_of_place, reaches}
use Rattle.route_calc.specs.Ways.{IsDistance, then_turns, best_turn, best_turns}
use Rattle.route_calc.proofs.Going.{Goes}
use Rattle.route_calc.proofs.Going.Goes.{over, then}
use Rattle.route_calc.proofs.Reached.{Exit, exit, placed, reaches-over}

-- where a channel leads
abbrev pub arrival : NetMap → List ℕ → MapPort → MapPort → Entered
arrival m order d e = record { v = e.v; port = e.p; down = not (is_up m order d) }

-- the port of the least turn
abbrev pub exit_port : (m : NetMap) (order : List ℕ) (near : ℕ → Bool → Bool) (v : ℕ) (down : Bool) → Exit m order near v down → MapPort
exit_port m order near v down x = port_of_place v x.at

pub far-exit : (m : NetMap) (order : List ℕ) (near : ℕ → Bool → Bool) (e : Entered) (x : Exit m order near e.v e.down) → best_turn m order near e ≡ Some (((pos x.at -ℤ pos 15) -ℤ e.port), arrival m order (port_of_place e.v x.at) x.far)
far-exit m order near e x = rw (x.is, x.leads) refl

pub best-step : (m : NetMap) (order : List ℕ) (to k : ℕ) (e : Entered) (x : Exit m order (reaches m order to k) e.v e.down) → best_turns m order to (suc k) e ≡ ((pos x.at -ℤ pos 15) -ℤ e.port) ∷ best_turns m order to k (arrival m order (port_of_place e.v x.at) x.far)
best-step m order to k e x = ap (λ o. then_turns o (best_turns m order to k)) (far-exit m order (reaches m order to k) e x)

-- a way further is not shorter than the least
pub next-distance : (m : NetMap) (order : List ℕ) (to k v : ℕ) (down : Bool) → IsMap m → IsDistance m order to (suc k) v down → (x : Exit m order (reaches m order to k) v down) → IsDistance m order to k x.far.v (not (is_up m order (port_of_place v x.at)))
next-distance m order to k v down r d x = record { near = x.near_there; least = λ j l. by j l (reaches m order to j x.far.v (not (is_up m order (port_of_place v x.at)))) refl }
  where
    by : (j : ℕ) → j < k → (b : Bool) → reaches m order to j x.far.v (not (is_up m order (port_of_place v x.at))) ≡ b → reaches m order to j x.far.v (not (is_up m order (port_of_place v x.at))) ≡ false
    by j l true e = absurd (false≢true (sym (d.least (suc j) (omega arith)) ∙ reaches-over m order to j down (port_of_place v x.at) x.far r x.switch x.leads x.legal e))
    by j l false e = e

pub exit-of : (m : NetMap) (order : List ℕ) (to k v : ℕ) (down : Bool) → IsDistance m order to (suc k) v down → Exit m order (reaches m order to k) v down
exit-of m order to k v down d = exit m order to k v down d.near (d.least k (omega arith))

turn_to : (p q : ℤ) → p +ℤ (q -ℤ p) ≡ q
turn_to p q = omega (arith, ints)

-- the channel of the least turn
pub exit-onward : (m : NetMap) (order : List ℕ) (near : ℕ → Bool → Bool) (d e : MapPort) (down : Bool) → map_far m d ≡ Some e → (x : Exit m order near e.v down) → Onward m d ((pos x.at -ℤ pos 15) -ℤ e.p) (port_of_place e.v x.at)
exit-onward m order near d e down far x = record { entered = e; far = far; switch = x.switch; leaves = λ i. record { v = e.v; p = sym (turn_to e.p (pos x.at -ℤ pos 15)) i } }

-- the best turns lead there, legally
pub best-goes : (m : NetMap) (order : List ℕ) (to k : ℕ) (down : Bool) (d e at : MapPort) → IsMap m → ((c f : MapPort) → map_far m c ≡ Some f → f.v ≡ to → f ≡ at) → may_go down (is_up m order d) ≡ true → map_far m d ≡ Some e → IsDistance m order to k e.v (not (is_up m order d)) → Goes m order down d (best_turns m order to k (arrival m order d e)) at
best-goes m order to zero down d e at r one go far dist = over (far ∙ ap Some (one d e far ((Decides-eqb e.v to).0 dist.near))) go
best-goes m order to (suc k) down d e at r one go far dist =
    let x = exit-of m order to k e.v (not (is_up m order d)) dist in
    let rest = best-goes m order to k (not (is_up m order d)) (port_of_place e.v x.at) x.far at r one x.legal x.leads (next-distance m order to k e.v (not (is_up m order d)) r dist x) in
    subst (λ ts. Goes m order down d ts at) (sym (best-step m order to k (arrival m order d e) x)) (then go (exit-onward m order (reaches m order to k) d e (not (is_up m order d)) far x) rest)

pub best-long : (m : NetMap) (order : List ℕ) (to k : ℕ) (e : Entered) → IsMap m → IsDistance m order to k e.v e.down → length (best_turns m order to k e) ≡ k
best-long m order to zero e r dist = refl
best-long m order to (suc k) e r dist =
    let x = exit-of m order to k e.v e.down dist in
    ap length (best-step m order to k e x) ∙ ap suc (best-long m order to k (arrival m order (port_of_place e.v x.at) x.far) r (next-distance m order to k e.v e.down r dist x))

-- a way begins over a cable
pub goes-far : (m : NetMap) (order : List ℕ) (down : Bool) (d at : MapPort) (ts : List ℤ) → Goes m order down d ts at → (e : MapPort) × (map_far m d ≡ Some e) × (may_go down (is_up m order d) ≡ true)
goes-far m order down d at ts (over {e = e} f g) = (e, f, g)
goes-far m order down d at ts (then g o w) = (o.entered, o.far, g)

one-far : (m : NetMap) (d e f : MapPort) → map_far m d ≡ Some e → map_far m d ≡ Some f → e ≡ f
one-far m d e f p q = let two : ◌≡◌ {A = Option MapPort} (Some e) (Some f) = sym p ∙ q in cc

-- each legal way reaches over as many channels as it has turns
pub goes-reaches : (m : NetMap) (order : List ℕ) (to : ℕ) (down : Bool) (d e at : MapPort) (ts : List ℤ) → IsMap m → at.v ≡ to → map_far m d ≡ Some e → Goes m order down d ts at → reaches m order to (length ts) e.v (not (is_up m order d)) ≡ true
goes-reaches m order to down d e at ts r same far (over {e = f} g h) =
    let one = one-far m d e at far g in
    (Decides-eqb e.v to).1 (ap (λ (z : MapPort). z.v) one ∙ same)
goes-reaches m order to down d e at ts r same far (then {x = x} {t = t} {ts = us} g o w) =
    let one = one-far m d e o.entered far o.far in
    let next = goes-far m order (not (is_up m order d)) x at us w in
    let rest = goes-reaches m order to (not (is_up m order d)) x next.0 at us r same next.1 w in
    let v : x.v ≡ e.v = ap (λ (z : MapPort). z.v) o.leaves ∙ ap (λ (z : MapPort). z.v) (sym one) in
    let switch : is_switch_vertex m x.v ≡ true = ap (is_switch_vertex m) (ap (λ (z : MapPort). z.v) o.leaves) ∙ o.switch in
    subst (λ z. reaches m order to (suc (length us)) z (not (is_up m order d)) ≡ true) v (reaches-over m order to (length us) (not (is_up m order d)) x next.0 r switch next.1 next.2 rest)

less_turn : (j a : ℕ) (q t : ℤ) → q +ℤ t ≡ pos j -ℤ pos 15 → a ≤ j → int_lt t ((pos a -ℤ pos 15) -ℤ q) ≡ true → ⊥
less_turn j a q t e l less = grind (arith, ints)

same_turn : (j a : ℕ) (q t : ℤ) → q +ℤ t ≡ pos j -ℤ pos 15 → t ≡ (pos a -ℤ pos 15) -ℤ q → j ≡ a
same_turn j a q t e f = omega (arith, ints)

turns_parts : (s t : ℤ) (ss ts : List ℤ) → turns_below (s ∷ ss) (t ∷ ts) ≡ true → (int_lt s t ≡ true) ⊎ ((s ≡ t) × (turns_below ss ts ≡ true))
turns_parts s t ss ts e = by (or_cases (int_lt s t) _ e)
  where
    by : (int_lt s t ≡ true) ⊎ ((int_eq s t && turns_below ss ts) ≡ true) → (int_lt s t ≡ true) ⊎ ((s ≡ t) × (turns_below ss ts ≡ true))
    by (inl l) = inl l
    by (inr r) = let two = and_parts (int_eq s t) (turns_below ss ts) r in inr ((Decides-int_eq s t).0 two.0, two.1)

-- A way's next port, as it stands among those of its vertex.
record Next (m : NetMap) (order : List ℕ) (to k : ℕ) (e : MapPort) (down : Bool) (t : ℤ) (x : MapPort) : Type 0 where
  pub place : ℕ
  pub is : port_of_place e.v place ≡ x
  pub turn : e.p +ℤ t ≡ pos place -ℤ pos 15
  pub leads : leads_near m order (reaches m order to k) down (port_of_place e.v place) ≡ true

next-port : (m : NetMap) (order : List ℕ) (to : ℕ) (d e x at : MapPort) (t : ℤ) (us : List ℤ) → IsMap m → at.v ≡ to → map_far m d ≡ Some e → (o : Onward m d t x) → Goes m order (not (is_up m order d)) x us at → Next m order to (length us) e (not (is_up m order d)) t x
next-port m order to d e x at t us r same far o w =
    let one = one-far m d e o.entered far o.far in
    let next = goes-far m order (not (is_up m order d)) x at us w in
    let rest = goes-reaches m order to (not (is_up m order d)) x next.0 at us r same next.1 w in
    let v : x.v ≡ e.v = ap (λ (z : MapPort). z.v) o.leaves ∙ ap (λ (z : MapPort). z.v) (sym one) in
    let p : x.p ≡ e.p +ℤ t = ap (λ (z : MapPort). z.p) o.leaves ∙ ap (λ (z : MapPort). z.p +ℤ t) (sym one) in
    let s = placed m x next.0 r next.1 in
    let is : port_of_place e.v s.at ≡ x = ap (λ z. port_of_place z s.at) (sym v) ∙ s.is in
    let over : leads_near m order (reaches m order to (length us)) (not (is_up m order d)) x ≡ true = ap (leads_over (reaches m order to (length us)) (not (is_up m order d)) (is_up m order x)) next.1 ∙ and_from (may_go (not (is_up m order d)) (is_up m order x)) (reaches m order to (length us) (next.0).v (not (is_up m order x))) next.2 rest in
    record {
      place = s.at;
      is = is;
      turn = sym p ∙ ap (λ (z : MapPort). z.p) (sym is);
      leads = ap (leads_near m order (reaches m order to (length us)) (not (is_up m order d))) is ∙ over;
    }

-- the first turn of a way
record Then (m : NetMap) (order : List ℕ) (down : Bool) (d : MapPort) (t : ℤ) (us : List ℤ) (at : MapPort) : Type 0 where
  pub port : MapPort
  pub onward : Onward m d t port
  pub rest : Goes m order (not (is_up m order d)) port us at

abbrev First_of : NetMap → List ℕ → Bool → MapPort → List ℤ → MapPort → Type 0
First_of m order down d [] at = Unit {0}
First_of m order down d (t ∷ us) at = Then m order down d t us at

first-of : (m : NetMap) (order : List ℕ) (down : Bool) (d at : MapPort) (ts : List ℤ) → Goes m order down d ts at → First_of m order down d ts at
first-of m order down d at ts (over f g) = tt
first-of m order down d at ts (then {x = x} g o w) = record { port = x; onward = o; rest = w }

nothing-below : (ts : List ℤ) → turns_below ts [] ≡ true → ⊥
nothing-below [] e = false≢true e
nothing-below (t ∷ ts) e = false≢true e

-- no way over so many channels is less
pub none-less : (m : NetMap) (order : List ℕ) (to k : ℕ) (down : Bool) (d e at : MapPort) (ts : List ℤ) → IsMap m → at.v ≡ to → map_far m d ≡ Some e → IsDistance m order to k e.v (not (is_up m order d)) → Goes m order down d ts at → length ts ≡ k → turns_below ts (best_turns m order to k (arrival m order d e)) ≡ true → ⊥
none-less m order to zero down d e at ts r same far dist w long less = nothing-below ts less
none-less m order to (suc k) down d e at [] r same far dist w long less = absurd (omega arith)
none-less m order to (suc k) down d e at (t ∷ us) r same far dist w long less =
    let few : length us ≡ k = omega arith in
    let step = first-of m order down d at (t ∷ us) w in
    let n = subst (λ i. Next m order to i e (not (is_up m order d)) t step.port) few (next-port m order to d e step.port at t us r same far step.onward step.rest) in
    let x = exit-of m order to k e.v (not (is_up m order d)) dist in
    by few step.port step.rest n x (cases_order n.place x.at) (turns_parts t ((pos x.at -ℤ pos 15) -ℤ e.p) us (best_turns m order to k (arrival m order (port_of_place e.v x.at) x.far)) (subst (λ l. turns_below (t ∷ us) l ≡ true) (best-step m order to k (arrival m order d e) x) less)) (λ z f fz dz wz lz. none-less m order to k (not (is_up m order d)) z f at us r same fz dz wz few lz)
  where
    by : length us ≡ k → (y : MapPort) → Goes m order (not (is_up m order d)) y us at → (n : Next m order to k e (not (is_up m order d)) t y) (x : Exit m order (reaches m order to k) e.v (not (is_up m order d))) → (n.place ≡ x.at) ⊎ ((n.place < x.at) ⊎ (x.at < n.place)) → (int_lt t ((pos x.at -ℤ pos 15) -ℤ e.p) ≡ true) ⊎ ((t ≡ (pos x.at -ℤ pos 15) -ℤ e.p) × (turns_below us (best_turns m order to k (arrival m order (port_of_place e.v x.at) x.far)) ≡ true))
        → ((z f : MapPort) → map_far m z ≡ Some f → IsDistance m order to k f.v (not (is_up m order z)) → Goes m order (not (is_up m order d)) z us at → turns_below us (best_turns m order to k (arrival m order z f)) ≡ true → ⊥) → ⊥
    by few y w n x (inr (inl a)) cases rest = false≢true (sym (x.least n.place a) ∙ n.leads)
    by few y w n x (inl p) (inl l) rest = less_turn n.place x.at e.p t n.turn (omega arith) l
    by few y w n x (inr (inr a)) (inl l) rest = less_turn n.place x.at e.p t n.turn (omega arith) l
    by few y w n x (inr (inr a)) (inr p) rest = let s = same_turn n.place x.at e.p t n.turn p.0 in absurd (omega arith)
    by few y w n x (inl p) (inr q) rest =
        let port : y ≡ port_of_place e.v x.at = sym n.is ∙ ap (port_of_place e.v) p in
        let way = subst (λ z. Goes m order (not (is_up m order d)) z us at) port w in
        rest (port_of_place e.v x.at) x.far x.leads (next-distance m order to k e.v (not (is_up m order d)) r dist x) way q.1
