-- A drain is passes up to the first that changes nothing.
use Rattle.std.proofs.Common.{◌≡◌, ◌≢◌, ◌<◌, ◌≤◌, ◌+◌, ℕ, zero, suc, Bool, true, false, List, [], ◌∷◌, ◌++◌, map, length, ◌⊎◌, inl, inr, ⊎_elim, refl, sym, ◌∙◌, ap, subst, arith, true≢false, if◌then◌else◌}
use Rattle.std.specs.List.{AllByRecursion, range_with_len}
use Rattle.std.proofs.lemmas.Bool.{cases_lt}
use Rattle.std.proofs.lemmas.Bool.Decides.{nat_tests}
use Rattle.world_defs.specs.declared.moved.Moved.{Moved}
use Rattle.world_defs.specs.declared.moved.Moved.TheVariants.{To, AtHost, Dropped as MovedDropped, Blocked as MovedBlocked, Empty}
use Rattle.world_defs.specs.Links.{LinkState, is_idle}
use Rattle.world_defs.specs.Advance.{advance}
use Rattle.world_defs.specs.Hops.{total_hops, is_still_below, is_stuck, changes as moves}
use Rattle.world_defs.proofs.HopsLeft.{advance-hops, advance-still}
use Rattle.world_defs.specs.declared.event.Event.TheVariants.{Advance}
use Rattle.world_defs.specs.declared.effect.Effect.{Effect}
use Rattle.world_defs.specs.declared.arrival.Arrival.{Arrival}
use Rattle.world_defs.specs.declared.arrival.Arrival.TheVariants.{Heard as Hears, Dropped as HostDropped, NotMine as ArrivalNotMine}
use Rattle.world_defs.specs.Node.{NodeState}
use Rattle.world_defs.specs.Hearing.{hear}
use Rattle.world_defs.specs.World.{WorldState, host_count, node_at, with_links}
use Rattle.world_defs.specs.Step.{arrived, advanced_by, advanced, step, steps}
use Rattle.world_defs.specs.Drain.{changed, changes, channels_of}
use Rattle.world_defs.specs.Log.{Log, still}
use Rattle.world_defs.specs.Logs.{pass, is_still, drain_pass, drain}
use Rattle.world_laws.specs.Draining.{Drains}
use Rattle.world_laws.proofs.Repeating.{Chains, either, up_to-chain, up_to-repeats, repeats-end}

-- an advance: what it makes of the links, whether it changed something, and that it left the world where not
record AdvanceBy (w : WorldState) (o : Moved (List ℕ) × LinkState) (r : Effect × WorldState) : Type 0 where
  links : (moves o.0 ≡ false → o.1 ≡ w.links) → r.1.links ≡ o.1
  changed_too : changed r.0 ≡ moves o.0
  still : moves o.0 ≡ false → r.1 ≡ w

arrived-links : (w : WorldState) (h : ℕ) (o : Arrival × NodeState) → (changed (arrived w h o).0 ≡ true) × ((arrived w h o).1.links ≡ w.links)
arrived-links w h (Hears heard, n) = (refl, refl)
arrived-links w h (HostDropped drop, n) = (refl, refl)
arrived-links w h (ArrivalNotMine, n) = (refl, refl)

advanced_by-links : (w : WorldState) (o : Moved (List ℕ) × LinkState) → AdvanceBy w o (advanced_by w o)
advanced_by-links w (To next, l) = record { links = λ k. refl; changed_too = refl; still = λ e. absurd (true≢false e) }
advanced_by-links w (AtHost h wire, l) =
    let a = arrived-links (with_links w l) h (hear h (host_count w) (node_at w h) wire) in
    record { links = λ k. a.1; changed_too = a.0; still = λ e. absurd (true≢false e) }
advanced_by-links w (MovedDropped why, l) = record { links = λ k. refl; changed_too = refl; still = λ e. absurd (true≢false e) }
advanced_by-links w (MovedBlocked next, l) = record { links = λ k. sym (k refl); changed_too = refl; still = λ e. refl }
advanced_by-links w (Empty, l) = record { links = λ k. sym (k refl); changed_too = refl; still = λ e. refl }

pub advance-links : (w : WorldState) (c : ℕ) → (step w (Advance c)).1.links ≡ (advance w.links c).1
unfolding advanced
advance-links w c = (advanced_by-links w (advance w.links c)).links (advance-still w.links c)

pub advance-changed : (w : WorldState) (c : ℕ) → changed (step w (Advance c)).0 ≡ moves (advance w.links c).0
unfolding advanced
advance-changed w c = (advanced_by-links w (advance w.links c)).changed_too

pub advance-world : (w : WorldState) (c : ℕ) → moves (advance w.links c).0 ≡ false → (step w (Advance c)).1 ≡ w
unfolding advanced
advance-world w c = (advanced_by-links w (advance w.links c)).still

-- effects in a row
abbrev pub one_if : Bool → ℕ
one_if true = 1
one_if false = 0

pub changes-push : (x : Effect) (xs : List Effect) (b : Bool) → changed x ≡ b → changes (x ∷ xs) ≡ one_if b + changes xs
changes-push x xs true e = rw e refl
changes-push x xs false e = rw e (omega arith)

pub changes-append : (xs ys : List Effect) → changes (xs ++ ys) ≡ changes xs + changes ys
changes-append [] ys = omega arith
changes-append (x ∷ xs) ys =
    let h = changes-append xs ys in
    let a = changes-push x xs (changed x) refl in
    let b = changes-push x (xs ++ ys) (changed x) refl in
    omega (arith, h, a, b)

-- what one advance takes from the hops
pub advance-cost : (w : WorldState) (c : ℕ) → one_if (changed (step w (Advance c)).0) + total_hops (step w (Advance c)).1.links ≤ total_hops w.links
advance-cost w c = by (moves (advance w.links c).0) refl
  where
    by : (t : Bool) → moves (advance w.links c).0 ≡ t → one_if (changed (step w (Advance c)).0) + total_hops (step w (Advance c)).1.links ≤ total_hops w.links
    by true e =
        let h = advance-hops w.links c e in
        let a : total_hops (step w (Advance c)).1.links ≡ total_hops (advance w.links c).1 = ap total_hops (advance-links w c) in
        let b : one_if (changed (step w (Advance c)).0) ≡ 1 = ap one_if (advance-changed w c ∙ e) in
        omega (arith, h, a, b)
    by false e =
        let a : total_hops (step w (Advance c)).1.links ≡ total_hops w.links = ap (λ v. total_hops v.links) (advance-world w c e) in
        let b : one_if (changed (step w (Advance c)).0) ≡ 0 = ap one_if (advance-changed w c ∙ e) in
        omega (arith, a, b)

pub advances-cost : (w : WorldState) (cs : List ℕ) → changes (steps w (map Advance cs)).0 + total_hops (steps w (map Advance cs)).1.links ≤ total_hops w.links
advances-cost w [] = omega arith
advances-cost w (c ∷ cs) =
    let next : WorldState = (step w (Advance c)).1 in
    let here = advance-cost w c in
    let rest = advances-cost next cs in
    let a = changes-push (step w (Advance c)).0 (steps next (map Advance cs)).0 (changed (step w (Advance c)).0) refl in
    omega (arith, here, rest, a)

pub pass-cost : (w : WorldState) → changes (pass w).value + total_hops (pass w).world.links ≤ total_hops w.links
pass-cost w = advances-cost w (channels_of w)

-- a pass that changes nothing: no advance of a channel does
advances-still : (w : WorldState) (cs : List ℕ) → changes (steps w (map Advance cs)).0 ≡ 0 → AllByRecursion (λ c. moves (advance w.links c).0 ≡ false) cs
advances-still w [] e = tt
advances-still w (c ∷ cs) e = by (moves (advance w.links c).0) refl (advances-still w cs)
  where
    next : WorldState
    next = (step w (Advance c)).1

    by : (t : Bool) → moves (advance w.links c).0 ≡ t → (changes (steps w (map Advance cs)).0 ≡ 0 → AllByRecursion (λ c. moves (advance w.links c).0 ≡ false) cs) → AllByRecursion (λ c. moves (advance w.links c).0 ≡ false) (c ∷ cs)
    by true m ih =
        let a = changes-push (step w (Advance c)).0 (steps next (map Advance cs)).0 true (advance-changed w c ∙ m) in absurd (omega (arith, a, e))
    by false m ih =
        let a = changes-push (step w (Advance c)).0 (steps next (map Advance cs)).0 false (advance-changed w c ∙ m) in
        let same : next ≡ w = advance-world w c m in
        let none : changes (steps next (map Advance cs)).0 ≡ 0 = omega (arith, a, e) in
        (m, ih (subst (λ v. changes (steps v (map Advance cs)).0 ≡ 0) same none))

in_range : (P : ℕ → Type 0) (a n : ℕ) → AllByRecursion P (range_with_len a n) → (c : ℕ) → a ≤ c → c < a + n → P c
in_range P a zero all c low high = absurd (omega (arith, low, high))
in_range P a (suc n) all c low high =
    ⊎_elim (λ l. let same : a ≡ c = omega (arith, l, low) in subst P same all.0) (λ l. in_range P (a + 1) n all.1 c l (omega (arith, high))) (cases_lt c (a + 1))

pub range-all : (P : ℕ → Type 0) (n : ℕ) → AllByRecursion P (range_with_len 0 n) → (c : ℕ) → c < n → P c
range-all P n all c low = in_range P 0 n all c (omega arith) (omega (arith, low))

still_below : (s : LinkState) (n : ℕ) → ((c : ℕ) → c < n → moves (advance s c).0 ≡ false) → is_still_below s n ≡ true
still_below s zero still = refl
still_below s (suc n) still = rw (still n (omega arith), still_below s n (λ c low. still c (omega (arith, low)))) refl

rest-still : (w : WorldState) → changes (pass w).value ≡ 0 → is_still_below w.links (length w.links.channels) ≡ true
rest-still w e = still_below w.links (length w.links.channels) (range-all (λ c. moves (advance w.links c).0 ≡ false) (length w.links.channels) (advances-still w (channels_of w) e))

idle_or_stuck : (s : LinkState) (b : Bool) → is_idle s ≡ b → is_still_below s (length s.channels) ≡ true → (is_idle s ≡ true) ⊎ (is_stuck s ≡ true)
idle_or_stuck s true e still = inl e
idle_or_stuck s false e still = inr (rw (e, still) refl)

-- a pass of a drain is told where it changes something
drain_pass-is : (w : WorldState) → ((is_still (pass w).value ≡ true) × (drain_pass w ≡ still [] w)) ⊎ ((is_still (pass w).value ≡ false) × (drain_pass w ≡ pass w))
drain_pass-is w = by (is_still (pass w).value) refl
  where
    by : (t : Bool) → is_still (pass w).value ≡ t → ((is_still (pass w).value ≡ true) × (drain_pass w ≡ still [] w)) ⊎ ((is_still (pass w).value ≡ false) × (drain_pass w ≡ pass w))
    by true e = inl (e, ap (λ b. if b then still [] w else pass w) e)
    by false e = inr (e, ap (λ b. if b then still [] w else pass w) e)

-- the drain
abbrev Costs : WorldState → Log (List Effect) → Type 0
Costs w l = changes l.value + total_hops l.world.links ≤ total_hops w.links

drain_pass-cost : (w : WorldState) → Costs w (drain_pass w)
drain_pass-cost w = either Costs w (still [] w) (pass w) (is_still (pass w).value) (omega arith) (pass-cost w)

chain-costs : Chains (λ xs ys. xs ++ ys) [] Costs
chain-costs = record { same = λ w. omega arith; both = λ w l m p q. let a = changes-append l.value m.value in omega (arith, p, q, a) }

drain_pass-less : (w : WorldState) → Unit {0} → is_still (drain_pass w).value ≡ false → Unit {0} × (total_hops (drain_pass w).world.links < total_hops w.links)
drain_pass-less w i e = let some : changes (drain_pass w).value ≢ 0 = grind (arith, nat_tests) in let cost = drain_pass-cost w in (tt, omega (arith, some, cost))

pub drain-drains : (w : WorldState) → Drains w (drain w)
unfolding drain
drain-drains w = up_to-repeats (λ xs ys. xs ++ ys) [] (λ before p. is_still p.value) drain_pass (λ v. Unit {0}) (λ v. total_hops v.links) drain_pass-less (total_hops w.links + 1) w tt (omega arith)

pub drain-cost : (w : WorldState) → changes (drain w).value ≤ total_hops w.links
unfolding drain
drain-cost w = let h : Costs w (drain w) = up_to-chain (λ xs ys. xs ++ ys) [] Costs chain-costs (λ before p. is_still p.value) drain_pass drain_pass-cost (total_hops w.links + 1) w in omega (arith, h)

-- the pass that changes nothing
last-still : (w : WorldState) → is_still (drain_pass w).value ≡ true → is_still_below (drain_pass w).world.links (length (drain_pass w).world.links.channels) ≡ true
last-still w last = ⊎_elim (λ p. let none : changes (pass w).value ≡ 0 = let e = p.0 in grind (arith, nat_tests) in subst (λ l. is_still_below l.world.links (length l.world.links.channels) ≡ true) (sym p.1) (rest-still w none)) (λ p. absurd (true≢false (sym last ∙ (ap (λ l. is_still l.value) p.1 ∙ p.0)))) (drain_pass-is w)

pub drain-still : (w : WorldState) → (is_idle (drain w).world.links ≡ true) ⊎ (is_stuck (drain w).world.links ≡ true)
drain-still w =
    let v : WorldState = (drain w).world in
    idle_or_stuck v.links (is_idle v.links) refl (repeats-end (λ xs ys. xs ++ ys) (λ before p. is_still p.value) drain_pass (λ u. is_still_below u.links (length u.links.channels) ≡ true) last-still w (drain w) (drain-drains w))
