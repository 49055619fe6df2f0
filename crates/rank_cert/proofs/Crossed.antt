-- Routes along which a table's channels rise.
use Rattle.std.proofs.Common.{◌≡◌, ◌≢◌, ◌<◌, ◌≤◌, ◌+◌, ◌*◌, ℕ, zero, suc, List, [], ◌∷◌, ◌++◌, Bool, true, false, not, length, drop, get_or, set, nat_eq, nat_lt, true≢false, Option, Some, None, refl, sym, ap, ◌∙◌, subst, arith, if◌then◌else◌}
use Rattle.std.specs.Prelude.{IfSome, ℤ, pos, ◌+ℤ◌, ◌-ℤ◌, option_map, option_and_then, option_to_list}
use Rattle.std.proofs.lemmas.List.{get_or-set_same, get_or-set_other}
use Rattle.std.proofs.lemmas.Bool.Decides.{Decides-eqb, nat_tests}
use Rattle.map_defs.specs.declared.rank.RankEntry.{RankEntry}
use Rattle.map_defs.specs.NetMap.{NetMap, MapPort, map_far}
use Rattle.map_defs.specs.Routing.{channels_on, led_to, turned_to}
use Rattle.rank_cert.specs.declared.crossings.Crossing.{Crossing}
use Rattle.rank_cert.specs.Checking.{fault_along}
use Rattle.rank_cert.specs.Crossing.{IsCrossing, AreBelow, AreCrossings, far_of}
use Rattle.rank_cert.specs.Listing.{port_at}
use Rattle.rank_cert.proofs.Places.{port_within}

-- one more channel at its place
pub crossing-put : (m : NetMap) (ks : List RankEntry) (table : List (Option Crossing)) (k : ℕ) (o : Option Crossing) → k < length table → ((c : Crossing) → o ≡ Some c → IsCrossing m ks (port_at k) c) → AreCrossings m ks table → AreCrossings m ks (set table k o)
crossing-put m ks table k o low new old = record { each = λ j c e. by j c e (nat_eq j k) refl }
  where
    by : (j : ℕ) (c : Crossing) → get_or (set table k o) j None ≡ Some c → (t : Bool) → nat_eq j k ≡ t → IsCrossing m ks (port_at j) c
    by j c e true q =
        let same : j ≡ k = (Decides-eqb j k).0 q in
        subst (λ i. IsCrossing m ks (port_at i) c) (sym same) (new c (sym (get_or-set_same table k o None low) ∙ ap (λ i. get_or (set table k o) i None) (sym same) ∙ e))
    by j c e false q =
        let apart : j ≢ k = λ p. true≢false (sym ((Decides-eqb j k).1 p) ∙ q) in
        old.each j c (sym (get_or-set_other table k j o None apart) ∙ e)

-- one more place that was looked at
pub below-next : (m : NetMap) (ks : List RankEntry) (table : List (Option Crossing)) (place : ℕ) (o : Option Crossing) → o ≡ get_or table place None → IfSome o (IsCrossing m ks (port_at place)) → AreBelow place m ks table → AreBelow (place + 1) m ks table
below-next m ks table place o is right below k c low e = by (nat_eq k place) refl
  where
    here : (q : Option Crossing) → q ≡ Some c → IfSome q (IsCrossing m ks (port_at place)) → IsCrossing m ks (port_at place) c
    here None f h = cc
    here (Some d) f h = let same : d ≡ c = cc in subst (IsCrossing m ks (port_at place)) same h

    by : (t : Bool) → nat_eq k place ≡ t → IsCrossing m ks (port_at k) c
    by true q =
        let same : k ≡ place = (Decides-eqb k place).0 q in
        subst (λ i. IsCrossing m ks (port_at i) c) (sym same) (here o (is ∙ ap (λ i. get_or table i None) (sym same) ∙ e) right)
    by false q =
        let apart : k ≢ place = λ p. true≢false (sym ((Decides-eqb k place).1 p) ∙ q) in
        below k c (omega (arith, low, apart)) e

some-low : (table : List (Option Crossing)) (k : ℕ) (c : Crossing) → get_or table k None ≡ Some c → k < length table
some-low [] k c e = cc
some-low (o ∷ table) zero c e = omega arith
some-low (o ∷ table) (suc k) c e = let low = some-low table k c e in omega (arith, low)

pub below-all : (m : NetMap) (ks : List RankEntry) (table : List (Option Crossing)) (places : ℕ) → length table ≤ places → AreBelow places m ks table → AreCrossings m ks table
below-all m ks table places end below = record { each = λ k c e. let low = some-low table k c e in below k c (omega (arith, low, end)) e }

-- the channels behind a port that was entered, and where turns lead from it
abbrev pub behind : NetMap → MapPort → List ℤ → List MapPort
behind m e [] = []
behind m e (t ∷ ts) = channels_on m (turned_to m e t) ts

abbrev pub ended : NetMap → MapPort → List ℤ → Option MapPort
ended m e [] = Some e
ended m e (t ∷ ts) = led_to m (turned_to m e t) ts

channels-from : (m : NetMap) (d e : MapPort) (ts : List ℤ) → map_far m d ≡ Some e → channels_on m (Some d) ts ≡ d ∷ behind m e ts
channels-from m d e [] far = ap (λ o. option_to_list (option_map (λ x. d) o)) far
channels-from m d e (t ∷ ts) far = ap (λ o. option_to_list (option_map (λ x. d) o) ++ channels_on m (option_and_then (λ x. turned_to m x t) o) ts) far

led-from : (m : NetMap) (d e : MapPort) (ts : List ℤ) → map_far m d ≡ Some e → led_to m (Some d) ts ≡ ended m e ts
led-from m d e [] far = far
led-from m d e (t ∷ ts) far = ap (λ o. led_to m (option_and_then (λ x. turned_to m x t) o) ts) far

-- Turns were followed up to a channel, the ranks rose, and some turns are left.
pub record IsRisen (m : NetMap) (ks : List RankEntry) (start : MapPort) (turns left : List ℤ) (c : Crossing) : Type 0 where
  pub at : MapPort
  pub is : IsCrossing m ks at c
  pub faults : fault_along ks None (channels_on m (Some start) turns) ≡ fault_along ks (Some ((at.v, at.p), c.rank)) (behind m (far_of c) left)
  pub leads : led_to m (Some start) turns ≡ ended m (far_of c) left

pub risen-first : (m : NetMap) (ks : List RankEntry) (start : MapPort) (turns : List ℤ) (c : Crossing) → IsCrossing m ks start c → IsRisen m ks start turns turns c
risen-first m ks start turns c is = record {
  at = start;
  is = is;
  faults = ap (fault_along ks None) (channels-from m start (far_of c) turns is.leads) ∙ (rw is.ranked refl);
  leads = led-from m start (far_of c) turns is.leads;
}

less-test : (a b : ℕ) → a < b → nat_lt a b ≡ true
less-test a b l = grind (arith, nat_tests)

pub risen-next : (m : NetMap) (ks : List RankEntry) (start : MapPort) (turns : List ℤ) (t : ℤ) (left : List ℤ) (c next : Crossing) → IsRisen m ks start turns (t ∷ left) c → c.onward ≡ true → IsCrossing m ks (record { v = c.v; p = c.p +ℤ t }) next → c.rank < next.rank → IsRisen m ks start turns left next
risen-next m ks start turns t left c next r onward is less =
    let d : MapPort = record { v = c.v; p = c.p +ℤ t } in
    let turned : turned_to m (far_of c) t ≡ Some d = ap (λ b. if b then Some d else None) (sym r.is.onward ∙ onward) in
    record {
      at = d;
      is = is;
      faults =
          r.faults
          ∙ ap (λ o. fault_along ks (Some ((r.at.v, r.at.p), c.rank)) (channels_on m o left)) turned
          ∙ ap (fault_along ks (Some ((r.at.v, r.at.p), c.rank))) (channels-from m d (far_of next) left is.leads)
          ∙ (rw (is.ranked, less-test c.rank next.rank less) refl);
      leads = r.leads ∙ ap (λ o. led_to m o left) turned ∙ led-from m d (far_of next) left is.leads;
    }

past-drop : {X : Type 0} (xs : List X) (i : ℕ) → length xs ≤ i → drop i xs ≡ []
past-drop [] zero l = refl
past-drop [] (suc i) l = refl
past-drop (x ∷ xs) zero l = absurd (omega arith)
past-drop (x ∷ xs) (suc i) l = past-drop xs i (omega arith)

-- all turns were followed
pub risen-last : (m : NetMap) (ks : List RankEntry) (start : MapPort) (turns : List ℤ) (i : ℕ) (c : Crossing) → length turns ≤ i → IsRisen m ks start turns (drop i turns) c → (fault_along ks None (channels_on m (Some start) turns) ≡ None) × (led_to m (Some start) turns ≡ Some (far_of c))
risen-last m ks start turns i c past r =
    let none = past-drop turns i past in
    (r.faults ∙ ap (λ l. fault_along ks (Some ((r.at.v, r.at.p), c.rank)) (behind m (far_of c) l)) none, r.leads ∙ ap (ended m (far_of c)) none)

-- what is said of a channel that is there
pub holds-some : (m : NetMap) (ks : List RankEntry) (d : MapPort) (o : Option Crossing) (c : Crossing) → o ≡ Some c → IfSome o (IsCrossing m ks d) → IsCrossing m ks d c
holds-some m ks d o c e is = subst (λ x. IfSome x (IsCrossing m ks d)) e is

-- what a table has at the place of a port
pub at-place : (m : NetMap) (ks : List RankEntry) (table : List (Option Crossing)) (v k : ℕ) → k < 31 → AreCrossings m ks table → IfSome (get_or table (31 * v + k) None) (IsCrossing m ks (record { v = v; p = pos k -ℤ pos 15 }))
at-place m ks table v k low are = by (get_or table (31 * v + k) None) refl
  where
    by : (o : Option Crossing) → get_or table (31 * v + k) None ≡ o → IfSome o (IsCrossing m ks (record { v = v; p = pos k -ℤ pos 15 }))
    by None e = tt
    by (Some c) e = subst (λ d. IsCrossing m ks d c) (port_within v k low) (are.each (31 * v + k) c e)

pub yes-of : (b : Bool) → not b ≡ false → b ≡ true
yes-of true e = refl
yes-of false e = absurd (true≢false e)

-- the next channel, where its rank is greater
pub next-above : (m : NetMap) (ks : List RankEntry) (last : Crossing) (d e : MapPort) (o p : Option Crossing) → last.onward ≡ true → d ≡ e → IfSome o (IsCrossing m ks d) → IfSome p (λ c. (o ≡ Some c) × (last.rank < c.rank)) → IfSome p (λ c. (last.onward ≡ true) × IsCrossing m ks e c × (last.rank < c.rank))
next-above m ks last d e o None onward same is above = tt
next-above m ks last d e o (Some c) onward same is above = (onward, subst (λ x. IsCrossing m ks x c) same (holds-some m ks d o c above.0 is), above.1)
