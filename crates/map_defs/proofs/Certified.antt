-- The ring's least route from b to d, and the certificate of its routes.
use Rattle.std.proofs.Common.{◌≡◌, ◌≤◌, ◌<◌, ℕ, zero, suc, List, [], ◌∷◌, length, Bool, true, false, not, ◌&&◌, Option, Some, None, is_some, sym, ◌∙◌, subst, ap, refl, arith, ◌⊎◌, inl, inr, nat_lt}
use Rattle.std.specs.Prelude.{ℤ, pos, negsuc, slice_get}
use Rattle.std.specs.List.{list_all, AllByRecursion}
use Rattle.std.proofs.lemmas.Bool.{false≢true, and_parts, and_from, ltb-true}
use Rattle.journal_defs.specs.Walks.{turns_below, walk_below}
use Rattle.journal_defs.proofs.Order.{below-parts}
use Rattle.journal_defs.proofs.Members.{member-passes}
use Rattle.net_defs.specs.declared.route.Route.{Route}
use Rattle.map_defs.specs.declared.rank.RankEntry.{RankEntry}
use Rattle.map_defs.specs.NetMap.{NetMap, MapPort, same_port}
use Rattle.map_defs.specs.Orientation.{order_of}
use Rattle.map_defs.specs.Routing.{LeadsTo, IsLeastLegal, is_legal, led_to, port_of_host}
use Rattle.net_defs.specs.Dependencies.{IsNext, IsBefore, Chain}
use Rattle.map_defs.specs.Ranks.{Rises, IsCertificate, rank_of, channels_of_routes}
use Rattle.net_defs.specs.Dependencies.IsNext.{here, later}
use Rattle.net_defs.specs.Dependencies.Chain.{one, more}
use Rattle.map_defs.specs.Examples.{ring_map, ring_routes, free_routes, ring_ranks, port}
use Rattle.map_defs.proofs.Ports.{same_port-refl}
use Rattle.map_defs.proofs.Leading.{routes_within, routes-member}

abbrev pub is_at : Option MapPort → MapPort → Bool
is_at None at = false
is_at (Some e) at = same_port e at

-- a legal route that leads there and stands before another
abbrev pub is_better : NetMap → List ℕ → ℕ → MapPort → MapPort → List ℤ → List ℤ → Bool
is_better m order a d at turns w = is_at (led_to m (Some d) w) at && (is_legal m order a w && walk_below w turns)

not_longer : (v w : List ℤ) → walk_below v w ≡ true → length v ≤ length w
not_longer v w e = by (below-parts v w e)
  where
    by : (length v < length w) ⊎ ((length v ≡ length w) × (turns_below v w ≡ true)) → length v ≤ length w
    by (inl l) = omega arith
    by (inr l) = let g = l.0 in omega arith

-- a route is least where no route of its length or less is better
pub least-by : (m : NetMap) (order : List ℕ) (a b : ℕ) (turns : List ℤ) (d at : MapPort) → port_of_host m a ≡ Some d → port_of_host m b ≡ Some at → led_to m (Some d) turns ≡ Some at → is_legal m order a turns ≡ true → list_all (λ w. not (is_better m order a d at turns w)) (routes_within m (length turns) d) ≡ true → IsLeastLegal m order a b turns
least-by m order a b turns d at p q led legal all = record {
  leads = record { at = at; is_at = q; led = ap (λ o. led_to m o turns) p ∙ led };
  legal = legal;
  least = λ others l k. by others l k (walk_below others turns) refl;
}
  where
    not-not : (x : Bool) → not x ≡ true → x ≡ true → ⊥
    not-not true e f = false≢true e
    not-not false e f = false≢true f

    by : (others : List ℤ) → LeadsTo m a b others → is_legal m order a others ≡ true → (t : Bool) → walk_below others turns ≡ t → walk_below others turns ≡ false
    by others l k false e = e
    by others l k true e =
        let one : at ≡ l.at = (let two : Some at ≡ Some l.at = sym q ∙ l.is_at in cc) in
        let there : led_to m (Some d) others ≡ Some at = ap (λ o. led_to m o others) (sym p) ∙ l.led ∙ ap Some (sym one) in
        let listed = routes-member m (length turns) d at others there (not_longer others turns e) in
        let worse = member-passes (λ w. not (is_better m order a d at turns w)) others (routes_within m (length turns) d) all listed in
        let good : is_better m order a d at turns others ≡ true = and_from _ _ (ap (λ o. is_at o at) there ∙ same_port-refl at) (and_from (is_legal m order a others) (walk_below others turns) k e) in
        absurd (not-not (is_better m order a d at turns others) worse good)

abbrev pub ring_order : List ℕ
ring_order = 1 ∷ 0 ∷ 2 ∷ 3 ∷ 4 ∷ 5 ∷ 6 ∷ 7 ∷ []

pub order_is : order_of ring_map ≡ ring_order
order_is = refl

abbrev pub from_b_to_d : List ℤ
from_b_to_d = negsuc 0 ∷ pos 1 ∷ pos 2 ∷ []

pub b_to_d : IsLeastLegal ring_map (order_of ring_map) 1 3 from_b_to_d
b_to_d = subst (λ o. IsLeastLegal ring_map o 1 3 from_b_to_d) (sym order_is) (least-by ring_map ring_order 1 3 from_b_to_d (port 5 (pos 0)) (port 6 (pos 0)) refl refl refl refl refl)

-- tests that ranks rise along channels
abbrev rise : Option ℕ → Option ℕ → Bool
rise (Some a) (Some b) = nat_lt a b
rise _ _ = false

abbrev along : List RankEntry → List MapPort → Bool
along ks [] = true
along ks (c ∷ []) = true
along ks (c ∷ d ∷ cs) = rise (rank_of ks c) (rank_of ks d) && along ks (d ∷ cs)

rise-rises : (ks : List RankEntry) (c d : MapPort) → rise (rank_of ks c) (rank_of ks d) ≡ true → Rises ks c d
rise-rises ks c d e = by (rank_of ks c) (rank_of ks d) refl refl e
  where
    by : (o p : Option ℕ) → rank_of ks c ≡ o → rank_of ks d ≡ p → rise o p ≡ true → Rises ks c d
    by None p f g h = absurd (false≢true h)
    by (Some a) None f g h = absurd (false≢true h)
    by (Some a) (Some b) f g h = record { low = a; high = b; is_low = f; is_high = g; rises = ltb-true a b h }

along-tail : (ks : List RankEntry) (b : MapPort) (cs : List MapPort) → along ks (b ∷ cs) ≡ true → along ks cs ≡ true
along-tail ks b [] e = refl
along-tail ks b (c ∷ cs) e = (and_parts (rise (rank_of ks b) (rank_of ks c)) _ e).1

next-rises : (ks : List RankEntry) (c d : MapPort) (cs : List MapPort) → along ks cs ≡ true → IsNext c d cs → Rises ks c d
next-rises ks c d cs e (here {cs = xs}) = rise-rises ks c d (and_parts (rise (rank_of ks c) (rank_of ks d)) _ e).0
next-rises ks c d cs e (later {b = b} {cs = xs} n) = next-rises ks c d xs (along-tail ks b xs e) n

place-passes : {X : Type 0} (test : X → Bool) (xs : List X) (k : ℕ) (x : X) → list_all test xs ≡ true → slice_get xs k ≡ Some x → test x ≡ true
place-passes test [] k x all e = cc
place-passes test (y ∷ ys) zero x all e = let one : y ≡ x = cc in ap test (sym one) ∙ (and_parts (test y) (list_all test ys) all).0
place-passes test (y ∷ ys) (suc k) x all e = place-passes test ys k x (and_parts (test y) (list_all test ys) all).1 e

each-passes : {X : Type 0} (test : X → Bool) (xs : List X) → list_all test xs ≡ true → AllByRecursion (λ x. test x ≡ true) xs
each-passes test [] all = tt
each-passes test (x ∷ xs) all = let two = and_parts (test x) (list_all test xs) all in (two.0, each-passes test xs two.1)

all-ranked : (ks : List RankEntry) (css : List (List MapPort)) → list_all (list_all (λ c. is_some (rank_of ks c))) css ≡ true → AllByRecursion (λ cs. AllByRecursion (λ c. is_some (rank_of ks c) ≡ true) cs) css
all-ranked ks [] all = tt
all-ranked ks (cs ∷ css) all =
    let two = and_parts (list_all (λ c. is_some (rank_of ks c)) cs) _ all in
    (each-passes (λ c. is_some (rank_of ks c)) cs two.0, all-ranked ks css two.1)

-- what a test of the ranks shows
pub certificate-by : (m : NetMap) (routes : List Route) (ks : List RankEntry) → list_all (list_all (λ c. is_some (rank_of ks c))) (channels_of_routes m routes) ≡ true → list_all (along ks) (channels_of_routes m routes) ≡ true → IsCertificate m routes ks
certificate-by m routes ks ranked rising = record {
  ranked = all-ranked ks (channels_of_routes m routes) ranked;
  rising = λ c d b. next-rises ks c d b.route (place-passes (along ks) (channels_of_routes m routes) b.place b.route rising b.there) b.next;
}

pub ring_certificate : IsCertificate ring_map ring_routes ring_ranks
ring_certificate = certificate-by ring_map ring_routes ring_ranks refl refl

-- channel (1, -1) comes before (3, 2) in the route from a to d
pub ring_before : IsBefore (channels_of_routes ring_map ring_routes) (port 1 (negsuc 0)) (port 3 (pos 2))
ring_before = record { place = 2; route = port 0 (pos 0) ∷ port 1 (negsuc 0) ∷ port 3 (pos 2) ∷ []; there = refl; next = later here }

-- each of the four routes leads on to the next one's middle channel
free_before : (k : ℕ) (b c d e : MapPort) → slice_get (channels_of_routes ring_map free_routes) k ≡ Some (b ∷ c ∷ d ∷ e ∷ []) → IsBefore (channels_of_routes ring_map free_routes) c d
free_before k b c d e there = record { place = k; route = b ∷ c ∷ d ∷ e ∷ []; there = there; next = later here }

pub free_cycle : Chain (IsBefore (channels_of_routes ring_map free_routes)) (port 1 (negsuc 1)) (port 1 (negsuc 1))
free_cycle =
    more (free_before 0 (port 0 (pos 0)) (port 1 (negsuc 1)) (port 2 (negsuc 0)) (port 4 (pos 1)) refl)
    (
    more (free_before 1 (port 5 (pos 0)) (port 2 (negsuc 0)) (port 4 (negsuc 0)) (port 3 (pos 2)) refl)
    (
    more (free_before 2 (port 7 (pos 0)) (port 4 (negsuc 0)) (port 3 (pos 0)) (port 1 (pos 0)) refl)
    (one (free_before 3 (port 6 (pos 0)) (port 3 (pos 0)) (port 1 (negsuc 1)) (port 2 (pos 1)) refl))
    )
    )
