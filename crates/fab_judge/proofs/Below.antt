-- The hosts of a map among one address more.
use Rattle.std.proofs.Common.{◌≡◌, ◌≢◌, ◌+◌, ◌<◌, ℕ, zero, suc, List, [], ◌∷◌, ◌++◌, Bool, true, false, ◌||◌, cond, nat_eq, length, refl, ap, sym, ◌∙◌, arith}
use Rattle.std.specs.Prelude.{is_some}
use Rattle.std.specs.List.{filter, list_any, range_with_len}
use Rattle.std.proofs.lemmas.Bool.Decides.{nat_tests}
use Rattle.std.proofs.lemmas.List.{append-nil, map-id}
use Rattle.std.proofs.lemmas.List.FromFn.{filter_of_map_range_with_len_more}
use Rattle.fabric_map.proofs.Listings.{position-any}
use Rattle.map_defs.specs.declared.vertex.MapVertex.{MapVertex}
use Rattle.map_defs.specs.declared.vertex.MapVertex.TheVariants.{Host, Switch}
use Rattle.map_defs.specs.NetMap.{NetMap, hosts_of}
use Rattle.map_defs.specs.Routing.{is_host_named, vertex_of_host}
use Rattle.net_defs.specs.Network.{Network}
use Rattle.answer_defs.specs.Answer.{hosts_in}

-- the hosts of a map among so many addresses, rising
abbrev pub hosts_below : NetMap → ℕ → List ℕ
hosts_below m count = filter (λ h. list_any (nat_eq h) (hosts_of m.vertices)) (range_with_len 0 count)

one-more : (p : ℕ → Bool) (k : ℕ) → filter p (range_with_len 0 (k + 1)) ≡ filter p (range_with_len 0 k) ++ cond (p k) (k ∷ []) []
one-more p k =
    let here : 0 + k ≡ k = omega arith in
    ap (filter p) (sym (map-id (range_with_len 0 (k + 1))))
    ∙ filter_of_map_range_with_len_more p (λ x. x) 0 k k here
    ∙ ap (λ l. filter p l ++ cond (p k) (k ∷ []) []) (map-id (range_with_len 0 k))

pub host-more : (m : NetMap) (k : ℕ) → list_any (nat_eq k) (hosts_of m.vertices) ≡ true → hosts_below m (k + 1) ≡ hosts_below m k ++ k ∷ []
host-more m k e = one-more (λ h. list_any (nat_eq h) (hosts_of m.vertices)) k ∙ ap (λ b. hosts_below m k ++ cond b (k ∷ []) []) e

pub host-missing : (m : NetMap) (k : ℕ) → list_any (nat_eq k) (hosts_of m.vertices) ≡ false → hosts_below m (k + 1) ≡ hosts_below m k
host-missing m k e =
    one-more (λ h. list_any (nat_eq h) (hosts_of m.vertices)) k
    ∙ ap (λ b. hosts_below m k ++ cond b (k ∷ []) []) e
    ∙ append-nil (hosts_below m k)

same-either-way : (a b : ℕ) → nat_eq a b ≡ nat_eq b a
same-either-way a b = grind (arith, nat_tests)

named-any : (h : ℕ) (vs : List MapVertex) → list_any (is_host_named h) vs ≡ list_any (nat_eq h) (hosts_of vs)
named-any h [] = refl
named-any h (Host g ∷ vs) = λ i. same-either-way g h i || named-any h vs i
named-any h (Switch s ∷ vs) = named-any h vs

-- a host has a vertex exactly where it is one of the hosts
pub found-any : (m : NetMap) (h : ℕ) → is_some (vertex_of_host m h) ≡ list_any (nat_eq h) (hosts_of m.vertices)
found-any m h = position-any (is_host_named h) m.vertices ∙ named-any h m.vertices

-- what passes a test among numbers is left of them
one-of : (p : ℕ → Bool) (a n k : ℕ) → k < n → p (a + k) ≡ true → filter p (range_with_len a n) ≢ []
one-of p a zero k within is = let no : ⊥ = omega (arith, within) in absurd no
one-of p a (suc n) zero within is =
    let same : a + 0 ≡ a = omega arith in
    let here : p a ≡ true = ap p (sym same) ∙ is in
    let rest = filter p (range_with_len (a + 1) n) in
    λ e. (let none : a ∷ rest ≡ [] = ap (λ b. cond b (a ∷ rest) rest) (sym here) ∙ e in cc)
one-of p a (suc n) (suc k) within is =
    let same : (a + 1) + k ≡ a + suc k = omega arith in
    let less : k < n = omega (arith, within) in
    by (p a) (one-of p (a + 1) n k less (ap p same ∙ is))
  where
    by : (b : Bool) → filter p (range_with_len (a + 1) n) ≢ [] → cond b (a ∷ filter p (range_with_len (a + 1) n)) (filter p (range_with_len (a + 1) n)) ≢ []
    by true ne = λ e. cc
    by false ne = ne

-- a host of the fabric that the map has is among its hosts
pub host-in : (f : Network) (m : NetMap) (h : ℕ) → h < length f.hosts → list_any (nat_eq h) (hosts_of m.vertices) ≡ true → hosts_in f m ≢ []
host-in f m h within is =
    let same : 0 + h ≡ h = omega arith in
    one-of (λ g. list_any (nat_eq g) (hosts_of m.vertices)) 0 (length f.hosts) h within (ap (λ g. list_any (nat_eq g) (hosts_of m.vertices)) same ∙ is)
