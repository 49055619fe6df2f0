-- Lists of vertices and cables: what stands once in them, and in which order.
use Rattle.std.proofs.Common.{◌≡◌, ◌≢◌, ◌<◌, ◌+◌, ℕ, zero, suc, List, [], ◌∷◌, ◌++◌, length, true, ◌&&◌, Option, Some, None, sym, ◌∙◌, subst, ap, refl, arith, append_assoc, ◌⊎◌, inl, inr, nat_lt, nat_eq}
use Rattle.std.specs.Prelude.{ℤ, slice_get, int_lt}
use Rattle.std.specs.List.{AllByRecursion}
use Rattle.std.proofs.lemmas.Bool.{or_cases, and_parts}
use Rattle.std.proofs.lemmas.Bool.Decides.{nat_tests}
use Rattle.std.proofs.lemmas.Int.{ints}
use Rattle.net_defs.specs.Network.{Apart}
use Rattle.journal_defs.specs.Counting.{numbers_below}
use Rattle.journal_defs.proofs.Members.{IsMember, all-from-members, all-member}
use Rattle.map_defs.specs.declared.vertex.MapVertex.{MapVertex}
use Rattle.map_defs.specs.declared.vertex.MapVertex.TheVariants.{Host, Switch}
use Rattle.map_defs.specs.declared.vertex.MapCable.{MapCable}
use Rattle.map_defs.specs.NetMap.{MapPort, IsNearPort, AreNearPorts, AreInOrder, first_end, second_end, map_ends, port_below, host_at, hosts_of, switches_of}
use Rattle.map_defs.specs.Quotient.{named}

-- a host has a place
pub host-below : (vs : List MapVertex) (v h : ℕ) → host_at (slice_get vs v) ≡ Some h → v < length vs
host-below [] v h e = cc
host-below (x ∷ vs) zero h e = omega arith
host-below (x ∷ vs) (suc v) h e = let l = host-below vs v h e in omega arith

pub member-host : (vs : List MapVertex) (h : ℕ) → IsMember h (hosts_of vs) → (v : ℕ) × (host_at (slice_get vs v) ≡ Some h)
member-host [] h i = absurd i
member-host (Host g ∷ vs) h (inl e) = (zero, ap Some (sym e))
member-host (Host g ∷ vs) h (inr i) = let p = member-host vs h i in (suc p.0, p.1)
member-host (Switch s ∷ vs) h i = let p = member-host vs h i in (suc p.0, p.1)

-- each host has one place
abbrev pub HostsHaveOnePlace : List MapVertex → Type 0
HostsHaveOnePlace vs = (v w h : ℕ) → host_at (slice_get vs v) ≡ Some h → host_at (slice_get vs w) ≡ Some h → v ≡ w

less : (v w : ℕ) → suc v ≡ suc w → v ≡ w
less v w e = omega arith

pub hosts-apart : (vs : List MapVertex) → HostsHaveOnePlace vs → Apart (hosts_of vs)
hosts-apart [] once = tt
hosts-apart (Host g ∷ vs) once = (all-from-members (λ h. g ≢ h) (hosts_of vs) other, hosts-apart vs (λ v w h a b. less v w (once (suc v) (suc w) h a b)))
  where
    other : (h : ℕ) → IsMember h (hosts_of vs) → g ≢ h
    other h i e = let p = member-host vs h i in let z : 0 ≡ suc p.0 = once 0 (suc p.0) h (ap Some e) p.1 in omega arith
hosts-apart (Switch s ∷ vs) once = hosts-apart vs (λ v w h a b. less v w (once (suc v) (suc w) h a b))

-- the numbers from one on
abbrev rising_from : ℕ → ℕ → List ℕ
rising_from s zero = []
rising_from s (suc k) = s ∷ rising_from (suc s) k

below-rising : (s k : ℕ) → numbers_below (s + k) ≡ numbers_below s ++ rising_from s k
below-rising s zero = ap numbers_below (let e : s + zero ≡ s = omega arith in e) ∙ sym (no_more (numbers_below s))
  where
    no_more : (xs : List ℕ) → xs ++ [] ≡ xs
    no_more [] = refl
    no_more (x ∷ xs) = ap (λ l. x ∷ l) (no_more xs)
below-rising s (suc k) =
    ap numbers_below (let e : s + suc k ≡ suc s + k = omega arith in e) ∙ below-rising (suc s) k ∙ append_assoc (numbers_below s) (s ∷ []) (rising_from (suc s) k)

switches-rising : (s : ℕ) (os : List (Option ℕ)) → switches_of (named s os) ≡ rising_from s (length (switches_of (named s os)))
switches-rising s [] = refl
switches-rising s (Some h ∷ os) = switches-rising s os
switches-rising s (None ∷ os) = ap (λ l. s ∷ l) (switches-rising (suc s) os)

-- the switches of a named list have the numbers from 0 on
pub switches-numbered : (os : List (Option ℕ)) → switches_of (named 0 os) ≡ numbers_below (length (switches_of (named 0 os)))
switches-numbered os =
    let k = length (switches_of (named 0 os)) in
    switches-rising 0 os ∙ sym (ap numbers_below (let e : k ≡ 0 + k = omega arith in e) ∙ below-rising 0 k)

-- what holds of the ends of each cable
pub all-ends : (P : MapPort → Type 0) (cs : List MapCable) → ((c : MapCable) → IsMember c cs → P (first_end c) × P (second_end c)) → AllByRecursion P (map_ends cs)
all-ends P [] holds = tt
all-ends P (c ∷ cs) holds = let own = holds c (inl refl) in (own.0, (own.1, all-ends P cs (λ d i. holds d (inr i))))

pub near-ports : (P : MapPort → Type 0) → ((d e : MapPort) → P d → P e → IsNearPort d e) → (ds : List MapPort) → AllByRecursion P ds → AreNearPorts ds
near-ports P near [] all = tt
near-ports P near (d ∷ ds) all = (each ds all.1, near-ports P near ds all.1)
  where
    each : (es : List MapPort) → AllByRecursion P es → AllByRecursion (IsNearPort d) es
    each [] a = tt
    each (e ∷ es) a = (near d e all.0 a.0, each es a.1)

-- ports are strictly ordered
pub port-asym : (d e : MapPort) → port_below d e ≡ true → port_below e d ≡ true → ⊥
port-asym d e a b = by (or_cases (nat_lt d.v e.v) _ a) (or_cases (nat_lt e.v d.v) _ b)
  where
    ints_asym : (p q : ℤ) → int_lt p q ≡ true → int_lt q p ≡ true → ⊥
    ints_asym p q e f = absurd (grind (arith, ints))

    by : (nat_lt d.v e.v ≡ true) ⊎ ((nat_eq d.v e.v && int_lt d.p e.p) ≡ true) → (nat_lt e.v d.v ≡ true) ⊎ ((nat_eq e.v d.v && int_lt e.p d.p) ≡ true) → ⊥
    by (inl l) (inl k) = absurd (grind (arith, nat_tests))
    by (inl l) (inr k) = let two = and_parts (nat_eq e.v d.v) (int_lt e.p d.p) k in absurd (grind (arith, nat_tests, two.0))
    by (inr l) (inl k) = let two = and_parts (nat_eq d.v e.v) (int_lt d.p e.p) l in absurd (grind (arith, nat_tests, two.0))
    by (inr l) (inr k) = ints_asym d.p e.p (and_parts (nat_eq d.v e.v) (int_lt d.p e.p) l).1 (and_parts (nat_eq e.v d.v) (int_lt e.p d.p) k).1

pub port-irrefl : (d e : MapPort) → d ≡ e → port_below d e ≡ true → ⊥
port-irrefl d e p b = port-asym d e b (subst (λ x. port_below x d ≡ true) p (subst (λ x. port_below d x ≡ true) (sym p) b))

-- each cable stands at its first end
pub in-order : (cs : List MapCable) (c : MapCable) → AreInOrder cs → IsMember c cs → port_below (first_end c) (second_end c) ≡ true
in-order [] c o i = absurd i
in-order (d ∷ cs) c o (inl e) = subst (λ x. port_below (first_end x) (second_end x) ≡ true) (sym e) o.0
in-order (d ∷ cs) c o (inr i) = in-order cs c o.2 i

-- two cables that have an end in common have both
abbrev pub HaveOneFar : List MapCable → Type 0
HaveOneFar cs = (c d : MapCable) → IsMember c cs → IsMember d cs → (first_end c ≡ first_end d → second_end c ≡ second_end d) × (first_end c ≡ second_end d → second_end c ≡ first_end d) × (second_end c ≡ second_end d → first_end c ≡ first_end d)

pub ports-apart : (cs : List MapCable) → AreInOrder cs → HaveOneFar cs → Apart (map_ends cs)
ports-apart [] o one = tt
ports-apart (c ∷ cs) o one = (
  ((λ e. port-irrefl (first_end c) (second_end c) e o.0), all-ends (λ x. first_end c ≢ x) cs (λ d i. ((λ e. port-irrefl (first_end c) (first_end d) e (after d i)), first_second d i))),
  (all-ends (λ x. second_end c ≢ x) cs (λ d i. (second_first d i, (λ e. port-irrefl (first_end c) (first_end d) ((one c d (inl refl) (inr i)).2 e) (after d i)))), ports-apart cs o.2 (λ d e i k. one d e (inr i) (inr k))),
)
  where
    after : (d : MapCable) → IsMember d cs → port_below (first_end c) (first_end d) ≡ true
    after d i = all-member (λ d. port_below (first_end c) (first_end d) ≡ true) d cs o.1 i

    first_second : (d : MapCable) → IsMember d cs → first_end c ≢ second_end d
    first_second d i e = port-asym (first_end d) (second_end d) (in-order cs d o.2 i) (subst (λ x. port_below x (first_end d) ≡ true) e (after d i))

    second_first : (d : MapCable) → IsMember d cs → second_end c ≢ first_end d
    second_first d i e = first_second d i (sym ((one d c (inr i) (inl refl)).1 (sym e)))
