-- The fabrics of 2 to 24 hosts, by tests that are computed for each: that it is one, that its lines print it, and that its hosts are found.
use Rattle.std.proofs.Common.{◌≡◌, ◌≢◌, ◌≤◌, ◌<◌, ℕ, zero, suc, ◌+◌, ◌*◌, List, [], ◌∷◌, ◌++◌, Bool, true, false, not, ◌&&◌, ◌||◌, length, nat_eq, nat_le, Option, Some, None, true≢false, refl, ap, sym, ◌∙◌, arith}
use Rattle.std.specs.Prelude.{bytes_eq}
use Rattle.std.specs.Fmt.{digits}
use Rattle.std.specs.List.{AllByRecursion, list_all, list_any, range_with_len}
use Rattle.std.proofs.lemmas.Bool.Decides.{nat_tests, Decides-eqb}
use Rattle.std.proofs.lemmas.Slice.Eq.{bytes_eq-Decides}
use Rattle.net_defs.specs.declared.vertex.Vertex.{Vertex}
use Rattle.net_defs.specs.declared.vertex.Vertex.TheVariants.{Host, Switch}
use Rattle.net_defs.specs.Network.{Network, IsFabric, Apart, ends_of, has_port, is_port_count, names, same_end}
use Rattle.net_defs.specs.Building.{vertex_named}
use Rattle.net_defs.proofs.Ends.{both, same_end-refl}
use Rattle.fab_text.specs.Word.{name_test}
use Rattle.fabric_file.specs.Reading.{AreNamed}
use Rattle.fabric_file.specs.Printing.{fabric_text, script_line, fabric_lines as lines_of}
use Rattle.fabric_gen.specs.Text.{below, lines_text, host_name, fabric_lines}
use Rattle.input_texts.specs.Generated.{gen_fabric}

-- no element stands twice
abbrev apart_test : {X : Type 0} → (X → X → Bool) → List X → Bool
apart_test same [] = true
apart_test same (x ∷ xs) = not (list_any (same x) xs) && apart_test same xs

-- an element that is the same as none differs from each
differs : {X : Type 0} (same : X → X → Bool) (own : (x : X) → same x x ≡ true) (x : X) (xs : List X) → not (list_any (same x) xs) ≡ true → AllByRecursion (λ y. x ≢ y) xs
differs same own x [] e = tt
differs same own x (y ∷ ys) e = by (same x y) refl e (differs same own x ys)
  where
    by : (t : Bool) → same x y ≡ t → not (t || list_any (same x) ys) ≡ true → (not (list_any (same x) ys) ≡ true → AllByRecursion (λ y. x ≢ y) ys) → AllByRecursion (λ y. x ≢ y) (y ∷ ys)
    by true s e rest = absurd (true≢false (sym e))
    by false s e rest = ((λ one. true≢false (sym (own x) ∙ ap (same x) one ∙ s)), rest e)

apart-from : {X : Type 0} (same : X → X → Bool) (own : (x : X) → same x x ≡ true) (xs : List X) → apart_test same xs ≡ true → Apart xs
apart-from same own [] e = tt
apart-from same own (x ∷ xs) e =
    let two = both (not (list_any (same x) xs)) (apart_test same xs) e in
    (differs same own x xs two.0, apart-from same own xs two.1)

-- what passes a test at each element
all-from : {X : Type 0} (p : X → Bool) (xs : List X) → list_all p xs ≡ true → AllByRecursion (λ x. p x ≡ true) xs
all-from p [] e = tt
all-from p (x ∷ xs) e = let two = both (p x) (list_all p xs) e in (two.0, all-from p xs two.1)

-- what passes at each number of a range
in-range : (p : ℕ → Bool) (a k n : ℕ) → list_all p (range_with_len a k) ≡ true → a ≤ n → n < a + k → p n ≡ true
in-range p a zero n e low high = absurd (omega arith)
in-range p a (suc k) n e low high = by (nat_eq a n) refl (in-range p (a + 1) k n (both (p a) (list_all p (range_with_len (a + 1) k)) e).1)
  where
    by : (t : Bool) → nat_eq a n ≡ t → (a + 1 ≤ n → n < a + 1 + k → p n ≡ true) → p n ≡ true
    by true t rest = ap p (sym ((Decides-eqb a n).0 t)) ∙ (both (p a) (list_all p (range_with_len (a + 1) k)) e).0
    by false t rest = let above : a + 1 ≤ n = grind (arith, nat_tests) in rest above (omega arith)

bytes-own : (w : List ℕ) → bytes_eq w w ≡ true
bytes-own w = (bytes_eq-Decides w w).1 refl

-- a fabric whose names have the form of the text
abbrev fabric_test : Network → Bool
fabric_test f =
    nat_le (length f.hosts) 128 && (nat_le (length f.switches) 64 && (apart_test bytes_eq (names f) && (list_all (λ s. is_port_count s.ports) f.switches
    && (list_all (has_port f) (ends_of f.cables) && (apart_test same_end (ends_of f.cables) && list_all name_test (names f))))))

-- the host of this address
abbrev is_host : ℕ → Option Vertex → Bool
is_host h None = false
is_host h (Some (Host g)) = nat_eq g h
is_host h (Some (Switch s)) = false

is-host : (h : ℕ) (v : Option Vertex) → is_host h v ≡ true → v ≡ Some (Host h)
is-host h None e = absurd (true≢false (sym e))
is-host h (Some (Host g)) e = ap (λ k. Some (Host k)) ((Decides-eqb g h).0 e)
is-host h (Some (Switch s)) e = absurd (true≢false (sym e))

-- a host has a name of the text's form, which names it
abbrev host_test : Network → ℕ → Bool
host_test f h = name_test (host_name h) && is_host h (vertex_named f (host_name h))

-- the tests of the fabric of so many hosts
abbrev case_test : ℕ → Bool
case_test n =
    fabric_test (gen_fabric n) && (bytes_eq (lines_text (fabric_lines n)) (fabric_text (gen_fabric n) ++ script_line)
    && (nat_eq (lines_of (gen_fabric n) + 1) (4 * n) && list_all (host_test (gen_fabric n)) (below n)))

all-cases : list_all case_test (range_with_len 2 23) ≡ true
unfolding digits
all-cases = refl

-- What the tests show of a fabric.
pub record IsCase (n : ℕ) : Type 0 where
  pub is_fabric : IsFabric (gen_fabric n)
  pub are_named : AreNamed (gen_fabric n)
  pub printed : lines_text (fabric_lines n) ≡ fabric_text (gen_fabric n) ++ script_line
  pub counted : lines_of (gen_fabric n) + 1 ≡ 4 * n
  pub named : (h : ℕ) → h < n → name_test (host_name h) ≡ true
  pub found : (h : ℕ) → h < n → vertex_named (gen_fabric n) (host_name h) ≡ Some (Host h)

below-len : (a b : ℕ) → nat_le a b ≡ true → a ≤ b
below-len a b e = grind (arith, nat_tests)

fabric-from : (f : Network) → fabric_test f ≡ true → IsFabric f × AreNamed f
fabric-from f e =
    let a = both (nat_le (length f.hosts) 128) _ e in
    let b = both (nat_le (length f.switches) 64) _ a.1 in
    let c = both (apart_test bytes_eq (names f)) _ b.1 in
    let d = both (list_all (λ s. is_port_count s.ports) f.switches) _ c.1 in
    let g = both (list_all (has_port f) (ends_of f.cables)) _ d.1 in
    let h = both (apart_test same_end (ends_of f.cables)) _ g.1 in (
      record {
        few_hosts = below-len (length f.hosts) 128 a.0;
        few_switches = below-len (length f.switches) 64 b.0;
        names_apart = apart-from bytes_eq bytes-own (names f) c.0;
        port_counts = all-from (λ s. is_port_count s.ports) f.switches d.0;
        cabled_ports = all-from (has_port f) (ends_of f.cables) g.0;
        ports_once = apart-from same_end same_end-refl (ends_of f.cables) h.0;
      },
      all-from name_test (names f) h.1,
    )

case-from : (n : ℕ) → case_test n ≡ true → IsCase n
case-from n e =
    let f = gen_fabric n in
    let text = fabric_text f ++ script_line in
    let a = both (fabric_test f) (bytes_eq (lines_text (fabric_lines n)) text && (nat_eq (lines_of f + 1) (4 * n) && list_all (host_test f) (below n))) e in
    let b = both (bytes_eq (lines_text (fabric_lines n)) text) (nat_eq (lines_of f + 1) (4 * n) && list_all (host_test f) (below n)) a.1 in
    let c = both (nat_eq (lines_of f + 1) (4 * n)) (list_all (host_test f) (below n)) b.1 in
    let two = fabric-from f a.0 in
    let at : (h : ℕ) → h < n → (name_test (host_name h) ≡ true) × (is_host h (vertex_named f (host_name h)) ≡ true) = λ h low.
    both (name_test (host_name h)) (is_host h (vertex_named f (host_name h))) (in-range (host_test f) 0 n h c.1 (omega arith) (omega arith)) in
    record {
      is_fabric = two.0;
      are_named = two.1;
      printed = (bytes_eq-Decides (lines_text (fabric_lines n)) text).0 b.0;
      counted = (Decides-eqb (lines_of f + 1) (4 * n)).0 c.0;
      named = λ h low. (at h low).0;
      found = λ h low. is-host h (vertex_named f (host_name h)) (at h low).1;
    }

pub each-case : (n : ℕ) → 2 ≤ n → n ≤ 24 → IsCase n
each-case n low high = case-from n (in-range case_test 2 23 n all-cases low (omega arith))
