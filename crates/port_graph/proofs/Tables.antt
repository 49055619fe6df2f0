-- The table of far ends: filled for the first cable, and after one more.
use Rattle.std.proofs.Common.{◌≡◌, ◌≢◌, ◌<◌, ◌≤◌, ℕ, ◌-◌, List, [], ◌∷◌, ◌++◌, Bool, true, false, ◌||◌, length, take, replicate, get_or, set, nat_eq, Option, Some, None, refl, ap, sym, ◌∙◌, subst, true≢false, arith, get_or-set_other, get_or-set_same, ◌⊎◌, inl, inr, ⊎_elim, append-nil}
use Rattle.std.proofs.Math.ListN.{length-set}
use Rattle.std.proofs.Math.Seq.{take-nil}
use Rattle.std.proofs.lemmas.Bool.{eqb-true, cases_lt}
use Rattle.std.proofs.lemmas.List.{get_or-replicate, length-replicate, take_all, get_or_past}
use Rattle.std.proofs.lemmas.Bool.Decides.{nat_tests}
use Rattle.net_defs.specs.declared.vertex.Vertex.{Vertex}
use Rattle.net_defs.specs.declared.vertex.Vertex.TheVariants.{Host, Switch}
use Rattle.net_defs.specs.declared.vertex.End.{End}
use Rattle.net_defs.specs.declared.vertex.Cable.{Cable}
use Rattle.net_defs.specs.Network.{far_end, same_end}
use Rattle.net_defs.specs.Building.{first_of_two}
use Rattle.net_defs.proofs.Ends.{far_end-push, same_end-true, same_end-refl}
use Rattle.port_graph.specs.Table.{is_possible, may_stand, place_of_port, place_of_end, entry, IsTableOf}

-- two ends that a fabric may have stand at two places
place_of_port-same : (u v : Vertex) (p q : ℕ) → may_stand u p ≡ true → may_stand v q ≡ true → place_of_port u p ≡ place_of_port v q → (u ≡ v) × (p ≡ q)
place_of_port-same (Host g) (Host h) p q i j e =
    let k : p ≡ q = grind (arith, nat_tests) in (ap Host e, k)
place_of_port-same (Host g) (Switch t) p q i j e = absurd (grind (arith, nat_tests))
place_of_port-same (Switch s) (Host h) p q i j e = absurd (grind (arith, nat_tests))
place_of_port-same (Switch s) (Switch t) p q i j e =
    let low : p < 16 = grind (arith, nat_tests) in
    let high : q < 16 = grind (arith, nat_tests) in
    let same : s ≡ t = omega arith in
    (ap Switch same, omega arith)

pub place_of_end-same : (d e : End) → is_possible d ≡ true → is_possible e ≡ true → place_of_end d ≡ place_of_end e → d ≡ e
place_of_end-same d e i j same =
    let two = place_of_port-same d.v e.v d.p e.p i j same in
    λ k. record { v = two.0 k; p = two.1 k }

place_of_port-lt : (v : Vertex) (p : ℕ) → may_stand v p ≡ true → place_of_port v p < 1152
place_of_port-lt (Host h) p i = grind (arith, nat_tests)
place_of_port-lt (Switch s) p i = grind (arith, nat_tests)

pub place_of_end-lt : (e : End) → is_possible e ≡ true → place_of_end e < 1152
place_of_end-lt e i = place_of_port-lt e.v e.p i

-- the list that a table is resized to, which is n long
abbrev resized : List (Option End) → ℕ → List (Option End)
resized table n = take n table ++ replicate (n - length table) None

-- a table of nothing has nothing at each place
nothing_at : (n k : ℕ) → get_or (replicate {A = Option End} n None) k None ≡ None
nothing_at n k =
    ⊎_elim (λ h. get_or-replicate n k None None h) (λ h. get_or_past (replicate n None) k None (omega (arith, length-replicate {A = Option End} n None, h))) (cases_lt k n)

all_left : (n : ℕ) → n - 0 ≡ n
all_left n = omega arith

resized-empty : (table : List (Option End)) (n : ℕ) → length table ≡ 0 → resized table n ≡ replicate n None
resized-empty [] n e = ap (λ l. l ++ replicate (n - 0) None) (take-nil n) ∙ ap (λ k. replicate k None) (all_left n)
resized-empty (x ∷ xs) n e = absurd (omega arith)

resized-full : (table : List (Option End)) (n : ℕ) → length table ≡ n → resized table n ≡ table
resized-full table n e =
    ap (λ l. l ++ replicate (n - length table) None) (take_all n table (omega arith))
    ∙ ap (λ k. table ++ replicate k None) (zero-left n (length table) (omega arith))
    ∙ append-nil table
  where
    zero-left : (m k : ℕ) → m ≤ k → m - k ≡ 0
    zero-left m k h = omega arith

pub sizes : (table : List (Option End)) → (nat_eq (length table) 0 || nat_eq (length table) 1152) ≡ true → (length table ≡ 0) ⊎ (length table ≡ 1152)
sizes table size = by (nat_eq (length table) 0) (nat_eq (length table) 1152) refl refl size
  where
    by : (s t : Bool) → nat_eq (length table) 0 ≡ s → nat_eq (length table) 1152 ≡ t → (s || t) ≡ true → (length table ≡ 0) ⊎ (length table ≡ 1152)
    by true t p q h = inl (eqb-true (length table) 0 p)
    by false true p q h = inr (eqb-true (length table) 1152 q)
    by false false p q h = absurd (true≢false (sym h))

-- a table that is made full has what it had, and is full
resized-same : (table : List (Option End)) (n k : ℕ) → (length table ≡ 0) ⊎ (length table ≡ n) → get_or (resized table n) k None ≡ get_or table k None
resized-same table n k =
    ⊎_elim
    (λ e. ap (λ l. get_or l k None) (resized-empty table n e) ∙ nothing_at n k ∙ sym (get_or_past table k None (omega (arith, e))))
    (λ e. ap (λ l. get_or l k None) (resized-full table n e))

resized-length : (table : List (Option End)) (n : ℕ) → (length table ≡ 0) ⊎ (length table ≡ n) → length (resized table n) ≡ n
resized-length table n =
    ⊎_elim
    (λ e. ap length (resized-empty table n e) ∙ length-replicate n None)
    (λ e. ap length (resized-full table n e) ∙ e)

pub table-filled : (cs : List Cable) (table full : List (Option End)) (len : ℕ) → len ≡ length table → IsTableOf cs table → full ≡ take 1152 table ++ replicate (1152 - len) None → IsTableOf cs full × (length full ≡ 1152)
table-filled cs table full len l is e =
    let s = sizes table is.size in
    let f : full ≡ resized table 1152 = e ∙ ap (λ k. take 1152 table ++ replicate (1152 - k) None) l in
    let long : length full ≡ 1152 = ap length f ∙ resized-length table 1152 s in (
      record {
        size = rw long refl;
        far_ends = λ d possible. ap (λ t. get_or t (place_of_end d) None) f ∙ resized-same table 1152 (place_of_end d) s ∙ is.far_ends d possible;
      },
      long,
    )

-- what a full table has at an end after a write at another, and at that one
pub write_other : (table : List (Option End)) (d e : End) (v : Option End) → is_possible d ≡ true → is_possible e ≡ true → d ≢ e → get_or (set table (place_of_end d) v) (place_of_end e) None ≡ get_or table (place_of_end e) None
write_other table d e v i j differ = get_or-set_other table (place_of_end d) (place_of_end e) v None (λ same. differ (place_of_end-same d e i j (sym same)))

pub write_same : (table : List (Option End)) (d : End) (v : Option End) → is_possible d ≡ true → length table ≡ 1152 → get_or (set table (place_of_end d) v) (place_of_end d) None ≡ v
write_same table d v i full = let lt : place_of_end d < length table = rw full (place_of_end-lt d i) in get_or-set_same table (place_of_end d) v None lt

first_or_none : (o : Option End) → o ≡ first_of_two o None
first_or_none None = refl
first_or_none (Some x) = refl

-- the table after one more cable
pub table-joined : (cs : List Cable) (table : List (Option End)) (a b : End) → IsTableOf cs table → length table ≡ 1152 → is_possible a ≡ true → is_possible b ≡ true → far_end cs a ≡ None → far_end cs b ≡ None → a ≢ b
    → IsTableOf (cs ++ record { a = a; b = b } ∷ []) (set (set table (place_of_end a) (Some b)) (place_of_end b) (Some a))
table-joined cs table a b is full pa pb na nb differ = record {
  size = rw (length-set, length-set, full) refl;
  far_ends = λ e pe. by e pe (same_end a e) (same_end b e) refl refl ∙ sym (far_end-push cs (record { a = a; b = b }) e);
}
  where
    by : (e : End) → is_possible e ≡ true → (s t : Bool) → same_end a e ≡ s → same_end b e ≡ t → entry (set (set table (place_of_end a) (Some b)) (place_of_end b) (Some a)) e ≡ first_of_two (far_end cs e) (far_end (record { a = a; b = b } ∷ []) e)
    by e pe true t is_a is_b =
        let same : a ≡ e = same_end-true a e is_a in
        let none : far_end cs e ≡ None = subst (λ d. far_end cs d ≡ None) same na in
        let written : get_or (set (set table (place_of_end a) (Some b)) (place_of_end b) (Some a)) (place_of_end a) None ≡ Some b =
        write_other (set table (place_of_end a) (Some b)) b a (Some a) pb pa (λ q. differ (sym q)) ∙ write_same table a (Some b) pa full in
        subst (λ d. get_or (set (set table (place_of_end a) (Some b)) (place_of_end b) (Some a)) (place_of_end d) None ≡ Some b) same written ∙ rw (none, is_a) refl
    by e pe false true is_a is_b =
        let same : b ≡ e = same_end-true b e is_b in
        let none : far_end cs e ≡ None = subst (λ d. far_end cs d ≡ None) same nb in
        let written : get_or (set (set table (place_of_end a) (Some b)) (place_of_end b) (Some a)) (place_of_end b) None ≡ Some a =
        write_same (set table (place_of_end a) (Some b)) b (Some a) pb (length-set table (place_of_end a) (Some b) ∙ full) in
        subst (λ d. get_or (set (set table (place_of_end a) (Some b)) (place_of_end b) (Some a)) (place_of_end d) None ≡ Some a) same written ∙ rw (none, is_a, is_b) refl
    by e pe false false is_a is_b =
        let far_a : a ≢ e = λ q. true≢false (sym (same_end-refl a) ∙ ap (same_end a) q ∙ is_a) in
        let far_b : b ≢ e = λ q. true≢false (sym (same_end-refl b) ∙ ap (same_end b) q ∙ is_b) in
        write_other (set table (place_of_end a) (Some b)) b e (Some a) pb pe far_b
        ∙ write_other table a e (Some b) pa pe far_a
        ∙ is.far_ends e pe
        ∙ rw (is_a, is_b) (first_or_none (far_end cs e))
