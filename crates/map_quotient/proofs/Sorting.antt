-- Nodes by number, sorted.
use Rattle.std.proofs.Common.{◌≡◌, ◌≢◌, ◌<◌, ◌+◌, ◌⊎◌, inl, inr, ℕ, List, [], ◌∷◌, ◌++◌, Bool, false, length, length-append, get_or, Some, refl, ap, sym, ◌∙◌, subst, arith}
use Rattle.std.specs.Prelude.{slice_get, All, Contains}
use Rattle.std.proofs.lemmas.Bool.{cases_eq}
use Rattle.std.specs.Cmp.{IsStrictWeakOrder}
use Rattle.std.specs.List.Sorted.{IsPermutation, IsSortedBy}
use Rattle.std.proofs.lemmas.List.Sorted.{sorted_far, length_permutation, All-permutation, Contains-permutation}
use Rattle.std.proofs.lemmas.Option.{slice_get-get_or, get_or_from_slice_get}
use Rattle.journal_defs.specs.Tree.{Node, node_below}
use Rattle.replicate_merge.specs.Ways.{node_at}
use Rattle.replicate_merge.proofs.Nodes.{not_below, not_below-trans}
use Rattle.map_quotient.specs.Numbering.{AreNumbersBelow, IsNodeOrder, IsPlaced}
use Rattle.map_quotient.proofs.Places.{get-less, push-new, push-old}

-- a number before another: by their nodes
abbrev pub number_below : List Node → ℕ → ℕ → Bool
number_below ns m n = node_below (node_at ns m) (node_at ns n)

pub numbers_order : (ns : List Node) → IsStrictWeakOrder (number_below ns)
numbers_order ns = record {
  one_way = λ m n. not_below (node_at ns m) (node_at ns n);
  chain = λ l m n. not_below-trans (node_at ns l) (node_at ns m) (node_at ns n);
}

-- numbers that come one after another
pub numbers-none : AreNumbersBelow 0 []
numbers-none = record { whole = refl; each = λ n l. absurd (omega arith) }

pub numbers-next : (k : ℕ) (numbers : List ℕ) → AreNumbersBelow k numbers → AreNumbersBelow (k + 1) (numbers ++ k ∷ [])
numbers-next k numbers a = record {
  whole = length-append numbers (k ∷ []) ∙ ap (λ n. n + 1) a.whole;
  each = λ n l. by n l (cases_eq n k);
}
  where
    by : (n : ℕ) → n < k + 1 → ((n ≡ k) ⊎ (n ≢ k)) → slice_get (numbers ++ k ∷ []) n ≡ Some n
    by n l (inl e) = ap (slice_get (numbers ++ k ∷ [])) (e ∙ sym a.whole) ∙ push-new numbers k ∙ ap Some (sym e)
    by n l (inr d) = push-old numbers k n n (a.each n (omega arith))

-- the numbers of all nodes, sorted by their nodes
pub sorted-order : (ns : List Node) (count : ℕ) (numbers order : List ℕ) → AreNumbersBelow count numbers → count ≡ length ns → IsPermutation numbers order → IsSortedBy (number_below ns) order → IsNodeOrder ns order
sorted-order ns count numbers order all whole permutation sorted = record {
  rises = rises;
  whole = λ n l. placed (contained n (omega arith));
  inside = λ i n e. (let low = below i n e in omega arith);
  few = length_permutation numbers order permutation ∙ all.whole ∙ whole;
}
  where
    rises : (i k m n : ℕ) → i < k → slice_get order i ≡ Some m → slice_get order k ≡ Some n → node_below (node_at ns n) (node_at ns m) ≡ false
    rises i k m n l a b =
        let far = sorted_far (number_below ns) (numbers_order ns) order sorted i k 0 (omega arith) (get-less order k n b) in
        subst (λ x. number_below ns n x ≡ false) (get_or_from_slice_get order i m 0 a) (subst (λ x. number_below ns x (get_or order i 0) ≡ false) (get_or_from_slice_get order k n 0 b) far)

    contained : (n : ℕ) → n < count → Contains order n
    contained n l = Contains-permutation numbers order n permutation (n, get-less numbers n n (all.each n l), get_or_from_slice_get numbers n n n (all.each n l))

    placed : {n : ℕ} → Contains order n → IsPlaced order n
    placed {n} p = record { place = p.0; there = slice_get-get_or order p.0 n p.1 ∙ ap Some p.2 }

    low : All (λ n. n < count) numbers
    low k d l = subst (λ x. x < count) (sym (get_or_from_slice_get numbers k k d (all.each k (let e = all.whole in omega arith)))) (let e = all.whole in omega arith)

    below : (i n : ℕ) → slice_get order i ≡ Some n → n < count
    below i n e = subst (λ x. x < count) (get_or_from_slice_get order i n 0 e) (All-permutation (λ n. n < count) numbers order permutation low i 0 (get-less order i n e))
