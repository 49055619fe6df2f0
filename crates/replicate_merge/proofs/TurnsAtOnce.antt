-- How many turns of all nodes of a journal are asked by its first entries.
use Rattle.std.proofs.Common.{◌≡◌, ◌≢◌, ◌<◌, ℕ, ◌+◌, List, [], ◌∷◌, ◌++◌, false, length, replicate, set, Some, ap, sym, ◌∙◌, subst, arith}
use Rattle.std.specs.Prelude.{ℤ, pos, slice_get, slice_index_or}
use Rattle.std.proofs.lemmas.List.{get_or-replicate, length-replicate}
use Rattle.std.proofs.lemmas.Option.{get_or_from_slice_get, slice_get-get_or, slice_get_within}
use Rattle.journal_defs.specs.declared.entry.Entry.{Entry}
use Rattle.journal_defs.specs.Tree.{Node, is_asked}
use Rattle.journal_defs.specs.Tree.Node.{Mapper, Reached}
use Rattle.journal_defs.specs.Walks.{IsOnward}
use Rattle.replicate_merge.specs.Asked.{CountsAsked, asked_turns}
use Rattle.replicate_merge.specs.Onward.{AreOnce}
use Rattle.replicate_merge.proofs.Counting.{at-most-thirty, count-zero}
use Rattle.replicate_merge.proofs.Turns.{counts-kept, counts-turned, empty-turn, other-turn}

-- none is asked by no entries
pub counts-none : (ns : List Node) (asked : List ℕ) (count : ℕ) → count ≡ length ns → asked ≡ replicate count 0 → CountsAsked [] ns asked
counts-none ns asked count all is = record { same = long ∙ all; each = λ n w g. slice_get-get_or asked n 0 (below n w g) ∙ ap (λ x. Some x) (ap (λ (l : List ℕ). slice_index_or l n 0) is ∙ get_or-replicate count n 0 0 (let b = below n w g in let l = long in omega arith)) }
  where
    long : length asked ≡ count
    long = ap length is ∙ length-replicate count 0

    below : (n : ℕ) (w : List ℤ) → slice_get ns n ≡ Some (Reached w) → n < length asked
    below n w g = let l = slice_get_within ns n (Reached w) g in let m = long in omega arith

module _ (j : List Entry) (e : Entry) (fresh : is_asked j e.walk ≡ false) (ns : List Node) (once : AreOnce ns) (asked : List ℕ) (k : CountsAsked j ns asked) where
  -- an entry in front of which is the mapper's host
  pub counts-first : e.walk ≡ [] → CountsAsked (j ++ e ∷ []) ns asked
  counts-first is = counts-kept j e ns asked (λ n w g. empty-turn j e w is) k

  module _ (front : List ℤ) (t : ℤ) (is : e.walk ≡ front ++ t ∷ []) where
    -- in front of which is no node
    pub counts-missing : ((n : ℕ) → slice_get ns n ≢ Some (Reached front)) → CountsAsked (j ++ e ∷ []) ns asked
    counts-missing none = counts-kept j e ns asked (λ n w g. other-turn j e front w t is (λ q. none n (g ∙ ap (λ v. Some (Reached v)) (sym q)))) k

    -- that goes back by turn 0
    pub counts-back : t ≡ pos 0 → CountsAsked (j ++ e ∷ []) ns asked
    counts-back zero = counts-kept j e ns asked (λ n w g. count-zero j e front w t is (λ o. o.1 zero)) k

    -- a turn of a node
    module _ (n : ℕ) (at : slice_get ns n ≡ Some (Reached front)) where
      value : slice_index_or asked n 0 ≡ asked_turns j front
      value = get_or_from_slice_get asked n (asked_turns j front) 0 (k.each n front at)

      pub turn-inside : n < length asked
      turn-inside = slice_get_within asked n (asked_turns j front) (k.each n front at)

      pub turn-below : slice_index_or asked n 0 < 255
      turn-below = let e = value in let f = at-most-thirty j front in omega arith

      once-there : (m o : ℕ) (w : List ℤ) → slice_get ns m ≡ Some (Reached w) → slice_get ns o ≡ Some (Reached w) → m ≡ o
      once-there m o w g h = once m o (slice_get_within ns m (Reached w) g) (slice_get_within ns o (Reached w) h) (get_or_from_slice_get ns m (Reached w) Mapper g ∙ sym (get_or_from_slice_get ns o (Reached w) Mapper h))

      pub counts-more : IsOnward t → CountsAsked (j ++ e ∷ []) ns (set asked n (slice_index_or asked n 0 + 1))
      counts-more on = subst (λ m. CountsAsked (j ++ e ∷ []) ns (set asked n (m + 1))) (sym value) (counts-turned j e front t is fresh ns asked n once-there at on k)
