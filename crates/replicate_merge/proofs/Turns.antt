-- How many turns of each node are asked, and which nodes are expanded, with one entry more.
use Rattle.std.proofs.Common.{◌≡◌, ◌≢◌, ◌⊎◌, inl, inr, ℕ, ◌+◌, List, [], ◌∷◌, ◌++◌, true, false, length, set, Some, ap, sym, ◌∙◌, arith, length-append}
use Rattle.std.specs.Prelude.{ℤ, slice_get}
use Rattle.std.proofs.Math.ListN.{length-set}
use Rattle.std.proofs.lemmas.Bool.{cases_eq}
use Rattle.std.proofs.lemmas.Option.{slice_get_within}
use Rattle.journal_defs.specs.declared.entry.Entry.{Entry}
use Rattle.journal_defs.specs.Tree.{Node, is_asked}
use Rattle.journal_defs.specs.Tree.Node.{Reached}
use Rattle.journal_defs.specs.Growth.{IsExpanded}
use Rattle.journal_defs.specs.Walks.{IsOnward}
use Rattle.map_laws.proofs.Keeping.{asked-kept, asked-push, keeps-append}
use Rattle.replicate_merge.specs.Asked.{CountsAsked, asked_turns}
use Rattle.replicate_merge.proofs.Added.{item-place}
use Rattle.replicate_merge.proofs.Counting.{count-next, count-other}
use Rattle.replicate_merge.proofs.Lists.{item-last, item-left}
use Rattle.replicate_merge.proofs.Numbers.{get-other, get-set}
use Rattle.replicate_merge.proofs.Telling.{last-turn, not-empty}

-- a node more, with the count of its turns
pub counts-added : (j : List Entry) (ns : List Node) (asked : List ℕ) (w : List ℤ) (c : ℕ) → c ≡ asked_turns j w → CountsAsked j ns asked → CountsAsked j (ns ++ Reached w ∷ []) (asked ++ c ∷ [])
counts-added j ns asked w c is k = record {
  same = (let a = length-append asked (c ∷ []) in let b = length-append ns (Reached w ∷ []) in let s = k.same in omega arith);
  each = λ n v e. by n v (item-place ns (Reached w) (Reached v) n e);
}
  where
    by : (n : ℕ) (v : List ℤ) → (slice_get ns n ≡ Some (Reached v)) ⊎ ((n ≡ length ns) × (Reached w ≡ Reached v)) → slice_get (asked ++ c ∷ []) n ≡ Some (asked_turns j v)
    by n v (inl o) = item-left asked c (asked_turns j v) n (k.each n v o)
    by n v (inr s) =
        let one : w ≡ v = (let two = s.1 in cc) in
        ap (slice_get (asked ++ c ∷ [])) (s.0 ∙ sym k.same) ∙ item-last asked c ∙ ap (λ x. Some x) (is ∙ ap (asked_turns j) one)

-- an entry that is a turn of none of these nodes
pub counts-kept : (j : List Entry) (e : Entry) (ns : List Node) (asked : List ℕ) → ((n : ℕ) (w : List ℤ) → slice_get ns n ≡ Some (Reached w) → asked_turns (j ++ e ∷ []) w ≡ asked_turns j w) → CountsAsked j ns asked → CountsAsked (j ++ e ∷ []) ns asked
counts-kept j e ns asked same k = record { same = k.same; each = λ n w g. k.each n w g ∙ ap (λ x. Some x) (sym (same n w g)) }

-- the walk without turns is a turn of no walk
pub empty-turn : (j : List Entry) (e : Entry) (w : List ℤ) → e.walk ≡ [] → asked_turns (j ++ e ∷ []) w ≡ asked_turns j w
empty-turn j e w is = count-other j e w (λ t q. not-empty w t (sym q ∙ is))

-- nor is a turn of one walk a turn of another
pub other-turn : (j : List Entry) (e : Entry) (v w : List ℤ) (s : ℤ) → e.walk ≡ v ++ s ∷ [] → v ≢ w → asked_turns (j ++ e ∷ []) w ≡ asked_turns j w
other-turn j e v w s is d = count-other j e w (λ t q. d (last-turn v w s t (sym is ∙ q)).0)

module _ (j : List Entry) (e : Entry) (v : List ℤ) (s : ℤ) (is : e.walk ≡ v ++ s ∷ []) (fresh : is_asked j e.walk ≡ false) where
  -- one turn more of a node
  pub counts-turned : (ns : List Node) (asked : List ℕ) (m : ℕ) → ((n k : ℕ) (w : List ℤ) → slice_get ns n ≡ Some (Reached w) → slice_get ns k ≡ Some (Reached w) → n ≡ k) → slice_get ns m ≡ Some (Reached v) → IsOnward s → CountsAsked j ns asked → CountsAsked (j ++ e ∷ []) ns (set asked m (asked_turns j v + 1))
  counts-turned ns asked m once there on k = record {
    same = length-set asked m (asked_turns j v + 1) ∙ k.same;
    each = λ n w g. by n w g (cases_eq n m);
  }
    where
      by : (n : ℕ) (w : List ℤ) → slice_get ns n ≡ Some (Reached w) → (n ≡ m) ⊎ (n ≢ m) → slice_get (set asked m (asked_turns j v + 1)) n ≡ Some (asked_turns (j ++ e ∷ []) w)
      by n w g (inl q) =
          let both : Some (Reached w) ≡ Some (Reached v) = sym g ∙ ap (slice_get ns) q ∙ there in
          let one : w ≡ v = cc in
          ap (slice_get (set asked m (asked_turns j v + 1))) q ∙ get-set asked m (asked_turns j v + 1) (slice_get_within asked m (asked_turns j v) (k.each m v there))
          ∙ ap (λ x. Some x) (sym (count-next j e v s is fresh on) ∙ ap (asked_turns (j ++ e ∷ [])) (sym one))
      by n w g (inr d) = get-other asked m n (asked_turns j v + 1) d ∙ k.each n w g ∙ ap (λ x. Some x) (sym (other-turn j e v w s is (λ q. d (once n m w g (there ∙ ap (λ x. Some (Reached x)) q)))))

  -- expanded nodes stay expanded, and of those that aren't in front none becomes it
  pub expanded-up : (w : List ℤ) → IsExpanded j w → IsExpanded (j ++ e ∷ []) w
  expanded-up w x = record { asked = λ t on. asked-kept j (j ++ e ∷ []) (keeps-append j (e ∷ [])) (w ++ t ∷ []) (x.asked t on) }

  pub expanded-down : (w : List ℤ) → w ≢ v → IsExpanded (j ++ e ∷ []) w → IsExpanded j w
  expanded-down w d x = record { asked = λ t on. by t (asked-push j e (w ++ t ∷ []) (x.asked t on)) }
    where
      by : (t : ℤ) → (is_asked j (w ++ t ∷ []) ≡ true) ⊎ (e.walk ≡ w ++ t ∷ []) → is_asked j (w ++ t ∷ []) ≡ true
      by t (inl a) = a
      by t (inr q) = absurd (d (sym (last-turn v w s t (sym is ∙ q)).0))
