-- The walks of a journal's first entries that found nothing, with no node of the whole journal in front.
use Rattle.std.proofs.Common.{◌≡◌, ◌⊎◌, inl, inr, ℕ, List, [], ◌∷◌, ◌++◌, Bool, true, false, Some, refl, ap, sym, ◌∙◌, subst, true≢false}
use Rattle.std.specs.Prelude.{ℤ, is_some, slice_get}
use Rattle.std.proofs.lemmas.Bool.{false≢true}
use Rattle.net_defs.specs.declared.place.Answer.TheVariants.{Nothing}
use Rattle.journal_defs.specs.declared.entry.Entry.{Entry}
use Rattle.journal_defs.specs.Tree.{IsJournal, IsNode, answered, is_asked, is_found, nodes}
use Rattle.journal_defs.specs.Tree.Node.{Reached}
use Rattle.map_laws.proofs.Keeping.{answered-last, answered-push, keeps-append}
use Rattle.probe.specs.Keeping.{has_walk}
use Rattle.replicate_merge.specs.Asked.{HasOrphans}
use Rattle.replicate_merge.specs.Nodes.{nodes_of}
use Rattle.replicate_merge.proofs.Telling.{last-turn, not-empty}
use Rattle.replicate_merge.specs.AtOnce.{AreOrphans}
use Rattle.replicate_merge.proofs.Orphans.{has-last, has-left, has-more, walk-known}
use Rattle.replicate_merge.proofs.Reading.{node-missing}

pub orphans-none : (walks : List (List ℤ)) → AreOrphans [] walks []
orphans-none walks = record { only = λ w h. absurd (false≢true h); each = λ w t a. cc }

-- those of all entries are those of the journal
pub orphans-all : (j : List Entry) (walks orphans : List (List ℤ)) → nodes_of walks ≡ nodes j → IsJournal j → AreOrphans j walks orphans → HasOrphans j orphans true
orphans-all j walks orphans numbered once o = record { only = o.only; each = λ w t a. by w t (o.each w t a); none = λ a w t q. absurd (true≢false a) }
  where
    by : (w : List ℤ) (t : ℤ) → (has_walk walks w ≡ true) ⊎ (has_walk orphans (w ++ t ∷ []) ≡ true) → IsNode j (Reached w) ⊎ (has_walk orphans (w ++ t ∷ []) ≡ true)
    by w t (inl h) = inl (walk-known j walks numbered once w h)
    by w t (inr h) = inr h

-- the walk of a node is one of the walks
node-walked : (walks : List (List ℤ)) (n : ℕ) (w : List ℤ) → slice_get (nodes_of walks) n ≡ Some (Reached w) → has_walk walks w ≡ true
node-walked walks n w at = by (has_walk walks w) refl
  where
    by : (b : Bool) → has_walk walks w ≡ b → has_walk walks w ≡ true
    by true p = p
    by false p = absurd (node-missing walks w p n at)

module _ (j : List Entry) (e : Entry) (fresh : is_asked j e.walk ≡ false) (walks orphans : List (List ℤ)) (o : AreOrphans j walks orphans) where
  -- the walk of the next entry is none of them
  pub orphan-new : has_walk orphans e.walk ≡ false
  orphan-new = by (has_walk orphans e.walk) refl
    where
      by : (b : Bool) → has_walk orphans e.walk ≡ b → has_walk orphans e.walk ≡ false
      by false p = p
      by true p = absurd (true≢false (sym (ap (λ x. is_some x) (o.only e.walk p)) ∙ fresh))

  kept : (w : List ℤ) → answered j w ≡ Some Nothing → answered (j ++ e ∷ []) w ≡ Some Nothing
  kept w a = (keeps-append j (e ∷ [])).kept w Nothing a

  -- an entry that adds none
  same : ((w : List ℤ) (t : ℤ) → e.walk ≡ w ++ t ∷ [] → e.answer ≡ Nothing → has_walk walks w ≡ true) → AreOrphans (j ++ e ∷ []) walks orphans
  same front = record { only = λ w h. kept w (o.only w h); each = λ w t a. by w t (answered-push j e (w ++ t ∷ []) Nothing a) }
    where
      by : (w : List ℤ) (t : ℤ) → (answered j (w ++ t ∷ []) ≡ Some Nothing) ⊎ ((e.walk ≡ w ++ t ∷ []) × (e.answer ≡ Nothing)) → (has_walk walks w ≡ true) ⊎ (has_walk orphans (w ++ t ∷ []) ≡ true)
      by w t (inl a) = o.each w t a
      by w t (inr p) = inl (front w t p.0 p.1)

  pub orphans-found : is_found e.answer ≡ true → AreOrphans (j ++ e ∷ []) walks orphans
  orphans-found f = same (λ w t q n. absurd (false≢true (sym (ap is_found n) ∙ f)))

  pub orphans-first : e.walk ≡ [] → AreOrphans (j ++ e ∷ []) walks orphans
  orphans-first empty = same (λ w t q n. absurd (not-empty w t (sym q ∙ empty)))

  pub orphans-behind : (n : ℕ) (front : List ℤ) (t : ℤ) → e.walk ≡ front ++ t ∷ [] → slice_get (nodes_of walks) n ≡ Some (Reached front) → AreOrphans (j ++ e ∷ []) walks orphans
  orphans-behind n front t is at = same (λ w s q x. subst (λ v. has_walk walks v ≡ true) (last-turn front w t s (sym is ∙ q)).0 (node-walked walks n front at))

  -- one that is added
  pub orphans-more : e.answer ≡ Nothing → AreOrphans (j ++ e ∷ []) walks (orphans ++ e.walk ∷ [])
  orphans-more nothing = record { only = λ w h. told w (has-more orphans e.walk w h); each = λ w t a. by w t (answered-push j e (w ++ t ∷ []) Nothing a) }
    where
      told : (w : List ℤ) → (has_walk orphans w ≡ true) ⊎ (e.walk ≡ w) → answered (j ++ e ∷ []) w ≡ Some Nothing
      told w (inl h) = kept w (o.only w h)
      told w (inr p) = ap (answered (j ++ e ∷ [])) (sym p) ∙ answered-last j e fresh ∙ ap (λ x. Some x) nothing

      old : (w : List ℤ) (t : ℤ) → (has_walk walks w ≡ true) ⊎ (has_walk orphans (w ++ t ∷ []) ≡ true) → (has_walk walks w ≡ true) ⊎ (has_walk (orphans ++ e.walk ∷ []) (w ++ t ∷ []) ≡ true)
      old w t (inl h) = inl h
      old w t (inr h) = inr (has-left orphans e.walk (w ++ t ∷ []) h)

      by : (w : List ℤ) (t : ℤ) → (answered j (w ++ t ∷ []) ≡ Some Nothing) ⊎ ((e.walk ≡ w ++ t ∷ []) × (e.answer ≡ Nothing)) → (has_walk walks w ≡ true) ⊎ (has_walk (orphans ++ e.walk ∷ []) (w ++ t ∷ []) ≡ true)
      by w t (inl a) = old w t (o.each w t a)
      by w t (inr p) = inr (subst (λ v. has_walk (orphans ++ e.walk ∷ []) v ≡ true) p.0 (has-last orphans e.walk))
