-- Walks that found nothing ahead of their fronts, with one entry more.
use Rattle.std.proofs.Common.{◌≡◌, ◌⊎◌, inl, inr, ℕ, zero, suc, ◌+◌, ◌<◌, length, List, [], ◌∷◌, ◌++◌, Bool, true, false, ◌||◌, Some, refl, ap, sym, ◌∙◌, subst, true≢false}
use Rattle.std.specs.Prelude.{ℤ, is_some, slice_get}
use Rattle.std.proofs.lemmas.Bool.{false≢true}
use Rattle.net_defs.specs.declared.place.Answer.TheVariants.{Nothing}
use Rattle.net_defs.specs.Turn.{same_turns}
use Rattle.net_defs.proofs.Turns.{same_turns-refl, same_turns-true}
use Rattle.journal_defs.specs.declared.entry.Entry.{Entry}
use Rattle.journal_defs.specs.Tree.{Node, IsJournal, IsNode, answered, is_asked, nodes}
use Rattle.journal_defs.specs.Tree.Node.{Reached}
use Rattle.map_laws.proofs.Keeping.{answered-last, answered-push, asked-push, keeps-append, node-kept}
use Rattle.probe.specs.Keeping.{has_walk}
use Rattle.replicate_merge.specs.Asked.{HasOrphans}
use Rattle.replicate_merge.specs.Nodes.{nodes_of}
use Rattle.replicate_merge.specs.Ways.{node_at}
use Rattle.replicate_merge.proofs.Nodes.{at-node, node-at}
use Rattle.replicate_merge.proofs.Telling.{no-walk, node-walk, walk-node}

-- one walk more
pub has-more : (ws : List (List ℤ)) (w v : List ℤ) → has_walk (ws ++ w ∷ []) v ≡ true → (has_walk ws v ≡ true) ⊎ (w ≡ v)
has-more [] w v h = by (same_turns w v) refl h
  where
    by : (b : Bool) → same_turns w v ≡ b → (b || false) ≡ true → (false ≡ true) ⊎ (w ≡ v)
    by true p q = inr (same_turns-true w v p)
    by false p q = absurd (false≢true q)
has-more (x ∷ xs) w v h = by (same_turns x v) h (has-more xs w v)
  where
    by : (b : Bool) → (b || has_walk (xs ++ w ∷ []) v) ≡ true → (has_walk (xs ++ w ∷ []) v ≡ true → (has_walk xs v ≡ true) ⊎ (w ≡ v)) → ((b || has_walk xs v) ≡ true) ⊎ (w ≡ v)
    by true q rest = inl refl
    by false q rest = rest q

pub has-left : (ws : List (List ℤ)) (w v : List ℤ) → has_walk ws v ≡ true → has_walk (ws ++ w ∷ []) v ≡ true
has-left [] w v h = absurd (false≢true h)
has-left (x ∷ xs) w v h = by (same_turns x v) h (has-left xs w v)
  where
    by : (b : Bool) → (b || has_walk xs v) ≡ true → (has_walk xs v ≡ true → has_walk (xs ++ w ∷ []) v ≡ true) → (b || has_walk (xs ++ w ∷ []) v) ≡ true
    by true q rest = refl
    by false q rest = rest q

pub has-last : (ws : List (List ℤ)) (w : List ℤ) → has_walk (ws ++ w ∷ []) w ≡ true
has-last [] w = ap (λ b. b || false) (same_turns-refl w)
has-last (x ∷ xs) w = by (same_turns x w) (has-last xs w)
  where
    by : (b : Bool) → has_walk (xs ++ w ∷ []) w ≡ true → (b || has_walk (xs ++ w ∷ []) w) ≡ true
    by true q = refl
    by false q = q

-- a walk that is there has a place
has-place : (ws : List (List ℤ)) (v : List ℤ) → has_walk ws v ≡ true → (k : ℕ) × (slice_get ws k ≡ Some v)
has-place [] v h = absurd (false≢true h)
has-place (x ∷ xs) v h = by (same_turns x v) refl h (has-place xs v)
  where
    by : (b : Bool) → same_turns x v ≡ b → (b || has_walk xs v) ≡ true → (has_walk xs v ≡ true → (k : ℕ) × (slice_get xs k ≡ Some v)) → (k : ℕ) × (slice_get (x ∷ xs) k ≡ Some v)
    by true p q rest = (zero, ap (λ w. Some w) (same_turns-true x v p))
    by false p q rest = let r = rest q in (suc r.0, r.1)

-- walks in memory are those of the nodes
pub walk-known : (j : List Entry) (walks : List (List ℤ)) → nodes_of walks ≡ nodes j → IsJournal j → (v : List ℤ) → has_walk walks v ≡ true → IsNode j (Reached v)
walk-known j walks numbered once v h =
    let place = has-place walks v h in
    let there = walk-node walks place.0 v place.1 in
    subst (λ u. IsNode j u) there.1 (subst (λ (ns : List Node). place.0 + 1 < length ns → IsNode j (node_at ns (place.0 + 1))) (sym numbered) (at-node j once (place.0 + 1)) there.0)

pub node-known : (j : List Entry) (walks : List (List ℤ)) → nodes_of walks ≡ nodes j → (v : List ℤ) → IsNode j (Reached v) → has_walk walks v ≡ true
node-known j walks numbered v node = by (has_walk walks v) refl
  where
    by : (b : Bool) → has_walk walks v ≡ b → has_walk walks v ≡ true
    by true p = p
    by false p =
        let at = node-at j (Reached v) node in
        let walked = node-walk walks at.number v (subst (λ (ns : List Node). at.number < length ns) (sym numbered) at.below) (ap (λ (ns : List Node). node_at ns at.number) numbered ∙ at.is) in
        absurd (no-walk walks v p walked.place walked.walk)

-- a walk that wasn't asked is none of the orphans
pub not-orphan : (j : List Entry) (orphans : List (List ℤ)) (ahead : Bool) (w : List ℤ) → HasOrphans j orphans ahead → is_asked j w ≡ false → has_walk orphans w ≡ false
not-orphan j orphans ahead w o fresh = by (has_walk orphans w) refl
  where
    by : (b : Bool) → has_walk orphans w ≡ b → has_walk orphans w ≡ false
    by false p = p
    by true p = absurd (true≢false (sym (ap (λ x. is_some x) (o.only w p)) ∙ fresh))

-- with one entry more
pub orphans-next : (j : List Entry) (e : Entry) (orphans new : List (List ℤ)) (ahead : Bool) → is_asked j e.walk ≡ false → HasOrphans j orphans ahead
    → ((w : List ℤ) → has_walk new w ≡ true → (has_walk orphans w ≡ true) ⊎ ((e.walk ≡ w) × (e.answer ≡ Nothing)))
    → ((w : List ℤ) → has_walk orphans w ≡ true → has_walk new w ≡ true)
    → ((w : List ℤ) (t : ℤ) → e.walk ≡ w ++ t ∷ [] → e.answer ≡ Nothing → IsNode j (Reached w) ⊎ (has_walk new e.walk ≡ true))
    → HasOrphans (j ++ e ∷ []) new true
orphans-next j e orphans new ahead fresh o only more own = record {
  only = λ w h. by_only w (only w h);
  each = λ w t a. by_each w t (answered-push j e (w ++ t ∷ []) Nothing a);
  none = λ a w t q. absurd (true≢false a);
}
  where
    by_only : (w : List ℤ) → (has_walk orphans w ≡ true) ⊎ ((e.walk ≡ w) × (e.answer ≡ Nothing)) → answered (j ++ e ∷ []) w ≡ Some Nothing
    by_only w (inl h) = (keeps-append j (e ∷ [])).kept w Nothing (o.only w h)
    by_only w (inr p) = ap (answered (j ++ e ∷ [])) (sym p.0) ∙ answered-last j e fresh ∙ ap (λ x. Some x) p.1

    kept : (w : List ℤ) → IsNode j (Reached w) → IsNode (j ++ e ∷ []) (Reached w)
    kept w n = node-kept j (j ++ e ∷ []) (keeps-append j (e ∷ [])) (Reached w) n

    by_each : (w : List ℤ) (t : ℤ) → (answered j (w ++ t ∷ []) ≡ Some Nothing) ⊎ ((e.walk ≡ w ++ t ∷ []) × (e.answer ≡ Nothing)) → IsNode (j ++ e ∷ []) (Reached w) ⊎ (has_walk new (w ++ t ∷ []) ≡ true)
    by_each w t (inl a) = old (o.each w t a)
      where
        old : IsNode j (Reached w) ⊎ (has_walk orphans (w ++ t ∷ []) ≡ true) → IsNode (j ++ e ∷ []) (Reached w) ⊎ (has_walk new (w ++ t ∷ []) ≡ true)
        old (inl n) = inl (kept w n)
        old (inr h) = inr (more (w ++ t ∷ []) h)
    by_each w t (inr p) = now (own w t p.0 p.1)
      where
        now : IsNode j (Reached w) ⊎ (has_walk new e.walk ≡ true) → IsNode (j ++ e ∷ []) (Reached w) ⊎ (has_walk new (w ++ t ∷ []) ≡ true)
        now (inl n) = inl (kept w n)
        now (inr h) = inr (sym (ap (has_walk new) p.0) ∙ h)

-- an entry whose front is a node doesn't look ahead
pub orphans-done : (j : List Entry) (e : Entry) (orphans : List (List ℤ)) (ahead : Bool) → HasOrphans (j ++ e ∷ []) orphans true → (ahead ≡ false → (w : List ℤ) (t : ℤ) → is_asked j (w ++ t ∷ []) ≡ true → IsNode j (Reached w))
    → ((w : List ℤ) (t : ℤ) → e.walk ≡ w ++ t ∷ [] → IsNode (j ++ e ∷ []) (Reached w)) → HasOrphans (j ++ e ∷ []) orphans ahead
orphans-done j e orphans ahead o none front = record {
  only = o.only;
  each = o.each;
  none = λ a w t q. by a w t (asked-push j e (w ++ t ∷ []) q);
}
  where
    by : ahead ≡ false → (w : List ℤ) (t : ℤ) → (is_asked j (w ++ t ∷ []) ≡ true) ⊎ (e.walk ≡ w ++ t ∷ []) → IsNode (j ++ e ∷ []) (Reached w)
    by a w t (inl q) = node-kept j (j ++ e ∷ []) (keeps-append j (e ∷ [])) (Reached w) (none a w t q)
    by a w t (inr p) = front w t p
