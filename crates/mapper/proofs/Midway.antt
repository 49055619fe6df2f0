-- A node whose turns are asked one after another.
use Rattle.std.proofs.Common.{◌≡◌, ◌≢◌, ◌<◌, ◌≤◌, ◌+◌, ℕ, zero, suc, List, [], ◌∷◌, ◌++◌, Bool, true, false, sym, ◌∙◌, subst, ap, true≢false, refl, arith, ◌⊎◌, inl, inr}
use Rattle.std.specs.Prelude.{ℤ, ◌<ℤ◌}
use Rattle.std.proofs.lemmas.Bool.{cases_order}
use Rattle.net_defs.specs.declared.place.Answer.TheVariants.{Switch}
use Rattle.journal_defs.specs.declared.entry.Entry.{Entry}
use Rattle.journal_defs.specs.Walks.{IsOnward, walk_below}
use Rattle.journal_defs.specs.Tree.{IsSwitchNode, is_asked}
use Rattle.journal_defs.specs.Growth.{IsBegun, IsExpanded, IsLeastUnasked, IsAtRest, IsChosen, NextAsk}
use Rattle.journal_defs.specs.Growth.NextAsk.{goes_on, begins}
use Rattle.journal_defs.proofs.Order.{below-irrefl}
use Rattle.map_laws.proofs.Keeping.{Keeps, keeps-append, asked-push, asked-kept, asked-last, expanded-kept}
use Rattle.map_laws.proofs.Asks.{HasTree, push-parts, switch-node, expanded-has}
use Rattle.map_laws.proofs.Phases.{begun-push, same_or_not}
use Rattle.mapper.specs.Turns.{turn_at}
use Rattle.mapper.proofs.Turning.{lesser-turn, turns-apart, turn-onward, turn-place}

-- Of a node the first k turns are asked and no others, and all other nodes that are begun are expanded.
pub record IsMidway (host depth : ℕ) (j : List Entry) (front : List ℤ) (k : ℕ) : Type 0 where
  pub switch : IsSwitchNode j front
  pub others : (v : List ℤ) → IsBegun j v → v ≢ front → IsExpanded j v
  pub done : (i : ℕ) → i < k → is_asked j (front ++ turn_at i ∷ []) ≡ true
  pub left : (i : ℕ) → k ≤ i → i < 30 → is_asked j (front ++ turn_at i ∷ []) ≡ false
  pub start : k ≡ 0 → IsAtRest j × IsChosen host depth j front

-- so a chosen node begins
pub midway-start : (host depth : ℕ) (j : List Entry) (front : List ℤ) → IsAtRest j → IsChosen host depth j front → IsMidway host depth j front 0
midway-start host depth j front rest c = record {
  switch = c.switch;
  others = λ v b d. rest.expanded v b;
  done = λ i l. absurd (omega arith);
  left = λ i l m. unasked (turn_at i) (turn-onward i m) (is_asked j (front ++ turn_at i ∷ [])) refl;
  start = λ z. (rest, c);
}
  where
    unasked : (t : ℤ) → IsOnward t → (b : Bool) → is_asked j (front ++ t ∷ []) ≡ b → is_asked j (front ++ t ∷ []) ≡ false
    unasked t on false e = e
    unasked t on true e =
        let begun : IsBegun j front = record { node = switch-node j front c.switch; turn = t; onward = on; asked = e } in
        absurd (c.fresh (expanded-has host j front (switch-node j front c.switch) (rest.expanded front begun)))

-- the next turn is the next ask
pub midway-ask : (host depth : ℕ) (j : List Entry) (front : List ℤ) (k : ℕ) → IsMidway host depth j front k → k < 30 → NextAsk host depth j (front ++ turn_at k ∷ [])
midway-ask host depth j front zero m l = let s = m.start refl in begins front s.0 s.1 refl
midway-ask host depth j front (suc k) m l = goes_on front (turn_at (suc k)) begun least others refl
  where
    begun : IsBegun j front
    begun = record { node = switch-node j front m.switch; turn = turn_at 0; onward = turn-onward 0 (omega arith); asked = m.done 0 (omega arith) }

    lesser : (s : ℤ) → IsOnward s → s <ℤ turn_at (suc k) → is_asked j (front ++ s ∷ []) ≡ true
    lesser s on b =
        let p = turn-place s on in
        subst (λ t. is_asked j (front ++ t ∷ []) ≡ true) p.is (m.done p.place (lesser-turn p.place (suc k) (subst (λ t. t <ℤ turn_at (suc k)) (sym p.is) b)))

    least : IsLeastUnasked j front (turn_at (suc k))
    least = record { onward = turn-onward (suc k) l; unasked = m.left (suc k) (omega arith) l; lesser = lesser }

    others : (v : List ℤ) → IsBegun j v → walk_below v front ≡ true → IsExpanded j v
    others v b low = m.others v b (λ e. true≢false (sym low ∙ ap (λ u. walk_below u front) e ∙ below-irrefl front))

-- and once it is asked, one turn more is done
pub midway-next : (host depth : ℕ) (j : List Entry) (e : Entry) (front : List ℤ) (k : ℕ) → HasTree j → IsMidway host depth j front k → k < 30 → e.walk ≡ front ++ turn_at k ∷ [] → IsMidway host depth (j ++ e ∷ []) front (k + 1)
midway-next host depth j e front k tree m l is = record {
  switch = keeps.kept front Switch m.switch;
  others = λ v b d. other v d (begun-push j e front v (turn_at k) tree is b);
  done = λ i b. asked i b (cases_order i k);
  left = λ i a b. unasked i a b (is_asked after (front ++ turn_at i ∷ [])) refl;
  start = λ z. absurd (omega arith);
}
  where
    after : List Entry
    after = j ++ e ∷ []

    keeps : Keeps j after
    keeps = keeps-append j (e ∷ [])

    other : (v : List ℤ) → v ≢ front → IsBegun j v ⊎ (v ≡ front) → IsExpanded after v
    other v d (inl b) = expanded-kept j after keeps v (m.others v b d)
    other v d (inr p) = absurd (d p)

    asked : (i : ℕ) → i < k + 1 → (i ≡ k) ⊎ ((i < k) ⊎ (k < i)) → is_asked after (front ++ turn_at i ∷ []) ≡ true
    asked i b (inl p) = subst (λ w. is_asked after w ≡ true) (is ∙ ap (λ x. front ++ turn_at x ∷ []) (sym p)) (asked-last j e)
    asked i b (inr (inl p)) = asked-kept j after keeps (front ++ turn_at i ∷ []) (m.done i p)
    asked i b (inr (inr p)) = absurd (omega arith)

    apart : (i : ℕ) → k + 1 ≤ i → i < 30 → (is_asked j (front ++ turn_at i ∷ []) ≡ true) ⊎ (e.walk ≡ front ++ turn_at i ∷ []) → ⊥
    apart i a b (inl p) = true≢false (sym p ∙ m.left i (omega arith) b)
    apart i a b (inr p) = turns-apart k i (omega arith) (push-parts front front (turn_at k) (turn_at i) (sym is ∙ p)).1

    unasked : (i : ℕ) → k + 1 ≤ i → i < 30 → (b : Bool) → is_asked after (front ++ turn_at i ∷ []) ≡ b → is_asked after (front ++ turn_at i ∷ []) ≡ false
    unasked i a b false f = f
    unasked i a b true f = absurd (apart i a b (asked-push j e (front ++ turn_at i ∷ []) f))

pub midway-expanded : (host depth : ℕ) (j : List Entry) (front : List ℤ) → IsMidway host depth j front 30 → IsExpanded j front
midway-expanded host depth j front m = record { asked = λ t on. let p = turn-place t on in subst (λ s. is_asked j (front ++ s ∷ []) ≡ true) p.is (m.done p.place p.few) }

-- with all 30 done the journal is at rest
pub midway-rest : (host depth : ℕ) (j : List Entry) (front : List ℤ) → IsMidway host depth j front 30 → IsAtRest j
midway-rest host depth j front m = record { expanded = λ v b. by v b (same_or_not v front) }
  where
    by : (v : List ℤ) → IsBegun j v → (v ≡ front) ⊎ (v ≢ front) → IsExpanded j v
    by v b (inl e) = subst (IsExpanded j) (sym e) (midway-expanded host depth j front m)
    by v b (inr d) = m.others v b d
