-- Walks among walks: the tests of turns, where a walk stands, and what a journal was asked.
use Rattle.std.proofs.Common.{◌≡◌, ◌≢◌, ◌+◌, ℕ, zero, suc, List, [], ◌∷◌, Bool, true, false, ◌||◌, map, take, Some, is_some, refl, ap, sym, ◌∙◌, subst, true≢false, arith, if◌then◌else◌}
use Rattle.std.specs.Prelude.{ℤ, slice_get}
use Rattle.std.specs.List.{AllByRecursion}
use Rattle.std.specs.Ordering.{int_eq}
use Rattle.std.specs.Cmp.Lexicographic.{pointwise}
use Rattle.std.specs.Cmp.Rules.{signed_items}
use Rattle.net_defs.specs.Network.{Apart}
use Rattle.journal_defs.specs.declared.entry.Entry.{Entry}
use Rattle.net_defs.specs.Turn.{same_turns}
use Rattle.journal_defs.specs.Tree.{answered, is_asked}
use Rattle.net_defs.proofs.Turns.{same_turns-true, same_turns-refl}
use Rattle.probe.specs.Keeping.{has_walk}

-- the two tests of turns
pub turns-agree : (v w : List ℤ) → pointwise int_eq v w ≡ same_turns v w
turns-agree v w = by (pointwise int_eq v w) (same_turns v w) refl refl
  where
    by : (a b : Bool) → pointwise int_eq v w ≡ a → same_turns v w ≡ b → a ≡ b
    by true true p q = refl
    by false false p q = refl
    by true false p q = let same : v ≡ w = (signed_items v w).0 p in sym (subst (λ x. same_turns v x ≡ true) same (same_turns-refl v)) ∙ q
    by false true p q = let same : v ≡ w = same_turns-true v w q in sym p ∙ (signed_items v w).1 same

-- a walk that stands at a place is there
pub walk-there : (ws : List (List ℤ)) (at : ℕ) (w : List ℤ) → slice_get ws at ≡ Some w → has_walk ws w ≡ true
walk-there [] at w e = cc
walk-there (v ∷ ws) zero w e = let one : v ≡ w = cc in ap (λ b. b || has_walk ws w) (subst (λ x. same_turns v x ≡ true) one (same_turns-refl v))
walk-there (v ∷ ws) (suc at) w e = by (same_turns v w) (walk-there ws at w e)
  where
    by : (b : Bool) → has_walk ws w ≡ true → (b || has_walk ws w) ≡ true
    by true t = refl
    by false t = t

-- one that was met at a place, and those up to the place of another
pub walk-met : (ws : List (List ℤ)) (at : ℕ) (v w : List ℤ) → slice_get ws at ≡ Some v → same_turns v w ≡ true → has_walk ws w ≡ true
walk-met ws at v w there t = walk-there ws at w (there ∙ ap Some (same_turns-true v w t))

pub walk-passed : (ws : List (List ℤ)) (at : ℕ) (v w : List ℤ) → slice_get ws at ≡ Some v → same_turns v w ≡ false → has_walk (take at ws) w ≡ false → has_walk (take (at + 1) ws) w ≡ false
walk-passed ws at v w there t before =
    let one : suc at ≡ at + 1 = omega arith in
    subst (λ n. has_walk (take n ws) w ≡ false) one (next ws at there before)
  where
    next : (ws : List (List ℤ)) (at : ℕ) → slice_get ws at ≡ Some v → has_walk (take at ws) w ≡ false → has_walk (take (suc at) ws) w ≡ false
    next [] at there before = cc
    next (x ∷ ws) zero there before =
        let one : x ≡ v = cc in
        ap (λ y. same_turns y w || false) one ∙ ap (λ b. b || false) t
    next (x ∷ ws) (suc at) there before = by (same_turns x w) before (next ws at there)
      where
        by : (b : Bool) → (b || has_walk (take at ws) w) ≡ false → (has_walk (take at ws) w ≡ false → has_walk (take (suc at) ws) w ≡ false) → (b || has_walk (take (suc at) ws) w) ≡ false
        by true p rest = absurd (true≢false p)
        by false p rest = rest p

-- one that stands at none isn't
pub walk-missing : (ws : List (List ℤ)) (w : List ℤ) → ((at : ℕ) → slice_get ws at ≢ Some w) → has_walk ws w ≡ false
walk-missing [] w none = refl
walk-missing (v ∷ ws) w none = by (same_turns v w) refl (walk-missing ws w (λ at. none (suc at)))
  where
    by : (b : Bool) → same_turns v w ≡ b → has_walk ws w ≡ false → (b || has_walk ws w) ≡ false
    by true t rest = absurd (none 0 (ap Some (same_turns-true v w t)))
    by false t rest = rest

-- a walk that isn't there differs from each
pub new-walk : (w : List ℤ) (ws : List (List ℤ)) → has_walk ws w ≡ false → AllByRecursion (λ v. w ≢ v) ws
new-walk w [] e = tt
new-walk w (v ∷ ws) e = by (same_turns v w) refl e (new-walk w ws)
  where
    by : (b : Bool) → same_turns v w ≡ b → (b || has_walk ws w) ≡ false → (has_walk ws w ≡ false → AllByRecursion (λ v. w ≢ v) ws) → AllByRecursion (λ v. w ≢ v) (v ∷ ws)
    by true t f rest = absurd (true≢false f)
    by false t f rest = ((λ same. true≢false (sym (subst (λ x. same_turns v x ≡ true) (sym same) (same_turns-refl v)) ∙ t)), rest f)

-- a journal's walks are those that were asked
pub asked-has_walk : (es : List Entry) (w : List ℤ) → has_walk (map (λ e. e.walk) es) w ≡ is_asked es w
asked-has_walk [] w = refl
asked-has_walk (e ∷ es) w = by (same_turns e.walk w) (asked-has_walk es w)
  where
    by : (b : Bool) → has_walk (map (λ e. e.walk) es) w ≡ is_asked es w → (b || has_walk (map (λ e. e.walk) es) w) ≡ is_some (if b then Some e.answer else answered es w)
    by true rest = refl
    by false rest = rest

-- the answer to a walk is that of the entry at its place
pub answered-at : (es : List Entry) (w : List ℤ) (at : ℕ) (e : Entry) → Apart (map (λ e. e.walk) es) → slice_get (map (λ e. e.walk) es) at ≡ Some w → slice_get es at ≡ Some e → answered es w ≡ Some e.answer
answered-at [] w at e apart p q = cc
answered-at (x ∷ es) w zero e apart p q =
    let walk : x.walk ≡ w = cc in
    let entry : x ≡ e = cc in
    let here : same_turns x.walk w ≡ true = subst (λ v. same_turns x.walk v ≡ true) walk (same_turns-refl x.walk) in
    ap (λ b. if b then Some x.answer else answered es w) here ∙ ap (λ y. Some y.answer) entry
answered-at (x ∷ es) w (suc at) e apart p q = by (same_turns x.walk w) refl (answered-at es w at e apart.1 p q)
  where
    by : (b : Bool) → same_turns x.walk w ≡ b → answered es w ≡ Some e.answer → (if b then Some x.answer else answered es w) ≡ Some e.answer
    by true t rest = absurd (different (map (λ e. e.walk) es) at w apart.0 p (same_turns-true x.walk w t))
      where
        different : (ws : List (List ℤ)) (at : ℕ) (w : List ℤ) → AllByRecursion (λ v. x.walk ≢ v) ws → slice_get ws at ≡ Some w → x.walk ≡ w → ⊥
        different [] at w all p same = cc
        different (v ∷ ws) zero w all p same = all.0 (let one : v ≡ w = cc in same ∙ sym one)
        different (v ∷ ws) (suc at) w all p same = different ws at w all.1 p same
    by false t rest = rest
