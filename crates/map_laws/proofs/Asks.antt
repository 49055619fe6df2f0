-- What each ask of a growing journal is: a new turn of a switch that was found before.
use Rattle.std.proofs.Common.{◌≡◌, ◌≢◌, ◌+◌, ℕ, suc, List, [], ◌∷◌, ◌++◌, map, length, Bool, true, false, Some, sym, ◌∙◌, subst, ap, true≢false, refl, arith, length-append, if◌then◌else◌, is_some, ◌⊎◌, inl, inr}
use Rattle.std.specs.Prelude.{ℤ, pos, negsuc}
use Rattle.std.specs.List.{AllByRecursion}
use Rattle.std.proofs.lemmas.Bool.{false≢true}
use Rattle.net_defs.specs.declared.place.Answer.TheVariants.{Switch}
use Rattle.net_defs.specs.Network.{Apart}
use Rattle.net_defs.proofs.Distinct.{apart-push}
use Rattle.journal_defs.specs.declared.entry.Entry.{Entry}
use Rattle.journal_defs.specs.Walks.{IsOnward}
use Rattle.net_defs.specs.Turn.{same_turns}
use Rattle.journal_defs.specs.Tree.{IsNode, IsSwitchNode, IsJournal, is_asked, answered, has_found}
use Rattle.journal_defs.specs.Tree.Node.{Reached}
use Rattle.journal_defs.specs.Replicates.Replicates.{same}
use Rattle.journal_defs.specs.Growth.{IsBegun, IsExpanded, IsGrowing, NextAsk, HasExpanded}
use Rattle.journal_defs.specs.Growth.IsGrowing.{nothing, more}
use Rattle.journal_defs.specs.Growth.NextAsk.{first, goes_on, begins}
use Rattle.net_defs.proofs.Turns.{same_turns-refl}
use Rattle.journal_defs.proofs.OneSwitch.{first_turn}
use Rattle.map_laws.proofs.Keeping.{Keeps, keeps-append, asked-push}

-- a list with an element more
pub not_empty : {X : Type 0} (xs : List X) (x : X) → xs ++ x ∷ [] ≢ []
not_empty [] x e = cc
not_empty (y ∷ xs) x e = cc

pub push-parts : {X : Type 0} (xs ys : List X) (x y : X) → xs ++ x ∷ [] ≡ ys ++ y ∷ [] → (xs ≡ ys) × (x ≡ y)
push-parts [] [] x y e = (refl, (let one : x ≡ y = cc in one))
push-parts [] (z ∷ ys) x y e = absurd (not_empty ys y (let tail : ys ++ y ∷ [] ≡ [] = cc in tail))
push-parts (z ∷ xs) [] x y e = absurd (not_empty xs x (let tail : xs ++ x ∷ [] ≡ [] = cc in tail))
push-parts (z ∷ xs) (w ∷ ys) x y e =
    let head : z ≡ w = cc in
    let tail : xs ++ x ∷ [] ≡ ys ++ y ∷ [] = cc in
    let rest = push-parts xs ys x y tail in
    let list : xs ≡ ys = rest.0 in
    ((let both : z ∷ xs ≡ w ∷ ys = cc in both), rest.1)

pub push-length : (w : List ℤ) (t : ℤ) → length (w ++ t ∷ []) ≡ suc (length w)
push-length w t = length-append w (t ∷ []) ∙ (let e : length w + 1 ≡ suc (length w) = omega arith in e)

-- a list is empty or has a last element: a walk its last turn
pub data ByLast {X : Type 0} (xs : List X) : Type 0 where
  empty : xs ≡ [] → ByLast xs
  pushed : (ys : List X) (y : X) → xs ≡ ys ++ y ∷ [] → ByLast xs

pub by_last : {X : Type 0} (xs : List X) → ByLast xs
by_last [] = empty refl
by_last (x ∷ xs) = by (by_last xs)
  where
    by : ByLast xs → ByLast (x ∷ xs)
    by (empty e) = pushed [] x (ap (λ l. x ∷ l) e)
    by (pushed ys y e) = pushed (x ∷ ys) y (ap (λ l. x ∷ l) e)

pub switch-node : (j : List Entry) (w : List ℤ) → IsSwitchNode j w → IsNode j (Reached w)
switch-node j w s = ap has_found s

-- an expanded node is begun
pub expanded-begun : (j : List Entry) (w : List ℤ) → IsNode j (Reached w) → IsExpanded j w → IsBegun j w
expanded-begun j w node x = record { node = node; turn = negsuc 14; onward = first_turn; asked = x.asked (negsuc 14) first_turn }

pub expanded-has : (host : ℕ) (j : List Entry) (w : List ℤ) → IsNode j (Reached w) → IsExpanded j w → HasExpanded host j (Reached w)
expanded-has host j w node x = record { member = w; offset = pos 0; one_class = same node; expanded = x }

-- an ask is of a walk that wasn't asked before
pub ask-new : (host depth : ℕ) (j : List Entry) (x : List ℤ) → NextAsk host depth j x → is_asked j x ≡ false
ask-new host depth j x (first a b) = ap (λ i. is_asked i x) a
ask-new host depth j x (goes_on w t b l least e) = ap (is_asked j) e ∙ l.unasked
ask-new host depth j x (begins w rest c e) = ap (is_asked j) e ∙ by (is_asked j (w ++ negsuc 14 ∷ [])) refl
  where
    by : (b : Bool) → is_asked j (w ++ negsuc 14 ∷ []) ≡ b → is_asked j (w ++ negsuc 14 ∷ []) ≡ false
    by false p = p
    by true p =
        let begun : IsBegun j w = record { node = switch-node j w c.switch; turn = negsuc 14; onward = first_turn; asked = p } in
        absurd (c.fresh (expanded-has host j w (switch-node j w c.switch) (rest.expanded w begun)))

-- the first ask begins no node
pub first-unbegun : (j : List Entry) (e : Entry) (w : List ℤ) → j ≡ [] → e.walk ≡ [] → ¬ IsBegun (j ++ e ∷ []) w
first-unbegun j e w none walk b = by (asked-push j e (w ++ b.turn ∷ []) b.asked)
  where
    by : (is_asked j (w ++ b.turn ∷ []) ≡ true) ⊎ (e.walk ≡ w ++ b.turn ∷ []) → ⊥
    by (inl p) = let q : is_asked [] (w ++ b.turn ∷ []) ≡ true = subst (λ i. is_asked i (w ++ b.turn ∷ []) ≡ true) none p in false≢true q
    by (inr p) = not_empty w b.turn (sym p ∙ walk)

-- the walks of a journal's entries
abbrev pub walks : List Entry → List (List ℤ)
walks j = map (λ e. e.walk) j

pub unasked-apart : (j : List Entry) (x : List ℤ) → is_asked j x ≡ false → AllByRecursion (λ y. x ≢ y) (walks j)
unasked-apart [] x e = tt
unasked-apart (y ∷ j) x e = by (same_turns y.walk x) refl e (unasked-apart j x)
  where
    by : (b : Bool) → same_turns y.walk x ≡ b → is_some (if b then Some y.answer else answered j x) ≡ false → (is_asked j x ≡ false → AllByRecursion (λ z. x ≢ z) (walks j)) → AllByRecursion (λ z. x ≢ z) (walks (y ∷ j))
    by true p f rest = absurd (true≢false f)
    by false p f rest = ((λ one. true≢false (sym (ap (λ z. same_turns z x) (sym one) ∙ same_turns-refl x) ∙ p)), rest f)

pub walks-push : (j : List Entry) (e : Entry) → walks (j ++ e ∷ []) ≡ walks j ++ e.walk ∷ []
walks-push [] e = refl
walks-push (x ∷ j) e = ap (λ l. x.walk ∷ l) (walks-push j e)

-- no walk is asked twice
pub growing-once : (host depth : ℕ) (j : List Entry) → IsGrowing host depth j → IsJournal j
growing-once host depth j (nothing) = tt
growing-once host depth j (more before e g ask is) =
    let new = unasked-apart before e.walk (ask-new host depth before e.walk ask) in
    let rest : Apart (walks before) = growing-once host depth before g in
    subst IsJournal (sym is) (subst Apart (sym (walks-push before e)) (apart-push (walks before) e.walk rest new))

-- what was asked with a last turn goes on from a switch
pub record IsParent (j : List Entry) (w : List ℤ) (t : ℤ) : Type 0 where
  pub switch : IsSwitchNode j w
  pub onward : IsOnward t

pub record HasTree (j : List Entry) : Type 0 where
  pub parent : (w : List ℤ) (t : ℤ) → is_asked j (w ++ t ∷ []) ≡ true → IsParent j w t

parent-kept : (j l : List Entry) (w : List ℤ) (t : ℤ) → Keeps j l → IsParent j w t → IsParent l w t
parent-kept j l w t keeps p = record { switch = keeps.kept w Switch p.switch; onward = p.onward }

-- what an ask goes on from
pub ask-parent : (host depth : ℕ) (j : List Entry) (x v : List ℤ) (s : ℤ) → HasTree j → NextAsk host depth j x → x ≡ v ++ s ∷ [] → IsParent j v s
ask-parent host depth j x v s tree (first a b) is = absurd (not_empty v s (sym is ∙ b))
ask-parent host depth j x v s tree (goes_on w t b l least e) is =
    let parts = push-parts w v t s (sym e ∙ is) in
    subst (λ u. IsParent j u s) parts.0 (subst (IsParent j w) parts.1 (record { switch = (tree.parent w b.turn b.asked).switch; onward = l.onward }))
ask-parent host depth j x v s tree (begins w rest c e) is =
    let parts = push-parts w v (negsuc 14) s (sym e ∙ is) in
    subst (λ u. IsParent j u s) parts.0 (subst (IsParent j w) parts.1 (record { switch = c.switch; onward = first_turn }))

tree-push : (host depth : ℕ) (j : List Entry) (e : Entry) → HasTree j → NextAsk host depth j e.walk → HasTree (j ++ e ∷ [])
tree-push host depth j e tree ask = record { parent = λ w t f. by w t (asked-push j e (w ++ t ∷ []) f) }
  where
    by : (w : List ℤ) (t : ℤ) → (is_asked j (w ++ t ∷ []) ≡ true) ⊎ (e.walk ≡ w ++ t ∷ []) → IsParent (j ++ e ∷ []) w t
    by w t (inl p) = parent-kept j (j ++ e ∷ []) w t (keeps-append j (e ∷ [])) (tree.parent w t p)
    by w t (inr p) = parent-kept j (j ++ e ∷ []) w t (keeps-append j (e ∷ [])) (ask-parent host depth j e.walk w t tree ask p)

pub growing-tree : (host depth : ℕ) (j : List Entry) → IsGrowing host depth j → HasTree j
growing-tree host depth j (nothing) = record { parent = λ w t e. absurd (false≢true e) }
growing-tree host depth j (more before e g ask is) = subst HasTree (sym is) (tree-push host depth before e (growing-tree host depth before g) ask)
