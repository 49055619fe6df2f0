-- Whether a journal leads from a node to another, and by which ports.
use Rattle.std.proofs.Common.{◌≡◌, ◌≢◌, suc, List, [], ◌∷◌, ◌++◌, length, sym, ◌∙◌, subst, ap, refl, arith, ◌⊎◌, inl, inr}
use Rattle.std.specs.Prelude.{ℤ, pos}
use Rattle.journal_defs.specs.declared.entry.Entry.{Entry}
use Rattle.journal_defs.specs.Tree.{Node, Leads, IsNode}
use Rattle.journal_defs.specs.Tree.Node.{Mapper, Reached}
use Rattle.journal_defs.specs.Tree.Leads.{onward, back, out, home}
use Rattle.map_laws.proofs.Asks.{ByLast, by_last, not_empty, push-parts, push-length}
use Rattle.map_laws.proofs.Asks.ByLast.{empty, pushed}
use Rattle.map_laws.proofs.Phases.{same_or_not}

-- the ports by which one node leads to another
pub record HasLead (j : List Entry) (u x : Node) : Type 0 where
  pub port : ℤ
  pub enters : ℤ
  pub leads : Leads j u port x enters
  pub only : (p i : ℤ) → Leads j u p x i → (p ≡ port) × (i ≡ enters)

abbrev pub HasNoLead : List Entry → Node → Node → Type 0
HasNoLead j u x = (p i : ℤ) → ¬ Leads j u p x i

reached-one : (v w : List ℤ) → Reached v ≡ Reached w → v ≡ w
reached-one v w e = let one : v ≡ w = cc in one

-- between the mapper's host and walks
mapper-mapper : (j : List Entry) (u x : Node) (p i : ℤ) → Leads j u p x i → u ≡ Mapper → x ≡ Mapper → ⊥
mapper-mapper j u x p i (onward a b is) e f = cc
mapper-mapper j u x p i (back a b is) e f = cc
mapper-mapper j u x p i (out a) e f = cc
mapper-mapper j u x p i (home a) e f = cc

from-mapper : (j : List Entry) (u x : Node) (p i : ℤ) (w : List ℤ) → Leads j u p x i → u ≡ Mapper → x ≡ Reached w → (w ≡ []) × (p ≡ pos 0) × (i ≡ pos 0)
from-mapper j u x p i w (onward a b is) e f = cc
from-mapper j u x p i w (back a b is) e f = cc
from-mapper j u x p i w (out a) e f = (sym (reached-one [] w f), refl, refl)
from-mapper j u x p i w (home a) e f = cc

to-mapper : (j : List Entry) (u x : Node) (p i : ℤ) (w : List ℤ) → Leads j u p x i → u ≡ Reached w → x ≡ Mapper → (w ≡ []) × (p ≡ pos 0) × (i ≡ pos 0)
to-mapper j u x p i w (onward a b is) e f = cc
to-mapper j u x p i w (back a b is) e f = cc
to-mapper j u x p i w (out a) e f = cc
to-mapper j u x p i w (home a) e f = (sym (reached-one [] w e), refl, refl)

-- between walks: one is the other with a turn more
data ByTurn (v w : List ℤ) (p i : ℤ) : Type 0 where
  forth : w ≡ v ++ p ∷ [] → i ≡ pos 0 → ByTurn v w p i
  aback : v ≡ w ++ i ∷ [] → p ≡ pos 0 → ByTurn v w p i

between : (j : List Entry) (u x : Node) (p i : ℤ) (v w : List ℤ) → Leads j u p x i → u ≡ Reached v → x ≡ Reached w → ByTurn v w p i
between j u x p i v w (onward {w = a} {x = b} {p = t} m n is) e f = forth (sym (reached-one b w f) ∙ is ∙ ap (λ y. y ++ t ∷ []) (reached-one a v e)) refl
between j u x p i v w (back {w = a} {x = b} {p = t} m n is) e f = aback (sym (reached-one b v e) ∙ is ∙ ap (λ y. y ++ t ∷ []) (reached-one a w f)) refl
between j u x p i v w (out a) e f = cc
between j u x p i v w (home a) e f = cc

longer-twice : (v w : List ℤ) (s t : ℤ) → w ≡ v ++ s ∷ [] → v ≡ w ++ t ∷ [] → ⊥
longer-twice v w s t e f =
    let a : length w ≡ suc (length v) = ap length e ∙ push-length v s in
    let b : length v ≡ suc (length w) = ap length f ∙ push-length w t in
    absurd (omega arith)

lead-forth : (j : List Entry) (v w : List ℤ) (t : ℤ) → IsNode j (Reached v) → IsNode j (Reached w) → w ≡ v ++ t ∷ [] → HasLead j (Reached v) (Reached w)
lead-forth j v w t a b e = record { port = t; enters = pos 0; leads = onward a b e; only = λ p i l. by p i (between j (Reached v) (Reached w) p i v w l refl refl) }
  where
    by : (p i : ℤ) → ByTurn v w p i → (p ≡ t) × (i ≡ pos 0)
    by p i (forth f g) = ((push-parts v v p t (sym f ∙ e)).1, g)
    by p i (aback f g) = absurd (longer-twice v w t i e f)

lead-back : (j : List Entry) (v w : List ℤ) (t : ℤ) → IsNode j (Reached v) → IsNode j (Reached w) → v ≡ w ++ t ∷ [] → HasLead j (Reached v) (Reached w)
lead-back j v w t a b e = record { port = pos 0; enters = t; leads = back b a e; only = λ p i l. by p i (between j (Reached v) (Reached w) p i v w l refl refl) }
  where
    by : (p i : ℤ) → ByTurn v w p i → (p ≡ pos 0) × (i ≡ t)
    by p i (forth f g) = absurd (longer-twice v w p t f e)
    by p i (aback f g) = (g, (push-parts w w i t (sym f ∙ e)).1)

-- a walk is another with a turn more, or is not
record IsLonger (v w : List ℤ) : Type 0 where
  pub turn : ℤ
  pub is : w ≡ v ++ turn ∷ []

is-longer : (v w : List ℤ) → IsLonger v w ⊎ ((t : ℤ) → w ≢ v ++ t ∷ [])
is-longer v w = by (by_last w)
  where
    split : (u : List ℤ) (t : ℤ) → w ≡ u ++ t ∷ [] → (u ≡ v) ⊎ (u ≢ v) → IsLonger v w ⊎ ((t : ℤ) → w ≢ v ++ t ∷ [])
    split u t e (inl p) = inl (record { turn = t; is = e ∙ ap (λ y. y ++ t ∷ []) p })
    split u t e (inr p) = inr (λ s f. p (push-parts u v t s (sym e ∙ f)).0)

    by : ByLast w → IsLonger v w ⊎ ((t : ℤ) → w ≢ v ++ t ∷ [])
    by (empty e) = inr (λ t f. not_empty v t (sym f ∙ e))
    by (pushed u t e) = split u t e (same_or_not u v)

find-walks : (j : List Entry) (v w : List ℤ) → IsNode j (Reached v) → IsNode j (Reached w) → HasLead j (Reached v) (Reached w) ⊎ HasNoLead j (Reached v) (Reached w)
find-walks j v w a b = by (is-longer v w) (is-longer w v)
  where
    by : IsLonger v w ⊎ ((t : ℤ) → w ≢ v ++ t ∷ []) → IsLonger w v ⊎ ((t : ℤ) → v ≢ w ++ t ∷ []) → HasLead j (Reached v) (Reached w) ⊎ HasNoLead j (Reached v) (Reached w)
    by (inl l) r = inl (lead-forth j v w l.turn a b l.is)
    by (inr l) (inl r) = inl (lead-back j v w r.turn a b r.is)
    by (inr l) (inr r) = inr (λ p i m. none p i (between j (Reached v) (Reached w) p i v w m refl refl))
      where
        none : (p i : ℤ) → ByTurn v w p i → ⊥
        none p i (forth f g) = l p f
        none p i (aback f g) = r i f

pub find-lead : (j : List Entry) (u x : Node) → IsNode j u → IsNode j x → HasLead j u x ⊎ HasNoLead j u x
find-lead j Mapper Mapper a b = inr (λ p i l. mapper-mapper j Mapper Mapper p i l refl refl)
find-lead j Mapper (Reached w) a b = by (same_or_not w [])
  where
    by : (w ≡ []) ⊎ (w ≢ []) → HasLead j Mapper (Reached w) ⊎ HasNoLead j Mapper (Reached w)
    by (inl e) = inl (subst (λ v. HasLead j Mapper (Reached v)) (sym e) (record { port = pos 0; enters = pos 0; leads = out (subst (λ v. IsNode j (Reached v)) e b); only = λ p i l. (let h = from-mapper j Mapper (Reached []) p i [] l refl refl in (h.1, h.2)) }))
    by (inr d) = inr (λ p i l. d (from-mapper j Mapper (Reached w) p i w l refl refl).0)
find-lead j (Reached w) Mapper a b = by (same_or_not w [])
  where
    by : (w ≡ []) ⊎ (w ≢ []) → HasLead j (Reached w) Mapper ⊎ HasNoLead j (Reached w) Mapper
    by (inl e) = inl (subst (λ v. HasLead j (Reached v) Mapper) (sym e) (record { port = pos 0; enters = pos 0; leads = home (subst (λ v. IsNode j (Reached v)) e a); only = λ p i l. (let h = to-mapper j (Reached []) Mapper p i [] l refl refl in (h.1, h.2)) }))
    by (inr d) = inr (λ p i l. d (to-mapper j (Reached w) Mapper p i w l refl refl).0)
find-lead j (Reached v) (Reached w) a b = find-walks j v w a b
