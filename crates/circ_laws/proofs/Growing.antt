-- A tree that was asked in order.
use Rattle.std.proofs.Common.{◌≡◌, ◌<◌, ℕ, List, [], ◌∷◌, ◌++◌, Bool, true, false, Some, sym, ◌∙◌, subst, ap, refl, ◌⊎◌, inl, inr}
use Rattle.std.specs.Prelude.{ℤ}
use Rattle.std.specs.List.{AllByRecursion}
use Rattle.std.proofs.lemmas.Bool.{false≢true}
use Rattle.net_defs.specs.Network.{Network, Apart}
use Rattle.net_defs.specs.declared.place.Answer.TheVariants.{Switch}
use Rattle.net_defs.proofs.Distinct.{all-push, apart-push}
use Rattle.journal_defs.specs.declared.entry.Entry.{Entry}
use Rattle.journal_defs.specs.Walks.{IsOnward}
use Rattle.journal_defs.specs.Tree.{IsJournal, IsSwitchNode, is_asked}
use Rattle.journal_defs.specs.Growth.{crossed}
use Rattle.map_laws.proofs.Asks.{not_empty, push-parts, unasked-apart, walks, walks-push}
use Rattle.map_laws.proofs.Keeping.{asked-push, keeps-append}
use Rattle.circ_defs.specs.Circuit.{circuit_answer, IsCircuitJournal, IsWholeTree}
use Rattle.circ_defs.specs.Asking.{IsOfTree, IsTreeGrowing, IsTreeEnded}
use Rattle.circ_defs.specs.Asking.IsOfTree.{first, onward}
use Rattle.circ_defs.specs.Asking.IsTreeGrowing.{nothing, more}
use Rattle.circ_laws.specs.ClassLaws.{GrownTreeIsWhole}

pub growing-circuit : (n : Network) (host depth : ℕ) (j : List Entry) → IsTreeGrowing n host depth j → IsCircuitJournal n host j
growing-circuit n host depth j (nothing) = tt
growing-circuit n host depth j (more before e g ask told is) =
    subst (IsCircuitJournal n host) (sym is) (all-push (λ x. x.answer ≡ circuit_answer n host x.walk) before e (growing-circuit n host depth before g) told)

pub growing-once : (n : Network) (host depth : ℕ) (j : List Entry) → IsTreeGrowing n host depth j → IsJournal j
growing-once n host depth j (nothing) = tt
growing-once n host depth j (more before e g ask told is) =
    let new = unasked-apart before e.walk ask.unasked in
    let rest : Apart (walks before) = growing-once n host depth before g in
    subst IsJournal (sym is) (subst Apart (sym (walks-push before e)) (apart-push (walks before) e.walk rest new))

-- what was asked with a last turn goes on from a switch that is near
pub record GoesOn (depth : ℕ) (j : List Entry) (w : List ℤ) (t : ℤ) : Type 0 where
  pub switch : IsSwitchNode j w
  pub near : crossed w < depth
  pub onward : IsOnward t

goes-on : (depth : ℕ) (j : List Entry) (x w : List ℤ) (t : ℤ) → IsOfTree depth j x → x ≡ w ++ t ∷ [] → GoesOn depth j w t
goes-on depth j x w t (first e) is = absurd (not_empty w t (sym is ∙ e))
goes-on depth j x w t (onward v s switch near on e) is =
    let parts = push-parts v w s t (sym e ∙ is) in
    subst (λ u. GoesOn depth j u t) parts.0 (subst (GoesOn depth j v) parts.1 (record { switch = switch; near = near; onward = on }))

goes-kept : (depth : ℕ) (j : List Entry) (e : Entry) (w : List ℤ) (t : ℤ) → GoesOn depth j w t → GoesOn depth (j ++ e ∷ []) w t
goes-kept depth j e w t g = record { switch = (keeps-append j (e ∷ [])).kept w Switch g.switch; near = g.near; onward = g.onward }

pub growing-only : (n : Network) (host depth : ℕ) (j : List Entry) (w : List ℤ) (t : ℤ) → IsTreeGrowing n host depth j → is_asked j (w ++ t ∷ []) ≡ true → GoesOn depth j w t
growing-only n host depth j w t (nothing) f = absurd (false≢true f)
growing-only n host depth j w t (more before e g ask told is) f = subst (λ l. GoesOn depth l w t) (sym is) (goes-kept depth before e w t (by (asked-push before e (w ++ t ∷ []) (subst (λ l. is_asked l (w ++ t ∷ []) ≡ true) is f)) (growing-only n host depth before w t g)))
  where
    by : (is_asked before (w ++ t ∷ []) ≡ true) ⊎ (e.walk ≡ w ++ t ∷ []) → (is_asked before (w ++ t ∷ []) ≡ true → GoesOn depth before w t) → GoesOn depth before w t
    by (inl p) rest = rest p
    by (inr p) rest = goes-on depth before e.walk w t ask.of_tree p

pub grown_tree_is_whole : GrownTreeIsWhole
grown_tree_is_whole n host depth j g ended = record {
  circuit = growing-circuit n host depth j g;
  once = growing-once n host depth j g;
  started = ended.asked [] (first refl);
  expanded = λ w s near. record { asked = λ t on. ended.asked (w ++ t ∷ []) (onward w t s near on refl) };
  only = λ w t e. (let o = growing-only n host depth j w t g e in (o.switch, o.near, o.onward));
}
