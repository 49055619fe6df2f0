-- A growing journal has a next ask, or its growth has ended by its depth.
use Rattle.std.proofs.Common.{◌≡◌, ◌≢◌, ◌<◌, ℕ, List, [], ◌∷◌, ◌++◌, length, Bool, true, false, Option, Some, None, sym, ◌∙◌, subst, ap, true≢false, refl, arith, ◌⊎◌, inl, inr}
use Rattle.std.specs.Prelude.{ℤ, negsuc, ◌<ℤ◌, int_lt}
use Rattle.std.proofs.lemmas.Bool.{cases_order}
use Rattle.std.proofs.lemmas.Int.{ints}
use Rattle.net_defs.specs.declared.place.Answer.{Answer}
use Rattle.net_defs.specs.declared.place.Answer.TheVariants.{Host, Switch, Nothing}
use Rattle.net_defs.specs.Network.{Network, IsFabric}
use Rattle.journal_defs.specs.declared.entry.Entry.{Entry}
use Rattle.journal_defs.specs.Walks.{IsOnward, onward_turns, turns_below, walk_below}
use Rattle.journal_defs.specs.Tree.{Node, IsSwitchNode, answered, is_asked}
use Rattle.journal_defs.specs.Tree.Node.{Reached}
use Rattle.journal_defs.specs.Growth.{IsGrowing, IsBegun, IsExpanded, IsAtRest, IsLeastUnasked, IsEndedByDepth, HasExpanded, NextAsk, crossed}
use Rattle.journal_defs.specs.Growth.NextAsk.{first, goes_on, begins}
use Rattle.journal_defs.specs.Truth.{IsTrueWhereFound}
use Rattle.journal_defs.proofs.Members.{IsMember, all-member}
use Rattle.journal_defs.proofs.Order.{below-irrefl, below-trans, below-parts}
use Rattle.journal_defs.proofs.Standing.{replicates-nodes}
use Rattle.journal_defs.proofs.Counted.{onward-member, all-onward}
use Rattle.map_laws.specs.Laws.{GrowthGoesOnOrEnds}
use Rattle.map_laws.proofs.Asks.{switch-node}
use Rattle.map_laws.proofs.Phases.{IsCurrent, Stage, stage, same_or_not}
use Rattle.map_laws.proofs.Phases.Stage.{fresh, under_way}
use Rattle.map_laws.proofs.Full.{AreOne}
use Rattle.map_laws.proofs.Few.{found_walks, node-found}
use Rattle.map_laws.proofs.Near.{starts}
use Rattle.map_laws.proofs.Looking.{Each, Among, look, IsOrder, Least, least}
use Rattle.map_laws.proofs.Classes.{HasClasses, classes, one-or-not}

turn_order : IsOrder (λ s t. s <ℤ t)
turn_order = record { never = λ t b. absurd (grind (arith, ints)); through = λ r s t a b. grind (arith, ints); either = λ s t. by s t (int_lt s t) refl }
  where
    by : (s t : ℤ) (b : Bool) → int_lt s t ≡ b → (s <ℤ t) ⊎ ¬ (s <ℤ t)
    by s t true e = inl (grind (arith, ints))
    by s t false e = inr (λ l. absurd (grind (arith, ints)))

walk_order : IsOrder (λ v w. walk_below v w ≡ true)
walk_order = record { never = λ w b. true≢false (sym b ∙ below-irrefl w); through = below-trans; either = λ v w. by v w (walk_below v w) refl }
  where
    by : (v w : List ℤ) (b : Bool) → walk_below v w ≡ b → (walk_below v w ≡ true) ⊎ ¬ (walk_below v w ≡ true)
    by v w true e = inl e
    by v w false e = inr (λ l. true≢false (sym l ∙ e))

-- each of the 30 turns goes on
turn-onward : (t : ℤ) → IsMember t onward_turns → IsOnward t
turn-onward t m = all-member IsOnward t onward_turns all-onward m

-- a node is expanded, or has a least turn that isn't asked
pub least-turn : (j : List Entry) (w : List ℤ) → IsExpanded j w ⊎ ((t : ℤ) × IsLeastUnasked j w t)
least-turn j w = by (least (λ s t. s <ℤ t) turn_order (λ t. is_asked j (w ++ t ∷ []) ≡ true) (λ t. is_asked j (w ++ t ∷ []) ≡ false) onward_turns (λ t m. asked (is_asked j (w ++ t ∷ []))))
  where
    asked : (b : Bool) → (b ≡ true) ⊎ (b ≡ false)
    asked true = inl refl
    asked false = inr refl

    by : Each (λ t. is_asked j (w ++ t ∷ []) ≡ true) onward_turns ⊎ Least (λ s t. s <ℤ t) onward_turns (λ t. is_asked j (w ++ t ∷ []) ≡ true) (λ t. is_asked j (w ++ t ∷ []) ≡ false) → IsExpanded j w ⊎ ((t : ℤ) × IsLeastUnasked j w t)
    by (inl all) = inl (record { asked = λ t on. all t (onward-member t on) })
    by (inr l) = inr (l.item, record { onward = turn-onward l.item l.member; unasked = l.holds; lesser = λ s on b. l.lesser s (onward-member s on) b })

-- whether a class has an expanded member
expanded-or-not : (host : ℕ) (j : List Entry) (u : Node) → HasClasses host j → HasExpanded host j u ⊎ ¬ HasExpanded host j u
expanded-or-not host j u c = by (look (λ w. ¬ (AreOne host j u (Reached w) × IsExpanded j w)) (λ w. AreOne host j u (Reached w) × IsExpanded j w) (found_walks j) (λ w m. one w (one-or-not host j u (Reached w) c) (least-turn j w)))
  where
    one : (w : List ℤ) → AreOne host j u (Reached w) ⊎ ¬ AreOne host j u (Reached w) → IsExpanded j w ⊎ ((t : ℤ) × IsLeastUnasked j w t) → (¬ (AreOne host j u (Reached w) × IsExpanded j w)) ⊎ (AreOne host j u (Reached w) × IsExpanded j w)
    one w (inl a) (inl x) = inr (a, x)
    one w (inl a) (inr t) = inl (λ both. true≢false (sym (both.1.asked t.0 t.1.onward) ∙ t.1.unasked))
    one w (inr d) x = inl (λ both. d both.0)

    by : Each (λ w. ¬ (AreOne host j u (Reached w) × IsExpanded j w)) (found_walks j) ⊎ Among (found_walks j) (λ w. AreOne host j u (Reached w) × IsExpanded j w) → HasExpanded host j u ⊎ ¬ HasExpanded host j u
    by (inl none) = inr (λ h. none h.member (node-found j h.member (replicates-nodes host j u (Reached h.member) h.offset h.one_class).1) (record { offset = h.offset; one_class = h.one_class }, h.expanded))
    by (inr a) = inl (record { member = a.item; offset = a.holds.0.offset; one_class = a.holds.0.one_class; expanded = a.holds.1 })

-- what comes next
pub data Next (host depth : ℕ) (j : List Entry) : Type 0 where
  asks : (x : List ℤ) → NextAsk host depth j x → Next host depth j
  ends : is_asked j [] ≡ true → IsAtRest j → ((w : List ℤ) → IsSwitchNode j w → crossed w < depth → HasExpanded host j (Reached w)) → Next host depth j

-- a node that could be chosen, but for lesser ones, and a node that couldn't
abbrev CanBegin : ℕ → ℕ → List Entry → List ℤ → Type 0
CanBegin host depth j w = IsSwitchNode j w × (crossed w < depth) × ¬ HasExpanded host j (Reached w)

abbrev NeedNot : ℕ → ℕ → List Entry → List ℤ → Type 0
NeedNot host depth j w = IsSwitchNode j w → crossed w < depth → HasExpanded host j (Reached w)

need-or-not : (host depth : ℕ) (j : List Entry) (w : List ℤ) → HasClasses host j → NeedNot host depth j w ⊎ CanBegin host depth j w
need-or-not host depth j w c = by (answered j w) refl (cases_order (crossed w) depth) (expanded-or-not host j (Reached w) c)
  where
    by : (o : Option Answer) → answered j w ≡ o → (crossed w ≡ depth) ⊎ ((crossed w < depth) ⊎ (depth < crossed w)) → HasExpanded host j (Reached w) ⊎ ¬ HasExpanded host j (Reached w) → NeedNot host depth j w ⊎ CanBegin host depth j w
    by o e (inl l) x = inl (λ s m. absurd (omega arith))
    by o e (inr (inr l)) x = inl (λ s m. absurd (omega arith))
    by o e (inr (inl l)) (inl h) = inl (λ s m. h)
    by (Some Switch) e (inr (inl l)) (inr d) = inr (e, l, d)
    by (Some Nothing) e (inr (inl l)) (inr d) = inl (λ s m. absurd (let z : Some Nothing ≡ Some Switch = sym e ∙ s in cc))
    by (Some (Host h)) e (inr (inl l)) (inr d) = inl (λ s m. absurd (let z : Some (Host h) ≡ Some Switch = sym e ∙ s in cc))
    by None e (inr (inl l)) (inr d) = inl (λ s m. absurd (let z : None ≡ Some Switch = sym e ∙ s in cc))

-- at rest the least of these is chosen
choose : (host depth : ℕ) (j : List Entry) → HasClasses host j → is_asked j [] ≡ true → IsAtRest j → Next host depth j
choose host depth j c started rest = by (least (λ v w. walk_below v w ≡ true) walk_order (NeedNot host depth j) (CanBegin host depth j) (found_walks j) (λ w m. need-or-not host depth j w c))
  where
    near : (v w : List ℤ) → walk_below v w ≡ true → crossed w < depth → crossed v < depth
    near v w b l = parts (below-parts v w b)
      where
        parts : (length v < length w) ⊎ ((length v ≡ length w) × (turns_below v w ≡ true)) → crossed v < depth
        parts (inl s) = omega arith
        parts (inr s) = let e = s.0 in omega arith

    by : Each (NeedNot host depth j) (found_walks j) ⊎ Least (λ v w. walk_below v w ≡ true) (found_walks j) (NeedNot host depth j) (CanBegin host depth j) → Next host depth j
    by (inl all) = ends started rest (λ w s l. all w (node-found j w (switch-node j w s)) s l)
    by (inr l) = asks (l.item ++ negsuc 14 ∷ []) (begins l.item rest (record {
      switch = l.holds.0;
      near = l.holds.1;
      fresh = l.holds.2;
      lesser = λ v s b. l.lesser v (node-found j v (switch-node j v s)) b s (near v l.item b l.holds.1);
    }) refl)

pub next : (n : Network) (host depth : ℕ) (j : List Entry) → IsFabric n → IsTrueWhereFound n host j → IsGrowing host depth j → Next host depth j
next n host depth j f all g = by (starts host depth j g)
  where
    at_rest : is_asked j [] ≡ true → IsAtRest j → Next host depth j
    at_rest s rest = choose host depth j (classes n host j f all) s rest

    differs : (c v : List ℤ) → walk_below v c ≡ true → v ≢ c
    differs c v b e = true≢false (sym b ∙ ap (λ u. walk_below u c) e ∙ below-irrefl c)

    current : (c : List ℤ) → IsCurrent host j c → is_asked j [] ≡ true → IsExpanded j c ⊎ ((t : ℤ) × IsLeastUnasked j c t) → Next host depth j
    current c now s (inr t) = asks (c ++ t.0 ∷ []) (goes_on c t.0 now.begun t.1 (λ v b l. now.others v b (differs c v l)) refl)
    current c now s (inl x) = at_rest s (record { expanded = λ w b. whole w b (same_or_not w c) })
      where
        whole : (w : List ℤ) → IsBegun j w → (w ≡ c) ⊎ (w ≢ c) → IsExpanded j w
        whole w b (inl e) = subst (IsExpanded j) (sym e) x
        whole w b (inr d) = now.others w b d

    staged : is_asked j [] ≡ true → Stage host j → Next host depth j
    staged s (fresh none) = at_rest s (record { expanded = λ w b. absurd (none w b) })
    staged s (under_way c now) = current c now s (least-turn j c)

    by : (j ≡ []) ⊎ (is_asked j [] ≡ true) → Next host depth j
    by (inl e) = asks [] (first e refl)
    by (inr s) = staged s (stage host depth j g)

pub growth_goes_on_or_ends : GrowthGoesOnOrEnds
growth_goes_on_or_ends n host depth j f all g kept = by (next n host depth j f all g)
  where
    by : Next host depth j → ((x : List ℤ) × NextAsk host depth j x) ⊎ IsEndedByDepth host depth j
    by (asks x a) = inl (x, a)
    by (ends s r e) = inr (record { started = s; at_rest = r; expanded = e; kept = kept })
