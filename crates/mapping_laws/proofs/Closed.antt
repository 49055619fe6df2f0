-- A journal is closed or it isn't, where its classes can be decided: the switches among its nodes are looked through.
use Rattle.std.proofs.Common.{◌≡◌, List, ◌⊎◌, inl, inr, Option, Some, None, refl, sym, ◌∙◌, true≢false}
use Rattle.std.specs.Prelude.{ℕ, ℤ}
use Rattle.net_defs.specs.declared.place.Answer.{Answer}
use Rattle.net_defs.specs.declared.place.Answer.TheVariants.{Host, Switch, Nothing}
use Rattle.journal_defs.specs.declared.entry.Entry.{Entry}
use Rattle.journal_defs.specs.Tree.{Node, IsSwitchNode, answered}
use Rattle.journal_defs.specs.Tree.Node.{Reached}
use Rattle.journal_defs.specs.Growth.{IsExpanded, IsLeastUnasked, HasExpanded, IsClosed}
use Rattle.journal_defs.proofs.Standing.{replicates-nodes}
use Rattle.map_laws.proofs.Asks.{switch-node}
use Rattle.map_laws.proofs.Classes.{HasClasses, classes, one-or-not}
use Rattle.map_laws.proofs.Few.{found_walks, node-found}
use Rattle.map_laws.proofs.Full.{AreOne}
use Rattle.map_laws.proofs.Looking.{Each, Among, look}
use Rattle.map_laws.proofs.Next.{least-turn}
use Rattle.mapping_laws.specs.Maps.{ClosedIsDecided}

-- a walk found a switch or not
pub switch-or-not : (j : List Entry) (w : List ℤ) → IsSwitchNode j w ⊎ ¬ IsSwitchNode j w
switch-or-not j w = by (answered j w) refl
  where
    by : (o : Option Answer) → answered j w ≡ o → IsSwitchNode j w ⊎ ¬ IsSwitchNode j w
    by (Some Switch) e = inl e
    by (Some Nothing) e = inr (λ s. (let z : Some Nothing ≡ Some Switch = sym e ∙ s in cc))
    by (Some (Host h)) e = inr (λ s. (let z : Some (Host h) ≡ Some Switch = sym e ∙ s in cc))
    by None e = inr (λ s. (let z : None ≡ Some Switch = sym e ∙ s in cc))

-- a walk is an expanded member of a class
abbrev IsMemberOf : ℕ → List Entry → Node → List ℤ → Type 0
IsMemberOf host j u w = AreOne host j u (Reached w) × IsExpanded j w

-- a class has an expanded member or not
expanded-or-not : (host : ℕ) (j : List Entry) (u : Node) → HasClasses host j → HasExpanded host j u ⊎ ¬ HasExpanded host j u
expanded-or-not host j u c = by (look (λ w. ¬ IsMemberOf host j u w) (IsMemberOf host j u) (found_walks j) (λ w m. one w (one-or-not host j u (Reached w) c) (least-turn j w)))
  where
    one : (w : List ℤ) → AreOne host j u (Reached w) ⊎ ¬ AreOne host j u (Reached w) → IsExpanded j w ⊎ ((t : ℤ) × IsLeastUnasked j w t) → (¬ IsMemberOf host j u w) ⊎ IsMemberOf host j u w
    one w (inl a) (inl x) = inr (a, x)
    one w (inl a) (inr t) = inl (λ both. true≢false (sym (both.1.asked t.0 t.1.onward) ∙ t.1.unasked))
    one w (inr d) x = inl (λ both. d both.0)

    by : Each (λ w. ¬ IsMemberOf host j u w) (found_walks j) ⊎ Among (found_walks j) (IsMemberOf host j u) → HasExpanded host j u ⊎ ¬ HasExpanded host j u
    by (inl none) = inr (λ h. none h.member (node-found j h.member (replicates-nodes host j u (Reached h.member) h.offset h.one_class).1) (record { offset = h.offset; one_class = h.one_class }, h.expanded))
    by (inr a) = inl (record { member = a.item; offset = a.holds.0.offset; one_class = a.holds.0.one_class; expanded = a.holds.1 })

-- a walk that needs no expansion, and a switch that does
abbrev IsDone : ℕ → List Entry → List ℤ → Type 0
IsDone host j w = IsSwitchNode j w → HasExpanded host j (Reached w)

abbrev IsOpen : ℕ → List Entry → List ℤ → Type 0
IsOpen host j w = IsSwitchNode j w × ¬ HasExpanded host j (Reached w)

closed-or-not : (host : ℕ) (j : List Entry) → HasClasses host j → IsClosed host j ⊎ ¬ IsClosed host j
closed-or-not host j c = by (look (IsDone host j) (IsOpen host j) (found_walks j) (λ w m. one w (switch-or-not j w) (expanded-or-not host j (Reached w) c)))
  where
    one : (w : List ℤ) → IsSwitchNode j w ⊎ ¬ IsSwitchNode j w → HasExpanded host j (Reached w) ⊎ ¬ HasExpanded host j (Reached w) → IsDone host j w ⊎ IsOpen host j w
    one w s (inl x) = inl (λ t. x)
    one w (inl s) (inr d) = inr (s, d)
    one w (inr n) (inr d) = inl (λ t. absurd (n t))

    by : Each (IsDone host j) (found_walks j) ⊎ Among (found_walks j) (IsOpen host j) → IsClosed host j ⊎ ¬ IsClosed host j
    by (inl all) = inl (record { expanded = λ w s. all w (node-found j w (switch-node j w s)) s })
    by (inr a) = inr (λ c. a.holds.1 (c.expanded a.item a.holds.0))

pub closed_is_decided : ClosedIsDecided
closed_is_decided n host j fabric found = closed-or-not host j (classes n host j fabric found)
