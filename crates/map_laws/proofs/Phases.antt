-- Nodes are expanded in rising order, so an expanded class has an expanded member no longer than a given one.
use Rattle.std.proofs.Common.{◌≡◌, ◌≢◌, ◌<◌, ◌≤◌, ℕ, suc, List, [], ◌∷◌, ◌++◌, length, Bool, true, false, sym, ◌∙◌, subst, ap, true≢false, refl, arith, ◌⊎◌, inl, inr}
use Rattle.std.specs.Prelude.{ℤ, negsuc}
use Rattle.std.proofs.lemmas.Bool.{false≢true, cases_order}
use Rattle.net_defs.specs.declared.place.Answer.TheVariants.{Switch}
use Rattle.journal_defs.specs.declared.entry.Entry.{Entry}
use Rattle.net_defs.specs.Turn.{same_turns}
use Rattle.journal_defs.specs.Walks.{turns_below, walk_below}
use Rattle.journal_defs.specs.Tree.{IsSwitchNode, is_asked}
use Rattle.journal_defs.specs.Tree.Node.{Reached}
use Rattle.journal_defs.specs.Replicates.{Replicates}
use Rattle.journal_defs.specs.Growth.{IsBegun, IsExpanded, IsLeastUnasked, IsGrowing, NextAsk, HasExpanded, IsAtRest, IsChosen}
use Rattle.journal_defs.specs.Growth.IsGrowing.{nothing, more}
use Rattle.journal_defs.specs.Growth.NextAsk.{first, goes_on, begins}
use Rattle.net_defs.proofs.Turns.{same_turns-true, same_turns-refl}
use Rattle.journal_defs.proofs.Order.{below-parts, below-shorter, below-total}
use Rattle.journal_defs.proofs.Standing.{replicates-nodes}
use Rattle.journal_defs.proofs.Asking.{unasked-open}
use Rattle.journal_defs.proofs.OneSwitch.{first_turn}
use Rattle.map_laws.proofs.Keeping.{Keeps, keeps-append, asked-push, answered-push, replicates-kept, expanded-kept, asked-last, begun-kept, node-kept}
use Rattle.map_laws.proofs.Asks.{HasTree, growing-tree, push-parts, push-length, switch-node, expanded-begun, first-unbegun}

-- an expanded member that is no longer than a node
pub record HasShort (host : ℕ) (j : List Entry) (w : List ℤ) : Type 0 where
  pub member : List ℤ
  pub offset : ℤ
  pub one_class : Replicates host j (Reached w) (Reached member) offset
  pub expanded : IsExpanded j member
  pub short : length member ≤ length w

short-kept : (host : ℕ) (j l : List Entry) (w : List ℤ) → Keeps j l → HasShort host j w → HasShort host l w
short-kept host j l w keeps h = record { member = h.member; offset = h.offset; one_class = replicates-kept j l keeps host (Reached w) (Reached h.member) h.offset h.one_class; expanded = expanded-kept j l keeps h.member h.expanded; short = h.short }

short-has : (host : ℕ) (j : List Entry) (w : List ℤ) → HasShort host j w → HasExpanded host j (Reached w)
short-has host j w h = record { member = h.member; offset = h.offset; one_class = h.one_class; expanded = h.expanded }

pub member-begun : (host : ℕ) (j : List Entry) (w : List ℤ) (h : HasExpanded host j (Reached w)) → IsBegun j h.member
member-begun host j w h = expanded-begun j h.member (replicates-nodes host j (Reached w) (Reached h.member) h.offset h.one_class).1 h.expanded

-- the node that is being expanded, or was last: all others that are begun are expanded and no longer, and lesser switches have short members
pub record IsCurrent (host : ℕ) (j : List Entry) (c : List ℤ) : Type 0 where
  pub begun : IsBegun j c
  pub others : (m : List ℤ) → IsBegun j m → m ≢ c → IsExpanded j m
  pub longest : (m : List ℤ) → IsBegun j m → length m ≤ length c
  pub lesser : (v : List ℤ) → IsSwitchNode j v → walk_below v c ≡ true → HasShort host j v

pub data Stage (host : ℕ) (j : List Entry) : Type 0 where
  fresh : ((m : List ℤ) → ¬ IsBegun j m) → Stage host j
  under_way : (c : List ℤ) → IsCurrent host j c → Stage host j

-- what is begun after an ask was begun before, or is what the ask goes on from
pub begun-push : (j : List Entry) (e : Entry) (w m : List ℤ) (t : ℤ) → HasTree j → e.walk ≡ w ++ t ∷ [] → IsBegun (j ++ e ∷ []) m → IsBegun j m ⊎ (m ≡ w)
begun-push j e w m t tree is b = by (asked-push j e (m ++ b.turn ∷ []) b.asked)
  where
    by : (is_asked j (m ++ b.turn ∷ []) ≡ true) ⊎ (e.walk ≡ m ++ b.turn ∷ []) → IsBegun j m ⊎ (m ≡ w)
    by (inl p) = inl (record { node = switch-node j m (tree.parent m b.turn p).switch; turn = b.turn; onward = b.onward; asked = p })
    by (inr p) = inr (push-parts m w b.turn t (sym p ∙ is)).0

-- a switch that stands below a walk was there before a turn of the walk was asked
pub below-push : (j : List Entry) (e : Entry) (w v : List ℤ) (t : ℤ) → e.walk ≡ w ++ t ∷ [] → IsSwitchNode (j ++ e ∷ []) v → walk_below v w ≡ true → IsSwitchNode j v
below-push j e w v t is s b = by (answered-push j e v Switch s)
  where
    long : e.walk ≡ v → (length v < length w) ⊎ ((length v ≡ length w) × (turns_below v w ≡ true)) → ⊥
    long p (inl l) = let a : length v ≡ suc (length w) = ap length (sym p ∙ is) ∙ push-length w t in absurd (omega arith)
    long p (inr l) = let a : length v ≡ suc (length w) = ap length (sym p ∙ is) ∙ push-length w t in let q = l.0 in absurd (omega arith)

    by : IsSwitchNode j v ⊎ ((e.walk ≡ v) × (e.answer ≡ Switch)) → IsSwitchNode j v
    by (inl p) = p
    by (inr p) = absurd (long p.0 (below-parts v w b))

-- two walks are one or differ
pub same_or_not : (v w : List ℤ) → (v ≡ w) ⊎ (v ≢ w)
same_or_not v w = by (same_turns v w) refl
  where
    by : (b : Bool) → same_turns v w ≡ b → (v ≡ w) ⊎ (v ≢ w)
    by true p = inl (same_turns-true v w p)
    by false p = inr (λ e. true≢false (sym (ap (same_turns v) (sym e) ∙ same_turns-refl v) ∙ p))

-- an ask that goes on leaves the current node
current-goes : (host : ℕ) (j : List Entry) (e : Entry) (c w : List ℤ) (t : ℤ) → HasTree j → IsCurrent host j c → IsBegun j w → IsLeastUnasked j w t → e.walk ≡ w ++ t ∷ [] → IsCurrent host (j ++ e ∷ []) c
current-goes host j e c w t tree now b l is = record {
  begun = begun-kept j after keeps c now.begun;
  others = λ m a d. expanded-kept j after keeps m (now.others m (back m a) d);
  longest = λ m a. now.longest m (back m a);
  lesser = λ v s p. short-kept host j after v keeps (now.lesser v (below-push j e c v t (is ∙ ap (λ x. x ++ t ∷ []) (one (same_or_not w c))) s p) p);
}
  where
    after : List Entry
    after = j ++ e ∷ []

    keeps : Keeps j after
    keeps = keeps-append j (e ∷ [])

    one : (w ≡ c) ⊎ (w ≢ c) → w ≡ c
    one (inl p) = p
    one (inr p) = absurd (unasked-open j w t l (now.others w b p))

    back : (m : List ℤ) → IsBegun after m → IsBegun j m
    back m a = by (begun-push j e w m t tree is a)
      where
        by : IsBegun j m ⊎ (m ≡ w) → IsBegun j m
        by (inl p) = p
        by (inr p) = subst (IsBegun j) (sym p) b

-- where a node is chosen, all that are begun are no longer, and lesser switches have short members
pub record IsReady (host : ℕ) (j : List Entry) (w : List ℤ) : Type 0 where
  pub longest : (m : List ℤ) → IsBegun j m → length m ≤ length w
  pub lesser : (v : List ℤ) → IsSwitchNode j v → walk_below v w ≡ true → HasShort host j v

ready : (host depth : ℕ) (j : List Entry) (w : List ℤ) → Stage host j → IsAtRest j → IsChosen host depth j w → IsReady host j w
ready host depth j w (fresh none) rest c = record {
  longest = λ m b. absurd (none m b);
  lesser = λ v s p. let h = c.lesser v s p in absurd (none h.member (member-begun host j v h));
}
ready host depth j w (under_way x now) rest c = record { longest = λ m b. far m b; lesser = λ v s p. shorter v s (c.lesser v s p) }
  where
    over : (b : Bool) → walk_below w x ≡ b → (w ≡ x) ⊎ (w ≢ x) → length x ≤ length w
    over true p o = absurd (c.fresh (short-has host j w (now.lesser w c.switch p)))
    over false p (inl o) = let l : length w ≡ length x = ap length o in omega arith
    over false p (inr o) = after (below-parts x w (below-total w x o p))
      where
        after : (length x < length w) ⊎ ((length x ≡ length w) × (turns_below x w ≡ true)) → length x ≤ length w
        after (inl l) = omega arith
        after (inr l) = let q = l.0 in omega arith

    far : (m : List ℤ) → IsBegun j m → length m ≤ length w
    far m b = let l = now.longest m b in let r = over (walk_below w x) refl (same_or_not w x) in omega arith

    shorter : (v : List ℤ) → IsSwitchNode j v → HasExpanded host j (Reached v) → HasShort host j v
    shorter v s h = by (cases_order (length v) (length h.member))
      where
        here : length h.member ≤ length v → HasShort host j v
        here l = record { member = h.member; offset = h.offset; one_class = h.one_class; expanded = h.expanded; short = l }

        by : (length v ≡ length h.member) ⊎ ((length v < length h.member) ⊎ (length h.member < length v)) → HasShort host j v
        by (inl l) = here (omega arith)
        by (inr (inl l)) = let r = now.longest h.member (member-begun host j v h) in now.lesser v s (below-shorter v x (omega arith))
        by (inr (inr l)) = here (omega arith)

-- and then it is the current node
current-begins : (host depth : ℕ) (j : List Entry) (e : Entry) (w : List ℤ) (t : ℤ) → HasTree j → IsReady host j w → IsAtRest j → IsBegun (j ++ e ∷ []) w → e.walk ≡ w ++ t ∷ [] → IsCurrent host (j ++ e ∷ []) w
current-begins host depth j e w t tree r rest b is = record {
  begun = b;
  others = λ m a d. other m d (begun-push j e w m t tree is a);
  longest = λ m a. long m (begun-push j e w m t tree is a);
  lesser = λ v s p. short-kept host j after v keeps (r.lesser v (below-push j e w v t is s p) p);
}
  where
    after : List Entry
    after = j ++ e ∷ []

    keeps : Keeps j after
    keeps = keeps-append j (e ∷ [])

    other : (m : List ℤ) → m ≢ w → IsBegun j m ⊎ (m ≡ w) → IsExpanded after m
    other m d (inl b) = expanded-kept j after keeps m (rest.expanded m b)
    other m d (inr p) = absurd (d p)

    long : (m : List ℤ) → IsBegun j m ⊎ (m ≡ w) → length m ≤ length w
    long m (inl b) = r.longest m b
    long m (inr p) = let l : length m ≡ length w = ap length p in omega arith

-- the node that is chosen is begun by its first turn
pub chosen-begun : (host depth : ℕ) (j : List Entry) (e : Entry) (w : List ℤ) → IsChosen host depth j w → e.walk ≡ w ++ negsuc 14 ∷ [] → IsBegun (j ++ e ∷ []) w
chosen-begun host depth j e w c is = record {
  node = node-kept j (j ++ e ∷ []) (keeps-append j (e ∷ [])) (Reached w) (switch-node j w c.switch);
  turn = negsuc 14;
  onward = first_turn;
  asked = subst (λ x. is_asked (j ++ e ∷ []) x ≡ true) is (asked-last j e);
}

-- the stage after an ask
stage-push : (host depth : ℕ) (j : List Entry) (e : Entry) → HasTree j → Stage host j → NextAsk host depth j e.walk → Stage host (j ++ e ∷ [])
stage-push host depth j e tree s (first a b) = fresh (λ m g. first-unbegun j e m a b g)
stage-push host depth j e tree (fresh none) (goes_on w t b l least is) = absurd (none w b)
stage-push host depth j e tree (under_way c now) (goes_on w t b l least is) = under_way c (current-goes host j e c w t tree now b l is)
stage-push host depth j e tree s (begins w rest c is) = under_way w (current-begins host depth j e w (negsuc 14) tree (ready host depth j w s rest c) rest (chosen-begun host depth j e w c is) is)

pub stage : (host depth : ℕ) (j : List Entry) → IsGrowing host depth j → Stage host j
stage host depth j (nothing) = fresh (λ m b. false≢true b.asked)
stage host depth j (more before e g ask is) = subst (Stage host) (sym is) (stage-push host depth before e (growing-tree host depth before g) (stage host depth before g) ask)

-- an expanded class has an expanded member no longer than a given one
pub no_longer : (host depth : ℕ) (j : List Entry) (w : List ℤ) → IsGrowing host depth j → IsSwitchNode j w → HasExpanded host j (Reached w) → HasShort host j w
no_longer host depth j w g s h = by (stage host depth j g) (cases_order (length w) (length h.member))
  where
    here : length h.member ≤ length w → HasShort host j w
    here l = record { member = h.member; offset = h.offset; one_class = h.one_class; expanded = h.expanded; short = l }

    by : Stage host j → (length w ≡ length h.member) ⊎ ((length w < length h.member) ⊎ (length h.member < length w)) → HasShort host j w
    by (fresh none) o = absurd (none h.member (member-begun host j w h))
    by (under_way c now) (inl l) = here (omega arith)
    by (under_way c now) (inr (inl l)) = let r = now.longest h.member (member-begun host j w h) in now.lesser w s (below-shorter w c (omega arith))
    by (under_way c now) (inr (inr l)) = here (omega arith)
