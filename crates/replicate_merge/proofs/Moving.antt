-- Far ends moved port by port from one class to another.
use Rattle.std.proofs.Common.{◌≡◌, ◌≢◌, ◌<◌, ◌≤◌, ◌⊎◌, inl, inr, ℕ, ◌+◌, ◌-◌, ◌*◌, List, [], ◌∷◌, ◌++◌, Bool, true, false, length, get_or, set, Option, Some, None, refl, ap, sym, ◌∙◌, subst, true≢false, arith, get_or-set_other, get_or-set_same, if◌then◌else◌}
use Rattle.std.specs.Prelude.{ℤ, pos, negsuc, ◌+ℤ◌, ◌-ℤ◌, ◌<ℤ◌, ◌≤ℤ◌, nat_abs, int_le, int_lt, slice_index_or}
use Rattle.std.specs.Ordering.{int_eq}
use Rattle.std.proofs.lemmas.Bool.{and_from}
use Rattle.std.proofs.lemmas.Bool.Decides.{Decides-int_eq, nat_tests}
use Rattle.std.proofs.lemmas.Int.{ints}
use Rattle.net_defs.specs.Turn.{is_turn, IsTurn}
use Rattle.port_align.specs.declared.end.NodePort.{NodePort}
use Rattle.port_align.specs.Ends.{IsOutside}
use Rattle.replicate_merge.specs.declared.meeting.Meeting.{Meeting}
use Rattle.replicate_merge.specs.declared.way.Spot.{Spot}
use Rattle.replicate_merge.specs.declared.way.Spot.TheVariants.{Address, Port}
use Rattle.replicate_merge.specs.Work.{Among, Clashes, MovesEnds}
use Rattle.replicate_merge.specs.Ends.{place_of, end_at, known_ends, Puts, MovesEnd, MovesBelow}
use Rattle.replicate_merge.specs.Ends.MovesEnd.{has_none, moves, meets}
use Rattle.replicate_merge.proofs.Lists.{among-left, among-last, among-cases}
use Rattle.replicate_merge.proofs.Together.{port-parts}

-- ports are one or differ
pub port-cases : (p q : ℤ) → (p ≡ q) ⊎ (p ≢ q)
port-cases p q = by (int_eq p q) refl
  where
    by : (b : Bool) → int_eq p q ≡ b → (p ≡ q) ⊎ (p ≢ q)
    by true e = inl ((Decides-int_eq p q).0 e)
    by false e = inr (λ s. true≢false (sym ((Decides-int_eq p q).1 s) ∙ e))

low-turn : (k : ℕ) → is_turn (pos k) ≡ true → k < 16
low-turn k e = grind (arith, nat_tests)

low-fall : (k : ℕ) → is_turn (negsuc k) ≡ true → k < 15
low-fall k e = grind (arith, nat_tests)

-- the place of a port among those of its class
pub shift : (p : ℤ) → IsTurn p → (nat_abs (p +ℤ pos 15) < 31) × (p ≡ pos (nat_abs (p +ℤ pos 15)) -ℤ pos 15)
shift (pos k) t =
    let s = low-turn k t in
    let e : pos k +ℤ pos 15 ≡ pos (k + 15) = omega (arith, ints) in
    (subst (λ z. nat_abs z < 31) (sym e) (let l : k + 15 < 31 = omega arith in l), subst (λ z. pos k ≡ pos (nat_abs z) -ℤ pos 15) (sym e) (let l : pos k ≡ pos (k + 15) -ℤ pos 15 = omega (arith, ints) in l))
shift (negsuc k) t =
    let s = low-fall k t in
    let e : negsuc k +ℤ pos 15 ≡ pos (14 - k) = omega (arith, ints) in
    (subst (λ z. nat_abs z < 31) (sym e) (let l : 14 - k < 31 = omega arith in l), subst (λ z. negsuc k ≡ pos (nat_abs z) -ℤ pos 15) (sym e) (let l : negsuc k ≡ pos (14 - k) -ℤ pos 15 = omega (arith, ints) in l))

-- a port stands within the places of its class
pub place-below : (class n : ℕ) (p : ℤ) → IsTurn p → 31 * class + 31 ≤ n → place_of class p < n
place-below class n p t l = let a = (shift p t).0 in omega arith

place-same : (c d : ℕ) (p q : ℤ) → IsTurn p → IsTurn q → place_of c p ≡ place_of d q → (c ≡ d) × (p ≡ q)
place-same c d p q i j same =
    let a = shift p i in
    let b = shift q j in
    let a0 = a.0 in
    let b0 = b.0 in
    let v : c ≡ d = omega arith in
    let k : nat_abs (p +ℤ pos 15) ≡ nat_abs (q +ℤ pos 15) = omega arith in
    (v, a.1 ∙ ap (λ n. pos n -ℤ pos 15) k ∙ sym b.1)

-- a port whose place is known
pub end-turn : (ends : List (Option NodePort)) (class : ℕ) (p : ℤ) → IsTurn p → end_at ends class p ≡ get_or ends (place_of class p) None
end-turn ends class p t = ap (λ b. if b then get_or ends (place_of class p) None else None) t

pub end-outside : (ends : List (Option NodePort)) (class : ℕ) (p : ℤ) → is_turn p ≡ false → end_at ends class p ≡ None
end-outside ends class p f = ap (λ b. if b then get_or ends (place_of class p) None else None) f

-- nothing is known of a class outside of its span
module _ (ends : List (Option NodePort)) (class first last : ℕ) (none : (i : ℕ) → i < 31 → IsOutside first last i → slice_index_or ends (31 * class + i) None ≡ None) where
  pub before-span : (p : ℤ) → p <ℤ (pos first -ℤ pos 15) → end_at ends class p ≡ None
  before-span p l = by (is_turn p) refl
    where
      by : (b : Bool) → is_turn p ≡ b → end_at ends class p ≡ None
      by false f = end-outside ends class p f
      by true t = let s = shift p t in let a = s.0 in let e = s.1 in end-turn ends class p t ∙ none (nat_abs (p +ℤ pos 15)) a (inl (omega (arith, ints)))

  pub behind-span : (p : ℤ) → (pos last -ℤ pos 15) ≤ℤ p → end_at ends class p ≡ None
  behind-span p l = by (is_turn p) refl
    where
      by : (b : Bool) → is_turn p ≡ b → end_at ends class p ≡ None
      by false f = end-outside ends class p f
      by true t = let s = shift p t in let a = s.0 in let e = s.1 in end-turn ends class p t ∙ none (nat_abs (p +ℤ pos 15)) a (inr (omega (arith, ints)))

-- a write at one place
pub puts : (ends : List (Option NodePort)) (class : ℕ) (p : ℤ) (end : Option NodePort) → IsTurn p → place_of class p < length ends → Puts (known_ends ends) (known_ends (set ends (place_of class p) end)) (Port class p) end
puts ends class p end t l = record {
  here = end-turn (set ends (place_of class p) end) class p t ∙ get_or-set_same ends (place_of class p) end None l;
  other = λ s d. other s d;
}
  where
    at : (c : ℕ) (q : ℤ) → Port class p ≢ Port c q → (b : Bool) → is_turn q ≡ b → end_at (set ends (place_of class p) end) c q ≡ end_at ends c q
    at c q d false f = end-outside (set ends (place_of class p) end) c q f ∙ sym (end-outside ends c q f)
    at c q d true f =
        let apart : place_of class p ≢ place_of c q = λ e. let two = place-same class c p q t f e in d (λ i. Port (two.0 i) (two.1 i)) in
        end-turn (set ends (place_of class p) end) c q f ∙ get_or-set_other ends (place_of class p) (place_of c q) end None (λ e. apart (sym e)) ∙ sym (end-turn ends c q f)

    other : (s : Spot) → Port class p ≢ s → known_ends (set ends (place_of class p) end) s ≡ known_ends ends s
    other (Address a) d = refl
    other (Port c q) d = at c q d (is_turn q) refl

-- each place is that of a turn
pub place-turn : (k : ℕ) → k < 31 → IsTurn (pos k -ℤ pos 15)
place-turn k l = and_from (int_le (negsuc 14) (pos k -ℤ pos 15)) (int_le (pos k -ℤ pos 15) (pos 15)) (grind (arith, ints)) (grind (arith, ints))

module _ (from to : ℕ) (by : ℤ) (two : from ≢ to) where
  from-to : (p q : ℤ) → Port from p ≢ Port to q
  from-to p q e = two (port-parts from to p q e).0

  from-from : (p q : ℤ) → p ≢ q → Port from p ≢ Port from q
  from-from p q d e = d (port-parts from from p q e).1

  to-to : (p q : ℤ) → p ≢ q → Port to p ≢ Port to q
  to-to p q d e = d (port-parts to to p q e).1

  -- before the first place at which one may be known
  pub moves-none : (k : ℕ) (known : Spot → Option NodePort) (todo : List Meeting) → ((p : ℤ) → p <ℤ (pos k -ℤ pos 15) → known (Port from p) ≡ None) → MovesBelow k from to by known known todo todo
  moves-none k known todo outside = record {
    other = λ s a b. refl;
    gone = outside;
    left = λ p l. refl;
    kept = λ p e h. h;
    moved = λ p e l h. absurd (let bad : Some e ≡ None = sym h ∙ outside p l in cc);
    told = λ p e h. inl h;
    ahead = λ p l. refl;
    stays = λ m a. a;
    only = λ m a. inl a;
  }

  -- one place more
  module _ (k : ℕ) (old mid new : Spot → Option NodePort) (before between after : List Meeting) (m : MovesBelow k from to by old mid before between) where
    below : (p : ℤ) → p <ℤ (pos (k + 1) -ℤ pos 15) → p ≢ (pos k -ℤ pos 15) → p <ℤ (pos k -ℤ pos 15)
    below p l d = omega (arith, ints)

    above : (p : ℤ) → (pos (k + 1) -ℤ pos 15) ≤ℤ p → (pos k -ℤ pos 15) ≤ℤ p
    above p l = omega (arith, ints)

    beyond : (p : ℤ) → (pos (k + 1) -ℤ pos 15) ≤ℤ p → (pos k -ℤ pos 15) ≢ p
    beyond p l e = absurd (omega (arith, ints))

    moved-apart : (p q : ℤ) → p ≢ q → p +ℤ by ≢ q +ℤ by
    moved-apart p q d e = d (omega (arith, ints))

    old-here : old (Port from (pos k -ℤ pos 15)) ≡ mid (Port from (pos k -ℤ pos 15))
    old-here = sym (m.left (pos k -ℤ pos 15) (omega (arith, ints)))

    -- nothing was known of the port
    step-none : mid (Port from (pos k -ℤ pos 15)) ≡ None → MovesBelow (k + 1) from to by old mid before between
    step-none none = record {
      other = m.other;
      gone = λ p l. gone p l (port-cases p (pos k -ℤ pos 15));
      left = λ p l. m.left p (above p l);
      kept = m.kept;
      moved = λ p e l h. moved p e l h (port-cases p (pos k -ℤ pos 15));
      told = m.told;
      ahead = λ p l. m.ahead p (above p l);
      stays = m.stays;
      only = m.only;
    }
      where
        gone : (p : ℤ) → p <ℤ (pos (k + 1) -ℤ pos 15) → (p ≡ (pos k -ℤ pos 15)) ⊎ (p ≢ (pos k -ℤ pos 15)) → mid (Port from p) ≡ None
        gone p l (inl e) = ap (λ q. mid (Port from q)) e ∙ none
        gone p l (inr d) = m.gone p (below p l d)

        moved : (p : ℤ) (e : NodePort) → p <ℤ (pos (k + 1) -ℤ pos 15) → old (Port from p) ≡ Some e → (p ≡ (pos k -ℤ pos 15)) ⊎ (p ≢ (pos k -ℤ pos 15)) → (mid (Port to (p +ℤ by)) ≡ Some e) ⊎ Clashes (mid (Port to (p +ℤ by))) between e
        moved p e l h (inl s) = absurd (let bad : Some e ≡ None = sym h ∙ ap (λ q. old (Port from q)) s ∙ old-here ∙ none in cc)
        moved p e l h (inr d) = m.moved p e (below p l d) h

    -- the other port had none
    step-moves : (e : NodePort) (half : Spot → Option NodePort) → mid (Port from (pos k -ℤ pos 15)) ≡ Some e → Puts mid half (Port from (pos k -ℤ pos 15)) None → half (Port to ((pos k -ℤ pos 15) +ℤ by)) ≡ None → Puts half new (Port to ((pos k -ℤ pos 15) +ℤ by)) (Some e) → MovesBelow (k + 1) from to by old new before between
    step-moves e half there out free into = record {
      other = λ s a b. same s (λ x. a (pos k -ℤ pos 15) (sym x)) (λ x. b ((pos k -ℤ pos 15) +ℤ by) (sym x)) ∙ m.other s a b;
      gone = λ p l. gone p l (port-cases p (pos k -ℤ pos 15));
      left = λ p l. same (Port from p) (from-from (pos k -ℤ pos 15) p (beyond p l)) (λ x. from-to p ((pos k -ℤ pos 15) +ℤ by) (sym x)) ∙ m.left p (above p l);
      kept = λ p f h. kept p f h (port-cases ((pos k -ℤ pos 15) +ℤ by) p);
      moved = λ p f l h. moved p f l h (port-cases p (pos k -ℤ pos 15));
      told = λ p f h. told p f h (port-cases ((pos k -ℤ pos 15) +ℤ by) p);
      ahead = λ p l. same-to (p +ℤ by) (moved-apart (pos k -ℤ pos 15) p (beyond p l)) ∙ m.ahead p (above p l);
      stays = m.stays;
      only = m.only;
    }
      where
        same : (s : Spot) → Port from (pos k -ℤ pos 15) ≢ s → Port to ((pos k -ℤ pos 15) +ℤ by) ≢ s → new s ≡ mid s
        same s a b = into.other s b ∙ out.other s a

        same-to : (q : ℤ) → (pos k -ℤ pos 15) +ℤ by ≢ q → new (Port to q) ≡ mid (Port to q)
        same-to q d = same (Port to q) (from-to (pos k -ℤ pos 15) q) (to-to ((pos k -ℤ pos 15) +ℤ by) q d)

        mid-free : mid (Port to ((pos k -ℤ pos 15) +ℤ by)) ≡ None
        mid-free = sym (out.other (Port to ((pos k -ℤ pos 15) +ℤ by)) (from-to (pos k -ℤ pos 15) ((pos k -ℤ pos 15) +ℤ by))) ∙ free

        gone : (p : ℤ) → p <ℤ (pos (k + 1) -ℤ pos 15) → (p ≡ (pos k -ℤ pos 15)) ⊎ (p ≢ (pos k -ℤ pos 15)) → new (Port from p) ≡ None
        gone p l (inl s) = ap (λ q. new (Port from q)) s ∙ into.other (Port from (pos k -ℤ pos 15)) (λ x. from-to (pos k -ℤ pos 15) ((pos k -ℤ pos 15) +ℤ by) (sym x)) ∙ out.here
        gone p l (inr d) = same (Port from p) (from-from (pos k -ℤ pos 15) p (λ x. d (sym x))) (λ x. from-to p ((pos k -ℤ pos 15) +ℤ by) (sym x)) ∙ m.gone p (below p l d)

        kept : (p : ℤ) (f : NodePort) → old (Port to p) ≡ Some f → ((pos k -ℤ pos 15) +ℤ by ≡ p) ⊎ ((pos k -ℤ pos 15) +ℤ by ≢ p) → new (Port to p) ≡ Some f
        kept p f h (inl s) = absurd (let bad : Some f ≡ None = sym (m.kept p f h) ∙ ap (λ q. mid (Port to q)) (sym s) ∙ mid-free in cc)
        kept p f h (inr d) = same-to p d ∙ m.kept p f h

        moved : (p : ℤ) (f : NodePort) → p <ℤ (pos (k + 1) -ℤ pos 15) → old (Port from p) ≡ Some f → (p ≡ (pos k -ℤ pos 15)) ⊎ (p ≢ (pos k -ℤ pos 15)) → (new (Port to (p +ℤ by)) ≡ Some f) ⊎ Clashes (new (Port to (p +ℤ by))) between f
        moved p f l h (inl s) =
            let both : Some e ≡ Some f = sym there ∙ sym old-here ∙ ap (λ q. old (Port from q)) (sym s) ∙ h in
            inl (ap (λ q. new (Port to (q +ℤ by))) s ∙ into.here ∙ both)
        moved p f l h (inr d) = at (m.moved p f (below p l d) h)
          where
            still : new (Port to (p +ℤ by)) ≡ mid (Port to (p +ℤ by))
            still = same-to (p +ℤ by) (moved-apart (pos k -ℤ pos 15) p (λ x. d (sym x)))

            at : (mid (Port to (p +ℤ by)) ≡ Some f) ⊎ Clashes (mid (Port to (p +ℤ by))) between f → (new (Port to (p +ℤ by)) ≡ Some f) ⊎ Clashes (new (Port to (p +ℤ by))) between f
            at (inl x) = inl (still ∙ x)
            at (inr c) = inr (record { kept = c.kept; is = still ∙ c.is; listed = c.listed })

        told : (p : ℤ) (f : NodePort) → new (Port to p) ≡ Some f → ((pos k -ℤ pos 15) +ℤ by ≡ p) ⊎ ((pos k -ℤ pos 15) +ℤ by ≢ p) → (old (Port to p) ≡ Some f) ⊎ (old (Port from (p -ℤ by)) ≡ Some f)
        told p f h (inl s) =
            let both : Some e ≡ Some f = sym into.here ∙ ap (λ q. new (Port to q)) s ∙ h in
            let back : p -ℤ by ≡ (pos k -ℤ pos 15) = omega (arith, ints) in
            inr (ap (λ q. old (Port from q)) back ∙ old-here ∙ there ∙ both)
        told p f h (inr d) = m.told p f (sym (same-to p d) ∙ h)

    -- the other port has one
    step-meets : (e first : NodePort) → mid (Port from (pos k -ℤ pos 15)) ≡ Some e → Puts mid new (Port from (pos k -ℤ pos 15)) None → new (Port to ((pos k -ℤ pos 15) +ℤ by)) ≡ Some first → MovesBelow (k + 1) from to by old new before (between ++ record { first = first; second = e } ∷ [])
    step-meets e first there out taken = record {
      other = λ s a b. out.other s (λ x. a (pos k -ℤ pos 15) (sym x)) ∙ m.other s a b;
      gone = λ p l. gone p l (port-cases p (pos k -ℤ pos 15));
      left = λ p l. out.other (Port from p) (from-from (pos k -ℤ pos 15) p (beyond p l)) ∙ m.left p (above p l);
      kept = λ p f h. same-to p ∙ m.kept p f h;
      moved = λ p f l h. moved p f l h (port-cases p (pos k -ℤ pos 15));
      told = λ p f h. m.told p f (sym (same-to p) ∙ h);
      ahead = λ p l. same-to (p +ℤ by) ∙ m.ahead p (above p l);
      stays = λ x a. among-left between pair x (m.stays x a);
      only = λ x a. only x (among-cases between pair x a);
    }
      where
        pair : Meeting
        pair = record { first = first; second = e }

        same-to : (q : ℤ) → new (Port to q) ≡ mid (Port to q)
        same-to q = out.other (Port to q) (from-to (pos k -ℤ pos 15) q)

        gone : (p : ℤ) → p <ℤ (pos (k + 1) -ℤ pos 15) → (p ≡ (pos k -ℤ pos 15)) ⊎ (p ≢ (pos k -ℤ pos 15)) → new (Port from p) ≡ None
        gone p l (inl s) = ap (λ q. new (Port from q)) s ∙ out.here
        gone p l (inr d) = out.other (Port from p) (from-from (pos k -ℤ pos 15) p (λ x. d (sym x))) ∙ m.gone p (below p l d)

        moved : (p : ℤ) (f : NodePort) → p <ℤ (pos (k + 1) -ℤ pos 15) → old (Port from p) ≡ Some f → (p ≡ (pos k -ℤ pos 15)) ⊎ (p ≢ (pos k -ℤ pos 15)) → (new (Port to (p +ℤ by)) ≡ Some f) ⊎ Clashes (new (Port to (p +ℤ by))) (between ++ pair ∷ []) f
        moved p f l h (inl s) =
            let both : Some e ≡ Some f = sym there ∙ sym old-here ∙ ap (λ q. old (Port from q)) (sym s) ∙ h in
            let one : e ≡ f = cc in
            inr (record { kept = first; is = ap (λ q. new (Port to (q +ℤ by))) s ∙ taken; listed = subst (λ x. Among (between ++ pair ∷ []) (record { first = first; second = x })) one (among-last between pair) })
        moved p f l h (inr d) = at (m.moved p f (below p l d) h)
          where
            at : (mid (Port to (p +ℤ by)) ≡ Some f) ⊎ Clashes (mid (Port to (p +ℤ by))) between f → (new (Port to (p +ℤ by)) ≡ Some f) ⊎ Clashes (new (Port to (p +ℤ by))) (between ++ pair ∷ []) f
            at (inl x) = inl (same-to (p +ℤ by) ∙ x)
            at (inr c) = inr (record { kept = c.kept; is = same-to (p +ℤ by) ∙ c.is; listed = among-left between pair (record { first = c.kept; second = f }) c.listed })

        only : (x : Meeting) → Among between x ⊎ (pair ≡ x) → Among before x ⊎ ((p : ℤ) × (old (Port to (p +ℤ by)) ≡ Some x.first) × (old (Port from p) ≡ Some x.second))
        only x (inl a) = m.only x a
        only x (inr s) =
            inr (
              (pos k -ℤ pos 15),
              sym (m.ahead (pos k -ℤ pos 15) (omega (arith, ints))) ∙ sym (same-to ((pos k -ℤ pos 15) +ℤ by)) ∙ taken ∙ ap (λ (y : Meeting). Some y.first) s,
              old-here ∙ there ∙ ap (λ (y : Meeting). Some y.second) s,
            )

    pub moves-next : MovesEnd from to (pos k -ℤ pos 15) ((pos k -ℤ pos 15) +ℤ by) mid new between after → MovesBelow (k + 1) from to by old new before after
    moves-next (has_none none same list) =
        let all : mid ≡ new = λ i s. sym (same s) i in
        subst (λ f. MovesBelow (k + 1) from to by old f before after) all (subst (λ l. MovesBelow (k + 1) from to by old mid before l) (sym list) (step-none none))
    moves-next (moves e half there out free into list) = subst (λ l. MovesBelow (k + 1) from to by old new before l) (sym list) (step-moves e half there out free into)
    moves-next (meets e first there out taken list) = subst (λ l. MovesBelow (k + 1) from to by old new before l) (sym list) (step-meets e first there out taken)

  -- after the last place at which one may be known
  pub moves-all : (k : ℕ) (old new : Spot → Option NodePort) (before after : List Meeting) → ((p : ℤ) → (pos k -ℤ pos 15) ≤ℤ p → old (Port from p) ≡ None) → MovesBelow k from to by old new before after → MovesEnds from to by old new before after
  moves-all k old new before after none m = record {
    other = m.other;
    gone = λ p. gone p (cases_lt p);
    kept = m.kept;
    moved = λ p e h. moved p e h (cases_lt p);
    told = m.told;
    stays = m.stays;
    only = m.only;
  }
    where
      cases_lt : (p : ℤ) → (p <ℤ (pos k -ℤ pos 15)) ⊎ ((pos k -ℤ pos 15) ≤ℤ p)
      cases_lt p = split (int_lt p (pos k -ℤ pos 15)) refl
        where
          split : (b : Bool) → int_lt p (pos k -ℤ pos 15) ≡ b → (p <ℤ (pos k -ℤ pos 15)) ⊎ ((pos k -ℤ pos 15) ≤ℤ p)
          split true e = inl (grind (arith, ints))
          split false e = inr (grind (arith, ints))

      gone : (p : ℤ) → (p <ℤ (pos k -ℤ pos 15)) ⊎ ((pos k -ℤ pos 15) ≤ℤ p) → new (Port from p) ≡ None
      gone p (inl l) = m.gone p l
      gone p (inr l) = m.left p l ∙ none p l

      moved : (p : ℤ) (e : NodePort) → old (Port from p) ≡ Some e → (p <ℤ (pos k -ℤ pos 15)) ⊎ ((pos k -ℤ pos 15) ≤ℤ p) → (new (Port to (p +ℤ by)) ≡ Some e) ⊎ Clashes (new (Port to (p +ℤ by))) after e
      moved p e h (inl l) = m.moved p e l h
      moved p e h (inr l) = absurd (let bad : Some e ≡ None = sym h ∙ none p l in cc)
