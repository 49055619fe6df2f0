-- Where the first walk finds a switch, its 30 turns are the next asks, whatever they find.
use Rattle.std.proofs.Common.{◌≡◌, ◌<◌, ◌+◌, suc, ℕ, List, [], ◌∷◌, ◌++◌, map, length, Bool, true, not, ◌&&◌, ◌||◌, sym, ◌∙◌, subst, ap, true≢false, refl, arith, nat_le, length-append, append_assoc, append-nil}
use Rattle.std.specs.Prelude.{ℤ, pos, negsuc, int_lt}
use Rattle.std.specs.List.{list_all}
use Rattle.std.specs.Ordering.{int_eq}
use Rattle.std.proofs.lemmas.Bool.{false≢true, and_parts, not-true}
use Rattle.std.proofs.lemmas.Bool.Decides.{nat_tests}
use Rattle.net_defs.specs.Turn.{is_turn, same_turns}
use Rattle.net_defs.specs.declared.place.Answer.{Answer}
use Rattle.net_defs.specs.declared.place.Answer.TheVariants.{Switch}
use Rattle.journal_defs.specs.declared.entry.Entry.{Entry}
use Rattle.journal_defs.specs.Walks.{walk_below, IsOnward, falling_turns, onward_turns}
use Rattle.journal_defs.specs.Counting.{numbers_below}
use Rattle.journal_defs.specs.Tree.{is_asked, answered, has_found}
use Rattle.journal_defs.specs.Growth.{IsGrowing, IsBegun, IsExpanded, IsAtRest, IsChosen, NextAsk}
use Rattle.journal_defs.specs.Growth.IsGrowing.{nothing, more}
use Rattle.journal_defs.specs.Growth.NextAsk.{first, goes_on, begins}
use Rattle.journal_defs.specs.Examples.{told}
use Rattle.net_defs.proofs.Turns.{same_turns-true}
use Rattle.journal_defs.proofs.Growing.{asked-short, expanded-by, least-by}

-- each walk has at most one turn
abbrev is_short : Entry → Bool
is_short e = nat_le (length e.walk) 1

abbrev pub is_empty : Entry → Bool
is_empty e = same_turns e.walk []

-- where each walk has at most one turn, the empty walk alone is begun
pub begun-first : (j : List Entry) (w : List ℤ) → list_all is_short j ≡ true → IsBegun j w → w ≡ []
begun-first j w all b = by w (asked-short j (w ++ b.turn ∷ []) is_short all b.asked)
  where
    by : (v : List ℤ) → (e : Entry) × (e.walk ≡ v ++ b.turn ∷ []) × (nat_le (length e.walk) 1 ≡ true) → v ≡ []
    by [] h = refl
    by (t ∷ ts) h =
        let long : length h.0.walk ≡ length ((t ∷ ts) ++ b.turn ∷ []) = ap length h.1 in
        let sum : length ((t ∷ ts) ++ b.turn ∷ []) ≡ suc (length ts + 1) = ap suc (length-append ts (b.turn ∷ [])) in
        absurd (grind (arith, nat_tests, h.2))

-- where only the empty walk stands, no node has a turn asked
pub turn_unasked : (j : List Entry) (w : List ℤ) (t : ℤ) → list_all is_empty j ≡ true → is_asked j (w ++ t ∷ []) ≡ true → ⊥
turn_unasked j w t all e = by w (asked-short j (w ++ t ∷ []) is_empty all e)
  where
    by : (v : List ℤ) → (e : Entry) × (e.walk ≡ v ++ t ∷ []) × (same_turns e.walk [] ≡ true) → ⊥
    by [] h = let e : t ∷ [] ≡ [] = sym h.1 ∙ same_turns-true h.0.walk [] h.2 in cc
    by (s ∷ ss) h = let e : s ∷ (ss ++ t ∷ []) ≡ [] = sym h.1 ∙ same_turns-true h.0.walk [] h.2 in cc

abbrev pub switch_alone : List Entry
switch_alone = told [] Switch ∷ []

pub first_turn : IsOnward (negsuc 14)
first_turn = (refl, λ e. cc)

nothing_below : (v : List ℤ) → walk_below v [] ≡ true → ⊥
nothing_below [] e = false≢true e
nothing_below (t ∷ ts) e = absurd (grind (arith, nat_tests))

-- the test that a turn of the switch is the next to ask, and that turns are, one after the other
abbrev is_next : List Entry → ℤ → Bool
is_next j t = is_turn t && (not (int_eq t (pos 0)) && (is_asked j (negsuc 14 ∷ []) && (has_found (answered j []) && (not (is_asked j (t ∷ [])) && list_all (λ s. not (int_lt s t) || is_asked j (s ∷ [])) onward_turns))))

abbrev are_next : (ℤ → Answer) → List Entry → List ℤ → Bool
are_next a j [] = true
are_next a j (t ∷ ts) = is_next j t && are_next a (j ++ told (t ∷ []) (a t) ∷ []) ts

pub next-ask : (host depth : ℕ) (j : List Entry) (t : ℤ) → is_next j t ≡ true → NextAsk host depth j (t ∷ [])
next-ask host depth j t e =
    let a = and_parts (is_turn t) _ e in
    let b = and_parts (not (int_eq t (pos 0))) _ a.1 in
    let c = and_parts (is_asked j (negsuc 14 ∷ [])) _ b.1 in
    let d = and_parts (has_found (answered j [])) _ c.1 in
    let f = and_parts (not (is_asked j (t ∷ []))) _ d.1 in
    let on : IsOnward t = (a.0, λ z. true≢false (sym b.0 ∙ ap (λ s. not (int_eq s (pos 0))) z)) in
    let start : IsBegun j [] = record { node = d.0; turn = negsuc 14; onward = first_turn; asked = c.0 } in
    goes_on [] t start (least-by j [] t on (not-true (is_asked j (t ∷ [])) f.0) f.1) (λ v s l. absurd (nothing_below v l)) refl

all-grow : (host depth : ℕ) (a : ℤ → Answer) (j : List Entry) (ts : List ℤ) → are_next a j ts ≡ true → IsGrowing host depth j → IsGrowing host depth (j ++ map (λ t. told (t ∷ []) (a t)) ts)
all-grow host depth a j [] e g = subst (IsGrowing host depth) (sym (append-nil j)) g
all-grow host depth a j (t ∷ ts) e g =
    let two = and_parts (is_next j t) _ e in
    subst (IsGrowing host depth) (append_assoc j (told (t ∷ []) (a t) ∷ []) (map (λ s. told (s ∷ []) (a s)) ts)) (all-grow host depth a (j ++ told (t ∷ []) (a t) ∷ []) ts two.1 (more j (told (t ∷ []) (a t)) g (next-ask host depth j t two.0) refl))

abbrev other_turns : List ℤ
other_turns = falling_turns 14 ++ map (λ k. pos (suc k)) (numbers_below 15)

-- the switch alone, and its first turn
switch-grows : (host depth : ℕ) → IsGrowing host depth switch_alone
switch-grows host depth = more [] (told [] Switch) nothing (first refl refl) refl

pub switch-chosen : (host depth : ℕ) → 1 < depth → IsChosen host depth switch_alone []
switch-chosen host depth l = record {
  switch = refl;
  near = l;
  fresh = λ h. turn_unasked switch_alone h.member (negsuc 14) refl (h.expanded.asked (negsuc 14) first_turn);
  lesser = λ v s b. absurd (nothing_below v b);
}

pub switch-rests : IsAtRest switch_alone
switch-rests = record { expanded = λ w b. absurd (turn_unasked switch_alone w b.turn refl b.asked) }

abbrev pub begun_by : (ℤ → Answer) → List Entry
begun_by a = switch_alone ++ told (negsuc 14 ∷ []) (a (negsuc 14)) ∷ []

pub one-switch-grows : (host depth : ℕ) (a : ℤ → Answer) → 1 < depth → IsGrowing host depth (told [] Switch ∷ map (λ t. told (t ∷ []) (a t)) onward_turns)
one-switch-grows host depth a l =
    all-grow host depth a (begun_by a) other_turns refl (more switch_alone (told (negsuc 14 ∷ []) (a (negsuc 14))) (switch-grows host depth) (begins [] switch-rests (switch-chosen host depth l) refl) refl)

pub one-switch-expanded : (a : ℤ → Answer) → IsExpanded (told [] Switch ∷ map (λ t. told (t ∷ []) (a t)) onward_turns) []
one-switch-expanded a = expanded-by (told [] Switch ∷ map (λ t. told (t ∷ []) (a t)) onward_turns) [] refl

pub one-switch-rests : (a : ℤ → Answer) → IsAtRest (told [] Switch ∷ map (λ t. told (t ∷ []) (a t)) onward_turns)
one-switch-rests a = record { expanded = λ w b. subst (IsExpanded (told [] Switch ∷ map (λ t. told (t ∷ []) (a t)) onward_turns)) (sym (begun-first (told [] Switch ∷ map (λ t. told (t ∷ []) (a t)) onward_turns) w refl b)) (one-switch-expanded a) }
