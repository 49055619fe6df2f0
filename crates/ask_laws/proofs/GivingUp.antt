-- What holds of each host once all gave up what they had staged.
use Rattle.std.proofs.Common.{◌≡◌, ◌<◌, ◌≤◌, ◌+◌, ℕ, zero, suc, Bool, true, false, List, [], ◌∷◌, map, get_or, set, ⊎_elim, refl, sym, ap, subst, ◌∙◌, arith, if◌then◌else◌}
use Rattle.std.specs.List.{range_with_len}
use Rattle.std.proofs.Math.ListN.{length-set}
use Rattle.std.proofs.lemmas.List.{get_or-set_same, get_or_past}
use Rattle.std.proofs.lemmas.Bool.{cases_lt}
use Rattle.world_defs.specs.declared.event.Event.TheVariants.{GiveUp}
use Rattle.world_defs.specs.declared.effect.Effect.{Effect}
use Rattle.world_defs.specs.Node.{NodeState, new_node, has_staged, given_up}
use Rattle.world_defs.specs.World.{WorldState, host_count, node_at, with_node, addresses}
use Rattle.world_defs.specs.Step.{gave_up, step, after_all}
use Rattle.world_defs.specs.Asking.{all_given_up}
use Rattle.world_laws.proofs.Lists.{at-set}

-- A host that gave up is so, as are one that had nothing to give up, and one that isn't there.
pub record IsOfGivenUp (P : NodeState → Type 0) : Type 0 where
  pub given : (n : NodeState) → P (given_up n)
  pub blank : (n : NodeState) → has_staged n ≡ false → P n
  pub absent : P (new_node 0)

here-so : (P : NodeState → Type 0) → IsOfGivenUp P → (w : WorldState) (h : ℕ) → h < host_count w → P (node_at (step w (GiveUp h)).1 h)
unfolding gave_up
here-so P is w h low = by (has_staged (node_at w h)) refl
  where
    by : (b : Bool) → has_staged (node_at w h) ≡ b → P (node_at (if b then (let r : Effect × WorldState = (Effect.GaveUp, with_node w h (given_up (node_at w h))) in r) else (Effect.Idle, w)).1 h)
    by true e = subst P (sym (get_or-set_same w.nodes h (given_up (node_at w h)) (new_node 0) low)) (is.given (node_at w h))
    by false e = is.blank (node_at w h) e

stays-so : (P : NodeState → Type 0) → IsOfGivenUp P → (w : WorldState) (h g : ℕ) → P (node_at w g) → P (node_at (step w (GiveUp h)).1 g)
unfolding gave_up
stays-so P is w h g so = by (has_staged (node_at w h))
  where
    keeps : P (get_or (set w.nodes h (given_up (node_at w h))) g (new_node 0))
    keeps = at-set (λ x y. P x → P y) (λ x i. i) w.nodes h g (given_up (node_at w h)) (new_node 0) (λ i. is.given (node_at w h)) so

    by : (b : Bool) → P (node_at (if b then (let r : Effect × WorldState = (Effect.GaveUp, with_node w h (given_up (node_at w h))) in r) else (Effect.Idle, w)).1 g)
    by true = keeps
    by false = so

all-stay : (P : NodeState → Type 0) → IsOfGivenUp P → (w : WorldState) (hs : List ℕ) (g : ℕ) → P (node_at w g) → P (node_at (after_all w (map GiveUp hs)) g)
all-stay P is w [] g so = so
all-stay P is w (h ∷ hs) g so = all-stay P is (step w (GiveUp h)).1 hs g (stays-so P is w h g so)

gave_up-count : (w : WorldState) (h : ℕ) → host_count (step w (GiveUp h)).1 ≡ host_count w
unfolding gave_up
gave_up-count w h = by (has_staged (node_at w h))
  where
    by : (b : Bool) → host_count (if b then (let r : Effect × WorldState = (Effect.GaveUp, with_node w h (given_up (node_at w h))) in r) else (Effect.Idle, w)).1 ≡ host_count w
    by true = length-set w.nodes h (given_up (node_at w h))
    by false = refl

all-count : (w : WorldState) (hs : List ℕ) → host_count (after_all w (map GiveUp hs)) ≡ host_count w
all-count w [] = refl
all-count w (h ∷ hs) = all-count (step w (GiveUp h)).1 hs ∙ gave_up-count w h

range-so : (P : NodeState → Type 0) → IsOfGivenUp P → (w : WorldState) (a k : ℕ) → a + k ≡ host_count w → (h : ℕ) → a ≤ h → h < a + k → P (node_at (after_all w (map GiveUp (range_with_len a k))) h)
range-so P is w a zero all h low high = absurd (omega (arith, low, high))
range-so P is w a (suc k) all h low high =
    ⊎_elim
    (λ l.
    let same : a ≡ h = omega (arith, l, low) in
    let here : P (node_at next a) = here-so P is w a (omega (arith, all)) in
    all-stay P is next (range_with_len (a + 1) k) h (subst (λ g. P (node_at next g)) same here))
    (λ l. range-so P is next (a + 1) k (omega (arith, all, more)) h l (omega (arith, high)))
    (cases_lt h (a + 1))
  where
    next : WorldState
    next = (step w (GiveUp a)).1

    more : host_count next ≡ host_count w
    more = gave_up-count w a

pub all-so : (P : NodeState → Type 0) → IsOfGivenUp P → (w : WorldState) (h : ℕ) → P (node_at (all_given_up w) h)
all-so P is w h =
    ⊎_elim (λ low. range-so P is w 0 (host_count w) (omega arith) h (omega arith) (omega (arith, low)))
    (λ high.
    let long = all-count w (addresses w) in
    let past : node_at (all_given_up w) h ≡ new_node 0 = get_or_past (all_given_up w).nodes h (new_node 0) (omega (arith, high, long)) in
    subst P (sym past) is.absent)
    (cases_lt h (host_count w))
