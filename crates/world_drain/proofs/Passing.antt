-- A pass over the channels whose advance may change something comes to what a pass over all channels does.
use Rattle.std.proofs.Common.{◌≡◌, ◌<◌, ◌≤◌, ℕ, zero, suc, ◌+◌, ◌-◌, List, [], ◌∷◌, map, length, None, refl, sym, ◌∙◌, ap, subst, arith}
use Rattle.std.specs.List.{range_with_len}
use Rattle.world_defs.specs.Links.{packet_in}
use Rattle.world_defs.specs.Advance.{advance_of}
use Rattle.link_model.proofs.Runs.{advance-leaves}
use Rattle.world_defs.specs.declared.event.Event.TheVariants.{Advance}
use Rattle.world_defs.specs.declared.effect.Effect.{Effect}
use Rattle.world_defs.specs.declared.effect.Effect.TheVariants.{Idle}
use Rattle.world_defs.specs.World.{WorldState}
use Rattle.world_defs.specs.Step.{advanced, advanced_by, step, steps}
use Rattle.world_defs.specs.Drain.{changed}
use Rattle.world_laws.proofs.Draining.{advance-links, advance-changed, advance-world}
use Rattle.world_drain.specs.declared.seen.Watch.{Watch}
use Rattle.world_drain.specs.Watch.{seen_in, seen_then}
use Rattle.world_drain.specs.Awake.{IsStill}
use Rattle.world_drain.proofs.Watching.{seen-append, seen-push, unchanged-nothing}

-- an advance of an empty channel is idle
pub empty-idle : (w : WorldState) (c : ℕ) → packet_in w.links c ≡ None → step w (Advance c) ≡ (Idle, w)
unfolding advanced
empty-idle w c e = ap (λ o. advanced_by w (advance_of w.links c o)) e

-- no advance changes how many channels there are
pub step-long : (w : WorldState) (c : ℕ) → length (step w (Advance c)).1.links.channels ≡ length w.links.channels
step-long w c = ap (λ l. length l.channels) (advance-links w c) ∙ (advance-leaves w.links c).long

pub as-long : (now next : WorldState) (c : ℕ) → next ≡ (step now (Advance c)).1 → length next.links.channels ≡ length now.links.channels
as-long now next c is = ap (λ w. length w.links.channels) is ∙ step-long now c

-- so it would change nothing
pub empty-still : (w : WorldState) (c : ℕ) → packet_in w.links c ≡ None → IsStill w c
empty-still w c e = ap (λ r. changed r.0) (empty-idle w c e)

-- an advance that changes nothing leaves the world
pub still-world : (w : WorldState) (c : ℕ) → IsStill w c → (step w (Advance c)).1 ≡ w
still-world w c still = advance-world w c (sym (advance-changed w c) ∙ still)

-- at the front of a row it shows nothing either
front-still : (watch : Watch) (w : WorldState) (c : ℕ) (cs : List ℕ) → IsStill w c
    → (seen_in watch (steps w (map Advance (c ∷ cs))).0 ≡ seen_in watch (steps w (map Advance cs)).0) × ((steps w (map Advance (c ∷ cs))).1 ≡ (steps w (map Advance cs)).1)
front-still watch w c cs still =
    let x : Effect = (step w (Advance c)).0 in
    let xs : List Effect = (steps (step w (Advance c)).1 (map Advance cs)).0 in
    let here : (step w (Advance c)).1 ≡ w = still-world w c still in (
      seen-push watch x xs ∙ ap (λ s. seen_then s (seen_in watch xs)) (unchanged-nothing watch x still) ∙ sym (seen-append watch [] xs) ∙ ap (λ v. seen_in watch (steps v (map Advance cs)).0) here,
      ap (λ v. (steps v (map Advance cs)).1) here,
    )

-- advances of so many channels from one on show and do what those of others do
abbrev pub AreSame : Watch → WorldState → (from all next rest : ℕ) → Type 0
AreSame watch w from all next rest =
    (seen_in watch (steps w (map Advance (range_with_len from all))).0 ≡ seen_in watch (steps w (map Advance (range_with_len next rest))).0)
    × ((steps w (map Advance (range_with_len from all))).1 ≡ (steps w (map Advance (range_with_len next rest))).1)

-- channels whose advance changes nothing may be passed over
skip-still : (watch : Watch) (w : WorldState) (gap from all next rest : ℕ) → all ≡ gap + rest → next ≡ from + gap
    → ((c : ℕ) → from ≤ c → c < next → IsStill w c) → AreSame watch w from all next rest
skip-still watch w zero from all next rest a n still =
    let one : all ≡ rest = omega (arith, a) in
    let two : next ≡ from = omega (arith, n) in
    subst (λ k. AreSame watch w from k next rest) (sym one) (subst (λ k. AreSame watch w from rest k rest) (sym two) (refl, refl))
skip-still watch w (suc gap) from all next rest a n still =
    let more : suc (gap + rest) ≡ all = omega (arith, a) in
    let here = front-still watch w from (range_with_len (from + 1) (gap + rest)) (still from (omega arith) (omega (arith, n))) in
    let further = skip-still watch w gap (from + 1) (gap + rest) next rest refl (omega (arith, n)) (λ c low high. still c (omega (arith, low)) high) in
    subst (λ k. AreSame watch w from k next rest) more (here.0 ∙ further.0, here.1 ∙ further.1)

-- such are those that are empty
pub skip-empty : (watch : Watch) (w : WorldState) (gap from all next rest : ℕ) → all ≡ gap + rest → next ≡ from + gap
    → ((c : ℕ) → from ≤ c → c < next → packet_in w.links c ≡ None) → AreSame watch w from all next rest
skip-empty watch w gap from all next rest a n empty = skip-still watch w gap from all next rest a n (λ c low high. empty-still w c (empty c low high))

-- the advances of the channels from one on
abbrev pub advances_from : WorldState → (from count : ℕ) → List Effect × WorldState
advances_from w from count = steps w (map Advance (range_with_len from (count - from)))

-- what the advances from one channel on show and do where the next that may change something is this: it goes first,
-- and then those after it
pub pass-on : (watch : Watch) (w : WorldState) (from count c : ℕ) → from ≤ c → c < count → ((k : ℕ) → from ≤ k → k < c → IsStill w k)
    → (seen_in watch (advances_from w from count).0 ≡ seen_then (seen_in watch ((step w (Advance c)).0 ∷ [])) (seen_in watch (advances_from (step w (Advance c)).1 (c + 1) count).0))
    × ((advances_from w from count).1 ≡ (advances_from (step w (Advance c)).1 (c + 1) count).1)
pass-on watch w from count c low high still =
    let skipped = skip-still watch w (c - from) from (count - from) c (suc (count - (c + 1))) (omega (arith, low, high)) (omega (arith, low)) still in
    let next : WorldState = (step w (Advance c)).1 in
    let first = seen-push watch (step w (Advance c)).0 (advances_from next (c + 1) count).0 in
    (skipped.0 ∙ first, skipped.1)

-- where none from one on may, their advances show and do nothing
pub pass-end : (watch : Watch) (w : WorldState) (from count : ℕ) → ((k : ℕ) → from ≤ k → IsStill w k)
    → (seen_in watch (advances_from w from count).0 ≡ seen_in watch []) × ((advances_from w from count).1 ≡ w)
pass-end watch w from count still =
    skip-still watch w (count - from) from (count - from) (from + (count - from)) 0 (omega arith) refl (λ c low high. still c low)
