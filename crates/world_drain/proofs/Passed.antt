-- A pass under way: what was seen, and what the channels from here on show, is what the whole pass shows.
use Rattle.std.proofs.Common.{◌≡◌, ◌<◌, ◌≤◌, ℕ, ◌+◌, ◌-◌, Bool, true, false, [], ◌∷◌, map, length, refl, sym, ◌∙◌, ap, arith}
use Rattle.std.specs.List.{range_with_len}
use Rattle.world_defs.specs.declared.event.Event.TheVariants.{Advance}
use Rattle.world_defs.specs.declared.effect.Effect.{Effect}
use Rattle.world_defs.specs.World.{WorldState}
use Rattle.world_defs.specs.Step.{step, steps}
use Rattle.world_defs.specs.Drain.{changed, changes, channels_of}
use Rattle.world_defs.proofs.LogViews.{pass}
use Rattle.world_laws.proofs.Draining.{one_if, changes-push}
use Rattle.world_defs.specs.Row.{IsPartWay}
use Rattle.log_laws.proofs.PartWay.{way-first, way-next}
use Rattle.world_drain.specs.declared.seen.Watch.{Watch}
use Rattle.world_drain.specs.declared.seen.Seen.{Seen}
use Rattle.world_drain.specs.Watch.{seen_in, seen_then}
use Rattle.world_drain.specs.Awake.{IsStill}
use Rattle.world_drain.proofs.Watching.{seen-append, then-in-a-row, then-nothing}
use Rattle.world_drain.proofs.Passing.{still-world, as-long, advances_from, pass-on, pass-end}

pub record Passed (watch : Watch) (first now : WorldState) (from : ℕ) (seen : Seen) : Type 0 where
  pub within : from ≤ length now.links.channels
  pub few : seen.changes ≤ from
  pub shown : seen_then seen (seen_in watch (advances_from now from (length now.links.channels)).0) ≡ seen_in watch (pass first).0
  pub after : (advances_from now from (length now.links.channels)).1 ≡ (pass first).1
  pub way : (v : WorldState) → IsPartWay now (map Advance (range_with_len from (length first.links.channels - from))) v → IsPartWay first (map Advance (channels_of first)) v
  pub channels : length now.links.channels ≡ length first.links.channels

pub whole : (w : WorldState) → advances_from w 0 (length w.links.channels) ≡ pass w
whole w = let e : length w.links.channels - 0 ≡ length w.links.channels = omega arith in ap (λ n. steps w (map Advance (range_with_len 0 n))) e

pub passed-none : (watch : Watch) (w : WorldState) (nothing : Seen) → nothing ≡ seen_in watch [] → Passed watch w w 0 nothing
passed-none watch w nothing e =
    let all = advances_from w 0 (length w.links.channels) in
    let none : nothing.changes ≡ 0 = ap (λ s. s.changes) e in
    record {
      within = omega arith;
      few = omega (arith, none);
      shown = ap (λ s. seen_then s (seen_in watch all.0)) e ∙ sym (seen-append watch [] all.0) ∙ ap (λ r. seen_in watch r.0) (whole w);
      after = ap (λ r. r.1) (whole w);
      way = λ v p. way-first Advance w v (length w.links.channels) p;
      channels = refl;
    }

-- one event changes something or nothing
pub one-few : (watch : Watch) (x : Effect) (one : Seen) → one ≡ seen_in watch (x ∷ []) → one.changes ≤ 1
one-few watch x one is =
    let count = changes-push x [] (changed x) refl in
    let same : one.changes ≡ changes (x ∷ []) = ap (λ s. s.changes) is in
    let few = few_if (changed x) in
    omega (arith, count, same, few)
  where
    few_if : (b : Bool) → one_if b ≤ 1
    few_if true = omega arith
    few_if false = omega arith

pub passed-on : (watch : Watch) (first now next : WorldState) (from c : ℕ) (seen one both : Seen) → Passed watch first now from seen
    → from ≤ c → c < length now.links.channels → ((k : ℕ) → from ≤ k → k < c → IsStill now k)
    → one ≡ seen_in watch ((step now (Advance c)).0 ∷ []) → next ≡ (step now (Advance c)).1 → both ≡ seen_then seen one → Passed watch first next (c + 1) both
passed-on watch first now next from c seen one both p low high still shows is made =
    let channels : length next.links.channels ≡ length now.links.channels = as-long now next c is in
    let few : one.changes ≤ 1 = one-few watch (step now (Advance c)).0 one shows in
    let count = length now.links.channels in
    let rest = seen_in watch (advances_from next (c + 1) (length next.links.channels)).0 in
    let on = pass-on watch now from count c low high still in
    let same : advances_from next (c + 1) (length next.links.channels) ≡ advances_from (step now (Advance c)).1 (c + 1) count =
    ap (λ n. advances_from next (c + 1) n) channels ∙ ap (λ w. advances_from w (c + 1) count) is in
    let changes : both.changes ≡ seen.changes + one.changes = ap (λ s. s.changes) made in
    let before = p.few in
    let as_many = p.channels in
    record {
      within = omega (arith, high, channels);
      few = omega (arith, changes, before, few, low);
      shown =
          ap (λ s. seen_then s rest) made ∙ sym (then-in-a-row seen one rest)
          ∙ ap (λ s. seen_then seen (seen_then s rest)) shows
          ∙ ap (λ r. seen_then seen (seen_then (seen_in watch ((step now (Advance c)).0 ∷ [])) (seen_in watch r.0))) same
          ∙ ap (seen_then seen) (sym on.0) ∙ p.shown;
      after = ap (λ r. r.1) same ∙ sym on.1 ∙ p.after;
      way = λ v q. p.way v (way-next Advance now next v from (length first.links.channels) c low (omega (arith, high, as_many)) (λ k a b. sym (still-world now k (still k a b))) is q);
      channels = channels ∙ p.channels;
    }

-- at the end no channel from here on may change anything
pub passed-all : (watch : Watch) (first now : WorldState) (from : ℕ) (seen : Seen) → Passed watch first now from seen
    → ((k : ℕ) → from ≤ k → IsStill now k) → (seen ≡ seen_in watch (pass first).0) × (now ≡ (pass first).1)
passed-all watch first now from seen p still =
    let end = pass-end watch now from (length now.links.channels) still in
    (sym (then-nothing watch seen) ∙ ap (seen_then seen) (sym end.0) ∙ p.shown, sym end.1 ∙ p.after)
