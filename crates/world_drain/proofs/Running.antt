-- A drain under way: passes that each changed something led here.
use Rattle.std.proofs.Common.{◌≡◌, ◌≢◌, ◌<◌, ◌≤◌, ◌+◌, [], map, refl, sym, ◌∙◌, ap, subst, arith}
use Rattle.world_defs.specs.Hops.{total_hops}
use Rattle.world_defs.specs.declared.event.Event.TheVariants.{Advance}
use Rattle.world_defs.specs.EightBits.{IsByteEvent}
use Rattle.world_defs.specs.World.{WorldState}
use Rattle.world_defs.specs.Drain.{changes, channels_of}
use Rattle.world_defs.proofs.LogViews.{pass}
use Rattle.world_laws.proofs.Draining.{pass-cost}
use Rattle.world_defs.specs.Logs as log
use Rattle.world_defs.specs.Row.{IsPartWay}
use Rattle.world_defs.proofs.LogRows.{steps-after, drain-row, byte_clears}
use Rattle.log_laws.proofs.PartWay.{way-still}
use Rattle.log_laws.proofs.Drains.{drain-on}
use Rattle.fab_world.specs.Held.{IsLater}
use Rattle.world_drain.specs.declared.seen.Watch.{Watch}
use Rattle.world_drain.specs.declared.seen.Seen.{Seen}
use Rattle.world_drain.specs.Watch.{seen_in, seen_then}
use Rattle.world_drain.specs.Part.{IsDrainedTo}
use Rattle.world_drain.proofs.Drained.{pass-same}
use Rattle.world_drain.proofs.Parts.{drained-none, drained-on, drained-pass, drained-rest}

-- A part of a drain, whose changes took hops.
pub record Running (watch : Watch) (first now : WorldState) (seen : Seen) : Type 0 where
  pub part : IsDrainedTo watch first now seen
  pub cost : seen.changes + total_hops now.links ≤ total_hops first.links

pub pass-later : (w : WorldState) → IsLater w (pass w).1
pass-later w = (map Advance (channels_of w), steps-after w (map Advance (channels_of w)))

pub running-none : (watch : Watch) (w : WorldState) (nothing : Seen) → nothing ≡ seen_in watch [] → Running watch w w nothing
running-none watch w nothing e =
    let none : nothing.changes ≡ 0 = ap (λ s. s.changes) e in
    record { part = subst (IsDrainedTo watch w w) (sym e) (drained-none watch w); cost = omega (arith, none) }

pub running-on : (watch : Watch) (first now next : WorldState) (seen once both : Seen) → Running watch first now seen
    → once ≡ seen_in watch (pass now).0 → next ≡ (pass now).1 → both ≡ seen_then seen once → Running watch first next both
running-on watch first now next seen once both r shown is made =
    let cost = pass-cost now in
    let before = r.cost in
    let a : once.changes ≡ changes (pass now).0 = ap (λ s. s.changes) shown in
    let b : both.changes ≡ seen.changes + once.changes = ap (λ s. s.changes) made in
    let c : total_hops next.links ≡ total_hops (pass now).1.links = ap (λ w. total_hops w.links) is in
    let whole : both ≡ seen_then seen (seen_in watch (pass now).0) = made ∙ ap (seen_then seen) shown in
    record {
      part = subst (λ v. IsDrainedTo watch first v both) (sym is)
          (subst (IsDrainedTo watch first (pass now).1) (sym whole) (drained-on watch first now (pass now).1 seen (seen_in watch (pass now).0) r.part (drained-pass watch now)));
      cost = omega (arith, cost, before, a, b, c);
    }

-- the pass that changed nothing was the last
pub running-end : (watch : Watch) (first now next : WorldState) (seen once : Seen) → Running watch first now seen
    → once ≡ seen_in watch (pass now).0 → next ≡ (pass now).1 → once.changes ≡ 0 → (seen ≡ seen_in watch (log.drain first).value) × (next ≡ (log.drain first).world)
running-end watch first now next seen once r shown is none =
    let rest : changes (pass now).0 ≡ 0 = sym (ap (λ s. s.changes) shown) ∙ none in
    let end = drained-rest watch first now seen r.part rest in
    (end.0, is ∙ (pass-same now rest ∙ end.1))

-- what was seen so far stays within the hops at the first
pub running-few : (watch : Watch) (first now : WorldState) (seen once : Seen) → Running watch first now seen → once ≡ seen_in watch (pass now).0
    → seen.changes + once.changes ≤ total_hops first.links
running-few watch first now seen once r shown =
    let cost = pass-cost now in
    let before = r.cost in
    let a : once.changes ≡ changes (pass now).0 = ap (λ s. s.changes) shown in
    omega (arith, cost, before, a)

-- and is a part of the way along a drain
pub pass-way : (watch : Watch) (now next : WorldState) (once : Seen) → once ≡ seen_in watch (pass now).0 → next ≡ (pass now).1 → once.changes ≢ 0
    → IsPartWay now (log.drain now).events next
pass-way watch now next once shown is some =
    drain-on now next next (λ none. some (ap (λ s. s.changes) shown ∙ none)) is (way-still next next (log.drain next).events refl)

-- a pass that changed something leaves fewer hops
pub fewer-hops : (watch : Watch) (now next : WorldState) (once : Seen) → once ≡ seen_in watch (pass now).0 → next ≡ (pass now).1 → once.changes ≢ 0
    → total_hops next.links < total_hops now.links
fewer-hops watch now next once shown is some =
    let cost = pass-cost now in
    let same : once.changes ≡ changes (pass now).0 = ap (λ s. s.changes) shown in
    let hops : total_hops next.links ≡ total_hops (pass now).1.links = ap (λ w. total_hops w.links) is in
    omega (arith, cost, same, hops, some)

-- a drain is events in a row
pub drain-later : (w v : WorldState) → v ≡ (log.drain w).world → IsLater w v
drain-later w v is = ((log.drain w).events, is ∙ (drain-row {Q = IsByteEvent} byte_clears.advance w).there)
