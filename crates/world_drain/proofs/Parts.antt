-- Parts of a drain: nothing yet, one part after another, and a pass.
use Rattle.std.proofs.Common.{◌≡◌, ◌≢◌, Bool, true, false, [], refl, sym, ◌∙◌, ap, subst, arith}
use Rattle.std.proofs.lemmas.Bool.Decides.{nat_tests}
use Rattle.world_defs.specs.Links.{is_idle}
use Rattle.world_defs.specs.World.{WorldState}
use Rattle.world_defs.specs.Drain.{changes}
use Rattle.world_defs.proofs.LogViews.{pass}
use Rattle.world_defs.specs.Logs as log
use Rattle.log_laws.proofs.Drains.{drain-rests, drain-goes_on, drain-on}
use Rattle.world_drain.specs.declared.seen.Watch.{Watch}
use Rattle.world_drain.specs.declared.seen.Seen.{Seen}
use Rattle.world_drain.specs.Watch.{seen_in, seen_then}
use Rattle.world_drain.specs.Part.{IsDrainedTo}
use Rattle.world_drain.proofs.Watching.{seen-append, then-in-a-row, then-nothing, unchanged-all}
use Rattle.world_drain.proofs.Drained.{pass-same, idle-rests}

pub drained-none : (watch : Watch) (w : WorldState) → IsDrainedTo watch w w (seen_in watch [])
drained-none watch w = record { shown = sym (seen-append watch [] (log.drain w).value); after = refl; way = λ v p. p }

-- where the world is as it was, and nothing was seen
pub drained-still : (watch : Watch) (w v : WorldState) (seen : Seen) → v ≡ w → seen ≡ seen_in watch [] → IsDrainedTo watch w v seen
drained-still watch w v seen same nothing = subst (λ u. IsDrainedTo watch w u seen) (sym same) (subst (IsDrainedTo watch w w) (sym nothing) (drained-none watch w))

pub drained-on : (watch : Watch) (first now next : WorldState) (seen once : Seen) → IsDrainedTo watch first now seen → IsDrainedTo watch now next once → IsDrainedTo watch first next (seen_then seen once)
drained-on watch first now next seen once a b = record {
  shown = sym (then-in-a-row seen once (seen_in watch (log.drain next).value)) ∙ ap (seen_then seen) b.shown ∙ a.shown;
  after = b.after ∙ a.after;
  way = λ v p. a.way v (b.way v p);
}

-- a pass is a part of a drain
pub drained-pass : (watch : Watch) (w : WorldState) → IsDrainedTo watch w (pass w).1 (seen_in watch (pass w).0)
drained-pass watch w = by (log.is_still (pass w).0) refl
  where
    by : (b : Bool) → log.is_still (pass w).0 ≡ b → IsDrainedTo watch w (pass w).1 (seen_in watch (pass w).0)
    by true is =
        let none : changes (pass w).0 ≡ 0 = grind (arith, nat_tests) in
        drained-still watch w (pass w).1 (seen_in watch (pass w).0) (pass-same w none) (unchanged-all watch (pass w).0 none)
    by false is =
        let some : changes (pass w).0 ≢ 0 = λ none. grind (arith, nat_tests) in
        record {
          shown = sym (seen-append watch (pass w).0 (log.drain (pass w).1).value) ∙ ap (λ l. seen_in watch l.value) (sym (drain-goes_on w is));
          after = ap (λ l. l.world) (sym (drain-goes_on w is));
          way = λ v p. drain-on w (pass w).1 v some refl p;
        }

-- a drain has ended where a pass would change nothing
pub drained-rest : (watch : Watch) (first now : WorldState) (seen : Seen) → IsDrainedTo watch first now seen → changes (pass now).0 ≡ 0
    → (seen ≡ seen_in watch (log.drain first).value) × (now ≡ (log.drain first).world)
drained-rest watch first now seen d none =
    let same : log.is_still (pass now).0 ≡ true = grind (arith, nat_tests) in
    let rest = drain-rests now same in
    (sym (then-nothing watch seen) ∙ ap (λ l. seen_then seen (seen_in watch l.value)) (sym rest) ∙ d.shown, ap (λ l. l.world) (sym rest) ∙ d.after)

-- and so where no packet is left
pub drained-idle : (watch : Watch) (first now : WorldState) (seen : Seen) → IsDrainedTo watch first now seen → is_idle now.links ≡ true
    → (seen ≡ seen_in watch (log.drain first).value) × (now ≡ (log.drain first).world)
drained-idle watch first now seen d idle = drained-rest watch first now seen d (idle-rests watch now idle)
