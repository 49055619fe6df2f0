-- A pass that changes nothing leaves the world as it was, and one over links without a packet is such a pass.
use Rattle.std.proofs.Common.{◌≡◌, ℕ, Bool, true, false, List, [], ◌∷◌, map, length, refl, sym, ◌∙◌, ap, subst, arith}
use Rattle.world_defs.specs.Hops.{changes as moves}
use Rattle.world_defs.specs.Links.{is_idle}
use Rattle.world_defs.specs.Advance.{advance}
use Rattle.world_defs.specs.declared.event.Event.TheVariants.{Advance}
use Rattle.world_defs.specs.World.{WorldState}
use Rattle.world_defs.specs.Step.{step, steps}
use Rattle.world_defs.specs.Drain.{changes, channels_of}
use Rattle.world_defs.proofs.LogViews.{pass}
use Rattle.world_laws.proofs.Draining.{changes-push, advance-changed, advance-world}
use Rattle.ask_laws.proofs.Lone.{idle-empty}
use Rattle.world_drain.specs.declared.seen.Watch.{Watch}
use Rattle.world_drain.proofs.Passing.{empty-still, pass-end}
use Rattle.world_drain.proofs.Passed.{whole}

-- advances of which none changed anything leave the world
advances-same : (w : WorldState) (cs : List ℕ) → changes (steps w (map Advance cs)).0 ≡ 0 → (steps w (map Advance cs)).1 ≡ w
advances-same w [] e = refl
advances-same w (c ∷ cs) e = by (moves (advance w.links c).0) refl (advances-same w cs)
  where
    next : WorldState
    next = (step w (Advance c)).1

    by : (t : Bool) → moves (advance w.links c).0 ≡ t → (changes (steps w (map Advance cs)).0 ≡ 0 → (steps w (map Advance cs)).1 ≡ w) → (steps next (map Advance cs)).1 ≡ w
    by true m ih =
        let a = changes-push (step w (Advance c)).0 (steps next (map Advance cs)).0 true (advance-changed w c ∙ m) in absurd (omega (arith, a, e))
    by false m ih =
        let a = changes-push (step w (Advance c)).0 (steps next (map Advance cs)).0 false (advance-changed w c ∙ m) in
        let same : next ≡ w = advance-world w c m in
        let none : changes (steps next (map Advance cs)).0 ≡ 0 = omega (arith, a, e) in
        ap (λ v. (steps v (map Advance cs)).1) same ∙ ih (subst (λ v. changes (steps v (map Advance cs)).0 ≡ 0) same none)

pub pass-same : (w : WorldState) → changes (pass w).0 ≡ 0 → (pass w).1 ≡ w
pass-same w e = advances-same w (channels_of w) e

-- a pass over links without a packet changes nothing
pub idle-rests : (watch : Watch) (w : WorldState) → is_idle w.links ≡ true → changes (pass w).0 ≡ 0
idle-rests watch w idle =
    let end = pass-end watch w 0 (length w.links.channels) (λ k low. empty-still w k (idle-empty w.links.channels idle k)) in
    ap (λ r. changes r.0) (sym (whole w)) ∙ ap (λ s. s.changes) end.0
