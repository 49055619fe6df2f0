-- What a drain and a clear come to.
use Rattle.std.specs.Prelude.{◌≡◌, ◌↔◌, ◌⊎◌, ℕ, ◌+◌, ◌≤◌, true, List, [], ◌∷◌, ◌++◌, Option, Some, None}
use Rattle.world_defs.specs.Links.{Held, is_idle}
use Rattle.world_defs.specs.Advance.{advance}
use Rattle.world_defs.specs.Hops.{total_hops, is_stuck}
use Rattle.world_defs.specs.declared.event.Event.TheVariants.{Advance}
use Rattle.world_defs.specs.declared.effect.Effect.{Effect}
use Rattle.world_defs.specs.World.{WorldState}
use Rattle.world_defs.specs.Step.{step}
use Rattle.world_defs.specs.Drain.{changes}
use Rattle.world_defs.specs.Log.{Log, still}
use Rattle.world_defs.specs.Logs.{is_still, drain_pass, drain, clear}
use Rattle.world_laws.specs.Repeats.{Repeats}

-- an advance does to the links what it does to links without a world
abbrev pub AdvanceOfLinks : Type 0
AdvanceOfLinks = (w : WorldState) (c : ℕ) → (step w (Advance c)).1.links ≡ (advance w.links c).1

-- What a drain is: passes that change something, up to one that doesn't.
abbrev pub Drains : WorldState → Log (List Effect) → Type 0
Drains w l = Repeats (λ xs ys. xs ++ ys) (λ before p. is_still p.value) drain_pass w l

-- a drain is that
abbrev pub DrainDrains : Type 0
DrainDrains = (w : WorldState) → Drains w (drain w)

-- there is one such drain
abbrev pub DrainsAreOne : Type 0
DrainsAreOne = (w : WorldState) (l m : Log (List Effect)) → Drains w l → Drains w m → l ≡ m

-- a drain has no more changes than the packets have hops left
abbrev pub ChangesAreHops : Type 0
ChangesAreHops = (w : WorldState) → changes (drain w).value ≤ total_hops w.links

-- after a drain the links are idle or stuck
abbrev pub DrainedIsStill : Type 0
DrainedIsStill = (w : WorldState) → (is_idle (drain w).world.links ≡ true) ⊎ (is_stuck (drain w).world.links ≡ true)

-- how many channels hold a packet
abbrev pub full_count : List (Option Held) → ℕ
full_count [] = 0
full_count (None ∷ ps) = full_count ps
full_count (Some held ∷ ps) = 1 + full_count ps

-- after a clear the links are idle
abbrev pub ClearedIsIdle : Type 0
ClearedIsIdle = (w : WorldState) → is_idle (clear w).world.links ≡ true

-- a clear resets each channel that held a packet after the drain, and no other
abbrev pub ResetsAreFull : Type 0
ResetsAreFull = (w : WorldState) → (clear w).value ≡ full_count (drain w).world.links.channels

-- where the links are idle, a drain does nothing
abbrev pub IdleIsDrained : Type 0
IdleIsDrained = (w : WorldState) → is_idle w.links ≡ true → drain w ≡ still [] w

-- where the links are idle, a clear does nothing
abbrev pub IdleIsCleared : Type 0
IdleIsCleared = (w : WorldState) → is_idle w.links ≡ true → ((clear w).value ≡ 0) × ((clear w).world ≡ w)

-- a clear has no resets exactly where the drain left the links idle, so where it didn't leave them stuck
abbrev pub NoResetsIsIdle : Type 0
NoResetsIsIdle = (w : WorldState) → (clear w).value ≡ 0 ↔ is_idle (drain w).world.links ≡ true
