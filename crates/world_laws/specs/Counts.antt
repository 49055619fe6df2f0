-- What an event does to the counts: of injections, of drops, of planned faults that struck.
use Rattle.std.specs.Prelude.{◌≡◌, ℕ, ◌+◌, ◌≤◌, length}
use Rattle.world_defs.specs.declared.event.Event.{Event}
use Rattle.world_defs.specs.declared.effect.Effect.{Effect}
use Rattle.world_defs.specs.declared.effect.Effect.TheVariants.{Injected, Dropped}
use Rattle.world_defs.specs.World.{WorldState, counted}
use Rattle.world_defs.specs.Step.{step}
use Rattle.world_defs.specs.Settle.{unacknowledged_in}
use Rattle.world_laws.specs.Reached.{IsOfSettle}

-- one packet more was injected, or none
abbrev pub injections : Effect → ℕ
injections (Injected number) = 1
injections _ = 0

-- the drops then: one more where a packet was dropped
abbrev pub drops_after : ℕ → Effect → ℕ
drops_after before (Dropped cause) = counted before
drops_after before _ = before

-- an injection has the next number
abbrev pub InjectionsAreNumbered : Type 0
InjectionsAreNumbered = (w : WorldState) (e : Event) (number : ℕ) → (step w e).0 ≡ Injected number
    → number ≡ w.injected + 1

-- the injections go up by one where a packet was injected, and else stay
abbrev pub InjectionsAreCounted : Type 0
InjectionsAreCounted = (w : WorldState) (e : Event) → (step w e).1.injected ≡ w.injected + injections (step w e).0

-- the drops go up by one where a packet was dropped, and else stay
abbrev pub DropsAreCounted : Type 0
DropsAreCounted = (w : WorldState) (e : Event) → (step w e).1.dropped ≡ drops_after w.dropped (step w e).0

-- A planned fault strikes at an injection, once at most, and is planned no more; of the faults that struck some harmed.
pub record IsStruck (w v : WorldState) (most : ℕ) : Type 0 where
  pub rises : w.struck ≤ v.struck
  pub at_most : v.struck ≤ w.struck + most
  pub harms_rise : w.harmed ≤ v.harmed
  pub harms_struck : v.harmed + w.struck ≤ v.struck + w.harmed
  pub planned : v.struck + length v.plan ≤ w.struck + length w.plan

-- planned faults strike at injections alone, one for each at most
abbrev pub StrikesAreOfInjections : Type 0
StrikesAreOfInjections = (w : WorldState) (e : Event) → IsStruck w (step w e).1 (injections (step w e).0)

-- no event of a settle raises the fragments that aren't acknowledged, or the faults that are planned
abbrev pub SettleEventRaisesNothing : Type 0
SettleEventRaisesNothing =
    (w : WorldState) (e : Event) → IsOfSettle e → (unacknowledged_in (step w e).1 ≤ unacknowledged_in w)
    × (length (step w e).1.plan ≤ length w.plan)
