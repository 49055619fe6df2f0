-- What an ask answers.
use Rattle.std.specs.Prelude.{◌≡◌, ◌⊎◌, ℕ, ◌<◌, ◌≤◌, true, false, ℤ, List, nat_eq, None}
use Rattle.std.specs.Map.{lookup}
use Rattle.net_defs.specs.declared.place.Answer.TheVariants.{Nothing}
use Rattle.net_defs.specs.Route.{answer}
use Rattle.world_defs.specs.History.{fabric_at}
use Rattle.world_defs.specs.World.{WorldState, last_count}
use Rattle.world_defs.specs.Logs.{ask}
use Rattle.ask_laws.specs.Premises.{CanAsk}

-- an ask answers the truth of the fabric that stood when its mapper was made, or it answers that nothing was found, and
-- drowned: so an answer of a host or of a switch is true, and so is each answer of an ask that didn't drown
abbrev pub AskIsTrueOrDrowns : Type 0
AskIsTrueOrDrowns =
    (made : ℕ) (w : WorldState) (mapper tries : ℕ) (walk : List ℤ) → CanAsk made w mapper walk
    → ((ask made mapper tries walk w).value.answer ≡ answer (fabric_at w.links.cables made) mapper walk)
    ⊎ (((ask made mapper tries walk w).value.answer ≡ Nothing) × ((ask made mapper tries walk w).value.drowned ≡ true))

-- an ask with a try at least doesn't drown where no cable went since its mapper was made, no fault is planned for an
-- injection of it, and injections are left after it
abbrev pub QuietAskIsHeard : Type 0
QuietAskIsHeard =
    (made : ℕ) (w : WorldState) (mapper tries : ℕ) (walk : List ℤ) → CanAsk made w mapper walk → 0 < tries
    → w.links.cables.changes ≡ made
    → ((number : ℕ) → w.injected < number → number ≤ (ask made mapper tries walk w).world.injected
    → lookup (nat_eq number) w.plan ≡ None)
    → (ask made mapper tries walk w).world.injected < last_count → (ask made mapper tries walk w).value.drowned ≡ false

-- a drowned ask answers that nothing was found
abbrev pub DrownedAskFoundNothing : Type 0
DrownedAskFoundNothing = (made : ℕ) (w : WorldState) (mapper tries : ℕ) (walk : List ℤ)
    → (ask made mapper tries walk w).value.drowned ≡ true → (ask made mapper tries walk w).value.answer ≡ Nothing

-- where an ask with a try at least drowned, a planned fault harmed a packet of it, the injections were used up, or a
-- cable went since its mapper was made
abbrev pub DrownedAskWasHarmed : Type 0
DrownedAskWasHarmed =
    (made : ℕ) (w : WorldState) (mapper tries : ℕ) (walk : List ℤ) → CanAsk made w mapper walk → 0 < tries
    → (ask made mapper tries walk w).value.drowned ≡ true
    → (w.harmed < (ask made mapper tries walk w).world.harmed)
    ⊎ ((last_count ≤ (ask made mapper tries walk w).world.injected)
    ⊎ (made < (ask made mapper tries walk w).world.links.cables.changes))
