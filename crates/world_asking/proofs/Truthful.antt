-- An ask over a world answers the truth, or it drowns.
use Rattle.std.proofs.Common.{◌≡◌, ◌<◌, ◌≤◌, ◌⊎◌, inl, inr, ℕ, ℤ, true, false, true≢false, List, [], ◌∷◌, suc, length, sym, ◌∙◌, subst, arith}
use Rattle.std.specs.List.{All, AllByRecursion}
use Rattle.fab_outer.specs.Fault.{Rose}
use Rattle.net_defs.specs.declared.place.Answer.{Answer}
use Rattle.net_defs.specs.declared.place.Answer.TheVariants.{Nothing}
use Rattle.net_defs.specs.Turn.{IsTurn}
use Rattle.net_defs.specs.Route.{answer}
use Rattle.world_defs.specs.Links.{is_idle}
use Rattle.world_defs.specs.History.{fabric_at}
use Rattle.world_defs.specs.World.{WorldState, host_count}
use Rattle.world_defs.proofs.LogViews.{ask}
use Rattle.world_defs.specs.Logs as log
use Rattle.probe.specs.Drowning.{IsTrueOrDrowned}
use Rattle.ask_laws.specs.Premises.{HasStood, CanAsk}
use Rattle.ask_laws.proofs.Answering.{ask-true}
use Rattle.fab_world.specs.Held.{IsMoment}

by_recursion : (xs : List ℤ) → All IsTurn xs → AllByRecursion IsTurn xs
by_recursion [] all = tt
by_recursion (x ∷ xs) all = (all 0 x (omega arith), by_recursion xs (λ i d low. all (suc i) d (omega (arith, low))))

pub turns-in_range : (turns walk : List ℤ) → turns ≡ walk → All IsTurn turns → AllByRecursion IsTurn walk
turns-in_range turns walk e all = subst (AllByRecursion IsTurn) e (by_recursion turns all)

pub can-ask : (made : ℕ) (w : WorldState) (mapper : ℕ) (walk : List ℤ) → HasStood made w.links.cables → IsMoment w → is_idle w.links ≡ true → mapper < host_count w → AllByRecursion IsTurn walk → length walk ≤ 31 → CanAsk made w mapper walk
can-ask made w mapper walk stood m idle there turns few = record {
  stood = stood;
  world = m.world;
  idle = idle;
  is_host = there;
  turns = turns;
  few_turns = omega (arith, few);
  byte_flips = m.plan;
}

pub told-drowned : (made : ℕ) (w : WorldState) (mapper tries : ℕ) (walk : List ℤ) (a : Answer) (before now : ℕ) → CanAsk made w mapper walk → a ≡ (log.ask made mapper tries walk w).value.answer → Rose before now
    → IsTrueOrDrowned (answer (fabric_at w.links.cables made) mapper walk) before now a
told-drowned made w mapper tries walk a before now can told rose = by (ask-true made w mapper tries walk can)
  where
    by : ((ask made mapper tries walk w).answer ≡ answer (fabric_at w.links.cables made) mapper walk) ⊎ (((ask made mapper tries walk w).answer ≡ Nothing) × ((ask made mapper tries walk w).drowned ≡ true)) → IsTrueOrDrowned (answer (fabric_at w.links.cables made) mapper walk) before now a
    by (inl e) = inl (told ∙ e)
    by (inr (e, d)) = inr (told ∙ e, rose)

pub told-true : (made : ℕ) (w : WorldState) (mapper tries : ℕ) (walk : List ℤ) (a : Answer) (before now : ℕ) → CanAsk made w mapper walk → a ≡ (log.ask made mapper tries walk w).value.answer → (log.ask made mapper tries walk w).value.drowned ≡ false
    → IsTrueOrDrowned (answer (fabric_at w.links.cables made) mapper walk) before now a
told-true made w mapper tries walk a before now can told alive = by (ask-true made w mapper tries walk can)
  where
    by : ((ask made mapper tries walk w).answer ≡ answer (fabric_at w.links.cables made) mapper walk) ⊎ (((ask made mapper tries walk w).answer ≡ Nothing) × ((ask made mapper tries walk w).drowned ≡ true)) → IsTrueOrDrowned (answer (fabric_at w.links.cables made) mapper walk) before now a
    by (inl e) = inl (told ∙ e)
    by (inr (e, d)) = absurd (true≢false (sym d ∙ alive))
