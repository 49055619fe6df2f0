-- A circuit answer is the true one, or Nothing.
use Rattle.std.proofs.Common.{◌≡◌, ◌≢◌, ℕ, List, Bool, true, false, ◌∙◌, refl, if◌then◌else◌, ◌⊎◌, inl, inr}
use Rattle.std.specs.Prelude.{map}
use Rattle.net_defs.specs.declared.place.Place.{Place}
use Rattle.net_defs.specs.declared.place.Place.TheVariants.{Host as AtHost, Switch as AtSwitch, Nothing as Stuck}
use Rattle.net_defs.specs.declared.place.Answer.TheVariants.{Nothing as IsNothing}
use Rattle.net_defs.specs.Network.{Network}
use Rattle.net_defs.specs.Route.{answer, answer_at, place, channels_of}
use Rattle.net_defs.proofs.Distinct.{all-weaker}
use Rattle.journal_defs.specs.declared.entry.Entry.{Entry}
use Rattle.journal_defs.specs.Truth.{IsTrueWhereFound}
use Rattle.journal_defs.proofs.Standing.{stand}
use Rattle.circ_laws.specs.ClassLaws.{CircuitMergesAreTrue, CircuitTellsTrueOrNothing}
use Rattle.circ_defs.specs.Circuit.{IsCircuitJournal, are_apart, cable_of, circuit_answer, held_place}

held_place-or : (cs : List ℕ) (p : Place) → (answer_at (held_place cs p) ≡ IsNothing) ⊎ (answer_at (held_place cs p) ≡ answer_at p)
held_place-or cs (AtHost h) = by (are_apart cs)
  where
    by : (b : Bool) → (answer_at (if b then AtHost h else Stuck) ≡ IsNothing) ⊎ (answer_at (if b then AtHost h else Stuck) ≡ answer_at (AtHost h))
    by true = inr refl
    by false = inl refl
held_place-or cs (AtSwitch s p) = by (are_apart (map cable_of cs))
  where
    by : (b : Bool) → (answer_at (if b then AtSwitch s p else Stuck) ≡ IsNothing) ⊎ (answer_at (if b then AtSwitch s p else Stuck) ≡ answer_at (AtSwitch s p))
    by true = inr refl
    by false = inl refl
held_place-or cs Stuck = inl refl

pub circuit_tells : CircuitTellsTrueOrNothing
circuit_tells n host w = held_place-or (channels_of n host w) (place n host w)

pub circuit-true : (n : Network) (host : ℕ) (j : List Entry) → IsCircuitJournal n host j → IsTrueWhereFound n host j
circuit-true n host j all = all-weaker (λ e. e.answer ≡ circuit_answer n host e.walk) (λ e. e.answer ≢ IsNothing → e.answer ≡ answer n host e.walk) j (λ e p q. by e p q (circuit_tells n host e.walk)) all
  where
    by : (e : Entry) → e.answer ≡ circuit_answer n host e.walk → e.answer ≢ IsNothing → (circuit_answer n host e.walk ≡ IsNothing) ⊎ (circuit_answer n host e.walk ≡ answer n host e.walk) → e.answer ≡ answer n host e.walk
    by e p q (inl z) = absurd (q (p ∙ z))
    by e p q (inr z) = p ∙ z

pub circuit_merges : CircuitMergesAreTrue
circuit_merges n host j u v k f all r = stand n host j u v k f (circuit-true n host j all) r
