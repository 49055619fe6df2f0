-- A mapper's fabric stands as it did when it was made: an ask pulls cables at most.
use Rattle.std.proofs.Common.{◌≡◌, ◌<◌, ℕ, ℤ, true, nat_le, List, [], ◌∷◌, length, refl, ◌∙◌, ap, subst, arith}
use Rattle.std.specs.Prelude.{Result, OnOk, OnErr}
use Rattle.std.specs.List.{AllByRecursion}
use Rattle.std.proofs.lemmas.Bool.Decides.{nat_tests}
use Rattle.world_defs.specs.declared.wire.Wire.{Wire}
use Rattle.world_defs.specs.History.{CableHistory, IsHistory, IsDated, fabric_at}
use Rattle.world_defs.specs.Later.{OnlyPulled}
use Rattle.world_defs.proofs.CablesLater.{pulled-later, later-past}
use Rattle.world_defs.specs.World.{WorldState, host_count}
use Rattle.world_defs.specs.Logs as log
use Rattle.world_defs.specs.Row.{IsPartWay}
use Rattle.world_defs.proofs.LogRows.{ask-row}
use Rattle.ask_laws.specs.Premises.{HasStood}
use Rattle.ask_laws.proofs.Stood.{stood-pulled}
use Rattle.fab_world.specs.Held.{IsMoment}
use Rattle.world_drain.proofs.Cables.{log-pulled}
use Rattle.world_asking.specs.Prober.{WorldAsking, IsAsking, next_ask}

-- no cable was plugged after the last change
dated : (changes : ℕ) (ws : List Wire) → AllByRecursion (IsDated changes) ws → AllByRecursion (λ x. nat_le x.plugged changes ≡ true) ws
dated changes [] all = tt
dated changes (w ∷ ws) all = let low = all.0.plugged in (grind (arith, nat_tests), dated changes ws all.1)

pub stands-now : (h : CableHistory) → IsHistory h → HasStood h.changes h
stands-now h is = record { history = is; made = omega arith; unplugged = dated h.changes h.wires is.dated }

-- the mapper is a host of its fabric
pub mapper-there : (w : WorldState) (made host : ℕ) → IsMoment w → host < host_count w → host < length (fabric_at w.links.cables made).hosts
mapper-there w made host m low = subst (λ n. host < n) m.world.hosts low

-- an ask that came to its end, or was cut off
pub asked-pulled : {A E : Type 0} (made mapper tries : ℕ) (walk : List ℤ) (w v : WorldState) (r : Result A E) → OnOk r (v ≡ (log.ask made mapper tries walk w).world)
    → OnErr r (IsPartWay w (log.ask made mapper tries walk w).events v) → OnlyPulled w.links.cables v.links.cables
asked-pulled made mapper tries walk w v r =
    log-pulled (log.ask made mapper tries walk w) w v r
    (ask-row (record { advance = λ c. refl; inject = λ h. refl; give_up = λ h. refl }) (λ h walk looped. refl) made mapper tries walk w)

-- it leaves the mapper's fabric
pub past-stays : {A E : Type 0} (inside p : WorldAsking) (walk : List ℤ) (v : WorldState) (r : Result A E) → inside ≡ p → IsAsking inside → OnOk r (v ≡ (next_ask inside walk).world)
    → OnErr r (IsPartWay inside.world (next_ask inside walk).events v) → fabric_at v.links.cables inside.made ≡ fabric_at p.world.links.cables p.made
past-stays inside p walk v r is can ok err =
    let only = asked-pulled inside.made inside.host inside.tries walk inside.world v r ok err in
    let s = can.stood in
    later-past inside.made s.made (pulled-later only) ∙ ap (λ (q : WorldAsking). fabric_at q.world.links.cables q.made) is

-- and a mapper that can ask
pub asks-on : {A E : Type 0} (inside : WorldAsking) (walk : List ℤ) (v : WorldState) (drowned : ℕ) (r : Result A E) → IsAsking inside → OnOk r (v ≡ (next_ask inside walk).world)
    → OnErr r (IsPartWay inside.world (next_ask inside walk).events v) → host_count v ≡ host_count inside.world → IsAsking (record inside { world = v; drowned = drowned })
asks-on inside walk v drowned r is ok err hosts =
    let low = is.there in
    record {
      stood = stood-pulled inside.made (asked-pulled inside.made inside.host inside.tries walk inside.world v r ok err) is.stood;
      there = omega (arith, low, hosts);
      some = is.some;
      few = is.few;
    }
