-- That an event of the two hosts that restart was done, and what is left of them where memory runs out.
use Rattle.std.proofs.Common.{◌≡◌, [], ◌∷◌, Option, Some, None, sym, ◌∙◌, ap, refl}
use Rattle.net_defs.specs.Network.{Network}
use Rattle.duo_defs.specs.declared.effect.DuoEffect.{DuoEffect}
use Rattle.duo_defs.specs.declared.event.DuoEvent.{DuoEvent}
use Rattle.duo_defs.specs.Duo.{DuoState}
use Rattle.duo_defs.specs.Step.{step}
use Rattle.run_defs.specs.declared.line.Line.TheVariants.{Duo}
use Rattle.run_defs.specs.Duos.{begun}
use Rattle.run_defs.specs.Output.{OneLine}
use Rattle.fab_report.specs.Printed.{PrintedState, printed_of}
use Rattle.world_commands.specs.Duos.{IsDuoDone, IsDuoCut}
use Rattle.world_commands.specs.Duos.IsDuoCut.{kept, begins, stepped}

-- they begin, and an event happens
led : (e : DuoEvent) (before between after : Option DuoState) (effect : DuoEffect) → between ≡ Some (begun before) → after ≡ Some (begun after) → step (begun between) e ≡ (effect, begun after) → after ≡ Some (step (begun before) e).1
led e before between after effect begin there happened = there ∙ ap Some (sym (ap (λ o. o.1) happened) ∙ ap (λ o. (step (begun o) e).1) begin)

pub event_done : (n : Network) (e : DuoEvent) (before between after : Option DuoState) (effect : DuoEffect) (p : PrintedState) → between ≡ Some (begun before) → after ≡ Some (begun after) → step (begun between) e ≡ (effect, begun after)
    → p ≡ printed_of n (OneLine (Duo effect) ∷ []) → IsDuoDone n e before after p
event_done n e before between after effect p begin there happened told = record {
  stepped = led e before between after effect begin there happened;
  printed = told ∙ ap (λ k. printed_of n (OneLine (Duo k) ∷ [])) (sym (ap (λ o. o.0) happened) ∙ ap (λ o. (step (begun o) e).0) begin);
}

-- only the text of an event is missing
pub cut_done : (e : DuoEvent) (before between after : Option DuoState) (effect : DuoEffect) → between ≡ Some (begun before) → after ≡ Some (begun after) → step (begun between) e ≡ (effect, begun after) → IsDuoCut e before after
cut_done e before between after effect begin there happened = stepped (led e before between after effect begin there happened)

-- they have begun, and nothing else happened
pub cut_begun : (e : DuoEvent) (before between after : Option DuoState) → between ≡ Some (begun before) → after ≡ between → IsDuoCut e before after
cut_begun e before between after begin same = by before (same ∙ begin)
  where
    by : (o : Option DuoState) → after ≡ Some (begun o) → IsDuoCut e o after
    by None is = begins refl is
    by (Some d) is = kept is

-- nothing happened
pub cut_nothing : (e : DuoEvent) (before after : Option DuoState) → after ≡ before → IsDuoCut e before after
cut_nothing e before after same = kept same
