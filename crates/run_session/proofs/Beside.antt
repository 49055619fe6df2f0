-- A session beside the two hosts that restart: other commands pass them by, and their own events leave all else.
use Rattle.std.proofs.Common.{◌≡◌, [], ◌∷◌, Option, Some, refl, sym, ap}
use Rattle.duo_defs.specs.declared.event.DuoEvent.{DuoEvent}
use Rattle.duo_defs.specs.Duo.{DuoState}
use Rattle.duo_defs.specs.Step.{IsFair, step as duo_step}
use Rattle.world_defs.specs.World.{WorldState, fabric_of}
use Rattle.run_defs.specs.declared.command.Command.{Command}
use Rattle.run_defs.specs.declared.command.Command.TheVariants.{Duo}
use Rattle.run_defs.specs.declared.line.Line.TheVariants.{Duo as DuoLine}
use Rattle.run_defs.specs.Duos.{begun, beside, IsOther}
use Rattle.run_defs.specs.Output.{OneLine}
use Rattle.run_defs.proofs.Doing.{does}
use Rattle.run_defs.proofs.Doing.Doing.{determined}
use Rattle.run_defs.specs.Session.{SessionState}
use Rattle.fab_report.specs.Printed.{PrintedState}
use Rattle.fab_script.specs.Ranges.{IsDuoOf}
use Rattle.fab_script.proofs.Ranged.{events_are_fair}
use Rattle.promise_laws.specs.CutShort.{IsCutShort}
use Rattle.promise_laws.specs.Duos.{IsDuoLeft}
use Rattle.promise_laws.specs.Duos.IsDuoLeft.{kept as left_kept, begins as left_new, stepped as left_stepped}
use Rattle.promise_laws.proofs.CutShort.{cut_unchanged}
use Rattle.promise_laws.proofs.Duos.{does-beside, cut-beside}
use Rattle.world_commands.specs.Duos.{IsDuoDone, IsDuoCut}
use Rattle.world_commands.specs.Duos.IsDuoCut.{kept, begins, stepped}
use Rattle.run_session.specs.Obeyed.{IsObeyed}

-- another command is obeyed, or cut short, whatever the two hosts
pub beside_obeyed : (s next : SessionState) (c : Command) (p : PrintedState) (d : Option DuoState) → IsOther c → IsObeyed s c next p → IsObeyed (beside s d) c (beside next d) p
beside_obeyed s next c p d other is = record { output = is.output; does = does-beside d other is.does; printed = is.printed }

pub beside_cut : (s : SessionState) (c : Command) (v : WorldState) (d : Option DuoState) → IsCutShort s c v → IsCutShort (beside s d) c v
beside_cut s c v d cut = cut-beside s c v d cut

-- an event of the two hosts
pub duo_obeyed : (s : SessionState) (e : DuoEvent) (after : Option DuoState) (p : PrintedState) → IsDuoDone (fabric_of s.world) e s.duo after p → IsObeyed s (Duo e) (beside s after) p
duo_obeyed s e after p done =
    let out = OneLine (DuoLine (duo_step (begun s.duo) e).0) ∷ [] in
    record {
      output = out;
      does = does (determined (ap (λ (o : Option DuoState). Some (record { output = out; after = beside s o })) (sym done.stepped)));
      printed = done.printed;
    }

-- it has no act of the world
pub duo_cut : (s : SessionState) (e : DuoEvent) (v : WorldState) → v ≡ s.world → IsCutShort s (Duo e) v
duo_cut s e v same = cut_unchanged s (Duo e) v same

-- what is left of them where memory runs out
pub duo_left : (s : SessionState) (e : DuoEvent) (after : Option DuoState) → IsDuoCut e s.duo after → IsDuoLeft s (Duo e) after
duo_left s e after (kept same) = left_kept same
duo_left s e after (begins none new) = left_new e refl none new
duo_left s e after (stepped led) =
    let next : SessionState = beside s (Some (duo_step (begun s.duo) e).1) in
    left_stepped e (OneLine (DuoLine (duo_step (begun s.duo) e).0) ∷ []) next refl (does (determined refl)) led

-- an event of a script is of one of the two hosts
pub event_is_fair : (e : DuoEvent) → IsDuoOf e → IsFair e
event_is_fair e is = events_are_fair e is
