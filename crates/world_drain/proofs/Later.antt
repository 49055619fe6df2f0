-- Events that lead on from where other events led.
use Rattle.std.proofs.Common.{◌≡◌, List, [], ◌∷◌, ◌++◌, refl, sym, ◌∙◌, ap}
use Rattle.std.specs.Prelude.{Result, Ok, Err, OnOk, OnErr}
use Rattle.world_defs.specs.declared.event.Event.{Event}
use Rattle.world_defs.specs.World.{WorldState}
use Rattle.world_defs.specs.Step.{step, after_all}
use Rattle.world_defs.proofs.LogRows.{after_all-append}
use Rattle.world_defs.specs.Log.{Log}
use Rattle.world_defs.specs.Row.{IsPartWay}
use Rattle.log_laws.proofs.UnderWay.{UnderWay}
use Rattle.fab_world.specs.Held.{IsLater}

pub later-same : (w : WorldState) → IsLater w w
later-same w = ([], refl)

pub later-both : (u v w : WorldState) → IsLater u v → IsLater v w → IsLater u w
later-both u v w (es, is) (fs, on) = (es ++ fs, on ∙ ap (λ x. after_all x fs) is ∙ sym (after_all-append u es fs))

pub later-step : (w v : WorldState) (e : Event) → v ≡ (step w e).1 → IsLater w v
later-step w v e is = (e ∷ [], is)

pub way-later : {es : List Event} (w v : WorldState) → IsPartWay w es v → IsLater w v
way-later w v p = (p.done, p.there)

pub under-later : {A B : Type 0} {f : B → A} {whole : Log A} {first now : WorldState} {rest : Log B} → UnderWay f whole first now rest → IsLater first now
under-later u = (u.done, u.led)

pub on-any : {A E : Type 0} {P : Type 0} (r : Result A E) → P → OnErr r P
on-any (Ok a) p = tt
on-any (Err e) p = p

pub on-err : {A E : Type 0} {P Q : Type 0} (r : Result A E) → (P → Q) → OnErr r P → OnErr r Q
on-err (Ok a) f p = tt
on-err (Err e) f p = f p

pub on-ok : {A E : Type 0} {P Q : Type 0} (r : Result A E) → (P → Q) → OnOk r P → OnOk r Q
on-ok (Ok a) f p = f p
on-ok (Err e) f p = tt
