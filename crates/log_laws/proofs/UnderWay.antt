-- A loop over a world, part of the way along a log: what was done led here, and with what is left it is the whole.
use Rattle.std.proofs.Common.{◌≡◌, List, [], ◌++◌, refl, sym, ◌∙◌, ap}
use Rattle.std.proofs.lemmas.List.{append_assoc}
use Rattle.world_defs.specs.declared.event.Event.{Event}
use Rattle.world_defs.specs.World.{WorldState}
use Rattle.world_defs.specs.Step.{after_all}
use Rattle.world_defs.specs.Log.{Log}
use Rattle.world_defs.specs.Row.{IsPartWay}
use Rattle.world_defs.proofs.LogRows.{after_all-append}
use Rattle.log_laws.proofs.PartWay.{way-behind, way-as}

-- one log after events: what it came to is joined to what these did
abbrev pub behind : {A B : Type 0} → (B → A) → List Event → Log B → Log A
behind f es l = record { value = f l.value; events = es ++ l.events; world = l.world }

pub record UnderWay {A B : Type 0} (f : B → A) (whole : Log A) (first now : WorldState) (rest : Log B) : Type 0 where
  pub done : List Event
  pub led : now ≡ after_all first done
  pub all : whole ≡ behind f done rest

-- nothing was done yet
pub under_way-none : {A : Type 0} (w : WorldState) (l : Log A) → UnderWay (λ a. a) l w w l
under_way-none w l = record { done = []; led = refl; all = refl }

-- nor anything found that is joined to the rest
pub under_way-first : {A : Type 0} (f : A → A) → ((a : A) → a ≡ f a) → (w : WorldState) (l : Log A) → UnderWay f l w w l
under_way-first f same w l = record { done = []; led = refl; all = λ i. record { value = same l.value i; events = l.events; world = l.world } }

-- more was done, and less is left
pub under_way-on : {A B C : Type 0} {f : B → A} {whole : Log A} {first now : WorldState} {rest : Log B} (g : C → B) (h : C → A) (next : WorldState) (es : List Event) (left : Log C)
    → UnderWay f whole first now rest → next ≡ after_all now es → rest ≡ behind g es left → ((c : C) → f (g c) ≡ h c) → UnderWay h whole first next left
under_way-on {f = f} {first = first} g h next es left w led opened same = record {
  done = w.done ++ es;
  led = led ∙ ap (λ v. after_all v es) w.led ∙ sym (after_all-append first w.done es);
  all = w.all ∙ ap (behind f w.done) opened ∙ (λ i. record { value = same left.value i; events = sym (append_assoc w.done es left.events) i; world = left.world });
}

-- what is part of the way along what is left is so along the whole
pub under_way-cut : {A B : Type 0} {f : B → A} {whole : Log A} {first now : WorldState} {rest : Log B} (v : WorldState) → UnderWay f whole first now rest → IsPartWay now rest.events v → IsPartWay first whole.events v
under_way-cut {whole = whole} {first = first} {now = now} {rest = rest} v w p =
    way-as first v whole.events (w.done ++ rest.events) (ap (λ l. l.events) w.all) (way-behind first now v w.done rest.events w.led p)
