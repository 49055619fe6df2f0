-- What every event keeps: the past of the cables, the adopted routes, and a plan of flips of eight bits.
use Rattle.std.proofs.Common.{◌≡◌, ◌+◌, ℕ, Bool, true, false, List, [], ◌∷◌, nat_eq, Some, IfSome, Ordering, Less, Equal, Greater, refl, subst, true≢false, if◌then◌else◌}
use Rattle.std.specs.List.{AllByRecursion}
use Rattle.std.specs.Map.{lookup}
use Rattle.std.specs.Ordering.{match_ordering, nat_cmp}
use Rattle.world_defs.specs.Later.{OnlyPulled, IsLater}
use Rattle.world_defs.proofs.CablesLater.{pulled-later}
use Rattle.world_defs.specs.Links.{LinkState}
use Rattle.world_defs.specs.LinkStep.{Step, Put as PutLinks, Advance as AdvanceLinks, Lose as LoseLinks, Repeat as RepeatLinks, Hold as HoldLinks, Flip as FlipLinks, stepped}
use Rattle.world_defs.proofs.Shapes.{stepped-cables}
use Rattle.world_defs.proofs.LinksLater.{pull-only, plug-later, packets-only}
use Rattle.world_defs.specs.declared.event.Event.{Event}
use Rattle.world_defs.specs.declared.effect.Effect.{Effect}
use Rattle.world_defs.specs.declared.fault.Fault.{Fault}
use Rattle.world_defs.specs.declared.fault.Fault.TheVariants.{Lose as LoseFault, Repeat as RepeatFault, Hold as HoldFault, Flip as FlipFault, Pull as PullFault}
use Rattle.world_defs.specs.Cables.{is_plug, is_of_cables}
use Rattle.world_defs.specs.EightBits.{IsByteFault, HasByteFaults}
use Rattle.world_defs.specs.Node.{Outgoing, packet_for}
use Rattle.world_defs.specs.World.{WorldState, without_fault, with_fault}
use Rattle.world_defs.specs.Step.{planned_strikes, sent_out, step}
use Rattle.world_defs.proofs.Views.{Change, LinksChange, view}
use Rattle.world_defs.proofs.Strikes.{fault_step, Strike, strike_view, injection-adopted}

-- the cables: a fault of a packet leaves them, and one of a cable pulls it
pub fault-pulled : (s : LinkState) (c : ℕ) (f : Fault) → OnlyPulled s.cables (stepped s (fault_step c f)).cables
fault-pulled s c LoseFault = packets-only s (LoseLinks c) refl
fault-pulled s c RepeatFault = packets-only s (RepeatLinks c) refl
fault-pulled s c HoldFault = packets-only s (HoldLinks c) refl
fault-pulled s c (FlipFault bit pattern) = packets-only s (FlipLinks c bit pattern) refl
fault-pulled s c (PullFault at) = pull-only s at

pub strike-pulled : {w v : WorldState} {c : ℕ} → Strike w c v → OnlyPulled w.links.cables v.links.cables
strike-pulled (Strike.spares e) = OnlyPulled.still
strike-pulled (Strike.misses f e k) = OnlyPulled.still
strike-pulled {w = w} {c = c} (Strike.strikes f e k) = fault-pulled w.links c f

-- a packet that is put in leaves the cables, and the fault that strikes it pulls at most
pub sent-cables : (w : WorldState) (h c : ℕ) (out : Outgoing) → (sent_out w h c out).links.cables ≡ w.links.cables
unfolding sent_out
sent-cables w h c out = stepped-cables w.links (PutLinks c (packet_for h (w.injected + 1) out)) refl

pub injection-pulled : (w : WorldState) (h c : ℕ) (out : Outgoing) → OnlyPulled w.links.cables (planned_strikes (sent_out w h c out) c).links.cables
injection-pulled w h c out =
    let sent : WorldState = sent_out w h c out in
    subst (λ g. OnlyPulled g (planned_strikes sent c).links.cables) (sent-cables w h c out) (strike-pulled (strike_view sent c))

-- an event that isn't a plug pulls at most
pub links-pulled : {w : WorldState} {e : Event} {x : Effect} {s : Step} → is_plug e ≡ false → LinksChange w e x s → OnlyPulled w.links.cables (stepped w.links s).cables
links-pulled {w = w} {s = s} not (LinksChange.moves packet next d e f g) = packets-only w.links s refl
links-pulled {w = w} {s = s} not (LinksChange.loses e) = packets-only w.links s refl
links-pulled {w = w} {s = s} not (LinksChange.resets e) = packets-only w.links s refl
links-pulled {w = w} {s = s} not (LinksChange.repeats e) = packets-only w.links s refl
links-pulled {w = w} {s = s} not (LinksChange.holds e) = packets-only w.links s refl
links-pulled {w = w} {s = s} not (LinksChange.flips e) = packets-only w.links s refl
links-pulled {w = w} {s = s} not (LinksChange.replays e) = packets-only w.links s refl
links-pulled {w = w} not (LinksChange.pulls {at = at} e) = pull-only w.links at
links-pulled not (LinksChange.plugs e) = absurd (true≢false not)

pub change-pulled : {w : WorldState} {e : Event} {r : Effect × WorldState} → is_plug e ≡ false → Change w e r → OnlyPulled w.links.cables r.1.links.cables
change-pulled not Change.idle = OnlyPulled.still
change-pulled not (Change.blocked packet next d e) = OnlyPulled.still
change-pulled not (Change.links k) = links-pulled not k
change-pulled {w = w} not (Change.drops {c = c} packet why d e f) = packets-only w.links (AdvanceLinks c) refl
change-pulled {w = w} not (Change.arrives {c = c} packet h d e f g) = packets-only w.links (AdvanceLinks c) refl
change-pulled not (Change.host k) = OnlyPulled.still
change-pulled {w = w} not (Change.injects {h = h} c out d e f g o) = injection-pulled w h c out
change-pulled not (Change.calls k) = OnlyPulled.still

pub step-pulled : (w : WorldState) (e : Event) → is_plug e ≡ false → OnlyPulled w.links.cables (step w e).1.links.cables
step-pulled w e not = change-pulled not (view w e)

-- every event pulls or plugs at most
pub links-later : {w : WorldState} {e : Event} {x : Effect} {s : Step} → LinksChange w e x s → IsLater w.links.cables (stepped w.links s).cables
links-later {w = w} {s = s} (LinksChange.moves packet next d e f g) = pulled-later (packets-only w.links s refl)
links-later {w = w} {s = s} (LinksChange.loses e) = pulled-later (packets-only w.links s refl)
links-later {w = w} {s = s} (LinksChange.resets e) = pulled-later (packets-only w.links s refl)
links-later {w = w} {s = s} (LinksChange.repeats e) = pulled-later (packets-only w.links s refl)
links-later {w = w} {s = s} (LinksChange.holds e) = pulled-later (packets-only w.links s refl)
links-later {w = w} {s = s} (LinksChange.flips e) = pulled-later (packets-only w.links s refl)
links-later {w = w} {s = s} (LinksChange.replays e) = pulled-later (packets-only w.links s refl)
links-later {w = w} (LinksChange.pulls {at = at} e) = pulled-later (pull-only w.links at)
links-later {w = w} (LinksChange.plugs {a = a} {b = b} e) = plug-later w.links a b

pub change-later : {w : WorldState} {e : Event} {r : Effect × WorldState} → Change w e r → IsLater w.links.cables r.1.links.cables
change-later Change.idle = IsLater.still
change-later (Change.blocked packet next d e) = IsLater.still
change-later (Change.links k) = links-later k
change-later {w = w} (Change.drops {c = c} packet why d e f) = pulled-later (packets-only w.links (AdvanceLinks c) refl)
change-later {w = w} (Change.arrives {c = c} packet h d e f g) = pulled-later (packets-only w.links (AdvanceLinks c) refl)
change-later (Change.host k) = IsLater.still
change-later {w = w} (Change.injects {h = h} c out d e f g o) = pulled-later (injection-pulled w h c out)
change-later (Change.calls k) = IsLater.still

pub step-later : (w : WorldState) (e : Event) → IsLater w.links.cables (step w e).1.links.cables
step-later w e = change-later (view w e)

-- and one that may not change them leaves the cables
links-cables : {w : WorldState} {e : Event} {x : Effect} {s : Step} → is_of_cables e ≡ false → LinksChange w e x s → (stepped w.links s).cables ≡ w.links.cables
links-cables {w = w} {s = s} not (LinksChange.moves packet next d e f g) = stepped-cables w.links s refl
links-cables {w = w} {s = s} not (LinksChange.loses e) = stepped-cables w.links s refl
links-cables {w = w} {s = s} not (LinksChange.resets e) = stepped-cables w.links s refl
links-cables {w = w} {s = s} not (LinksChange.repeats e) = stepped-cables w.links s refl
links-cables {w = w} {s = s} not (LinksChange.holds e) = stepped-cables w.links s refl
links-cables {w = w} {s = s} not (LinksChange.flips e) = stepped-cables w.links s refl
links-cables {w = w} {s = s} not (LinksChange.replays e) = stepped-cables w.links s refl
links-cables not (LinksChange.pulls e) = absurd (true≢false not)
links-cables not (LinksChange.plugs e) = absurd (true≢false not)

pub change-cables : {w : WorldState} {e : Event} {r : Effect × WorldState} → is_of_cables e ≡ false → Change w e r → r.1.links.cables ≡ w.links.cables
change-cables not Change.idle = refl
change-cables not (Change.blocked packet next d e) = refl
change-cables not (Change.links k) = links-cables not k
change-cables {w = w} not (Change.drops {c = c} packet why d e f) = stepped-cables w.links (AdvanceLinks c) refl
change-cables {w = w} not (Change.arrives {c = c} packet h d e f g) = stepped-cables w.links (AdvanceLinks c) refl
change-cables not (Change.host k) = refl
change-cables not (Change.injects c out d e f g o) = absurd (true≢false not)
change-cables not (Change.calls k) = refl

pub step-cables : (w : WorldState) (e : Event) → is_of_cables e ≡ false → (step w e).1.links.cables ≡ w.links.cables
step-cables w e not = change-cables not (view w e)

-- the adopted routes
pub change-adopted : {w : WorldState} {e : Event} {r : Effect × WorldState} → Change w e r → r.1.adopted ≡ w.adopted
change-adopted Change.idle = refl
change-adopted (Change.blocked packet next d e) = refl
change-adopted (Change.links k) = refl
change-adopted (Change.drops packet why d e f) = refl
change-adopted (Change.arrives packet h d e f g) = refl
change-adopted (Change.host k) = refl
change-adopted {w = w} (Change.injects {h = h} c out d e f g o) = injection-adopted w h c out
change-adopted (Change.calls k) = refl

pub step-adopted : (w : WorldState) (e : Event) → (step w e).1.adopted ≡ w.adopted
step-adopted w e = change-adopted (view w e)

-- the plan
pub without-all : (number : ℕ) (fs : List (ℕ × Fault)) → AllByRecursion (λ f. IsByteFault f.1) fs → AllByRecursion (λ f. IsByteFault f.1) (without_fault number fs)
without-all number [] all = tt
without-all number (f ∷ fs) all = by (nat_eq number f.0) (without-all number fs all.1)
  where
    by : (b : Bool) → AllByRecursion (λ f. IsByteFault f.1) (without_fault number fs) → AllByRecursion (λ f. IsByteFault f.1) (if b then fs else f ∷ without_fault number fs)
    by true rest = all.1
    by false rest = (all.0, rest)

pub with-all : (number : ℕ) (fault : Fault) (fs : List (ℕ × Fault)) → IsByteFault fault → AllByRecursion (λ f. IsByteFault f.1) fs → AllByRecursion (λ f. IsByteFault f.1) (with_fault number fault fs)
with-all number fault [] low all = (low, tt)
with-all number fault (f ∷ fs) low all = by (nat_cmp number f.0) (with-all number fault fs low all.1)
  where
    by : (o : Ordering) → AllByRecursion (λ f. IsByteFault f.1) (with_fault number fault fs) → AllByRecursion (λ f. IsByteFault f.1) (match_ordering o ((number, fault) ∷ f ∷ fs) ((f.0, fault) ∷ fs) (f ∷ with_fault number fault fs))
    by Less rest = (low, all)
    by Equal rest = (low, all.1)
    by Greater rest = (all.0, rest)

pub planned_one : (number : ℕ) (fs : List (ℕ × Fault)) → AllByRecursion (λ f. IsByteFault f.1) fs → IfSome (lookup (nat_eq number) fs) IsByteFault
planned_one number [] all = tt
planned_one number (f ∷ fs) all = by (nat_eq number f.0) (planned_one number fs all.1)
  where
    by : (b : Bool) → IfSome (lookup (nat_eq number) fs) IsByteFault → IfSome (if b then Some f.1 else lookup (nat_eq number) fs) IsByteFault
    by true rest = all.0
    by false rest = rest

strike-plan : {w v : WorldState} {c : ℕ} → Strike w c v → HasByteFaults w → HasByteFaults v
strike-plan (Strike.spares e) all = all
strike-plan {w = w} (Strike.misses f e k) all = without-all w.injected w.plan all
strike-plan {w = w} (Strike.strikes f e k) all = without-all w.injected w.plan all

injection-plan : (w : WorldState) (h c : ℕ) (out : Outgoing) → HasByteFaults w → HasByteFaults (planned_strikes (sent_out w h c out) c)
unfolding sent_out
injection-plan w h c out all = strike-plan (strike_view (sent_out w h c out) c) all

pub change-plan : {w : WorldState} {e : Event} {r : Effect × WorldState} → Change w e r → HasByteFaults w → HasByteFaults r.1
change-plan Change.idle all = all
change-plan (Change.blocked packet next d e) all = all
change-plan (Change.links k) all = all
change-plan (Change.drops packet why d e f) all = all
change-plan (Change.arrives packet h d e f g) all = all
change-plan (Change.host k) all = all
change-plan {w = w} (Change.injects {h = h} c out d e f g o) all = injection-plan w h c out all
change-plan (Change.calls k) all = all

pub step-plan : (w : WorldState) (e : Event) → HasByteFaults w → HasByteFaults (step w e).1
step-plan w e all = change-plan (view w e) all
