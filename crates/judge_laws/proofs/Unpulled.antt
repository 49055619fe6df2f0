-- Where no pull is planned, no event but a pull and a plug changes the cables.
use Rattle.std.proofs.Common.{◌≡◌, ◌+◌, ℕ, Bool, true, false, List, [], ◌∷◌, nat_eq, Option, Some, None, IfSome, Ordering, Less, Equal, Greater, refl, ◌∙◌, subst, true≢false, if◌then◌else◌}
use Rattle.std.specs.Prelude.{ℤ}
use Rattle.std.specs.List.{AllByRecursion}
use Rattle.std.specs.Map.{lookup}
use Rattle.std.specs.Ordering.{match_ordering, nat_cmp}
use Rattle.world_defs.specs.Links.{LinkState}
use Rattle.world_defs.specs.LinkStep.{Step, Advance as AdvanceLinks, Lose as LoseLinks, Repeat as RepeatLinks, Hold as HoldLinks, Flip as FlipLinks, stepped}
use Rattle.world_defs.proofs.Shapes.{stepped-cables}
use Rattle.world_defs.specs.declared.event.Event.{Event}
use Rattle.world_defs.specs.declared.event.Event.TheVariants.{Revoke, Pull as PullEvent, Plug as PlugEvent}
use Rattle.world_defs.specs.declared.effect.Effect.{Effect}
use Rattle.world_defs.specs.declared.fault.Fault.{Fault}
use Rattle.world_defs.specs.declared.fault.Fault.TheVariants.{Lose as LoseFault, Repeat as RepeatFault, Hold as HoldFault, Flip as FlipFault, Pull as PullFault}
use Rattle.world_defs.specs.Node.{Outgoing}
use Rattle.world_defs.specs.Table.{Adoption}
use Rattle.world_defs.specs.World.{WorldState, addresses, without_fault, with_fault, planned}
use Rattle.world_defs.specs.Step.{planned_strikes, sent_out, step, steps}
use Rattle.world_defs.specs.Logs.{settle, asks, install}
use Rattle.world_defs.proofs.Kept.{sent-cables}
use Rattle.world_defs.proofs.LogRows.{all-map, settle-row, asks-row, install-row}
use Rattle.world_defs.proofs.Strikes.{fault_step, Strike, strike_view}
use Rattle.world_defs.proofs.Views.{Change, LinksChange, view}
use Rattle.world_laws.proofs.Along.{Along, row-along, steps-along}
use Rattle.run_defs.specs.Outcome.{revocations}
use Rattle.judge_laws.specs.Commands.{IsNoPull, HasNoPull}

-- a fault that is no pull leaves the cables
fault-still : (s : LinkState) (c : ℕ) (f : Fault) → IsNoPull f → (stepped s (fault_step c f)).cables ≡ s.cables
fault-still s c LoseFault safe = stepped-cables s (LoseLinks c) refl
fault-still s c RepeatFault safe = stepped-cables s (RepeatLinks c) refl
fault-still s c HoldFault safe = stepped-cables s (HoldLinks c) refl
fault-still s c (FlipFault bit pattern) safe = stepped-cables s (FlipLinks c bit pattern) refl
fault-still s c (PullFault at) safe = absurd safe

-- the plan
without-all : (number : ℕ) (fs : List (ℕ × Fault)) → AllByRecursion (λ f. IsNoPull f.1) fs → AllByRecursion (λ f. IsNoPull f.1) (without_fault number fs)
without-all number [] all = tt
without-all number (f ∷ fs) all = by (nat_eq number f.0) (without-all number fs all.1)
  where
    by : (b : Bool) → AllByRecursion (λ f. IsNoPull f.1) (without_fault number fs) → AllByRecursion (λ f. IsNoPull f.1) (if b then fs else f ∷ without_fault number fs)
    by true rest = all.1
    by false rest = (all.0, rest)

with-all : (number : ℕ) (fault : Fault) (fs : List (ℕ × Fault)) → IsNoPull fault → AllByRecursion (λ f. IsNoPull f.1) fs → AllByRecursion (λ f. IsNoPull f.1) (with_fault number fault fs)
with-all number fault [] safe all = (safe, tt)
with-all number fault (f ∷ fs) safe all = by (nat_cmp number f.0) (with-all number fault fs safe all.1)
  where
    by : (o : Ordering) → AllByRecursion (λ f. IsNoPull f.1) (with_fault number fault fs) → AllByRecursion (λ f. IsNoPull f.1) (match_ordering o ((number, fault) ∷ f ∷ fs) ((f.0, fault) ∷ fs) (f ∷ with_fault number fault fs))
    by Less rest = (safe, all)
    by Equal rest = (safe, all.1)
    by Greater rest = (all.0, rest)

planned_one : (number : ℕ) (fs : List (ℕ × Fault)) → AllByRecursion (λ f. IsNoPull f.1) fs → IfSome (lookup (nat_eq number) fs) IsNoPull
planned_one number [] all = tt
planned_one number (f ∷ fs) all = by (nat_eq number f.0) (planned_one number fs all.1)
  where
    by : (b : Bool) → IfSome (lookup (nat_eq number) fs) IsNoPull → IfSome (if b then Some f.1 else lookup (nat_eq number) fs) IsNoPull
    by true rest = all.0
    by false rest = rest

found-no : (o : Option Fault) (f : Fault) → o ≡ Some f → IfSome o IsNoPull → IsNoPull f
found-no None f e all = cc
found-no (Some g) f e all = let one : g ≡ f = cc in subst IsNoPull one all

-- What is kept from a world to another where no pull is planned: no pull is, and the cables.
pub record Still (w v : WorldState) : Type 0 where
  pub plan : HasNoPull v
  pub cables : v.links.cables ≡ w.links.cables

abbrev pub StaysStill : WorldState → WorldState → Type 0
StaysStill w v = HasNoPull w → Still w v

strike-still : {w v : WorldState} {c : ℕ} → Strike w c v → HasNoPull w → Still w v
strike-still (Strike.spares e) all = record { plan = all; cables = refl }
strike-still {w = w} (Strike.misses f e k) all = record { plan = without-all w.injected w.plan all; cables = refl }
strike-still {w = w} {c = c} (Strike.strikes f e k) all =
    record { plan = without-all w.injected w.plan all; cables = fault-still w.links c f (found-no (lookup (nat_eq w.injected) w.plan) f e (planned_one w.injected w.plan all)) }

sent-plan : (w : WorldState) (h c : ℕ) (out : Outgoing) → HasNoPull w → HasNoPull (sent_out w h c out)
unfolding sent_out
sent-plan w h c out all = all

injection-still : (w : WorldState) (h c : ℕ) (out : Outgoing) → HasNoPull w → Still w (planned_strikes (sent_out w h c out) c)
injection-still w h c out all =
    let s = strike-still (strike_view (sent_out w h c out) c) (sent-plan w h c out all) in
    record { plan = s.plan; cables = s.cables ∙ sent-cables w h c out }

-- no event plans a pull
change-plan : {w : WorldState} {e : Event} {r : Effect × WorldState} → Change w e r → HasNoPull w → HasNoPull r.1
change-plan Change.idle all = all
change-plan (Change.blocked packet next d e) all = all
change-plan (Change.links k) all = all
change-plan (Change.drops packet why d e f) all = all
change-plan (Change.arrives packet h d e f g) all = all
change-plan (Change.host k) all = all
change-plan {w = w} (Change.injects {h = h} c out d e f g o) all = (injection-still w h c out all).plan
change-plan (Change.calls k) all = all

pub event-plan : (w : WorldState) (e : Event) → HasNoPull w → HasNoPull (step w e).1
event-plan w e all = change-plan (view w e) all

-- an event that neither pulls nor plugs
abbrev pub pulls_or_plugs : Event → Bool
pulls_or_plugs (PullEvent at) = true
pulls_or_plugs (PlugEvent a b) = true
pulls_or_plugs _ = false

links-still : {w : WorldState} {e : Event} {x : Effect} {s : Step} → pulls_or_plugs e ≡ false → LinksChange w e x s → (stepped w.links s).cables ≡ w.links.cables
links-still {w = w} {s = s} not (LinksChange.moves packet next d e f g) = stepped-cables w.links s refl
links-still {w = w} {s = s} not (LinksChange.loses e) = stepped-cables w.links s refl
links-still {w = w} {s = s} not (LinksChange.resets e) = stepped-cables w.links s refl
links-still {w = w} {s = s} not (LinksChange.repeats e) = stepped-cables w.links s refl
links-still {w = w} {s = s} not (LinksChange.holds e) = stepped-cables w.links s refl
links-still {w = w} {s = s} not (LinksChange.flips e) = stepped-cables w.links s refl
links-still {w = w} {s = s} not (LinksChange.replays e) = stepped-cables w.links s refl
links-still not (LinksChange.pulls e) = absurd (true≢false not)
links-still not (LinksChange.plugs e) = absurd (true≢false not)

change-still : {w : WorldState} {e : Event} {r : Effect × WorldState} → pulls_or_plugs e ≡ false → Change w e r → StaysStill w r.1
change-still not Change.idle all = record { plan = all; cables = refl }
change-still not (Change.blocked packet next d e) all = record { plan = all; cables = refl }
change-still not (Change.links k) all = record { plan = all; cables = links-still not k }
change-still {w = w} not (Change.drops {c = c} packet why d e f) all = record { plan = all; cables = stepped-cables w.links (AdvanceLinks c) refl }
change-still {w = w} not (Change.arrives {c = c} packet h d e f g) all = record { plan = all; cables = stepped-cables w.links (AdvanceLinks c) refl }
change-still not (Change.host k) all = record { plan = all; cables = refl }
change-still {w = w} not (Change.injects {h = h} c out d e f g o) all = injection-still w h c out all
change-still not (Change.calls k) all = record { plan = all; cables = refl }

pub event-still : (w : WorldState) (e : Event) → pulls_or_plugs e ≡ false → StaysStill w (step w e).1
event-still w e not all = change-still not (view w e) all

pub still-along : Along StaysStill (λ e. pulls_or_plugs e ≡ false)
still-along = record {
  same = λ w all. record { plan = all; cables = refl };
  both = λ u v w a b all. let one = a all in let two = b one.plan in record { plan = two.plan; cables = two.cables ∙ one.cables };
  event = λ w e not all. event-still w e not all;
}

abbrev IsQuiet : Event → Type 0
IsQuiet e = pulls_or_plugs e ≡ false

-- settles, the asks of a map and installations
pub settle-still : (w : WorldState) → StaysStill w (settle w).world
settle-still w = row-along still-along (settle-row (record { clears = record { advance = λ c. refl; reset = λ c. refl }; inject = λ h. refl; replay = λ s. refl; expire = λ h peer. refl; give_up = λ h. refl }) w)

pub asks-still : (made mapper tries : ℕ) (walks : List (List ℤ)) (w : WorldState) → StaysStill w (asks made mapper tries walks w).world
asks-still made mapper tries walks w = row-along still-along (asks-row (record { advance = λ c. refl; inject = λ h. refl; give_up = λ h. refl }) (λ h walk looped. refl) made mapper tries walks w)

pub install-still : (a : Adoption) (hosts : List ℕ) (tries : ℕ) (w : WorldState) → StaysStill w (install a hosts tries w).world
install-still a hosts tries w = row-along still-along (install-row (record { advance = λ c. refl; inject = λ h. refl; give_up = λ h. refl }) (λ dst part. refl) a hosts tries w)

-- hosts that give up their epoch
pub revoked-still : (w : WorldState) → StaysStill w (steps w (revocations w)).1
revoked-still w = steps-along StaysStill IsQuiet still-along w (revocations w) (all-map IsQuiet Revoke (λ h. refl) (addresses w))

-- a plan of another fault
pub plan-still : (w : WorldState) (ahead : ℕ) (f : Fault) → IsNoPull f → StaysStill w (planned w ahead f).1
plan-still w ahead f safe all = record { plan = with-all (w.injected + ahead) f w.plan safe all; cables = refl }
