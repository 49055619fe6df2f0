-- What events in a row do to the cables, all of them or a prefix: those of drains, clears and give-ups leave them, and
-- those of settles pull at most.
use Rattle.std.proofs.Common.{◌≡◌, ◌+◌, false, List, [], ◌∷◌, ◌++◌, map, refl, sym, ◌∙◌, ap, subst, arith}
use Rattle.std.specs.Prelude.{Some, Result, Ok, Err, OnOk, OnErr, length}
use Rattle.std.specs.List.{AllByRecursion}
use Rattle.world_defs.specs.History.{CableHistory}
use Rattle.world_defs.specs.Crossed.{life_channels}
use Rattle.world_defs.specs.Later.{OnlyPulled}
use Rattle.world_defs.proofs.CablesKept.{length-set-wire}
use Rattle.world_defs.proofs.CablesLater.{PullAt, pull_at-view}
use Rattle.world_defs.specs.declared.event.Event.{Event}
use Rattle.world_defs.specs.declared.event.Event.TheVariants.{GiveUp}
use Rattle.world_defs.specs.Cables.{is_plug, is_of_cables}
use Rattle.world_defs.specs.World.{WorldState, addresses}
use Rattle.world_defs.specs.Asking.{all_given_up}
use Rattle.world_defs.specs.Log.{Log}
use Rattle.world_defs.specs.Logs as log
use Rattle.world_defs.specs.Row.{IsRow, IsPartWay}
use Rattle.world_defs.proofs.LogRows.{drain-row, clear-row, settle-row, given_up-row}
use Rattle.world_laws.proofs.Reached.{row-cables, row-pulled}
use Rattle.fab_world.specs.Held.{IsMoment, IsLater}
use Rattle.fab_world.proofs.Moments.{later-moment}

-- an event leaves the cables, or pulls at most
abbrev pub LeavesCables : Event → Type 0
LeavesCables e = is_of_cables e ≡ false

abbrev pub PlugsNone : Event → Type 0
PlugsNone e = is_plug e ≡ false

front-all : (Q : Event → Type 0) (xs ys : List Event) → AllByRecursion Q (xs ++ ys) → AllByRecursion Q xs
front-all Q [] ys all = tt
front-all Q (x ∷ xs) ys all = (all.0, front-all Q xs ys all.1)

-- part of the way along a row of events is a row
way-row : {Q : Event → Type 0} {w u v : WorldState} {es : List Event} → IsRow Q w es u → (p : IsPartWay w es v) → IsRow Q w p.done v
way-row {Q = Q} r p = record { kinds = front-all Q p.done p.front.rest (subst (AllByRecursion Q) p.front.both r.kinds); there = p.there }

pub way-cables : {w u v : WorldState} {es : List Event} → IsRow LeavesCables w es u → IsPartWay w es v → v.links.cables ≡ w.links.cables
way-cables r p = row-cables (λ e k. k) (way-row r p)

pub way-pulled : {w u v : WorldState} {es : List Event} → IsRow PlugsNone w es u → IsPartWay w es v → OnlyPulled w.links.cables v.links.cables
way-pulled r p = row-pulled (λ e k. k) (way-row r p)

-- what came to its end
pub done-cables : {A : Type 0} (l : Log A) (w v : WorldState) → IsRow LeavesCables w l.events l.world → v ≡ l.world → v.links.cables ≡ w.links.cables
done-cables l w v row after = ap (λ (u : WorldState). u.links.cables) after ∙ row-cables (λ e k. k) row

pub done-pulled : {A : Type 0} (l : Log A) (w v : WorldState) → IsRow PlugsNone w l.events l.world → v ≡ l.world → OnlyPulled w.links.cables v.links.cables
done-pulled l w v row after = subst (λ (u : WorldState). OnlyPulled w.links.cables u.links.cables) (sym after) (row-pulled (λ e k. k) row)

-- and what came there, or was cut off
pub log-cables : {A B E : Type 0} (l : Log A) (w v : WorldState) (r : Result B E) → IsRow LeavesCables w l.events l.world → OnOk r (v ≡ l.world) → OnErr r (IsPartWay w l.events v)
    → v.links.cables ≡ w.links.cables
log-cables l w v (Ok b) row after err = done-cables l w v row after
log-cables l w v (Err e) row after err = way-cables row err

pub log-pulled : {A B E : Type 0} (l : Log A) (w v : WorldState) (r : Result B E) → IsRow PlugsNone w l.events l.world → OnOk r (v ≡ l.world) → OnErr r (IsPartWay w l.events v)
    → OnlyPulled w.links.cables v.links.cables
log-pulled l w v (Ok b) row after err = done-pulled l w v row after
log-pulled l w v (Err e) row after err = way-pulled row err

-- the rows
pub drain-leaves : (w : WorldState) → IsRow LeavesCables w (log.drain w).events (log.drain w).world
drain-leaves w = drain-row (λ c. refl) w

pub clear-leaves : (w : WorldState) → IsRow LeavesCables w (log.clear w).events (log.clear w).world
clear-leaves w = clear-row (record { advance = λ c. refl; reset = λ c. refl }) w

pub given_up-leaves : (w : WorldState) → IsRow LeavesCables w (map GiveUp (addresses w)) (all_given_up w)
given_up-leaves w = given_up-row (λ h. refl) w

pub settle-plugs_none : (w : WorldState) → IsRow PlugsNone w (log.settle w).events (log.settle w).world
settle-plugs_none w = settle-row (record { clears = record { advance = λ c. refl; reset = λ c. refl }; inject = λ h. refl; replay = λ s. refl; expire = λ h p. refl; give_up = λ h. refl }) w

-- cables that stay
pub same-pulled : {h g : CableHistory} → g ≡ h → OnlyPulled h g
same-pulled {h = h} e = subst (OnlyPulled h) (sym e) OnlyPulled.still

-- a pull keeps the number of channels
pull-channels : {h g : CableHistory} → PullAt h g → life_channels g ≡ life_channels h
pull-channels PullAt.none = refl
pull-channels {h = h} (PullAt.takes k w there here) =
    let same = length-set-wire h.wires k (record w { pulled = Some (h.changes + 1) }) in
    omega (arith, same)

pub pulled-channels : {h g : CableHistory} → OnlyPulled h g → life_channels g ≡ life_channels h
pulled-channels OnlyPulled.still = refl
pulled-channels {h = h} (OnlyPulled.pulls e rest) = pulled-channels rest ∙ pull-channels (pull_at-view h e)

-- and worlds have a place for each channel
pub channels-stay : (w v : WorldState) → IsMoment w → IsLater w v → life_channels v.links.cables ≡ life_channels w.links.cables → length v.links.channels ≡ length w.links.channels
channels-stay w v m l same = (later-moment w v m l).world.links.slots ∙ same ∙ sym m.world.links.slots
