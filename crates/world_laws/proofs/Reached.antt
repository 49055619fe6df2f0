-- A drain, a clear and a settle are events in a row, and keep what those keep.
use Rattle.std.proofs.Common.{◌≡◌, false, List, refl, sym, ◌∙◌, subst}
use Rattle.net_defs.proofs.Distinct.{all-weaker}
use Rattle.world_defs.specs.Later.{OnlyPulled}
use Rattle.world_defs.proofs.CablesLater.{pulled-on}
use Rattle.world_defs.specs.declared.event.Event.{Event}
use Rattle.world_defs.specs.declared.event.Event.TheVariants.{Advance, Reset, Inject, Replay, Expire, GiveUp}
use Rattle.world_defs.specs.Cables.{is_plug, is_of_cables}
use Rattle.world_defs.specs.World.{WorldState}
use Rattle.world_laws.specs.Shape.{IsWorld, HasSenders}
use Rattle.world_defs.specs.Row.{IsRow}
use Rattle.world_laws.specs.Reached.{IsOfDrain, IsOfClear, IsOfSettle, DrainIsRow, ClearIsRow, SettleIsRow, IsKept, DrainKeepsCables, ClearKeepsCables, DrainKeeps, ClearKeeps, SettleKeeps}
use Rattle.world_laws.proofs.Shapes.{after_all-kept}
use Rattle.world_defs.proofs.Kept.{step-pulled, step-cables}
use Rattle.world_laws.proofs.Along.{Along, row-along}
use Rattle.world_defs.proofs.LogRows.{Clears, SettlesBy, drain-row, clear-row, settle-row}

clears-of : Clears IsOfClear
clears-of = record { advance = λ c. tt; reset = λ c. tt }

pub settles-of : SettlesBy IsOfSettle
settles-of = record { clears = record { advance = λ c. tt; reset = λ c. tt }; inject = λ h. tt; replay = λ s. tt; expire = λ h p. tt; give_up = λ h. tt }

pub drain-is_row : DrainIsRow
drain-is_row = drain-row (λ c. tt)

pub clear-is_row : ClearIsRow
clear-is_row = clear-row clears-of

pub settle-is_row : SettleIsRow
settle-is_row = settle-row settles-of

-- events that aren't plugs pull at most, and those that may not change the cables leave them
along-pulled : Along (λ w v. OnlyPulled w.links.cables v.links.cables) (λ e. is_plug e ≡ false)
along-pulled = record { same = λ w. OnlyPulled.still; both = λ u v w k l. pulled-on k l; event = step-pulled }

along-cables : Along (λ w v. v.links.cables ≡ w.links.cables) (λ e. is_of_cables e ≡ false)
along-cables = record { same = λ w. refl; both = λ u v w k l. l ∙ k; event = step-cables }

pub row-pulled : {kind : Event → Type 0} {w v : WorldState} {es : List Event} → ((e : Event) → kind e → is_plug e ≡ false) → IsRow kind w es v → OnlyPulled w.links.cables v.links.cables
row-pulled {kind = kind} {es = es} only r = row-along along-pulled (record { kinds = all-weaker kind (λ e. is_plug e ≡ false) es only r.kinds; there = r.there })

pub row-cables : {kind : Event → Type 0} {w v : WorldState} {es : List Event} → ((e : Event) → kind e → is_of_cables e ≡ false) → IsRow kind w es v → v.links.cables ≡ w.links.cables
row-cables {kind = kind} {es = es} only r = row-along along-cables (record { kinds = all-weaker kind (λ e. is_of_cables e ≡ false) es only r.kinds; there = r.there })

clears-only : (e : Event) → IsOfClear e → is_of_cables e ≡ false
clears-only (Advance c) q = refl
clears-only (Reset c) q = refl
clears-only _ q = absurd q

clears-no_plug : (e : Event) → IsOfClear e → is_plug e ≡ false
clears-no_plug (Advance c) q = refl
clears-no_plug (Reset c) q = refl
clears-no_plug _ q = absurd q

drains-only : (e : Event) → IsOfDrain e → is_of_cables e ≡ false
drains-only (Advance c) q = refl
drains-only _ q = absurd q

drains-no_plug : (e : Event) → IsOfDrain e → is_plug e ≡ false
drains-no_plug (Advance c) q = refl
drains-no_plug _ q = absurd q

pub settles-no_plug : (e : Event) → IsOfSettle e → is_plug e ≡ false
settles-no_plug (Advance c) q = refl
settles-no_plug (Reset c) q = refl
settles-no_plug (Inject h) q = refl
settles-no_plug (Replay serial) q = refl
settles-no_plug (Expire h peer) q = refl
settles-no_plug (GiveUp h) q = refl
settles-no_plug _ q = absurd q

pub drain-cables : DrainKeepsCables
drain-cables w = row-cables drains-only (drain-is_row w)

pub clear-cables : ClearKeepsCables
clear-cables w = row-cables clears-only (clear-is_row w)

-- so they keep what all events keep
pub row-kept : {kind : Event → Type 0} {w v : WorldState} {es : List Event} → ((e : Event) → kind e → is_plug e ≡ false) → IsRow kind w es v → IsKept w v
row-kept {w = w} {es = es} only r =
    let k = after_all-kept w es in
    record { pulled = row-pulled only r; world = λ is. subst IsWorld (sym r.there) (k.world is); senders = λ is. subst HasSenders (sym r.there) (k.senders is) }

pub drain-kept : DrainKeeps
drain-kept w = row-kept drains-no_plug (drain-is_row w)

pub clear-kept : ClearKeeps
clear-kept w = row-kept clears-no_plug (clear-is_row w)

pub settle-kept : SettleKeeps
settle-kept w = row-kept settles-no_plug (settle-is_row w)
