-- Replays under way: those so far, and those of the serials from a number on, are all of them.
use Rattle.std.proofs.Common.{◌≡◌, ◌<◌, ◌≤◌, ℕ, ◌+◌, ◌^◌, Bool, false, ◌||◌, List, [], ◌∷◌, nat_lt, Some, None, refl, sym, ◌∙◌, ap, subst, arith}
use Rattle.world_defs.specs.Fault.{next_limbo}
use Rattle.world_defs.specs.Shape.{IsLinks}
use Rattle.world_defs.specs.declared.event.Event.TheVariants.{Replay}
use Rattle.world_defs.specs.World.{WorldState}
use Rattle.world_defs.specs.Step.{step}
use Rattle.world_defs.specs.Drain.{changed}
use Rattle.world_defs.specs.Settle.{serials}
use Rattle.world_defs.specs.Log.{Log}
use Rattle.world_defs.specs.Logs as log
use Rattle.world_defs.specs.Row.{IsPartWay}
use Rattle.world_defs.proofs.LogRows.{cleared-row, byte_clears}
use Rattle.log_laws.proofs.Settles.{replays-within}
use Rattle.log_laws.proofs.UnderWay.{UnderWay, behind, under_way-first, under_way-on, under_way-cut}
use Rattle.fab_world.specs.Held.{IsLater, IsMoment}
use Rattle.fab_world.proofs.Moments.{later-moment}
use Rattle.world_drain.specs.Settling.{capped}
use Rattle.world_drain.proofs.Later.{under-later}
use Rattle.world_drain.proofs.Limbo.{from_on, on-zero, next-on, next-none, next-below, behind-replay}
use Rattle.world_drain.proofs.Telling.{moved-sum, one-moved, one-change, capped-few, capped-sum, moved-none, moved-assoc}

-- a replay and a clear, and what is reported of them
abbrev pub one_replay : WorldState → ℕ → Log log.Moved
one_replay w serial = log.cleared (Replay serial ∷ []) w

pub replay-moved : (w : WorldState) (serial : ℕ) (b : Bool) → b ≡ changed (step w (Replay serial)).0 → b ≡ nat_lt 0 (one_replay w serial).value.moves
replay-moved w serial b is = is ∙ (sym (one-moved (changed (step w (Replay serial)).0)) ∙ sym (ap (nat_lt 0) (one-change (step w (Replay serial)).0)))

pub replay-resets : (w u : WorldState) (serial n : ℕ) → u ≡ (step w (Replay serial)).1 → n ≡ (log.clear u).value → n ≤ 8192 → n ≡ capped (one_replay w serial).value.resets
replay-resets w u serial n is counted few = capped-few n few ∙ ap capped (counted ∙ ap (λ x. (log.clear x).value) is)

pub replay-world : (w u v : WorldState) (serial : ℕ) → u ≡ (step w (Replay serial)).1 → v ≡ (log.clear u).world → v ≡ (one_replay w serial).world
replay-world w u v serial is led = led ∙ ap (λ x. (log.clear x).world) is

-- the replays of the serials from a number on
abbrev pub replays_from : WorldState → ℕ → Log log.Moved
replays_from w from = log.replays (from_on from w.links.limbo) w

abbrev pub all_replays : WorldState → Log log.Moved
all_replays w = log.replays (serials w) w

-- Replays that came to so much led here, and those of the serials from a number on are left.
pub record Replaying (first now : WorldState) (from : ℕ) (moved : Bool) (resets : ℕ) : Type 0 where
  pub before : log.Moved
  pub any : moved ≡ nat_lt 0 before.moves
  pub counted : resets ≡ capped before.resets
  pub under : UnderWay (log.moved_both before) (all_replays first) first now (replays_from now from)

pub replaying-none : (w : WorldState) → Replaying w w 0 false 0
replaying-none w = record {
  before = log.unmoved;
  any = refl;
  counted = omega arith;
  under = subst (λ ss. UnderWay (log.moved_both log.unmoved) (all_replays w) w w (log.replays ss w)) (sym (on-zero w))
      (under_way-first (log.moved_both log.unmoved) moved-none w (all_replays w));
}

pub replaying-on : (first now next : WorldState) (from serial : ℕ) (moved one both : Bool) (resets more all : ℕ) → Replaying first now from moved resets
    → IsMoment first → next_limbo now.links from ≡ Some serial
    → one ≡ nat_lt 0 (one_replay now serial).value.moves → more ≡ capped (one_replay now serial).value.resets → next ≡ (one_replay now serial).world
    → both ≡ (moved || one) → all ≡ capped (resets + more) → Replaying first next (serial + 1) both all
replaying-on first now next from serial moved one both resets more all r m found one_is more_is is both_is all_is =
    let links : IsLinks now.links = (later-moment first now m (under-later r.under)).world.links in
    let here : Log log.Moved = one_replay now serial in
    let left : List ℕ = from_on (serial + 1) now.links.limbo in
    let head : replays_from now from ≡ log.replays (serial ∷ left) now = ap (λ ss. log.replays ss now) (next-on now.links from serial links found).1 in
    let same : from_on (serial + 1) next.links.limbo ≡ left = ap (λ w. from_on (serial + 1) w.links.limbo) is ∙ behind-replay now serial in
    let tail : log.replays left here.world ≡ replays_from next (serial + 1) = ap (log.replays left) (sym is) ∙ ap (λ ss. log.replays ss next) (sym same) in
    record {
      before = log.moved_both r.before here.value;
      any = moved-sum r.before.moves here.value.moves moved one both r.any one_is both_is;
      counted = capped-sum r.before.resets here.value.resets resets more all r.counted more_is all_is;
      under = under_way-on (log.moved_both here.value) (log.moved_both (log.moved_both r.before here.value)) next here.events (replays_from next (serial + 1)) r.under
          (is ∙ (cleared-row byte_clears (Replay serial ∷ []) (tt, tt) now).there) (head ∙ ap (behind (log.moved_both here.value) here.events) tail) (λ c. moved-assoc r.before here.value c);
    }

-- memory ran out within a replay and the clear after it
pub replaying-cut : (first now v : WorldState) (from serial : ℕ) (moved : Bool) (resets : ℕ) → Replaying first now from moved resets
    → IsMoment first → next_limbo now.links from ≡ Some serial → IsPartWay now (one_replay now serial).events v → IsPartWay first (all_replays first).events v
replaying-cut first now v from serial moved resets r m found p =
    let links : IsLinks now.links = (later-moment first now m (under-later r.under)).world.links in
    under_way-cut v r.under
    (subst (λ ss. IsPartWay now (log.replays ss now).events v) (sym (next-on now.links from serial links found).1) (replays-within serial (from_on (serial + 1) now.links.limbo) now v p))

-- at the end no serial is left
pub replaying-all : (first now : WorldState) (from : ℕ) (moved : Bool) (resets : ℕ) → Replaying first now from moved resets → next_limbo now.links from ≡ None
    → (moved ≡ nat_lt 0 (all_replays first).value.moves) × (resets ≡ capped (all_replays first).value.resets) × (now ≡ (all_replays first).world)
replaying-all first now from moved resets r none =
    let whole : all_replays first ≡ behind (log.moved_both r.before) r.under.done (log.replays [] now) =
    r.under.all ∙ ap (λ ss. behind (log.moved_both r.before) r.under.done (log.replays ss now)) (next-none now.links from none) in
    let a : (all_replays first).value.moves ≡ r.before.moves + 0 = ap (λ l. l.value.moves) whole in
    let b : (all_replays first).value.resets ≡ r.before.resets + 0 = ap (λ l. l.value.resets) whole in
    let moves : r.before.moves ≡ (all_replays first).value.moves = omega (arith, a) in
    let cleared : r.before.resets ≡ (all_replays first).value.resets = omega (arith, b) in
    (r.any ∙ ap (nat_lt 0) moves, r.counted ∙ ap capped cleared, sym (ap (λ l. l.world) whole))

-- a serial in limbo has a next one
pub serial-few : (first now : WorldState) (from serial : ℕ) → IsMoment first → IsLater first now → next_limbo now.links from ≡ Some serial → serial + 1 < 2 ^ 64
serial-few first now from serial m l found =
    let links : IsLinks now.links = (later-moment first now m l).world.links in
    let below = next-below now.links from serial links found in
    let few = links.serials in
    omega (arith, below, few)

pub serial-above : (first now : WorldState) (from serial : ℕ) → IsMoment first → IsLater first now → next_limbo now.links from ≡ Some serial → from ≤ serial
serial-above first now from serial m l found = (next-on now.links from serial (later-moment first now m l).world.links found).0
