-- What holds from a world to the next at each event of a kind holds along drains, clears and settles of such events.
use Rattle.std.proofs.Common.{ℕ, List, [], ◌∷◌, sym, subst}
use Rattle.std.specs.List.{AllByRecursion}
use Rattle.world_defs.specs.declared.event.Event.{Event}
use Rattle.world_defs.specs.declared.event.Event.TheVariants.{Advance, Expire}
use Rattle.world_defs.specs.World.{WorldState}
use Rattle.world_defs.specs.Step.{step, steps, after_all}
use Rattle.world_defs.specs.Settle.{expiries}
use Rattle.world_defs.specs.Logs.{drain, clear, round_pass, round, settle}
use Rattle.world_defs.specs.Row.{IsRow}
use Rattle.world_defs.proofs.LogRows.{Clears, SettlesBy, drain-row, clear-row, expiries-row, round_pass-row, round-row, settle-row}

-- a relation from worlds to worlds that each event of a kind is of
pub record Along (R : WorldState → WorldState → Type 0) (Q : Event → Type 0) : Type 0 where
  pub same : (w : WorldState) → R w w
  pub both : (u v w : WorldState) → R u v → R v w → R u w
  pub event : (w : WorldState) (e : Event) → Q e → R w (step w e).1

pub steps-along : (R : WorldState → WorldState → Type 0) (Q : Event → Type 0) → Along R Q → (w : WorldState) (es : List Event) → AllByRecursion Q es → R w (steps w es).1
steps-along R Q g w [] all = g.same w
steps-along R Q g w (e ∷ es) all =
    let next : WorldState = (step w e).1 in
    g.both w next (steps next es).1 (g.event w e all.0) (steps-along R Q g next es all.1)

pub after_all-along : (R : WorldState → WorldState → Type 0) (Q : Event → Type 0) → Along R Q → (w : WorldState) (es : List Event) → AllByRecursion Q es → R w (after_all w es)
after_all-along R Q g w [] all = g.same w
after_all-along R Q g w (e ∷ es) all =
    let next : WorldState = (step w e).1 in
    g.both w next (after_all next es) (g.event w e all.0) (after_all-along R Q g next es all.1)

-- so it holds along a row of them
pub row-along : {R : WorldState → WorldState → Type 0} {Q : Event → Type 0} → Along R Q → {w v : WorldState} {es : List Event} → IsRow Q w es v → R w v
row-along {R = R} {Q = Q} g {w = w} {es = es} r = subst (R w) (sym r.there) (after_all-along R Q g w es r.kinds)

pub drain-along : (R : WorldState → WorldState → Type 0) (Q : Event → Type 0) → Along R Q → ((c : ℕ) → Q (Advance c)) → (w : WorldState) → R w (drain w).world
drain-along R Q g k w = row-along g (drain-row k w)

pub clear-along : (R : WorldState → WorldState → Type 0) (Q : Event → Type 0) → Along R Q → Clears Q → (w : WorldState) → R w (clear w).world
clear-along R Q g k w = row-along g (clear-row k w)

pub expiries-along : (R : WorldState → WorldState → Type 0) (Q : Event → Type 0) → Along R Q → ((h peer : ℕ) → Q (Expire h peer)) → (w : WorldState) → R w (after_all w (expiries w))
expiries-along R Q g k w = row-along g (expiries-row k w)

pub round_pass-along : (R : WorldState → WorldState → Type 0) (Q : Event → Type 0) → Along R Q → SettlesBy Q → (w : WorldState) → R w (round_pass w).world
round_pass-along R Q g k w = row-along g (round_pass-row k w)

pub round-along : (R : WorldState → WorldState → Type 0) (Q : Event → Type 0) → Along R Q → SettlesBy Q → (w : WorldState) → R w (round w).world
round-along R Q g k w = row-along g (round-row k w)

pub settle-along : (R : WorldState → WorldState → Type 0) (Q : Event → Type 0) → Along R Q → SettlesBy Q → (w : WorldState) → R w (settle w).world
settle-along R Q g k w = row-along g (settle-row k w)
