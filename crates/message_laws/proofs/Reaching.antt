-- Events in a row are reached, as those of a settle.
use Rattle.std.proofs.Common.{List, [], ◌∷◌, sym, subst}
use Rattle.std.specs.List.{AllByRecursion}
use Rattle.net_defs.specs.Network.{Network}
use Rattle.net_defs.proofs.Distinct.{all-weaker}
use Rattle.world_defs.specs.declared.event.Event.{Event}
use Rattle.world_defs.specs.declared.event.Event.TheVariants.{Flip}
use Rattle.world_defs.specs.EightBits.{IsByteEvent}
use Rattle.world_defs.specs.World.{WorldState}
use Rattle.world_defs.specs.Step.{step, after_all}
use Rattle.world_defs.specs.Logs.{settle}
use Rattle.world_laws.specs.Reached.{IsOfSettle}
use Rattle.world_laws.proofs.Reached.{settle-is_row}
use Rattle.world_defs.specs.Acts.{Happens, IsReached}
use Rattle.world_defs.proofs.Reaching.{reached-next}
use Rattle.message_laws.specs.Got.{SettleGetsAll}
use Rattle.message_laws.proofs.Taken.{none-got}

pub reached-events : (n : Network) (w : WorldState) (es : List Event) → AllByRecursion IsByteEvent es → IsReached n w → IsReached n (after_all w es)
reached-events n w [] low is = is
reached-events n w (e ∷ es) low is = reached-events n (step w e).1 es low.1 (reached-next n w (Happens e) is low.0)

-- no event of a settle is a flip
settle-byte : (e : Event) → IsOfSettle e → IsByteEvent e
settle-byte (Flip c bit pattern) of = absurd of
settle-byte _ of = tt

pub reached-settle : (n : Network) (w : WorldState) → IsReached n w → IsReached n (settle w).world
reached-settle n w is =
    let by = settle-is_row w in
    subst (IsReached n) (sym by.there) (reached-events n w (settle w).events (all-weaker IsOfSettle IsByteEvent (settle w).events settle-byte by.kinds) is)

pub settle-got : SettleGetsAll
settle-got n w is e = none-got n (settle w).world (reached-settle n w is) e
