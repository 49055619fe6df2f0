-- The kept lists only grow.
use Rattle.std.proofs.Common.{◌≡◌, ◌≤◌, ℕ, zero, suc, Option, Some, None, refl}
use Rattle.std.specs.Prelude.{slice_get}
use Rattle.gm_defs.specs.Port.{next_event}
use Rattle.duo_defs.specs.declared.packet.Packet.{Packet}
use Rattle.duo_defs.specs.declared.packet.Packet.TheVariants.{Hello, Data}
use Rattle.duo_defs.specs.declared.event.DuoEvent.{DuoEvent}
use Rattle.duo_defs.specs.declared.event.DuoEvent.TheVariants.{Send, Provide, Emit, Deliver, Expire, Poll, Restart}
use Rattle.duo_defs.specs.Duo.{EndState, DuoState, end_of, end_at, other, with_end}
use Rattle.duo_defs.specs.Emitting.{emission, put}
use Rattle.duo_defs.specs.Hearing.{heard_hello, heard_data}
use Rattle.duo_defs.specs.Step.{sending, providing, expiring, polling, restarting, at_end, arrive, step, IsFair}
use Rattle.duo_defs.specs.Theorem.{ListsOnlyGrow}
use Rattle.duo_laws.proofs.Lists.{all-at}
use Rattle.duo_laws.proofs.Ends.{IsHonest, IsGood, IsBody, Later, later-same}
use Rattle.duo_laws.proofs.Order.{sides, reached-good}
use Rattle.duo_laws.proofs.Events.{sending-keeps, providing-keeps, polling-keeps, expiring-keeps, restarting-keeps, heard_hello-keeps, heard_data-keeps, IsEmitted, emission-keeps}

-- both ends later
pub record BothLater (d e : DuoState) : Type 0 where
  pub each : (x : ℕ) → Later (end_at d x) (end_at e x)

with-later : (d : DuoState) (x : ℕ) (e : EndState) → Later (end_at d x) e → BothLater d (with_end d x e)
with-later d zero e l = record { each = each }
  where
    each : (x : ℕ) → Later (end_at d x) (end_of e d.second x)
    each zero = l
    each (suc k) = later-same d.second
with-later d (suc n) e l = record { each = each }
  where
    each : (x : ℕ) → Later (end_at d x) (end_of d.first e x)
    each zero = later-same d.first
    each (suc k) = l

all-same : (d : DuoState) → BothLater d d
all-same d = record { each = λ x. later-same (end_at d x) }

put-later : (d : DuoState) (x : ℕ) (o : Option (Packet × EndState)) → IsEmitted (end_at d x) (end_at d (other x)) x o → BothLater d (put d x o).1
put-later d x None k = all-same d
put-later d zero (Some o) k = let w = with-later d zero o.1 k.0.later in record { each = w.each }
put-later d (suc n) (Some o) k = let w = with-later d (suc n) o.1 k.0.later in record { each = w.each }

arrive-later : (d : DuoState) (o : Option Packet) → IsGood d → ((p : Packet) → o ≡ Some p → IsHonest (end_of d.first d.second) p) → BothLater d (arrive d o).1
arrive-later d None g h = all-same d
arrive-later d (Some (Hello src inc knows)) g h = by src (h (Hello src inc knows) refl)
  where
    by : (x : ℕ) → inc ≤ (end_of d.first d.second x).present.inc → BothLater d (at_end d (other x) (heard_hello inc knows (end_at d (other x)))).1
    by zero low = with-later d 1 (heard_hello inc knows d.second).1 (heard_hello-keeps d.second d.first inc knows (sides d 1 g) low).later
    by (suc k) low = with-later d 0 (heard_hello inc knows d.first).1 (heard_hello-keeps d.first d.second inc knows (sides d 0 g) low).later
arrive-later d (Some (Data src i j body)) g h = by src src (h (Data src i j body) refl)
  where
    by : (x y : ℕ) → IsBody (end_of d.first d.second x) y i j body → BothLater d (at_end d (other x) (heard_data i j body (end_at d (other x)))).1
    by zero y says = with-later d 1 (heard_data i j body d.second).1 (heard_data-keeps d.second d.first y i j body (sides d 1 g) says).later
    by (suc k) y says = with-later d 0 (heard_data i j body d.first).1 (heard_data-keeps d.first d.second y i j body (sides d 0 g) says).later

pub step-later : (d : DuoState) (e : DuoEvent) → IsFair e → IsGood d → BothLater d (step d e).1
step-later d (Send x len seed) fair g = with-later d x (sending (end_at d x) len seed (end_at d x).client.sends).1 (sending-keeps (end_at d x) (end_at d (other x)) len seed (end_at d x).client.sends (sides d x g)).later
step-later d (Provide x size) fair g = with-later d x (providing (end_at d x) size (end_at d x).client.recvs).1 (providing-keeps (end_at d x) (end_at d (other x)) size (end_at d x).client.recvs (sides d x g)).later
step-later d (Emit x) fair g = put-later d x (emission x (end_at d x)) (emission-keeps (end_at d x) (end_at d (other x)) x (sides d x g) fair)
step-later d (Deliver k) fair g = arrive-later d (slice_get d.medium k) g (λ p e. all-at (IsHonest (end_of d.first d.second)) d.medium k p g.medium e)
step-later d (Expire x) fair g = with-later d x (expiring (end_at d x)).1 (expiring-keeps (end_at d x) (end_at d (other x)) (sides d x g)).later
step-later d (Poll x) fair g = with-later d x (polling (end_at d x) (next_event (end_at d x).port)).1 (polling-keeps (end_at d x) (end_at d (other x)) (next_event (end_at d x).port) (sides d x g)).later
step-later d (Restart x) fair g = with-later d x (restarting (end_at d x)).1 (restarting-keeps (end_at d x) (end_at d (other x)) (sides d x g)).later

pub only-grow : ListsOnlyGrow
only-grow d e r fair x i j known own =
    let l = step-later d e fair (reached-good d r) in
    let s = (l.each x).grow.each i j known in
    let g = (l.each (other x)).grow.each j i own in
    (record { rest = s.sent_more; both = s.sent }, record { rest = g.got_more; both = g.got })
