-- Every moment is good, so messages are in order.
use Rattle.std.proofs.Common.{◌≡◌, ◌<◌, ◌≤◌, ℕ, zero, suc, false, nat_eq, List, [], ◌∷◌, ◌++◌, Option, Some, None, refl, sym, ap, ◌∙◌, subst, arith}
use Rattle.std.specs.Prelude.{slice_get}
use Rattle.std.specs.List.{AllByRecursion}
use Rattle.std.proofs.lemmas.Bool.Decides.{nat_tests}
use Rattle.gm_defs.specs.Port.{next_event}
use Rattle.duo_defs.specs.declared.packet.Packet.{Packet}
use Rattle.duo_defs.specs.declared.packet.Packet.TheVariants.{Hello, Data}
use Rattle.duo_defs.specs.declared.event.DuoEvent.{DuoEvent}
use Rattle.duo_defs.specs.declared.event.DuoEvent.TheVariants.{Send, Provide, Emit, Deliver, Expire, Poll, Restart}
use Rattle.duo_defs.specs.declared.effect.DuoEffect.{DuoEffect}
use Rattle.duo_defs.specs.Duo.{Period, EndState, DuoState, new_duo, beginning, periods, period_in, end_of, end_at, other, with_end, new_period, sent_in, got_in, sent, got}
use Rattle.duo_defs.specs.Emitting.{emission, put}
use Rattle.duo_defs.specs.Hearing.{heard_hello, heard_data}
use Rattle.duo_defs.specs.Step.{sending, providing, expiring, polling, restarting, at_end, arrive, step, IsFair, after_all}
use Rattle.duo_defs.specs.Theorem.{IsReached, GotIsPrefixOfSent}
use Rattle.duo_laws.proofs.Lists.{all-at}
use Rattle.duo_laws.proofs.Periods.{looked-up}
use Rattle.duo_laws.proofs.Ends.{IsPeriod, IsEnd, Flows, IsHonest, IsGood, IsBody, changed, with-packet}
use Rattle.duo_laws.proofs.Changes.{Sides}
use Rattle.duo_laws.proofs.Events.{Keeps, new-is, sending-keeps, providing-keeps, polling-keeps, expiring-keeps, restarting-keeps, heard_hello-keeps, heard_data-keeps, IsFrom, IsEmitted, emission-keeps}

-- an end and its peer
pub sides : (d : DuoState) (x : ℕ) → IsGood d → Sides (end_at d x) (end_at d (other x))
sides d zero g = record { mine = g.ends zero; theirs = g.ends 1; out = g.flows zero; into = g.flows 1 }
sides d (suc k) g = record { mine = g.ends (suc k); theirs = g.ends 0; out = g.flows (suc k); into = g.flows 0 }

ended : (d : DuoState) (x : ℕ) (o : DuoEffect × EndState) → IsGood d → Keeps (end_at d x) (end_at d (other x)) o → IsGood (at_end d x o).1
ended d x o g c = changed d x o.1 g c

honest-from : (f : ℕ → EndState) (e : EndState) (x : ℕ) (p : Packet) → f x ≡ e → IsFrom e x p → IsHonest f p
honest-from f e x (Hello src inc knows) same h =
    let i = h.1 in
    subst (λ k. inc ≤ (f k).present.inc) (sym h.0) (subst (λ k. inc ≤ k.present.inc) (sym same) i)
honest-from f e x (Data src i j body) same h =
    let there : IsBody (f x) src i j body = subst (λ k. IsBody k src i j body) (sym same) h.1 in
    subst (λ k. IsBody (f k) src i j body) (sym h.0) there

put-good : (d : DuoState) (x : ℕ) (o : Option (Packet × EndState)) → IsGood d → IsEmitted (end_at d x) (end_at d (other x)) x o → IsGood (put d x o).1
put-good d x None g k = g
put-good d zero (Some o) g k = with-packet (with_end d 0 o.1) o.0 (changed d 0 o.1 g k.0) (honest-from (end_of o.1 d.second) o.1 0 o.0 refl k.1)
put-good d (suc n) (Some o) g k = with-packet (with_end d (suc n) o.1) o.0 (changed d (suc n) o.1 g k.0) (honest-from (end_of d.first o.1) o.1 (suc n) o.0 refl k.1)

arrive-good : (d : DuoState) (o : Option Packet) → IsGood d → ((p : Packet) → o ≡ Some p → IsHonest (end_of d.first d.second) p) → IsGood (arrive d o).1
arrive-good d None g h = g
arrive-good d (Some (Hello src inc knows)) g h = by src (h (Hello src inc knows) refl)
  where
    by : (x : ℕ) → inc ≤ (end_of d.first d.second x).present.inc → IsGood (at_end d (other x) (heard_hello inc knows (end_at d (other x)))).1
    by zero low = ended d 1 (heard_hello inc knows d.second) g (heard_hello-keeps d.second d.first inc knows (sides d 1 g) low)
    by (suc k) low = ended d 0 (heard_hello inc knows d.first) g (heard_hello-keeps d.first d.second inc knows (sides d 0 g) low)
arrive-good d (Some (Data src i j body)) g h = by src src (h (Data src i j body) refl)
  where
    by : (x y : ℕ) → IsBody (end_of d.first d.second x) y i j body → IsGood (at_end d (other x) (heard_data i j body (end_at d (other x)))).1
    by zero y says = ended d 1 (heard_data i j body d.second) g (heard_data-keeps d.second d.first y i j body (sides d 1 g) says)
    by (suc k) y says = ended d 0 (heard_data i j body d.first) g (heard_data-keeps d.first d.second y i j body (sides d 0 g) says)

pub step-good : (d : DuoState) (e : DuoEvent) → IsFair e → IsGood d → IsGood (step d e).1
step-good d (Send x len seed) fair g = ended d x (sending (end_at d x) len seed (end_at d x).client.sends) g (sending-keeps (end_at d x) (end_at d (other x)) len seed (end_at d x).client.sends (sides d x g))
step-good d (Provide x size) fair g = ended d x (providing (end_at d x) size (end_at d x).client.recvs) g (providing-keeps (end_at d x) (end_at d (other x)) size (end_at d x).client.recvs (sides d x g))
step-good d (Emit x) fair g = put-good d x (emission x (end_at d x)) g (emission-keeps (end_at d x) (end_at d (other x)) x (sides d x g) fair)
step-good d (Deliver k) fair g = arrive-good d (slice_get d.medium k) g (λ p e. all-at (IsHonest (end_of d.first d.second)) d.medium k p g.medium e)
step-good d (Expire x) fair g = ended d x (expiring (end_at d x)) g (expiring-keeps (end_at d x) (end_at d (other x)) (sides d x g))
step-good d (Poll x) fair g = ended d x (polling (end_at d x) (next_event (end_at d x).port)) g (polling-keeps (end_at d x) (end_at d (other x)) (next_event (end_at d x).port) (sides d x g))
step-good d (Restart x) fair g = ended d x (restarting (end_at d x)) g (restarting-keeps (end_at d x) (end_at d (other x)) (sides d x g))

pub all-good : (d : DuoState) (events : List DuoEvent) → AllByRecursion IsFair events → IsGood d → IsGood (after_all d events)
all-good d [] fair g = g
all-good d (e ∷ es) fair g = all-good (step d e).1 es fair.1 (step-good d e fair.0 g)

begins : (inc : ℕ) → 1 ≤ inc → IsEnd (beginning inc [])
begins inc low = record {
  lane = new-is;
  each = (record { named = low; short = tt; few = omega arith }, tt);
  before = tt;
  living = low;
  quiet = λ h. refl;
  idle = λ h. refl;
}

flow-new : (inc : ℕ) → Flows (beginning inc []) (beginning inc [])
flow-new inc = record {
  prefix = λ i j h. record { rest = []; both = nothing-sent i j ∙ sym (ap (λ l. l ++ []) (nothing-got j i)) };
  base = λ h. omega arith;
  known = omega arith;
  returned = tt;
}
  where
    nothing-sent : (i j : ℕ) → sent_in (beginning inc []) i j ≡ []
    nothing-sent i j = looked-up (λ p. p.lane.sent ≡ []) (new_period inc 0 ∷ []) i j refl (refl, tt)

    nothing-got : (i j : ℕ) → got_in (beginning inc []) i j ≡ []
    nothing-got i j = looked-up (λ p. p.lane.got ≡ []) (new_period inc 0 ∷ []) i j refl (refl, tt)

pub new-good : (inc : ℕ) → 1 ≤ inc → IsGood (new_duo inc)
new-good inc low = record { ends = ends; flows = flows; medium = tt }
  where
    ends : (x : ℕ) → IsEnd (end_of (beginning inc []) (beginning inc []) x)
    ends zero = begins inc low
    ends (suc k) = begins inc low

    flows : (x : ℕ) → Flows (end_of (beginning inc []) (beginning inc []) x) (end_of (beginning inc []) (beginning inc []) (other x))
    flows zero = flow-new inc
    flows (suc k) = flow-new inc

pub reached-good : (d : DuoState) → IsReached d → IsGood d
reached-good d r = subst IsGood (sym r.leads) (all-good (new_duo r.inc) r.events r.fair (new-good r.inc r.least))

-- no period is of incarnation 0
unnamed : (known : ℕ) (ps : List Period) → AllByRecursion IsPeriod ps → period_in ps 0 known ≡ new_period 0 known
unnamed known [] all = refl
unnamed known (p ∷ ps) all =
    let low : 0 < p.inc = all.0.named in
    let other : nat_eq p.inc 0 ≡ false = grind (arith, nat_tests) in
    rw other (unnamed known ps all.1)

pub got-prefix : GotIsPrefixOfSent
got-prefix d r x i zero =
    let g = reached-good d r in
    let nothing : got d x i 0 ≡ [] = ap (λ p. p.lane.got) (unnamed i (periods (end_at d (other x))) (g.ends (other x)).each) in
    record { rest = sent d x i 0; both = ap (λ l. l ++ sent d x i 0) (sym nothing) }
got-prefix d r x i (suc j) = let g = reached-good d r in (g.flows x).prefix i (suc j) (omega arith)
