-- What polls answer is right.
use Rattle.std.proofs.Common.{◌≡◌, ◌<◌, ◌≤◌, inl, inr, ℕ, zero, suc, Bool, true, false, List, [], ◌∷◌, ◌++◌, length, Option, Some, None, refl, sym, ap, ◌∙◌, subst, true≢false, if◌then◌else◌}
use Rattle.std.specs.Prelude.{slice_get}
use Rattle.std.specs.List.{AllByRecursion}
use Rattle.gm_defs.specs.Token.{PortEvent, Sent as SentEvent, Received as ReceivedEvent}
use Rattle.gm_defs.specs.Port.{next_event}
use Rattle.gm_defs.proofs.Numbers.{get-front}
use Rattle.gm_defs.specs.declared.message.Message.{Message}
use Rattle.duo_defs.specs.declared.packet.Packet.{Packet}
use Rattle.duo_defs.specs.declared.packet.Packet.TheVariants.{Hello, Data}
use Rattle.duo_defs.specs.declared.event.DuoEvent.{DuoEvent}
use Rattle.duo_defs.specs.declared.event.DuoEvent.TheVariants.{Send, Provide, Emit, Deliver, Expire, Poll, Restart}
use Rattle.duo_defs.specs.declared.effect.DuoEffect.TheVariants.{Sent, Unsure}
use Rattle.duo_defs.specs.Duo.{plain_message, Returned, EndState, DuoState, new_duo, end_of, end_at, other, with_end, sent_in, got}
use Rattle.duo_defs.specs.Emitting.{emission, put}
use Rattle.duo_defs.specs.Hearing.{heard_hello, heard_data}
use Rattle.duo_defs.specs.Step.{sending, providing, expiring, told, polling, restarting, at_end, arrive, step, IsFair, after_all}
use Rattle.duo_defs.specs.Theorem.{IsReached, IsOfMessage, IsSentRight, IsUnsureRight, PollsAreRight}
use Rattle.duo_laws.proofs.Told.{IsTold, AreTold}
use Rattle.duo_laws.proofs.Lists.{all-at}
use Rattle.duo_laws.proofs.Ends.{IsReturnedRight, IsHonest, IsGood, IsBody}
use Rattle.duo_laws.proofs.Events.{sending-keeps, heard_hello-keeps, heard_data-keeps}
use Rattle.duo_laws.proofs.Order.{sides, step-good, new-good, reached-good}
use Rattle.duo_laws.proofs.Owners.{IsOwned, owned-at, step-owned, new-owned}
use Rattle.duo_laws.proofs.Ties.{IsTied, tied-none, sending-tied, providing-tied, polling-tied, expiring-tied, restarting-tied, heard_hello-tied, heard_data-tied, TiedEmission, emission-tied}

-- What both ends keep.
pub record AreTied (d : DuoState) : Type 0 where
  pub first : IsTied d.first
  pub second : IsTied d.second

pub tied-at : (d : DuoState) (x : ℕ) → AreTied d → IsTied (end_at d x)
tied-at d zero h = h.first
tied-at d (suc k) h = h.second

with-tied : (d : DuoState) (x : ℕ) (e : EndState) → AreTied d → IsTied e → AreTied (with_end d x e)
with-tied d zero e h k = record { first = k; second = h.second }
with-tied d (suc n) e h k = record { first = h.first; second = k }

put-tied : (d : DuoState) (x : ℕ) (o : Option (Packet × EndState)) → AreTied d → TiedEmission o → AreTied (put d x o).1
put-tied d x None h k = h
put-tied d zero (Some o) h k = record { first = k; second = h.second }
put-tied d (suc n) (Some o) h k = record { first = h.first; second = k }

arrive-tied : (d : DuoState) (o : Option Packet) → IsGood d → ((p : Packet) → o ≡ Some p → IsHonest (end_of d.first d.second) p) → AreTied d → AreTied (arrive d o).1
arrive-tied d None g h k = k
arrive-tied d (Some (Hello src inc knows)) g h k = by src (h (Hello src inc knows) refl)
  where
    by : (x : ℕ) → inc ≤ (end_of d.first d.second x).present.inc → AreTied (at_end d (other x) (heard_hello inc knows (end_at d (other x)))).1
    by zero low = with-tied d 1 (heard_hello inc knows d.second).1 k (heard_hello-tied d.second inc knows (heard_hello-keeps d.second d.first inc knows (sides d 1 g) low).later.grow k.second)
    by (suc n) low = with-tied d 0 (heard_hello inc knows d.first).1 k (heard_hello-tied d.first inc knows (heard_hello-keeps d.first d.second inc knows (sides d 0 g) low).later.grow k.first)
arrive-tied d (Some (Data src i j body)) g h k = by src src (h (Data src i j body) refl)
  where
    by : (x y : ℕ) → IsBody (end_of d.first d.second x) y i j body → AreTied (at_end d (other x) (heard_data i j body (end_at d (other x)))).1
    by zero y says = with-tied d 1 (heard_data i j body d.second).1 k (heard_data-tied d.second i j body says.src (g.ends 1).lane (heard_data-keeps d.second d.first y i j body (sides d 1 g) says).later.grow k.second)
    by (suc n) y says = with-tied d 0 (heard_data i j body d.first).1 k (heard_data-tied d.first i j body says.src (g.ends 0).lane (heard_data-keeps d.first d.second y i j body (sides d 0 g) says).later.grow k.first)

step-tied : (d : DuoState) (e : DuoEvent) → IsGood d → IsOwned d → AreTied d → AreTied (step d e).1
step-tied d (Send x len seed) g o k =
    let a : EndState = end_at d x in
    with-tied d x (sending a len seed a.client.sends).1 k
    (sending-tied a len seed a.client.sends refl (owned-at d x o).owners (sides d x g).mine.lane (sending-keeps a (end_at d (other x)) len seed a.client.sends (sides d x g)).later.grow (tied-at d x k))
step-tied d (Provide x size) g o k = with-tied d x (providing (end_at d x) size (end_at d x).client.recvs).1 k (providing-tied (end_at d x) size (end_at d x).client.recvs (tied-at d x k))
step-tied d (Emit x) g o k = put-tied d x (emission x (end_at d x)) k (emission-tied (end_at d x) x (tied-at d x k))
step-tied d (Deliver n) g o k = arrive-tied d (slice_get d.medium n) g (λ p e. all-at (IsHonest (end_of d.first d.second)) d.medium n p g.medium e) k
step-tied d (Expire x) g o k = with-tied d x (expiring (end_at d x)).1 k (expiring-tied (end_at d x) (tied-at d x k))
step-tied d (Poll x) g o k = with-tied d x (polling (end_at d x) (next_event (end_at d x).port)).1 k (polling-tied (end_at d x) (end_at d x).port.events refl (tied-at d x k))
step-tied d (Restart x) g o k = with-tied d x (restarting (end_at d x)).1 k (restarting-tied (end_at d x) (tied-at d x k))

all-tied : (d : DuoState) (events : List DuoEvent) → AllByRecursion IsFair events → IsGood d → IsOwned d → AreTied d → AreTied (after_all d events)
all-tied d [] fair g o k = k
all-tied d (e ∷ es) fair g o k = all-tied (step d e).1 es fair.1 (step-good d e fair.0 g) (step-owned d e o) (step-tied d e g o k)

pub reached-tied : (d : DuoState) → IsReached d → AreTied d
reached-tied d r = subst AreTied (sym r.leads) (all-tied (new_duo r.inc) r.events r.fair (new-good r.inc r.least) (new-owned r.inc) (record { first = tied-none r.inc []; second = tied-none r.inc [] }))

-- ---- polls

same-sent : (u t : ℕ) → Sent u ≡ Sent t → u ≡ t
same-sent u t e = cc

same-unsure : (u t : ℕ) → Unsure u ≡ Unsure t → u ≡ t
same-unsure u t e = cc

-- the first of the sends that came back
first-right : (inc : ℕ) (b : EndState) (rs rest : List Returned) (r : Returned) → rs ≡ r ∷ rest → AllByRecursion (IsReturnedRight inc b) rs → IsReturnedRight inc b r
first-right inc b rs rest r e all = (subst (λ l. AllByRecursion (IsReturnedRight inc b) l) e all).0

-- What is known of a send that came back first.
record IsFirst (d : DuoState) (x u : ℕ) (buffer : List ℕ) (r : Returned) : Type 0 where
  of_message : IsOfMessage d x u r buffer
  right : IsReturnedRight (end_at d x).present.inc (end_at d (other x)) r

is-first : (d : DuoState) (x u : ℕ) (buffer : List ℕ) (es : List PortEvent) → IsGood d → AreTied d → (end_at d x).port.events ≡ SentEvent u buffer ∷ es → (r : Returned) × IsFirst d x u buffer r
is-first d x u buffer es g k e =
    let a : EndState = end_at d x in
    let f : ℕ → List Message = λ j. sent_in a a.present.inc j in
    let tie : IsTold f u buffer (λ l. AreTold f l es) a.returned = subst (λ l. AreTold f a.returned l) e (tied-at d x k).told in (
      tie.note,
      record {
        of_message = record {
          event = ap (λ l. slice_get l 0) e;
          first = ap (λ l. slice_get l 0) tie.first;
          token = tie.token;
          counted = tie.counted;
          was_sent = tie.message;
        };
        right = first-right a.present.inc (end_at d (other x)) a.returned tie.rest tie.note tie.first (g.flows x).returned;
      },
    )

told-first : (d : DuoState) (x u t : ℕ) (buffer : List ℕ) (r : Returned) → IsGood d → IsFirst d x u buffer r
    → (unsure : Bool) → r.unsure ≡ unsure → ((if unsure then Unsure u else Sent u) ≡ Sent t → IsSentRight d x t) × ((if unsure then Unsure u else Sent u) ≡ Unsure t → IsUnsureRight d x t)
told-first d x u t buffer r g k true f = ((λ h. cc), (λ h. unsure-right (same-unsure u t h)))
  where
    above : IsReturnedRight (end_at d x).present.inc (end_at d (other x)) r → r.known < (end_at d (other x)).present.inc
    above (inl q) = absurd (true≢false (sym f ∙ q.sure))
    above (inr q) = q.above

    unsure-right : u ≡ t → IsUnsureRight d x t
    unsure-right same = record { note = r; buffer = buffer; of_message = subst (λ n. IsOfMessage d x n r buffer) same k.of_message; above = above k.right }
told-first d x u t buffer r g k false f = ((λ h. sent-right (same-sent u t h)), (λ h. cc))
  where
    within : IsReturnedRight (end_at d x).present.inc (end_at d (other x)) r → r.place < length (got d x (end_at d x).present.inc r.known)
    within (inl q) = q.there
    within (inr q) = absurd (true≢false (sym q.not_sure ∙ f))

    was_got : slice_get (got d x (end_at d x).present.inc r.known) r.place ≡ Some (plain_message buffer)
    was_got =
        let p = (g.flows x).prefix (end_at d x).present.inc r.known k.of_message.counted in
        let front : slice_get (got d x (end_at d x).present.inc r.known ++ p.rest) r.place ≡ slice_get (got d x (end_at d x).present.inc r.known) r.place =
        get-front (got d x (end_at d x).present.inc r.known) p.rest r.place (within k.right) in
        sym front ∙ (ap (λ l. slice_get l r.place) (sym p.both) ∙ k.of_message.was_sent)

    sent-right : u ≡ t → IsSentRight d x t
    sent-right same = record { note = r; buffer = buffer; of_message = subst (λ n. IsOfMessage d x n r buffer) same k.of_message; was_got = was_got }

sent-right : (d : DuoState) (x t u : ℕ) (buffer : List ℕ) (es : List PortEvent) → IsGood d → AreTied d → (end_at d x).port.events ≡ SentEvent u buffer ∷ es
    → (told u (slice_get (end_at d x).returned 0) ≡ Sent t → IsSentRight d x t) × (told u (slice_get (end_at d x).returned 0) ≡ Unsure t → IsUnsureRight d x t)
sent-right d x t u buffer es g k e =
    let r = is-first d x u buffer es g k e in
    subst (λ o. (told u o ≡ Sent t → IsSentRight d x t) × (told u o ≡ Unsure t → IsUnsureRight d x t)) (sym r.1.of_message.first) (told-first d x u t buffer r.0 g r.1 r.0.unsure refl)

pub polls-right : PollsAreRight
polls-right d r x t = by (end_at d x).port.events refl
  where
    by : (es : List PortEvent) → (end_at d x).port.events ≡ es
        → ((polling (end_at d x) (slice_get es 0)).0 ≡ Sent t → IsSentRight d x t) × ((polling (end_at d x) (slice_get es 0)).0 ≡ Unsure t → IsUnsureRight d x t)
    by [] e = ((λ h. cc), (λ h. cc))
    by (SentEvent u b ∷ es) e = sent-right d x t u b es (reached-good d r) (reached-tied d r) e
    by (ReceivedEvent u b from sport prio len ∷ es) e = ((λ h. cc), (λ h. cc))
