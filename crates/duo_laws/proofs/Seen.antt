-- What was polled, what restarts took and what waits is what was got, after every list of events.
use Rattle.std.proofs.Common.{◌≡◌, ◌<◌, ◌≤◌, ◌⊎◌, inl, inr, ℕ, zero, suc, Bool, true, false, nat_eq, List, [], ◌∷◌, ◌++◌, map, Option, Some, None, refl, sym, ap, ◌∙◌, subst, arith, if◌then◌else◌}
use Rattle.std.specs.Prelude.{slice_get}
use Rattle.std.specs.List.{AllByRecursion}
use Rattle.std.proofs.lemmas.Bool.Decides.{nat_tests}
use Rattle.std.proofs.lemmas.List.{append_assoc, append-nil, map-append}
use Rattle.gm_defs.specs.declared.message.Message.{Message}
use Rattle.duo_defs.specs.declared.packet.Packet.{Packet}
use Rattle.duo_defs.specs.declared.packet.Packet.TheVariants.{Hello, Data}
use Rattle.duo_defs.specs.declared.event.DuoEvent.{DuoEvent}
use Rattle.duo_defs.specs.declared.event.DuoEvent.TheVariants.{Send, Provide, Emit, Deliver, Expire, Poll, Restart}
use Rattle.duo_defs.specs.Duo.{plain_message, new_period, EndState, DuoState, new_duo, beginning, periods, end_of, end_at, other, with_end, sent_in, got_in, got}
use Rattle.duo_defs.specs.Emitting.{emission, put}
use Rattle.duo_defs.specs.Hearing.{heard_hello, heard_data}
use Rattle.duo_defs.specs.Step.{sending, providing, expiring, arrive, step, IsFair, after_all}
use Rattle.duo_defs.specs.Theorem.{IsReached}
use Rattle.duo_laws.specs.Polled.{effects_of, incarnation_after, handed_by, handed_in, waiting_of, lost_by, lost_in, got_from_first, PolledThenWaitingIsGot}
use Rattle.duo_laws.proofs.Lists.{all-at}
use Rattle.duo_laws.proofs.Periods.{absent, all-later, looked-up}
use Rattle.duo_laws.proofs.Ends.{IsEnd, IsHonest, IsGood}
use Rattle.duo_laws.proofs.Order.{step-good, new-good, reached-good, got-prefix}
use Rattle.duo_laws.proofs.Handing.{upto, got_upto, IsPast, Grows, Goes, GoesOn, goes-same, sending-goes, providing-goes, expiring-goes, polling-goes, restarting-goes, heard_hello-goes, heard_data-goes, GoesEmitting, emission-goes}

-- ---- both ends

with-goes : (d : DuoState) (y : ℕ) (e : EndState) → GoesOn (end_at d y) e → (x : ℕ) → GoesOn (end_at d x) (end_at (with_end d y e) x)
with-goes d zero e k zero = k
with-goes d zero e k (suc x) = goes-same d.second
with-goes d (suc n) e k zero = goes-same d.first
with-goes d (suc n) e k (suc x) = k

put-goes : (d : DuoState) (y : ℕ) (o : Option (Packet × EndState)) → GoesEmitting (end_at d y) o → (x : ℕ) → GoesOn (end_at d x) (end_at (put d y o).1 x)
put-goes d y None k x = goes-same (end_at d x)
put-goes d zero (Some o) k zero = k
put-goes d zero (Some o) k (suc x) = goes-same d.second
put-goes d (suc n) (Some o) k zero = goes-same d.first
put-goes d (suc n) (Some o) k (suc x) = k

arrive-goes : (d : DuoState) (o : Option Packet) → IsGood d → ((p : Packet) → o ≡ Some p → IsHonest (end_of d.first d.second) p) → (x : ℕ) → GoesOn (end_at d x) (end_at (arrive d o).1 x)
arrive-goes d None g h x = goes-same (end_at d x)
arrive-goes d (Some (Hello src inc knows)) g h x = with-goes d (other src) (heard_hello inc knows (end_at d (other src))).1 (heard_hello-goes (end_at d (other src)) inc knows (g.ends (other src))) x
arrive-goes d (Some (Data src i j body)) g h x =
    with-goes d (other src) (heard_data i j body (end_at d (other src))).1 (heard_data-goes (end_at d (other src)) (end_of d.first d.second src) src i j body (g.ends (other src)) (h (Data src i j body) refl)) x

-- an event as both ends see it
abbrev StepGoes : DuoState → DuoEvent → ℕ → Type 0
StepGoes d e x =
    Goes (end_at d x) (end_at (step d e).1 x) (incarnation_after x (end_at d x).present.inc e (step d e).0) (handed_by x e (step d e).0) (λ j. lost_by x j d e (step d e).0)

poll-goes : (d : DuoState) (y x : ℕ) → y < 2 → x < 2 → StepGoes d (Poll y) x
poll-goes d zero zero h k = polling-goes d.first d.first.port.events refl
poll-goes d zero (suc zero) h k = goes-same d.second
poll-goes d (suc zero) zero h k = goes-same d.first
poll-goes d (suc zero) (suc zero) h k = polling-goes d.second d.second.port.events refl
poll-goes d (suc (suc y)) x h k = absurd (omega (arith, h))
poll-goes d y (suc (suc x)) h k = absurd (omega (arith, k))

restart-goes : (d : DuoState) (y x : ℕ) → IsGood d → y < 2 → x < 2 → StepGoes d (Restart y) x
restart-goes d zero zero g h k = restarting-goes d.first (g.ends 0)
restart-goes d zero (suc zero) g h k = goes-same d.second
restart-goes d (suc zero) zero g h k = goes-same d.first
restart-goes d (suc zero) (suc zero) g h k = restarting-goes d.second (g.ends 1)
restart-goes d (suc (suc y)) x g h k = absurd (omega (arith, h))
restart-goes d y (suc (suc x)) g h k = absurd (omega (arith, k))

step-goes : (d : DuoState) (e : DuoEvent) (x : ℕ) → IsFair e → IsGood d → x < 2 → StepGoes d e x
step-goes d (Send y len seed) x fair g low = with-goes d y (sending (end_at d y) len seed (end_at d y).client.sends).1 (sending-goes (end_at d y) len seed (end_at d y).client.sends) x
step-goes d (Provide y size) x fair g low = with-goes d y (providing (end_at d y) size (end_at d y).client.recvs).1 (providing-goes (end_at d y) size (end_at d y).client.recvs) x
step-goes d (Emit y) x fair g low = put-goes d y (emission y (end_at d y)) (emission-goes (end_at d y) y) x
step-goes d (Deliver k) x fair g low = arrive-goes d (slice_get d.medium k) g (λ p e. all-at (IsHonest (end_of d.first d.second)) d.medium k p g.medium e) x
step-goes d (Expire y) x fair g low = with-goes d y (expiring (end_at d y)).1 (expiring-goes (end_at d y)) x
step-goes d (Poll y) x fair g low = poll-goes d y x fair low
step-goes d (Restart y) x fair g low = restart-goes d y x g fair low

-- ---- after events

-- What was seen of an end: what was handed out and taken away, and what waits, is what was got.
record IsSeen (e : EndState) (seen lost : ℕ → List (List ℕ)) : Type 0 where
  each : (j n : ℕ) → IsPast e j n → map plain_message (seen j ++ (lost j ++ waiting_of e j)) ≡ got_upto e j n
  kept : (j : ℕ) → e.present.inc ≤ j → lost j ≡ []

seen-as : (e : EndState) (seen lost handed taken : ℕ → List (List ℕ)) → IsSeen e seen lost → ((j : ℕ) → seen j ≡ handed j) → ((j : ℕ) → lost j ≡ taken j) → IsSeen e handed taken
seen-as e seen lost handed taken is s l = record {
  each = λ j n p. sym (λ i. map plain_message (s j i ++ (l j i ++ waiting_of e j))) ∙ is.each j n p;
  kept = λ j h. sym (l j) ∙ is.kept j h;
}

-- what is handed out stands before what was taken, since one of them is nothing
swap : (s o l g w : List (List ℕ)) → (l ≡ []) ⊎ (o ≡ []) → (s ++ o) ++ ((l ++ g) ++ w) ≡ (s ++ l) ++ (o ++ (g ++ w))
swap s o l g w (inl e) =
    ap (λ x. (s ++ o) ++ ((x ++ g) ++ w)) e ∙ append_assoc s o (g ++ w) ∙ ap (λ x. x ++ (o ++ (g ++ w))) (sym (append-nil s)) ∙ ap (λ x. (s ++ x) ++ (o ++ (g ++ w))) (sym e)
swap s o l g w (inr e) =
    ap (λ x. (s ++ x) ++ ((l ++ g) ++ w)) e ∙ ap (λ x. x ++ ((l ++ g) ++ w)) (append-nil s) ∙ ap (λ x. s ++ x) (append_assoc l g w) ∙ sym (append_assoc s l (g ++ w)) ∙ ap (λ x. (s ++ l) ++ (x ++ (g ++ w))) (sym e)

one-is_nothing : (a e : EndState) (seen lost : ℕ → List (List ℕ)) (out : List (List ℕ)) (j : ℕ) → IsSeen a seen lost → (b : Bool) → nat_eq a.present.inc j ≡ b → (lost j ≡ []) ⊎ ((if b then out else []) ≡ [])
one-is_nothing a e seen lost out j is true d = inl (is.kept j (grind (arith, nat_tests)))
one-is_nothing a e seen lost out j is false d = inr refl

next-seen : (a e : EndState) (next : ℕ) (out : List (List ℕ)) (gone seen lost : ℕ → List (List ℕ)) → IsSeen a seen lost → Goes a e next out gone
    → IsSeen e (λ j. seen j ++ (if nat_eq a.present.inc j then out else [])) (λ j. lost j ++ gone j)
next-seen a e next out gone seen lost is goes = record {
  each = λ j n p.
      let g : Grows a e out (gone j) j n = goes.each j n p in
      let o : List (List ℕ) = if nat_eq a.present.inc j then out else [] in
      let before : List (List ℕ) = seen j ++ lost j in
      ap (map plain_message) (swap (seen j) o (lost j) (gone j) (waiting_of e j) (one-is_nothing a e seen lost out j is (nat_eq a.present.inc j) refl))
      ∙ map-append plain_message before (o ++ (gone j ++ waiting_of e j))
      ∙ ap (λ l. map plain_message before ++ l) g.seen
      ∙ sym (append_assoc (map plain_message before) (map plain_message (waiting_of a j)) g.new)
      ∙ ap (λ l. l ++ g.new) (sym (map-append plain_message before (waiting_of a j)) ∙ ap (map plain_message) (append_assoc (seen j) (lost j) (waiting_of a j)) ∙ is.each j n g.past)
      ∙ sym g.got;
  kept = λ j h.
      let low = goes.rises in
      (λ i. is.kept j (omega (arith, low, h)) i ++ goes.kept j h i);
}

all-seen : (x : ℕ) → x < 2 → (d : DuoState) (es : List DuoEvent) (seen lost : ℕ → List (List ℕ)) → AllByRecursion IsFair es → IsGood d → IsSeen (end_at d x) seen lost
    → IsSeen (end_at (after_all d es) x) (λ j. seen j ++ handed_in x j (end_at d x).present.inc es (effects_of d es)) (λ j. lost j ++ lost_in x j d es)
all-seen x low d [] seen lost fair g is =
    seen-as (end_at d x) seen lost (λ j. seen j ++ []) (λ j. lost j ++ []) is (λ j. sym (append-nil (seen j))) (λ j. sym (append-nil (lost j)))
all-seen x low d (e ∷ es) seen lost fair g is =
    let a : EndState = end_at d x in
    let v : DuoState = (step d e).1 in
    let k : StepGoes d e x = step-goes d e x fair.0 g low in
    let out : ℕ → List (List ℕ) = λ j. if nat_eq a.present.inc j then handed_by x e (step d e).0 else [] in
    let gone : ℕ → List (List ℕ) = λ j. lost_by x j d e (step d e).0 in
    let now : IsSeen (end_at v x) (λ j. seen j ++ out j) (λ j. lost j ++ gone j) =
    next-seen a (end_at v x) (incarnation_after x a.present.inc e (step d e).0) (handed_by x e (step d e).0) gone seen lost is k in
    let rest : ℕ → ℕ → List (List ℕ) = λ j inc. handed_in x j inc es (effects_of v es) in
    seen-as (end_at (after_all v es) x) (λ j. (seen j ++ out j) ++ rest j (end_at v x).present.inc) (λ j. (lost j ++ gone j) ++ lost_in x j v es)
    (λ j. seen j ++ (out j ++ rest j (incarnation_after x a.present.inc e (step d e).0))) (λ j. lost j ++ (gone j ++ lost_in x j v es))
    (all-seen x low v es (λ j. seen j ++ out j) (λ j. lost j ++ gone j) fair.1 (step-good d e fair.0 g) now)
    (λ j. append_assoc (seen j) (out j) (rest j (end_at v x).present.inc) ∙ ap (λ m. seen j ++ (out j ++ rest j m)) (sym k.named))
    (λ j. append_assoc (lost j) (gone j) (lost_in x j v es))

-- ---- the first moment

beginning-seen : (inc : ℕ) → IsSeen (beginning inc []) (λ j. []) (λ j. [])
beginning-seen inc = record { each = λ j n p. ap (map plain_message) (nothing (nat_eq inc j)) ∙ sym (nothing-got j n); kept = λ j h. refl }
  where
    nothing : (b : Bool) → (if◌then◌else◌ {A = List (List ℕ)} b [] []) ≡ []
    nothing true = refl
    nothing false = refl

    nothing-got : (j n : ℕ) → got_upto (beginning inc []) j n ≡ []
    nothing-got j zero = refl
    nothing-got j (suc n) = (λ i. nothing-got j n i ++ looked-up (λ p. p.lane.got ≡ []) (new_period inc 0 ∷ []) j (suc n) refl (refl, tt) i)

new-seen : (inc x : ℕ) → IsSeen (end_at (new_duo inc) x) (λ j. []) (λ j. [])
new-seen inc zero = beginning-seen inc
new-seen inc (suc x) = beginning-seen inc

new-inc : (inc x : ℕ) → (end_at (new_duo inc) x).present.inc ≡ inc
new-inc inc zero = refl
new-inc inc (suc x) = refl

-- ---- every moment

-- nothing comes from an incarnation that there wasn't yet
none-unborn : (d : DuoState) (r : IsReached d) (x : ℕ) → x < 2 → (j : ℕ) → IsPast (end_at d x) j (end_at d (other x)).present.inc
none-unborn d r x low j = record {
  each = λ i above.
      let peer : EndState = end_at d (other x) in
      let is : IsEnd peer = (reached-good d r).ends (other x) in
      let p = got-prefix d r (other x) i j in
      let nothing : sent_in peer i j ≡ [] = ap (λ q. q.lane.sent) (absent (periods peer) i j (inl above, all-later peer.present.inc peer.present.known i j peer.past (inl above) is.before)) in
      ap (λ e. got_in e j i) (sym (same-end d x low)) ∙ front-nil (got d (other x) i j) p.rest (sym p.both ∙ nothing);
}
  where
    front-nil : (xs ys : List Message) → xs ++ ys ≡ [] → xs ≡ []
    front-nil [] ys e = refl
    front-nil (x ∷ xs) ys e = cc

    same-end : (d : DuoState) (x : ℕ) → x < 2 → end_at d (other (other x)) ≡ end_at d x
    same-end d zero h = refl
    same-end d (suc k) h = refl

first-upto : (d : DuoState) (x j n : ℕ) → got_from_first n d x j ≡ upto (λ i. got d (other x) i j) n
first-upto d x j zero = refl
first-upto d x j (suc n) = ap (λ l. l ++ got d (other x) (suc n) j) (first-upto d x j n)

got-upto : (d : DuoState) (x j n : ℕ) → got_upto (end_at d x) j n ≡ got_from_first n d x j
got-upto d zero j n = sym (first-upto d zero j n)
got-upto d (suc x) j n = sym (first-upto d (suc x) j n)

pub polled-got : PolledThenWaitingIsGot
polled-got d is x j low =
    let es : List DuoEvent = is.events in
    let all = all-seen x low (new_duo is.inc) es (λ j. []) (λ j. []) is.fair (new-good is.inc is.least) (new-seen is.inc x) in
    let seen : ℕ → List (List ℕ) = λ j. handed_in x j (end_at (new_duo is.inc) x).present.inc es (effects_of (new_duo is.inc) es) in
    let here : IsSeen (end_at d x) seen (λ j. lost_in x j (new_duo is.inc) es) = subst (λ v. IsSeen (end_at v x) seen (λ j. lost_in x j (new_duo is.inc) es)) (sym is.leads) all in
    let k : IsSeen (end_at d x) (λ j. handed_in x j is.inc es (effects_of (new_duo is.inc) es)) (λ j. lost_in x j (new_duo is.inc) es) =
    seen-as (end_at d x) seen (λ j. lost_in x j (new_duo is.inc) es) (λ j. handed_in x j is.inc es (effects_of (new_duo is.inc) es)) (λ j. lost_in x j (new_duo is.inc) es) here
    (λ j. ap (λ m. handed_in x j m es (effects_of (new_duo is.inc) es)) (new-inc is.inc x)) (λ j. refl) in
    let n : ℕ = (end_at d (other x)).present.inc in
    record { messages = k.each j n (none-unborn d is x low j) ∙ got-upto d x j n; present = λ h. k.kept j h }
