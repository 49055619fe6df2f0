-- Sends in a port's queue, and what the events of a port say of those that came back.
use Rattle.std.proofs.Common.{◌≡◌, ◌≢◌, ◌<◌, ◌+◌, ℕ, suc, Bool, true, false, nat_eq, nat_lt, List, [], ◌∷◌, ◌++◌, length, map, find, Some, refl, sym, ap, ◌∙◌, subst, arith, append_assoc, if◌then◌else◌}
use Rattle.std.specs.Prelude.{slice_get}
use Rattle.std.specs.List.{AllByRecursion}
use Rattle.std.proofs.lemmas.Bool.Decides.{nat_tests}
use Rattle.std.proofs.lemmas.List.{append-nil}
use Rattle.net_defs.specs.Network.{Apart}
use Rattle.gm_defs.specs.Token.{Sending, PortState, PortEvent, Sent as SentEvent, Received as ReceivedEvent}
use Rattle.gm_defs.specs.Port.{without_first, with_send, send_of, ended_by, finished}
use Rattle.gm_defs.specs.declared.message.Message.{Message}
use Rattle.world_defs.specs.Lane.{Ticket}
use Rattle.duo_defs.specs.Duo.{plain_message, Returned}
use Rattle.duo_defs.specs.Hearing.{returned_from, finished_all}
use Rattle.duo_laws.proofs.Told.{AreTold}
use Rattle.duo_laws.proofs.Lists.{get-append}

-- ---- the queue

abbrev pub tokens_of : List Sending → List ℕ
tokens_of xs = map (λ s. s.token) xs

differ : (t u : ℕ) → t ≢ u → nat_eq t u ≡ false
differ t u h = by (nat_eq t u) refl
  where
    by : (b : Bool) → nat_eq t u ≡ b → nat_eq t u ≡ false
    by true e = absurd (h (grind (arith, nat_tests)))
    by false e = e

same-number : (t : ℕ) → nat_eq t t ≡ true
same-number t = grind (arith, nat_tests)

pub find-new : (s : Sending) (xs : List Sending) → AllByRecursion (λ y. s.token ≢ y) (tokens_of xs) → find (λ x. nat_eq x.token s.token) (with_send s xs) ≡ Some s
find-new s [] none = rw (same-number s.token) refl
find-new s (x ∷ xs) none = by (nat_lt s.token x.token) (find-new s xs none.1)
  where
    by : (b : Bool) → find (λ x. nat_eq x.token s.token) (with_send s xs) ≡ Some s → find (λ x. nat_eq x.token s.token) (if b then s ∷ x ∷ xs else x ∷ with_send s xs) ≡ Some s
    by true r = rw (same-number s.token) refl
    by false r = rw (differ x.token s.token (λ e. none.0 (sym e))) r

pub find-other : (s : Sending) (xs : List Sending) (u : ℕ) → s.token ≢ u → find (λ x. nat_eq x.token u) (with_send s xs) ≡ find (λ x. nat_eq x.token u) xs
find-other s [] u h = rw (differ s.token u h) refl
find-other s (x ∷ xs) u h = by (nat_lt s.token x.token) (find-other s xs u h)
  where
    by : (b : Bool) → find (λ x. nat_eq x.token u) (with_send s xs) ≡ find (λ x. nat_eq x.token u) xs
        → find (λ x. nat_eq x.token u) (if b then s ∷ x ∷ xs else x ∷ with_send s xs) ≡ find (λ x. nat_eq x.token u) (x ∷ xs)
    by true r = rw (differ s.token u h) refl
    by false r = ap (λ o. if nat_eq x.token u then Some x else o) r

pub find-left : (t : ℕ) (xs : List Sending) (u : ℕ) → t ≢ u → find (λ x. nat_eq x.token u) (without_first (λ x. nat_eq x.token t) xs) ≡ find (λ x. nat_eq x.token u) xs
find-left t [] u h = refl
find-left t (x ∷ xs) u h = by (nat_eq x.token t) refl (find-left t xs u h)
  where
    by : (b : Bool) → nat_eq x.token t ≡ b → find (λ x. nat_eq x.token u) (without_first (λ x. nat_eq x.token t) xs) ≡ find (λ x. nat_eq x.token u) xs
        → find (λ x. nat_eq x.token u) (if b then xs else x ∷ without_first (λ x. nat_eq x.token t) xs) ≡ find (λ x. nat_eq x.token u) (x ∷ xs)
    by true e r =
        let same : x.token ≡ t = grind (arith, nat_tests) in
        rw (differ x.token u (λ k. h (sym same ∙ k))) refl
    by false e r = ap (λ o. if nat_eq x.token u then Some x else o) r

-- a number that is none of a queue's isn't that of a send that is found there
pub none-found : (t u : ℕ) (xs : List Sending) (s : Sending) → AllByRecursion (λ y. t ≢ y) (tokens_of xs) → find (λ x. nat_eq x.token u) xs ≡ Some s → t ≢ u
none-found t u [] s none e = cc
none-found t u (x ∷ xs) s none e = by (nat_eq x.token u) refl (none-found t u xs s none.1) e
  where
    by : (b : Bool) → nat_eq x.token u ≡ b → (find (λ x. nat_eq x.token u) xs ≡ Some s → t ≢ u) → (if b then Some x else find (λ x. nat_eq x.token u) xs) ≡ Some s → t ≢ u
    by true f r g = let same : x.token ≡ u = grind (arith, nat_tests) in subst (λ k. t ≢ k) same none.0
    by false f r g = r g

-- A send that waits stands in the queue, with its message in its buffer.
pub record IsQueued (p : PortState) (sent : List Message) (place : ℕ) (t : Ticket) : Type 0 where
  pub message : List ℕ
  pub there : slice_get sent place ≡ Some (plain_message message)
  pub queued : send_of p t.token ≡ Some (record { token = t.token; buffer = message })

-- sends wait whose messages stand one after the other from a place on
abbrev pub AreQueued : PortState → List Message → ℕ → List Ticket → Type 0
AreQueued p sent place [] = Unit {0}
AreQueued p sent place (t ∷ ts) = IsQueued p sent place t × AreQueued p sent (suc place) ts

abbrev pub waiting_tokens : List Ticket → List ℕ
waiting_tokens ts = map (λ t. t.token) ts

-- the port of a finished send
pub finished-is : (p : PortState) (t : ℕ) (s : Sending) → send_of p t ≡ Some s
    → finished p t ≡ record p { queue = without_first (λ x. nat_eq x.token t) p.queue; events = p.events ++ SentEvent t s.buffer ∷ [] }
finished-is p t s e = ap (ended_by p t) e

-- the others still wait
pub requeued : (p : PortState) (sent : List Message) (t : ℕ) (s : Sending) (place : ℕ) (vs : List Ticket) → send_of p t ≡ Some s → AllByRecursion (λ y. t ≢ y) (waiting_tokens vs)
    → AreQueued p sent place vs → AreQueued (finished p t) sent place vs
requeued p sent t s place [] e others all = tt
requeued p sent t s place (v ∷ vs) e others all =
    let k = all.0 in
    let same : send_of (finished p t) v.token ≡ send_of p v.token = ap (λ q. send_of q v.token) (finished-is p t s e) ∙ find-left t p.queue v.token others.0 in
    (record { message = k.message; there = k.there; queued = same ∙ k.queued }, requeued p sent t s (suc place) vs e others.1 all.1)

-- ---- events

pub told-received : (f : ℕ → List Message) (rs : List Returned) (es : List PortEvent) (t : ℕ) (b : List ℕ) (from sport prio len : ℕ)
    → AreTold f rs es → AreTold f rs (es ++ ReceivedEvent t b from sport prio len ∷ [])
told-received f rs [] t b from sport prio len k = k
told-received f rs (ReceivedEvent u c g h i j ∷ es) t b from sport prio len k = told-received f rs es t b from sport prio len k
told-received f rs (SentEvent u c ∷ es) t b from sport prio len k = record {
  note = k.note;
  rest = k.rest;
  first = k.first;
  token = k.token;
  counted = k.counted;
  message = k.message;
  others = told-received f k.rest es t b from sport prio len k.others;
}

pub told-sent : (f : ℕ → List Message) (rs : List Returned) (es : List PortEvent) (r : Returned) (b : List ℕ) → 0 < r.known → slice_get (f r.known) r.place ≡ Some (plain_message b)
    → AreTold f rs es → AreTold f (rs ++ r ∷ []) (es ++ SentEvent r.token b ∷ [])
told-sent f rs [] r b counted message k = record { note = r; rest = []; first = ap (λ l. l ++ r ∷ []) k; token = refl; counted = counted; message = message; others = refl }
told-sent f rs (ReceivedEvent u c g h i j ∷ es) r b counted message k = told-sent f rs es r b counted message k
told-sent f rs (SentEvent u c ∷ es) r b counted message k = record {
  note = k.note;
  rest = k.rest ++ r ∷ [];
  first = ap (λ l. l ++ r ∷ []) k.first;
  token = k.token;
  counted = k.counted;
  message = k.message;
  others = told-sent f k.rest es r b counted message k.others;
}

-- lists that begin with others
pub record Longer (f g : ℕ → List Message) : Type 0 where
  pub more : (j : ℕ) → 0 < j → List Message
  pub both : (j : ℕ) (h : 0 < j) → g j ≡ f j ++ more j h

pub told-later : (f g : ℕ → List Message) (rs : List Returned) (es : List PortEvent) → Longer f g → AreTold f rs es → AreTold g rs es
told-later f g rs [] l k = k
told-later f g rs (ReceivedEvent u c a h i j ∷ es) l k = told-later f g rs es l k
told-later f g rs (SentEvent u c ∷ es) l k = record {
  note = k.note;
  rest = k.rest;
  first = k.first;
  token = k.token;
  counted = k.counted;
  message = ap (λ s. slice_get s k.note.place) (l.both k.note.known k.counted) ∙ get-append (f k.note.known) (l.more k.note.known k.counted) k.note.place (plain_message c) k.message;
  others = told-later f g k.rest es l k.others;
}

-- ---- sends come back

-- What is left once the first of the sends that wait came back: the others wait, and the events report all that came
-- back.
pub record CameBack (p : PortState) (sent : List Message) (f : ℕ → List Message) (place : ℕ) (vs : List Ticket) (rs : List Returned) : Type 0 where
  pub wait : AreQueued p sent place vs
  pub told : AreTold f rs p.events

pub came-back : (p : PortState) (sent : List Message) (f : ℕ → List Message) (known : ℕ) (unsure : Bool) (place : ℕ) (ws vs : List Ticket) (rs : List Returned) → 0 < known
    → ((n : ℕ) (m : Message) → slice_get sent n ≡ Some m → slice_get (f known) n ≡ Some m)
    → AreQueued p sent place (ws ++ vs) → Apart (waiting_tokens (ws ++ vs)) → AreTold f rs p.events
    → CameBack (finished_all p ws) sent f (place + length ws) vs (rs ++ returned_from known unsure place ws)
came-back p sent f known unsure place [] vs rs positive within all apart told =
    let none : place ≡ place + 0 = omega arith in
    record { wait = subst (λ n. AreQueued p sent n vs) none all; told = subst (λ l. AreTold f l p.events) (sym (append-nil rs)) told }
came-back p sent f known unsure place (w ∷ ws) vs rs positive within all apart told =
    let k = all.0 in
    let r : Returned = record { token = w.token; known = known; place = place; unsure = unsure } in
    let s : Sending = record { token = w.token; buffer = k.message } in
    let events : (finished p w.token).events ≡ p.events ++ SentEvent w.token k.message ∷ [] = ap (λ q. q.events) (finished-is p w.token s k.queued) in
    let more : AreTold f (rs ++ r ∷ []) (finished p w.token).events =
    subst (λ l. AreTold f (rs ++ r ∷ []) l) (sym events) (told-sent f rs p.events r k.message positive (within place (plain_message k.message) k.there) told) in
    let rest = came-back (finished p w.token) sent f known unsure (suc place) ws vs (rs ++ r ∷ []) positive within (requeued p sent w.token s (suc place) (ws ++ vs) k.queued apart.0 all.1) apart.1 more in
    let on : suc place + length ws ≡ place + length (w ∷ ws) = omega arith in
    record {
      wait = subst (λ n. AreQueued (finished_all (finished p w.token) ws) sent n vs) on rest.wait;
      told = subst (λ l. AreTold f l (finished_all (finished p w.token) ws).events) (append_assoc rs (r ∷ []) (returned_from known unsure (suc place) ws)) rest.told;
    }
