-- Each token goes from one place to another: by a call of the client, by an acknowledgement, and by a message.
use Rattle.std.proofs.Common.{◌≡◌, ℕ, Bool, true, false, List, [], ◌∷◌, ◌++◌, map, nat_eq, nat_lt, Option, Some, None, refl, sym, ap, subst, arith, if◌then◌else◌}
use Rattle.std.specs.Prelude.{drop, find, slice_get}
use Rattle.std.proofs.lemmas.Bool.Decides.{nat_tests}
use Rattle.gm_defs.specs.declared.frame.FrameHead.{FrameHead}
use Rattle.gm_defs.specs.Token.{Sending, Provided, PortEvent, Sent, Received, PortState, opened, sent_tokens, received_tokens, takes_at}
use Rattle.gm_defs.specs.Port.{without_first, with_first, with_send, sent_with, provided_with, send_of, ended_by, finished, filled, filling_with, delivered, next_event, polled}
use Rattle.gm_defs.proofs.Found.{same-numbers}
use Rattle.gm_defs.proofs.Takers.{Delivery, delivery}
use Rattle.world_defs.specs.Client.{ClientState, new_client}
use Rattle.world_defs.specs.Sound.{IsEachOnce, HasOwners}
use Rattle.token_moves.proofs.Places.{Into, here, behind, into-left, into-right, into-end, once-moved, once-new}

-- what was found is one more than what is left without it
module _ {A : Type 0} (test : A → Bool) (number : A → ℕ) where
  pub into-found : (xs : List A) (y : A) → find test xs ≡ Some y → Into (number y) (map number xs) (map number (without_first test xs))
  into-found [] y e = cc
  into-found (x ∷ xs) y e = by (test x) refl (into-found xs y)
    where
      by : (b : Bool) → test x ≡ b → (find test xs ≡ Some y → Into (number y) (map number xs) (map number (without_first test xs))) → Into (number y) (map number (x ∷ xs)) (map number (without_first test (x ∷ xs)))
      by true t r =
          let g : find test (x ∷ xs) ≡ Some x = rw t refl in
          let same : x ≡ y = cc in
          rw t (subst (λ z. Into (number z) (number x ∷ map number xs) (map number xs)) same here)
      by false t r =
          let g : find test (x ∷ xs) ≡ find test xs = rw t refl in
          let f : find test xs ≡ Some y = cc in
          rw t (behind (r f))

  pub found-passes : (xs : List A) (y : A) → find test xs ≡ Some y → test y ≡ true
  found-passes [] y e = cc
  found-passes (x ∷ xs) y e = by (test x) refl (found-passes xs y)
    where
      by : (b : Bool) → test x ≡ b → (find test xs ≡ Some y → test y ≡ true) → test y ≡ true
      by true t r =
          let g : find test (x ∷ xs) ≡ Some x = rw t refl in
          let same : x ≡ y = cc in
          subst (λ z. test z ≡ true) same t
      by false t r =
          let g : find test (x ∷ xs) ≡ find test xs = rw t refl in
          let f : find test xs ≡ Some y = cc in
          r f

-- the tokens of lists with one more
into-send : (s : Sending) (xs : List Sending) → Into s.token (map (λ x. x.token) (with_send s xs)) (map (λ x. x.token) xs)
into-send s [] = here
into-send s (x ∷ xs) = by (nat_lt s.token x.token) (into-send s xs)
  where
    by : (b : Bool) → Into s.token (map (λ y. y.token) (with_send s xs)) (map (λ y. y.token) xs) → Into s.token (map (λ y. y.token) (if b then s ∷ x ∷ xs else x ∷ with_send s xs)) (map (λ y. y.token) (x ∷ xs))
    by true r = here
    by false r = behind r

into-provided : (r : Provided) (xs : List Provided) → Into r.token (map (λ x. x.token) (xs ++ r ∷ [])) (map (λ x. x.token) xs)
into-provided r [] = here
into-provided r (x ∷ xs) = behind (into-provided r xs)

into-sent : (t : ℕ) (b : List ℕ) (es : List PortEvent) → Into t (sent_tokens (es ++ Sent t b ∷ [])) (sent_tokens es)
into-sent t b [] = here
into-sent t b (Sent u c ∷ es) = behind (into-sent t b es)
into-sent t b (Received u c from sport prio len ∷ es) = into-sent t b es

into-received : (t : ℕ) (b : List ℕ) (from sport prio len : ℕ) (es : List PortEvent) → Into t (received_tokens (es ++ Received t b from sport prio len ∷ [])) (received_tokens es)
into-received t b from sport prio len [] = here
into-received t b from sport prio len (Sent u c ∷ es) = into-received t b from sport prio len es
into-received t b from sport prio len (Received u c f s p l ∷ es) = behind (into-received t b from sport prio len es)

received-same : (t : ℕ) (b : List ℕ) (es : List PortEvent) → received_tokens (es ++ Sent t b ∷ []) ≡ received_tokens es
received-same t b [] = refl
received-same t b (Sent u c ∷ es) = received-same t b es
received-same t b (Received u c from sport prio len ∷ es) = ap (λ (ts : List ℕ). u ∷ ts) (received-same t b es)

sent-same : (t : ℕ) (b : List ℕ) (from sport prio len : ℕ) (es : List PortEvent) → sent_tokens (es ++ Received t b from sport prio len ∷ []) ≡ sent_tokens es
sent-same t b from sport prio len [] = refl
sent-same t b from sport prio len (Sent u c ∷ es) = ap (λ (ts : List ℕ). u ∷ ts) (sent-same t b from sport prio len es)
sent-same t b from sport prio len (Received u c f s p l ∷ es) = sent-same t b from sport prio len es

-- a port is opened
pub owned-new : (sends recvs : ℕ) → HasOwners (opened sends recvs) (new_client sends recvs)
owned-new sends recvs = record { sends = once-new sends; recvs = once-new recvs }

abbrev sending : PortState → List ℕ
sending p = map (λ s. s.token) p.queue

abbrev providing : PortState → List ℕ
providing p = map (λ r. r.token) p.provided

-- a token is provided
pub owned-provided : (p : PortState) (c : ClientState) (r : Provided) (ts : List ℕ) → c.recvs ≡ r.token ∷ ts → HasOwners p c → HasOwners (provided_with p r) (record c { recvs = ts })
owned-provided p c r ts e is =
    let es : List ℕ = received_tokens p.events in
    let now : List ℕ = map (λ x. x.token) (p.provided ++ r ∷ []) in
    let was : IsEachOnce p.recvs (r.token ∷ (ts ++ (providing p ++ es))) = subst (λ l. IsEachOnce p.recvs (l ++ (providing p ++ es))) e is.recvs in
    record {
      sends = is.sends;
      recvs = once-moved p.recvs r.token (r.token ∷ (ts ++ (providing p ++ es))) (ts ++ (now ++ es)) (ts ++ (providing p ++ es)) here
          (into-right ts (now ++ es) (providing p ++ es) (into-left now (providing p) es (into-provided r p.provided))) was;
    }

-- a message is accepted
pub owned-sending : (p : PortState) (c : ClientState) (t : ℕ) (buffer ts : List ℕ) → c.sends ≡ t ∷ ts → HasOwners p c → HasOwners (sent_with p t buffer) (record c { sends = ts })
owned-sending p c t buffer ts e is =
    let s : Sending = record { token = t; buffer = buffer } in
    let es : List ℕ = sent_tokens p.events in
    let now : List ℕ = map (λ x. x.token) (with_send s p.queue) in
    let was : IsEachOnce p.sends (t ∷ (ts ++ (sending p ++ es))) = subst (λ l. IsEachOnce p.sends (l ++ (sending p ++ es))) e is.sends in
    record {
      sends = once-moved p.sends t (t ∷ (ts ++ (sending p ++ es))) (ts ++ (now ++ es)) (ts ++ (sending p ++ es)) here
          (into-right ts (now ++ es) (sending p ++ es) (into-left now (sending p) es (into-send s p.queue))) was;
      recvs = is.recvs;
    }

-- from an event back to the client
module _ (count t : ℕ) (held out rest : List ℕ) where
  pub once-handed : IsEachOnce count (held ++ (out ++ t ∷ rest)) → IsEachOnce count ((held ++ t ∷ []) ++ (out ++ rest))
  once-handed is =
      once-moved count t (held ++ (out ++ t ∷ rest)) ((held ++ t ∷ []) ++ (out ++ rest)) (held ++ (out ++ rest))
      (into-right held (out ++ t ∷ rest) (out ++ rest) (into-right out (t ∷ rest) rest here)) (into-left (held ++ t ∷ []) held (out ++ rest) (into-end t held)) is

-- what is at the front of a queue
pub front : {X : Type 0} (xs : List X) (x : X) → slice_get xs 0 ≡ Some x → xs ≡ x ∷ drop 1 xs
front [] x e = cc
front (y ∷ xs) x e = let same : y ≡ x = cc in ap (λ z. z ∷ xs) same

-- the event of a send is taken
pub owned-polled_sent : (p : PortState) (c : ClientState) (t : ℕ) (buffer : List ℕ) → next_event p ≡ Some (Sent t buffer) → HasOwners p c → HasOwners (polled p) (record c { sends = c.sends ++ t ∷ [] })
owned-polled_sent p c t buffer e is =
    let es : List PortEvent = drop 1 p.events in
    let was : HasOwners (record p { events = Sent t buffer ∷ es }) c = subst (λ l. HasOwners (record p { events = l }) c) (front p.events (Sent t buffer) e) is in
    record { sends = once-handed p.sends t c.sends (sending p) (sent_tokens es) was.sends; recvs = was.recvs }

-- the event of a received message is taken
pub owned-polled_received : (p : PortState) (c : ClientState) (t : ℕ) (buffer : List ℕ) (from sport prio len : ℕ) → next_event p ≡ Some (Received t buffer from sport prio len) → HasOwners p c
    → HasOwners (polled p) (record c { recvs = c.recvs ++ t ∷ [] })
owned-polled_received p c t buffer from sport prio len e is =
    let es : List PortEvent = drop 1 p.events in
    let was : HasOwners (record p { events = Received t buffer from sport prio len ∷ es }) c = subst (λ l. HasOwners (record p { events = l }) c) (front p.events (Received t buffer from sport prio len) e) is in
    record { sends = was.sends; recvs = once-handed p.recvs t c.recvs (providing p) (received_tokens es) was.recvs }

-- from a place at the port to an event
module _ (count t : ℕ) (held out left events now : List ℕ) where
  pub once-ended : Into t out left → Into t now events → IsEachOnce count (held ++ (out ++ events)) → IsEachOnce count (held ++ (left ++ now))
  once-ended i j is =
      once-moved count t (held ++ (out ++ events)) (held ++ (left ++ now)) (held ++ (left ++ events))
      (into-right held (out ++ events) (left ++ events) (into-left out left events i)) (into-right held (left ++ now) (left ++ events) (into-right left now events j)) is

-- a send is finished
pub owned-finished : (p : PortState) (c : ClientState) (token : ℕ) → HasOwners p c → HasOwners (finished p token) c
owned-finished p c token is = by (send_of p token) refl
  where
    by : (o : Option Sending) → send_of p token ≡ o → HasOwners (ended_by p token o) c
    by None e = is
    by (Some s) e =
        let test : Sending → Bool = λ x. nat_eq x.token token in
        let passes : nat_eq s.token token ≡ true = found-passes test (λ x. x.token) p.queue s e in
        let same : s.token ≡ token = grind (arith, nat_tests) in
        let left : List ℕ = map (λ x. x.token) (without_first test p.queue) in
        let found : Into token (sending p) left = subst (λ t. Into t (sending p) left) same (into-found test (λ x. x.token) p.queue s e) in
        record {
          sends = once-ended p.sends token c.sends (sending p) left (sent_tokens p.events) (sent_tokens (p.events ++ Sent token s.buffer ∷ [])) found (into-sent token s.buffer p.events) is.sends;
          recvs = subst (λ es. IsEachOnce p.recvs (c.recvs ++ (providing p ++ es))) (sym (received-same token s.buffer p.events)) is.recvs;
        }

-- a fragment is taken
pub owned-delivered : (p : PortState) (c : ClientState) (h : FrameHead) (part : List ℕ) → HasOwners p c → HasOwners (delivered p h part) c
owned-delivered p c h part is = by (delivery p h part)
  where
    by : {q : PortState} → Delivery p h part q → HasOwners q c
    by (Delivery.missed e) = is
    by (Delivery.ends r e t) =
        let test : Provided → Bool = takes_at p h in
        let buffer : List ℕ = filled r.buffer h.offset part in
        let left : List ℕ = map (λ x. x.token) (without_first test p.provided) in
        let now : List PortEvent = p.events ++ Received r.token buffer h.src h.sport h.prio h.total ∷ [] in
        record {
          sends = subst (λ es. IsEachOnce p.sends (c.sends ++ (sending p ++ es))) (sym (sent-same r.token buffer h.src h.sport h.prio h.total p.events)) is.sends;
          recvs = once-ended p.recvs r.token c.recvs (providing p) left (received_tokens p.events) (received_tokens now) (into-found test (λ x. x.token) p.provided r e) (into-received r.token buffer h.src h.sport h.prio h.total p.events) is.recvs;
        }
    by (Delivery.goes_on r e t) =
        let test : Provided → Bool = takes_at p h in
        let same : map (λ x. x.token) (with_first test (filling_with h part r) p.provided) ≡ providing p = same-numbers (λ x. x.token) test p.provided r (filling_with h part r) e refl in
        record { sends = is.sends; recvs = subst (λ ts. IsEachOnce p.recvs (c.recvs ++ (ts ++ received_tokens p.events))) (sym same) is.recvs }
