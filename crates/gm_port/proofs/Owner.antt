-- Each call keeps one owner for each token of a port.
use Rattle.std.proofs.Common.{◌≡◌, ◌≢◌, ℕ, ◌+◌, ◌<◌, ◌≤◌, Bool, true, false, ◌||◌, List, [], ◌∷◌, ◌++◌, length, map, drop, nat_eq, nat_lt, eqb, Option, Some, None, refl, sym, ap, subst, ◌∙◌, true≢false, append_assoc, arith, length-append}
use Rattle.std.specs.Prelude.{find}
use Rattle.std.specs.List.{AllByRecursion, list_any, IsDistinct}
use Rattle.std.proofs.lemmas.Bool.{eqb-true, false_from_ne_true}
use Rattle.std.proofs.lemmas.Bool.Decides.{nat_tests}
use Rattle.std.proofs.lemmas.List.{map-append}
use Rattle.std.proofs.lemmas.Map.Steps.{length-le_from_distinct_below}
use Rattle.net_defs.specs.Network.{Apart}
use Rattle.net_defs.proofs.Distinct.{all-push, apart-push, all-insert, apart-insert}
use Rattle.gm_defs.specs.declared.token.TokenPlace.TheVariants.{Queue, Provided as WithBuffer, Event}
use Rattle.gm_defs.specs.declared.frame.FrameHead.{FrameHead}
use Rattle.gm_defs.specs.Token.{Sending, Provided, PortEvent, Sent, Received, PortState, HasOneOwner, sent_tokens, received_tokens, sends_out, recvs_out, has_number, place_of_send, place_of_recv, takes_at}
use Rattle.gm_defs.specs.Port.{with_send, without_first, with_first, sent_with, provided_with, send_of, finished, ended_by, filled, filling_with, delivered, polled}
use Rattle.gm_defs.proofs.Found.{same-numbers}
use Rattle.gm_defs.proofs.Takers.{Delivery, delivery}

-- a number that is none of these differs from each
numbers-new : (t : ℕ) (ts : List ℕ) → has_number ts t ≡ false → AllByRecursion (λ u. t ≢ u) ts
numbers-new t [] e = tt
numbers-new t (u ∷ ts) e = by (nat_eq t u) refl e (numbers-new t ts)
  where
    by : (b : Bool) → nat_eq t u ≡ b → (b || has_number ts t) ≡ false → (has_number ts t ≡ false → AllByRecursion (λ v. t ≢ v) ts) → AllByRecursion (λ v. t ≢ v) (u ∷ ts)
    by true f k r = absurd (true≢false k)
    by false f k r = ((λ same. true≢false (let g : nat_eq t u ≡ true = grind (arith, nat_tests) in sym g ∙ f)), r k)

has_number-append : (ts us : List ℕ) (t : ℕ) → has_number (ts ++ us) t ≡ (has_number ts t || has_number us t)
has_number-append [] us t = refl
has_number-append (x ∷ ts) us t = ap (λ (b : Bool). nat_eq t x || b) (has_number-append ts us t) ∙ assoc (nat_eq t x) (has_number ts t) (has_number us t)
  where
    assoc : (a b c : Bool) → (a || (b || c)) ≡ ((a || b) || c)
    assoc true b c = refl
    assoc false b c = refl

-- a token that has no place is none of those that are out
pub send-free : (p : PortState) (t : ℕ) → place_of_send p t ≡ None → (has_number (map (λ s. s.token) p.queue) t ≡ false) × (has_number (sent_tokens p.events) t ≡ false)
send-free p t e = by (has_number (map (λ s. s.token) p.queue) t) (has_number (sent_tokens p.events) t) refl refl
  where
    by : (a b : Bool) → has_number (map (λ s. s.token) p.queue) t ≡ a → has_number (sent_tokens p.events) t ≡ b → (has_number (map (λ s. s.token) p.queue) t ≡ false) × (has_number (sent_tokens p.events) t ≡ false)
    by true b f g = absurd (let h : place_of_send p t ≡ Some Queue = rw f refl in cc)
    by false true f g = absurd (let h : place_of_send p t ≡ Some Event = rw f (rw g refl) in cc)
    by false false f g = (f, g)

pub recv-free : (p : PortState) (t : ℕ) → place_of_recv p t ≡ None → (has_number (map (λ r. r.token) p.provided) t ≡ false) × (has_number (received_tokens p.events) t ≡ false)
recv-free p t e = by (has_number (map (λ r. r.token) p.provided) t) (has_number (received_tokens p.events) t) refl refl
  where
    by : (a b : Bool) → has_number (map (λ r. r.token) p.provided) t ≡ a → has_number (received_tokens p.events) t ≡ b → (has_number (map (λ r. r.token) p.provided) t ≡ false) × (has_number (received_tokens p.events) t ≡ false)
    by true b f g = absurd (let h : place_of_recv p t ≡ Some WithBuffer = rw f refl in cc)
    by false true f g = absurd (let h : place_of_recv p t ≡ Some Event = rw f (rw g refl) in cc)
    by false false f g = (f, g)

new-among : (ts us : List ℕ) (t : ℕ) → has_number ts t ≡ false → has_number us t ≡ false → AllByRecursion (λ u. t ≢ u) (ts ++ us)
new-among ts us t e f = numbers-new t (ts ++ us) (has_number-append ts us t ∙ rw e f)

-- numbers that are apart and below a bound are no more than it
differ-all : (t : ℕ) (ts : List ℕ) → AllByRecursion (λ u. t ≢ u) ts → AllByRecursion (λ u. eqb t u ≡ false) ts
differ-all t [] all = tt
differ-all t (u ∷ ts) all = (false_from_ne_true _ (λ e. all.0 (eqb-true _ _ e)), differ-all t ts all.1)

distinct-apart : (ts : List ℕ) → Apart ts → IsDistinct eqb ts
unfolding IsDistinct
distinct-apart [] apart = tt
distinct-apart (t ∷ ts) apart = (differ-all t ts apart.0, distinct-apart ts apart.1)

below-all : (ts : List ℕ) (n q : ℕ) → AllByRecursion (λ u. u < n) ts → list_any (eqb q) ts ≡ true → q < n
below-all [] n q all h = absurd (true≢false (sym h))
below-all (u ∷ ts) n q all h = by (eqb q u) refl h (below-all ts n q all.1)
  where
    by : (b : Bool) → eqb q u ≡ b → (b || list_any (eqb q) ts) ≡ true → (list_any (eqb q) ts ≡ true → q < n) → q < n
    by true e k r = let same : q ≡ u = eqb-true q u e in let lt : u < n = all.0 in omega arith
    by false e k r = r k

pub few-numbers : (ts : List ℕ) (n : ℕ) → Apart ts → AllByRecursion (λ u. u < n) ts → length ts ≤ n
few-numbers ts n apart below = length-le_from_distinct_below ts n (distinct-apart ts apart) (λ q. below-all ts n q below)

-- one more among the sends
all-with_send : (P : ℕ → Type 0) (s : Sending) (ss : List Sending) (us : List ℕ) → P s.token → AllByRecursion P (map (λ x. x.token) ss ++ us) → AllByRecursion P (map (λ x. x.token) (with_send s ss) ++ us)
all-with_send P s [] us here all = (here, all)
all-with_send P s (x ∷ ss) us here all = by (nat_lt s.token x.token) refl (all-with_send P s ss us here all.1)
  where
    by : (b : Bool) → nat_lt s.token x.token ≡ b → AllByRecursion P (map (λ y. y.token) (with_send s ss) ++ us) → AllByRecursion P (map (λ y. y.token) (with_send s (x ∷ ss)) ++ us)
    by true e r = rw e (here, all)
    by false e r = rw e (all.0, r)

apart-with_send : (s : Sending) (ss : List Sending) (us : List ℕ) → Apart (map (λ x. x.token) ss ++ us) → AllByRecursion (λ u. s.token ≢ u) (map (λ x. x.token) ss ++ us) → Apart (map (λ x. x.token) (with_send s ss) ++ us)
apart-with_send s [] us apart new = (new, apart)
apart-with_send s (x ∷ ss) us apart new = by (nat_lt s.token x.token) refl (apart-with_send s ss us apart.1 new.1)
  where
    by : (b : Bool) → nat_lt s.token x.token ≡ b → Apart (map (λ y. y.token) (with_send s ss) ++ us) → Apart (map (λ y. y.token) (with_send s (x ∷ ss)) ++ us)
    by true e r = rw e (new, apart)
    by false e r = rw e (all-with_send (λ u. x.token ≢ u) s ss us (λ same. new.0 (sym same)) apart.0, r)

-- one is found, taken out, and put last
module _ {A : Type 0} (f : A → ℕ) (test : A → Bool) where
  pub all-moved : (P : ℕ → Type 0) (xs : List A) (us : List ℕ) (r : A) → find test xs ≡ Some r → AllByRecursion P (map f xs ++ us) → AllByRecursion P (map f (without_first test xs) ++ (us ++ f r ∷ []))
  all-moved P [] us r e all = cc
  all-moved P (x ∷ xs) us r e all = by (test x) refl (all-moved P xs us r)
    where
      by : (b : Bool) → test x ≡ b → (find test xs ≡ Some r → AllByRecursion P (map f xs ++ us) → AllByRecursion P (map f (without_first test xs) ++ (us ++ f r ∷ []))) → AllByRecursion P (map f (without_first test (x ∷ xs)) ++ (us ++ f r ∷ []))
      by true t rest =
          let found : Some x ≡ Some r = sym (let g : find test (x ∷ xs) ≡ Some x = rw t refl in g) ∙ e in
          let it : x ≡ r = cc in
          rw t (subst (AllByRecursion P) (append_assoc (map f xs) us (f r ∷ [])) (all-push P (map f xs ++ us) (f r) all.1 (subst (λ (y : A). P (f y)) it all.0)))
      by false t rest =
          let found : find test xs ≡ Some r = sym (let g : find test (x ∷ xs) ≡ find test xs = rw t refl in g) ∙ e in
          rw t (all.0, rest found all.1)

  pub apart-moved : (xs : List A) (us : List ℕ) (r : A) → find test xs ≡ Some r → Apart (map f xs ++ us) → Apart (map f (without_first test xs) ++ (us ++ f r ∷ []))
  apart-moved [] us r e apart = cc
  apart-moved (x ∷ xs) us r e apart = by (test x) refl (apart-moved xs us r)
    where
      by : (b : Bool) → test x ≡ b → (find test xs ≡ Some r → Apart (map f xs ++ us) → Apart (map f (without_first test xs) ++ (us ++ f r ∷ []))) → Apart (map f (without_first test (x ∷ xs)) ++ (us ++ f r ∷ []))
      by true t rest =
          let found : Some x ≡ Some r = sym (let g : find test (x ∷ xs) ≡ Some x = rw t refl in g) ∙ e in
          let it : x ≡ r = cc in
          let new : AllByRecursion (λ u. f r ≢ u) (map f xs ++ us) = subst (λ (y : A). AllByRecursion (λ u. f y ≢ u) (map f xs ++ us)) it apart.0 in
          rw t (subst Apart (append_assoc (map f xs) us (f r ∷ [])) (apart-push (map f xs ++ us) (f r) apart.1 new))
      by false t rest =
          let found : find test xs ≡ Some r = sym (let g : find test (x ∷ xs) ≡ find test xs = rw t refl in g) ∙ e in
          rw t (all-moved (λ u. f x ≢ u) xs us r found apart.0, rest found apart.1)

-- the tokens of events, one more
sent_tokens-push : (es : List PortEvent) (t : ℕ) (b : List ℕ) → (sent_tokens (es ++ Sent t b ∷ []) ≡ sent_tokens es ++ t ∷ []) × (received_tokens (es ++ Sent t b ∷ []) ≡ received_tokens es)
sent_tokens-push [] t b = (refl, refl)
sent_tokens-push (Sent u c ∷ es) t b = let r = sent_tokens-push es t b in (ap (λ (us : List ℕ). u ∷ us) r.0, r.1)
sent_tokens-push (Received u c from sport prio len ∷ es) t b = let r = sent_tokens-push es t b in (r.0, ap (λ (us : List ℕ). u ∷ us) r.1)

received_tokens-push : (es : List PortEvent) (t : ℕ) (b : List ℕ) (from sport prio len : ℕ) → (sent_tokens (es ++ Received t b from sport prio len ∷ []) ≡ sent_tokens es) × (received_tokens (es ++ Received t b from sport prio len ∷ []) ≡ received_tokens es ++ t ∷ [])
received_tokens-push [] t b from sport prio len = (refl, refl)
received_tokens-push (Sent u c ∷ es) t b from sport prio len = let r = received_tokens-push es t b from sport prio len in (ap (λ (us : List ℕ). u ∷ us) r.0, r.1)
received_tokens-push (Received u c f s p l ∷ es) t b from sport prio len = let r = received_tokens-push es t b from sport prio len in (r.0, ap (λ (us : List ℕ). u ∷ us) r.1)

-- as many events as tokens in them
pub count-events : (es : List PortEvent) → length es ≡ length (sent_tokens es) + length (received_tokens es)
count-events [] = refl
count-events (Sent u c ∷ es) = let r = count-events es in omega (arith, r)
count-events (Received u c f s p l ∷ es) = let r = count-events es in omega (arith, r)

-- no more events than tokens
pub few-events : (p : PortState) → HasOneOwner p → length p.events ≤ p.sends + p.recvs
few-events p one =
    let sends : length (sends_out p) ≤ p.sends = few-numbers (sends_out p) p.sends one.sends_once one.sends_below in
    let recvs : length (recvs_out p) ≤ p.recvs = few-numbers (recvs_out p) p.recvs one.recvs_once one.recvs_below in
    let s = length-append (map (λ (s : Sending). s.token) p.queue) (sent_tokens p.events) in
    let r = length-append (map (λ (r : Provided). r.token) p.provided) (received_tokens p.events) in
    let c = count-events p.events in
    omega (arith, s, r, c, sends, recvs)

-- what is in the front of a list, without what is after it
all-without : (P : ℕ → Type 0) (ts : List ℕ) (u : ℕ) (us : List ℕ) → AllByRecursion P (ts ++ u ∷ us) → AllByRecursion P (ts ++ us)
all-without P [] u us all = all.1
all-without P (t ∷ ts) u us all = (all.0, all-without P ts u us all.1)

apart-without : (ts : List ℕ) (u : ℕ) (us : List ℕ) → Apart (ts ++ u ∷ us) → Apart (ts ++ us)
apart-without [] u us apart = apart.1
apart-without (t ∷ ts) u us apart = (all-without (λ v. t ≢ v) ts u us apart.0, apart-without ts u us apart.1)

-- a send keeps one owner
pub sent_with-one : (p : PortState) (t : ℕ) (b : List ℕ) → HasOneOwner p → t < p.sends → place_of_send p t ≡ None → HasOneOwner (sent_with p t b)
sent_with-one p t b one below none =
    let s : Sending = record { token = t; buffer = b } in
    let free = send-free p t none in
    let new : AllByRecursion (λ u. t ≢ u) (sends_out p) = new-among (map (λ x. x.token) p.queue) (sent_tokens p.events) t free.0 free.1 in
    record {
      sends_once = apart-with_send s p.queue (sent_tokens p.events) one.sends_once new;
      recvs_once = one.recvs_once;
      sends_below = all-with_send (λ u. u < p.sends) s p.queue (sent_tokens p.events) below one.sends_below;
      recvs_below = one.recvs_below;
    }

-- so does a provided token
pub provided_with-one : (p : PortState) (r : Provided) → HasOneOwner p → r.token < p.recvs → place_of_recv p r.token ≡ None → HasOneOwner (provided_with p r)
provided_with-one p r one below none =
    let free = recv-free p r.token none in
    let old : List ℕ = map (λ x. x.token) p.provided in
    let us : List ℕ = received_tokens p.events in
    let new : AllByRecursion (λ u. r.token ≢ u) (old ++ us) = new-among old us r.token free.0 free.1 in
    let more : map (λ x. x.token) (p.provided ++ r ∷ []) ≡ old ++ r.token ∷ [] = map-append (λ (x : Provided). x.token) p.provided (r ∷ []) in
    record {
      sends_once = one.sends_once;
      recvs_once = subst (λ (ts : List ℕ). Apart (ts ++ us)) (sym more) (apart-insert old us r.token one.recvs_once new);
      sends_below = one.sends_below;
      recvs_below = subst (λ (ts : List ℕ). AllByRecursion (λ u. u < p.recvs) (ts ++ us)) (sym more) (all-insert (λ u. u < p.recvs) old us r.token one.recvs_below below);
    }

-- the token of a send that was found
pub found-token : (t : ℕ) (ss : List Sending) (s : Sending) → find (λ x. nat_eq x.token t) ss ≡ Some s → s.token ≡ t
found-token t [] s e = cc
found-token t (x ∷ ss) s e = by (nat_eq x.token t) refl (found-token t ss s)
  where
    by : (b : Bool) → nat_eq x.token t ≡ b → (find (λ y. nat_eq y.token t) ss ≡ Some s → s.token ≡ t) → s.token ≡ t
    by true f r =
        let g : find (λ y. nat_eq y.token t) (x ∷ ss) ≡ Some x = rw f refl in
        let it : x ≡ s = cc in
        let same : x.token ≡ t = grind (arith, nat_tests) in
        sym (ap (λ (y : Sending). y.token) it) ∙ same
    by false f r =
        let g : find (λ y. nat_eq y.token t) (x ∷ ss) ≡ find (λ y. nat_eq y.token t) ss = rw f refl in
        r (sym g ∙ e)

-- a finished send moves to an event
pub finished-one : (p : PortState) (t : ℕ) → HasOneOwner p → HasOneOwner (finished p t)
finished-one p t one = by (send_of p t) refl
  where
    by : (o : Option Sending) → send_of p t ≡ o → HasOneOwner (ended_by p t o)
    by None e = one
    by (Some s) e =
        let token : s.token ≡ t = found-token t p.queue s e in
        let more = sent_tokens-push p.events t s.buffer in
        let behind : sent_tokens p.events ++ s.token ∷ [] ≡ sent_tokens (p.events ++ Sent t s.buffer ∷ []) = ap (λ (u : ℕ). sent_tokens p.events ++ u ∷ []) token ∙ sym more.0 in
        let old : List ℕ = map (λ (x : Provided). x.token) p.provided in
        let front : List ℕ = map (λ (x : Sending). x.token) (without_first (λ x. nat_eq x.token t) p.queue) in
        record {
          sends_once = subst (λ (us : List ℕ). Apart (front ++ us)) behind (apart-moved (λ (x : Sending). x.token) (λ x. nat_eq x.token t) p.queue (sent_tokens p.events) s e one.sends_once);
          recvs_once = subst (λ (us : List ℕ). Apart (old ++ us)) (sym more.1) one.recvs_once;
          sends_below = subst (λ (us : List ℕ). AllByRecursion (λ u. u < p.sends) (front ++ us)) behind (all-moved (λ (x : Sending). x.token) (λ x. nat_eq x.token t) (λ u. u < p.sends) p.queue (sent_tokens p.events) s e one.sends_below);
          recvs_below = subst (λ (us : List ℕ). AllByRecursion (λ u. u < p.recvs) (old ++ us)) (sym more.1) one.recvs_below;
        }

-- and so does the token of a message that came; one that is filling stays where it is
pub delivered-one : (p : PortState) (h : FrameHead) (part : List ℕ) → HasOneOwner p → HasOneOwner (delivered p h part)
delivered-one p h part one = by (delivery p h part)
  where
    by : {q : PortState} → Delivery p h part q → HasOneOwner q
    by (Delivery.missed e) = one
    by (Delivery.ends r e t) =
        let buffer : List ℕ = filled r.buffer h.offset part in
        let more = received_tokens-push p.events r.token buffer h.src h.sport h.prio h.total in
        let old : List ℕ = map (λ (x : Sending). x.token) p.queue in
        let front : List ℕ = map (λ (x : Provided). x.token) (without_first (takes_at p h) p.provided) in
        record {
          sends_once = subst (λ (us : List ℕ). Apart (old ++ us)) (sym more.0) one.sends_once;
          recvs_once = subst (λ (us : List ℕ). Apart (front ++ us)) (sym more.1) (apart-moved (λ (x : Provided). x.token) (takes_at p h) p.provided (received_tokens p.events) r e one.recvs_once);
          sends_below = subst (λ (us : List ℕ). AllByRecursion (λ u. u < p.sends) (old ++ us)) (sym more.0) one.sends_below;
          recvs_below = subst (λ (us : List ℕ). AllByRecursion (λ u. u < p.recvs) (front ++ us)) (sym more.1) (all-moved (λ (x : Provided). x.token) (takes_at p h) (λ u. u < p.recvs) p.provided (received_tokens p.events) r e one.recvs_below);
        }
    by (Delivery.goes_on r e t) =
        let same : map (λ (x : Provided). x.token) (with_first (takes_at p h) (filling_with h part r) p.provided) ≡ map (λ (x : Provided). x.token) p.provided = same-numbers (λ (x : Provided). x.token) (takes_at p h) p.provided r (filling_with h part r) e refl in
        record {
          sends_once = one.sends_once;
          recvs_once = subst (λ (ts : List ℕ). Apart (ts ++ received_tokens p.events)) (sym same) one.recvs_once;
          sends_below = one.sends_below;
          recvs_below = subst (λ (ts : List ℕ). AllByRecursion (λ u. u < p.recvs) (ts ++ received_tokens p.events)) (sym same) one.recvs_below;
        }

-- a polled event's token is the client's
pub polled-one : (p : PortState) → HasOneOwner p → HasOneOwner (polled p)
polled-one p one = by p.events refl
  where
    by : (es : List PortEvent) → p.events ≡ es → HasOneOwner (record p { events = drop 1 es })
    by [] e = subst (λ (us : List PortEvent). HasOneOwner (record p { events = us })) e one
    by (Sent t b ∷ es) e =
        let at : HasOneOwner (record p { events = Sent t b ∷ es }) = subst (λ (us : List PortEvent). HasOneOwner (record p { events = us })) e one in
        record {
          sends_once = apart-without (map (λ x. x.token) p.queue) t (sent_tokens es) at.sends_once;
          recvs_once = at.recvs_once;
          sends_below = all-without (λ u. u < p.sends) (map (λ x. x.token) p.queue) t (sent_tokens es) at.sends_below;
          recvs_below = at.recvs_below;
        }
    by (Received t b from sport prio len ∷ es) e =
        let at : HasOneOwner (record p { events = Received t b from sport prio len ∷ es }) = subst (λ (us : List PortEvent). HasOneOwner (record p { events = us })) e one in
        record {
          sends_once = at.sends_once;
          recvs_once = apart-without (map (λ x. x.token) p.provided) t (received_tokens es) at.recvs_once;
          sends_below = at.sends_below;
          recvs_below = all-without (λ u. u < p.recvs) (map (λ x. x.token) p.provided) t (received_tokens es) at.recvs_below;
        }

-- a port as it is opened has no token
pub opened-one : (sends recvs : ℕ) → HasOneOwner (record { sends = sends; recvs = recvs; queue = []; provided = []; events = [] })
opened-one sends recvs = record { sends_once = tt; recvs_once = tt; sends_below = tt; recvs_below = tt }
