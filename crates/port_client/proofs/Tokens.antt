-- Where the tokens of a port are that its client holds, and how many there are of each.
use Rattle.std.proofs.Common.{◌≡◌, ◌<◌, ◌+◌, ℕ, Bool, true, false, ◌||◌, List, [], ◌∷◌, ◌++◌, length, map, nat_eq, Some, None, option_map, refl, sym, ap, subst, ◌∙◌, arith, if◌then◌else◌}
use Rattle.std.specs.Prelude.{drop, slice_get}
use Rattle.std.specs.List.{AllByRecursion}
use Rattle.std.proofs.lemmas.Bool.Decides.{nat_tests}
use Rattle.std.proofs.lemmas.List.{length-append, length-map}
use Rattle.std.proofs.lemmas.Option.{same_Some, none-some}
use Rattle.gm_defs.specs.Token.{Sending, Provided, PortState, PortEvent, Sent, Received, has_number, sends_out, recvs_out, sent_tokens, received_tokens, place_of_send, place_of_recv}
use Rattle.gm_tokens.specs.Token.{Token, token_at}
use Rattle.gm_port.specs.Held.{send_at, receive_at, event_at, event_of}
use Rattle.world_defs.specs.Client.{ClientState}
use Rattle.world_defs.specs.Sound.{IsEachOnce, HasOwners}
use Rattle.port_client.specs.Back.{numbers_with, AreOwnWith, IsOwnEvent, events_of}

-- a token that was taken from the front of those held
pub record IsTaken (host port : ℕ) (ts : List ℕ) (t : Token) : Type 0 where
  pub first : slice_get ts 0 ≡ Some t.number
  pub own : t ≡ token_at host port t.number

pub taken-is : (host port : ℕ) (ts : List ℕ) (t : Token) → option_map (token_at host port) (slice_get ts 0) ≡ Some t → IsTaken host port ts t
taken-is host port [] t e = absurd (none-some t e)
taken-is host port (k ∷ ks) t e =
    let f : token_at host port k ≡ t = same_Some (token_at host port k) t e in
    record { first = ap (λ x. Some x.number) f; own = sym f ∙ ap (λ x. token_at host port x.number) f }

pub none-taken : (host port : ℕ) (ts : List ℕ) → option_map (token_at host port) (slice_get ts 0) ≡ None → slice_get ts 0 ≡ None
none-taken host port [] e = refl
none-taken host port (k ∷ ks) e = absurd (none-some (token_at host port k) (sym e))

pub put-back : (ts : List ℕ) (k : ℕ) → slice_get ts 0 ≡ Some k → k ∷ drop 1 ts ≡ ts
put-back [] k e = absurd (none-some k e)
put-back (t ∷ ts) k e = ap (λ x. x ∷ ts) (sym (same_Some t k e))

-- a token that is held is in no other place
all-right : {A : Type 0} (P : A → Type 0) (xs ys : List A) → AllByRecursion P (xs ++ ys) → AllByRecursion P ys
all-right P [] ys h = h
all-right P (x ∷ xs) ys h = all-right P xs ys h.1

all-left : {A : Type 0} (P : A → Type 0) (xs ys : List A) → AllByRecursion P (xs ++ ys) → AllByRecursion P xs
all-left P [] ys h = tt
all-left P (x ∷ xs) ys h = (h.0, all-left P xs ys h.1)

absent : (t : ℕ) (ys : List ℕ) → AllByRecursion (λ y. t ≡ y → ⊥) ys → has_number ys t ≡ false
absent t [] h = refl
absent t (y ∷ ys) h = by (nat_eq t y) refl (absent t ys h.1)
  where
    by : (b : Bool) → nat_eq t y ≡ b → has_number ys t ≡ false → b || has_number ys t ≡ false
    by true e r = absurd (h.0 (grind (arith, nat_tests)))
    by false e r = r

nowhere : {A : Type 0} (a b : Bool) (x y : A) → a ≡ false → b ≡ false → (if a then Some x else if b then Some y else None) ≡ None
nowhere true b x y e f = absurd (grind arith)
nowhere false true x y e f = absurd (grind arith)
nowhere false false x y e f = refl

-- a number at the front is below the count, and none of those that are out
module _ (count t : ℕ) (out : List ℕ) where
  front : (l : List ℕ) → slice_get l 0 ≡ Some t → IsEachOnce count (l ++ out) → (t < count) × AllByRecursion (λ y. t ≡ y → ⊥) out
  front [] e is = absurd (none-some t e)
  front (k ∷ ks) e is =
      let f : k ≡ t = same_Some k t e in
      let b = is.below in
      let o = is.once in
      (subst (λ x. x < count) f b.0, subst (λ x. AllByRecursion (λ y. x ≡ y → ⊥) out) f (all-right (λ y. k ≡ y → ⊥) ks out o.0))

pub held-send : (p : PortState) (c : ClientState) (t : ℕ) → slice_get c.sends 0 ≡ Some t → HasOwners p c → (t < p.sends) × (place_of_send p t ≡ None)
held-send p c t e own =
    let sending : List ℕ = map (λ s. s.token) p.queue in
    let f = front p.sends t (sends_out p) c.sends e own.sends in
    (f.0, nowhere (has_number sending t) (has_number (sent_tokens p.events) t) _ _ (absent t sending (all-left (λ y. t ≡ y → ⊥) sending (sent_tokens p.events) f.1)) (absent t (sent_tokens p.events) (all-right (λ y. t ≡ y → ⊥) sending (sent_tokens p.events) f.1)))

pub held-recv : (p : PortState) (c : ClientState) (t : ℕ) → slice_get c.recvs 0 ≡ Some t → HasOwners p c → (t < p.recvs) × (place_of_recv p t ≡ None)
held-recv p c t e own =
    let waiting : List ℕ = map (λ r. r.token) p.provided in
    let f = front p.recvs t (recvs_out p) c.recvs e own.recvs in
    (f.0, nowhere (has_number waiting t) (has_number (received_tokens p.events) t) _ _ (absent t waiting (all-left (λ y. t ≡ y → ⊥) waiting (received_tokens p.events) f.1)) (absent t (received_tokens p.events) (all-right (λ y. t ≡ y → ⊥) waiting (received_tokens p.events) f.1)))

-- how many there are
pub sends-counted : (p : PortState) (c : ClientState) → HasOwners p c → length c.sends + (length p.queue + length (sent_tokens p.events)) ≡ p.sends
sends-counted p c own =
    let all = own.sends.all in
    let a = length-append c.sends (sends_out p) in
    let b = length-append (map (λ s. s.token) p.queue) (sent_tokens p.events) in
    let m = length-map p.queue (λ s. s.token) in
    omega (arith, all, a, b, m)

pub recvs-counted : (p : PortState) (c : ClientState) → HasOwners p c → length c.recvs + (length p.provided + length (received_tokens p.events)) ≡ p.recvs
recvs-counted p c own =
    let all = own.recvs.all in
    let a = length-append c.recvs (recvs_out p) in
    let b = length-append (map (λ r. r.token) p.provided) (received_tokens p.events) in
    let m = length-map p.provided (λ r. r.token) in
    omega (arith, all, a, b, m)

pub events-counted : (es : List PortEvent) → length es ≡ length (sent_tokens es) + length (received_tokens es)
events-counted [] = refl
events-counted (Sent t b ∷ es) = let r = events-counted es in omega (arith, r)
events-counted (Received t b from sport prio len ∷ es) = let r = events-counted es in omega (arith, r)

-- what a port hands out is of that port
pub own-event : (host port : ℕ) (e : PortEvent) → IsOwnEvent host port (event_at host port e)
own-event host port (Sent t b) = refl
own-event host port (Received t b from sport prio len) = refl

pub same-event : (host port : ℕ) (e : PortEvent) → event_of (event_at host port e) ≡ e
same-event host port (Sent t b) = refl
same-event host port (Received t b from sport prio len) = refl

pub own-events : (host port : ℕ) (es : List PortEvent) → AllByRecursion (IsOwnEvent host port) (map (event_at host port) es)
own-events host port [] = tt
own-events host port (e ∷ es) = (own-event host port e, own-events host port es)

pub same-events : (host port : ℕ) (es : List PortEvent) → events_of (map (event_at host port) es) ≡ es
same-events host port [] = refl
same-events host port (e ∷ es) = ap (λ x. x ∷ events_of (map (event_at host port) es)) (same-event host port e) ∙ ap (λ xs. e ∷ xs) (same-events host port es)

pub own-sends : (host port : ℕ) (ss : List Sending) → AreOwnWith host port (map (send_at host port) ss)
own-sends host port [] = tt
own-sends host port (s ∷ ss) = (refl, own-sends host port ss)

pub same-sends : (host port : ℕ) (ss : List Sending) → numbers_with (map (send_at host port) ss) ≡ map (λ s. s.token) ss
same-sends host port [] = refl
same-sends host port (s ∷ ss) = ap (λ xs. s.token ∷ xs) (same-sends host port ss)

pub own-recvs : (host port : ℕ) (rs : List Provided) → AreOwnWith host port (map (receive_at host port) rs)
own-recvs host port [] = tt
own-recvs host port (r ∷ rs) = (refl, own-recvs host port rs)

pub same-recvs : (host port : ℕ) (rs : List Provided) → numbers_with (map (receive_at host port) rs) ≡ map (λ r. r.token) rs
same-recvs host port [] = refl
same-recvs host port (r ∷ rs) = ap (λ xs. r.token ∷ xs) (same-recvs host port rs)
