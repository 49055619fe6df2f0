-- What waits on each lane, told one more line.
use Rattle.std.proofs.Common.{◌≡◌, ℕ, Bool, true, false, ◌&&◌, List, [], ◌∷◌, ◌++◌, map, length, drop, nat_eq, if◌then◌else◌, refl, sym, ap, ◌∙◌, subst, true≢false}
use Rattle.std.specs.Prelude.{◌↔◌, Option, Some, None, unwrap_or}
use Rattle.std.specs.Map.{lookup}
use Rattle.std.proofs.lemmas.List.{append-nil, append_assoc, append_cancel_left, map-append}
use Rattle.gm_defs.specs.declared.message.Message.{Message}
use Rattle.world_defs.specs.Client.{client_bytes}
use Rattle.port_ledgers.specs.declared.lane.Lane.{Lane}
use Rattle.port_ledgers.specs.declared.lane.SentMessage.{SentMessage}
use Rattle.port_ledgers.specs.Bytes.{counts_up}
use Rattle.port_ledgers.specs.Told.{Told, Accepted, Received, is_lane, on_lane, message_on, sent_message, sent_told, received_told, AreInOrder}
use Rattle.port_ledgers.specs.Waiting.{waiting, AreWaiting, IsPut, is_next, after_message}
use Rattle.port_ledgers.proofs.Counting.{equal, same, from-seed, client-counts, client-length}

abbrev pub Queues : Type 0
Queues = List (Lane × List SentMessage)

-- ---- lanes

three : (a b c d : Bool) → (a && (b && (c && d))) ≡ true → (a ≡ true) × (b ≡ true) × (c ≡ true) × (d ≡ true)
three true true true true e = (refl, refl, refl, refl)
three false b c d e = absurd (true≢false (sym e))
three true false c d e = absurd (true≢false (sym e))
three true true false d e = absurd (true≢false (sym e))
three true true true false e = absurd (true≢false (sym e))

one-lane : (a b c d p q r s : ℕ) → a ≡ p → b ≡ q → c ≡ r → d ≡ s
    → (let x : Lane = record { from = a; to = b; port = c; prio = d } in x) ≡ record { from = p; to = q; port = r; prio = s }
one-lane a b c d p q r s e f g h = cc

pub same-lane : (l k : Lane) → is_lane l k ≡ true → l ≡ k
same-lane l k e =
    let h = three (nat_eq l.from k.from) (nat_eq l.to k.to) (nat_eq l.port k.port) (nat_eq l.prio k.prio) e in
    one-lane l.from l.to l.port l.prio k.from k.to k.port k.prio (equal l.from k.from h.0) (equal l.to k.to h.1) (equal l.port k.port h.2) (equal l.prio k.prio h.3)

four : (a b c d : Bool) → a ≡ true → b ≡ true → c ≡ true → d ≡ true → (a && (b && (c && d))) ≡ true
four true true true true x y z w = refl
four false b c d x y z w = absurd (true≢false (sym x))
four true false c d x y z w = absurd (true≢false (sym y))
four true true false d x y z w = absurd (true≢false (sym z))
four true true true false x y z w = absurd (true≢false (sym w))

lane-itself : (l : Lane) → is_lane l l ≡ true
lane-itself l = four (nat_eq l.from l.from) (nat_eq l.to l.to) (nat_eq l.port l.port) (nat_eq l.prio l.prio)
    (same l.from l.from refl) (same l.to l.to refl) (same l.port l.port refl) (same l.prio l.prio refl)

-- ---- lists

more : (S R : List Message) (f : SentMessage → Message) (W : List SentMessage) (m : SentMessage) → S ≡ R ++ map f W → S ++ (f m ∷ []) ≡ (R ++ []) ++ map f (W ++ m ∷ [])
more S R f W m e =
    ap (λ s. s ++ (f m ∷ [])) e ∙ append_assoc R (map f W) (f m ∷ []) ∙ ap (λ x. R ++ x) (sym (map-append f W (m ∷ []))) ∙ ap (λ r. r ++ map f (W ++ m ∷ [])) (sym (append-nil R))

less : (S R : List Message) (f : SentMessage → Message) (W : List SentMessage) → S ≡ R ++ map f W → S ++ [] ≡ (R ++ []) ++ map f W
less S R f W e = append-nil S ∙ e ∙ ap (λ r. r ++ map f W) (sym (append-nil R))

-- ---- the message that waits longest

all-three : (a b c : Bool) → (a && b && c) ≡ true → (a ≡ true) × (b ≡ true) × (c ≡ true)
all-three true true true e = (refl, refl, refl)
all-three false b c e = absurd (true≢false (sym e))
all-three true false c e = absurd (true≢false (sym e))
all-three true true false e = absurd (true≢false (sym e))

join-three : (a b c : Bool) → a ≡ true → b ≡ true → c ≡ true → (a && b && c) ≡ true
join-three true true true x y z = refl
join-three false b c x y z = absurd (true≢false (sym x))
join-three true false c x y z = absurd (true≢false (sym y))
join-three true true false x y z = absurd (true≢false (sym z))

one-message : (l : Lane) (s t : ℕ) (bs cs : List ℕ) → s ≡ t → bs ≡ cs → message_on l s bs ≡ message_on l t cs
one-message l s t bs cs e f = ap (λ x. message_on l x bs) e ∙ ap (λ x. message_on l t x) f

-- what comes next is the message that was sent
next-is : (l : Lane) (sport : ℕ) (body : List ℕ) (m : SentMessage) (ms : List SentMessage) → is_next sport body (m ∷ ms) ≡ true → message_on l sport body ≡ sent_message l m
next-is l sport body m ms e =
    let h = all-three (nat_eq m.sport sport) (nat_eq m.len (length body)) (counts_up m.seed body) e in
    let bytes : body ≡ client_bytes m.len m.seed = from-seed m.seed body h.2 ∙ ap (λ n. client_bytes n m.seed) (sym (equal m.len (length body) h.1)) in
    one-message l sport m.sport body (client_bytes m.len m.seed) (sym (equal m.sport sport h.0)) bytes

-- and the message that was sent comes next
is-next : (l : Lane) (sport : ℕ) (body : List ℕ) (m : SentMessage) (ms : List SentMessage) → sent_message l m ≡ message_on l sport body → is_next sport body (m ∷ ms) ≡ true
is-next l sport body m ms e =
    let port : m.sport ≡ sport = ap (λ (x : Message). x.sport) e in
    let bytes : client_bytes m.len m.seed ≡ body = ap (λ (x : Message). x.body) e in
    join-three (nat_eq m.sport sport) (nat_eq m.len (length body)) (counts_up m.seed body) (same m.sport sport port)
    (same m.len (length body) (sym (client-length m.seed m.len) ∙ ap length bytes)) (ap (counts_up m.seed) (sym bytes) ∙ client-counts m.seed m.len)

first-is : (l : Lane) (sport : ℕ) (body : List ℕ) (rest : List Message) (W : List SentMessage) → map (sent_message l) W ≡ message_on l sport body ∷ rest → is_next sport body W ≡ true
first-is l sport body rest [] e = cc
first-is l sport body rest (m ∷ ms) e = let h : sent_message l m ≡ message_on l sport body = cc in is-next l sport body m ms h

fewer : (S R : List Message) (l : Lane) (sport : ℕ) (body : List ℕ) (W : List SentMessage) → is_next sport body W ≡ true → S ≡ R ++ map (sent_message l) W
    → S ++ [] ≡ (R ++ (message_on l sport body ∷ [])) ++ map (sent_message l) (after_message sport body W)
fewer S R l sport body [] next e = absurd (true≢false (sym next))
fewer S R l sport body (m ∷ ms) next e =
    let x : message_on l sport body ≡ sent_message l m = next-is l sport body m ms next in
    let rest : after_message sport body (m ∷ ms) ≡ ms = ap (λ b. if b then ms else m ∷ ms) next in
    append-nil S ∙ e ∙ ap (λ y. R ++ y ∷ map (sent_message l) ms) (sym x) ∙ sym (append_assoc R (message_on l sport body ∷ []) (map (sent_message l) ms))
    ∙ ap (λ y. (R ++ (message_on l sport body ∷ [])) ++ map (sent_message l) y) (sym rest)

-- ---- the lines

pub put_old : (q r : Queues) (l : Lane) → IsPut q r l (waiting q l) → (k : Lane) → waiting r k ≡ waiting q k
put_old q r l put k = put.each k ∙ by (is_lane l k) refl
  where
    by : (b : Bool) → is_lane l k ≡ b → (if b then waiting q l else waiting q k) ≡ waiting q k
    by true e = ap (waiting q) (same-lane l k e)
    by false e = refl

pub put_same : (q : Queues) (l : Lane) → IsPut q q l (waiting q l)
put_same q l = record { each = λ k. by k (is_lane l k) refl }
  where
    by : (k : Lane) (b : Bool) → is_lane l k ≡ b → waiting q k ≡ (if b then waiting q l else waiting q k)
    by k true e = sym (ap (waiting q) (same-lane l k e))
    by k false e = refl

-- a map that was updated at one lane
pub put_from : (q r : Queues) (l : Lane) (ms : List SentMessage) → ((k : Lane) → lookup (is_lane k) r ≡ (if is_lane l k then Some ms else lookup (is_lane k) q)) → IsPut q r l ms
put_from q r l ms e = record { each = λ k. ap (λ o. unwrap_or o []) (e k) ∙ by (is_lane l k) (lookup (is_lane k) q) }
  where
    by : (b : Bool) (o : Option (List SentMessage)) → unwrap_or (if b then Some ms else o) [] ≡ (if b then ms else unwrap_or o [])
    by true o = refl
    by false o = refl

-- the same where what stands at the lane is known otherwise
pub put_new : (q r : Queues) (l : Lane) (ws ms : List SentMessage) → ws ≡ ms → ((k : Lane) → lookup (is_lane k) r ≡ (if is_lane l k then Some ws else lookup (is_lane k) q)) → IsPut q r l ms
put_new q r l ws ms w e = put_from q r l ms (λ k. e k ∙ ap (λ x. if is_lane l k then Some x else lookup (is_lane k) q) w)

-- what waits on a lane that has a queue
pub waiting-some : (q : Queues) (l : Lane) (ws : List SentMessage) → Some ws ≡ lookup (is_lane l) q → waiting q l ≡ ws
waiting-some q l ws e = ap (λ o. unwrap_or o []) (sym e)

-- and on one that has none
pub waiting-none : (q : Queues) (l : Lane) → None ≡ lookup (is_lane l) q → waiting q l ≡ []
waiting-none q l e = ap (λ o. unwrap_or o []) (sym e)

-- before any line nothing waits
pub none_waiting : AreWaiting [] []
none_waiting = record { each = λ k. refl }

-- what waits stays
pub still_waiting : (past : List Told) (q r : Queues) (l : Lane) → IsPut q r l (waiting q l) → AreWaiting past q → AreWaiting past r
still_waiting past q r l put told = record {
  each = λ k. told.each k ∙ ap (λ w. received_told k past ++ map (sent_message k) w) (sym (put_old q r l put k));
}

-- what was sent by a lane, once a message was sent
one-sent : (past : List Told) (q r : Queues) (l : Lane) (m : SentMessage) → IsPut q r l (waiting q l ++ m ∷ []) → AreWaiting past q → (k : Lane)
    → sent_told k past ++ on_lane k l (sent_message l m) ≡ (received_told k past ++ []) ++ map (sent_message k) (waiting r k)
one-sent past q r l m put told k = by (is_lane l k) refl (put.each k)
  where
    by : (b : Bool) → is_lane l k ≡ b → waiting r k ≡ (if b then waiting q l ++ m ∷ [] else waiting q k)
        → sent_told k past ++ (if b then sent_message l m ∷ [] else []) ≡ (received_told k past ++ []) ++ map (sent_message k) (waiting r k)
    by true e w = subst (λ (j : Lane). sent_told j past ++ (sent_message l m ∷ []) ≡ (received_told j past ++ []) ++ map (sent_message j) (waiting r k)) (same-lane l k e)
        (more (sent_told l past) (received_told l past) (sent_message l) (waiting q l) m (told.each l) ∙ ap (λ x. (received_told l past ++ []) ++ map (sent_message l) x) (sym w))
    by false e w = less (sent_told k past) (received_told k past) (sent_message k) (waiting q k) (told.each k) ∙ ap (λ x. (received_told k past ++ []) ++ map (sent_message k) x) (sym w)

-- a message was sent
pub sent_waits : (past : List Told) (q r : Queues) (l : Lane) (m : SentMessage) (token : ℕ) → IsPut q r l (waiting q l ++ m ∷ []) → AreWaiting past q → AreWaiting (Accepted l m token ∷ past) r
sent_waits past q r l m token put told = record { each = one-sent past q r l m put told }

-- what was sent, once the message that waited longest on its lane was received
one-received : (past : List Told) (q : Queues) (l : Lane) (sport : ℕ) (body : List ℕ) → is_next sport body (waiting q l) ≡ true → AreWaiting past q → (k : Lane)
    → sent_told k past ++ [] ≡ (received_told k past ++ on_lane k l (message_on l sport body)) ++ map (sent_message k) (if is_lane l k then after_message sport body (waiting q l) else waiting q k)
one-received past q l sport body next told k = by (is_lane l k) refl
  where
    by : (b : Bool) → is_lane l k ≡ b
        → sent_told k past ++ [] ≡ (received_told k past ++ (if b then message_on l sport body ∷ [] else [])) ++ map (sent_message k) (if b then after_message sport body (waiting q l) else waiting q k)
    by true e = subst (λ (j : Lane). sent_told j past ++ [] ≡ (received_told j past ++ (message_on l sport body ∷ [])) ++ map (sent_message j) (after_message sport body (waiting q l))) (same-lane l k e)
        (fewer (sent_told l past) (received_told l past) l sport body (waiting q l) next (told.each l))
    by false e = less (sent_told k past) (received_told k past) (sent_message k) (waiting q k) (told.each k)

-- a message was received
pub received_waits : (past : List Told) (q r : Queues) (l : Lane) (sport : ℕ) (body : List ℕ) (token : ℕ) → is_next sport body (waiting q l) ≡ true
    → IsPut q r l (after_message sport body (waiting q l)) → AreWaiting past q → AreWaiting (Received l sport body token ∷ past) r
received_waits past q r l sport body token next put told = record {
  each = λ k. one-received past q l sport body next told k ∙ ap (λ w. (received_told k past ++ on_lane k l (message_on l sport body)) ++ map (sent_message k) w) (sym (put.each k));
}

-- no message was received
pub not_received : (past : List Told) (q r : Queues) (l : Lane) (sport : ℕ) (body : List ℕ) → is_next sport body (waiting q l) ≡ false
    → IsPut q r l (after_message sport body (waiting q l)) → AreWaiting past q → AreWaiting past r
not_received past q r l sport body not_next put told =
    still_waiting past q r l (subst (IsPut q r l) (ap (λ b. if b then drop 1 (waiting q l) else waiting q l) not_next) put) told

-- it is right exactly where the message that waits longest is the one
pub next_is_right : (past : List Told) (q : Queues) (l : Lane) (sport : ℕ) (body : List ℕ) (token : ℕ) → AreWaiting past q → (is_next sport body (waiting q l) ≡ true) ↔ AreInOrder (Received l sport body token ∷ past)
next_is_right past q l sport body token told = (forth, back)
  where
    forth : is_next sport body (waiting q l) ≡ true → AreInOrder (Received l sport body token ∷ past)
    forth next = record {
      each = λ k. record {
        rest = map (sent_message k) (if is_lane l k then after_message sport body (waiting q l) else waiting q k);
        both = one-received past q l sport body next told k;
      };
    }

    back : AreInOrder (Received l sport body token ∷ past) → is_next sport body (waiting q l) ≡ true
    back order =
        let x = message_on l sport body in
        let S = sent_told l past in
        let R = received_told l past in
        let p = order.each l in
        let there : S ≡ (R ++ (x ∷ [])) ++ p.rest =
        sym (append-nil S) ∙ p.both ∙ ap (λ b. (R ++ (if b then x ∷ [] else [])) ++ p.rest) (lane-itself l) in
        first-is l sport body p.rest (waiting q l)
        (append_cancel_left R (map (sent_message l) (waiting q l)) (x ∷ p.rest) (sym (told.each l) ∙ there ∙ append_assoc R (x ∷ []) p.rest))
