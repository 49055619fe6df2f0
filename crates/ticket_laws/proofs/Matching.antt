-- What a finished send and an accepted message leave of sends, tickets and messages that are matched.
use Rattle.std.proofs.Common.{◌≡◌, ◌≢◌, ℕ, zero, suc, Bool, true, false, List, [], ◌∷◌, ◌++◌, length, drop, nat_eq, Option, Some, None, ◌⊎◌, inl, inr, refl, sym, ap, ◌∙◌, subst, arith}
use Rattle.std.specs.Prelude.{slice_get}
use Rattle.std.proofs.lemmas.Bool.Decides.{nat_tests}
use Rattle.gm_defs.specs.declared.message.Message.{Message}
use Rattle.gm_defs.specs.Token.{Sending}
use Rattle.world_defs.specs.Lane.{Ticket}
use Rattle.ticket_laws.specs.Tickets.{IsTicketOf, AreTicketsOf, HasOneTicket, AreMatched}
use Rattle.ticket_laws.proofs.Lists.{get-front, get-last}

pub same-or : (a b : ℕ) → (a ≡ b) ⊎ (a ≢ b)
same-or a b = by (nat_eq a b) refl
  where
    by : (t : Bool) → nat_eq a b ≡ t → (a ≡ b) ⊎ (a ≢ b)
    by true e = inl (grind (arith, nat_tests))
    by false e = inr (λ s. absurd (grind (arith, nat_tests)))

-- what a write at a place leaves of what stands at each
pub data OneAfter (x t : Ticket) (before after : Option Sending) (new : Option Sending) : Type 0 where
  the_one : x ≡ t → after ≡ new → OneAfter x t before after new
  another : x ≢ t → after ≡ before → OneAfter x t before after new

pub tickets-keep : (holds : List ℕ → List ℕ → Type 0) (S T : Ticket → Option Sending) (ts : List Ticket) (ms : List Message) → ((x : Ticket) (i : ℕ) (s : Sending) → slice_get ts i ≡ Some x → S x ≡ Some s → T x ≡ Some s) → AreTicketsOf holds S ts ms → AreTicketsOf holds T ts ms
tickets-keep holds S T [] [] keep are = tt
tickets-keep holds S T [] (m ∷ ms) keep are = absurd are
tickets-keep holds S T (t ∷ ts) [] keep are = absurd are
tickets-keep holds S T (t ∷ ts) (m ∷ ms) keep are =
    let was : IsTicketOf holds S t m = are.0 in
    let first : IsTicketOf holds T t m = record { port = was.port; buffer = was.buffer; there = keep t 0 (record { token = t.token; buffer = was.buffer }) refl was.there; bytes = was.bytes } in
    (first, tickets-keep holds S T ts ms (λ x i. keep x (suc i)) are.1)

pub ticket-send : (holds : List ℕ → List ℕ → Type 0) (S : Ticket → Option Sending) (ts : List Ticket) (ms : List Message) (i : ℕ) (x : Ticket) → AreTicketsOf holds S ts ms → slice_get ts i ≡ Some x → (s : Sending) × (S x ≡ Some s)
ticket-send holds S [] ms i x are e = cc
ticket-send holds S (t ∷ ts) [] i x are e = absurd are
ticket-send holds S (t ∷ ts) (m ∷ ms) zero x are e =
    let same : t ≡ x = cc in
    (record { token = t.token; buffer = are.0.buffer }, ap S (sym same) ∙ are.0.there)
ticket-send holds S (t ∷ ts) (m ∷ ms) (suc i) x are e = ticket-send holds S ts ms i x are.1 e

tickets-push : (holds : List ℕ → List ℕ → Type 0) (S : Ticket → Option Sending) (ts : List Ticket) (ms : List Message) (t : Ticket) (m : Message) → AreTicketsOf holds S ts ms → IsTicketOf holds S t m → AreTicketsOf holds S (ts ++ t ∷ []) (ms ++ m ∷ [])
tickets-push holds S [] [] t m are new = (new, tt)
tickets-push holds S [] (x ∷ ms) t m are new = absurd are
tickets-push holds S (x ∷ ts) [] t m are new = absurd are
tickets-push holds S (x ∷ ts) (y ∷ ms) t m are new = (are.0, tickets-push holds S ts ms t m are.1 new)

tickets-first : (holds : List ℕ → List ℕ → Type 0) (S : Ticket → Option Sending) (t : Ticket) (rest : List Ticket) (ms : List Message) → AreTicketsOf holds S (t ∷ rest) ms → ((s : Sending) × (S t ≡ Some s)) × AreTicketsOf holds S rest (drop 1 ms)
tickets-first holds S t rest [] are = absurd are
tickets-first holds S t rest (m ∷ ms) are =
    let send : (s : Sending) × (S t ≡ Some s) = (record { token = t.token; buffer = are.0.buffer }, are.0.there) in
    (send, are.1)

pub tickets-long : (holds : List ℕ → List ℕ → Type 0) (S : Ticket → Option Sending) (ts : List Ticket) (ms : List Message) → AreTicketsOf holds S ts ms → length ts ≡ length ms
tickets-long holds S [] [] are = refl
tickets-long holds S [] (m ∷ ms) are = absurd are
tickets-long holds S (t ∷ ts) [] are = absurd are
tickets-long holds S (t ∷ ts) (m ∷ ms) are = ap suc (tickets-long holds S ts ms are.1)

-- the ticket at a place is of the message there
pub ticket-at : (holds : List ℕ → List ℕ → Type 0) (S : Ticket → Option Sending) (ts : List Ticket) (ms : List Message) (i : ℕ) (t : Ticket) (m : Message) → AreTicketsOf holds S ts ms → slice_get ts i ≡ Some t → slice_get ms i ≡ Some m
    → IsTicketOf holds S t m
ticket-at holds S [] ms i t m are e d = cc
ticket-at holds S (x ∷ ts) [] i t m are e d = absurd are
ticket-at holds S (x ∷ ts) (y ∷ ms) zero t m are e d =
    let one : x ≡ t = cc in
    let other : y ≡ m = cc in
    subst (λ z. IsTicketOf holds S z m) one (subst (IsTicketOf holds S x) other are.0)
ticket-at holds S (x ∷ ts) (y ∷ ms) (suc i) t m are e d = ticket-at holds S ts ms i t m are.1 e d

-- nothing changes
pub matched-same : (holds : List ℕ → List ℕ → Type 0) (S T : Ticket → Option Sending) (P Q : ℕ → List Ticket) (U V : ℕ → List Message) → ((x : Ticket) → T x ≡ S x) → ((k : ℕ) → Q k ≡ P k) → ((k : ℕ) → V k ≡ U k) → AreMatched holds S P U → AreMatched holds T Q V
matched-same holds S T P Q U V s p u is = record {
  of_messages = λ k.
      subst (λ ts. AreTicketsOf holds T ts (V k)) (sym (p k))
      (subst (AreTicketsOf holds T (P k)) (sym (u k)) (tickets-keep holds S T (P k) (U k) (λ x i y e d. s x ∙ d) (is.of_messages k)));
  one_each = λ x y e.
      let one = is.one_each x y (sym (s x) ∙ e) in
      record {
        lane = one.lane;
        place = one.place;
        there = ap (λ ts. slice_get ts one.place) (p one.lane) ∙ one.there;
        only = λ j i d. one.only j i (ap (λ ts. slice_get ts i) (sym (p j)) ∙ d);
      };
}

-- where a ticket stood before the first ticket on a lane went
data StoodAt (P : ℕ → List Ticket) (k j i : ℕ) (x : Ticket) : Type 0 where
  behind : j ≡ k → slice_get (P k) (suc i) ≡ Some x → StoodAt P k j i x
  elsewhere : j ≢ k → slice_get (P j) i ≡ Some x → StoodAt P k j i x

module _ (holds : List ℕ → List ℕ → Type 0) (S T : Ticket → Option Sending) (P Q : ℕ → List Ticket) (U V : ℕ → List Message) (k : ℕ) (t : Ticket) (rest : List Ticket) where
  -- the first ticket on a lane goes, and its send
  pub matched-finished : P k ≡ t ∷ rest → Q k ≡ rest → V k ≡ drop 1 (U k) → ((j : ℕ) → j ≢ k → Q j ≡ P j) → ((j : ℕ) → j ≢ k → V j ≡ U j) → ((x : Ticket) → OneAfter x t (S x) (T x) None) → AreMatched holds S P U → AreMatched holds T Q V
  matched-finished first left messages others others_too sends is = record { of_messages = tickets; one_each = one_each }
    where
      split : ((s : Sending) × (S t ≡ Some s)) × AreTicketsOf holds S rest (drop 1 (U k))
      split = tickets-first holds S t rest (U k) (subst (λ ts. AreTicketsOf holds S ts (U k)) first (is.of_messages k))

      one : HasOneTicket P t
      one = is.one_each t split.0.0 split.0.1

      at_first : slice_get (P k) 0 ≡ Some t
      at_first = ap (λ ts. slice_get ts 0) first

      -- the ticket stood there alone
      alone : (j i : ℕ) → slice_get (P j) i ≡ Some t → (j ≡ k) × (i ≡ 0)
      alone j i e =
          let here = one.only j i e in
          let at = one.only k 0 at_first in
          (here.0 ∙ sym at.0, here.1 ∙ sym at.1)

      in_rest : (i : ℕ) (x : Ticket) → slice_get rest i ≡ Some x → slice_get (P k) (suc i) ≡ Some x
      in_rest i x e = ap (λ ts. slice_get ts (suc i)) first ∙ e

      stay : (x : Ticket) (s : Sending) → (x ≡ t → ⊥) → S x ≡ Some s → T x ≡ Some s
      stay x s apart e = by (sends x)
        where
          by : OneAfter x t (S x) (T x) None → T x ≡ Some s
          by (the_one same new) = absurd (apart same)
          by (another other new) = new ∙ e

      tickets : (j : ℕ) → AreTicketsOf holds T (Q j) (V j)
      tickets j = by (same-or j k)
        where
          here : AreTicketsOf holds T (Q k) (V k)
          here =
              subst (λ ts. AreTicketsOf holds T ts (V k)) (sym left)
              (subst (AreTicketsOf holds T rest) (sym messages)
              (tickets-keep holds S T rest (drop 1 (U k)) (λ x i s e d. stay x s (λ same. let both = alone k (suc i) (in_rest i x e ∙ ap Some same) in let z = both.1 in omega (arith, z)) d) split.1))

          by : (j ≡ k) ⊎ (j ≢ k) → AreTicketsOf holds T (Q j) (V j)
          by (inl same) = subst (λ i. AreTicketsOf holds T (Q i) (V i)) (sym same) here
          by (inr other) =
              subst (λ ts. AreTicketsOf holds T ts (V j)) (sym (others j other))
              (subst (AreTicketsOf holds T (P j)) (sym (others_too j other))
              (tickets-keep holds S T (P j) (U j) (λ x i s e d. stay x s (λ same. other (alone j i (e ∙ ap Some same)).0) d) (is.of_messages j)))

      stood : (j i : ℕ) (x : Ticket) → slice_get (Q j) i ≡ Some x → StoodAt P k j i x
      stood j i x e = by (same-or j k)
        where
          by : (j ≡ k) ⊎ (j ≢ k) → StoodAt P k j i x
          by (inl same) = behind same (in_rest i x (ap (λ ts. slice_get ts i) (sym (ap Q same ∙ left)) ∙ e))
          by (inr other) = elsewhere other (ap (λ ts. slice_get ts i) (sym (others j other)) ∙ e)

      moved : (x : Ticket) → x ≢ t → HasOneTicket P x → HasOneTicket Q x
      moved x apart was = by (same-or was.lane k) was.place was.there refl
        where
          by : (was.lane ≡ k) ⊎ (was.lane ≢ k) → (i : ℕ) → slice_get (P was.lane) i ≡ Some x → was.place ≡ i → HasOneTicket Q x
          by (inl same) zero e p = absurd (apart (same_some x t (sym e ∙ ap (λ j. slice_get (P j) 0) same ∙ at_first)))
            where
              same_some : (a b : Ticket) → Some a ≡ Some b → a ≡ b
              same_some a b d = cc
          by (inl same) (suc i) e p = record {
            lane = k;
            place = i;
            there = ap (λ ts. slice_get ts i) left ∙ (ap (λ ts. slice_get ts (suc i)) (sym first) ∙ (ap (λ j. slice_get (P j) (suc i)) (sym same) ∙ e));
            only = λ j l d. found j l (stood j l x d);
          }
            where
              found : (j l : ℕ) → StoodAt P k j l x → (j ≡ k) × (l ≡ i)
              found j l (behind at d) = let o = (was.only k (suc l) d).1 in (at, omega (arith, o, p))
              found j l (elsewhere other d) = absurd (other ((was.only j l d).0 ∙ same))
          by (inr far) i e p = record {
            lane = was.lane;
            place = was.place;
            there = ap (λ ts. slice_get ts was.place) (others was.lane far) ∙ was.there;
            only = λ j l d. found j l (stood j l x d);
          }
            where
              found : (j l : ℕ) → StoodAt P k j l x → (j ≡ was.lane) × (l ≡ was.place)
              found j l (behind at d) = absurd (far (sym (was.only k (suc l) d).0))
              found j l (elsewhere other d) = was.only j l d

      one_each : (x : Ticket) (s : Sending) → T x ≡ Some s → HasOneTicket Q x
      one_each x s e = by (sends x)
        where
          by : OneAfter x t (S x) (T x) None → HasOneTicket Q x
          by (the_one same new) = absurd (none s (sym new ∙ e))
            where
              none : (s : Sending) → None ≡ Some s → ⊥
              none s d = cc
          by (another apart new) = moved x apart (is.one_each x s (sym new ∙ e))

get-push : {X : Type 0} (xs : List X) (y x : X) (i : ℕ) → slice_get (xs ++ y ∷ []) i ≡ Some x → ((x ≡ y) × (i ≡ length xs)) ⊎ (slice_get xs i ≡ Some x)
get-push [] y x zero e = let same : x ≡ y = cc in inl (same, refl)
get-push [] y x (suc i) e = cc
get-push (z ∷ xs) y x zero e = inr e
get-push (z ∷ xs) y x (suc i) e = by (get-push xs y x i e)
  where
    by : ((x ≡ y) × (i ≡ length xs)) ⊎ (slice_get xs i ≡ Some x) → ((x ≡ y) × (suc i ≡ suc (length xs))) ⊎ (slice_get xs i ≡ Some x)
    by (inl b) = inl (b.0, ap suc b.1)
    by (inr e) = inr e

-- where a ticket stands once a new one stands behind those on a lane
data StandsAt (P : ℕ → List Ticket) (k j i : ℕ) (x t : Ticket) : Type 0 where
  last : x ≡ t → j ≡ k → i ≡ length (P k) → StandsAt P k j i x t
  before : slice_get (P j) i ≡ Some x → StandsAt P k j i x t

module _ (holds : List ℕ → List ℕ → Type 0) (S T : Ticket → Option Sending) (P Q : ℕ → List Ticket) (U V : ℕ → List Message) (k : ℕ) (t : Ticket) (m : Message) (buffer : List ℕ) where
  -- a ticket more stands behind those on a lane, and its send
  pub matched-accepted : Q k ≡ P k ++ t ∷ [] → V k ≡ U k ++ m ∷ [] → ((j : ℕ) → j ≢ k → Q j ≡ P j) → ((j : ℕ) → j ≢ k → V j ≡ U j) → S t ≡ None → t.port ≡ m.sport → holds buffer m.body → ((x : Ticket) → OneAfter x t (S x) (T x) (Some (record { token = t.token; buffer = buffer }))) → AreMatched holds S P U → AreMatched holds T Q V
  matched-accepted more messages others others_too free port bytes sends is = record { of_messages = tickets; one_each = one_each }
    where
      new : Sending
      new = record { token = t.token; buffer = buffer }

      -- the new ticket stood nowhere
      nowhere : (j i : ℕ) (x : Ticket) → slice_get (P j) i ≡ Some x → x ≢ t
      nowhere j i x e same =
          let s = ticket-send holds S (P j) (U j) i x (is.of_messages j) e in
          none s.0 (sym free ∙ ap S (sym same) ∙ s.1)
        where
          none : (s : Sending) → None ≡ Some s → ⊥
          none s d = cc

      stay : (x : Ticket) (s : Sending) → (x ≡ t → ⊥) → S x ≡ Some s → T x ≡ Some s
      stay x s apart e = by (sends x)
        where
          by : OneAfter x t (S x) (T x) (Some new) → T x ≡ Some s
          by (the_one same now) = absurd (apart same)
          by (another other now) = now ∙ e

      now_there : T t ≡ Some new
      now_there = by (sends t)
        where
          by : OneAfter t t (S t) (T t) (Some new) → T t ≡ Some new
          by (the_one same now) = now
          by (another other now) = absurd (other refl)

      kept : (j : ℕ) → AreTicketsOf holds T (P j) (U j)
      kept j = tickets-keep holds S T (P j) (U j) (λ x i s e d. stay x s (nowhere j i x e) d) (is.of_messages j)

      tickets : (j : ℕ) → AreTicketsOf holds T (Q j) (V j)
      tickets j = by (same-or j k)
        where
          by : (j ≡ k) ⊎ (j ≢ k) → AreTicketsOf holds T (Q j) (V j)
          by (inl same) =
              subst (λ i. AreTicketsOf holds T (Q i) (V i)) (sym same)
              (subst (λ ts. AreTicketsOf holds T ts (V k)) (sym more) (subst (AreTicketsOf holds T (P k ++ t ∷ [])) (sym messages) (tickets-push holds T (P k) (U k) t m (kept k) (record { port = port; buffer = buffer; there = now_there; bytes = bytes }))))
          by (inr other) = subst (λ ts. AreTicketsOf holds T ts (V j)) (sym (others j other)) (subst (AreTicketsOf holds T (P j)) (sym (others_too j other)) (kept j))

      stands : (j i : ℕ) (x : Ticket) → slice_get (Q j) i ≡ Some x → StandsAt P k j i x t
      stands j i x e = by (same-or j k)
        where
          pushed : j ≡ k → ((x ≡ t) × (i ≡ length (P k))) ⊎ (slice_get (P k) i ≡ Some x) → StandsAt P k j i x t
          pushed same (inl b) = last b.0 same b.1
          pushed same (inr d) = before (ap (λ l. slice_get (P l) i) same ∙ d)

          by : (j ≡ k) ⊎ (j ≢ k) → StandsAt P k j i x t
          by (inl same) = pushed same (get-push (P k) t x i (ap (λ ts. slice_get ts i) (sym (ap Q same ∙ more)) ∙ e))
          by (inr other) = before (ap (λ ts. slice_get ts i) (sym (others j other)) ∙ e)

      still : (j i : ℕ) (x : Ticket) → slice_get (P j) i ≡ Some x → slice_get (Q j) i ≡ Some x
      still j i x e = by (same-or j k)
        where
          by : (j ≡ k) ⊎ (j ≢ k) → slice_get (Q j) i ≡ Some x
          by (inl same) = ap (λ ts. slice_get ts i) (ap Q same ∙ more) ∙ get-front (P k) (t ∷ []) i x (ap (λ l. slice_get (P l) i) (sym same) ∙ e)
          by (inr other) = ap (λ ts. slice_get ts i) (others j other) ∙ e

      one_each : (x : Ticket) (s : Sending) → T x ≡ Some s → HasOneTicket Q x
      one_each x s e = by (sends x)
        where
          by : OneAfter x t (S x) (T x) (Some new) → HasOneTicket Q x
          by (the_one same now) = record {
            lane = k;
            place = length (P k);
            there = ap (λ ts. slice_get ts (length (P k))) more ∙ (get-last (P k) t ∙ ap Some (sym same));
            only = λ j i d. found j i (stands j i x d);
          }
            where
              found : (j i : ℕ) → StandsAt P k j i x t → (j ≡ k) × (i ≡ length (P k))
              found j i (last at lane place) = (lane, place)
              found j i (before d) = absurd (nowhere j i x d same)
          by (another apart now) = record {
            lane = was.lane;
            place = was.place;
            there = still was.lane was.place x was.there;
            only = λ j i d. found j i (stands j i x d);
          }
            where
              was : HasOneTicket P x
              was = is.one_each x s (sym now ∙ e)

              found : (j i : ℕ) → StandsAt P k j i x t → (j ≡ was.lane) × (i ≡ was.place)
              found j i (last at lane place) = absurd (apart at)
              found j i (before d) = was.only j i d
