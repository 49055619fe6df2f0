-- Tallies of numbers, as their list changes.
use Rattle.std.proofs.Common.{◌≡◌, ℕ, zero, suc, ◌+◌, ◌-◌, ◌<◌, ◌≤◌, Bool, true, false, ◌||◌, true≢false, nat_eq, nat_lt, List, [], ◌∷◌, ◌++◌, length, map, replicate, set, Option, Some, None, refl, sym, ap, ◌∙◌, arith, if◌then◌else◌}
use Rattle.std.specs.Prelude.{slice_get, slice_index_or, slice_set, option_map}
use Rattle.std.specs.List.{remove}
use Rattle.std.proofs.lemmas.Bool.{lt-ltb}
use Rattle.std.proofs.lemmas.Bool.Decides.{Decides-eqb, nat_tests}
use Rattle.std.proofs.lemmas.Option.{get_or_from_slice_get, slice_get_within}
use Rattle.std.proofs.lemmas.List.{length-replicate, get_or-replicate, length-set, get_or-set_same, get_or-set_other}
use Rattle.gm_tokens.specs.Token.{Token}
use Rattle.gm_defs.specs.Token.{has_number, sent_tokens, received_tokens}
use Rattle.gm_port.specs.declared.event.PortEvent.{PortEvent as Event}
use Rattle.gm_port.specs.declared.event.PortEvent.TheVariants.{Sent as SentEvent, Received as ReceivedEvent}
use Rattle.gm_port.specs.declared.event.ProvidedToken.{ProvidedToken}
use Rattle.gm_port.specs.Held.{provided_at, provided_of, event_at, event_of}
use Rattle.gm_port.specs.Lists.{AreOwnTokens, AreOwnEvents}
use Rattle.gm_port.specs.Tallies.{AreTallied, occurs, one_of, numbers_of}

one-most : (b : Bool) → (if b then 1 else 0) ≤ 1
one-most true = omega arith
one-most false = omega arith

one-same : (k : ℕ) → one_of k k ≡ 1
one-same k = ap (λ b. if b then 1 else 0) ((Decides-eqb k k).1 refl)

one-other : (n k : ℕ) → nat_eq n k ≡ false → one_of n k ≡ 0
one-other n k e = ap (λ b. if b then 1 else 0) e

occurs-append : (n k : ℕ) (ks : List ℕ) → occurs n (ks ++ k ∷ []) ≡ occurs n ks + one_of n k
occurs-append n k [] = omega arith
occurs-append n k (x ∷ ks) = let r = occurs-append n k ks in omega (arith, r)

occurs-few : (n : ℕ) (ks : List ℕ) → occurs n ks ≤ length ks
occurs-few n [] = omega arith
occurs-few n (k ∷ ks) = let r = occurs-few n ks in let s = one-most (nat_eq n k) in omega (arith, r, s)

has-occurs : (n : ℕ) (ks : List ℕ) → nat_lt 0 (occurs n ks) ≡ has_number ks n
has-occurs n [] = refl
has-occurs n (k ∷ ks) = by (nat_eq n k) (has-occurs n ks)
  where
    by : (b : Bool) → nat_lt 0 (occurs n ks) ≡ has_number ks n → nat_lt 0 ((if b then 1 else 0) + occurs n ks) ≡ (b || has_number ks n)
    by true r = lt-ltb 0 (1 + occurs n ks) (omega arith)
    by false r = let e : 0 + occurs n ks ≡ occurs n ks = omega arith in ap (nat_lt 0) e ∙ r

-- the tally of no tokens
pub tallied_none : (count : ℕ) → AreTallied (replicate count 0) []
tallied_none count = record {
  each = λ n low. get_or-replicate count n 0 0 (let long = length-replicate {A = ℕ} count 0 in omega (arith, low, long));
}

-- a count stands in the place of another
moved : (counts ks rest : List ℕ) (k v : ℕ) → AreTallied counts ks → (k < length counts → v ≡ occurs k rest) → ((n : ℕ) → nat_eq n k ≡ false → occurs n rest ≡ occurs n ks) → AreTallied (slice_set counts k v) rest
moved counts ks rest k v a is others = record { each = λ n low. by n low (nat_eq n k) refl }
  where
    by : (n : ℕ) → n < length (slice_set counts k v) → (t : Bool) → nat_eq n k ≡ t → slice_index_or (slice_set counts k v) n 0 ≡ occurs n rest
    by n low true e =
        let same : n ≡ k = (Decides-eqb n k).0 e in
        let long = length-set counts k v in
        let below : k < length counts = omega (arith, low, long, same) in
        ap (λ i. slice_index_or (slice_set counts k v) i 0) same ∙ get_or-set_same counts k v 0 below ∙ is below ∙ ap (λ i. occurs i rest) (sym same)
    by n low false e =
        let differs : n ≡ k → ⊥ = λ f. true≢false (sym ((Decides-eqb n k).1 f) ∙ e) in
        let long = length-set counts k v in
        get_or-set_other counts k n v 0 differs ∙ a.each n (omega (arith, low, long)) ∙ sym (others n e)

-- one number more
pub tallied_more : (counts ks : List ℕ) (k : ℕ) → AreTallied counts ks → AreTallied (slice_set counts k (slice_index_or counts k 0 + 1)) (ks ++ k ∷ [])
tallied_more counts ks k a =
    moved counts ks (ks ++ k ∷ []) k (slice_index_or counts k 0 + 1) a
    (λ below. let is = a.each k below in let more = occurs-append k k ks in let one = one-same k in omega (arith, is, more, one))
    (λ n e. let more = occurs-append n k ks in let none = one-other n k e in omega (arith, more, none))

-- one number less
pub tallied_less : (counts ks rest : List ℕ) (k : ℕ) → AreTallied counts ks → ((n : ℕ) → occurs n ks ≡ one_of n k + occurs n rest) → AreTallied (slice_set counts k (slice_index_or counts k 0 - 1)) rest
tallied_less counts ks rest k a is =
    moved counts ks rest k (slice_index_or counts k 0 - 1) a
    (λ below. let at = a.each k below in let less = is k in let one = one-same k in omega (arith, at, less, one))
    (λ n e. let less = is n in let none = one-other n k e in omega (arith, less, none))

beyond : (xs : List ℕ) (i : ℕ) → length xs ≤ i → slice_index_or xs i 0 ≡ 0
beyond [] i past = refl
beyond (x ∷ xs) zero past = absurd (omega (arith, past))
beyond (x ∷ xs) (suc i) past = beyond xs i (omega (arith, past))

-- no count is greater than the list is long
pub counts_few : (counts ks : List ℕ) (k most : ℕ) → AreTallied counts ks → length ks ≤ most → slice_index_or counts k 0 ≤ most
counts_few counts ks k most a few = by (nat_lt k (length counts)) refl
  where
    by : (b : Bool) → nat_lt k (length counts) ≡ b → slice_index_or counts k 0 ≤ most
    by true e =
        let below : k < length counts = grind (arith, nat_tests) in
        let at = a.each k below in
        let f = occurs-few k ks in
        omega (arith, at, f, few)
    by false e =
        let past : length counts ≤ k = grind (arith, nat_tests) in
        let none : slice_index_or counts k 0 ≡ 0 = beyond counts k past in
        omega (arith, none)

-- whether a number is counted at all
pub has_tallied : (counts ks : List ℕ) (n : ℕ) (b : Bool) → AreTallied counts ks → option_map (nat_lt 0) (slice_get counts n) ≡ Some b → b ≡ has_number ks n
has_tallied counts ks n b a e = by (slice_get counts n) refl
  where
    by : (o : Option ℕ) → slice_get counts n ≡ o → b ≡ has_number ks n
    by None f = let none : None ≡ Some b = sym (ap (option_map (nat_lt 0)) f) ∙ e in cc
    by (Some c) f =
        let some : Some (nat_lt 0 c) ≡ Some b = sym (ap (option_map (nat_lt 0)) f) ∙ e in
        let is : nat_lt 0 c ≡ b = cc in
        let at : slice_index_or counts n 0 ≡ c = get_or_from_slice_get counts n c 0 f in
        sym is ∙ ap (nat_lt 0) (sym at ∙ a.each n (slice_get_within counts n c f)) ∙ has-occurs n ks

-- a provided token more, and one less
pub numbers-more : (rs : List ProvidedToken) (r : ProvidedToken) → numbers_of (rs ++ r ∷ []) ≡ numbers_of rs ++ r.token.number ∷ []
numbers-more [] r = refl
numbers-more (x ∷ rs) r = ap (λ (ks : List ℕ). x.token.number ∷ ks) (numbers-more rs r)

pub numbers-less : (n : ℕ) (rs : List ProvidedToken) (i : ℕ) (r : ProvidedToken) → slice_get rs i ≡ Some r → occurs n (numbers_of rs) ≡ one_of n r.token.number + occurs n (numbers_of (remove rs i))
numbers-less n [] i r e = cc
numbers-less n (x ∷ rs) zero r e = let same : x ≡ r = cc in ap (λ (y : ProvidedToken). one_of n y.token.number + occurs n (numbers_of rs)) same
numbers-less n (x ∷ rs) (suc i) r e = let more = numbers-less n rs i r e in omega (arith, more)

pub numbers-set : (rs : List ProvidedToken) (i : ℕ) (r y : ProvidedToken) → slice_get rs i ≡ Some r → y.token ≡ r.token → numbers_of (set rs i y) ≡ numbers_of rs
numbers-set [] i r y e same = cc
numbers-set (x ∷ rs) zero r y e same = let is : x ≡ r = cc in ap (λ (t : Token). t.number ∷ numbers_of rs) (same ∙ ap (λ (z : ProvidedToken). z.token) (sym is))
numbers-set (x ∷ rs) (suc i) r y e same = ap (λ (ks : List ℕ). x.token.number ∷ ks) (numbers-set rs i r y e same)

pub numbers-long : (rs : List ProvidedToken) → length (numbers_of rs) ≡ length rs
numbers-long [] = refl
numbers-long (r ∷ rs) = ap suc (numbers-long rs)

-- tokens of this port, with one more, and with one less
pub own-more : (host port : ℕ) (rs : List ProvidedToken) (r : ProvidedToken) → AreOwnTokens host port rs → provided_at host port (provided_of r) ≡ r → AreOwnTokens host port (rs ++ r ∷ [])
own-more host port [] r own e = (e, tt)
own-more host port (x ∷ rs) r own e = (own.0, own-more host port rs r own.1 e)

pub own-less : (host port : ℕ) (rs : List ProvidedToken) (i : ℕ) (r : ProvidedToken) → slice_get rs i ≡ Some r → AreOwnTokens host port rs → AreOwnTokens host port (remove rs i)
own-less host port [] i r e own = cc
own-less host port (x ∷ rs) zero r e own = own.1
own-less host port (x ∷ rs) (suc i) r e own = (own.0, own-less host port rs i r e own.1)

pub fewer : (rs : List ProvidedToken) (i : ℕ) (r : ProvidedToken) → slice_get rs i ≡ Some r → length (remove rs i) ≤ length rs
fewer [] i r e = cc
fewer (x ∷ rs) zero r e = omega arith
fewer (x ∷ rs) (suc i) r e = let more = fewer rs i r e in omega (arith, more)

-- own events, with one more
pub events-more : (host port : ℕ) (es : List Event) (e : Event) → AreOwnEvents host port es → event_at host port (event_of e) ≡ e → AreOwnEvents host port (es ++ e ∷ [])
events-more host port [] e own is = (is, tt)
events-more host port (x ∷ es) e own is = (own.0, events-more host port es e own.1 is)

-- an event more
pub sent-more : (es : List Event) (e : Event) → sent_tokens (map event_of (es ++ e ∷ [])) ≡ sent_tokens (map event_of es) ++ sent_tokens (map event_of (e ∷ []))
sent-more [] e = refl
sent-more (SentEvent t b ∷ es) e = ap (λ (ks : List ℕ). t.number ∷ ks) (sent-more es e)
sent-more (ReceivedEvent t b from sport prio len ∷ es) e = sent-more es e

pub received-more : (es : List Event) (e : Event) → received_tokens (map event_of (es ++ e ∷ [])) ≡ received_tokens (map event_of es) ++ received_tokens (map event_of (e ∷ []))
received-more [] e = refl
received-more (SentEvent t b ∷ es) e = received-more es e
received-more (ReceivedEvent t b from sport prio len ∷ es) e = ap (λ (ks : List ℕ). t.number ∷ ks) (received-more es e)

pub sent-few : (es : List Event) → length (sent_tokens (map event_of es)) ≤ length es
sent-few [] = omega arith
sent-few (SentEvent t b ∷ es) = let r = sent-few es in omega (arith, r)
sent-few (ReceivedEvent t b from sport prio len ∷ es) = let r = sent-few es in omega (arith, r)

pub received-few : (es : List Event) → length (received_tokens (map event_of es)) ≤ length es
received-few [] = omega arith
received-few (SentEvent t b ∷ es) = let r = received-few es in omega (arith, r)
received-few (ReceivedEvent t b from sport prio len ∷ es) = let r = received-few es in omega (arith, r)
