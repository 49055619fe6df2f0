-- The table of sends: what a put, a take and a look-up make of the sends in it.
use Rattle.std.proofs.Common.{◌≡◌, ℕ, zero, suc, ◌+◌, ◌<◌, Bool, true, false, List, [], ◌∷◌, length, map, nat_eq, nat_lt, Some, None, is_some, count_by, cond, refl, sym, ap, ◌∙◌, true≢false, arith}
use Rattle.std.specs.Prelude.{slice_get, slice_set, find}
use Rattle.std.proofs.lemmas.List.Sums.{sum_by-cons}
use Rattle.std.proofs.lemmas.Bool.Decides.{nat_tests}
use Rattle.gm_defs.specs.Token.{Sending, has_number}
use Rattle.gm_defs.specs.Port.{with_send, without_first}
use Rattle.gm_tokens.specs.Token.{Token, token_at}
use Rattle.gm_port.specs.Held.{send_at}
use Rattle.gm_port.specs.Table.{Place, sends_of, held_in, IsTable, AreFree, is_held, is_of, sending_numbers}

-- a place's send
abbrev the_send : Token × List ℕ → Sending
the_send e = record { token = e.0.number; buffer = e.1 }

-- the number of the place k
table-number : (host port k : ℕ) (e : Token × List ℕ) → e.0 ≡ token_at host port k → e.0.number ≡ k
table-number host port k e own = ap (λ (t : Token). t.number) own

-- a send of a lesser number than all of a table stands before them
pub sends-front : (host port k j : ℕ) (s : Sending) (ps : List Place) → s.token ≡ k → k < j → IsTable host port j ps → with_send s (sends_of ps) ≡ s ∷ sends_of ps
sends-front host port k j s [] e lt t = refl
sends-front host port k j s (None ∷ ps) e lt t = sends-front host port k (suc j) s ps e (omega arith) t
sends-front host port k j s (Some p ∷ ps) e lt t =
    let number : p.0.number ≡ j = table-number host port j p t.0 in
    let less : nat_lt s.token p.0.number ≡ true = grind (arith, nat_tests) in
    rw less refl

-- and its number is none of theirs
pub numbers-past : (host port k j : ℕ) (ps : List Place) → k < j → IsTable host port j ps → has_number (sending_numbers (sends_of ps)) k ≡ false
numbers-past host port k j [] lt t = refl
numbers-past host port k j (None ∷ ps) lt t = numbers-past host port k (suc j) ps (omega arith) t
numbers-past host port k j (Some p ∷ ps) lt t =
    let number : p.0.number ≡ j = table-number host port j p t.0 in
    let other : nat_eq k p.0.number ≡ false = grind (arith, nat_tests) in
    rw other (numbers-past host port k (suc j) ps (omega arith) t.1)

-- a number is in the table exactly where its place has a send
pub number-held : (host port k n m : ℕ) (ps : List Place) → m ≡ k + n → IsTable host port k ps → has_number (sending_numbers (sends_of ps)) m ≡ is_held (slice_get ps n)
number-held host port k n m [] at t = refl
number-held host port k zero m (None ∷ ps) at t = numbers-past host port m (suc k) ps (omega arith) t
number-held host port k zero m (Some p ∷ ps) at t =
    let number : p.0.number ≡ k = table-number host port k p t.0 in
    let same : nat_eq m p.0.number ≡ true = grind (arith, nat_tests) in
    rw same refl
number-held host port k (suc n) m (None ∷ ps) at t = number-held host port (suc k) n m ps (omega arith) t
number-held host port k (suc n) m (Some p ∷ ps) at t =
    let number : p.0.number ≡ k = table-number host port k p t.0 in
    let other : nat_eq m p.0.number ≡ false = grind (arith, nat_tests) in
    rw other (number-held host port (suc k) n m ps (omega arith) t.1)

-- a send is found exactly where its number is among those of the sends
pub found-number : (t : ℕ) (ss : List Sending) → is_some (find (is_of t) ss) ≡ has_number (sending_numbers ss) t
found-number t [] = refl
found-number t (x ∷ ss) = by (nat_eq x.token t) refl (nat_eq t x.token) refl (found-number t ss)
  where
    by : (b : Bool) → nat_eq x.token t ≡ b → (d : Bool) → nat_eq t x.token ≡ d → is_some (find (is_of t) ss) ≡ has_number (sending_numbers ss) t
        → is_some (find (is_of t) (x ∷ ss)) ≡ has_number (sending_numbers (x ∷ ss)) t
    by true e true f r = rw e (rw f refl)
    by true e false f r = absurd (true≢false (let same : nat_eq t x.token ≡ true = grind (arith, nat_tests) in sym same ∙ f))
    by false e true f r = absurd (true≢false (let same : nat_eq x.token t ≡ true = grind (arith, nat_tests) in sym same ∙ e))
    by false e false f r = rw e (rw f r)

-- and where its place has one
pub found-held : (host port k n m : ℕ) (ps : List Place) → m ≡ k + n → IsTable host port k ps → is_some (find (is_of m) (sends_of ps)) ≡ is_held (slice_get ps n)
found-held host port k n m ps at t = found-number m (sends_of ps) ∙ number-held host port k n m ps at t

-- a put
pub sends-put : (host port k n m : ℕ) (e : Token × List ℕ) (ps : List Place) → m ≡ k + n → IsTable host port k ps → slice_get ps n ≡ Some None → e.0 ≡ token_at host port m → sends_of (slice_set ps n (Some e)) ≡ with_send (the_send e) (sends_of ps)
sends-put host port k n m e [] at t free own = cc
sends-put host port k zero m e (None ∷ ps) at t free own =
    sym (sends-front host port m (suc k) (the_send e) ps (table-number host port m e own) (omega arith) t)
sends-put host port k zero m e (Some p ∷ ps) at t free own = cc
sends-put host port k (suc n) m e (None ∷ ps) at t free own = sends-put host port (suc k) n m e ps (omega arith) t free own
sends-put host port k (suc n) m e (Some p ∷ ps) at t free own =
    let number : p.0.number ≡ k = table-number host port k p t.0 in
    let mine : e.0.number ≡ m = table-number host port m e own in
    let behind : nat_lt e.0.number p.0.number ≡ false = grind (arith, nat_tests) in
    rw behind (ap (λ (ss : List Sending). the_send p ∷ ss) (sends-put host port (suc k) n m e ps (omega arith) t.1 free own))

pub table-put : (host port k n m : ℕ) (e : Token × List ℕ) (ps : List Place) → m ≡ k + n → IsTable host port k ps → e.0 ≡ token_at host port m → IsTable host port k (slice_set ps n (Some e))
table-put host port k n m e [] at t own = tt
table-put host port k zero m e (None ∷ ps) at t own = (own ∙ ap (token_at host port) (omega arith), t)
table-put host port k zero m e (Some p ∷ ps) at t own = (own ∙ ap (token_at host port) (omega arith), t.1)
table-put host port k (suc n) m e (None ∷ ps) at t own = table-put host port (suc k) n m e ps (omega arith) t own
table-put host port k (suc n) m e (Some p ∷ ps) at t own = (t.0, table-put host port (suc k) n m e ps (omega arith) t.1 own)

-- a take
pub sends-take : (host port k n m : ℕ) (e : Token × List ℕ) (ps : List Place) → m ≡ k + n → IsTable host port k ps → slice_get ps n ≡ Some (Some e) → sends_of (slice_set ps n None) ≡ without_first (λ s. nat_eq s.token m) (sends_of ps)
sends-take host port k n m e [] at t held = cc
sends-take host port k zero m e (None ∷ ps) at t held = cc
sends-take host port k zero m e (Some p ∷ ps) at t held =
    let number : p.0.number ≡ k = table-number host port k p t.0 in
    let same : nat_eq p.0.number m ≡ true = grind (arith, nat_tests) in
    rw same refl
sends-take host port k (suc n) m e (None ∷ ps) at t held = sends-take host port (suc k) n m e ps (omega arith) t held
sends-take host port k (suc n) m e (Some p ∷ ps) at t held =
    let number : p.0.number ≡ k = table-number host port k p t.0 in
    let other : nat_eq p.0.number m ≡ false = grind (arith, nat_tests) in
    rw other (ap (λ (ss : List Sending). the_send p ∷ ss) (sends-take host port (suc k) n m e ps (omega arith) t.1 held))

pub table-take : (host port k n : ℕ) (ps : List Place) → IsTable host port k ps → IsTable host port k (slice_set ps n None)
table-take host port k n [] t = tt
table-take host port k zero (None ∷ ps) t = t
table-take host port k zero (Some p ∷ ps) t = t.1
table-take host port k (suc n) (None ∷ ps) t = table-take host port (suc k) n ps t
table-take host port k (suc n) (Some p ∷ ps) t = (t.0, table-take host port (suc k) n ps t.1)

-- the send of a number is found, with its token, in its place
pub send-found : (host port k n m : ℕ) (e : Token × List ℕ) (ps : List Place) → m ≡ k + n → IsTable host port k ps → slice_get ps n ≡ Some (Some e) → find (λ s. nat_eq s.token m) (sends_of ps) ≡ Some (the_send e)
send-found host port k n m e [] at t held = cc
send-found host port k zero m e (None ∷ ps) at t held = cc
send-found host port k zero m e (Some p ∷ ps) at t held =
    let number : p.0.number ≡ k = table-number host port k p t.0 in
    let same : nat_eq p.0.number m ≡ true = grind (arith, nat_tests) in
    let it : p ≡ e = cc in
    rw same (ap (λ (q : Token × List ℕ). Some (the_send q)) it)
send-found host port k (suc n) m e (None ∷ ps) at t held = send-found host port (suc k) n m e ps (omega arith) t held
send-found host port k (suc n) m e (Some p ∷ ps) at t held =
    let number : p.0.number ≡ k = table-number host port k p t.0 in
    let other : nat_eq p.0.number m ≡ false = grind (arith, nat_tests) in
    rw other (send-found host port (suc k) n m e ps (omega arith) t.1 held)

pub place-own : (host port k n m : ℕ) (e : Token × List ℕ) (ps : List Place) → m ≡ k + n → IsTable host port k ps → slice_get ps n ≡ Some (Some e) → e.0 ≡ token_at host port m
place-own host port k n m e [] at t held = cc
place-own host port k zero m e (None ∷ ps) at t held = cc
place-own host port k zero m e (Some p ∷ ps) at t held =
    let it : p ≡ e = cc in
    sym (ap (λ (q : Token × List ℕ). q.0) it) ∙ t.0 ∙ ap (token_at host port) (omega arith)
place-own host port k (suc n) m e (None ∷ ps) at t held = place-own host port (suc k) n m e ps (omega arith) t held
place-own host port k (suc n) m e (Some p ∷ ps) at t held = place-own host port (suc k) n m e ps (omega arith) t.1 held

-- all that is held is the sends, each with its token
pub held-sends : (host port k : ℕ) (ps : List Place) → IsTable host port k ps → held_in ps ≡ map (send_at host port) (sends_of ps)
held-sends host port k [] t = refl
held-sends host port k (None ∷ ps) t = held-sends host port (suc k) ps t
held-sends host port k (Some p ∷ ps) t =
    let number : p.0.number ≡ k = table-number host port k p t.0 in
    let token : p.0 ≡ token_at host port p.0.number = t.0 ∙ ap (token_at host port) (sym number) in
    let first : p ≡ send_at host port (the_send p) = ap (λ (u : Token). let pair : Token × List ℕ = (u, p.1) in pair) token in
    cc (first, held-sends host port (suc k) ps t.1)

-- free places are a table without sends
pub free-table : (host port k : ℕ) (ps : List Place) → AreFree ps → IsTable host port k ps × (sends_of ps ≡ [])
free-table host port k [] free = (tt, refl)
free-table host port k (None ∷ ps) free = free-table host port (suc k) ps free.1
free-table host port k (Some p ∷ ps) free = absurd (let e : Some p ≡ None = free.0 in cc)

-- as many sends as places with one
pub count-sends : (ps : List Place) → count_by is_some ps ≡ length (sends_of ps)
count-sends [] = refl
count-sends (None ∷ ps) = let r = count-sends ps in omega (arith, r, sum_by-cons (λ p. cond (is_some p) 1 0) None ps)
count-sends (Some p ∷ ps) = let r = count-sends ps in omega (arith, r, sum_by-cons (λ p. cond (is_some p) 1 0) (Some p) ps)

-- a place without a send is free
pub place-free : (n : ℕ) (ps : List Place) → is_held (slice_get ps n) ≡ false → n < length ps → slice_get ps n ≡ Some None
place-free n [] h lt = absurd (omega arith)
place-free zero (None ∷ ps) h lt = refl
place-free zero (Some p ∷ ps) h lt = cc
place-free (suc n) (p ∷ ps) h lt = place-free n ps h (omega arith)
