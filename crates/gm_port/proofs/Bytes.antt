-- What comes back in a send's buffer, and in a received one.
use Rattle.std.proofs.Common.{◌≡◌, ◌+◌, ℕ, Bool, true, false, ◌||◌, List, [], ◌∷◌, ◌++◌, length, map, take, drop, nat_eq, nat_lt, Some, refl, ap, ◌∙◌, true≢false, arith, append_assoc, length-append, length-drop}
use Rattle.std.specs.Prelude.{find}
use Rattle.std.proofs.lemmas.Bool.Decides.{nat_tests}
use Rattle.gm_defs.specs.Token.{Sending, Sent, has_number}
use Rattle.gm_defs.specs.Port.{with_send, without_first, sent_with, finished, ended_by, filled}
use Rattle.gm_defs.proofs.Found.{joined-front}
use Rattle.gm_defs.proofs.Numbers.{length-take}
use Rattle.gm_port.specs.Laws.{BufferComesBack, FragmentStandsInPlace}
use Rattle.gm_port.proofs.Owner.{send-free}

-- a send that joins others of other tokens is found by its token, and leaves them as they were
joined-found : (s : Sending) (ss : List Sending) (t : ℕ) → s.token ≡ t → has_number (map (λ x. x.token) ss) t ≡ false → (find (λ x. nat_eq x.token t) (with_send s ss) ≡ Some s) × (without_first (λ x. nat_eq x.token t) (with_send s ss) ≡ ss)
joined-found s [] t e free = let same : nat_eq s.token t ≡ true = grind (arith, nat_tests) in (rw same refl, rw same refl)
joined-found s (x ∷ ss) t e free = by (nat_lt s.token x.token) refl (nat_eq t x.token) refl free (joined-found s ss t e)
  where
    same : nat_eq s.token t ≡ true
    same = grind (arith, nat_tests)

    by : (b : Bool) → nat_lt s.token x.token ≡ b → (d : Bool) → nat_eq t x.token ≡ d → (d || has_number (map (λ y. y.token) ss) t) ≡ false → (has_number (map (λ y. y.token) ss) t ≡ false → (find (λ y. nat_eq y.token t) (with_send s ss) ≡ Some s) × (without_first (λ y. nat_eq y.token t) (with_send s ss) ≡ ss)) → (find (λ y. nat_eq y.token t) (with_send s (x ∷ ss)) ≡ Some s) × (without_first (λ y. nat_eq y.token t) (with_send s (x ∷ ss)) ≡ x ∷ ss)
    by b f true g h r = absurd (true≢false h)
    by true f false g h r = (rw f (rw same refl), rw f (rw same refl))
    by false f false g h r =
        let other : nat_eq x.token t ≡ false = grind (arith, nat_tests) in
        let rest = r h in
        (rw f (rw other rest.0), rw f (rw other (ap (λ (ys : List Sending). x ∷ ys) rest.1)))

pub buffer-back : BufferComesBack
buffer-back p t b none =
    let s : Sending = record { token = t; buffer = b } in
    let free = send-free p t none in
    let found = joined-found s p.queue t refl free.0 in
    let ended : finished (sent_with p t b) t ≡ ended_by (sent_with p t b) t (Some s) = ap (ended_by (sent_with p t b) t) found.0 in
    ended ∙ ap (λ (q : List Sending). record p { queue = q; events = p.events ++ Sent t b ∷ [] }) found.1

take-front : (m rest : List ℕ) → take (length m) (m ++ rest) ≡ m
take-front [] rest = refl
take-front (x ∷ m) rest = ap (λ (ys : List ℕ). x ∷ ys) (take-front m rest)

drop-front : (m rest : List ℕ) → drop (length m) (m ++ rest) ≡ rest
drop-front [] rest = refl
drop-front (x ∷ m) rest = drop-front m rest

pub fragment-in-place : FragmentStandsInPlace
fragment-in-place b m o lt =
    let front : List ℕ = take o b in
    let rest : List ℕ = drop (o + length m) b in
    let long : o ≡ length front = let k = length-take o b in omega (arith, k, lt) in
    let past : o + length m ≡ length (front ++ m) = let k = length-append front m in omega (arith, k, long) in
    let at_end : filled b o m ≡ (front ++ m) ++ rest = joined-front front m rest in
    let at_start : filled b o m ≡ front ++ (m ++ rest) = at_end ∙ append_assoc front m rest in
    let a = length-append (front ++ m) rest in
    let c = length-drop (o + length m) b in
    record {
      same_length = ap length at_end ∙ omega (arith, a, c, past, lt);
      in_place = ap (λ l. take (length m) (drop o l)) at_start ∙ ap (λ k. take (length m) (drop k (front ++ (m ++ rest)))) long ∙ ap (take (length m)) (drop-front front (m ++ rest)) ∙ take-front m rest;
      in_front = ap (take o) at_start ∙ ap (λ k. take k (front ++ (m ++ rest))) long ∙ take-front front (m ++ rest);
      others = ap (drop (o + length m)) at_end ∙ ap (λ k. drop k ((front ++ m) ++ rest)) past ∙ drop-front (front ++ m) rest;
    }
