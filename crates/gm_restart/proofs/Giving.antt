-- Sends come back one after another.
use Rattle.std.proofs.Common.{◌≡◌, ◌<◌, ◌≤◌, ◌+◌, ℕ, zero, suc, Bool, List, [], ◌∷◌, ◌++◌, length, take, drop, Some, None, IsSome, sym, ap, ◌∙◌, subst, arith, append_assoc}
use Rattle.std.specs.Prelude.{slice_get}
use Rattle.std.proofs.lemmas.Option.{none-some}
use Rattle.gm_defs.specs.Port.{send_of, finished}
use Rattle.gm_conn.proofs.Messages.{within, drop-at}
use Rattle.world_defs.specs.Lane.{Ticket}
use Rattle.duo_defs.specs.Duo.{Returned}
use Rattle.duo_defs.specs.Hearing.{finished_all, returned_from}
use Rattle.duo_defs.specs.Theorem.{AreWaiting}
use Rattle.port_client.specs.Serving.{ServedPort}

-- so many of the sends are left, and when they have come back too, all have
pub record GivesBack (p q : ServedPort) (before now : List Returned) (all rest : List Ticket) (known : ℕ) (unsure : Bool) (first place : ℕ) : Type 0 where
  pub waiting : AreWaiting q.state rest
  pub port : record q { state = finished_all q.state rest } ≡ record p { state = finished_all p.state all }
  pub returned : now ++ returned_from known unsure place rest ≡ before ++ returned_from known unsure first all

get-take : {A : Type 0} (n : ℕ) (xs : List A) (k : ℕ) (x : A) → k < n → slice_get xs k ≡ Some x → slice_get (take n xs) k ≡ Some x
get-take zero xs k x low e = absurd (omega (arith, low))
get-take (suc n) [] k x low e = absurd (none-some x e)
get-take (suc n) (y ∷ xs) zero x low e = e
get-take (suc n) (y ∷ xs) (suc k) x low e = get-take n xs k x (omega (arith, low)) e

pub next-left : (n : ℕ) (xs : List Ticket) (k : ℕ) (t : Ticket) → k < n → slice_get xs k ≡ Some t → drop k (take n xs) ≡ t ∷ drop (k + 1) (take n xs)
next-left n xs k t low e = drop-at (take n xs) k t (get-take n xs k t low e)

pub none-left : (n : ℕ) (xs : List Ticket) (k : ℕ) → k < n → n ≤ length xs → slice_get xs k ≡ None → ⊥
none-left n xs k low many e = let w = within xs k (omega (arith, low, many)) in none-some w.0 (sym e ∙ w.1)

pub first-waits : (p q : ServedPort) (before now : List Returned) (all rest tail : List Ticket) (t : Ticket) (known : ℕ) (unsure : Bool) (first place token : ℕ) → GivesBack p q before now all rest known unsure first place
    → rest ≡ t ∷ tail → token ≡ t.token → IsSome (send_of q.state token)
first-waits p q before now all rest tail t known unsure first place token g e same =
    subst (λ k. IsSome (send_of q.state k)) (sym same) (subst (AreWaiting q.state) e g.waiting).0

pub gives-next : (p q after : ServedPort) (before now later : List Returned) (all rest tail : List Ticket) (t : Ticket) (known : ℕ) (unsure : Bool) (first place next token : ℕ)
    → GivesBack p q before now all rest known unsure first place → rest ≡ t ∷ tail → token ≡ t.token → next ≡ suc place
    → after ≡ record q { state = finished q.state token } → later ≡ now ++ record { token = token; known = known; place = place; unsure = unsure } ∷ []
    → GivesBack p after before later all tail known unsure first next
gives-next p q after before now later all rest tail t known unsure first place next token g e same on port more =
    let h : GivesBack p q before now all (t ∷ tail) known unsure first place = subst (λ l. GivesBack p q before now all l known unsure first place) e g in
    let r : Returned = record { token = t.token; known = known; place = place; unsure = unsure } in
    let at : ℕ → ServedPort = λ k. record q { state = finished q.state k } in
    let moved : after ≡ record q { state = finished q.state t.token } = port ∙ ap at same in
    let longer : later ≡ now ++ r ∷ [] = more ∙ ap (λ (k : ℕ). now ++ record { token = k; known = known; place = place; unsure = unsure } ∷ []) same in
    record {
      waiting = subst (λ s. AreWaiting s.state tail) (sym moved) h.waiting.1;
      port = let end : ServedPort → ServedPort = λ s. record s { state = finished_all s.state tail } in ap end moved ∙ h.port;
      returned =
          ap (λ l. l ++ returned_from known unsure next tail) longer
          ∙ (append_assoc now (r ∷ []) (returned_from known unsure next tail) ∙ (ap (λ n. now ++ r ∷ returned_from known unsure n tail) on ∙ h.returned));
    }
