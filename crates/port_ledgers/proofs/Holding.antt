-- The tokens that clients hold, told one more line.
use Rattle.std.proofs.Common.{◌≡◌, ℕ, ◌+◌, ◌<◌, Bool, true, false, not, List, [], ◌∷◌, ◌++◌, length, nat_eq, nat_lt, if◌then◌else◌, ◌||◌, Option, Some, None, Result, Ok, Err, IfOk, OnOk, refl, sym, ap, ◌∙◌, subst, arith, true≢false}
use Rattle.std.specs.Prelude.{◌↔◌}
use Rattle.std.specs.Map.{lookup}
use Rattle.std.proofs.lemmas.Bool.Decides.{nat_tests}
use Rattle.gm_defs.specs.Token.{has_number}
use Rattle.gm_defs.proofs.Choices.{both}
use Rattle.gm_defs.specs.Port.{without_first}
use Rattle.world_defs.specs.Client.{new_client}
use Rattle.port_ledgers.specs.declared.lane.Lane.{Lane}
use Rattle.port_ledgers.specs.declared.lane.SentMessage.{SentMessage}
use Rattle.port_ledgers.specs.declared.lane.PortName.{PortName}
use Rattle.port_ledgers.specs.Told.{Told, Opened, Closed, Provided, Accepted, Returned, Received}
use Rattle.port_ledgers.specs.Held.{OpenPort, is_port, port_of, port_from, port_told, IsOut, MayBeSaidOf, AreTokensRight, AreHeld, IsPortPut, is_out, with_back, with_sends, with_recvs, may_be_said, port_for, IsToldTo}
use Rattle.port_ledgers.proofs.Counting.{equal, same, two}

abbrev pub Ports : Type 0
Ports = List (PortName × OpenPort)

one-port : (a b c d : ℕ) → a ≡ c → b ≡ d → (let x : PortName = record { host = a; port = b } in x) ≡ record { host = c; port = d }
one-port a b c d e f = cc

same-port : (a b : PortName) → is_port a b ≡ true → a ≡ b
same-port a b e = let h = both (nat_eq a.host b.host) (nat_eq a.port b.port) e in one-port a.host a.port b.host b.port (equal a.host b.host h.0) (equal a.port b.port h.1)

-- ---- tests

below : (a b : ℕ) → nat_lt a b ≡ true → a < b
below a b e = grind (arith, nat_tests)

is-below : (a b : ℕ) → a < b → nat_lt a b ≡ true
is-below a b e = grind (arith, nat_tests)

not-true : (b : Bool) → not b ≡ true → b ≡ false
not-true true e = absurd (true≢false (sym e))
not-true false e = refl

out : (count : ℕ) (held : List ℕ) (token : ℕ) → (is_out count held token ≡ true) ↔ IsOut count held token
out count held token = (forth, back)
  where
    forth : is_out count held token ≡ true → IsOut count held token
    forth e = let h = both (nat_lt token count) (not (has_number held token)) e in (below token count h.0, not-true (has_number held token) h.1)

    back : IsOut count held token → is_out count held token ≡ true
    back h = two (nat_lt token count) (not (has_number held token)) (is-below token count h.0) (ap not h.1)

nothing : {B : Type 0} → false ≡ true → B
nothing e = absurd (true≢false (sym e))

-- the test is what may be said
pub said : (t : Told) (o : Option OpenPort) → (may_be_said t o ≡ true) ↔ MayBeSaidOf t o
said (Opened a sends recvs) o = ((λ e. tt), (λ u. refl))
said (Closed a count) None = ((λ e. nothing e), (λ u. absurd u))
said (Closed a count) (Some p) = ((λ e. equal (count + length p.client.recvs) p.recvs e), (λ e. same (count + length p.client.recvs) p.recvs e))
said (Provided a token) None = ((λ e. nothing e), (λ u. absurd u))
said (Provided a token) (Some p) = ((λ e. e), (λ e. e))
said (Accepted l m token) None = ((λ e. nothing e), (λ u. absurd u))
said (Accepted l m token) (Some p) = ((λ e. e), (λ e. e))
said (Returned a token) None = ((λ e. nothing e), (λ u. absurd u))
said (Returned a token) (Some p) = out p.sends p.client.sends token
said (Received l sport body token) None = ((λ e. nothing e), (λ u. absurd u))
said (Received l sport body token) (Some p) = out p.recvs p.client.recvs token

-- ---- the ledger

-- the answer is right
pub said_right : (past : List Told) (q r : Ports) (t : Told) (is : Bool) → IsToldTo q r t is → AreHeld past q → (is ≡ true) ↔ AreTokensRight past t
said_right past q r t is told held =
    subst (λ b. (b ≡ true) ↔ AreTokensRight past t) (sym told.said)
    (subst (λ o. (may_be_said t (port_for q t) ≡ true) ↔ MayBeSaidOf t o) (held.each (port_of t)) (said t (port_for q t)))

-- a line that may be said is right
pub may_right : (past : List Told) (q : Ports) (t : Told) → may_be_said t (port_for q t) ≡ true → AreHeld past q → AreTokensRight past t
may_right past q t e held = subst (MayBeSaidOf t) (held.each (port_of t)) ((said t (port_for q t)).0 e)

-- a port as it is kept, once a line was told
put-told : (past : List Told) (q r : Ports) (t : Told) → IsPortPut q r (port_of t) (port_from t (port_for q t)) → AreHeld past q → (b : PortName)
    → lookup (is_port b) r ≡ (if is_port (port_of t) b then port_from t (port_told b past) else port_told b past)
put-told past q r t put held b = by (is_port (port_of t) b) refl (put.each b)
  where
    by : (c : Bool) → is_port (port_of t) b ≡ c → lookup (is_port b) r ≡ (if c then port_from t (port_for q t) else lookup (is_port b) q)
        → lookup (is_port b) r ≡ (if c then port_from t (port_told b past) else port_told b past)
    by true e w = w ∙ ap (port_from t) (held.each (port_of t)) ∙ ap (λ a. port_from t (port_told a past)) (same-port (port_of t) b e)
    by false e w = w ∙ held.each b

-- a line that may be said is kept
pub told_held : (past : List Told) (q r : Ports) (t : Told) (is : Bool) → IsToldTo q r t is → is ≡ true → AreHeld past q → AreHeld (t ∷ past) r
told_held past q r t is told e held =
    let put = subst (IsPortPut q r (port_of t)) (ap (λ b. if b then port_from t (port_for q t) else port_for q t) e) told.put in
    record { each = put-told past q r t put held }

-- where a port stays as it is, nothing is told
pub kept_held : (past : List Told) (q r : Ports) (t : Told) → IsPortPut q r (port_of t) (port_for q t) → AreHeld past q → AreHeld past r
kept_held past q r t put held = record { each = λ b. by b (is_port (port_of t) b) refl (put.each b) }
  where
    by : (b : PortName) (c : Bool) → is_port (port_of t) b ≡ c → lookup (is_port b) r ≡ (if c then port_for q t else lookup (is_port b) q) → lookup (is_port b) r ≡ port_told b past
    by b true e w = w ∙ ap (λ a. lookup (is_port a) q) (same-port (port_of t) b e) ∙ held.each b
    by b false e w = w ∙ held.each b

-- of a line that may not be said nothing is
pub refused_held : (past : List Told) (q r : Ports) (t : Told) (is : Bool) → IsToldTo q r t is → is ≡ false → AreHeld past q → AreHeld past r
refused_held past q r t is told e held =
    kept_held past q r t (subst (IsPortPut q r (port_of t)) (ap (λ b. if b then port_from t (port_for q t) else port_for q t) e) told.put) held

-- ---- one call
-- a line was told of an open port
pub told-open : (q r : Ports) (t : Told) (is : Bool) (p w : OpenPort) → Some p ≡ port_for q t → is ≡ may_be_said t (Some p) → Some w ≡ (if is then port_from t (Some p) else Some p)
    → ((b : PortName) → lookup (is_port b) r ≡ (if is_port (port_of t) b then Some w else lookup (is_port b) q)) → IsToldTo q r t is
told-open q r t is p w there may new e = record {
  said = may ∙ ap (may_be_said t) there;
  put = record { each = λ b. e b ∙ ap (λ o. if is_port (port_of t) b then o else lookup (is_port b) q) (new ∙ ap (λ o. if is then port_from t o else o) there) };
}

-- a port stays as it is
pub port-stays : (q : Ports) (a : PortName) → IsPortPut q q a (lookup (is_port a) q)
port-stays q a = record { each = λ b. by b (is_port a b) refl }
  where
    by : (b : PortName) (c : Bool) → is_port a b ≡ c → lookup (is_port b) q ≡ (if c then lookup (is_port a) q else lookup (is_port b) q)
    by b true e = sym (ap (λ x. lookup (is_port x) q) (same-port a b e))
    by b false e = refl

-- an open port is kept as it is
pub port-same : (q r : Ports) (a : PortName) (p w : OpenPort) → Some p ≡ lookup (is_port a) q → w ≡ p → ((b : PortName) → lookup (is_port b) r ≡ (if is_port a b then Some w else lookup (is_port b) q)) → IsPortPut q r a (lookup (is_port a) q)
port-same q r a p w there same e = record { each = λ b. e b ∙ ap (λ o. if is_port a b then o else lookup (is_port b) q) (ap Some same ∙ there) }

-- a line was told of a port that isn't open
pub told-closed : (q : Ports) (t : Told) → None ≡ port_for q t → false ≡ may_be_said t None → IsToldTo q q t false
told-closed q t there may = record { said = may ∙ ap (may_be_said t) there; put = port-stays q (port_of t) }

-- a port is begun anew
pub told-opened : (q r : Ports) (a : PortName) (sends recvs : ℕ) (w : OpenPort) → w ≡ record { sends = sends; recvs = recvs; client = new_client sends recvs }
    → ((b : PortName) → lookup (is_port b) r ≡ (if is_port a b then Some w else lookup (is_port b) q)) → IsToldTo q r (Opened a sends recvs) true
told-opened q r a sends recvs w new e = record {
  said = refl;
  put = record { each = λ b. e b ∙ ap (λ x. if is_port a b then Some x else lookup (is_port b) q) new };
}

-- a port is closed, where it may be
pub told-ended : (q r : Ports) (a : PortName) (count : ℕ) (p : OpenPort) → Some p ≡ lookup (is_port a) q → may_be_said (Closed a count) (lookup (is_port a) q) ≡ true
    → ((b : PortName) → lookup (is_port b) r ≡ (if is_port a b then None else lookup (is_port b) q)) → IsToldTo q r (Closed a count) true
told-ended q r a count p there may e = record {
  said = sym may;
  put = record { each = λ b. e b ∙ ap (λ o. if is_port a b then port_from (Closed a count) o else lookup (is_port b) q) there };
}

-- a port that may be closed is open
pub closed-open : (a : PortName) (count : ℕ) (o : Option OpenPort) → may_be_said (Closed a count) o ≡ true → (p : OpenPort) × (Some p ≡ o)
closed-open a count None e = nothing e
closed-open a count (Some p) e = (p, refl)

-- ---- tokens
not-there : (token : ℕ) (ts : List ℕ) → has_number ts token ≡ false → without_first (nat_eq token) ts ≡ ts
not-there token [] e = refl
not-there token (x ∷ ts) e = by (nat_eq token x) refl e (not-there token ts)
  where
    by : (b : Bool) → nat_eq token x ≡ b → (b || has_number ts token) ≡ false → (has_number ts token ≡ false → without_first (nat_eq token) ts ≡ ts) → without_first (nat_eq token) (x ∷ ts) ≡ x ∷ ts
    by true q f rest = absurd (true≢false f)
    by false q f rest = ap (λ b. if b then ts else x ∷ without_first (nat_eq token) ts) q ∙ ap (λ l. x ∷ l) (rest f)

pub recv-used : (a : PortName) (token : ℕ) (p : OpenPort) (is : Bool) → is ≡ has_number p.client.recvs token
    → Some (with_recvs (without_first (nat_eq token) p.client.recvs) p) ≡ (if is then port_from (Provided a token) (Some p) else Some p)
recv-used a token p true e = refl
recv-used a token p false e = ap (λ ts. Some (with_recvs ts p)) (not-there token p.client.recvs (sym e))

pub send-used : (l : Lane) (m : SentMessage) (token : ℕ) (p : OpenPort) (is : Bool) → is ≡ has_number p.client.sends token
    → Some (with_sends (without_first (nat_eq token) p.client.sends) p) ≡ (if is then port_from (Accepted l m token) (Some p) else Some p)
send-used l m token p true e = refl
send-used l m token p false e = ap (λ ts. Some (with_sends ts p)) (not-there token p.client.sends (sym e))

pub send-back : (a : PortName) (token : ℕ) (p : OpenPort) (is : Bool) → is ≡ is_out p.sends p.client.sends token
    → Some (with_sends (with_back p.sends p.client.sends token) p) ≡ (if is then port_from (Returned a token) (Some p) else Some p)
send-back a token p true e = ap (λ b. Some (with_sends (if b then p.client.sends ++ token ∷ [] else p.client.sends) p)) (sym e)
send-back a token p false e = ap (λ b. Some (with_sends (if b then p.client.sends ++ token ∷ [] else p.client.sends) p)) (sym e)

pub recv-back : (l : Lane) (sport : ℕ) (body : List ℕ) (token : ℕ) (p : OpenPort) (is : Bool) → is ≡ is_out p.recvs p.client.recvs token
    → Some (with_recvs (with_back p.recvs p.client.recvs token) p) ≡ (if is then port_from (Received l sport body token) (Some p) else Some p)
recv-back l sport body token p true e = ap (λ b. Some (with_recvs (if b then p.client.recvs ++ token ∷ [] else p.client.recvs) p)) (sym e)
recv-back l sport body token p false e = ap (λ b. Some (with_recvs (if b then p.client.recvs ++ token ∷ [] else p.client.recvs) p)) (sym e)

-- what a call leaves where it answers, and where it answers with a test
pub both-on_ok : {T E : Type 0} (r : Result T E) (P : T → Type 0) (Q : Type 0) (R : T → Type 0) → ((x : T) → P x → Q → R x) → IfOk r P → OnOk r Q → IfOk r R
both-on_ok (Ok x) P Q R f p q = f x p q
both-on_ok (Err e) P Q R f p q = p

pub if_ok-weaker : {T E : Type 0} (r : Result T E) (P R : T → Type 0) → ((x : T) → P x → R x) → IfOk r P → IfOk r R
if_ok-weaker (Ok x) P R f p = f x p
if_ok-weaker (Err e) P R f p = p

-- before any line no port is open
pub none_held : AreHeld [] []
none_held = record { each = λ a. refl }
