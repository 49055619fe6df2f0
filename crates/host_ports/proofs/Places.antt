-- The ports of a host at a number, as one of them changes.
use Rattle.std.proofs.Common.{◌≡◌, ◌<◌, ℕ, zero, suc, Bool, true, false, nat_eq, List, [], ◌∷◌, length, Option, Some, None, option_map, refl, sym, ap, subst, ◌∙◌, arith}
use Rattle.std.specs.Prelude.{slice_index_or, slice_set, replicate, drop, Result, Ok, Err, IfOk, IfSome, OnOk}
use Rattle.std.proofs.Math.ListN.{get_or-map}
use Rattle.std.proofs.lemmas.Bool.Decides.{nat_tests}
use Rattle.std.proofs.lemmas.List.{map-set, length-set, get_or-set_same, get_or-set_other}
use Rattle.std.proofs.lemmas.Option.{same_Some, none-some}
use Rattle.gm_defs.specs.Token.{PortState}
use Rattle.gm_port.specs.Opened.{OpenPort}
use Rattle.host_ports.specs.Held.{HostPorts, open_at, with_open, changed, state_at, states, port_in, changed_port, IsHostPorts}

-- one number is the other, or isn't
data Compared (n m : ℕ) : Type 0 where
  same : n ≡ m → Compared n m
  other : (n ≡ m → ⊥) → Compared n m

compared : (n m : ℕ) → Compared n m
compared n m = by (nat_eq n m) refl
  where
    by : (b : Bool) → nat_eq n m ≡ b → Compared n m
    by true e = same (grind (arith, nat_tests))
    by false e = other (λ f. grind (arith, nat_tests))

-- a value that was read within a list is the one at its place
read-within : (ps : List (Option OpenPort)) (i : ℕ) (x : Option OpenPort) → i < length ps → x ≡ slice_index_or ps i x → x ≡ slice_index_or ps i None
read-within [] i x h e = absurd (omega arith)
read-within (y ∷ ps) zero x h e = e
read-within (y ∷ ps) (suc i) x h e = read-within ps i x (omega arith) e

pub open-is : (ps : List (Option OpenPort)) (i : ℕ) → slice_index_or (states ps) i None ≡ state_at (slice_index_or ps i None)
open-is ps i = get_or-map state_at ps i None

pub with-is : (v : HostPorts) (host : ℕ) (ps : List (Option OpenPort)) (port i : ℕ) (q : Option OpenPort) → record { host = host; ports = states ps } ≡ v → i ≡ port
    → record { host = host; ports = states (slice_set ps i q) } ≡ with_open v port (state_at q)
with-is v host ps port i q is at =
    ap (λ (l : List (Option PortState)). record { host = host; ports = l }) (map-set state_at ps i q ∙ ap (λ k. slice_set (states ps) k (state_at q)) at)
    ∙ ap (λ h. with_open h port (state_at q)) is

state-changed : (p : Option OpenPort) (f : PortState → PortState) → state_at (changed_port p f) ≡ option_map f (state_at p)
state-changed None f = refl
state-changed (Some p) f = refl

-- what was read at a number is the port there
pub slot-is : (v : HostPorts) (host : ℕ) (ps : List (Option OpenPort)) (port i : ℕ) (x : Option OpenPort) → record { host = host; ports = states ps } ≡ v → IsHostPorts host ps → port < 8 → i ≡ port
    → x ≡ slice_index_or ps i x → state_at x ≡ open_at v port
slot-is v host ps port i x is kept below at e =
    let c = kept.counted in
    let there : x ≡ slice_index_or ps i None = read-within ps i x (omega (arith, c, at)) e in
    ap state_at there ∙ sym (open-is ps i) ∙ ap (λ k. slice_index_or (states ps) k None) at ∙ ap (λ h. open_at h port) is

pub changed-ports : (v : HostPorts) (host : ℕ) (ps : List (Option OpenPort)) (port i : ℕ) (x q : Option OpenPort) (f : PortState → PortState)
    → record { host = host; ports = states ps } ≡ v → IsHostPorts host ps → port < 8 → i ≡ port → x ≡ slice_index_or ps i x → q ≡ changed_port x f
    → record { host = host; ports = states (slice_set ps i q) } ≡ changed v port f
changed-ports v host ps port i x q f is kept below at e new =
    let state : state_at q ≡ option_map f (open_at v port) = ap state_at new ∙ state-changed x f ∙ ap (option_map f) (slot-is v host ps port i x is kept below at e) in
    with-is v host ps port i q is at ∙ ap (λ s. with_open v port s) state

-- whose a port is that was read at a number
pub own-is : (host : ℕ) (ps : List (Option OpenPort)) (port i : ℕ) (x : Option OpenPort) (p : OpenPort) → IsHostPorts host ps → port < 8 → i ≡ port → x ≡ slice_index_or ps i x → x ≡ Some p
    → (p.host ≡ host) × (p.port ≡ port)
own-is host ps port i x p kept below at e is =
    let c = kept.counted in
    let o = kept.own i p (sym (read-within ps i x (omega (arith, c, at)) e) ∙ is) in
    (o.0, o.1 ∙ at)

-- the ports stay a host's where a port of the host and its number, or none, is put at a number
pub kept-with : (host : ℕ) (ps : List (Option OpenPort)) (i : ℕ) (q : Option OpenPort) → IsHostPorts host ps → i < 8 → ((p : OpenPort) → q ≡ Some p → (p.host ≡ host) × (p.port ≡ i))
    → IsHostPorts host (slice_set ps i q)
kept-with host ps i q kept below own = record {
  counted = length-set ps i q ∙ kept.counted;
  own = λ k p e. by k p e (compared k i);
}
  where
    within : i < length ps
    within = let c = kept.counted in omega (arith, c, below)

    by : (k : ℕ) (p : OpenPort) → slice_index_or (slice_set ps i q) k None ≡ Some p → Compared k i → (p.host ≡ host) × (p.port ≡ k)
    by k p e (same f) =
        let o = own p (sym (get_or-set_same ps i q None within) ∙ ap (λ j. slice_index_or (slice_set ps i q) j None) (sym f) ∙ e) in
        (o.0, o.1 ∙ sym f)
    by k p e (other differs) = kept.own k p (sym (get_or-set_other ps i k q None differs) ∙ e)

-- and where the port there changes its state alone
changed-own : (x : Option OpenPort) (f : PortState → PortState) (host port : ℕ) (p : OpenPort) → ((r : OpenPort) → x ≡ Some r → (r.host ≡ host) × (r.port ≡ port)) → changed_port x f ≡ Some p
    → (p.host ≡ host) × (p.port ≡ port)
changed-own None f host port p own e = absurd (none-some p e)
changed-own (Some r) f host port p own e =
    let is : port_in r (f r.state) ≡ p = same_Some (port_in r (f r.state)) p e in
    let o = own r refl in
    (ap (λ z. z.host) (sym is) ∙ o.0, ap (λ z. z.port) (sym is) ∙ o.1)

kept-changed : (host : ℕ) (ps : List (Option OpenPort)) (port i : ℕ) (x q : Option OpenPort) (f : PortState → PortState) → IsHostPorts host ps → port < 8 → i ≡ port → x ≡ slice_index_or ps i x
    → q ≡ changed_port x f → IsHostPorts host (slice_set ps i q)
kept-changed host ps port i x q f kept below at e new =
    kept-with host ps i q kept (omega (arith, at))
    (λ p is. let o = changed-own x f host port p (λ r h. own-is host ps port i x r kept below at e h) (sym new ∙ is) in (o.0, o.1 ∙ sym at))

-- what an answer says of the port that was read, it says of the host's port at that number
pub answered : {A E : Type 0} (host port : ℕ) (x : Option OpenPort) (o : Option PortState) (r : Result A E) (P : A → ℕ → ℕ → PortState → Type 0) → state_at x ≡ o
    → ((p : OpenPort) → x ≡ Some p → (p.host ≡ host) × (p.port ≡ port)) → IfOk r (λ e. IfSome x (λ p. P e p.host p.port p.state)) → IfOk r (λ e. IfSome o (λ s. P e host port s))
answered {A} {E} host port x o r P is own h = subst (λ z. IfOk r (λ e. IfSome z (λ s. P e host port s))) is (by x r own h)
  where
    by : (x : Option OpenPort) (r : Result A E) → ((p : OpenPort) → x ≡ Some p → (p.host ≡ host) × (p.port ≡ port)) → IfOk r (λ e. IfSome x (λ p. P e p.host p.port p.state))
        → IfOk r (λ e. IfSome (state_at x) (λ s. P e host port s))
    by None (Ok e) own h = tt
    by None (Err e) own h = tt
    by (Some p) (Ok e) own h = let o = own p refl in subst (λ k. P e host k p.state) o.1 (subst (λ k. P e k p.port p.state) o.0 h)
    by (Some p) (Err e) own h = tt

pub given : {A : Type 0} (host port : ℕ) (x : Option OpenPort) (o : Option PortState) (r : Option A) (P : A → ℕ → ℕ → PortState → Type 0) → state_at x ≡ o
    → ((p : OpenPort) → x ≡ Some p → (p.host ≡ host) × (p.port ≡ port)) → IfSome r (λ e. IfSome x (λ p. P e p.host p.port p.state)) → IfSome r (λ e. IfSome o (λ s. P e host port s))
given {A} host port x o r P is own h = subst (λ z. IfSome r (λ e. IfSome z (λ s. P e host port s))) is (by x r own h)
  where
    by : (x : Option OpenPort) (r : Option A) → ((p : OpenPort) → x ≡ Some p → (p.host ≡ host) × (p.port ≡ port)) → IfSome r (λ e. IfSome x (λ p. P e p.host p.port p.state))
        → IfSome r (λ e. IfSome (state_at x) (λ s. P e host port s))
    by None (Some e) own h = tt
    by None None own h = tt
    by (Some p) (Some e) own h = let o = own p refl in subst (λ k. P e host k p.state) o.1 (subst (λ k. P e k p.port p.state) o.0 h)
    by (Some p) None own h = tt

-- what follows where an answer is one
pub on-ok : {A E : Type 0} {P Q : Type 0} (r : Result A E) → (P → Q) → OnOk r P → OnOk r Q
on-ok (Ok a) f h = f h
on-ok (Err e) f h = tt

same-port : (x : Option OpenPort) → x ≡ changed_port x (λ s. s)
same-port None = refl
same-port (Some p) = refl

-- where no port has a state, none is open
pub none-open : (ps : List (Option OpenPort)) (n : ℕ) → states ps ≡ replicate n None → (k : ℕ) → slice_index_or ps k None ≡ None
none-open [] n e k = refl
none-open (p ∷ ps) zero e k = absurd (omega (arith, ap length e))
none-open (p ∷ ps) (suc n) e zero = closed p (ap (λ l. slice_index_or l 0 None) e)
  where
    closed : (p : Option OpenPort) → state_at p ≡ None → p ≡ None
    closed None f = refl
    closed (Some q) f = absurd (none-some q.state (sym f))
none-open (p ∷ ps) (suc n) e (suc k) = none-open ps n (ap (drop 1) e) k

-- an open port changes its state alone, and with it the ports of the host
pub open-changed : (v : HostPorts) (host : ℕ) (ps : List (Option OpenPort)) (port i : ℕ) (x : Option OpenPort) (p q : OpenPort) (f : PortState → PortState)
    → record { host = host; ports = states ps } ≡ v → IsHostPorts host ps → port < 8 → i ≡ port → x ≡ slice_index_or ps i x → x ≡ Some p → q ≡ port_in p (f p.state)
    → record { host = host; ports = states (slice_set ps i (Some q)) } ≡ changed v port f
open-changed v host ps port i x p q f is kept below at e there new =
    changed-ports v host ps port i x (Some q) f is kept below at e (ap Some new ∙ ap (λ z. changed_port z f) (sym there))

pub kept-open : (host : ℕ) (ps : List (Option OpenPort)) (port i : ℕ) (x : Option OpenPort) (p q : OpenPort) (f : PortState → PortState) → IsHostPorts host ps → port < 8 → i ≡ port
    → x ≡ slice_index_or ps i x → x ≡ Some p → q ≡ port_in p (f p.state) → IsHostPorts host (slice_set ps i (Some q))
kept-open host ps port i x p q f kept below at e there new = kept-changed host ps port i x (Some q) f kept below at e (ap Some new ∙ ap (λ z. changed_port z f) (sym there))

-- and where the port that was read is put back
pub kept-same : (host : ℕ) (ps : List (Option OpenPort)) (port i : ℕ) (x q : Option OpenPort) → IsHostPorts host ps → port < 8 → i ≡ port → x ≡ slice_index_or ps i x → q ≡ x
    → IsHostPorts host (slice_set ps i q)
kept-same host ps port i x q kept below at e back = kept-changed host ps port i x q (λ s. s) kept below at e (back ∙ same-port x)
