-- Which tokens are filling, once a port changed without a fragment: the same.
use Rattle.std.proofs.Common.{◌≡◌, ℕ, false, ◌&&◌, List, [], ◌∷◌, ◌++◌, length, set, get_or, nat_eq, Option, Some, None, is_some, option_map, refl, sym, ap, ◌∙◌, subst, arith, if◌then◌else◌}
use Rattle.std.specs.List.{filter}
use Rattle.gm_defs.specs.declared.token.Filling.{Filling}
use Rattle.gm_defs.specs.Token.{Sending, Provided, PortState, is_from, is_filling_for}
use Rattle.gm_defs.specs.Port.{send_of, ended_by, finished}
use Rattle.world_defs.specs.Lane.{Ticket}
use Rattle.world_defs.specs.Node.{NodeState, port_at, with_port}
use Rattle.world_defs.specs.Hearing.{all_finished}
use Rattle.world_defs.specs.Client.{ClientState, Called, empty_buffer}
use Rattle.world_defs.proofs.Calls.{Call}
use Rattle.world_laws.proofs.Lists.{at-set}
use Rattle.message_laws.specs.Filling.{filling_in}
use Rattle.gm_defs.proofs.Found.{filter-append}

-- a port with the same filling tokens
pub record SameFilling (o r : Option PortState) : Type 0 where
  pub each : (src prio : ℕ) → filling_in r src prio ≡ filling_in o src prio

pub filling-same : (o : Option PortState) → SameFilling o o
filling-same o = record { each = λ src prio. refl }

-- a token that isn't filling
pub not-filling : (src prio : ℕ) (r : Provided) → r.filling ≡ None → is_filling_for src prio r ≡ false
not-filling src prio r e = ap (λ o. is_from src o && nat_eq r.prio prio) e

none-filling : (src prio : ℕ) (rs : List Provided) → length (filter (λ r. is_some r.filling) rs) ≡ 0 → filter (is_filling_for src prio) rs ≡ []
none-filling src prio [] e = refl
none-filling src prio (r ∷ rs) e = by r.filling refl e (none-filling src prio rs)
  where
    by : (o : Option Filling) → r.filling ≡ o → length (if is_some o then r ∷ filter (λ r. is_some r.filling) rs else filter (λ r. is_some r.filling) rs) ≡ 0 → (length (filter (λ r. is_some r.filling) rs) ≡ 0 → filter (is_filling_for src prio) rs ≡ []) → filter (is_filling_for src prio) (r ∷ rs) ≡ []
    by (Some f) t d rest = absurd (omega (arith, d))
    by None t d rest = ap (λ b. if b then r ∷ filter (is_filling_for src prio) rs else filter (is_filling_for src prio) rs) (not-filling src prio r t) ∙ rest d

finished-filling : (t : ℕ) (o : Option PortState) → SameFilling o (option_map (λ p. finished p t) o)
finished-filling t None = filling-same None
finished-filling t (Some p) = by (send_of p t)
  where
    by : (s : Option Sending) → SameFilling (Some p) (Some (ended_by p t s))
    by None = filling-same (Some p)
    by (Some s) = record { each = λ src prio. refl }

-- the ports of a host
pub record SamePorts (n m : NodeState) : Type 0 where
  pub each : (port : ℕ) → SameFilling (port_at n port) (port_at m port)

pub ports-same : (n m : NodeState) → m.ports ≡ n.ports → SamePorts n m
ports-same n m e = record { each = λ port. subst (λ ps. SameFilling (port_at n port) (get_or ps port None)) (sym e) (filling-same (port_at n port)) }

pub ports-set : (n m : NodeState) (port : ℕ) (o : Option PortState) → m.ports ≡ set n.ports port o → SameFilling (port_at n port) o → SamePorts n m
ports-set n m port o e here = record {
  each = λ j.
      let now : SameFilling (port_at n j) (get_or (set n.ports port o) j None) = at-set SameFilling filling-same n.ports port j o None here in
      subst (λ ps. SameFilling (port_at n j) (get_or ps j None)) (sym e) now;
}

pub ports-then : (n m o : NodeState) → SamePorts n m → SamePorts m o → SamePorts n o
ports-then n m o k l = record { each = λ port. record { each = λ src prio. (l.each port).each src prio ∙ (k.each port).each src prio } }

pub all_finished-ports : (n : NodeState) (ts : List Ticket) → SamePorts n (all_finished n ts)
all_finished-ports n [] = ports-same n n refl
all_finished-ports n (t ∷ ts) =
    let o : Option PortState = option_map (λ p. finished p t.token) (port_at n t.port) in
    ports-then n (with_port n t.port o) (all_finished n (t ∷ ts)) (ports-set n (with_port n t.port o) t.port o refl (finished-filling t.token (port_at n t.port))) (all_finished-ports (with_port n t.port o) ts)

-- what a call makes of its port
at-port : {o : Option PortState} {p : PortState} (r : Option PortState) → o ≡ Some p → ((src prio : ℕ) → filling_in r src prio ≡ filling_in (Some p) src prio) → SameFilling o r
at-port r e same = record { each = λ src prio. same src prio ∙ ap (λ o. filling_in o src prio) (sym e) }

pub call-ports : {n : NodeState} {c : Option ClientState} {port : ℕ} {call : Called} → Call n c port call → SamePorts n call.node
call-ports {n = n} Call.rests = ports-same n n refl
call-ports {n = n} (Call.opens {port = port} sends recvs d) = ports-set n _ port _ refl (record { each = λ src prio. ap (λ o. filling_in o src prio) (sym d) })
call-ports {n = n} (Call.closes {port = port} p e f) = ports-set n _ port None refl (at-port None e (λ src prio. sym (none-filling src prio p.provided f.whole)))
call-ports {n = n} (Call.provides {port = port} size prio t ts p d e f g k) =
    let q : Provided = record { token = t; size = size; prio = prio; filling = None; buffer = empty_buffer size } in
    ports-set n _ port _ refl (at-port _ e (λ src other. filter-append (is_filling_for src other) p.provided (q ∷ []) ∙ nothing (filter (is_filling_for src other) p.provided)))
  where
    nothing : {A : Type 0} (xs : List A) → xs ++ [] ≡ xs
    nothing [] = refl
    nothing (x ∷ xs) = ap (λ l. x ∷ l) (nothing xs)
call-ports {n = n} (Call.accepts s t ts p d e f g k) = ports-set n _ s.port _ refl (at-port _ e (λ src prio. refl))
call-ports {n = n} (Call.hands_sent {port = port} t buffer p d e f g) = ports-set n _ port _ refl (at-port _ e (λ src prio. refl))
call-ports {n = n} (Call.hands_received {port = port} t buffer from sport prio len p d e f g) = ports-set n _ port _ refl (at-port _ e (λ src prio. refl))
