-- The sends in a host's queues and its tickets, once its ports or its connections changed.
use Rattle.std.proofs.Common.{◌≡◌, ◌≢◌, ◌<◌, ◌+◌, ℕ, suc, Bool, true, false, List, [], ◌∷◌, ◌++◌, length, drop, set, get_or, nat_eq, nat_lt, if◌then◌else◌, Option, Some, None, option_map, ◌⊎◌, inl, inr, refl, sym, ap, ◌∙◌, subst, arith}
use Rattle.std.specs.Prelude.{slice_get}
use Rattle.std.proofs.lemmas.Bool.Decides.{nat_tests}
use Rattle.std.proofs.lemmas.List.{get_or-set_same, get_or-set_other, get_or_past, drop-drop}
use Rattle.net_defs.specs.Network.{Apart}
use Rattle.gm_defs.specs.declared.message.Message.{Message}
use Rattle.gm_defs.specs.declared.frame.FrameHead.{FrameHead}
use Rattle.gm_defs.specs.Fragment.{whole_below}
use Rattle.gm_defs.specs.Token.{Sending, PortState}
use Rattle.gm_defs.specs.Port.{send_of, ended_by, finished, delivered}
use Rattle.gm_defs.proofs.Takers.{Delivery, delivery}
use Rattle.world_defs.specs.Lane.{LaneState, Ticket, new_lane}
use Rattle.world_defs.specs.Node.{NodeState, lane_at, port_at, with_port}
use Rattle.world_defs.specs.Hearing.{all_finished}
use Rattle.world_defs.proofs.Lists.{each-set}
use Rattle.ticket_laws.specs.Tickets.{AreMatched}
use Rattle.ticket_laws.specs.Host.{send_in, send_under, tickets_of, unfinished_of, AreTicketed, HasApartSends, AllApart}
use Rattle.ticket_laws.proofs.Matching.{same-or, OneAfter, the_one, another, ticket-send, matched-same, matched-finished}
use Rattle.ticket_laws.proofs.Sendings.{under, tokens, under-left, under-gone, apart-left, finished-queue}

-- an element is as before, or is the new one
at-set : {X : Type 0} (R : X → X → Type 0) (same : (x : X) → R x x) (xs : List X) (i j : ℕ) (y d : X) → R (get_or xs i d) y → R (get_or xs j d) (get_or (set xs i y) j d)
at-set R same xs i j y d here = each-set (λ k x. R (get_or xs k d) x) xs i j y d here (λ k. same (get_or xs k d))

-- a port whose sends are the same
pub record SameSends (o r : Option PortState) : Type 0 where
  pub each : (t : ℕ) → send_in r t ≡ send_in o t

pub sends-same : (o : Option PortState) → SameSends o o
sends-same o = record { each = λ t. refl }

pub delivered-sends : (h : FrameHead) (part : List ℕ) (o : Option PortState) → SameSends o (option_map (λ p. delivered p h part) o)
delivered-sends h part None = sends-same None
delivered-sends h part (Some p) = by (delivery p h part)
  where
    by : {q : PortState} → Delivery p h part q → SameSends (Some p) (Some q)
    by (Delivery.missed e) = sends-same (Some p)
    by (Delivery.ends r e d) = record { each = λ t. refl }
    by (Delivery.goes_on r e d) = record { each = λ t. refl }

-- a port whose queue is empty, once it is closed
pub closed-sends : (p : PortState) → length p.queue ≡ 0 → SameSends (Some p) None
closed-sends p none = record { each = λ t. sym (empty p.queue t none) }
  where
    empty : (xs : List Sending) (t : ℕ) → length xs ≡ 0 → under t xs ≡ None
    empty [] t l = refl
    empty (x ∷ xs) t l = absurd (omega (arith, l))

-- a host of which one port changed
pub set-sends : (n m : NodeState) (port : ℕ) (o : Option PortState) → m.ports ≡ set n.ports port o → SameSends (port_at n port) o → (x : Ticket) → send_under m.ports x ≡ send_under n.ports x
set-sends n m port o e same x =
    let now : SameSends (port_at n x.port) (get_or (set n.ports port o) x.port None) = at-set SameSends sends-same n.ports port x.port o None same in
    ap (λ ps. send_in (get_or ps x.port None) x.token) e ∙ now.each x.token

-- a lane with the same tickets and the same messages that aren't finished
pub record SameTickets (p q : LaneState) : Type 0 where
  pub tickets : q.pending ≡ p.pending
  pub messages : drop (whole_below q.sent q.sender.base) q.sent ≡ drop (whole_below p.sent p.sender.base) p.sent

pub tickets-same : (p : LaneState) → SameTickets p p
tickets-same p = record { tickets = refl; messages = refl }

pub lanes-same : (n m : NodeState) → m.lanes ≡ n.lanes → (k : ℕ) → SameTickets (lane_at n k) (lane_at m k)
lanes-same n m e k = subst (λ l. SameTickets (lane_at n k) (get_or l k new_lane)) (sym e) (tickets-same (lane_at n k))

pub lanes-set : (n m : NodeState) (k : ℕ) (q : LaneState) → m.lanes ≡ set n.lanes k q → SameTickets (lane_at n k) q → (j : ℕ) → SameTickets (lane_at n j) (lane_at m j)
lanes-set n m k q e here j =
    let now : SameTickets (lane_at n j) (get_or (set n.lanes k q) j new_lane) = at-set SameTickets tickets-same n.lanes k j q new_lane here in
    subst (λ l. SameTickets (lane_at n j) (get_or l j new_lane)) (sym e) now

-- a host of which sends, tickets and unfinished messages are matched
abbrev pub HostMatched : (List ℕ → List ℕ → Type 0) → NodeState → Type 0
HostMatched holds n = AreTicketed holds n.ports n.lanes

pub host-same : (holds : List ℕ → List ℕ → Type 0) (n m : NodeState) → ((x : Ticket) → send_under m.ports x ≡ send_under n.ports x) → ((k : ℕ) → SameTickets (lane_at n k) (lane_at m k)) → HostMatched holds n → HostMatched holds m
host-same holds n m sends lanes is = matched-same holds (send_under n.ports) (send_under m.ports) (tickets_of n.lanes) (tickets_of m.lanes) (unfinished_of n.lanes) (unfinished_of m.lanes) sends (λ k. (lanes k).tickets) (λ k. (lanes k).messages) is

-- a send is finished at its port
abbrev pub finish : NodeState → Ticket → NodeState
finish n t = with_port n t.port (option_map (λ p. finished p t.token) (port_at n t.port))

pub record ApartStill (o r : Option PortState) : Type 0 where
  pub still : HasApartSends o → HasApartSends r

finished-apart : (t : ℕ) (o : Option PortState) → ApartStill o (option_map (λ p. finished p t) o)
finished-apart t None = record { still = λ a. a }
finished-apart t (Some p) = record { still = by (send_of p t) }
  where
    by : (s : Option Sending) → Apart (tokens p.queue) → Apart (tokens (ended_by p t s).queue)
    by None a = a
    by (Some s) a = apart-left t p.queue a

-- of a host's ports one changes
pub ports-apart : (ports : List (Option PortState)) (port : ℕ) (o : Option PortState) → ApartStill (get_or ports port None) o → AllApart ports → AllApart (set ports port o)
ports-apart ports port o here is = record {
  each = λ j.
      let s : ApartStill (get_or ports j None) (get_or (set ports port o) j None) = at-set ApartStill (λ a. record { still = λ x. x }) ports port j o None here in
      s.still (is.each j);
}

pub finish-apart : (n : NodeState) (t : Ticket) → AllApart n.ports → AllApart (finish n t).ports
finish-apart n t = ports-apart n.ports t.port (option_map (λ p. finished p t.token) (port_at n t.port)) (finished-apart t.token (port_at n t.port))

-- an open port is there
pub port-there : (n : NodeState) (port : ℕ) (p : PortState) → port_at n port ≡ Some p → port < length n.ports
port-there n port p e = by (nat_lt port (length n.ports)) refl
  where
    none : None ≡ Some p → port < length n.ports
    none d = cc

    by : (b : Bool) → nat_lt port (length n.ports) ≡ b → port < length n.ports
    by true t = grind (arith, nat_tests)
    by false t = none (sym (get_or_past n.ports port None (grind (arith, nat_tests))) ∙ e)

pub same-ticket : (x t : Ticket) → x.port ≡ t.port → x.token ≡ t.token → x ≡ t
same-ticket x t e d = λ i. record { port = e i; token = d i }

finish-sends : (n : NodeState) (t : Ticket) (s : Sending) (p : PortState) → port_at n t.port ≡ Some p → send_of p t.token ≡ Some s → Apart (tokens p.queue) → (x : Ticket) → OneAfter x t (send_under n.ports x) (send_under (finish n t).ports x) None
finish-sends n t s p e d apart x = by (same-or x.port t.port) (same-or x.token t.token)
  where
    m : NodeState
    m = finish n t

    there : port_at m t.port ≡ Some (finished p t.token)
    there = get_or-set_same n.ports t.port (option_map (λ p. finished p t.token) (port_at n t.port)) None (port-there n t.port p e) ∙ ap (option_map (λ p. finished p t.token)) e

    now : x.port ≡ t.port → send_under m.ports x ≡ under x.token (finished p t.token).queue
    now same = ap (λ j. send_in (port_at m j) x.token) same ∙ ap (λ z. send_in z x.token) there

    was : x.port ≡ t.port → send_under n.ports x ≡ under x.token p.queue
    was same = ap (λ j. send_in (port_at n j) x.token) same ∙ ap (λ z. send_in z x.token) e

    by : (x.port ≡ t.port) ⊎ (x.port ≢ t.port) → (x.token ≡ t.token) ⊎ (x.token ≢ t.token) → OneAfter x t (send_under n.ports x) (send_under m.ports x) None
    by (inl same) (inl too) =
        the_one (same-ticket x t same too) (now same ∙ (ap (λ u. under u (finished p t.token).queue) too ∙ (ap (under t.token) (finished-queue p t.token s d) ∙ under-gone t.token p.queue apart)))
    by (inl same) (inr other) =
        another (λ e. other (ap (λ z. z.token) e)) (now same ∙ (ap (under x.token) (finished-queue p t.token s d) ∙ (under-left t.token x.token p.queue other ∙ sym (was same))))
    by (inr other) y =
        another (λ e. other (ap (λ z. z.port) e)) (ap (λ z. send_in z x.token) (get_or-set_other n.ports t.port x.port (option_map (λ p. finished p t.token) (port_at n t.port)) None other))

pub one-finished : (n : NodeState) (t : Ticket) (s : Sending) → send_under n.ports t ≡ Some s → AllApart n.ports → (x : Ticket) → OneAfter x t (send_under n.ports x) (send_under (finish n t).ports x) None
one-finished n t s e is x = by (port_at n t.port) refl e (is.each t.port)
  where
    by : (o : Option PortState) → port_at n t.port ≡ o → send_in o t.token ≡ Some s → HasApartSends o → OneAfter x t (send_under n.ports x) (send_under (finish n t).ports x) None
    by None at d apart = cc
    by (Some p) at d apart = finish-sends n t s p at d apart x

-- a function with one value replaced
abbrev pub at : {X : Type 0} → ℕ → X → (ℕ → X) → ℕ → X
at k x f j = if nat_eq j k then x else f j

pub at-here : {X : Type 0} (k : ℕ) (x : X) (f : ℕ → X) → at k x f k ≡ x
at-here k x f = ap (λ b. if b then x else f k) (same k)
  where
    same : (k : ℕ) → nat_eq k k ≡ true
    same k = grind (arith, nat_tests)

pub at-other : {X : Type 0} (k : ℕ) (x : X) (f : ℕ → X) (j : ℕ) → j ≢ k → at k x f j ≡ f j
at-other k x f j other = by (nat_eq j k) refl
  where
    by : (b : Bool) → nat_eq j k ≡ b → (if nat_eq j k then x else f j) ≡ f j
    by true e = absurd (other (grind (arith, nat_tests)))
    by false e = ap (λ b. if b then x else f j) e

-- a replacement again
pub at-again : {X : Type 0} (k : ℕ) (x y z : X) (f : ℕ → X) → x ≡ z → (j : ℕ) → at k z f j ≡ at k x (at k y f) j
at-again k x y z f e j = by (nat_eq j k)
  where
    by : (b : Bool) → (if b then z else f j) ≡ (if b then x else (if b then y else f j))
    by true = sym e
    by false = refl

-- the first ticket on a lane goes, and its send
pub first-finished : (holds : List ℕ → List ℕ → Type 0) (n : NodeState) (P : ℕ → List Ticket) (U : ℕ → List Message) (k : ℕ) (t : Ticket) (rest : List Ticket) → P k ≡ t ∷ rest → AllApart n.ports → AreMatched holds (send_under n.ports) P U → AreMatched holds (send_under (finish n t).ports) (at k rest P) (at k (drop 1 (U k)) U)
first-finished holds n P U k t rest e apart is =
    let first : slice_get (P k) 0 ≡ Some t = ap (λ l. slice_get l 0) e in
    let send = ticket-send holds (send_under n.ports) (P k) (U k) 0 t (is.of_messages k) first in
    matched-finished holds (send_under n.ports) (send_under (finish n t).ports) P (at k rest P) U (at k (drop 1 (U k)) U) k t rest e (at-here k rest P) (at-here k (drop 1 (U k)) U) (at-other k rest P) (at-other k (drop 1 (U k)) U) (one-finished n t send.0 send.1 apart) is

-- a replacement by what is there
pub at-same : {X : Type 0} (k : ℕ) (x : X) (f : ℕ → X) → x ≡ f k → (j : ℕ) → at k x f j ≡ f j
at-same k x f e j = by (same-or j k)
  where
    by : (j ≡ k) ⊎ (j ≢ k) → at k x f j ≡ f j
    by (inl same) = ap (at k x f) same ∙ (at-here k x f ∙ (e ∙ ap f (sym same)))
    by (inr other) = at-other k x f j other

-- the first tickets on a lane go, and their sends
pub all-finished : (holds : List ℕ → List ℕ → Type 0) (n : NodeState) (P : ℕ → List Ticket) (U : ℕ → List Message) (k : ℕ) (ts rest : List Ticket) → P k ≡ ts ++ rest → AllApart n.ports → AreMatched holds (send_under n.ports) P U → AreMatched holds (send_under (all_finished n ts).ports) (at k rest P) (at k (drop (length ts) (U k)) U)
all-finished holds n P U k [] rest e apart is =
    matched-same holds (send_under n.ports) (send_under n.ports) P (at k rest P) U (at k (U k) U) (λ x. refl) (at-same k rest P (sym e)) (at-same k (U k) U refl) is
all-finished holds n P U k (t ∷ ts) rest e apart is =
    let Q : ℕ → List Ticket = at k (ts ++ rest) P in
    let V : ℕ → List Message = at k (drop 1 (U k)) U in
    let one : AreMatched holds (send_under (finish n t).ports) Q V = first-finished holds n P U k t (ts ++ rest) e apart is in
    let more : AreMatched holds (send_under (all_finished (finish n t) ts).ports) (at k rest Q) (at k (drop (length ts) (V k)) V) = all-finished holds (finish n t) Q V k ts rest (at-here k (ts ++ rest) P) (finish-apart n t apart) one in
    let long : 1 + length ts ≡ suc (length ts) = omega arith in
    let drops : drop (length ts) (V k) ≡ drop (suc (length ts)) (U k) = ap (drop (length ts)) (at-here k (drop 1 (U k)) U) ∙ (drop-drop (length ts) 1 (U k) ∙ ap (λ j. drop j (U k)) long) in
    matched-same holds (send_under (all_finished (finish n t) ts).ports) (send_under (all_finished (finish n t) ts).ports) (at k rest Q) (at k rest P) (at k (drop (length ts) (V k)) V) (at k (drop (suc (length ts)) (U k)) U) (λ x. refl)
    (at-again k rest (ts ++ rest) rest P refl) (at-again k (drop (length ts) (V k)) (drop 1 (U k)) (drop (suc (length ts)) (U k)) U drops) more
