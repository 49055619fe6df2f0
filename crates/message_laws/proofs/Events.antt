-- What a change of a port leaves of its events, of each of which something holds.
use Rattle.std.proofs.Common.{◌≡◌, ℕ, zero, suc, true, List, [], ◌∷◌, drop, set, get_or, Option, Some, None, IfSome, option_map, refl, sym, subst}
use Rattle.std.specs.Prelude.{slice_get}
use Rattle.std.specs.List.{AllByRecursion}
use Rattle.net_defs.proofs.Distinct.{all-push, all-weaker}
use Rattle.gm_defs.specs.declared.frame.FrameHead.{FrameHead}
use Rattle.gm_defs.specs.Body.{is_last}
use Rattle.gm_defs.specs.Token.{Sending, Provided, PortEvent, Sent, Received, PortState, taker}
use Rattle.gm_defs.specs.Port.{send_of, ended_by, finished, filled, delivered}
use Rattle.gm_defs.proofs.Takers.{Delivery, delivery}
use Rattle.world_defs.specs.Node.{NodeState, port_at}
use Rattle.world_defs.proofs.Lists.{each-set}
use Rattle.message_laws.proofs.Calls.{PortCalled, stays, opens, closes, provides, polls}

-- it holds of each event of an open port
abbrev pub AreAll : (PortEvent → Type 0) → Option PortState → Type 0
AreAll E o = IfSome o (λ p. AllByRecursion E p.events)

pub all-more : (E F : PortEvent → Type 0) → ((e : PortEvent) → E e → F e) → (o : Option PortState) → AreAll E o → AreAll F o
all-more E F more None are = tt
all-more E F more (Some p) are = all-weaker E F p.events more are

-- a change of a port
pub record PortStill (E : PortEvent → Type 0) (o r : Option PortState) : Type 0 where
  pub still : AreAll E o → AreAll E r

pub port-same : (E : PortEvent → Type 0) (o : Option PortState) → PortStill E o o
port-same E o = record { still = λ a. a }

module _ (E : PortEvent → Type 0) where
  all-drop : (es : List PortEvent) → AllByRecursion E es → AllByRecursion E (drop 1 es)
  all-drop [] all = tt
  all-drop (e ∷ es) all = all.1

  pub called-still : (o r : Option PortState) → PortCalled o r → PortStill E o r
  called-still o r (stays e) = record { still = subst (AreAll E) (sym e) }
  called-still o r (opens sends recvs e d) = record { still = λ a. subst (AreAll E) (sym d) tt }
  called-still o r (closes p e none d) = record { still = λ a. subst (AreAll E) (sym d) tt }
  called-still o r (provides p token size prio e d) = record { still = λ a. subst (AreAll E) (sym d) (subst (AreAll E) e a) }
  called-still o r (polls p e d) = record { still = λ a. subst (AreAll E) (sym d) (all-drop p.events (subst (AreAll E) e a)) }

  -- a send is finished
  pub finished-still : (t : ℕ) (o : Option PortState) → ((p : PortState) (s : Sending) → o ≡ Some p → send_of p t ≡ Some s → E (Sent t s.buffer)) → PortStill E o (option_map (λ p. finished p t) o)
  finished-still t None new = port-same E None
  finished-still t (Some p) new = record { still = by (send_of p t) refl }
    where
      by : (s : Option Sending) → send_of p t ≡ s → AllByRecursion E p.events → AllByRecursion E (ended_by p t s).events
      by None e a = a
      by (Some s) e a = all-push E p.events (Sent t s.buffer) a (new p s refl e)

  -- a fragment is taken, by a buffer that was provided; the last one of a message ends in an event
  pub delivered-still : (h : FrameHead) (part : List ℕ) (o : Option PortState) → ((p : PortState) (r : Provided) → o ≡ Some p → taker p h ≡ Some r → is_last h.total h.offset ≡ true → E (Received r.token (filled r.buffer h.offset part) h.src h.sport h.prio h.total)) → PortStill E o (option_map (λ p. delivered p h part) o)
  delivered-still h part None new = port-same E None
  delivered-still h part (Some p) new = record { still = by (delivery p h part) }
    where
      by : {q : PortState} → Delivery p h part q → AllByRecursion E p.events → AllByRecursion E q.events
      by (Delivery.missed e) a = a
      by (Delivery.ends r e d) a = all-push E p.events (Received r.token (filled r.buffer h.offset part) h.src h.sport h.prio h.total) a (new p r refl e d)
      by (Delivery.goes_on r e d) a = a

  pub event-at : (es : List PortEvent) (i : ℕ) (e : PortEvent) → AllByRecursion E es → slice_get es i ≡ Some e → E e
  event-at [] i e all d = cc
  event-at (x ∷ es) zero e all d = let same : x ≡ e = cc in subst E same all.0
  event-at (x ∷ es) (suc i) e all d = event-at es i e all.1 d

-- the ports of a host
pub ports-same : (E : ℕ → PortEvent → Type 0) (n m : NodeState) → m.ports ≡ n.ports → (port : ℕ) → PortStill (E port) (port_at n port) (port_at m port)
ports-same E n m e port = subst (λ ps. PortStill (E port) (port_at n port) (get_or ps port None)) (sym e) (port-same (E port) (port_at n port))

pub ports-set : (E : ℕ → PortEvent → Type 0) (n m : NodeState) (port : ℕ) (o : Option PortState) → m.ports ≡ set n.ports port o → PortStill (E port) (port_at n port) o → (j : ℕ) → PortStill (E j) (port_at n j) (port_at m j)
ports-set E n m port o e here j =
    subst (λ ps. PortStill (E j) (port_at n j) (get_or ps j None)) (sym e) (each-set (λ i x. PortStill (E i) (port_at n i) x) n.ports port j o None here (λ i. port-same (E i) (port_at n i)))
