-- What acknowledgements do to the lanes and ports of a host, within a host of the world.
use Rattle.std.proofs.Common.{◌≡◌, ◌+◌, ℕ, zero, suc, Bool, true, false, List, [], ◌∷◌, ◌++◌, take, Some, None, refl, sym, ap, ◌∙◌, arith, if◌then◌else◌}
use Rattle.std.specs.Prelude.{slice_get, Result, Ok, Err}
use Rattle.std.proofs.Math.Seq.{take-nil}
use Rattle.std.proofs.lemmas.Option.{same_Some, none-some}
use Rattle.gm_defs.specs.declared.frame.FrameHead.{FrameHead}
use Rattle.gm_defs.specs.declared.frame.Ack.{Ack}
use Rattle.gm_defs.specs.declared.frame.Malformed.{Malformed}
use Rattle.gm_defs.specs.declared.frame.GmBody.{GmBody}
use Rattle.gm_defs.specs.declared.frame.GmBody.TheVariants.{Frame, Ack as Acknowledges}
use Rattle.gm_defs.specs.declared.token.Took.{Took}
use Rattle.gm_defs.specs.declared.token.Took.TheVariants.{NotNext, NoToken, Part, Whole}
use Rattle.gm_defs.specs.Port.{finished}
use Rattle.gm_defs.specs.Body.{is_frame, is_ack, head_in, ack_in, decode}
use Rattle.world_defs.specs.Lane.{Ticket, finished_by, tickets_finished, lane_acknowledged}
use Rattle.world_defs.specs.Node.{NodeState}
use Rattle.world_defs.specs.Hearing.{ack_lane, all_finished, ack_heard}
use Rattle.host_ports.specs.Held.{HostPorts, changed}
use Rattle.gm_conn.specs.Lanes.{HostLanes, lane_in, with_state}
use Rattle.nic_node.specs.Messages.{with_messages, delivered_in, finished_in}

-- one ticket more, or none
finished-push : (p : HostPorts) (ts : List Ticket) (t : Ticket) → finished_in p (ts ++ t ∷ []) ≡ changed (finished_in p ts) t.port (λ s. finished s t.token)
finished-push p [] t = refl
finished-push p (u ∷ ts) t = finished-push (changed p u.port (λ s. finished s u.token)) ts t

take-one : (ts : List Ticket) (k : ℕ) (t : Ticket) → slice_get ts k ≡ Some t → take (k + 1) ts ≡ take k ts ++ t ∷ []
take-one [] k t e = absurd (none-some t e)
take-one (u ∷ ts) zero t e = ap (λ z. z ∷ []) (same_Some u t e)
take-one (u ∷ ts) (suc k) t e = let more : suc k + 1 ≡ suc (k + 1) = omega arith in ap (λ n. take n (u ∷ ts)) more ∙ ap (λ l. u ∷ l) (take-one ts k t e)

take-none : (ts : List Ticket) (k : ℕ) → slice_get ts k ≡ None → take (k + 1) ts ≡ take k ts
take-none [] k e = take-nil (k + 1) ∙ sym (take-nil k)
take-none (u ∷ ts) zero e = absurd (none-some u (sym e))
take-none (u ∷ ts) (suc k) e = let more : suc k + 1 ≡ suc (k + 1) = omega arith in ap (λ n. take n (u ∷ ts)) more ∙ ap (λ l. u ∷ l) (take-none ts k e)

pub finished-next : (p q : HostPorts) (ts : List Ticket) (k : ℕ) (t : Ticket) → slice_get ts k ≡ Some t → q ≡ finished_in p (take k ts)
    → changed q t.port (λ s. finished s t.token) ≡ finished_in p (take (k + 1) ts)
finished-next p q ts k t e is =
    ap (λ h. changed h t.port (λ s. finished s t.token)) is ∙ sym (finished-push p (take k ts) t) ∙ ap (finished_in p) (sym (take-one ts k t e))

pub finished-none : (p q : HostPorts) (ts : List Ticket) (k : ℕ) → slice_get ts k ≡ None → q ≡ finished_in p (take k ts) → q ≡ finished_in p (take (k + 1) ts)
finished-none p q ts k e is = is ∙ ap (finished_in p) (sym (take-none ts k e))

-- the sends of tickets, within a host of the world
within-finished : (n : NodeState) (q : HostLanes) (p : HostPorts) (ts : List Ticket) → all_finished (with_messages n q p) ts ≡ with_messages n q (finished_in p ts)
within-finished n q p [] = refl
within-finished n q p (t ∷ ts) = within-finished n q (changed p t.port (λ s. finished s t.token)) ts

pub ack-within : (n : NodeState) (p q : HostLanes) (r s : HostPorts) (a : Ack) (count : ℕ) → count ≡ finished_by (lane_in p (ack_lane a)) a.next
    → s ≡ finished_in r (take count (lane_in p (ack_lane a)).pending) → q ≡ with_state p (ack_lane a) (lane_acknowledged (lane_in p (ack_lane a)) a.next)
    → ack_heard (with_messages n p r) a ≡ with_messages n q s
ack-within n p q r s a count ec es eq =
    let ports : s ≡ finished_in r (tickets_finished (lane_in p (ack_lane a)) a.next) = es ∙ ap (λ k. finished_in r (take k (lane_in p (ack_lane a)).pending)) ec in
    within-finished n (with_state p (ack_lane a) (lane_acknowledged (lane_in p (ack_lane a)) a.next)) r (tickets_finished (lane_in p (ack_lane a)) a.next)
    ∙ (λ i. with_messages n (sym eq i) (sym ports i))

-- what is read as a frame is one
not-ack : (h : FrameHead) (a : Ack) → ◌≡◌ {A = Result GmBody Malformed} (Ok (Acknowledges a)) (Ok (Frame h)) → ⊥
not-ack h a e = grind arith

not-err : (b : GmBody) (m : Malformed) → ◌≡◌ {A = Result GmBody Malformed} (Err m) (Ok b) → ⊥
not-err b m e = grind arith

pub frame-is : (body : List ℕ) (h : FrameHead) → decode body ≡ Ok (Frame h) → is_frame body ≡ true
frame-is body h e = by (is_frame body) (is_ack body) refl e
  where
    by : (f a : Bool) → is_frame body ≡ f
        → ◌≡◌ {A = Result GmBody Malformed} (if◌then◌else◌ {A = Result GmBody Malformed} f (Ok (Frame (head_in body))) (if◌then◌else◌ {A = Result GmBody Malformed} a (Ok (Acknowledges (ack_in body))) (Err (record {})))) (Ok (Frame h))
        → is_frame body ≡ true
    by true a f e = f
    by false true f e = absurd (not-ack h (ack_in body) e)
    by false false f e = absurd (not-err (Frame h) (record {}) e)

-- the ports stay the host's
pub delivered-host : (p : HostPorts) (h : FrameHead) (part : List ℕ) (t : Took) → (delivered_in p h part t).host ≡ p.host
delivered-host p h part NotNext = refl
delivered-host p h part NoToken = refl
delivered-host p h part Part = refl
delivered-host p h part Whole = refl

pub finished-host : (p : HostPorts) (ts : List Ticket) → (finished_in p ts).host ≡ p.host
finished-host p [] = refl
finished-host p (t ∷ ts) = finished-host (changed p t.port (λ s. finished s t.token)) ts
