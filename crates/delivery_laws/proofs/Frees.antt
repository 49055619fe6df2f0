-- What a change of a host makes of its provided tokens: none is used up, or one is, by a message that is got.
use Rattle.std.proofs.Common.{◌≡◌, ◌≢◌, ◌<◌, ◌≤◌, ◌+◌, ℕ, Bool, true, false, ◌&&◌, List, [], ◌∷◌, length, get_or, nat_eq, Option, Some, None, option_map, Ok, refl, sym, ap, ◌∙◌, subst, arith, length-append, true≢false}
use Rattle.std.specs.Prelude.{slice_get}
use Rattle.std.specs.List.{filter}
use Rattle.std.proofs.lemmas.Bool.Decides.{nat_tests}
use Rattle.std.proofs.lemmas.List.{get_or-set_other}
use Rattle.packet_defs.specs.declared.kind.Kind.TheVariants.{Gm}
use Rattle.packet_defs.specs.Host.{decode as decode_packet}
use Rattle.gm_defs.specs.declared.message.Message.{Message}
use Rattle.gm_defs.specs.declared.frame.FrameHead.{FrameHead}
use Rattle.gm_defs.specs.declared.frame.ConnectionKey.{ConnectionKey}
use Rattle.gm_defs.specs.declared.frame.GmBody.TheVariants.{Frame}
use Rattle.gm_defs.specs.declared.token.Took.{Took}
use Rattle.gm_defs.specs.declared.token.Took.TheVariants.{NotNext, NoToken, Part, Whole}
use Rattle.gm_defs.specs.Body.{is_last, decode, part_in}
use Rattle.gm_defs.specs.Fragment.{Fragment as FragmentOf, frame_of, head_of, whole_below}
use Rattle.gm_defs.specs.Laws.{ComesNext}
use Rattle.gm_defs.specs.Token.{Provided, Sending, PortState, is_size, size_for_length, takes_at, taker}
use Rattle.gm_defs.specs.Port.{send_of, ended_by, finished, filling_with, delivered}
use Rattle.gm_defs.proofs.Takers.{Delivery, delivery, found, passes-taker}
use Rattle.gm_defs.proofs.Found.{IsSplit, split, filter-one, whole-filter, without-filter, without-other, replaced-filter}
use Rattle.gm_defs.proofs.Numbers.{next-fragment}
use Rattle.gm_defs.proofs.Choices.{both}
use Rattle.world_defs.specs.Lane.{LaneState, Ticket, ending, lane_acknowledged, lane_sent_one, lane_answered, tickets_finished, lane_after}
use Rattle.world_defs.specs.Node.{NodeState, Outgoing, Probe, TablePart, Reply, PartAnswer, FrameAnswer, Fragment, lane_count, lane_of, lane_at, with_lane, port_at, with_port, after_sending}
use Rattle.world_defs.specs.Hearing.{port_takes, message_of, frame_lane, ack_lane, delivered_after, frame_took, all_finished}
use Rattle.world_defs.proofs.Lists.{each-set}
use Rattle.world_defs.proofs.Lanes.{lane_of-below}
use Rattle.ticket_laws.proofs.Hosts.{lane-new}
use Rattle.message_laws.specs.Filling.{provided_in}
use Rattle.message_laws.specs.Untouched.{IsUntouched}
use Rattle.message_laws.proofs.Lanes.{InOrder, Carries, frame-fragment}
use Rattle.message_laws.proofs.Heard.{IsHeard, quietly, of_frame, of_ack}
use Rattle.message_laws.proofs.Buffers.{least-size, HoldsFront, taker-holds}
use Rattle.delivery_laws.specs.Delivery.{is_wanted, is_of}
use Rattle.message_laws.proofs.Arrivals.{HasUntouched, found-all, whole-took, part-took}
use Rattle.client_laws.proofs.Moves.{open-there}
use Rattle.delivery_laws.proofs.Counts.{one_if, count_of, count-cons}

-- how many tokens of a size and priority a port of a host has
abbrev pub having : NodeState → ℕ → ℕ → ℕ → ℕ
having n port size prio = count_of (is_of size prio) (provided_in (port_at n port))

-- No token is used up; or one is, and the next message of a host, which it fits, is got.
pub data FreesAt (S : ℕ → ℕ → List Message) (hosts : ℕ) (n m : NodeState) (port size prio : ℕ) : Type 0 where
  none_less : having n port size prio ≤ having m port size prio → FreesAt S hosts n m port size prio
  one_less : (src : ℕ) (message : Message) → src < hosts → having n port size prio ≤ having m port size prio + 1
      → slice_get (S src prio) (length (lane_at n (lane_of src prio)).got) ≡ Some message → is_wanted port size prio message ≡ true
      → length (lane_at m (lane_of src prio)).got ≡ length (lane_at n (lane_of src prio)).got + 1 → FreesAt S hosts n m port size prio

pub record Frees (S : ℕ → ℕ → List Message) (hosts : ℕ) (n m : NodeState) : Type 0 where
  pub each : (port size prio : ℕ) → FreesAt S hosts n m port size prio

pub frees-same : (S : ℕ → ℕ → List Message) (hosts : ℕ) (n m : NodeState) → ((port : ℕ) → provided_in (port_at m port) ≡ provided_in (port_at n port)) → Frees S hosts n m
frees-same S hosts n m e = record {
  each = λ port size prio. FreesAt.none_less (let same : having m port size prio ≡ having n port size prio = ap (count_of (is_of size prio)) (e port) in omega (arith, same));
}

-- sends are finished
finished-provided : (t : ℕ) (o : Option PortState) → provided_in (option_map (λ p. finished p t) o) ≡ provided_in o
finished-provided t None = refl
finished-provided t (Some p) = by (send_of p t)
  where
    by : (s : Option Sending) → (ended_by p t s).provided ≡ p.provided
    by None = refl
    by (Some s) = refl

provided-set : (n : NodeState) (k : ℕ) (o : Option PortState) → provided_in o ≡ provided_in (port_at n k) → (port : ℕ) → provided_in (port_at (with_port n k o) port) ≡ provided_in (port_at n port)
provided-set n k o here port = each-set (λ i x. provided_in x ≡ provided_in (port_at n i)) n.ports k port o None here (λ i. refl)

all-finished-provided : (n : NodeState) (ts : List Ticket) (port : ℕ) → provided_in (port_at (all_finished n ts) port) ≡ provided_in (port_at n port)
all-finished-provided n [] port = refl
all-finished-provided n (t ∷ ts) port =
    let o : Option PortState = option_map (λ p. finished p t.token) (port_at n t.port) in
    all-finished-provided (with_port n t.port o) ts port ∙ provided-set n t.port o (finished-provided t.token (port_at n t.port)) port

-- what a fragment makes of the tokens of a port
data PortFrees (h : FrameHead) (size prio : ℕ) (p q : PortState) : Type 0 where
  none_gone : count_of (is_of size prio) p.provided ≤ count_of (is_of size prio) q.provided → PortFrees h size prio p q
  one_gone : (r : Provided) → taker p h ≡ Some r → is_last h.total h.offset ≡ true → is_of size prio r ≡ true → count_of (is_of size prio) p.provided ≤ count_of (is_of size prio) q.provided + 1 → PortFrees h size prio p q

port-frees : (h : FrameHead) (part : List ℕ) (size prio : ℕ) (p q : PortState) → Delivery p h part q → PortFrees h size prio p q
port-frees h part size prio p q (Delivery.missed e) = none_gone (omega arith)
port-frees h part size prio p q (Delivery.goes_on r e d) =
    let s : IsSplit (takes_at p h) p.provided r = split (takes_at p h) p.provided r e in
    let y : Provided = filling_with h part r in
    let test = is_of size prio in
    let a = ap length (whole-filter (takes_at p h) test p.provided r s) ∙ length-append (filter test s.front) (filter test (r ∷ s.back)) in
    let b = ap length (replaced-filter (takes_at p h) test p.provided r s y) ∙ length-append (filter test s.front) (filter test (y ∷ s.back)) in
    let c = count-cons test r s.back in
    let d = count-cons test y s.back in
    let same : one_if (test y) ≡ one_if (test r) = refl in
    none_gone (omega (arith, a, b, c, d, same))
port-frees h part size prio p q (Delivery.ends r e d) = by (is_of size prio r) refl
  where
    test : Provided → Bool
    test = is_of size prio

    s : IsSplit (takes_at p h) p.provided r
    s = split (takes_at p h) p.provided r e

    by : (b : Bool) → is_of size prio r ≡ b → PortFrees h size prio p q
    by false t = none_gone (let same = ap length (without-other (takes_at p h) (is_of size prio) p.provided r s t) in omega (arith, same))
    by true t =
        let a = ap length (whole-filter (takes_at p h) (is_of size prio) p.provided r s) ∙ length-append (filter (is_of size prio) s.front) (filter (is_of size prio) (r ∷ s.back)) in
        let b = ap length (without-filter (takes_at p h) (is_of size prio) p.provided r s) ∙ length-append (filter (is_of size prio) s.front) (filter (is_of size prio) s.back) in
        let c = ap length (filter-one (is_of size prio) r s.back t) in
        one_gone r e d t (omega (arith, a, b, c))

-- What a fragment that is taken says of its message: it is the next, for the fragment's port, of its length and priority.
pub record IsNextOf (sent : List Message) (l : LaneState) (h : FrameHead) : Type 0 where
  pub message : Message
  pub there : slice_get sent (length l.got) ≡ Some message
  pub to_port : message.dport ≡ h.dport
  pub total : length message.body ≡ h.total
  pub priority : message.prio ≡ h.prio

pub next-of : (key : ConnectionKey) (sent : List Message) (l : LaneState) (h : FrameHead) (part : List ℕ) → InOrder sent l → h.seq ≡ l.taken → frame_of key sent h.seq ≡ Some (h, part) → IsNextOf sent l h
next-of key sent l h part order seq e =
    let c : Carries key sent h.seq (h, part) = frame-fragment key sent h.seq (h, part) e in
    let f : FragmentOf = c.fragment in
    let k : ComesNext sent h.seq f = next-fragment sent h.seq f c.there in
    let head : h ≡ head_of key h.seq f = ap (λ x. x.0) c.is in
    record {
      message = f.message;
      there = ap (slice_get sent) (order.count ∙ ap (whole_below sent) (sym seq)) ∙ k.there;
      to_port = sym (ap (λ (x : FrameHead). x.dport) head);
      total = sym (ap (λ (x : FrameHead). x.total) head);
      priority = sym (ap (λ (x : FrameHead). x.prio) head);
    }

equal : (a b : ℕ) → nat_eq a b ≡ true → a ≡ b
equal a b e = grind (arith, nat_tests)

eq-true : (a b : ℕ) → a ≡ b → nat_eq a b ≡ true
eq-true a b e = grind (arith, nat_tests)

module _ (S : ℕ → ℕ → List Message) (n : NodeState) (hosts : ℕ) (long : length n.lanes ≡ lane_count hosts) (untouched : HasUntouched n) (h : FrameHead) (part : List ℕ) (low : h.src < hosts) where
  abbrev k : ℕ
  k = frame_lane h

  abbrev l : LaneState
  l = lane_at n k

  abbrev after : Took → NodeState
  after t = delivered_after (with_lane n k (lane_after l t (message_of h part))) h part t

  -- a token that is used up fits the message
  token-fits : (p : PortState) (r : Provided) (size prio : ℕ) → port_at n h.dport ≡ Some p → taker p h ≡ Some r → is_of size prio r ≡ true → IsNextOf (S h.src h.prio) l h → (is : IsNextOf (S h.src h.prio) l h) → (prio ≡ h.prio) × (is_wanted h.dport size prio is.message ≡ true)
  token-fits p r size prio e t of next is =
      let it = found (takes_at p h) p.provided r t in
      let clean : IsUntouched r = found-all IsUntouched (takes_at p h) p.provided r (untouched h.dport p e) t in
      let holds : HoldsFront h r = taker-holds p h r (passes-taker p h r it.passes) clean in
      let parts = both (is_size r.size (size_for_length h.total)) (nat_eq r.prio h.prio) holds.fitting in
      let least : size_for_length h.total ≡ Some r.size = least-size r.size (size_for_length h.total) parts.0 in
      let two = both (nat_eq r.size size) (nat_eq r.prio prio) of in
      let right : r.size ≡ size = equal r.size size two.0 in
      let same : r.prio ≡ prio = equal r.prio prio two.1 in
      let mine : r.prio ≡ h.prio = equal r.prio h.prio parts.1 in
      let prio_is : prio ≡ h.prio = sym same ∙ mine in
      let port_ok : nat_eq is.message.dport h.dport ≡ true = eq-true is.message.dport h.dport is.to_port in
      let size_ok : is_size size (size_for_length (length is.message.body)) ≡ true = ap (λ x. is_size size (size_for_length x)) is.total ∙ ap (is_size size) least ∙ eq-true size r.size (sym right) in
      let prio_ok : nat_eq prio is.message.prio ≡ true = eq-true prio is.message.prio (prio_is ∙ sym is.priority) in
      (prio_is, (λ i. port_ok i && (size_ok i && prio_ok i)))

  pub frame-frees : (t : Took) → (t ≡ Part → is_last h.total h.offset ≡ false) → (t ≡ Whole → IsNextOf (S h.src h.prio) l h) → Frees S hosts n (after t)
  frame-frees NotNext earlier whole = frees-same S hosts n (after NotNext) (λ port. refl)
  frame-frees NoToken earlier whole = frees-same S hosts n (after NoToken) (λ port. refl)
  frame-frees Part earlier whole = record { each = λ port size prio. at port size prio (nat_eq h.dport port) (port_at n h.dport) refl refl }
    where
      to : Option PortState
      to = option_map (λ p. delivered p h part) (port_at n h.dport)

      at : (port size prio : ℕ) (b : Bool) (o : Option PortState) → nat_eq h.dport port ≡ b → port_at n h.dport ≡ o → FreesAt S hosts n (after Part) port size prio
      at port size prio false o e f =
          let other : port ≢ h.dport = (λ d. grind (arith, nat_tests)) in
          FreesAt.none_less (let same : having (after Part) port size prio ≡ having n port size prio = ap (λ x. count_of (is_of size prio) (provided_in x)) (get_or-set_other n.ports h.dport port to None other) in omega (arith, same))
      at port size prio true None e f =
          let here : h.dport ≡ port = equal h.dport port e in
          FreesAt.none_less (let none : having n port size prio ≡ 0 = ap (λ i. having n i size prio) (sym here) ∙ ap (λ x. count_of (is_of size prio) (provided_in x)) f in omega (arith, none))
      at port size prio true (Some p) e f =
          let here : h.dport ≡ port = equal h.dport port e in
          subst (λ i. FreesAt S hosts n (after Part) i size prio) here (by (port-frees h part size prio p (delivered p h part) (delivery p h part)))
        where
          before : having n h.dport size prio ≡ count_of (is_of size prio) p.provided
          before = ap (λ x. count_of (is_of size prio) (provided_in x)) f

          then_is : having (after Part) h.dport size prio ≡ count_of (is_of size prio) (delivered p h part).provided
          then_is = ap (λ x. count_of (is_of size prio) (provided_in x)) (open-there n.ports h.dport p to f ∙ ap (option_map (λ x. delivered x h part)) f)

          by : PortFrees h size prio p (delivered p h part) → FreesAt S hosts n (after Part) h.dport size prio
          by (none_gone few) = FreesAt.none_less (omega (arith, before, then_is, few))
          by (one_gone r t last of few) = absurd (true≢false (sym last ∙ earlier refl))
  frame-frees Whole earlier whole = record { each = λ port size prio. at port size prio (nat_eq h.dport port) (port_at n h.dport) refl refl }
    where
      to : Option PortState
      to = option_map (λ p. delivered p h part) (port_at n h.dport)

      next : IsNextOf (S h.src h.prio) l h
      next = whole refl

      inside : k < length n.lanes
      inside = subst (λ count. k < count) (sym long) (lane_of-below hosts h.src h.prio low)

      got-here : length (lane_at (after Whole) k).got ≡ length l.got + 1
      got-here = ap (λ (z : LaneState). length z.got) (lane-new n (after Whole) k (lane_after l Whole (message_of h part)) refl inside) ∙ length-append l.got (ending l.coming (message_of h part) ∷ [])

      at : (port size prio : ℕ) (b : Bool) (o : Option PortState) → nat_eq h.dport port ≡ b → port_at n h.dport ≡ o → FreesAt S hosts n (after Whole) port size prio
      at port size prio false o e f =
          let other : port ≢ h.dport = (λ d. grind (arith, nat_tests)) in
          FreesAt.none_less (let same : having (after Whole) port size prio ≡ having n port size prio = ap (λ x. count_of (is_of size prio) (provided_in x)) (get_or-set_other n.ports h.dport port to None other) in omega (arith, same))
      at port size prio true None e f =
          let here : h.dport ≡ port = equal h.dport port e in
          FreesAt.none_less (let none : having n port size prio ≡ 0 = ap (λ i. having n i size prio) (sym here) ∙ ap (λ x. count_of (is_of size prio) (provided_in x)) f in omega (arith, none))
      at port size prio true (Some p) e f =
          let here : h.dport ≡ port = equal h.dport port e in
          subst (λ i. FreesAt S hosts n (after Whole) i size prio) here (by (port-frees h part size prio p (delivered p h part) (delivery p h part)))
        where
          before : having n h.dport size prio ≡ count_of (is_of size prio) p.provided
          before = ap (λ x. count_of (is_of size prio) (provided_in x)) f

          then_is : having (after Whole) h.dport size prio ≡ count_of (is_of size prio) (delivered p h part).provided
          then_is = ap (λ x. count_of (is_of size prio) (provided_in x)) (open-there n.ports h.dport p to f ∙ ap (option_map (λ x. delivered x h part)) f)

          by : PortFrees h size prio p (delivered p h part) → FreesAt S hosts n (after Whole) h.dport size prio
          by (none_gone few) = FreesAt.none_less (omega (arith, before, then_is, few))
          by (one_gone r t last of few) =
              let fit = token-fits p r size prio f t of next next in
              let less : having n h.dport size prio ≤ having (after Whole) h.dport size prio + 1 = omega (arith, before, then_is, few) in
              FreesAt.one_less h.src next.message low less
              (subst (λ q. slice_get (S h.src q) (length (lane_at n (lane_of h.src q)).got) ≡ Some next.message) (sym fit.0) next.there) fit.1
              (subst (λ q. length (lane_at (after Whole) (lane_of h.src q)).got ≡ length (lane_at n (lane_of h.src q)).got + 1) (sym fit.0) got-here)

-- all that is heard
pub heard-frees : (S : ℕ → ℕ → List Message) (host hosts : ℕ) (n : NodeState) → length n.lanes ≡ lane_count hosts → HasUntouched n → (wire : List ℕ) (m : NodeState)
    → ((body : List ℕ) (h : FrameHead) → decode_packet wire ≡ Ok (Gm, body) → decode body ≡ Ok (Frame h) → h.dst ≡ host → h.seq ≡ (lane_at n (frame_lane h)).taken → IsNextOf (S h.src h.prio) (lane_at n (frame_lane h)) h)
    → IsHeard host hosts n wire m → Frees S hosts n m
heard-frees S host hosts n long untouched wire m good (quietly e f) = frees-same S hosts n m (λ port. ap (λ ps. provided_in (get_or ps port None)) f)
heard-frees S host hosts n long untouched wire m good (of_frame body h e d mine low now) =
    let l : LaneState = lane_at n (frame_lane h) in
    let fit : Bool = port_takes (port_at n h.dport) h in
    let last : Bool = is_last h.total h.offset in
    subst (Frees S hosts n) (sym now)
    (frame-frees S n hosts long untouched h (part_in body) low (frame_took n h) (part-took l.taken h.seq fit last)
    (λ t. good body h e d mine (whole-took l.taken h.seq fit last t).0))
heard-frees S host hosts n long untouched wire m good (of_ack body a e d mine low now) =
    let v : NodeState = with_lane n (ack_lane a) (lane_acknowledged (lane_at n (ack_lane a)) a.next) in
    let gone : List Ticket = tickets_finished (lane_at n (ack_lane a)) a.next in
    subst (Frees S hosts n) (sym now) (frees-same S hosts n (all_finished v gone) (λ port. all-finished-provided v gone port))

-- an item is sent
pub sending-frees : (S : ℕ → ℕ → List Message) (hosts : ℕ) (n : NodeState) (out : Outgoing) → Frees S hosts n (after_sending n out)
unfolding after_sending
sending-frees S hosts n (Probe walk looped) = frees-same S hosts n (record n { staged = None }) (λ port. refl)
sending-frees S hosts n (TablePart part by) = frees-same S hosts n (record n { staged = None }) (λ port. refl)
sending-frees S hosts n (Reply r) = frees-same S hosts n (record n { reply = None }) (λ port. refl)
sending-frees S hosts n (PartAnswer a) = frees-same S hosts n (record n { part_ack = None }) (λ port. refl)
sending-frees S hosts n (FrameAnswer lane next by) = frees-same S hosts n (with_lane n lane (lane_answered (lane_at n lane))) (λ port. refl)
sending-frees S hosts n (Fragment lane head part by) = frees-same S hosts n (with_lane n lane (lane_sent_one (lane_at n lane))) (λ port. refl)
