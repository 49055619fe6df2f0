-- The bytes of a fragment that is due stand in the buffer of its message's send.
use Rattle.std.proofs.Common.{◌≡◌, ◌≤◌, ◌+◌, ◌-◌, ◌++◌, ◌&&◌, ℕ, Bool, true, false, nat_lt, min, List, length, take, drop, Option, Some, None, option_map, if◌then◌else◌, refl, sym, ap, ◌∙◌, subst, arith, length-append}
use Rattle.std.specs.Prelude.{slice_get, option_and_then}
use Rattle.std.proofs.lemmas.List.{length-drop, drop-append-le, take-append-le}
use Rattle.std.proofs.lemmas.Option.{same_Some, none-some}
use Rattle.gm_defs.specs.declared.frame.FrameHead.{FrameHead}
use Rattle.gm_defs.specs.declared.frame.ConnectionKey.{ConnectionKey}
use Rattle.gm_defs.specs.declared.message.Message.{Message}
use Rattle.gm_defs.specs.Body.{piece}
use Rattle.gm_defs.specs.Fragment.{Fragment, fragments, whole_below, head_of, frame_of}
use Rattle.gm_defs.specs.Connection.{SenderState, IsSender, window, due}
use Rattle.gm_defs.specs.Laws.{ComesNext}
use Rattle.gm_defs.proofs.Numbers.{next-fragment, part-of, take-there, offset-within, below-up}
use Rattle.world_defs.specs.Lane.{LaneState, Ticket}
use Rattle.world_defs.specs.Node.{NodeState, lane_at, sends_on, due_frame}
use Rattle.world_defs.specs.Sound.{IsPrefix}
use Rattle.ticket_laws.specs.Tickets.{IsTicketOf, AreTicketsOf}
use Rattle.ticket_laws.specs.Host.{send_under, tickets_of, unfinished_of, Begins, IsInBuffer}
use Rattle.ticket_laws.proofs.Lists.{drop-get}
use Rattle.ticket_laws.proofs.Matching.{ticket-at}

-- the bytes of a fragment, as its head says them
part-by-head : (f : Fragment) (ms : List Message) (n : ℕ) → slice_get (fragments ms) n ≡ Some f → f.part ≡ take (length f.part) (drop f.offset f.message.body)
part-by-head f ms n e =
    let c : ComesNext ms n f = next-fragment ms n f e in
    let is = part-of ms n f e in
    let left = length-drop f.offset f.message.body in
    let long : length f.part ≡ min piece (length (drop f.offset f.message.body)) = c.long ∙ ap (min piece) (sym left) in
    is ∙ sym (take-there piece (drop f.offset f.message.body)) ∙ ap (λ k. take k (drop f.offset f.message.body)) (sym long)

-- what is due isn't acknowledged
due-above : (s : SenderState) (seq : ℕ) → IsSender s → due s ≡ Some seq → s.base ≤ seq
due-above s seq is e = by (nat_lt s.cursor s.next && nat_lt s.cursor (s.base + window)) e
  where
    by : (b : Bool) → (if b then Some s.cursor else None) ≡ Some seq → s.base ≤ seq
    by true d = let same : s.cursor ≡ seq = same_Some s.cursor seq d in let low = is.base_below in omega (arith, same, low)
    by false d = absurd (none-some seq d)

module _ (host : ℕ) (n : NodeState) (lane : ℕ) (sender : IsSender (lane_at n lane).sender) (of_messages : AreTicketsOf Begins (send_under n.ports) (tickets_of n.lanes lane) (unfinished_of n.lanes lane)) where
  abbrev state : LaneState
  state = lane_at n lane

  abbrev key : ConnectionKey
  key = sends_on host lane

  of-fragment : (seq : ℕ) (f : Fragment) (t : Ticket) → due state.sender ≡ Some seq → slice_get (fragments state.sent) seq ≡ Some f
      → slice_get state.pending (whole_below state.sent seq - whole_below state.sent state.sender.base) ≡ Some t → IsInBuffer host n lane (head_of key seq f) t
  of-fragment seq f t d e here =
      let c : ComesNext state.sent seq f = next-fragment state.sent seq f e in
      let low = due-above state.sender seq sender d in
      let w : ℕ = whole_below state.sent seq in
      let b : ℕ = whole_below state.sent state.sender.base in
      let up : b ≤ w = below-up state.sent state.sender.base seq low in
      let place : b + (w - b) ≡ w = omega (arith, up) in
      let message = drop-get b state.sent (w - b) f.message (ap (slice_get state.sent) place ∙ c.there) in
      let of : IsTicketOf Begins (send_under n.ports) t f.message = ticket-at Begins (send_under n.ports) state.pending (drop b state.sent) (w - b) t f.message of_messages here message in
      let body : List ℕ = f.message.body in
      let front : IsPrefix body of.buffer = of.bytes in
      let within = offset-within (length body) f.offset c.begins in
      let long = c.long in
      let end : f.offset + length f.part ≤ length body = omega (arith, within, long) in
      let all : length of.buffer ≡ length (body ++ front.rest) = ap length front.both in
      let bytes : take (length f.part) (drop f.offset of.buffer) ≡ f.part =
      ap (λ x. take (length f.part) (drop f.offset x)) front.both
      ∙ ap (take (length f.part)) (drop-append-le f.offset body front.rest within)
      ∙ take-append-le (length f.part) (drop f.offset body) front.rest (let left = length-drop f.offset body in omega (arith, left, end))
      ∙ sym (part-by-head f state.sent seq e) in
      record {
        send = record { token = t.token; buffer = of.buffer };
        there = of.there;
        port = of.port;
        inside = let more = length-append body front.rest in omega (arith, end, all, more);
        frame = ap (option_and_then (λ seq. frame_of key state.sent seq)) d ∙ ap (option_map (λ g. (head_of key seq g, g.part))) e ∙ ap (λ x. Some (head_of key seq f, x)) (sym bytes);
        long = ap length bytes;
      }

  pub part-in-buffer : (h : FrameHead) (t : Ticket) → option_map (λ (f : FrameHead × List ℕ). f.0) (due_frame host n lane) ≡ Some h
      → slice_get (lane_at n lane).pending (whole_below (lane_at n lane).sent h.seq - whole_below (lane_at n lane).sent (lane_at n lane).sender.base) ≡ Some t → IsInBuffer host n lane h t
  part-in-buffer h t shown here = by (due state.sender) refl shown
    where
      at : (seq : ℕ) → due state.sender ≡ Some seq → (o : Option Fragment) → slice_get (fragments state.sent) seq ≡ o → option_map (λ (f : FrameHead × List ℕ). f.0) (option_map (λ g. (head_of key seq g, g.part)) o) ≡ Some h → IsInBuffer host n lane h t
      at seq d None e s = absurd (none-some h s)
      at seq d (Some f) e s =
          let same : head_of key seq f ≡ h = same_Some (head_of key seq f) h s in
          subst (λ x. IsInBuffer host n lane x t) same
          (of-fragment seq f t d e (ap (λ x. slice_get state.pending (whole_below state.sent x.seq - whole_below state.sent state.sender.base)) same ∙ here))

      by : (o : Option ℕ) → due state.sender ≡ o → option_map (λ (f : FrameHead × List ℕ). f.0) (option_and_then (λ seq. frame_of key state.sent seq) o) ≡ Some h → IsInBuffer host n lane h t
      by None d s = absurd (none-some h s)
      by (Some seq) d s = at seq d (slice_get (fragments state.sent) seq) refl s
