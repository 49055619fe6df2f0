-- What each change of a lane keeps: the messages sent only grow, and what was got stays a prefix of them.
use Rattle.std.proofs.Common.{◌≡◌, ◌+◌, ◌≤◌, ℕ, Bool, true, false, List, [], ◌∷◌, ◌++◌, length, nat_eq, Some, refl, sym, ap, ◌∙◌, subst, arith, append_assoc, if◌then◌else◌}
use Rattle.std.specs.Prelude.{slice_get}
use Rattle.std.specs.List.{AllByRecursion}
use Rattle.std.proofs.lemmas.Bool.Decides.{nat_tests}
use Rattle.std.proofs.lemmas.List.{append-nil, length-append}
use Rattle.net_defs.proofs.Distinct.{all-push}
use Rattle.std.proofs.lemmas.Option.{same_Some, slice_get_within}
use Rattle.gm_defs.specs.declared.message.Message.{Message}
use Rattle.gm_defs.specs.declared.frame.FrameHead.{FrameHead}
use Rattle.gm_defs.specs.declared.frame.ConnectionKey.{ConnectionKey}
use Rattle.gm_defs.specs.declared.token.Took.TheVariants.{NotNext, NoToken, Part, Whole}
use Rattle.gm_defs.specs.Body.{message_limit, number_limit, is_last}
use Rattle.gm_defs.specs.Fragment.{Fragment as FragmentOf, fragments, head_of, frame_of, piece_count, whole_below, begun_below}
use Rattle.gm_defs.specs.Laws.{ComesNext}
use Rattle.gm_defs.specs.Connection.{SenderState, is_spent, is_taken, taken_as, took}
use Rattle.gm_defs.proofs.Choices.{map-some}
use Rattle.gm_defs.proofs.Numbers.{fragments-append, length-fragments, next-fragment, more-below}
use Rattle.world_defs.specs.Sound.{IsPrefix}
use Rattle.world_defs.specs.Lane.{LaneState, Ticket, ending, with_message, lane_acknowledged, lane_expired, lane_sent_one, lane_answered, lane_after}
use Rattle.world_defs.specs.Node.{prio_place}
use Rattle.world_defs.specs.Hearing.{message_of}

-- each message sent is short enough and of the lane's priority, and its fragments have the numbers up to the next
pub record IsNumbered (prio : ℕ) (p : LaneState) : Type 0 where
  pub numbered : length (fragments p.sent) ≡ p.sender.next
  pub few : length (fragments p.sent) ≤ number_limit
  pub short : AllByRecursion (λ m. length m.body ≤ message_limit) p.sent
  pub of_prio : AllByRecursion (λ m. prio_place m.prio ≡ prio) p.sent

-- What was taken is fragments that were sent: what was got is the messages wholly below their number, and what is coming is what is begun there.
pub record InOrder (from : List Message) (p : LaneState) : Type 0 where
  pub front : IsPrefix p.got from
  pub count : length p.got ≡ whole_below from p.taken
  pub coming : p.coming ≡ begun_below from p.taken
  pub within : p.taken ≤ length (fragments from)

-- what a change of a lane of a priority keeps, where its peer has sent these messages by it
pub record LaneNext (from : List Message) (prio : ℕ) (p q : LaneState) : Type 0 where
  pub grows : IsPrefix p.sent q.sent
  pub numbers : IsNumbered prio p → IsNumbered prio q
  pub order : InOrder from p → InOrder from q

pub front-same : {A : Type 0} (xs : List A) → IsPrefix xs xs
front-same xs = record { rest = []; both = sym (append-nil xs) }

pub front-then : {A : Type 0} (xs ys zs : List A) → IsPrefix xs ys → IsPrefix ys zs → IsPrefix xs zs
front-then xs ys zs f g = record { rest = f.rest ++ g.rest; both = g.both ∙ ap (λ l. l ++ g.rest) f.both ∙ append_assoc xs f.rest g.rest }

pub lane-same : (from : List Message) (prio : ℕ) (p : LaneState) → LaneNext from prio p p
lane-same from prio p = record { grows = front-same p.sent; numbers = λ i. i; order = λ i. i }

pub lane-then : (from : List Message) (prio : ℕ) (p q r : LaneState) → LaneNext from prio p q → LaneNext from prio q r → LaneNext from prio p r
lane-then from prio p q r f g = record { grows = front-then p.sent q.sent r.sent f.grows g.grows; numbers = λ i. g.numbers (f.numbers i); order = λ i. g.order (f.order i) }

-- more is sent
pub order-more : (xs ys : List Message) (p : LaneState) → IsPrefix xs ys → InOrder xs p → InOrder ys p
order-more xs ys p f i =
    let more = more-below xs f.rest p.taken i.within in
    let long = ap length (ap fragments f.both ∙ fragments-append xs f.rest) ∙ length-append (fragments xs) (fragments f.rest) in
    let within = i.within in
    record {
      front = front-then p.got xs ys i.front f;
      count = i.count ∙ sym more.0 ∙ ap (λ l. whole_below l p.taken) (sym f.both);
      coming = i.coming ∙ sym more.1 ∙ ap (λ l. begun_below l p.taken) (sym f.both);
      within = omega (arith, within, long);
    }

-- changes of the sender's numbers and of what is owed
quiet : (from : List Message) (prio : ℕ) (p q : LaneState) → q.sent ≡ p.sent → q.sender.next ≡ p.sender.next → q.got ≡ p.got → q.coming ≡ p.coming → q.taken ≡ p.taken → LaneNext from prio p q
quiet from prio p q s n g b t = record {
  grows = subst (IsPrefix p.sent) (sym s) (front-same p.sent);
  numbers = λ i. record {
    numbered = ap (λ l. length (fragments l)) s ∙ i.numbered ∙ sym n;
    few = subst (λ l. length (fragments l) ≤ number_limit) (sym s) i.few;
    short = subst (AllByRecursion (λ m. length m.body ≤ message_limit)) (sym s) i.short;
    of_prio = subst (AllByRecursion (λ m. prio_place m.prio ≡ prio)) (sym s) i.of_prio;
  };
  order = λ i. record {
    front = subst (λ l. IsPrefix l from) (sym g) i.front;
    count = ap length g ∙ i.count ∙ ap (whole_below from) (sym t);
    coming = b ∙ i.coming ∙ ap (begun_below from) (sym t);
    within = subst (λ k. k ≤ length (fragments from)) (sym t) i.within;
  };
}

pub sent_one-next : (from : List Message) (prio : ℕ) (p : LaneState) → LaneNext from prio p (lane_sent_one p)
sent_one-next from prio p = quiet from prio p (lane_sent_one p) refl refl refl refl refl

pub answered-next : (from : List Message) (prio : ℕ) (p : LaneState) → LaneNext from prio p (lane_answered p)
answered-next from prio p = quiet from prio p (lane_answered p) refl refl refl refl refl

pub expired-next : (from : List Message) (prio : ℕ) (p : LaneState) → LaneNext from prio p (lane_expired p)
expired-next from prio p = quiet from prio p (lane_expired p) refl refl refl refl refl

acknowledged-same : (s t : SenderState) (b : Bool) → t.next ≡ s.next → (if b then t else s).next ≡ s.next
acknowledged-same s t true e = e
acknowledged-same s t false e = refl

pub acknowledged-next : (from : List Message) (prio : ℕ) (p : LaneState) (n : ℕ) → LaneNext from prio p (lane_acknowledged p n)
acknowledged-next from prio p n = quiet from prio p (lane_acknowledged p n) refl (acknowledged-same p.sender _ (is_taken p.sender n) refl) refl refl refl

-- a message more
not-spent : (s : SenderState) (k : ℕ) → is_spent s k ≡ false → s.next + k ≤ number_limit
not-spent s k e = grind (arith, nat_tests)

pub message-next : (from : List Message) (prio : ℕ) (p : LaneState) (m : Message) (t : Ticket) → length m.body ≤ message_limit → prio_place m.prio ≡ prio → is_spent p.sender (piece_count (length m.body)) ≡ false → LaneNext from prio p (with_message p m t)
message-next from prio p m t h u e =
    let room = not-spent p.sender (piece_count (length m.body)) e in
    let long : length (fragments (p.sent ++ m ∷ [])) ≡ length (fragments p.sent) + length (fragments (m ∷ [])) = ap length (fragments-append p.sent (m ∷ [])) ∙ length-append (fragments p.sent) (fragments (m ∷ [])) in
    let one : length (fragments (m ∷ [])) ≡ piece_count (length m.body) + 0 = length-fragments m [] in
    record {
      grows = record { rest = m ∷ []; both = refl };
      numbers = λ i. let j = i.numbered in record { numbered = omega (arith, one, long, j); few = omega (arith, one, long, j, room); short = all-push (λ m. length m.body ≤ message_limit) p.sent m i.short h; of_prio = all-push (λ m. prio_place m.prio ≡ prio) p.sent m i.of_prio u };
      order = λ i. record { front = i.front; count = i.count; coming = i.coming; within = i.within };
    }

-- what a frame carries: the fragment of a number
pub record Carries (c : ConnectionKey) (sent : List Message) (seq : ℕ) (f : FrameHead × List ℕ) : Type 0 where
  pub fragment : FragmentOf
  pub there : slice_get (fragments sent) seq ≡ Some fragment
  pub is : f ≡ (head_of c seq fragment, fragment.part)

pub frame-fragment : (c : ConnectionKey) (sent : List Message) (seq : ℕ) (f : FrameHead × List ℕ) → frame_of c sent seq ≡ Some f → Carries c sent seq f
frame-fragment c sent seq f e =
    let m = map-some (λ f. (head_of c seq f, f.part)) (slice_get (fragments sent) seq) f e in
    record { fragment = m.0; there = m.1.0; is = sym m.1.1 }

-- the message after a prefix makes it longer
front-more : {A : Type 0} (got rest : List A) (m : A) → slice_get (got ++ rest) (length got) ≡ Some m → IsPrefix (got ++ m ∷ []) (got ++ rest)
front-more [] [] m e = cc
front-more [] (x ∷ rest) m e = record { rest = rest; both = ap (λ y. y ∷ rest) (same_Some x m e) }
front-more (g ∷ got) rest m e = let f = front-more got rest m e in record { rest = f.rest; both = ap (λ l. g ∷ l) f.both }

-- a frame came: its message as the fragment has it, with the fragment's bytes
abbrev pub partly : FragmentOf → Message
partly f = record f.message { body = f.part }

whole-message : (coming : List ℕ) (f : FragmentOf) → coming ++ f.part ≡ f.message.body → ending coming (partly f) ≡ f.message
whole-message coming f e = ap (λ b. record f.message { body = b }) e

module _ (from : List Message) (prio : ℕ) (p : LaneState) (f : FragmentOf) (there : slice_get (fragments from) p.taken ≡ Some f) where
  comes : ComesNext from p.taken f
  comes = next-fragment from p.taken f there

  one-more : p.taken + 1 ≤ length (fragments from)
  one-more = let low = slice_get_within (fragments from) p.taken f there in omega (arith, low)

  pub whole-next : is_last (length f.message.body) f.offset ≡ true → LaneNext from prio p (lane_after p Whole (partly f))
  whole-next last = record {
    grows = front-same p.sent;
    numbers = λ i. record { numbered = i.numbered; few = i.few; short = i.short; of_prio = i.of_prio };
    order = λ i.
        let end = comes.last last in
        let m : Message = ending p.coming (partly f) in
        let same : m ≡ f.message = whole-message p.coming f (ap (λ b. b ++ f.part) i.coming ∙ end.1.1) in
        let e : slice_get (p.got ++ i.front.rest) (length p.got) ≡ Some m = ap (λ l. slice_get l (length p.got)) (sym i.front.both) ∙ ap (slice_get from) i.count ∙ comes.there ∙ ap Some (sym same) in
        let long : length (p.got ++ m ∷ []) ≡ length p.got + 1 = length-append p.got (m ∷ []) in
        let count = i.count in
        let next = end.0 in
        record {
          front = subst (IsPrefix (p.got ++ m ∷ [])) (sym i.front.both) (front-more p.got i.front.rest m e);
          count = omega (arith, long, count, next);
          coming = sym end.1.0;
          within = one-more;
        };
  }

  pub part-next : is_last (length f.message.body) f.offset ≡ false → LaneNext from prio p (lane_after p Part (partly f))
  part-next earlier = record {
    grows = front-same p.sent;
    numbers = λ i. record { numbered = i.numbered; few = i.few; short = i.short; of_prio = i.of_prio };
    order = λ i.
        let more = comes.earlier earlier in
        record { front = i.front; count = i.count ∙ sym more.0; coming = ap (λ b. b ++ f.part) i.coming ∙ sym more.1; within = one-more };
  }

  taken-next : (last : Bool) → is_last (length f.message.body) f.offset ≡ last → LaneNext from prio p (lane_after p (taken_as last) (partly f))
  taken-next true e = whole-next e
  taken-next false e = part-next e

equal : (a b : ℕ) → nat_eq a b ≡ true → a ≡ b
equal a b e = grind (arith, nat_tests)

took-next : (from : List Message) (prio : ℕ) (p : LaneState) (seq : ℕ) (f : FragmentOf) (fits : Bool) → slice_get (fragments from) seq ≡ Some f → LaneNext from prio p (lane_after p (took p.taken seq fits (is_last (length f.message.body) f.offset)) (partly f))
took-next from prio p seq f fits e = by (nat_eq seq p.taken) fits refl
  where
    by : (a b : Bool) → nat_eq seq p.taken ≡ a → LaneNext from prio p (lane_after p (if a then if b then taken_as (is_last (length f.message.body) f.offset) else NoToken else NotNext) (partly f))
    by true true t = taken-next from prio p f (ap (slice_get (fragments from)) (sym (equal seq p.taken t)) ∙ e) (is_last (length f.message.body) f.offset) refl
    by true false t = quiet from prio p (lane_after p NoToken (partly f)) refl refl refl refl refl
    by false b t = quiet from prio p (lane_after p NotNext (partly f)) refl refl refl refl refl

pub frame-next : (from : List Message) (prio : ℕ) (k : ConnectionKey) (p : LaneState) (h : FrameHead) (part : List ℕ) (fits : Bool) → frame_of k from h.seq ≡ Some (h, part) → LaneNext from prio p (lane_after p (took p.taken h.seq fits (is_last h.total h.offset)) (message_of h part))
frame-next from prio k p h part fits e =
    let c : Carries k from h.seq (h, part) = frame-fragment k from h.seq (h, part) e in
    subst (λ x. LaneNext from prio p (lane_after p (took p.taken h.seq fits (is_last x.0.total x.0.offset)) (message_of x.0 x.1))) (sym c.is)
    (took-next from prio p h.seq c.fragment fits c.there)
