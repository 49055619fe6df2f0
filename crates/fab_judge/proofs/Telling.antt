-- What a line tells the ledgers, and when it is right.
use Rattle.std.proofs.Common.{◌≡◌, ℕ, Bool, true, false, List, [], ◌∷◌, ◌++◌, map, length, Some, None, refl, sym, ap, ◌∙◌, subst, true≢false}
use Rattle.std.specs.Prelude.{◌↔◌}
use Rattle.std.specs.List.{AllByRecursion}
use Rattle.std.proofs.lemmas.List.{append-nil, append_assoc}
use Rattle.port_ledgers.specs.declared.lane.Lane.{Lane}
use Rattle.port_ledgers.specs.declared.lane.PortName.{PortName}
use Rattle.port_ledgers.specs.declared.lane.SentMessage.{SentMessage}
use Rattle.port_ledgers.specs.Told.{Told, Accepted as ToldAccepted, Received as ToldReceived, sent_by, received_by, sent_told, received_told, sent_message, on_lane, AreInOrder}
use Rattle.port_ledgers.specs.Waiting.{AreWaiting, waiting}
use Rattle.port_ledgers.specs.Held.{AreHeld, AreTokensRight}
use Rattle.run_defs.specs.declared.command.Command.{Command}
use Rattle.report_lines.specs.declared.line.ReportLine.{ReportLine}
use Rattle.report_lines.specs.declared.line.ReportLine.TheVariants.{Opened, Closed, Provided, Accepted, Returned, Received, Tokens}
use Rattle.report_lines.specs.declared.line.ReceivedLine.{ReceivedLine}
use Rattle.report_lines.specs.declared.line.TokensLine.{TokensLine}
use Rattle.answer_defs.specs.declared.why.Why.TheVariants.{Token as BadToken}
use Rattle.answer_defs.specs.Answer.{Alone, Answered, answered, told_in, told_by, told, received_as}
use Rattle.answer_defs.specs.Right.{GivesLength, PlacesAreTrue, MessagesAreTrue, TokensAreTrue}
use Rattle.fab_judge.specs.Ledgers.{LedgersState, AreLedgersOf, JudgesLine, IsRightLine, token_unless}

-- ---- messages

-- what waits leaves the messages in order
pub in-order : (past : List Told) (q : List (Lane × List SentMessage)) → AreWaiting past q → AreInOrder past
in-order past q w = record { each = λ k. record { rest = map (sent_message k) (waiting q k); both = w.each k } }

-- a line of no message leaves what waits
pub silent-waits : (past : List Told) (q : List (Lane × List SentMessage)) (x : Told) → ((k : Lane) → sent_by k x ≡ []) → ((k : Lane) → received_by k x ≡ []) → AreWaiting past q → AreWaiting (x ∷ past) q
silent-waits past q x s r w = record {
  each = λ k.
      ap (λ ms. sent_told k past ++ ms) (s k) ∙ append-nil (sent_told k past) ∙ w.each k
      ∙ ap (λ ms. ms ++ map (sent_message k) (waiting q k)) (sym (ap (λ ms. received_told k past ++ ms) (r k) ∙ append-nil (received_told k past)));
}

-- and the order
pub silent-in-order : (past : List Told) (q : List (Lane × List SentMessage)) (x : Told) → ((k : Lane) → sent_by k x ≡ []) → ((k : Lane) → received_by k x ≡ []) → AreWaiting past q → AreInOrder (x ∷ past)
silent-in-order past q x s r w = in-order (x ∷ past) q (silent-waits past q x s r w)

-- so does an accepted message leave the order
pub accepted-in-order : (past : List Told) (q : List (Lane × List SentMessage)) (l : Lane) (m : SentMessage) (token : ℕ) → AreWaiting past q → AreInOrder (ToldAccepted l m token ∷ past)
accepted-in-order past q l m token w = record {
  each = λ k.
      let R = received_told k past in
      let W = map (sent_message k) (waiting q k) in
      let X = on_lane k l (sent_message l m) in
      record {
        rest = W ++ X;
        both = ap (λ ms. ms ++ X) (w.each k) ∙ append_assoc R W X ∙ ap (λ ms. ms ++ (W ++ X)) (sym (append-nil R));
      };
}

-- ---- an answer that tells nothing

pub untold : (before : List Answered) (t : Answered) (p : LedgersState) → told_in t.command t.answer ≡ [] → AreLedgersOf before p → AreLedgersOf (t ∷ before) p
untold before t p e h = record {
  waiting = subst (λ ts. AreWaiting (ts ++ told before) p.messages) (sym e) h.waiting;
  held = subst (λ ts. AreHeld (ts ++ told before) p.tokens) (sym e) h.held;
}

pub messages-stay : (before : List Answered) (t : Answered) (p : LedgersState) → told_in t.command t.answer ≡ [] → AreLedgersOf before p → AreInOrder (told (t ∷ before))
messages-stay before t p e h = subst (λ ts. AreInOrder (ts ++ told before)) (sym e) (in-order (told before) p.messages h.waiting)

pub untold-calls : (before : List Answered) (t : Answered) → told_in t.command t.answer ≡ [] → AllByRecursion (AreTokensRight (told before)) (told_in t.command t.answer)
untold-calls before t e = subst (AllByRecursion (AreTokensRight (told before))) (sym e) tt

-- a line that tells nothing is right
pub untold-judged : (before : List Answered) (c : Command) (l : ReportLine) (p : LedgersState) → told_by c l ≡ [] → GivesLength (Alone l) → PlacesAreTrue (told before) (Alone l) → AreLedgersOf before p
    → JudgesLine before (answered c (Alone l)) None p
untold-judged before c l p e length places h =
    let t : Answered = answered c (Alone l) in (
      record { in_order = messages-stay before t p e h; lengths = length },
      record { calls = untold-calls before t e; places = places },
      untold before t p e h,
    )

-- a line that names neither tokens nor a message
pub record IsSilent (c : Command) (l : ReportLine) : Type 0 where
  pub untold : told_by c l ≡ []
  pub lengths : GivesLength (Alone l)
  pub places : (past : List Told) → PlacesAreTrue past (Alone l)

pub silent : (c : Command) (l : ReportLine) → ((a : PortName) → l ≡ Opened a → ⊥) → ((a : PortName) (count : ℕ) → l ≡ Closed a count → ⊥) → ((a : PortName) (token : ℕ) → l ≡ Provided a token → ⊥)
    → ((a : PortName) (token : ℕ) → l ≡ Accepted a token → ⊥) → ((a : PortName) (token : ℕ) → l ≡ Returned a token → ⊥) → ((r : ReceivedLine) → l ≡ Received r → ⊥) → ((r : TokensLine) → l ≡ Tokens r → ⊥) → IsSilent c l
silent c (Opened a) o s p t b r w = absurd (o a refl)
silent c (Closed a count) o s p t b r w = absurd (s a count refl)
silent c (Provided a token) o s p t b r w = absurd (p a token refl)
silent c (Accepted a token) o s p t b r w = absurd (t a token refl)
silent c (Returned a token) o s p t b r w = absurd (b a token refl)
silent c (Received l) o s p t b r w = absurd (r l refl)
silent c (Tokens l) o s p t b r w = absurd (w l refl)
silent c _ o s p t b r w = record { untold = refl; lengths = tt; places = λ past. tt }

-- so it is right
pub silent-judged : (before : List Answered) (c : Command) (l : ReportLine) (p : LedgersState) → IsSilent c l → AreLedgersOf before p → JudgesLine before (answered c (Alone l)) None p
silent-judged before c l p s h = untold-judged before c l p s.untold s.lengths (s.places (told before)) h

-- ---- a line that tells one thing

-- its tokens are right exactly where those of the thing are
one-right : (before : List Answered) (c : Command) (l : ReportLine) (x : Told) → told_by c l ≡ x ∷ [] → PlacesAreTrue (told before) (Alone l) → AreTokensRight (told before) x → TokensAreTrue before (answered c (Alone l))
one-right before c l x e places right = record { calls = subst (AllByRecursion (AreTokensRight (told before))) (sym e) (right, tt); places = places }

right-one : (before : List Answered) (c : Command) (l : ReportLine) (x : Told) → told_by c l ≡ x ∷ [] → TokensAreTrue before (answered c (Alone l)) → AreTokensRight (told before) x
right-one before c l x e t = (subst (AllByRecursion (AreTokensRight (told before))) e t.calls).0

-- right in all, and kept
pub one-judged : (before : List Answered) (c : Command) (l : ReportLine) (x : Told) (now : LedgersState) → told_by c l ≡ x ∷ [] → GivesLength (Alone l) → PlacesAreTrue (told before) (Alone l)
    → AreTokensRight (told before) x → AreWaiting (x ∷ told before) now.messages → AreHeld (x ∷ told before) now.tokens → JudgesLine before (answered c (Alone l)) None now
one-judged before c l x now e length places right w h = (
  record { in_order = subst (λ ts. AreInOrder (ts ++ told before)) (sym e) (in-order (x ∷ told before) now.messages w); lengths = length },
  one-right before c l x e places right,
  record {
    waiting = subst (λ ts. AreWaiting (ts ++ told before) now.messages) (sym e) w;
    held = subst (λ ts. AreHeld (ts ++ told before) now.tokens) (sym e) h;
  },
)

-- right in all
pub one-line-right : (before : List Answered) (c : Command) (l : ReportLine) (x : Told) → told_by c l ≡ x ∷ [] → GivesLength (Alone l) → PlacesAreTrue (told before) (Alone l)
    → AreInOrder (x ∷ told before) → AreTokensRight (told before) x → IsRightLine before (answered c (Alone l))
one-line-right before c l x e length places order right =
    (record { in_order = subst (λ ts. AreInOrder (ts ++ told before)) (sym e) order; lengths = length }, one-right before c l x e places right)

-- its token alone isn't right
pub one-token : (before : List Answered) (c : Command) (l : ReportLine) (x : Told) (now : LedgersState) → told_by c l ≡ x ∷ [] → GivesLength (Alone l)
    → AreInOrder (x ∷ told before) → (AreTokensRight (told before) x → ⊥) → JudgesLine before (answered c (Alone l)) (Some BadToken) now
one-token before c l x now e length order wrong =
    (record { in_order = subst (λ ts. AreInOrder (ts ++ told before)) (sym e) order; lengths = length }, λ t. wrong (right-one before c l x e t))

-- by a test of its token
pub tested : (before : List Answered) (c : Command) (l : ReportLine) (x : Told) (is : Bool) (now : LedgersState) → told_by c l ≡ x ∷ [] → GivesLength (Alone l) → PlacesAreTrue (told before) (Alone l)
    → AreInOrder (x ∷ told before) → (is ≡ true) ↔ AreTokensRight (told before) x → (is ≡ true → AreWaiting (x ∷ told before) now.messages) → (is ≡ true → AreHeld (x ∷ told before) now.tokens)
    → JudgesLine before (answered c (Alone l)) (token_unless is) now
tested before c l x true now e length places order right w h = one-judged before c l x now e length places (right.0 refl) (w refl) (h refl)
tested before c l x false now e length places order right w h = one-token before c l x now e length order (λ t. absurd (true≢false (sym (right.1 t))))

-- the same of a thing that is no message
pub token-tested : (before : List Answered) (c : Command) (l : ReportLine) (x : Told) (is : Bool) (old now : LedgersState) → told_by c l ≡ x ∷ [] → GivesLength (Alone l) → PlacesAreTrue (told before) (Alone l)
    → ((k : Lane) → sent_by k x ≡ []) → ((k : Lane) → received_by k x ≡ []) → now.messages ≡ old.messages → AreLedgersOf before old
    → (is ≡ true) ↔ AreTokensRight (told before) x → (is ≡ true → AreHeld (x ∷ told before) now.tokens) → JudgesLine before (answered c (Alone l)) (token_unless is) now
token-tested before c l x is old now e length places s r same held right h =
    let w : AreWaiting (x ∷ told before) now.messages = silent-waits (told before) now.messages x s r (subst (AreWaiting (told before)) (sym same) held.waiting) in
    tested before c l x is now e length places (in-order (x ∷ told before) now.messages w) right (λ y. w) h

-- an accepted message whose token isn't right
pub accepted-token : (before : List Answered) (c : Command) (a : PortName) (token : ℕ) (l : Lane) (m : SentMessage) (old now : LedgersState) → told_by c (Accepted a token) ≡ ToldAccepted l m token ∷ [] → AreLedgersOf before old
    → (AreTokensRight (told before) (ToldAccepted l m token) → ⊥) → JudgesLine before (answered c (Alone (Accepted a token))) (Some BadToken) now
accepted-token before c a token l m old now e h wrong =
    one-token before c (Accepted a token) (ToldAccepted l m token) now e tt (accepted-in-order (told before) old.messages l m token h.waiting) wrong

-- a line of places, by a test of them
pub placed-tested : (before : List Answered) (c : Command) (l : TokensLine) (is : Bool) (p : LedgersState) → (is ≡ true) ↔ PlacesAreTrue (told before) (Alone (Tokens l)) → AreLedgersOf before p
    → JudgesLine before (answered c (Alone (Tokens l))) (token_unless is) p
placed-tested before c l true p right h = untold-judged before c (Tokens l) p refl tt (right.0 refl) h
placed-tested before c l false p right h = (
  record { in_order = messages-stay before (answered c (Alone (Tokens l))) p refl h; lengths = tt },
  λ t. absurd (true≢false (sym (right.1 t.places))),
)

-- what a received line tells, by its lane and its bytes
pub received-is : (l : ReceivedLine) (lane : Lane) (body : List ℕ) → lane ≡ record { from = l.from; to = l.port.host; port = l.port.port; prio = l.prio } → body ≡ l.body
    → received_as l ∷ [] ≡ ToldReceived lane l.sport body l.token ∷ []
received-is l lane body e f = ap (λ b. ToldReceived (record { from = l.from; to = l.port.host; port = l.port.port; prio = l.prio }) l.sport b l.token ∷ []) (sym f) ∙ ap (λ k. ToldReceived k l.sport body l.token ∷ []) (sym e)

-- a message that isn't the next
pub not-next : (before : List Answered) (c : Command) (l : ReceivedLine) (x : Told) (is : Bool) → received_as l ∷ [] ≡ x ∷ [] → (is ≡ true) ↔ AreInOrder (x ∷ told before) → is ≡ false → MessagesAreTrue before (answered c (Alone (Received l))) → ⊥
not-next before c l x is e right wrong m = true≢false (sym (right.1 (subst (λ ts. AreInOrder (ts ++ told before)) e m.in_order)) ∙ wrong)
